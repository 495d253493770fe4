use Rattle.ss_terms.proofs.Grown.{HasFormulas-grown, formulas_at-grown}
use Rattle.ss_search.proofs.search.Search.derive.Goals as goal

pub accepted-requires-clause-premises : goal.accepted-requires-clause-premises
accepted-requires-clause-premises c = HasFormulas-grown c.args.bank.now c.run_engine.new.bank c.run_engine.ensures.grown c.args.obligation.now.premises.now c.requires.premises

pub returns-in-Proved-clause-derives : goal.returns-in-Proved-clause-derives
returns-in-Proved-clause-derives c =
    rw (formulas_at-grown c.args.bank.now c.run_engine.new.bank c.run_engine.ensures.grown c.args.obligation.now.premises.now c.requires.premises, c.run_engine.ensures.grown.same_formulas c.args.obligation.now.goal c.requires.goal) at c.accepted.ensures.derives
