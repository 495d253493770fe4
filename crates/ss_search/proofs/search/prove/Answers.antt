use Rattle.ss_terms.proofs.Grown.{HasFormulas-grown, formulas_at-grown, IsGrown-then}
use Rattle.ss_search.proofs.search.prove.Goals as goal

pub prove-requires-clause-premises : goal.prove-requires-clause-premises
prove-requires-clause-premises c = HasFormulas-grown c.args.bank.now c.new.new.bank c.new.ensures c.args.obligation.now.premises.now c.requires.premises

pub prove-requires-clause-formed : goal.prove-requires-clause-formed
prove-requires-clause-formed c =
    rw (formulas_at-grown c.args.bank.now c.new.new.bank c.new.ensures c.args.obligation.now.premises.now c.requires.premises, c.new.ensures.same_formulas c.args.obligation.now.goal c.requires.goal) c.requires.formed

pub returns-in-Ok-clause-proved : goal.returns-in-Ok-clause-proved
returns-in-Ok-clause-proved c =
    rw (formulas_at-grown c.args.bank.now c.new.new.bank c.new.ensures c.args.obligation.now.premises.now c.requires.premises, c.new.ensures.same_formulas c.args.obligation.now.goal c.requires.goal) at c.prove.ensures.proved

pub returns-in-Ok-clause-countered : goal.returns-in-Ok-clause-countered
returns-in-Ok-clause-countered c =
    rw (formulas_at-grown c.args.bank.now c.new.new.bank c.new.ensures c.args.obligation.now.premises.now c.requires.premises, c.new.ensures.same_formulas c.args.obligation.now.goal c.requires.goal) at c.prove.ensures.countered

pub returns-in-Ok-clause-too_many : goal.returns-in-Ok-clause-too_many
returns-in-Ok-clause-too_many c =
    rw (formulas_at-grown c.args.bank.now c.new.new.bank c.new.ensures c.args.obligation.now.premises.now c.requires.premises, c.new.ensures.same_formulas c.args.obligation.now.goal c.requires.goal) at c.prove.ensures.too_many

pub returns-in-Ok-clause-spent : goal.returns-in-Ok-clause-spent
returns-in-Ok-clause-spent c =
    rw (formulas_at-grown c.args.bank.now c.new.new.bank c.new.ensures c.args.obligation.now.premises.now c.requires.premises, c.new.ensures.same_formulas c.args.obligation.now.goal c.requires.goal) at c.prove.ensures.spent

pub returns-in-Ok-clause-complete : goal.returns-in-Ok-clause-complete
returns-in-Ok-clause-complete c =
    rw (formulas_at-grown c.args.bank.now c.new.new.bank c.new.ensures c.args.obligation.now.premises.now c.requires.premises, c.new.ensures.same_formulas c.args.obligation.now.goal c.requires.goal) at c.prove.ensures.complete

pub returns-in-Ok-clause-grown : goal.returns-in-Ok-clause-grown
returns-in-Ok-clause-grown c = IsGrown-then c.args.bank.now c.new.new.bank c.prove.new.bank c.new.ensures c.prove.ensures.grown
