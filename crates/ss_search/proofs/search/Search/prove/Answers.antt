use Rattle.ss_core.specs.View.{classes}
use Rattle.ss_terms.proofs.Grown.{HasFormulas-grown, formulas_at-grown, IsGrown-then}
use Rattle.ss_terms.specs.Forms.{formula_at, formulas_at}
use Rattle.ss_search.proofs.Carried.{proved_or_memory}
use Rattle.ss_search.proofs.search.Search.prove.Goals as goal

pub refute-requires-clause-premises : goal.refute-requires-clause-premises
refute-requires-clause-premises c = HasFormulas-grown c.args.bank.now c.derive.new.bank c.derive.ensures.grown c.args.obligation.now.premises.now c.requires.premises

pub refute-requires-clause-formed : goal.refute-requires-clause-formed
refute-requires-clause-formed c = rw (formulas_at-grown c.args.bank.now c.derive.new.bank c.derive.ensures.grown c.args.obligation.now.premises.now c.requires.premises, c.derive.ensures.grown.same_formulas c.args.obligation.now.goal c.requires.goal) c.requires.formed

pub returns-in-Ok-None-clause-proved : goal.returns-in-Ok-None-clause-proved
returns-in-Ok-None-clause-proved c = rw (formulas_at-grown c.args.bank.now c.derive.new.bank c.derive.ensures.grown c.args.obligation.now.premises.now c.requires.premises, c.derive.ensures.grown.same_formulas c.args.obligation.now.goal c.requires.goal) at c.refute.ensures.proved

pub returns-in-Ok-None-clause-countered : goal.returns-in-Ok-None-clause-countered
returns-in-Ok-None-clause-countered c = rw (formulas_at-grown c.args.bank.now c.derive.new.bank c.derive.ensures.grown c.args.obligation.now.premises.now c.requires.premises, c.derive.ensures.grown.same_formulas c.args.obligation.now.goal c.requires.goal) at c.refute.ensures.countered

pub returns-in-Ok-None-clause-too_many : goal.returns-in-Ok-None-clause-too_many
returns-in-Ok-None-clause-too_many c = rw (formulas_at-grown c.args.bank.now c.derive.new.bank c.derive.ensures.grown c.args.obligation.now.premises.now c.requires.premises, c.derive.ensures.grown.same_formulas c.args.obligation.now.goal c.requires.goal) at c.refute.ensures.too_many

pub returns-in-Ok-None-clause-spent : goal.returns-in-Ok-None-clause-spent
returns-in-Ok-None-clause-spent c = rw (formulas_at-grown c.args.bank.now c.derive.new.bank c.derive.ensures.grown c.args.obligation.now.premises.now c.requires.premises, c.derive.ensures.grown.same_formulas c.args.obligation.now.goal c.requires.goal) at c.refute.ensures.spent

pub returns-in-Ok-None-clause-complete : goal.returns-in-Ok-None-clause-complete
returns-in-Ok-None-clause-complete c =
    let premises = formulas_at c.args.bank.now c.args.obligation.now.premises.now in
    let wanted = formula_at c.args.bank.now c.args.obligation.now.goal in
    proved_or_memory c.refute.result (classes c.args.program.now.classes) c.args.options.now premises wanted
    (returns-in-Ok-None-clause-countered c) (returns-in-Ok-None-clause-spent c) (returns-in-Ok-None-clause-too_many c)

pub returns-in-Ok-None-clause-grown : goal.returns-in-Ok-None-clause-grown
returns-in-Ok-None-clause-grown c = IsGrown-then c.args.bank.now c.derive.new.bank c.refute.new.bank c.derive.ensures.grown c.refute.ensures.grown
