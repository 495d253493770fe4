use Rattle.ss_core.specs.View.{classes}
use Rattle.ss_terms.proofs.Grown.{HasFormulas-grown, formulas_at-grown, IsGrown-then}
use Rattle.ss_terms.specs.Forms.{formula_at, formulas_at}
use Rattle.ss_search_procedure.proofs.GroundBegun.{ground_grown}
use Rattle.ss_search.proofs.refuting.find_model.Goals as goal

pub candidate_model-requires : goal.candidate_model-requires
candidate_model-requires c = rw c.deref.ensures.value c.requires.grounded.has_formulas

pub decide-requires-clause-premises : goal.decide-requires-clause-premises
decide-requires-clause-premises c = HasFormulas-grown c.args.bank.now c.candidate_model.new.bank c.candidate_model.ensures.grown c.args.obligation.now.premises.now c.requires.premises

pub decide-requires-clause-grounded : goal.decide-requires-clause-grounded
decide-requires-clause-grounded c =
    let premises = formulas_at c.args.bank.now c.args.obligation.now.premises.now in
    let wanted = formula_at c.args.bank.now c.args.obligation.now.goal in
    rw (formulas_at-grown c.args.bank.now c.candidate_model.new.bank c.candidate_model.ensures.grown c.args.obligation.now.premises.now c.requires.premises, c.candidate_model.ensures.grown.same_formulas c.args.obligation.now.goal c.requires.goal)
    (ground_grown (classes c.args.classes.now) premises wanted c.args.bank.now c.candidate_model.new.bank c.args.grounded.now c.candidate_model.ensures.grown c.requires.grounded)

pub returns-in-Ok-Some-clause-countered : goal.returns-in-Ok-Some-clause-countered
returns-in-Ok-Some-clause-countered c =
    rw (c.in-Ok-Some.field-0-is, c.deref.ensures.value) at (c.in-Ok-Some.ensures.refutes (classes c.args.classes.now) c.requires.bank)

pub returns-in-Ok-None-clause-proved : goal.returns-in-Ok-None-clause-proved
returns-in-Ok-None-clause-proved c =
    rw (formulas_at-grown c.args.bank.now c.candidate_model.new.bank c.candidate_model.ensures.grown c.args.obligation.now.premises.now c.requires.premises, c.candidate_model.ensures.grown.same_formulas c.args.obligation.now.goal c.requires.goal) at c.decide.ensures.proved

pub returns-in-Ok-None-clause-countered : goal.returns-in-Ok-None-clause-countered
returns-in-Ok-None-clause-countered c =
    rw (formulas_at-grown c.args.bank.now c.candidate_model.new.bank c.candidate_model.ensures.grown c.args.grounded.now.formulas.items c.requires.grounded.has_formulas) at c.decide.ensures.countered

pub returns-in-Ok-None-clause-spent : goal.returns-in-Ok-None-clause-spent
returns-in-Ok-None-clause-spent c =
    rw (formulas_at-grown c.args.bank.now c.candidate_model.new.bank c.candidate_model.ensures.grown c.args.grounded.now.formulas.items c.requires.grounded.has_formulas) at c.decide.ensures.spent

pub returns-in-Ok-None-clause-grown : goal.returns-in-Ok-None-clause-grown
returns-in-Ok-None-clause-grown c = IsGrown-then c.args.bank.now c.candidate_model.new.bank c.decide.new.bank c.candidate_model.ensures.grown c.decide.ensures.grown
