use Rattle.std.proofs.Common.{◌≡◌}
use Rattle.ss_core.specs.View.{classes}
use Rattle.ss_terms.proofs.Grown.{HasFormulas-grown, formulas_at-grown, IsGrown-then}
use Rattle.ss_terms.specs.Forms.{formula_at, formulas_at}
use Rattle.ss_logic_countermodels.specs.Refuting.{IsCountermodel}
use Rattle.ss_search_procedure_rules.specs.Closed.{AreEnough}
use Rattle.ss_search_answers.specs.Found.{IsRefutedBy, IsShort}
use Rattle.ss_search.proofs.Carried.{countered_with, spent_with}
use Rattle.ss_search.proofs.refuting.refute.Goals as goal

pub find_model-requires-clause-premises : goal.find_model-requires-clause-premises
find_model-requires-clause-premises c = HasFormulas-grown c.args.bank.now c.ground_with_origins.new.bank c.ground_with_origins.ensures.grown c.args.obligation.now.premises.now c.requires.premises

pub find_model-requires-clause-grounded : goal.find_model-requires-clause-grounded
find_model-requires-clause-grounded c =
    rw (formulas_at-grown c.args.bank.now c.ground_with_origins.new.bank c.ground_with_origins.ensures.grown c.args.obligation.now.premises.now c.requires.premises, c.ground_with_origins.ensures.grown.same_formulas c.args.obligation.now.goal c.requires.goal)
    (record {
      has_formulas = c.in-Ok.ensures.in_bank;
      grounded = record { has_choices = c.in-Ok.ensures.has_choices; come = c.in-Ok.ensures.origins; accepted = c.in-Ok.ensures.accepted };
      formed = c.requires.formed;
      invariants = c.requires.invariants;
    })

pub returns-in-Ok-clause-proved : goal.returns-in-Ok-clause-proved
returns-in-Ok-clause-proved c =
    rw (formulas_at-grown c.args.bank.now c.ground_with_origins.new.bank c.ground_with_origins.ensures.grown c.args.obligation.now.premises.now c.requires.premises, c.ground_with_origins.ensures.grown.same_formulas c.args.obligation.now.goal c.requires.goal) at c.find_model.ensures.proved

pub returns-in-Ok-clause-countered : goal.returns-in-Ok-clause-countered
returns-in-Ok-clause-countered c =
    let cs = classes c.args.program.now.classes in
    let premises = formulas_at c.args.bank.now c.args.obligation.now.premises.now in
    let wanted = formula_at c.args.bank.now c.args.obligation.now.goal in
    let fs = formulas_at c.ground_with_origins.new.bank c.in-Ok.grounded.formulas.items in
    countered_with c.find_model.result (IsCountermodel cs fs) (IsRefutedBy cs c.args.options.now premises wanted)
    (λ m refutes. record { formulas = fs; ground = c.in-Ok.ensures.exact; refutes = refutes })
    c.find_model.ensures.countered

pub returns-in-Ok-clause-spent : goal.returns-in-Ok-clause-spent
returns-in-Ok-clause-spent c =
    let cs = classes c.args.program.now.classes in
    let premises = formulas_at c.args.bank.now c.args.obligation.now.premises.now in
    let wanted = formula_at c.args.bank.now c.args.obligation.now.goal in
    let fs = formulas_at c.ground_with_origins.new.bank c.in-Ok.grounded.formulas.items in
    let p = c.args.options.now in
    spent_with c.find_model.result (λ n. (n ≡ p.splits) × (AreEnough cs fs p.splits → ⊥)) (IsShort cs p premises wanted)
    (λ n h. record { same = h.0; formulas = fs; ground = c.in-Ok.ensures.exact; short = h.1 })
    c.find_model.ensures.spent

pub returns-in-Ok-clause-grown : goal.returns-in-Ok-clause-grown
returns-in-Ok-clause-grown c = IsGrown-then c.args.bank.now c.ground_with_origins.new.bank c.find_model.new.bank c.ground_with_origins.ensures.grown c.find_model.ensures.grown
