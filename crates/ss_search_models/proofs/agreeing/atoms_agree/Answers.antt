use Rattle.std.proofs.Common.{◌≡◌, true, arith, rules, sym, subst}
use Rattle.std.proofs.lemmas.Grind.{common_steps}
use Rattle.std.proofs.lemmas.List.{take_all}
use Rattle.std.specs.List.{AllByRecursion}
use Rattle.ss_terms.specs.declared.forms.FormulaId.{FormulaId}
use Rattle.ss_terms.specs.Forms.{formula_at, formulas_at, HasFormulas}
use Rattle.ss_search_models.specs.Said.{IsAtomSaid, are_atoms_of_classes}
use Rattle.ss_terms.proofs.Tested.{AreBelow-get}
use Rattle.ss_search_models.specs.Candidates.{model_at}
use Rattle.ss_search_models.proofs.Said.{all_more, atom_kept, atoms_said}
use Rattle.ss_search_models.proofs.agreeing.atoms_agree.Goals as goal

pub atom_agrees-requires-clause-formula : goal.atom_agrees-requires-clause-formula
atom_agrees-requires-clause-formula c =
    AreBelow-get _ c.deref-f-items.result.now c.loop-f.f-index (record { 0 = 0 }) (subst (HasFormulas c.args.bank.now) (sym c.deref-f-items.ensures.value) c.requires.told.has) c.loop-f-test.true

pub loop-f-preserved : goal.loop-f-preserved
loop-f-preserved c =
    let agreed : c.in_ok-atom_agrees.field-0 ≡ true = first_of (search rules, grind (arith, common_steps)) in
    let b = c.args.bank.now in
    let m = model_at b c.args.candidate.now in
    all_more (λ (x : FormulaId). IsAtomSaid c.loop-f.signatures m (formula_at b x)) (λ (x : FormulaId). IsAtomSaid c.atom_agrees.new.signatures m (formula_at b x))
    (λ (x : FormulaId) h. atom_kept c.loop-f.signatures c.atom_agrees.new.signatures m c.in_ok-atom_agrees.ensures.kept (formula_at b x) h)
    c.deref-f-items.result.now c.loop-f.f-index (record { 0 = 0 }) c.loop-f-test.true c.loop-f.invariant (c.in_ok-atom_agrees.ensures.said agreed)

pub returns : goal.returns
returns c = λ e.
    let b = c.args.bank.now in
    let m = model_at b c.args.candidate.now in
    subst (λ xs. are_atoms_of_classes m (formulas_at b xs) ≡ true) c.deref-f-items.ensures.value
    (atoms_said c.loop-f.signatures m b c.deref-f-items.result.now
    (subst (AllByRecursion (λ (x : FormulaId). IsAtomSaid c.loop-f.signatures m (formula_at b x))) (take_all c.loop-f.f-index c.deref-f-items.result.now c.loop-f-test.false) c.loop-f.invariant))
