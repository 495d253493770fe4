use Rattle.std.proofs.Common.{List, [], ◌∷◌, ◌++◌, length, take, refl, sym, ◌∙◌, ap, subst, Vec, Global, arith}
use Rattle.std.proofs.lemmas.Option.{MatchOption-at_some}
use Rattle.std.proofs.lemmas.Result.{IfOk-weaker}
use Rattle.ss_core.specs.Tree.{ClassTree}
use Rattle.ss_logic.specs.Formulas.{Formula, is_well_formed}
use Rattle.ss_terms.specs.declared.forms.FormulaId.{FormulaId}
use Rattle.ss_terms.specs.Forms.{Forms, formula_at, HasFormulas}
use Rattle.ss_deriv.specs.declared.line.Line.{Line}
use Rattle.ss_deriv.specs.Lines.{lines_of}
use Rattle.ss_equality_rules.specs.declared.Merge.{Merge}
use Rattle.ss_equality_rules.specs.Equal.{Equations}
use Rattle.ss_search_clashes.specs.Closing.{Closes}
use Rattle.ss_search_path.specs.Paths.{known_on}
use Rattle.ss_search_reached.proofs.Fronts.{front_push, front_trans}
use Rattle.ss_search_reached.proofs.Names.{ok_then}
use Rattle.ss_search_reached.proofs.Branches.{one_branch}
use Rattle.ss_search_reaching.specs.Refuting.{bank_of, or_of, AreShown}
use Rattle.ss_search_path.specs.Standing.{IsGuardedAt}
use Rattle.std.specs.Prelude.{slice_get}
use Rattle.std.proofs.Common.{◌≡◌, Some, true}
use Rattle.ss_search_reaching.specs.Units.{IsResolved, part_of, LeadsToOne, UnitGuarded}
use Rattle.ss_search_reaching.proofs.Resolving.{beside_again, one_resolved}
use Rattle.ss_search_reaching.proofs.Guarding.{guard_known, guarded_after}
use Rattle.ss_search_reaching.proofs.branches.Beside.by_guard.Goals as goal

pub returns-in_ok-deny-in-Some-clause-kept : goal.returns-in_ok-deny-in-Some-clause-kept
returns-in_ok-deny-in-Some-clause-kept c =
    let old = c.args.path.now in
    let denied = c.deny.new.self in
    let new = c.body.new.path in
    let ends = c.in_ok-deny-in-Some.ensures.numbers in
    ok_then c.body.result (λ e. front_trans old.known.items denied.known.items new.known.items
    (front_push old.known.items denied.known.items (ends.number ∷ []) (ends.numbers ∙ ap (λ (xs : List FormulaId). xs ++ ends.number ∷ []) c.in_ok-lines.ensures.known))
    (front_push denied.known.items new.known.items (c.args.parts.1 ∷ []) e)) c.body.ensures.known

pub returns-in_ok-deny-in-Some-clause-branch : goal.returns-in_ok-deny-in-Some-clause-branch
returns-in_ok-deny-in-Some-clause-branch c =
    let w = c.args.self.now in
    let p = c.args.parts.0 in
    let q = c.args.parts.1 in
    let whole = or_of w.looking.bank.now (p ∷ q ∷ []) in
    IfOk-weaker c.body.result (λ u. part_of u ≡ Some q) (λ u. IsResolved w.looking whole u)
    (λ u e. one_resolved w.looking whole q u e
    (one_branch w.looking (p ∷ q ∷ []) q (subst (λ (k : Forms). HasFormulas k (p ∷ q ∷ [])) (sym c.requires.beside.bank) (c.requires.guard, (c.requires.body, tt))) (1, omega arith, refl)))
    c.body.ensures.part

pub returns-in_ok-deny-in-Some-clause-leads : goal.returns-in_ok-deny-in-Some-clause-leads
returns-in_ok-deny-in-Some-clause-leads c =
    let w = c.args.self.now in
    let s = w.refuting in
    let b = bank_of s in
    let ms = c.args.congruence.now.merges in
    let old = c.args.path.now in
    let looked = c.case_of.new.path in
    let denied = c.deny.new.self in
    let new = c.body.new.path in
    let p = c.args.parts.0 in
    let q = c.args.parts.1 in
    let lines = c.in-Some.lines in
    let e = c.in_ok-lines.ensures in
    let closes = MatchOption-at_some (Unit {0}) (λ (v : Vec Line Global). (cs : List ClassTree) (premises : List Formula) (goal : Formula) → AreShown cs s ms (known_on b old) → is_well_formed cs [] (formula_at b p) ≡ true →
    Closes cs premises goal (known_on b old ++ formula_at b p ∷ []) (lines_of b v.items)) lines c.in-Some.is e.closes in
    IfOk-weaker c.body.result
    (λ u. (cs : List ClassTree) (premises : List Formula) (goal : Formula) (f : Formula) (is : IsGuardedAt cs s.given c.args.origin f) → slice_get (known_on b denied) c.len-place.result ≡ Some is.guarded.guard → formula_at b q ≡ is.guarded.body →
    LeadsToOne cs premises goal s.given denied new u)
    (λ u. UnitGuarded w ms old c.args.origin (p ∷ q ∷ []) new u)
    (λ u h. guard_known w ms old looked denied new c.args.origin c.len-place.result p q lines.items u e.known (c.len-place.ensures ∙ looked.known.ok.0) e.stays closes c.in_ok-deny-in-Some.ensures.goes_on c.in_ok-deny-in-Some.ensures.numbers h)
    c.body.ensures.leads

pub trial-requires-clause-beside : goal.trial-requires-clause-beside
trial-requires-clause-beside c = beside_again c.args.self.now c.args.congruence.now c.case_of.new.congruence c.in_ok-lines.ensures.congruence c.requires.beside

pub returns-in-None-clause-congruence : goal.returns-in-None-clause-congruence
returns-in-None-clause-congruence c = ok_then c.trial.result (λ h. h ∙ c.in_ok-lines.ensures.congruence) c.trial.ensures.congruence

pub returns-in-None-clause-kept : goal.returns-in-None-clause-kept
returns-in-None-clause-kept c =
    ok_then c.trial.result (λ h. ap (λ (xs : List FormulaId). take (length xs) c.trial.new.path.known.items) (sym c.in_ok-lines.ensures.known) ∙ h ∙ c.in_ok-lines.ensures.known) c.trial.ensures.kept

pub returns-in-None-clause-leads : goal.returns-in-None-clause-leads
returns-in-None-clause-leads c =
    let w = c.args.self.now in
    let ms = c.args.congruence.now.merges in
    let old = c.args.path.now in
    let looked = c.case_of.new.path in
    let new = c.trial.new.path in
    let p = c.args.parts.0 in
    let q = c.args.parts.1 in
    let e = c.in_ok-lines.ensures in
    IfOk-weaker c.trial.result (λ u. UnitGuarded w c.case_of.new.congruence.merges looked c.args.origin (p ∷ q ∷ []) new u) (λ u. UnitGuarded w ms old c.args.origin (p ∷ q ∷ []) new u)
    (λ u h. guarded_after w ms old looked new c.args.origin p q u e.known e.stays
    (subst (λ (ks : List Merge). UnitGuarded w ks looked c.args.origin (p ∷ q ∷ []) new u) (ap (λ (k : Equations). k.merges) e.congruence) h))
    c.trial.ensures.leads
