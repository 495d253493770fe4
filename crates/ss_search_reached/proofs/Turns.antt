-- What follows in one turn, and when nothing more does.
use Rattle.std.proofs.Common.{◌≡◌, eqb, ℕ, ◌-◌, ◌*◌, ◌<◌, ◌≤◌, List, length, map, take, sym, ◌∙◌, ap, subst, ◌⊎◌, ⊎_elim, arith}
use Rattle.std.specs.List.{Contains, IsDistinct}
use Rattle.std.proofs.Math.Nat.{eq-or-lt_of_le}
use Rattle.std.proofs.lemmas.List.{length-map}
use Rattle.ss_core.specs.Tree.{ClassTree}
use Rattle.ss_logic.specs.Formulas.{Formula}
use Rattle.ss_bit_set.specs.Marked.{marked}
use Rattle.ss_terms.specs.declared.forms.FormulaId.{FormulaId}
use Rattle.ss_terms.specs.Forms.{Forms, formula_at, formulas_at, HasFormulas}
use Rattle.ss_equality_rules.specs.Equal.{Equations, AreFormsOf, AreClassesOf}
use Rattle.ss_search_clashes.specs.Numbered.{class_of}
use Rattle.ss_logic.specs.Includes.{Includes}
use Rattle.ss_search_procedure_rules.specs.Closed.{basics, OccursIn}
use Rattle.ss_search_procedure_rules.specs.Clashes.{FitsClasses}
use Rattle.ss_rules_occurring.specs.Found.{AreMarked, formula_number}
use Rattle.ss_search_reached.specs.declared.reached.Reached.{Reached}
use Rattle.ss_search_reached.specs.Known.{known_in, AreOneName, AreKept, IsReached}
use Rattle.ss_search_reached.specs.Following.{Grows, AreSpread, IsOpenBranch, AreUnits, HasNoSum, AreOneClass, IsOpen}
use Rattle.ss_search_reached.proofs.Fronts.{front_long, front_itself, front_as_long}
use Rattle.ss_search_reached.proofs.Marks.{few_known}
use Rattle.ss_search_reached.proofs.Spread.{grows_on}
use Rattle.ss_search_reached.proofs.Saturated.{units_known}

-- with the same that is known and kept
pub still_reached : (b : Forms) (old new : Reached) → IsReached b old → new.known.items ≡ old.known.items → marked new.numbers ≡ marked old.numbers → new.merges.items ≡ old.merges.items → new.congruence ≡ old.congruence → IsReached b new
still_reached b old new h known numbers merges congruence = record {
  has = subst (HasFormulas b) (sym known) h.has;
  once = subst (λ (fs : List FormulaId). IsDistinct eqb (map formula_number fs)) (sym known) h.once;
  marked = subst (λ (fs : List FormulaId). AreMarked new.numbers (map formula_number fs)) (sym known) (λ k. ap (λ s. s k) numbers ∙ h.marked k);
  kept = subst (λ (fs : List FormulaId). AreKept b fs new.merges.items new.congruence) (sym known)
      (subst (λ (ns : List ℕ). AreKept b old.known.items ns new.congruence) (sym merges) (subst (AreKept b old.known.items old.merges.items) (sym congruence) h.kept));
}

-- ---- how much room is left

known_long : (b : Forms) (r : Reached) → length (known_in b r) ≡ length r.known.items
known_long b r = length-map r.known.items (formula_at b)

pub no_shorter : (b : Forms) (old new : Reached) → Grows b old new → length old.known.items ≤ length new.known.items
no_shorter b old new g = let l = front_long (known_in b old) (known_in b new) g.front in omega (arith, l, known_long b old, known_long b new)

-- where more is known less room is left
pub less_room : (b : Forms) (old new : Reached) → Grows b old new → (length new.known.items ≡ length old.known.items → ⊥) → length b.formulas * 2 - length new.known.items < length b.formulas * 2 - length old.known.items
less_room b old new g n =
    let few = few_known b new.known.items g.reached.has g.reached.once in
    let more : length old.known.items < length new.known.items = ⊎_elim (λ e. absurd (n (sym e))) (λ l. l) (eq-or-lt_of_le (no_shorter b old new g)) in
    omega (arith, few, more)

-- ---- one turn: spread, then asked for units, and those are known

pub grows_alike : (b : Forms) (old new : Reached) → IsReached b new → new.known.items ≡ old.known.items → Grows b old new
grows_alike b old new h e = record {
  reached = h;
  front = ap (λ (fs : List FormulaId). take (length (known_in b old)) (formulas_at b fs)) e ∙ front_itself (known_in b old);
  occurs = λ p o. subst (λ (fs : List FormulaId). OccursIn (formulas_at b fs) p) e o;
}

module _ (b : Forms) (before spread asked last : Reached) (g : Grows b before spread) (reached : IsReached b asked) (known : asked.known.items ≡ spread.known.items) (h : Grows b asked last) where
  from_spread : Grows b spread last
  from_spread = grows_on b spread asked last (grows_alike b spread asked reached known) h

  -- where it adds nothing, what is known is open
  module _ (as_long : length last.known.items ≡ length before.known.items) where
    spread_is : known_in b last ≡ known_in b spread
    spread_is =
        let p = no_shorter b before spread g in
        front_as_long (known_in b spread) (known_in b last) from_spread.front (omega (arith, p, as_long, known_long b spread, known_long b last))

    pub open_now : (cs : List ClassTree) (units : List FormulaId) → AreSpread (known_in b spread) → AreUnits b spread.known.items spread.known.items units → Includes (known_in b last) (formulas_at b units) → AreOneClass b asked.classes.items →
        FitsClasses (class_of b asked.classes.items) (basics (known_in b spread)) → last.classes.items ≡ asked.classes.items → HasNoSum cs (class_of b last.classes.items) (basics (known_in b last)) → IsOpen cs b last
    open_now cs units spreads are learnt names fits classes sums = record {
      spread = subst AreSpread (sym spread_is) spreads;
      branches = subst (λ fs. (f : Formula) → Contains fs f → IsOpenBranch fs fs f) (sym spread_is) (units_known b spread.known.items units are (subst (λ fs. Includes fs (formulas_at b units)) spread_is learnt));
      fits = subst (λ (ns : List ℕ). FitsClasses (class_of b ns) (basics (known_in b last))) (sym classes) (subst (λ fs. FitsClasses (class_of b asked.classes.items) (basics fs)) (sym spread_is) fits);
      sums = sums;
      names = subst (AreOneClass b) (sym classes) names;
    }

-- ---- classes that are the same

pub one_class : (b : Forms) (s : Equations) (classes : List ℕ) → AreFormsOf b s.terms → AreClassesOf s.terms s.merges classes → AreOneName b s.terms s.merges → AreOneClass b classes
one_class b s classes forms same names x y hx hy nx ny =
    let a = forms.all in
    (same x.0 y.0 (omega (arith, hx, a)) (omega (arith, hy, a))).1 (names x y hx hy nx ny)
