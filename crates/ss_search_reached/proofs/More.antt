-- What is kept with nothing known, with one more formula, and with one less.
use Rattle.std.proofs.Common.{◌≡◌, ℕ, ◌≤◌, List, [], ◌∷◌, ◌++◌, length, map, take, true, false, eqb, refl, sym, ◌∙◌, ap, subst, ⊎_elim, arith}
use Rattle.std.specs.List.{Contains, IsDistinct, list_any}
use Rattle.std.proofs.lemmas.Bool.{cases_Bool}
use Rattle.std.proofs.lemmas.List.{take_all, take_at, map-append}
use Rattle.std.proofs.lemmas.Cmp.{nat_eq_equiv}
use Rattle.std.proofs.lemmas.Map.Keys.{IsDistinct-push}
use Rattle.ss_paths.specs.Sets.{none, put}
use Rattle.ss_bit_set.specs.Marked.{marked}
use Rattle.ss_terms.specs.declared.forms.FormulaId.{FormulaId}
use Rattle.ss_terms.specs.Forms.{Forms, formula_at, formulas_at, HasFormula, HasFormulas}
use Rattle.ss_terms.specs.Apart.{AreApart}
use Rattle.ss_rules_occurring.specs.Found.{AreMarked, formula_number}
use Rattle.ss_rules_occurring.proofs.Finding.{marked_none, marked_more}
use Rattle.ss_equality_rules.specs.Equal.{Equations, AreFormsOf}
use Rattle.ss_search_clashes.specs.Numbered.{AreMerged}
use Rattle.ss_search_reached.specs.declared.reached.Reached.{Reached}
use Rattle.ss_search_reached.specs.Known.{known_in, AreOneName, merges_at, AreKept, IsReached}
use Rattle.ss_terms.proofs.Longer.{HasFormulas-push}
use Rattle.ss_search_reached.proofs.Marks.{knows_right, less_has, less_once, less_listed, front_distinct, marked_less}
use Rattle.ss_search_reached.proofs.Kept.{merged_none, kept_more, kept_less, as_long, was_last}

kept_none : (b : Forms) (s : Equations) → AreFormsOf b s.terms → AreOneName b s.terms s.merges → AreKept b [] [] s
kept_none b s forms names = record {
  forms = forms;
  long = refl;
  rise = λ j k h l. none j k h l;
  merged = λ k l. subst (AreMerged b s.terms (take (merges_at [] s.merges k) s.merges)) (sym (take_all k [] (omega arith))) (merged_none b s.terms (take (merges_at [] s.merges k) s.merges));
  names = subst (AreOneName b s.terms) (sym (take_all (length s.merges) s.merges (omega arith))) names;
}
  where
    none : (j k : ℕ) → j ≤ k → k ≤ 0 → merges_at [] s.merges j ≤ merges_at [] s.merges k
    none j k h l = let a : j ≡ 0 = omega (arith, h, l) in let e : k ≡ 0 = omega (arith, l) in let p = ap (merges_at [] s.merges) a in let q = ap (merges_at [] s.merges) e in omega (arith, p, q)

pub new_reached : (b : Forms) (r : Reached) → r.known.items ≡ [] → marked r.numbers ≡ none → r.merges.items ≡ [] → AreFormsOf b r.congruence.terms → AreOneName b r.congruence.terms r.congruence.merges → IsReached b r
unfolding IsDistinct
new_reached b r known numbers merges forms names = record {
  has = subst (HasFormulas b) (sym known) tt;
  once = subst (λ (fs : List FormulaId). IsDistinct eqb (map formula_number fs)) (sym known) tt;
  marked = subst (λ (fs : List FormulaId). AreMarked r.numbers (map formula_number fs)) (sym known) (marked_none r.numbers numbers);
  kept = subst (λ (fs : List FormulaId). AreKept b fs r.merges.items r.congruence) (sym known) (subst (λ (ns : List ℕ). AreKept b [] ns r.congruence) (sym merges) (kept_none b r.congruence forms names));
}

module _ (b : Forms) (apart : AreApart b) (old new : Reached) (f : FormulaId) (h : IsReached b old) (has : HasFormula b f) (unknown : Contains (known_in b old) (formula_at b f) → ⊥)
    (known : new.known.items ≡ old.known.items ++ f ∷ []) (numbers : marked new.numbers ≡ put f.0 true (marked old.numbers)) (merges : new.merges.items ≡ old.merges.items ++ length old.congruence.merges ∷ [])
    (terms : new.congruence.terms ≡ old.congruence.terms) (begins : take (length old.congruence.merges) new.congruence.merges ≡ old.congruence.merges) (last : AreMerged b new.congruence.terms new.congruence.merges (f ∷ [])) where
  listed : map formula_number (old.known.items ++ f ∷ []) ≡ map formula_number old.known.items ++ f.0 ∷ []
  listed = map-append formula_number old.known.items (f ∷ [])

  is_new : list_any (eqb f.0) (map formula_number old.known.items) ≡ false
  is_new = ⊎_elim
      (λ e. absurd (unknown ((knows_right b apart old.numbers old.known.items f true h.has has h.marked (sym (h.marked f.0 ∙ e))).0 refl)))
      (λ e. e)
      (cases_Bool (list_any (eqb f.0) (map formula_number old.known.items)))

  pub more_reached : IsReached b new
  more_reached = record {
    has = subst (HasFormulas b) (sym known) (HasFormulas-push b old.known.items f h.has has);
    once = subst (λ (fs : List FormulaId). IsDistinct eqb (map formula_number fs)) (sym known)
        (subst (IsDistinct eqb) (sym listed) (IsDistinct-push nat_eq_equiv (map formula_number old.known.items) f.0 h.once is_new));
    marked = subst (λ (fs : List FormulaId). AreMarked new.numbers (map formula_number fs)) (sym known)
        (subst (AreMarked new.numbers) (sym listed) (marked_more old.numbers new.numbers (map formula_number old.known.items) f.0 numbers h.marked));
    kept = subst (λ (fs : List FormulaId). AreKept b fs new.merges.items new.congruence) (sym known)
        (subst (λ (ns : List ℕ). AreKept b (old.known.items ++ f ∷ []) ns new.congruence) (sym merges)
        (kept_more b old.known.items old.merges.items old.congruence h.kept f new.congruence terms begins last));
  }

pub known_more : (b : Forms) (old new : Reached) (f : FormulaId) → new.known.items ≡ old.known.items ++ f ∷ [] → known_in b new ≡ known_in b old ++ formula_at b f ∷ []
known_more b old new f e = ap (formulas_at b) e ∙ map-append (formula_at b) old.known.items (f ∷ [])

module _ (b : Forms) (old new : Reached) (f : FormulaId) (n : ℕ) (h : IsReached b old) (known : old.known.items ≡ new.known.items ++ f ∷ []) (numbers : marked new.numbers ≡ put f.0 false (marked old.numbers))
    (merges : old.merges.items ≡ new.merges.items ++ n ∷ []) where
  pub kept_was : AreKept b (new.known.items ++ f ∷ []) (new.merges.items ++ n ∷ []) old.congruence
  kept_was = subst (λ (fs : List FormulaId). AreKept b fs (new.merges.items ++ n ∷ []) old.congruence) known (subst (λ (ns : List ℕ). AreKept b old.known.items ns old.congruence) merges h.kept)

  pub less_reached : new.congruence ≡ record { terms = old.congruence.terms; merges = take n old.congruence.merges } → IsReached b new
  less_reached e =
      let once = less_once old.known.items new.known.items f known h.once in
      record {
        has = less_has b new.known.items f (subst (HasFormulas b) known h.has);
        once = front_distinct (map formula_number new.known.items) f.0 once;
        marked = marked_less old.numbers new.numbers (map formula_number new.known.items) f.0 once numbers (less_listed old.numbers old.known.items new.known.items f known h.marked);
        kept = kept_less b new.known.items f new.merges.items n old.congruence kept_was new.congruence (ap (λ (s : Equations). s.terms) e) (ap (λ (s : Equations). s.merges) e);
      }

  pub merges_less : new.congruence ≡ record { terms = old.congruence.terms; merges = take n old.congruence.merges } → new.congruence.merges ≡ take (merges_at old.merges.items old.congruence.merges (length new.known.items)) old.congruence.merges
  merges_less e =
      let last = ap (λ (counts : List ℕ). merges_at counts old.congruence.merges (length new.known.items)) merges ∙ was_last b new.known.items f new.merges.items n old.congruence kept_was in
      ap (λ (s : Equations). s.merges) e ∙ ap (λ (k : ℕ). take k old.congruence.merges) (sym last)

  pub counts_less : new.merges.items ≡ take (length new.known.items) old.merges.items
  counts_less = sym (ap (take (length new.known.items)) merges ∙ take_at new.merges.items (n ∷ []) (length new.known.items) (as_long b new.known.items f new.merges.items n old.congruence kept_was))
