-- The classes of the elaboration of a resolved program: what stands above each, and its fields.
use Rattle.std.proofs.Common.{◌≡◌, ◌≢◌, ℕ, zero, suc, ◌+◌, ◌-◌, ◌*◌, ◌<◌, List, [], ◌∷◌, ◌++◌, length, take, true, false, eqb, Option, Some, None, refl, sym, ◌∙◌, ap, arith, ⊎_elim}
use Rattle.std.specs.Prelude.{slice_get, option_map, sum_by}
use Rattle.std.proofs.lemmas.Option.{same_Some, slice_get-map}
use Rattle.std.proofs.lemmas.Bool.{cases_Bool, eq-eqb}
use Rattle.std.proofs.lemmas.List.{length-map}
use Rattle.std.proofs.lemmas.List.Sums.{sum_by-cons}
use Rattle.ss_core.specs.Tree as core
use Rattle.ss_core.specs.Chain as chain
use Rattle.ss_core.specs.Chain.{declared, DeclaredField, in_class, fields_of_class, fields_from, all_fields, below}
use Rattle.ss_core.proofs.Declared.{declared_at}
use Rattle.ss_core.proofs.Fields.{first_class, later_class}
use Rattle.ss_core.proofs.Levels.{passes, passes_here, passes_above, below-passes}
use Rattle.ss_ast.specs.Programs.{ClassTree, ProgramTree}
use Rattle.ss_tables.specs.Members.{FieldTree, fields_in}
use Rattle.ss_tables.specs.Classes.{above_in, above, steps_above}
use Rattle.ss_typed.specs.Tree.{TypedTree}
use Rattle.ss_resolver_rules.specs.Numbers.{number_or_object, field_count}
use Rattle.ss_resolver_rules.specs.Programs.{each, class, field, resolved}
use Rattle.ss_expand_rules.specs.Elaborated.{class_of, classes_from, elaborated}

pub made_at : {A : Type 0} (f : ℕ → ClassTree → A) (j : ℕ) (cs : List ClassTree) (i : ℕ) (c : ClassTree) → slice_get cs i ≡ Some c → slice_get (each f j cs) i ≡ Some (f (j + i) c)
made_at f j [] i c h = absurd (let x : ⊥ = cc in x)
made_at f j (d ∷ cs) zero c h = let n : j + 0 ≡ j = omega arith in rw n (ap (λ y. Some (f j y)) (same_Some _ _ h))
made_at f j (d ∷ cs) (suc i) c h = let n : j + suc i ≡ j + 1 + i = omega arith in rw n (made_at f (j + 1) cs i c h)

elaborated_at : (p : TypedTree) (t : ℕ) (cs : List core.ClassTree) (i : ℕ) (c : core.ClassTree) → slice_get cs i ≡ Some c → slice_get (classes_from p t cs) i ≡ Some (class_of p (t + 2 * i) c)
elaborated_at p t [] i c h = absurd (let x : ⊥ = cc in x)
elaborated_at p t (d ∷ cs) zero c h = let n : t + 2 * 0 ≡ t = omega arith in rw n (ap (λ y. Some (class_of p t y)) (same_Some _ _ h))
elaborated_at p t (d ∷ cs) (suc i) c h = let n : t + 2 * suc i ≡ t + 2 + 2 * i = omega arith in rw n (elaborated_at p (t + 2) cs i c h)

module _ (p : ProgramTree) where
  abbrev pub classes : List core.ClassTree
  classes = (elaborated (resolved p)).classes

  pub class_at : (k : ℕ) (c : ClassTree) → slice_get p.classes k ≡ Some c → declared classes (4 + 2 * k) ≡ Some (class_of (resolved p) (4 + 2 * k) (class p.classes k c))
  class_at k c h =
      let z : 0 + k ≡ k = omega arith in
      declared_at classes k ∙ elaborated_at (resolved p) 4 (resolved p).classes k (class p.classes k c) (made_at (class p.classes) 0 p.classes k c h ∙ ap (λ n. Some (class p.classes n c)) z)

  -- ---- what stands above

  has_class : (o : Option ClassTree) (j : ℕ) → above_in p.classes o ≡ Some j → (c : ClassTree) × (o ≡ Some c)
  has_class None j h = absurd (let x : ⊥ = cc in x)
  has_class (Some c) j h = (c, refl)

  above_at : (k j : ℕ) → above p.classes k ≡ Some j → chain.above classes (4 + 2 * k) ≡ 4 + 2 * j
  above_at k j h =
      let c = has_class (slice_get p.classes k) j h in
      ap chain.above_of (class_at k c.0 c.1) ∙ ap number_or_object h

  abbrev Passes : ℕ → ℕ → ℕ → Type 0
  Passes j n k = passes classes (λ level. eqb level (4 + 2 * j)) n (4 + 2 * k) ≡ true

  passes_over : (n i k j : ℕ) → eqb (4 + 2 * k) (4 + 2 * j) ≡ false → (o : Option ℕ) → above p.classes k ≡ o → steps_above p.classes i o ≡ Some j → ((u : ℕ) → steps_above p.classes i (Some u) ≡ Some j → Passes j n u) → Passes j (suc n) k
  passes_over n zero k j other None e h rest = absurd (let x : ⊥ = cc in x)
  passes_over n (suc i) k j other None e h rest = absurd (let x : ⊥ = cc in x)
  passes_over n i k j other (Some u) e h rest =
      let nz : 4 + 2 * k ≢ 0 = λ z. omega arith in
      passes_above classes (λ level. eqb level (4 + 2 * j)) n (4 + 2 * k) nz other
      ∙ ap (passes classes (λ level. eqb level (4 + 2 * j)) n) (above_at k u e)
      ∙ rest u h

  passes_steps : (n i k j : ℕ) → i < n → steps_above p.classes i (Some k) ≡ Some j → Passes j n k
  passes_steps zero i k j l h = absurd (omega arith)
  passes_steps (suc n) zero k j l h =
      let same : k ≡ j = same_Some _ _ h in
      passes_here classes (λ level. eqb level (4 + 2 * j)) n (4 + 2 * k) (eq-eqb (4 + 2 * k) (4 + 2 * j) (omega arith))
  passes_steps (suc n) (suc i) k j l h =
      ⊎_elim
      (λ yes. passes_here classes (λ level. eqb level (4 + 2 * j)) n (4 + 2 * k) yes)
      (λ other. passes_over n i k j other (above p.classes k) refl h (λ u e. passes_steps n i u j (omega arith) e))
      (cases_Bool (eqb (4 + 2 * k) (4 + 2 * j)))

  -- a class that stands few steps above is a level
  pub below_steps : (i k j : ℕ) → i < 64 → steps_above p.classes i (Some k) ≡ Some j → below classes (4 + 2 * k) (4 + 2 * j) ≡ true
  below_steps i k j l h = sym (below-passes classes (4 + 2 * k) (4 + 2 * j)) ∙ passes_steps 64 i k j l h

  -- ---- fields

  same_fields : (q : TypedTree) (t u : ℕ) (cs : List core.ClassTree) → fields_from t (classes_from q u cs) ≡ fields_from t cs
  same_fields q t u [] = refl
  same_fields q t u (c ∷ cs) = ap (λ fs. fields_of_class t c.fields ++ fs) (same_fields q (t + 2) (u + 2) cs)

  pub fields_stay : all_fields classes ≡ all_fields (resolved p).classes
  fields_stay = same_fields (resolved p) 4 4 (resolved p).classes

  field_from : (all : List ClassTree) (j t : ℕ) (cs : List ClassTree) (i : ℕ) (c : ClassTree) → slice_get cs i ≡ Some c → (q : ℕ) (g : FieldTree) → slice_get (fields_in c.members) q ≡ Some g →
      slice_get (fields_from t (each (class all) j cs)) (sum_by field_count (take i cs) + q) ≡ Some (in_class (t + 2 * i) (field all g))
  field_from all j t [] i c h q g e = absurd (let x : ⊥ = cc in x)
  field_from all j t (d ∷ cs) zero c h q g e =
      let same : d ≡ c = same_Some _ _ h in
      let here : slice_get (fields_in d.members) q ≡ Some g = ap (λ (x : ClassTree). slice_get (fields_in x.members) q) same ∙ e in
      let z : 0 + q ≡ q = omega arith in
      let n : t + 2 * 0 ≡ t = omega arith in
      rw (z, n) (first_class t (class all j d) (each (class all) (j + 1) cs) q (field all g) (slice_get-map (field all) (fields_in d.members) q ∙ ap (option_map (field all)) here))
  field_from all j t (d ∷ cs) (suc i) c h q g e =
      let sum = sum_by-cons field_count d (take i cs) in
      let size : length (class all j d).fields ≡ field_count d = length-map (fields_in d.members) (field all) in
      let m = sum_by field_count (take i cs) + q in
      let index : sum_by field_count (take (suc i) (d ∷ cs)) + q ≡ length (class all j d).fields + m = omega arith in
      let back : length (class all j d).fields + m - length (class all j d).fields ≡ m = omega arith in
      let n : t + 2 * suc i ≡ t + 2 + 2 * i = omega arith in
      ap (slice_get (fields_from t (each (class all) j (d ∷ cs)))) index
      ∙ later_class t (class all j d) (each (class all) (j + 1) cs) (length (class all j d).fields + m) (omega arith)
      ∙ ap (slice_get (fields_from (t + 2) (each (class all) (j + 1) cs))) back
      ∙ field_from all (j + 1) (t + 2) cs i c h q g e
      ∙ ap (λ u. Some (in_class u (field all g))) (sym n)

  -- the field that stands at this place of its class
  pub field_at : (k : ℕ) (c : ClassTree) → slice_get p.classes k ≡ Some c → (q : ℕ) (g : FieldTree) → slice_get (fields_in c.members) q ≡ Some g →
      slice_get (all_fields classes) (sum_by field_count (take k p.classes) + q) ≡ Some (in_class (4 + 2 * k) (field p.classes g))
  field_at k c h q g e = ap (λ fs. slice_get fs (sum_by field_count (take k p.classes) + q)) fields_stay ∙ field_from p.classes 0 4 p.classes k c h q g e
