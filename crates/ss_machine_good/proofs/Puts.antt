-- An assignment keeps what is known.
use Rattle.std.proofs.Common.{◌≡◌, ◌≢◌, ℕ, zero, suc, ◌<◌, List, [], ◌∷◌, length, Bool, true, ◌&&◌, ◌||◌, not, Some, set, eqb, refl, sym, ◌∙◌, ap, subst, arith, ⊎_elim}
use Rattle.std.specs.Prelude.{slice_get, unwrap_or, ◌==◌}
use Rattle.std.proofs.lemmas.Bool.{false≢true, and_parts, cases_eq, eq-eqb, ne_eqb}
use Rattle.ss_core.specs.Tree.{BodyTree}
use Rattle.ss_store_rules.specs.declared.Value.{Value}
use Rattle.ss_store_rules.specs.declared.Value.TheVariants as value
use Rattle.ss_store_rules.specs.Values.{Setting, local_value}
use Rattle.ss_store_rules.specs.Locals.{local_types}
use Rattle.ss_store_rules.specs.NonNull.{Facts, Known, with_local, is_non_null_type}
use Rattle.ss_machine_good.specs.Known.{IsNotNull, AreNotNull, IsSide, IsTrueOf, AreAssigned, with_value}
use Rattle.ss_machine_good.proofs.Within.{but_local}

set_here : (xs : List Value) (x : ℕ) (v : Value) → x < length xs → slice_get (set xs x v) x ≡ Some v
set_here [] x v l = absurd (omega (arith, l))
set_here (y ∷ xs) zero v l = refl
set_here (y ∷ xs) (suc x) v l = set_here xs x v (omega (arith, l))

set_apart : (xs : List Value) (x y : ℕ) (v : Value) → x ≢ y → slice_get (set xs x v) y ≡ slice_get xs y
set_apart [] x y v ne = refl
set_apart (z ∷ xs) zero zero v ne = absurd (ne refl)
set_apart (z ∷ xs) zero (suc y) v ne = refl
set_apart (z ∷ xs) (suc x) zero v ne = refl
set_apart (z ∷ xs) (suc x) (suc y) v ne = set_apart xs x y v (λ e. ne (ap suc e))

module _ (c : Setting) (x : ℕ) (v : Value) (within : x < length c.locals) where
  here : local_value (with_value c x v) x ≡ v
  here = ap (λ o. unwrap_or o value.Null) (set_here c.locals x v within)

  elsewhere : (y : ℕ) → x ≢ y → local_value (with_value c x v) y ≡ local_value c y
  elsewhere y ne = ap (λ o. unwrap_or o value.Null) (set_apart c.locals x y v ne)

  -- what isn't null before the assignment isn't so after it, but for the local, which gets the value
  not_null_now : (facts : Facts) → AreNotNull facts c → IsNotNull v → AreNotNull facts (with_value c x v)
  not_null_now facts before v_not y h = ⊎_elim
      (λ is. subst (λ n. IsNotNull (local_value (with_value c x v) n)) is (subst IsNotNull (sym here) v_not))
      (λ ne. subst IsNotNull (sym (elsewhere y ne)) (before y h))
      (cases_eq x y)

  but_not_null : (facts : Facts) → AreNotNull facts c → AreNotNull (λ y. facts y && not (x == y)) (with_value c x v)
  but_not_null facts before y h =
      let p = and_parts (facts y) (not (eqb x y)) h in
      ⊎_elim
      (λ is. absurd (false≢true (sym (ap not (eq-eqb x y is)) ∙ p.1)))
      (λ ne. subst IsNotNull (sym (elsewhere y ne)) (before y p.0))
      (cases_eq x y)

  bool_not_null : (u : Bool) → v ≡ value.Bool u → IsNotNull v
  bool_not_null u is null = let both : value.Bool u ≡ value.Null = sym is ∙ null in cc

  put_side : (non_null : Bool) (says : Bool → Facts) (k : Known) → ((u : Bool) → v ≡ value.Bool u → AreNotNull (says u) c) → (y : ℕ) (u : Bool) → (x ≢ y → IsSide k c y u) → (x ≡ y → v ≡ value.Bool u) → IsSide (with_local x non_null says k) (with_value c x v) y u
  put_side non_null says k said y u old new = ⊎_elim
      (λ is. record { facts = says u; there = rw (eq-eqb x y is) refl; so = not_null_now (says u) (said u (new is)) (bool_not_null u (new is)) })
      (λ ne.
      let s = old ne in
      record { facts = λ z. s.facts z && not (x == z); there = rw (ne_eqb x y ne) (ap (but_local x) s.there); so = but_not_null s.facts s.so })
      (cases_eq x y)

  -- what is known after an assignment is so
  pub put_true : (constructs : Bool) (non_null : Bool) (says : Bool → Facts) (k : Known) → IsTrueOf constructs k c → (constructs ≡ true → x ≢ 0) → (non_null ≡ true → IsNotNull v) → ((u : Bool) → v ≡ value.Bool u → AreNotNull (says u) c) →
      IsTrueOf constructs (with_local x non_null says k) (with_value c x v)
  put_true constructs non_null says k is no_this v_not said = record {
    facts = λ y h. ⊎_elim
        (λ e. subst (λ n. IsNotNull (local_value (with_value c x v) n)) e (subst IsNotNull (sym here) (v_not (rw (eq-eqb x y e) at h))))
        (λ ne. subst IsNotNull (sym (elsewhere y ne)) (is.facts y (rw (ne_eqb x y ne) at h)))
        (cases_eq x y);
    sides = λ y u e. put_side non_null says k said y u (λ ne. is.sides y u (sym (elsewhere y ne) ∙ e)) (λ same. sym here ∙ subst (λ n. local_value (with_value c x v) n ≡ value.Bool u) (sym same) e);
    fields = λ ctor f h o z at ez. is.fields ctor f h o z (sym (elsewhere 0 (no_this ctor)) ∙ at) ez;
  }

  -- and so is what is assigned
  pub put_assigned : (b : BodyTree) (xs : ℕ → Bool) → AreAssigned b xs c → (is_non_null_type (slice_get (local_types b) x) ≡ true → IsNotNull v) → AreAssigned b (λ y. x == y || xs y) (with_value c x v)
  put_assigned b xs are v_not y h typed = ⊎_elim
      (λ e. subst (λ n. IsNotNull (local_value (with_value c x v) n)) e (subst IsNotNull (sym here) (v_not (subst (λ n. is_non_null_type (slice_get (local_types b) n) ≡ true) (sym e) typed))))
      (λ ne. subst IsNotNull (sym (elsewhere y ne)) (are y (rw (ne_eqb x y ne) at h) typed))
      (cases_eq x y)
