-- Reads whose arguments have their sorts.
use Rattle.std.proofs.Common.{◌≡◌, Bool, true, false, Option, Some, None, refl, sym, ◌∙◌, ap}
use Rattle.std.specs.Prelude.{◌&&◌}
use Rattle.ss_core.specs.Tree.{ClassTree}
use Rattle.std.proofs.Common.{List}
use Rattle.ss_logic.specs.Shapes.{when}
use Rattle.ss_logic.specs.Reads.{Look, FieldLook, is_look}
use Rattle.ss_rules_basic.specs.Looks.{in_program, with_field, look_sorted, fitting}

fits_by : (cs : List ClassTree) (l : Look) → is_look cs l ≡ (in_program cs l && look_sorted cs l)
fits_by cs (FieldLook o f) = refl
fits_by cs l = refl

when_is : (t : Bool) (k l : Look) → when t k ≡ Some l → (t ≡ true) × (k ≡ l)
when_is true k l e = (refl, cc)
when_is false k l e = cc

module _ (cs : List ClassTree) where
  pub fitting_kept : (o : Option Look) (l : Look) → with_field cs o ≡ Some l → true ≡ look_sorted cs l → fitting cs o ≡ Some l
  fitting_kept None l e h = cc
  fitting_kept (Some k) l e h =
      let p = when_is (in_program cs k) k l e in
      ap (λ x. when (is_look cs x) x) p.1 ∙ ap (λ b. when b l) (fits_by cs l ∙ ap (λ b. b && look_sorted cs l) (sym (ap (in_program cs) p.1) ∙ p.0) ∙ sym h)

  pub fitting_none : (o : Option Look) (l : Look) → with_field cs o ≡ Some l → false ≡ look_sorted cs l → fitting cs o ≡ None
  fitting_none None l e h = refl
  fitting_none (Some k) l e h =
      let p = when_is (in_program cs k) k l e in
      ap (λ x. when (is_look cs x) x) p.1 ∙ ap (λ b. when b l) (fits_by cs l ∙ ap (λ b. b && look_sorted cs l) (sym (ap (in_program cs) p.1) ∙ p.0) ∙ sym h)

  pub not_there : (o : Option Look) → with_field cs o ≡ None → fitting cs o ≡ None
  not_there None e = refl
  not_there (Some k) e = ap (λ b. when b k) (fits_by cs k ∙ ap (λ b. b && look_sorted cs k) (unless (in_program cs k) e))
    where
      unless : (t : Bool) → when t k ≡ None → t ≡ false
      unless true e = cc
      unless false e = refl
