-- The types of the arguments of a body that has the contract of a written one.
use Rattle.std.proofs.Common.{◌≡◌, ℕ, ◌+◌, List, [], ◌∷◌, ◌++◌, length, map, Bool, true, false, Some, refl, sym, ◌∙◌, ap, arith, length-append}
use Rattle.std.specs.Prelude.{slice_get, option_map, option_to_list, if◌then◌else◌}
use Rattle.std.proofs.lemmas.Option.{slice_get_within, slice_get-map}
use Rattle.ss_core.specs.declared.names.Ty.{Ty}
use Rattle.ss_core.specs.declared.names.Ty.TheVariants as ty
use Rattle.ss_core.specs.Tree as core
use Rattle.ss_typed.specs.Tree.{ParamTree, BodyTree}
use Rattle.ss_expand_rules.specs.Contracts.{first_param}
use Rattle.ss_expand_rules.specs.Bodies.{param_of}
use Rattle.ss_store_rules.specs.Locals.{types_of, this_types, argument_types, local_types}
use Rattle.ss_expand_formed.proofs.Searching.{at_front, at_back}
use Rattle.ss_expand_formed.proofs.Normal.{HasContract}

module _ (y : core.BodyTree) (b : BodyTree) (t : ℕ) (bs : List BodyTree) (is : HasContract y b t bs) where
  pub in_arguments : (x : ℕ) (u : Ty) → slice_get (argument_types y) x ≡ Some u → slice_get (local_types y) x ≡ Some u
  in_arguments x u h =
      let one = slice_get_within (argument_types y) x u h in
      let two = length-append (argument_types y) (types_of y.locals) in
      at_front (argument_types y ++ types_of y.locals) (option_to_list y.result) x (omega arith) ∙ at_front (argument_types y) (types_of y.locals) x one ∙ h

  this_count : length (this_types y) ≡ first_param b
  this_count = of_either y.flags.is_static ∙ ap (λ (s : Bool). if s then 0 else 1) is.static
    where
      of_either : (s : Bool) → length (if s then [] else ty.Ref (record { 0 = y.class }) true ∷ []) ≡ (if s then 0 else 1)
      of_either true = refl
      of_either false = refl

  -- a parameter has its type
  pub param_at : (i : ℕ) (q : ParamTree) → slice_get b.params i ≡ Some q → slice_get (local_types y) (first_param b + i) ≡ Some q.ty
  param_at i q h =
      let type = λ (l : core.LocalTree). l.ty in
      in_arguments (first_param b + i) q.ty
      (ap (λ n. slice_get (argument_types y) (n + i)) (sym this_count)
      ∙ at_back (this_types y) (types_of y.params) i
      ∙ ap (λ ls. slice_get (map type ls) i) is.params
      ∙ slice_get-map type (map param_of b.params) i
      ∙ ap (option_map type) (slice_get-map param_of b.params i ∙ ap (option_map param_of) h))

  -- `this` is of the class of the body
  pub this_at : b.flags.is_static ≡ false → slice_get (local_types y) 0 ≡ Some (ty.Ref (record { 0 = y.class }) true)
  this_at instance =
      let e : this_types y ≡ ty.Ref (record { 0 = y.class }) true ∷ [] = ap (λ (s : Bool). if s then [] else ty.Ref (record { 0 = y.class }) true ∷ []) (is.static ∙ instance) in
      in_arguments 0 (ty.Ref (record { 0 = y.class }) true) (ap (λ ts. slice_get (ts ++ types_of y.params) 0) e)
