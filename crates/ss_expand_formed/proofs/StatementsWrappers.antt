-- The code of a wrapper passes: it exposes its object, hands over its parameters and returns what it gets.
use Rattle.std.proofs.Common.{◌≡◌, ℕ, suc, ◌+◌, List, [], ◌∷◌, ◌++◌, length, true, false, Option, Some, None, refl, ◌∙◌, ap, subst, arith, append_assoc}
use Rattle.std.specs.Prelude.{not, ◌==◌, slice_get, is_some, option_map, option_to_list, if◌then◌else◌}
use Rattle.std.proofs.lemmas.Bool.{and_parts, and_from, ne_eqb, false≢true}
use Rattle.std.proofs.lemmas.Option.{slice_get_within}
use Rattle.std.proofs.lemmas.List.{length-append, length-map}
use Rattle.ss_core.specs.declared.names.Place.{Place}
use Rattle.ss_core.specs.declared.names.Ty.{Ty}
use Rattle.ss_core.specs.declared.names.Ty.TheVariants as ty
use Rattle.ss_core.specs.Tree as core
use Rattle.ss_core.specs.Tree.{LocalExpr, Base}
use Rattle.ss_core.specs.Chain.{is_type, is_declared}
use Rattle.ss_core.proofs.Chains.{below_self, sub_self}
use Rattle.ss_core.specs.Types.{nullable}
use Rattle.ss_typed.specs.Tree.{ParamTree, BodyTree, TypedTree}
use Rattle.ss_typed.specs.Types.{class_type}
use Rattle.ss_expand_rules.specs.Program.{above_of, number_in_table}
use Rattle.ss_expand_rules.specs.Bodies.{own_params, temporaries_from, wrapper_types, wrapper_result, returned, first_of_wrapper, wrapper_body}
use Rattle.ss_store_rules.specs.Changes.{below}
use Rattle.ss_store_rules.specs.Locals.{this_types, types_of, argument_types, local_types, result_number, is_result, each}
use Rattle.ss_store_rules.specs.Types.{has_fitting, fits_type, has_class, code_type}
use Rattle.ss_store_rules.specs.Types as types
use Rattle.ss_store_rules.specs.Typed.{are_declared, callee_of, have_types_in, fits_declared, fits_kept, is_call_of, is_returned, is_typed, is_exposable, has_exposable}
use Rattle.ss_expand_formed.proofs.Facts.{and_false}
use Rattle.ss_expand_formed.proofs.Searching.{at_back}
use Rattle.ss_expand_formed.proofs.Growing.{begins_append}
use Rattle.ss_expand_formed.proofs.Numbers.{in_middle, param_types, params_types, temporaries_types}
use Rattle.ss_expand_formed.proofs.Values.{Takes}

-- ---- types of the table fit themselves

module _ (cs : List core.ClassTree) where
  plain_fits : (t : Ty) → is_type cs t ≡ true → fits_type cs (nullable t) t ≡ true
  plain_fits ty.Int h = refl
  plain_fits ty.Bool h = refl
  plain_fits ty.Null h = absurd (false≢true h)
  plain_fits (ty.Ref t n) h = sub_self cs t.0

  type_fits : (t : Ty) → is_type cs t ≡ true → fits_type cs t t ≡ true
  type_fits ty.Int h = refl
  type_fits ty.Bool h = refl
  type_fits ty.Null h = absurd (false≢true h)
  type_fits (ty.Ref t n) h = sub_self cs t.0

module _ (c : core.CoreTree) (p : TypedTree) (q : Place) (t m : ℕ) (b : BodyTree) (bs : List BodyTree) where
  abbrev y : core.BodyTree
  y = wrapper_body p q t m b bs

  abbrev cs : List core.ClassTree
  cs = c.classes

  -- its first temporary
  abbrev x : ℕ
  x = first_of_wrapper b

  abbrev n : ℕ
  n = number_in_table p (above_of p t) m

  -- ---- the types of its locals

  abbrev A : List Ty
  A = this_types y

  abbrev P : List Ty
  P = param_types b.params

  abbrev T : List Ty
  T = wrapper_types t b.result

  -- all locals but the result
  abbrev front : List Ty
  front = argument_types y ++ types_of y.locals

  front_is : front ≡ (A ++ P) ++ T
  front_is = ap (λ ts. (A ++ ts) ++ types_of (temporaries_from 0 T)) (params_types b.params) ∙ ap (λ ts. (A ++ P) ++ ts) (temporaries_types 0 T)

  front_long : length front ≡ result_number y
  front_long = length-append (argument_types y) (types_of y.locals) ∙ ap (λ k. length (argument_types y) + k) (length-map y.locals (λ (l : core.LocalTree). l.ty))

  param_size : length P ≡ length b.params
  param_size = length-map b.params (λ (z : ParamTree). z.ty)

  -- the local has this type, and isn't the result
  abbrev Has : ℕ → Ty → Type 0
  Has i u = (slice_get (local_types y) i ≡ Some u) × (is_result y i ≡ false)

  has : (i : ℕ) (u : Ty) → slice_get front i ≡ Some u → Has i u
  has i u h =
      let l = slice_get_within front i u h in
      let e = front_long in
      (begins_append front (option_to_list b.result) i u h, and_false (is_some b.result) (i == result_number y) (ne_eqb i (result_number y) (λ same. omega arith)))

  this_has : Has 0 (class_type t true)
  this_has = has 0 (class_type t true) refl

  param_has : (i : ℕ) (u : Ty) → slice_get P i ≡ Some u → Has (1 + i) u
  param_has i u h = let e : (A ++ P) ++ T ≡ A ++ (P ++ T) = simp append_assoc in has (1 + i) u (ap (λ ts. slice_get ts (1 + i)) (front_is ∙ e) ∙ in_middle A P T 1 i u refl h)

  made_has : (i : ℕ) (u : Ty) → slice_get T i ≡ Some u → Has (x + i) u
  made_has i u h =
      let size : length (A ++ P) ≡ suc (length P) = refl in
      let e : x ≡ length (A ++ P) = omega (arith, size, param_size) in
      has (x + i) u (ap (λ ts. slice_get ts (x + i)) front_is ∙ ap (λ k. slice_get ((A ++ P) ++ T) (k + i)) e ∙ at_back (A ++ P) T i ∙ h)

  object_has : Has x (class_type t false)
  object_has = subst (λ k. Has k (class_type t false)) (let e : x + 0 ≡ x = omega arith in e) (made_has 0 (class_type t false) (by b.result))
    where
      by : (r : Option Ty) → slice_get (wrapper_types t r) 0 ≡ Some (class_type t false)
      by None = refl
      by (Some u) = refl

  result_has : (u : Ty) → b.result ≡ Some u → Has (x + 1) u
  result_has u h = made_has 1 u (ap (λ o. slice_get (wrapper_types t o) 1) h)

  -- ---- its statements

  reads : (i : ℕ) (u : Ty) → Has i u → code_type cs y (LocalExpr q i) ≡ Some (nullable u)
  reads i u h = ap (λ k. if k then types.type_of cs (local_types y) (LocalExpr q i) else None) (ap not h.1) ∙ ap (option_map nullable) h.0

  hands : (at : ℕ) (qs : List ParamTree) → ((i : ℕ) (u : Ty) → slice_get (param_types qs) i ≡ Some u → Has (at + i) u) → are_declared cs (param_types qs) ≡ true → have_types_in cs y (own_params q at qs) (param_types qs) ≡ true
  hands at [] h known = refl
  hands at (z ∷ qs) h known =
      let both = and_parts (is_type cs z.ty) (are_declared cs (param_types qs)) known in
      let here : Has at z.ty = subst (λ k. Has k z.ty) (let e : at + 0 ≡ at = omega arith in e) (h 0 z.ty refl) in
      and_from _ _ (ap (λ a. has_fitting cs a z.ty) (reads at z.ty here) ∙ plain_fits cs z.ty both.0) (hands (at + 1) qs (λ i u g. subst (λ k. Has k u) (let e : at + suc i ≡ at + 1 + i = omega arith in e) (h (suc i) u g)) both.1)

  keeps : (r : Option Ty) → b.result ≡ r → are_declared cs (option_to_list r) ≡ true → fits_kept cs y (wrapper_result r (x + 1)) r ≡ true
  keeps None h known = refl
  keeps (Some u) h known = ap (fits_declared cs (Some u)) (result_has u h).0 ∙ type_fits cs u (and_parts (is_type cs u) true known).0

  returns : (r : Option Ty) → b.result ≡ r → are_declared cs (option_to_list r) ≡ true → is_returned cs y r (returned q (wrapper_result r (x + 1))) ≡ true
  returns None h known = refl
  returns (Some u) h known = ap (λ a. has_fitting cs a u) (reads (x + 1) u (result_has u h)) ∙ plain_fits cs u (and_parts (is_type cs u) true known).0

  takes_object : fits_declared cs (code_type cs y (LocalExpr q 0)) (slice_get (local_types y) x) ≡ true
  takes_object = ap (λ a. fits_declared cs a (slice_get (local_types y) x)) (reads 0 (class_type t true) this_has) ∙ ap (fits_declared cs (Some (class_type t false))) object_has.0 ∙ sub_self cs t

  calls : are_declared cs P ≡ true → are_declared cs (option_to_list b.result) ≡ true → Takes (callee_of c y (Base n)) P b.result → is_call_of cs y (wrapper_result b.result (x + 1)) (own_params q 1 b.params) (callee_of c y (Base n)) ≡ true
  calls params gives k =
      ap (is_call_of cs y (wrapper_result b.result (x + 1)) (own_params q 1 b.params)) k.is
      ∙ and_from _ _ (ap (have_types_in cs y (own_params q 1 b.params)) k.params ∙ hands 1 b.params param_has params) (ap (fits_kept cs y (wrapper_result b.result (x + 1))) k.result ∙ keeps b.result refl gives)

  pub wrapper_typed : are_declared cs P ≡ true → are_declared cs (option_to_list b.result) ≡ true → Takes (callee_of c y (Base n)) P b.result → each (is_typed c y) y.code ≡ true
  wrapper_typed params gives k = and_from _ _ takes_object (and_from _ _ refl (and_from _ _ (calls params gives k) (and_from _ _ refl (and_from _ _ (returns b.result refl gives) refl))))

  pub wrapper_exposes : is_declared cs t ≡ true → each (has_exposable cs y) y.code ≡ true
  wrapper_exposes class =
      let opens : is_exposable cs y x t ≡ true = and_from _ _ class (ap (has_class (λ u. below cs u t)) object_has.0 ∙ below_self cs t) in
      and_from _ _ refl (and_from _ _ opens (and_from _ _ refl (and_from _ _ opens (and_from _ _ refl refl))))
