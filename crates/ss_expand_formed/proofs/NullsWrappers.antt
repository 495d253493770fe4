-- A wrapper keeps nulls out: it hands over its parameters and returns what it gets.
use Rattle.std.proofs.Common.{◌≡◌, ℕ, suc, ◌+◌, List, [], ◌∷◌, ◌++◌, length, Bool, true, false, Option, Some, None, refl, ◌∙◌, ap, subst, arith, append_assoc}
use Rattle.std.specs.Prelude.{not, ◌||◌, slice_get, option_to_list}
use Rattle.std.proofs.lemmas.Bool.{and_from, or_left}
use Rattle.std.proofs.lemmas.List.{length-map}
use Rattle.ss_core.specs.declared.names.Place.{Place}
use Rattle.ss_core.specs.declared.names.Ty.{Ty}
use Rattle.ss_core.specs.Tree as core
use Rattle.ss_core.specs.Tree.{LocalExpr, Base, AssignStmt, CallStmt, UnpackStmt, PackStmt, ReturnStmt}
use Rattle.ss_typed.specs.Tree.{ParamTree, BodyTree, TypedTree}
use Rattle.ss_typed.specs.Types.{class_type}
use Rattle.ss_expand_rules.specs.Program.{above_of, number_in_table}
use Rattle.ss_expand_rules.specs.Bodies.{own_params, temporaries_from, wrapper_types, wrapper_result, returned, first_of_wrapper, wrapper_body}
use Rattle.ss_store_rules.specs.Good.{is_non_null}
use Rattle.ss_store_rules.specs.Locals.{this_types, types_of, local_types}
use Rattle.ss_store_rules.specs.Typed.{callee_of}
use Rattle.ss_store_rules.specs.NonNull.{Known, known_at_entry, known_after, is_non_null_type, result_of, may_stand_at, arguments_may_stand, may_enter, may_keep, may_return, keeps_nulls_out}
use Rattle.ss_expand_formed.specs.Bodies.{Wraps}
use Rattle.ss_expand_formed.proofs.Numbers.{in_middle, param_types, params_types, temporaries_types}

module _ (c : core.CoreTree) (p : TypedTree) (q : Place) (t m : ℕ) (b : BodyTree) (bs : List BodyTree) where
  abbrev y : core.BodyTree
  y = wrapper_body p q t m b bs

  abbrev x : ℕ
  x = first_of_wrapper b

  abbrev n : ℕ
  n = number_in_table p (above_of p t) m

  abbrev type_at : ℕ → Option Ty
  type_at i = slice_get (local_types y) i

  -- ---- the types of its locals

  abbrev P : List Ty
  P = param_types b.params

  abbrev T : List Ty
  T = wrapper_types t b.result

  abbrev A : List Ty
  A = this_types y

  all_types : local_types y ≡ ((A ++ P) ++ T) ++ option_to_list b.result
  all_types = ap (λ ts. (A ++ ts ++ types_of (temporaries_from 0 T)) ++ option_to_list b.result) (params_types b.params) ∙ ap (λ ts. ((A ++ P) ++ ts) ++ option_to_list b.result) (temporaries_types 0 T)

  param_size : length P ≡ length b.params
  param_size = length-map b.params (λ (z : ParamTree). z.ty)

  param_at : (i : ℕ) (u : Ty) → slice_get P i ≡ Some u → type_at (1 + i) ≡ Some u
  param_at i u h =
      let e : ((A ++ P) ++ T) ++ option_to_list b.result ≡ A ++ (P ++ (T ++ option_to_list b.result)) = simp append_assoc in
      ap (λ ts. slice_get ts (1 + i)) (all_types ∙ e) ∙ in_middle A P (T ++ option_to_list b.result) 1 i u refl h

  made_at : (i : ℕ) (u : Ty) → slice_get T i ≡ Some u → type_at (x + i) ≡ Some u
  made_at i u h =
      let e : ((A ++ P) ++ T) ++ option_to_list b.result ≡ (A ++ P) ++ (T ++ option_to_list b.result) = simp append_assoc in
      let size = length-append_one in
      ap (λ ts. slice_get ts (x + i)) (all_types ∙ e) ∙ in_middle (A ++ P) T (option_to_list b.result) x i u (omega (arith, size, param_size)) h
    where
      length-append_one : length (A ++ P) ≡ suc (length P)
      length-append_one = refl

  first_at : type_at x ≡ Some (class_type t false)
  first_at = subst (λ k. type_at k ≡ Some (class_type t false)) (let e : x + 0 ≡ x = omega arith in e) (made_at 0 (class_type t false) (by b.result))
    where
      by : (r : Option Ty) → slice_get (wrapper_types t r) 0 ≡ Some (class_type t false)
      by None = refl
      by (Some u) = refl

  -- ---- what is asked

  stands : (l : Known) (z : ℕ) (o : Option Ty) → type_at z ≡ o → (q : Place) → may_stand_at c y l (LocalExpr q z) o ≡ true
  stands l z None h q = refl
  stands l z (Some u) h q = by (is_non_null u) refl
    where
      by : (k : Bool) → is_non_null u ≡ k → (not k || (is_non_null_type (type_at z) || l.facts z)) ≡ true
      by true i = or_left _ _ (ap is_non_null_type h ∙ i)
      by false i = refl

  hands : (l : Known) (at : ℕ) (qs : List ParamTree) → ((i : ℕ) (u : Ty) → slice_get (param_types qs) i ≡ Some u → type_at (at + i) ≡ Some u) → arguments_may_stand c y l (own_params q at qs) (param_types qs) ≡ true
  hands l at [] h = refl
  hands l at (z ∷ qs) h =
      let here : type_at at ≡ Some z.ty = subst (λ k. type_at k ≡ Some z.ty) (let e : at + 0 ≡ at = omega arith in e) (h 0 z.ty refl) in
      and_from _ _ (stands l at (Some z.ty) here q) (hands l (at + 1) qs (λ i u g. subst (λ k. type_at k ≡ Some u) (let e : at + suc i ≡ at + 1 + i = omega arith in e) (h (suc i) u g)))

  module _ (wraps : Wraps c y n b) where
    enters : (l : Known) → may_enter c y l (own_params q 1 b.params) (callee_of c y (Base n)) ≡ true
    enters l = ap (may_enter c y l (own_params q 1 b.params)) wraps.there ∙ ap (arguments_may_stand c y l (own_params q 1 b.params)) wraps.params ∙ hands l 1 b.params param_at

    keeps : (r : Option Ty) → b.result ≡ r → may_keep y (wrapper_result r (x + 1)) (result_of (callee_of c y (Base n))) ≡ true
    keeps None h = refl
    keeps (Some u) h =
        let kind : type_at (x + 1) ≡ Some u = made_at 1 u (ap (λ o. slice_get (wrapper_types t o) 1) h) in
        let gives : result_of (callee_of c y (Base n)) ≡ Some u = ap result_of wraps.there ∙ wraps.result ∙ h in
        ap (λ o. not (is_non_null_type o) || is_non_null_type (result_of (callee_of c y (Base n)))) kind ∙ ap (λ o. not (is_non_null u) || is_non_null_type o) gives ∙ either (is_non_null u)
      where
        either : (k : Bool) → (not k || k) ≡ true
        either true = refl
        either false = refl

    returns : (l : Known) (r : Option Ty) → b.result ≡ r → may_return c y l (returned q (wrapper_result r (x + 1))) ≡ true
    returns l None h = refl
    returns l (Some u) h = ap (may_stand_at c y l (LocalExpr q (x + 1))) h ∙ stands l (x + 1) (Some u) (made_at 1 u (ap (λ o. slice_get (wrapper_types t o) 1) h)) q

    pub wrapper_keeps : keeps_nulls_out c y ≡ true
    wrapper_keeps =
        let first = known_after c y (AssignStmt q x (LocalExpr q 0)) (known_at_entry y) in
        let called = known_after c y (CallStmt q (wrapper_result b.result (x + 1)) (Base n) (own_params q 1 b.params)) first in
        and_from _ _ (ap (may_stand_at c y (known_at_entry y) (LocalExpr q 0)) first_at)
        (and_from _ _ refl (and_from _ _ (and_from _ _ (enters first) (keeps b.result refl)) (and_from _ _ refl (and_from _ _ (returns called b.result refl) refl))))

pub wrappers_keep : (c : core.CoreTree) (p : TypedTree) (q : Place) (t m : ℕ) (b : BodyTree) (bs : List BodyTree) → Wraps c (wrapper_body p q t m b bs) (number_in_table p (above_of p t) m) b → keeps_nulls_out c (wrapper_body p q t m b bs) ≡ true
wrappers_keep c p q t m b bs wraps = wrapper_keeps c p q t m b bs wraps
