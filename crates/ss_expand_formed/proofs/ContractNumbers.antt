-- The numbers in the contract of a written body stand for its arguments, its result and its bound names.
use Rattle.std.proofs.Common.{◌≡◌, ◌≢◌, ℕ, ◌+◌, ◌<◌, List, [], ◌∷◌, ◌++◌, length, map, true, false, Option, Some, None, refl, sym, ◌∙◌, ap, arith, inl, append_assoc}
use Rattle.std.specs.Prelude.{◌&&◌, ◌==◌, slice_get, is_some, option_to_list}
use Rattle.std.proofs.lemmas.Bool.{ne_eqb}
use Rattle.std.proofs.lemmas.Option.{slice_get_within}
use Rattle.std.proofs.lemmas.List.{length-append, length-map, map-append}
use Rattle.ss_core.specs.declared.names.Ty.{Ty}
use Rattle.ss_core.specs.Tree as core
use Rattle.ss_core.specs.Tree.{LocalTree}
use Rattle.ss_typed.specs.Tree.{ParamTree, BodyTree, TypedTree}
use Rattle.ss_typed.specs.Types.{class_type}
use Rattle.ss_expand_rules.specs.Bodies.{param_of, copies, temporaries_from, temporary_types, contract_numbers, written_body}
use Rattle.ss_store_rules.specs.Locals.{types_of, argument_types, local_types, result_number, is_result}
use Rattle.ss_expand_formed.proofs.Searching.{at_back}
use Rattle.ss_expand_formed.proofs.Locals.{have_numbers}
use Rattle.ss_expand_formed.proofs.Environments.{this_in, param_types, context_of}
use Rattle.ss_expand_formed.proofs.Plain.{bare, Reads}
use Rattle.ss_expand_formed.proofs.ExpressionsWords.{Apart}
use Rattle.ss_expand_formed.proofs.BodyPlaces.{there_in_front}

params_types : (qs : List ParamTree) → types_of (map param_of qs) ≡ map (λ (q : ParamTree). q.ty) qs
params_types [] = refl
params_types (q ∷ qs) = ap (λ ts. q.ty ∷ ts) (params_types qs)

result_long : (r : Option Ty) → is_some r ≡ true → length (option_to_list r) ≡ 1
result_long None h = absurd (let z : ⊥ = cc in z)
result_long (Some t) h = refl

no_result : (r : Option Ty) (x n : ℕ) → (is_some r ≡ true → x ≢ n) → (is_some r && x == n) ≡ false
no_result None x n h = refl
no_result (Some t) x n h = ne_eqb x n (h refl)

module _ (P : TypedTree) (b : BodyTree) (bs : List BodyTree) where
  abbrev Y : core.BodyTree
  Y = written_body P b bs

  -- the types of all locals but the result
  abbrev front : List Ty
  front = argument_types Y ++ types_of Y.locals

  abbrev rest : List Ty
  rest = types_of (copies b) ++ types_of (temporaries_from 0 (temporary_types P b))

  -- the context's stand in front
  front_is : front ≡ (context_of b).locals ++ rest
  front_is =
      ap (λ ts. (this_in b ++ ts) ++ types_of Y.locals) (params_types b.params)
      ∙ ap (λ ts. (this_in b ++ param_types b) ++ ts) (map-append (λ (l : LocalTree). l.ty) (b.locals ++ copies b) (temporaries_from 0 (temporary_types P b)) ∙ ap (λ ts. ts ++ types_of (temporaries_from 0 (temporary_types P b))) (map-append (λ (l : LocalTree). l.ty) b.locals (copies b)))
      ∙ sym (append_assoc (this_in b ++ param_types b) (types_of b.locals ++ types_of (copies b)) (types_of (temporaries_from 0 (temporary_types P b))))
      ∙ ap (λ ts. ts ++ types_of (temporaries_from 0 (temporary_types P b))) (sym (append_assoc (this_in b ++ param_types b) (types_of b.locals) (types_of (copies b))))
      ∙ append_assoc (this_in b ++ param_types b ++ types_of b.locals) (types_of (copies b)) (types_of (temporaries_from 0 (temporary_types P b)))

  front_long : length front ≡ result_number Y
  front_long = length-append (argument_types Y) (types_of Y.locals) ∙ ap (λ n. length (argument_types Y) + n) (length-map Y.locals (λ (l : LocalTree). l.ty))

  pub context_there : (y : ℕ) (t : Ty) → slice_get (context_of b).locals y ≡ Some t → slice_get (local_types Y) y ≡ Some t
  context_there y t h = there_in_front front (option_to_list b.result) y t (ap (λ ts. slice_get ts y) front_is ∙ there_in_front (context_of b).locals rest y t h)

  context_short : (y : ℕ) (t : Ty) → slice_get (context_of b).locals y ≡ Some t → y < result_number Y
  context_short y t h =
      let l = slice_get_within front y t (ap (λ ts. slice_get ts y) front_is ∙ there_in_front (context_of b).locals rest y t h) in
      let e = front_long in
      omega arith

  pub result_there : (t : Ty) → b.result ≡ Some t → slice_get (local_types Y) (contract_numbers P b).outcome ≡ Some t
  result_there t h =
      let n = have_numbers P b bs in
      let e = front_long in
      let i : (contract_numbers P b).outcome ≡ length front + 0 = (sym n.outcome) ∙ (omega arith) in
      ap (slice_get (local_types Y)) i ∙ at_back front (option_to_list b.result) 0 ∙ ap (λ o. slice_get (option_to_list o) 0) h

  pub contract_reads : (C : List core.ClassTree) → Reads C (context_of b) (contract_numbers P b) (local_types Y)
  contract_reads C = record {
    locals = λ y t h. ap bare (context_there y t h);
    this = λ d h. inl (ap bare (context_there 0 (class_type d true) h));
    result = λ t h. ap bare (result_there t h);
    bound = (have_numbers P b bs).bound;
  }

  before_result : (y : ℕ) → y < result_number Y → is_result Y y ≡ false
  before_result y l = no_result b.result y (result_number Y) (λ s e. omega arith)

  after_result : (n : ℕ) → is_result Y ((contract_numbers P b).first_bound + n) ≡ false
  after_result n =
      no_result b.result ((contract_numbers P b).first_bound + n) (result_number Y)
      (λ some same.
      let size = length-append front (option_to_list b.result) in
      let one = result_long b.result some in
      let e = front_long in
      let bound = (have_numbers P b bs).bound in
      omega arith)

  pub contract_apart : Apart Y (context_of b) (contract_numbers P b)
  contract_apart = record {
    locals = λ y t h. before_result y (context_short y t h);
    this = λ t h. before_result 0 (context_short 0 t h);
    bound = after_result;
  }
