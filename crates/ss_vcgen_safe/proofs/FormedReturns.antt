-- Returns, and the frame condition at a position.
use Rattle.std.proofs.Common.{◌≡◌, ℕ, zero, suc, List, [], ◌∷◌, ◌++◌, map, take, length, Bool, true, refl, subst}
use Rattle.std.specs.Prelude.{Option, Some, None, is_some, slice_get, option_to_list}
use Rattle.std.specs.List.{list_all}
use Rattle.std.proofs.lemmas.Bool.{false≢true, and_parts, lt-ltb}
use Rattle.std.proofs.lemmas.Option.{slice_get_within}
use Rattle.ss_core.specs.declared.names.Kind.TheVariants as kind
use Rattle.ss_core.specs.declared.names.Place.{Place}
use Rattle.ss_core.specs.declared.names.Ty.{Ty}
use Rattle.ss_core.specs.Tree.{ClassTree, ExprTree, BodyTree}
use Rattle.ss_store_rules.specs.Assigned.{reads_assigned}
use Rattle.ss_store_rules.specs.Formed.{IsFormedBody}
use Rattle.ss_store_rules.specs.Locals.{types_of, argument_types, argument_count, local_types}
use Rattle.ss_store_rules.specs.Typed.{is_returned}
use Rattle.ss_store_rules.specs.Types.{code_type}
use Rattle.ss_logic.specs.declared.Sort.TheVariants as sort
use Rattle.ss_logic.specs.Terms.{Term, sort_of_type}
use Rattle.ss_logic.specs.Express.{One, element_sort}
use Rattle.ss_logic.specs.Sorted.{is_object}
use Rattle.ss_logic_means.specs.Sorts.{HasSort}
use Rattle.ss_logic_means.proofs.Forming.{F, C}
use Rattle.ss_logic_means.proofs.Standing.{get_old}
use Rattle.ss_vcgen_heaps.specs.Positions.{Position, Walk, check, check_all, meant_of, meant_at, term_for}
use Rattle.ss_vcgen_heaps.specs.Contracts.{contract_context, conditions}
use Rattle.ss_vcgen_heaps.specs.Obligations.{classes_of, arguments_at, result_settled, settle_result, frame_formula, evaluate_result, return_with}
use Rattle.ss_logic_tables.proofs.Bodies.{formed_typed}
use Rattle.ss_vcgen_safe.specs.At.{HaveTerms}
use Rattle.ss_vcgen_safe.proofs.Same.{same_evaluate_result}
use Rattle.ss_vcgen_safe.proofs.Settles.{fitting_sort}
use Rattle.ss_vcgen_safe.proofs.Stated.{formed_stated}
use Rattle.ss_vcgen_safe.specs.Places.{AreTerms, IsFormedAt}
use Rattle.ss_vcgen_safe.proofs.Contracts.{conditions_formed, frame_formed}
use Rattle.ss_vcgen_safe.proofs.FormedSteps.{checked, checked_all, ended_formed, termed, term_sorted}
use Rattle.ss_vcgen_safe.proofs.FormedValues.{fitting_some, terms_like, meaning_sorted, evaluated}

-- ---- the arguments of the body

front_terms : (cs : List ClassTree) (ts : List Ty) (ls : List (Option Term)) → ((i : ℕ) (a : Ty) → slice_get ts i ≡ Some a → (u : Term) × (slice_get ls i ≡ Some (Some u)) × HasSort cs [] (sort_of_type a) u) → AreTerms cs ts (map meant_of (take (length ts) ls))
front_terms cs [] [] f = tt
front_terms cs [] (l ∷ ls) f = tt
front_terms cs (t ∷ ts) [] f = let z = f zero t refl in let e = z.1 in let no : ⊥ = cc in absurd no
front_terms cs (t ∷ ts) (None ∷ ls) f = let z = f zero t refl in let e = z.1 in let no : ⊥ = cc in absurd no
front_terms cs (t ∷ ts) (Some u ∷ ls) f =
    let z = f zero t refl in
    let e = z.1 in
    let same : z.0 ≡ u = cc in
    (record { term = u; is = refl; sorted = subst (λ y. HasSort cs [] (sort_of_type t) y) same z.2 }, front_terms cs ts ls (λ i. f (suc i)))

-- an argument has its type among the locals
pub argument_type : (b : BodyTree) (i : ℕ) (a : Ty) → slice_get (argument_types b) i ≡ Some a → slice_get (local_types b) i ≡ Some a
argument_type b i a e = get_old (argument_types b ++ types_of b.locals) (option_to_list b.result) i a (get_old (argument_types b) (types_of b.locals) i a e)

module _ (w : Walk) where
  abbrev cs : List ClassTree
  cs = w.program.classes

  pub arguments_sorted : (k : Position) → IsFormedAt w k → AreTerms cs (argument_types w.body) (arguments_at w k)
  arguments_sorted k is = front_terms cs (argument_types w.body) k.locals one
    where
      one : (i : ℕ) (a : Ty) → slice_get (argument_types w.body) i ≡ Some a → (u : Term) × (slice_get k.locals i ≡ Some (Some u)) × HasSort cs [] (sort_of_type a) u
      one i a e = let u = is.arguments i (lt-ltb i (argument_count w.body) (slice_get_within (argument_types w.body) i a e)) in (u.0, u.1, is.locals i a u.0 (argument_type w.body i a e) u.1)

module _ (w : Walk) (body : IsFormedBody w.program w.body) (entry : HasSort w.program.classes [] sort.Store w.entry) where
  pub frame_at : (outside : List Term) (k : Position) → list_all (is_object w.program.classes) outside ≡ true → IsFormedAt w k → F w.program.classes [] (frame_formula w outside k)
  frame_at outside k objects is =
      frame_formed w.program.classes w.body (formed_typed w.program w.body body) w.entry k.store entry is.store (arguments_at w k) (arguments_sorted w k is) outside objects

  -- ---- the result

  read_one : (xs : ℕ → Bool) (e : ExprTree) → list_all (reads_assigned w.body xs) (e ∷ []) ≡ true → reads_assigned w.body xs e ≡ true
  read_one xs e h = (and_parts (reads_assigned w.body xs e) true h).0

  -- a result has a type, of the sort of that of the body
  result_fits : (r : Option Ty) (e : ExprTree) → is_returned w.program.classes w.body r (Some e) ≡ true → (is_some (code_type w.program.classes w.body e) ≡ true) × (element_sort (code_type w.program.classes w.body e) ≡ element_sort r)
  result_fits None e h = absurd (false≢true h)
  result_fits (Some t) e h = (fitting_some w.program.classes (code_type w.program.classes w.body e) t h, fitting_sort w.program.classes (code_type w.program.classes w.body e) t h)

  none_there : (r : Option Ty) → is_returned w.program.classes w.body r None ≡ true → AreTerms w.program.classes (option_to_list r) []
  none_there None h = tt
  none_there (Some t) h = absurd (false≢true h)

  one_there : (r : Option Ty) (e : ExprTree) → is_returned w.program.classes w.body r (Some e) ≡ true → (u : Term) → HasSort w.program.classes [] (element_sort r) u → AreTerms w.program.classes (option_to_list r) (One u ∷ [])
  one_there None e h u sorted = absurd (false≢true h)
  one_there (Some t) e h u sorted = (record { term = u; is = refl; sorted = sorted }, tt)

  module _ (xs : ℕ → Bool) where
    -- a result is evaluated and settled
    result_evaluated : (e : Option ExprTree) (k : Position) → is_returned w.program.classes w.body w.body.result e ≡ true → list_all (reads_assigned w.body xs) (option_to_list e) ≡ true → IsFormedAt w k → HaveTerms xs k.locals → IsFormedAt w (evaluate_result w e k)
    result_evaluated None k h reads is have = is
    result_evaluated (Some e) k h reads is have = evaluated w entry xs k is have e (read_one xs e reads) (result_fits w.body.result e h).0

    result_there : (e : Option ExprTree) (k : Position) → is_returned w.program.classes w.body w.body.result e ≡ true → list_all (reads_assigned w.body xs) (option_to_list e) ≡ true → IsFormedAt w k → HaveTerms xs k.locals →
        IsFormedAt w (settle_result w e k) × AreTerms w.program.classes (option_to_list w.body.result) (result_settled w e k)
    result_there None k h reads is have = (is, none_there w.body.result h)
    result_there (Some e) k h reads is have =
        let fits = result_fits w.body.result e h in
        let s = element_sort w.body.result in
        let m = meant_at w e k in
        let sorted = subst (λ s. C w.program.classes [] s m) fits.1 (meaning_sorted w entry xs k is have e (read_one xs e reads) fits.0) in
        (termed w s m k sorted is, one_there w.body.result e h (term_for s m k) (term_sorted w s m k sorted))

    result_like : (e : Option ExprTree) (k : Position) → HaveTerms xs k.locals → HaveTerms xs (evaluate_result w e k).locals
    result_like e k have = terms_like xs k (evaluate_result w e k) (same_evaluate_result w e k).like have

    pub return_formed : (at : Place) (e : Option ExprTree) (k : Position) → is_returned w.program.classes w.body w.body.result e ≡ true → list_all (reads_assigned w.body xs) (option_to_list e) ≡ true → IsFormedAt w k → HaveTerms xs k.locals → IsFormedAt w (return_with w at e k)
    return_formed at e k h reads is have =
        let a = evaluate_result w e k in
        let st = result_there e a h reads (result_evaluated e k h reads is have) (result_like e k have) in
        let b = settle_result w e a in
        let ms = arguments_at w b in
        let fs = conditions w.body.exit (contract_context (classes_of w) w.body b.store w.entry ms (result_settled w e a)) in
        let stated = formed_stated w.program w.body body in
        let c = check_all w kind.Postcondition at fs b in
        let is_c =
        checked_all w kind.Postcondition at fs b
        (conditions_formed w.program.classes w.body b.store w.entry st.0.store entry ms (result_settled w e a) (arguments_sorted w b st.0) st.1 w.body.exit stated.exit) st.0 in
        let f = frame_formula w [] c in
        ended_formed w (check w kind.Frame at f c) (checked w kind.Frame at f c (frame_at [] c refl is_c) is_c)
