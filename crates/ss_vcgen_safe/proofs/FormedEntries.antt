-- The entry of a body: its arguments are constants of the sorts of their types.
use Rattle.std.proofs.Common.{◌≡◌, ℕ, zero, suc, ◌<◌, ◌+◌, List, [], ◌∷◌, ◌++◌, map, length, refl, sym, ◌∙◌, ap, subst, append_assoc, append-nil, length-append, arith}
use Rattle.std.specs.Prelude.{Option, Some, None, is_some, slice_get, option_to_list, if◌then◌else◌}
use Rattle.std.proofs.lemmas.Bool.{ltb-true}
use Rattle.ss_core.specs.declared.names.Ty.{Ty}
use Rattle.ss_core.specs.Tree.{ClassTree, LocalTree, BodyTree, CoreTree}
use Rattle.ss_store_rules.specs.Formed.{IsFormedBody}
use Rattle.ss_store_rules.specs.Locals.{types_of, argument_types, argument_count, local_types, is_argument}
use Rattle.ss_logic.specs.declared.Sort.TheVariants as sort
use Rattle.ss_logic.specs.Terms.{Term, sort_of_type}
use Rattle.ss_logic.specs.Formulas.{Formula}
use Rattle.ss_logic.specs.Express.{element_sort}
use Rattle.ss_logic_means.specs.Sorts.{HasSort, AreWellFormed}
use Rattle.ss_logic_means.proofs.Sorting.{more_formed}
use Rattle.ss_logic_means.proofs.Standing.{get_old}
use Rattle.ss_vcgen_heaps.specs.Positions.{Always, Counters, Position, Walk, good, new_term, with_new}
use Rattle.ss_vcgen_heaps.specs.Contracts.{is_of_type, contract_context, no_result, conditions}
use Rattle.ss_vcgen_heaps.specs.Obligations.{classes_of, is_asked_ready, argument_types_from, arguments_at, enter_arguments, first_position, walk_of, at_entry}
use Rattle.ss_vcgen_safe.specs.At.{HaveTerms}
use Rattle.ss_vcgen_safe.proofs.Paths.{IsReachable, IsPlaced}
use Rattle.ss_vcgen_safe.proofs.Same.{same_assume_all}
use Rattle.ss_vcgen_safe.proofs.Stated.{formed_stated}
use Rattle.ss_vcgen_safe.specs.Formed.{AreFormed}
use Rattle.ss_vcgen_safe.specs.Places.{AreSorted, IsFormedAt}
use Rattle.ss_vcgen_safe.proofs.Contracts.{no_result_terms, conditions_formed}
use Rattle.ss_vcgen_safe.proofs.FormedSteps.{assumed_all, good_formed}
use Rattle.ss_vcgen_safe.proofs.FormedCalls.{type_formed}
use Rattle.ss_vcgen_safe.proofs.FormedReturns.{argument_type, arguments_sorted}
use Rattle.ss_vcgen_safe.proofs.FormedJoins.{tail_sorted}

-- ---- lists of terms

-- a term of the sort of each of these types
abbrev AreGiven : List ClassTree → List Ty → List (Option Term) → Type 0
AreGiven cs [] [] = Unit {0}
AreGiven cs (t ∷ ts) (Some u ∷ ls) = HasSort cs [] (sort_of_type t) u × AreGiven cs ts ls
AreGiven cs ts ls = ⊥

-- none of these locals has a term
abbrev AllNone : List (Option Term) → Type 0
AllNone ls = (x : ℕ) (t : Term) → slice_get ls x ≡ Some (Some t) → ⊥

module _ (cs : List ClassTree) where
  given_more : (ts : List Ty) (ls : List (Option Term)) (t : Ty) (u : Term) → AreGiven cs ts ls → HasSort cs [] (sort_of_type t) u → AreGiven cs (ts ++ t ∷ []) (ls ++ Some u ∷ [])
  given_more [] [] t u h s = (s, tt)
  given_more [] (l ∷ ls) t u h s = absurd h
  given_more (r ∷ ts) [] t u h s = absurd h
  given_more (r ∷ ts) (None ∷ ls) t u h s = absurd h
  given_more (r ∷ ts) (Some v ∷ ls) t u h s = (h.0, given_more ts ls t u h.1 s)

  given_count : (ts : List Ty) (ls : List (Option Term)) → AreGiven cs ts ls → length ls ≡ length ts
  given_count [] [] h = refl
  given_count [] (l ∷ ls) h = absurd h
  given_count (t ∷ ts) [] h = absurd h
  given_count (t ∷ ts) (None ∷ ls) h = absurd h
  given_count (t ∷ ts) (Some u ∷ ls) h = ap suc (given_count ts ls h.1)

  given_there : (ts : List Ty) (ls : List (Option Term)) → AreGiven cs ts ls → (x : ℕ) → x < length ts → (u : Term) × (slice_get ls x ≡ Some (Some u))
  given_there [] [] h x l = absurd (omega (arith, l))
  given_there [] (o ∷ ls) h x l = absurd h
  given_there (t ∷ ts) [] h x l = absurd h
  given_there (t ∷ ts) (None ∷ ls) h x l = absurd h
  given_there (t ∷ ts) (Some u ∷ ls) h zero l = (u, refl)
  given_there (t ∷ ts) (Some u ∷ ls) h (suc x) l = given_there ts ls h.1 x (omega (arith, l))

  given_sorted : (ts us : List Ty) (ls others : List (Option Term)) → AreGiven cs ts ls → AllNone others → AreSorted cs (ts ++ us) (ls ++ others)
  given_sorted [] us [] others h none x a t typed there = absurd (none x t there)
  given_sorted [] us (l ∷ ls) others h none x a t typed there = absurd h
  given_sorted (r ∷ ts) us [] others h none x a t typed there = absurd h
  given_sorted (r ∷ ts) us (None ∷ ls) others h none x a t typed there = absurd h
  given_sorted (r ∷ ts) us (Some u ∷ ls) others h none zero a t typed there =
      let same : r ≡ a = cc in
      let is : u ≡ t = cc in
      subst (λ y. HasSort cs [] (sort_of_type y) t) same (subst (λ y. HasSort cs [] (sort_of_type r) y) is h.0)
  given_sorted (r ∷ ts) us (Some u ∷ ls) others h none (suc x) a t typed there = given_sorted ts us ls others h.1 none x a t typed there

-- the locals that are no arguments, before they have values
abbrev local_places : List LocalTree → List (Option Term)
local_places ls = map (λ l. None) ls

abbrev result_place : Option Ty → List (Option Term)
result_place r = if is_some r then None ∷ [] else []

none_of : (ls : List LocalTree) (rest : List (Option Term)) → AllNone rest → AllNone (local_places ls ++ rest)
none_of [] rest n x t e = n x t e
none_of (l ∷ ls) rest n zero t e = cc
none_of (l ∷ ls) rest n (suc x) t e = none_of ls rest n x t e

no_result_term : (r : Option Ty) → AllNone (result_place r)
no_result_term None x t e = cc
no_result_term (Some r) zero t e = cc
no_result_term (Some r) (suc x) t e = cc

result_count : (r : Option Ty) → length (result_place r) ≡ length (option_to_list r)
result_count None = refl
result_count (Some t) = refl

places_count : (ls : List LocalTree) → length (local_places ls) ≡ length (types_of ls)
places_count [] = refl
places_count (l ∷ ls) = ap suc (places_count ls)

-- ---- the entry

module _ (c : CoreTree) (n : ℕ) (b : BodyTree) (next : Counters) (formed : IsFormedBody c b) where
  abbrev cs : List ClassTree
  cs = c.classes

  abbrev w : Walk
  w = walk_of c n b next

  -- where some of the arguments have their constants
  record IsEntering (k : Position) (ts : List Ty) : Type 0 where
    store : HasSort cs [] sort.Store k.store
    guard : k.guard ≡ Always
    locals : AreGiven cs ts k.locals
    premises : AreWellFormed cs [] k.premises
    listed : AreFormed cs k.listed

  abbrev with_argument : Ty → Position → Position
  with_argument t k = record (with_new (element_sort (Some t)) k) { locals = k.locals ++ Some (new_term (element_sort (Some t)) k) ∷ [] }

  all_entered : (ts os : List Ty) (k : Position) → IsEntering k os → IsEntering (enter_arguments ts k) (os ++ ts)
  all_entered [] os k e = subst (IsEntering k) (sym (append-nil os)) e
  all_entered (t ∷ ts) os k e =
      let u = new_term (element_sort (Some t)) k in
      let one : IsEntering (with_argument t k) (os ++ t ∷ []) =
      record { store = e.store; guard = e.guard; locals = given_more cs os k.locals t u e.locals (refl, refl); premises = e.premises; listed = e.listed } in
      subst (IsEntering (enter_arguments ts (with_argument t k))) (append_assoc os (t ∷ []) ts) (all_entered ts (os ++ t ∷ []) (with_argument t k) one)

  abbrev entered : Position
  entered = enter_arguments (argument_types b) (first_position b next)

  is_entered : IsEntering entered (argument_types b)
  is_entered = all_entered (argument_types b) [] (first_position b next) (record { store = (refl, refl); guard = refl; locals = tt; premises = tt; listed = tt })

  abbrev others : List (Option Term)
  others = local_places b.locals ++ result_place b.result

  abbrev start : Position
  start = record entered { locals = entered.locals ++ local_places b.locals ++ result_place b.result }

  start_locals : AreSorted cs (local_types b) start.locals
  start_locals =
      subst (λ ts. AreSorted cs ts start.locals) (sym (append_assoc (argument_types b) (types_of b.locals) (option_to_list b.result)))
      (subst (λ ls. AreSorted cs (argument_types b ++ (types_of b.locals ++ option_to_list b.result)) ls) (sym (append_assoc entered.locals (local_places b.locals) (result_place b.result)))
      (given_sorted cs (argument_types b) (types_of b.locals ++ option_to_list b.result) entered.locals others is_entered.locals (none_of b.locals (result_place b.result) (no_result_term b.result))))

  start_count : length start.locals ≡ length (local_types b)
  start_count =
      let given = given_count cs (argument_types b) entered.locals is_entered.locals in
      let places = places_count b.locals in
      let result = result_count b.result in
      let a = length-append (entered.locals ++ local_places b.locals) (result_place b.result) in
      let d = length-append entered.locals (local_places b.locals) in
      let e = length-append (argument_types b ++ types_of b.locals) (option_to_list b.result) in
      let f = length-append (argument_types b) (types_of b.locals) in
      omega (arith, given, places, result, a, d, e, f)

  start_arguments : HaveTerms (is_argument b) start.locals
  start_arguments x asked =
      let u = given_there cs (argument_types b) entered.locals is_entered.locals x (ltb-true x (argument_count b) asked) in
      (u.0, get_old (entered.locals ++ local_places b.locals) (result_place b.result) x (Some u.0) (get_old entered.locals (local_places b.locals) x (Some u.0) u.1))

  start_formed : IsFormedAt w start
  start_formed = record { store = is_entered.store; count = start_count; locals = start_locals; arguments = start_arguments; premises = is_entered.premises; listed = is_entered.listed }

  -- ---- what is assumed there

  types_formed : (s : Term) → HasSort cs [] sort.Store s → (x : ℕ) (ts : List Ty) (ls : List (Option Term)) → AreSorted cs ts ls → AreWellFormed cs [] (argument_types_from w s x ts ls)
  types_formed s h x [] ls a = tt
  types_formed s h x (t ∷ ts) [] a = tt
  types_formed s h x (t ∷ ts) (None ∷ ls) a = types_formed s h (x + 1) ts ls (tail_sorted cs t ts None ls a)
  types_formed s h x (t ∷ ts) (Some u ∷ ls) a =
      more_formed cs [] (is_of_type (is_asked_ready w x) s t u) (argument_types_from w s (x + 1) ts ls) (type_formed cs s u h (is_asked_ready w x) t (a 0 t u refl refl))
      (types_formed s h (x + 1) ts ls (tail_sorted cs t ts (Some u) ls a))

  abbrev first_facts : List Formula
  first_facts = good start.store ∷ argument_types_from w start.store 0 (argument_types b) start.locals

  abbrev entry_facts : List Formula
  entry_facts = conditions b.entry (contract_context (classes_of w) b start.store start.store (arguments_at w start) (no_result b))

  pub entry_formed : IsFormedAt w (at_entry w next)
  entry_formed =
      let is = start_formed in
      let types = types_formed start.store is.store 0 (argument_types b) start.locals (λ i a t typed there. is.locals i a t (argument_type b i a typed) there) in
      let stated = formed_stated c b formed in
      let contract = conditions_formed cs b start.store start.store is.store is.store (arguments_at w start) (no_result b) (arguments_sorted w start is) (no_result_terms cs b) b.entry stated.entry in
      assumed_all w (first_facts ++ entry_facts) start (more_formed cs [] first_facts entry_facts (good_formed w start.store is.store, types) contract) is

  -- the entry is reached, and the arguments have terms there
  pub entry_placed : IsPlaced (Some (is_argument b)) (at_entry w next)
  entry_placed =
      let same = (same_assume_all (first_facts ++ entry_facts) start).like in
      (subst IsReachable (sym (same.guard ∙ is_entered.guard)) tt, subst (HaveTerms (is_argument b)) (sym same.locals) start_arguments)
