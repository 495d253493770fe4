-- The entry of a body: a structure in which the run is at the position there.
use Rattle.std.proofs.Common.{◌≡◌, ℕ, zero, suc, ◌<◌, ◌+◌, pos, List, [], ◌∷◌, ◌++◌, map, take, length, Bool, true, false, not, ◌&&◌, ◌||◌, refl, sym, ◌∙◌, ap, subst, arith, append_assoc, append-nil, length-append}
use Rattle.std.specs.Prelude.{Option, Some, None, is_some, option_to_list, slice_get, unwrap_or, ◌==◌, if◌then◌else◌}
use Rattle.std.specs.List.{list_all}
use Rattle.std.proofs.lemmas.Bool.{false≢true, and_parts, lt-ltb, ltb-true}
use Rattle.std.proofs.lemmas.List.{length-map}
use Rattle.std.proofs.lemmas.Option.{slice_get_within}
use Rattle.ss_core.specs.declared.names.Ty.{Ty}
use Rattle.ss_core.specs.Tree.{ClassTree, ExprTree, LocalTree, BodyTree, CoreTree}
use Rattle.ss_store_rules.specs.declared.Value.{Value as ObjectValue}
use Rattle.ss_store_rules.specs.declared.Value.TheVariants as value
use Rattle.ss_store_rules.specs.Store.{Object, default_value}
use Rattle.ss_store_rules.specs.Good.{has_type, is_non_null, IsReady, IsGood}
use Rattle.ss_store_rules.specs.Admissible.{invariants_hold}
use Rattle.ss_store_rules.specs.Values.{setting, holds}
use Rattle.ss_store_rules.specs.Locals.{types_of, argument_types, argument_count, local_types, is_argument, is_bound}
use Rattle.ss_store_rules.specs.Types.{in_requires}
use Rattle.ss_store_rules.specs.Typed.{is_entry}
use Rattle.ss_store_rules.specs.NonNull.{is_non_null_type, known_at_entry}
use Rattle.ss_store_rules.specs.Formed.{IsFormedBody, IsFormed}
use Rattle.ss_machine_rules.specs.States.{locals_at_entry}
use Rattle.ss_machine_rules.specs.Steps.{all_hold}
use Rattle.ss_machine_typed.specs.Settings.{AreGoodArguments}
use Rattle.ss_machine_typed.proofs.Older.{older_self}
use Rattle.ss_machine_typed.proofs.First.{entered_locals}
use Rattle.ss_machine_good.specs.Known.{IsNotNull, IsTrueOf}
use Rattle.ss_machine_good.proofs.Frames.{entry_known}
use Rattle.ss_logic.specs.declared.Sort.TheVariants as sort
use Rattle.ss_logic.specs.Values.{Heap, IsNumbered, Table, null, as_store, sort_of_value, Structure}
use Rattle.ss_logic.specs.Terms.{Term, sort_of_type}
use Rattle.ss_logic.specs.Formulas.{Formula, True, Hold}
use Rattle.ss_logic.specs.Objects.{IsGoodStore, objects_of}
use Rattle.ss_logic.specs.Express.{Context, holds_formula, element_sort}
use Rattle.ss_logic_means.specs.Means.{standing, Means}
use Rattle.ss_logic_means.specs.Sorts.{HasSort}
use Rattle.ss_logic_means.proofs.Contracts.{contract_stated}
use Rattle.ss_logic_tables.specs.Tabled.{IsStoreOf}
use Rattle.ss_logic_tables.specs.Spans.{AreArguments}
use Rattle.ss_logic_tables.specs.Conditions.{ContractTerms, ContractValues, IsContract}
use Rattle.ss_logic_tables.proofs.Standing.{entry_arguments}
use Rattle.ss_logic_tables.proofs.Contexts.{term_argument, contract_means}
use Rattle.ss_vcgen_heaps.specs.Positions.{Always, Counters, Position, Walk, raised, good, assume_all, new_term, with_new, meant_of}
use Rattle.ss_vcgen_heaps.specs.Contracts.{is_of_type, contract_context, no_result, conditions}
use Rattle.ss_vcgen_heaps.specs.Obligations.{classes_of, is_asked_ready, argument_types_from, arguments_at, enter_arguments, first_position, walk_of, at_entry}
use Rattle.ss_sound_outcomes.specs.Points.{Point, scene, IsSound, ArePassed}
use Rattle.ss_vcgen_safe.specs.At.{IsAlike, Stays, HasValue, HoldIn, IsOn, IsStore, IsLocal, Agrees, Rises, activation}
use Rattle.ss_vcgen_safe.proofs.Alike.{rises_new, stays_on, store_on, table_on, new_constant}
use Rattle.ss_vcgen_safe.proofs.Guards.{hold_more}
use Rattle.ss_vcgen_safe.proofs.PositionsJoins.{typed_sort}
use Rattle.ss_vcgen_safe.proofs.Keeps.{AllMean, conditions_true, assumed_all}
use Rattle.ss_vcgen_safe.proofs.Same.{same_assume_all}
use Rattle.ss_vcgen_safe.proofs.PositionsTerms.{standing_numbered}
use Rattle.ss_vcgen_safe.specs.Goes.{IsHere}
use Rattle.ss_vcgen_safe.proofs.Types.{type_true}

-- ---- lists

get_front : {X : Type 0} → (xs ys : List X) (i : ℕ) → i < length xs → slice_get (xs ++ ys) i ≡ slice_get xs i
get_front [] ys i l = absurd (omega (arith, l))
get_front (x ∷ xs) ys zero l = refl
get_front (x ∷ xs) ys (suc i) l = get_front xs ys i (omega (arith, l))

take_front : {X : Type 0} → (xs ys : List X) (n : ℕ) → n ≡ length xs → take n (xs ++ ys) ≡ xs
take_front [] ys zero e = refl
take_front [] ys (suc n) e = absurd (omega (arith, e))
take_front (x ∷ xs) ys zero e = absurd (omega (arith, e))
take_front (x ∷ xs) ys (suc n) e = ap (λ zs. x ∷ zs) (take_front xs ys n (omega (arith, e)))

abbrev given : List Term → List (Option Term)
given us = map (λ (u : Term). Some u) us

given_more : (us vs : List Term) → given (us ++ vs) ≡ given us ++ given vs
given_more [] vs = refl
given_more (u ∷ us) vs = ap (λ ts. Some u ∷ ts) (given_more us vs)

-- none of these locals has a term
abbrev AllNone : List (Option Term) → Type 0
AllNone ls = (x : ℕ) (t : Term) → slice_get ls x ≡ Some (Some t) → ⊥

-- the locals that are no arguments, before they have values
abbrev local_places : List LocalTree → List (Option Term)
local_places ls = map (λ l. None) ls

abbrev result_place : Option Ty → List (Option Term)
result_place r = if is_some r then None ∷ [] else []

none_of : (ls : List LocalTree) (rest : List (Option Term)) → AllNone rest → AllNone (local_places ls ++ rest)
none_of [] rest n x t e = n x t e
none_of (l ∷ ls) rest n zero t e = cc
none_of (l ∷ ls) rest n (suc x) t e = none_of ls rest n x t e

no_result_term : (r : Option Ty) → AllNone (result_place r)
no_result_term None x t e = cc
no_result_term (Some r) zero t e = cc
no_result_term (Some r) (suc x) t e = cc

result_count : (r : Option Ty) → length (result_place r) ≡ length (option_to_list r)
result_count None = refl
result_count (Some t) = refl

others_count : (ls : List LocalTree) (r : Option Ty) → length (local_places ls ++ result_place r) ≡ length (types_of ls ++ option_to_list r)
others_count [] r = result_count r
others_count (l ∷ ls) r = ap suc (others_count ls r)

-- ---- the values of arguments

-- the values have the sorts of the types
abbrev AreSorted : List Ty → List ObjectValue → Type 0
AreSorted [] [] = Unit {0}
AreSorted (t ∷ ts) (v ∷ vs) = (sort_of_value (standing v) ≡ sort_of_type t) × AreSorted ts vs
AreSorted ts vs = ⊥

sorted_values : (cs : List ClassTree) (s : List Object) (ts : List Ty) (vs : List ObjectValue) → length vs ≡ length ts → ((x : ℕ) (t : Ty) (v : ObjectValue) → slice_get ts x ≡ Some t → slice_get vs x ≡ Some v → has_type cs s t v ≡ true) → AreSorted ts vs
sorted_values cs s [] [] n h = tt
sorted_values cs s [] (v ∷ vs) n h = absurd (omega (arith, n))
sorted_values cs s (t ∷ ts) [] n h = absurd (omega (arith, n))
sorted_values cs s (t ∷ ts) (v ∷ vs) n h = (typed_sort cs s t v (h 0 t v refl refl), sorted_values cs s ts vs (omega (arith, n)) (λ x u w e f. h (suc x) u w e f))

-- each of the terms has the sort of its type and its value
abbrev AreTerms : List ClassTree → Counters → Structure → List Ty → List Term → List ObjectValue → Type 0
AreTerms cs n m [] [] [] = Unit {0}
AreTerms cs n m (t ∷ ts) (u ∷ us) (v ∷ vs) = HasSort cs [] (sort_of_type t) u × Stays n m (HasValue cs u (standing v)) × AreTerms cs n m ts us vs
AreTerms cs n m ts us vs = ⊥

terms_on : (cs : List ClassTree) (n n' : Counters) (m m' : Structure) → Rises n n' → IsAlike n m m' → (ts : List Ty) (us : List Term) (vs : List ObjectValue) → AreTerms cs n m ts us vs → AreTerms cs n' m' ts us vs
terms_on cs n n' m m' r a [] [] [] h = tt
terms_on cs n n' m m' r a (t ∷ ts) (u ∷ us) (v ∷ vs) h = (h.0, stays_on (HasValue cs u (standing v)) n n' m m' r a h.1, terms_on cs n n' m m' r a ts us vs h.2)
terms_on cs n n' m m' r a ts us vs h = h

terms_more : (cs : List ClassTree) (n : Counters) (m : Structure) (ts ws : List Ty) (us xs : List Term) (vs ys : List ObjectValue) → AreTerms cs n m ts us vs → AreTerms cs n m ws xs ys → AreTerms cs n m (ts ++ ws) (us ++ xs) (vs ++ ys)
terms_more cs n m [] ws [] xs [] ys h k = k
terms_more cs n m (t ∷ ts) ws (u ∷ us) xs (v ∷ vs) ys h k = (h.0, h.1, terms_more cs n m ts ws us xs vs ys h.2 k)
terms_more cs n m ts ws us xs vs ys h k = absurd h

terms_count : (cs : List ClassTree) (n : Counters) (m : Structure) (ts : List Ty) (us : List Term) (vs : List ObjectValue) → AreTerms cs n m ts us vs → length us ≡ length ts
terms_count cs n m [] [] [] h = refl
terms_count cs n m (t ∷ ts) (u ∷ us) (v ∷ vs) h = ap suc (terms_count cs n m ts us vs h.2)
terms_count cs n m ts us vs h = absurd h

-- the type and the value of one of them
record HasPlace (cs : List ClassTree) (n : Counters) (m : Structure) (ts : List Ty) (vs : List ObjectValue) (x : ℕ) (u : Term) : Type 0 where
  type : Ty
  typed : slice_get ts x ≡ Some type
  v : ObjectValue
  valued : slice_get vs x ≡ Some v
  sorted : HasSort cs [] (sort_of_type type) u
  is : Stays n m (HasValue cs u (standing v))

term_place : (cs : List ClassTree) (n : Counters) (m : Structure) (ts : List Ty) (us : List Term) (vs : List ObjectValue) (others : List (Option Term)) → AllNone others → AreTerms cs n m ts us vs → (x : ℕ) (u : Term) →
    slice_get (given us ++ others) x ≡ Some (Some u) → HasPlace cs n m ts vs x u
term_place cs n m [] [] [] others none h x u e = absurd (none x u e)
term_place cs n m (t ∷ ts) (z ∷ us) (v ∷ vs) others none h zero u e = let same : z ≡ u = cc in record { type = t; typed = refl; v = v; valued = refl; sorted = subst (HasSort cs [] (sort_of_type t)) same h.0; is = subst (λ y. Stays n m (HasValue cs y (standing v))) same h.1 }
term_place cs n m (t ∷ ts) (z ∷ us) (v ∷ vs) others none h (suc x) u e =
    let r = term_place cs n m ts us vs others none h.2 x u e in
    record { type = r.type; typed = r.typed; v = r.v; valued = r.valued; sorted = r.sorted; is = r.is }
term_place cs n m ts us vs others none h x u e = absurd h

term_there : (us : List Term) (others : List (Option Term)) (x : ℕ) → x < length us → (t : Term) × (slice_get (given us ++ others) x ≡ Some (Some t))
term_there [] others x l = absurd (omega (arith, l))
term_there (u ∷ us) others zero l = (u, refl)
term_there (u ∷ us) others (suc x) l = term_there us others x (omega (arith, l))

-- as arguments of a contract
are_arguments : (cs : List ClassTree) (n : Counters) (m m' : Structure) → IsAlike n m m' → (ts : List Ty) (us : List Term) (vs : List ObjectValue) → AreTerms cs n m ts us vs → AreArguments cs m' ts (map meant_of (given us)) vs
are_arguments cs n m m' a [] [] [] h = tt
are_arguments cs n m m' a (t ∷ ts) (u ∷ us) (v ∷ vs) h = (term_argument cs m' t u v h.0 (h.1 m' a []), are_arguments cs n m m' a ts us vs h.2)
are_arguments cs n m m' a ts us vs h = absurd h

-- ---- the position at the entry, in parts

abbrev entry_position : Walk → Counters → Position
entry_position w next =
    let entered = enter_arguments (argument_types w.body) (first_position w.body next) in
    record entered { locals = entered.locals ++ map (λ l. None) w.body.locals ++ (if is_some w.body.result then None ∷ [] else []) }

abbrev entry_assumptions : Walk → Position → List Formula
entry_assumptions w k = good k.store ∷ argument_types_from w k.store 0 (argument_types w.body) k.locals ++ conditions w.body.entry (contract_context (classes_of w) w.body k.store k.store (arguments_at w k) (no_result w.body))

entry_is : (w : Walk) (next : Counters) → at_entry w next ≡ assume_all (entry_assumptions w (entry_position w next)) (entry_position w next)
entry_is w next = refl

-- ---- a structure with the values

module _ (c : CoreTree) (n : ℕ) (b : BodyTree) (next : Counters) (before : List Object) (table : Table) where
  abbrev cs : List ClassTree
  cs = c.classes

  abbrev w : Walk
  w = walk_of c n b next

  record IsEntering (m : Structure) (k : Position) (ts : List Ty) (us : List Term) (vs : List ObjectValue) : Type 0 where
    table_is : m.table ≡ table
    entry : IsStore cs table k.next m w.entry before
    store_is : k.store ≡ w.entry
    guard : k.guard ≡ Always
    known : k.known ≡ known_at_entry b
    premises : k.premises ≡ []
    locals : k.locals ≡ given us
    terms : AreTerms cs k.next m ts us vs

  abbrev with_argument : Ty → Position → Position
  with_argument t k = record (with_new (element_sort (Some t)) k) { locals = k.locals ++ Some (new_term (element_sort (Some t)) k) ∷ [] }

  one_entered : (t : Ty) (v : ObjectValue) (m : Structure) (k : Position) (ts : List Ty) (us : List Term) (vs : List ObjectValue) → sort_of_value (standing v) ≡ sort_of_type t → IsEntering m k ts us vs →
      (m' : Structure) × IsEntering m' (with_argument t k) (ts ++ t ∷ []) (us ++ new_term (element_sort (Some t)) k ∷ []) (vs ++ v ∷ [])
  one_entered t v m k ts us vs sorted e =
      let s = sort_of_type t in
      let z = new_constant cs m s k (standing v) (standing_numbered v) sorted in
      let rises = rises_new s k.next in
      let u = new_term s k in (
        z.m',
        record {
          table_is = table_on k.next m z.m' table z.alike e.table_is;
          entry = store_on cs table k.next (raised s k.next) m z.m' w.entry before rises z.alike e.entry;
          store_is = e.store_is;
          guard = e.guard;
          known = e.known;
          premises = e.premises;
          locals = ap (λ ls. ls ++ Some u ∷ []) e.locals ∙ sym (given_more us (u ∷ []));
          terms = terms_more cs (raised s k.next) z.m' ts (t ∷ []) us (u ∷ []) vs (v ∷ []) (terms_on cs k.next (raised s k.next) m z.m' rises z.alike ts us vs e.terms) ((refl, refl), z.is, tt);
        },
      )

  pub record AllEntered (k : Position) (ts : List Ty) (vs : List ObjectValue) : Type 0 where
    pub m : Structure
    us : List Term
    is : IsEntering m k ts us vs

  all_entered : (ts : List Ty) (vs : List ObjectValue) → AreSorted ts vs → (m : Structure) (k : Position) (os : List Ty) (us : List Term) (ws : List ObjectValue) → IsEntering m k os us ws → AllEntered (enter_arguments ts k) (os ++ ts) (ws ++ vs)
  all_entered [] [] h m k os us ws e = record { m = m; us = us; is = rw (append-nil os, append-nil ws) e }
  all_entered [] (v ∷ vs) h m k os us ws e = absurd h
  all_entered (t ∷ ts) [] h m k os us ws e = absurd h
  all_entered (t ∷ ts) (v ∷ vs) h m k os us ws e =
      let z = one_entered t v m k os us ws h.0 e in
      let y = all_entered ts vs h.1 z.0 (with_argument t k) (os ++ t ∷ []) (us ++ new_term (element_sort (Some t)) k ∷ []) (ws ++ v ∷ []) z.1 in
      record {
        m = y.m;
        us = y.us;
        is =
            subst (λ us. IsEntering y.m (enter_arguments ts (with_argument t k)) us y.us (ws ++ v ∷ vs)) (append_assoc os (t ∷ []) ts)
            (subst (λ xs. IsEntering y.m (enter_arguments ts (with_argument t k)) ((os ++ t ∷ []) ++ ts) y.us xs) (append_assoc ws (v ∷ []) vs) y.is);
      }

  -- every store is this heap
  abbrev begun : (h : Heap) → IsNumbered h → Structure
  begun h numbered = record { stores = λ i. h; wholes = λ i. pos 0; truths = λ i. false; things = λ i. null; table = table; numbered = λ i. numbered }

  none_entered : (h : Heap) (is : IsStoreOf cs table h before) → IsEntering (begun h is.numbered) (first_position b next) [] [] []
  none_entered h is = record {
    table_is = refl;
    entry = record { heap = h; is = λ m' a e. a.constants sort.Store next.stores (omega arith); sorted = (refl, refl); good = is.good; objects = is.objects };
    store_is = refl;
    guard = refl;
    known = refl;
    premises = refl;
    locals = refl;
    terms = tt;
  }

  -- ---- the position at the entry

  module _ (formed : IsFormed c) (body : IsFormedBody c b) (arguments : List ObjectValue) (passed : ArePassed c b before arguments) (h : Heap) (has : IsStoreOf cs table h before) where
    abbrev p : Point
    p = record { locals = locals_at_entry b arguments; store = before }

    pub all : AllEntered (enter_arguments (argument_types b) (first_position b next)) (argument_types b) arguments
    all = all_entered (argument_types b) arguments (sorted_values cs before (argument_types b) arguments passed.good.count passed.good.types) (begun h has.numbered) (first_position b next) [] [] [] (none_entered h has)

    abbrev m : Structure
    m = all.m

    abbrev us : List Term
    us = all.us

    abbrev entered : Position
    entered = enter_arguments (argument_types b) (first_position b next)

    abbrev others : List (Option Term)
    others = local_places b.locals ++ result_place b.result

    abbrev k : Position
    k = entry_position w next

    locals_are : k.locals ≡ given us ++ others
    locals_are = append_assoc entered.locals (local_places b.locals) (result_place b.result) ∙ ap (λ ls. ls ++ others) all.is.locals

    no_others : AllNone others
    no_others = none_of b.locals (result_place b.result) (no_result_term b.result)

    us_count : length us ≡ argument_count b
    us_count = terms_count cs k.next m (argument_types b) us arguments all.is.terms

    others_sum : length (given us) + length others ≡ length (argument_types b) + length (types_of b.locals ++ option_to_list b.result)
    others_sum = let x = length-map us (λ (u : Term). Some u) in let y = us_count in let z = others_count b.locals b.result in omega (arith, x, y, z)

    locals_grouped : local_types b ≡ argument_types b ++ (types_of b.locals ++ option_to_list b.result)
    locals_grouped = append_assoc (argument_types b) (types_of b.locals) (option_to_list b.result)

    locals_count : length k.locals ≡ length (local_types b)
    locals_count = ap length locals_are ∙ length-append (given us) others ∙ others_sum ∙ sym (length-append (argument_types b) (types_of b.locals ++ option_to_list b.result)) ∙ ap length (sym locals_grouped)

    store_at : IsStore cs table k.next m k.store before
    store_at = subst (λ t. IsStore cs table k.next m t before) (sym all.is.store_is) all.is.entry

    front_type : (x : ℕ) (t : Ty) → slice_get (argument_types b) x ≡ Some t → slice_get (local_types b) x ≡ Some t
    front_type x t e = ap (λ ts. slice_get ts x) locals_grouped ∙ get_front (argument_types b) (types_of b.locals ++ option_to_list b.result) x (slice_get_within (argument_types b) x t e) ∙ e

    front_value : (x : ℕ) (v : ObjectValue) → slice_get arguments x ≡ Some v → slice_get p.locals x ≡ Some v
    front_value x v e = get_front arguments (map default_value (types_of b.locals ++ option_to_list b.result)) x (slice_get_within arguments x v e) ∙ e

    local_is : (x : ℕ) (t : Term) → slice_get k.locals x ≡ Some (Some t) → IsLocal w before table k.next m p x t
    local_is x t e =
        let r = term_place cs k.next m (argument_types b) us arguments others no_others all.is.terms x t (sym (ap (λ ls. slice_get ls x) locals_are) ∙ e) in
        record {
          is = subst (λ v. Stays k.next m (HasValue cs t (standing v))) (sym (ap (λ o. unwrap_or o value.Null) (front_value x r.v r.valued))) r.is;
          sorted = subst (λ s. HasSort cs [] s t) (sym (ap element_sort (front_type x r.type r.typed))) r.sorted;
        }

    agrees : Agrees w before table m k p
    agrees = record {
      table_is = all.is.table_is;
      entry = all.is.entry;
      store_is = store_at;
      count = locals_count;
      locals = local_is;
      guard = λ m' a. subst (λ g. IsOn g m') (sym all.is.guard) tt;
      premises = λ m' a. subst (λ fs. HoldIn cs fs m') (sym all.is.premises) tt;
    }

    -- ---- what is assumed

    objects_in : (m' : Structure) → IsAlike k.next m m' → objects_of cs m'.table store_at.heap ≡ before
    objects_in m' a = ap (λ t. objects_of cs t store_at.heap) (a.table ∙ all.is.table_is) ∙ store_at.objects

    good_true : (m' : Structure) → IsAlike k.next m m' → True cs m' [] (good k.store)
    good_true m' a none = none (subst (λ z. IsGoodStore cs m'.table (as_store z)) (sym (store_at.is m' a [])) (subst (λ t. IsGoodStore cs t store_at.heap) (sym (a.table ∙ all.is.table_is)) store_at.good))

    abbrev IsTyped : ℕ → Ty → ObjectValue → Type 0
    IsTyped x t v = (has_type cs before t v ≡ true) × (is_asked_ready w x ≡ true → IsReady before v) × (is_non_null t ≡ true → IsNotNull v)

    zero_more : (x : ℕ) → 0 + x ≡ x
    zero_more x = omega arith

    types_true : (m' : Structure) → IsAlike k.next m m' → (x : ℕ) (ts : List Ty) (xs : List Term) (vs : List ObjectValue) → AreTerms cs k.next m ts xs vs →
        ((i : ℕ) (t : Ty) (v : ObjectValue) → slice_get ts i ≡ Some t → slice_get vs i ≡ Some v → IsTyped (i + x) t v) → Hold cs m' (argument_types_from w k.store x ts (given xs ++ others))
    types_true m' a x [] [] [] is typed = tt
    types_true m' a x (t ∷ ts) (u ∷ xs) (v ∷ vs) is typed =
        let r = subst (λ j. IsTyped j t v) (zero_more x) (typed 0 t v refl refl) in
        hold_more cs m' (is_of_type (is_asked_ready w x) k.store t u) (argument_types_from w k.store (x + 1) ts (given xs ++ others))
        (type_true cs m' k.store u store_at.heap (store_at.is m' a []) (is_asked_ready w x) t v (is.1 m' a []) (subst (λ s. has_type cs s t v ≡ true) (sym (objects_in m' a)) r.0) (λ asked. subst (λ s. IsReady s v) (sym (objects_in m' a)) (r.1 asked)) r.2)
        (types_true m' a (x + 1) ts xs vs is.2 (λ i s y e f. subst (λ j. IsTyped j s y) (omega arith) (typed (suc i) s y e f)))
    types_true m' a x ts xs vs is typed = absurd is

    not_asked : (x y : Bool) → not (x && y) ≡ true → (x && y) ≡ false
    not_asked true true e = absurd (false≢true e)
    not_asked true false e = refl
    not_asked false y e = refl

    argument_typed : (x : ℕ) (t : Ty) (v : ObjectValue) → slice_get (argument_types b) x ≡ Some t → slice_get arguments x ≡ Some v → IsTyped x t v
    argument_typed x t v e f = (
      passed.good.types x t v e f,
      λ asked. passed.good.ready x v (not_asked b.flags.ctor (x == 0) asked) f,
      λ non_null. subst IsNotNull (ap (λ o. unwrap_or o value.Null) (front_value x v f))
          (passed.assigned x (lt-ltb x (argument_count b) (slice_get_within (argument_types b) x t e)) (ap is_non_null_type (front_type x t e) ∙ non_null)),
    )

    entry_meant : arguments_at w k ≡ map meant_of (given us)
    entry_meant =
        ap (λ ls. map meant_of (take (argument_count b) ls)) locals_are
        ∙ ap (λ ls. map meant_of ls) (take_front (given us) others (argument_count b) (let x = length-map us (λ (u : Term). Some u) in let y = us_count in omega (arith, x, y)))

    abbrev Terms : ContractTerms
    Terms = record { now = k.store; entry = k.store; arguments = arguments_at w k; result = no_result b }

    abbrev Values : ContractValues
    Values = record { now = store_at.heap; entry = store_at.heap; locals = p.locals }

    is_contract : (m' : Structure) → IsAlike k.next m m' → IsContract cs m' b Terms Values
    is_contract m' a =
        let same = sym (objects_in m' a) in
        let good_store = subst (IsGood cs (invariants_hold cs)) (store_at.objects ∙ same) store_at.good.objects in
        record {
          chain = formed.chain;
          beside = formed.beside;
          now = (store_at.sorted.1, store_at.is m' a []);
          entry = (store_at.sorted.1, store_at.is m' a []);
          good_now = good_store;
          good_entry = good_store;
          older = older_self (objects_of cs m'.table store_at.heap);
          locals = entered_locals cs (objects_of cs m'.table store_at.heap) b arguments (subst (λ s. AreGoodArguments cs s b arguments) same passed.good);
          meant =
              entry_arguments cs m' b (arguments_at w k) arguments
              (subst (λ xs. AreArguments cs m' (argument_types b) xs arguments) (sym entry_meant) (are_arguments cs k.next m m' a (argument_types b) us arguments all.is.terms));
        }

    abbrev Conditions : Context
    Conditions = contract_context cs b k.store k.store (arguments_at w k) (no_result b)

    entry_means : (m' : Structure) → IsAlike k.next m m' → (es : List ExprTree) → list_all (is_entry cs b) es ≡ true → AllMean cs m' es Conditions (setting cs before before p.locals)
    entry_means m' a [] all_are = tt
    entry_means m' a (e ∷ es) all_are =
        let r = and_parts (is_entry cs b e) (list_all (is_entry cs b) es) all_are in (
          subst (λ s. Means cs m' [] (holds_formula e Conditions) (holds e (setting cs s s p.locals))) (objects_in m' a) (contract_means cs m' b Terms Values (is_contract m' a) e (contract_stated cs b in_requires (λ x. is_argument b x || is_bound b x) e r.0)),
          entry_means m' a es r.1,
        )

    abbrev assumptions : List Formula
    assumptions = entry_assumptions w k

    assumptions_true : all_hold b.entry (setting cs before before p.locals) ≡ true → (m' : Structure) → IsAlike k.next m m' → HoldIn cs assumptions m'
    assumptions_true enters m' a = (
      good_true m' a,
      hold_more cs m' (argument_types_from w k.store 0 (argument_types b) k.locals) (conditions b.entry Conditions)
          (subst (λ ls. Hold cs m' (argument_types_from w k.store 0 (argument_types b) ls)) (sym locals_are)
          (types_true m' a 0 (argument_types b) us arguments all.is.terms (λ i t v e f. subst (λ j. IsTyped j t v) (omega arith) (argument_typed i t v e f))))
          (conditions_true cs m' b.entry Conditions (setting cs before before p.locals) (entry_means m' a b.entry body.entry) enters),
    )

    pub known_here : (at_entry w next).known ≡ known_at_entry b
    known_here = ap (λ (z : Position). z.known) (entry_is w next) ∙ (same_assume_all assumptions k).like.known ∙ all.is.known

    abbrev there : Position
    there = assume_all assumptions k

    here_in_parts : all_hold b.entry (setting cs before before p.locals) ≡ true → IsSound (activation w before table) p → IsHere w before table arguments (is_argument b) m there p
    here_in_parts enters sound = record {
      at = record {
        agrees = assumed_all w before table m p assumptions k (assumptions_true enters) agrees;
        known = subst (λ known. IsTrueOf b.flags.ctor known (scene (activation w before table) p)) (sym ((same_assume_all assumptions k).like.known ∙ all.is.known)) (entry_known b (scene (activation w before table) p));
        assigned = passed.assigned;
        terms =
            λ x is. let l = ltb-true x (argument_count b) is in
            let n = us_count in
            let t = term_there us others x (omega (arith, l, n)) in
            (t.0, ap (λ ls. slice_get ls x) ((same_assume_all assumptions k).like.locals ∙ locals_are) ∙ t.1);
        sound = sound;
      };
      assigned = λ x is. is;
      same = λ x is. get_front arguments (map default_value (types_of b.locals ++ option_to_list b.result)) x (let l = ltb-true x (argument_count b) is in let n = passed.good.count in omega (arith, l, n));
    }

    -- The run is at the position.
    pub here : all_hold b.entry (setting cs before before p.locals) ≡ true → IsSound (activation w before table) p → IsHere w before table arguments (is_argument b) m (at_entry w next) p
    here enters sound = subst (λ z. IsHere w before table arguments (is_argument b) m z p) (sym (entry_is w next)) (here_in_parts enters sound)
