-- The formulas of conditions are well formed: default conditions, conditions of contracts and of code, and the rule on invariants.
use Rattle.std.proofs.Common.{◌≡◌, ℕ, zero, suc, List, [], ◌∷◌, ◌++◌, length, Bool, true, false, not, ◌&&◌, ◌||◌, map, Option, Some, None, refl, sym, ◌∙◌, ap, subst, arith}
use Rattle.std.specs.Prelude.{slice_get, ◌+◌, if◌then◌else◌}
use Rattle.std.specs.List.{list_all}
use Rattle.std.proofs.lemmas.Bool.{false≢true, and_parts, and_from}
use Rattle.ss_core.specs.declared.names.Ty.{Ty}
use Rattle.ss_core.specs.declared.names.Ty.TheVariants as ty
use Rattle.ss_core.specs.Tree.{ClassTree, DefaultTree, AtLevel, Unpacked, ThisUnowned, Defaults, OwnedFull, Full, ConsistentArgument, FullArgument, Captured, ExprTree, DefaultExpr}
use Rattle.ss_core.specs.Chain.{sub, below, levels, DeclaredField, all_fields}
use Rattle.ss_store_rules.specs.Locals.{reads_only}
use Rattle.ss_store_rules.specs.Types.{is_bool, is_reference, type_of}
use Rattle.ss_store_rules.specs.Typed.{invariant_types, is_invariant}
use Rattle.ss_store_rules.specs.Admissible.{is_admissible, invariants}
use Rattle.ss_logic.specs.declared.Sort.{Sort}
use Rattle.ss_logic.specs.declared.Sort.TheVariants as sort
use Rattle.ss_logic.specs.Terms.{Field, Term, Bound, app, sort_of_type, same_sort, sort_of, is_well_sorted, have_sorts}
use Rattle.ss_logic.specs.Formulas.{Formula, is_well_formed, neg}
use Rattle.ss_logic.proofs.Truth.{equal_sorts}
use Rattle.ss_logic.specs.Shapes.{null_term, class_term, level_of, owner_of, pair_of, equal, differ, sub_atom, allocated, committed, class_of_term}
use Rattle.ss_logic.specs.Express.{and_of, or_of, One, choices, over, said, Context, meant_or_null, local_meant, is_full, default_of_sort, defaults_from, owned_full, may_be_captured, met_by, default_said, meant, defined, holds_formula}
use Rattle.ss_store_rules.specs.Values.{subject}
use Rattle.ss_logic.specs.Invariants.{invariant_context, invariants_said, packed_invariants, invariants_at, invariants_of}
use Rattle.ss_logic_means.specs.Scenes.{has_subject, has_no_default, speaks_of, speaks_only, is_stated, AreInvariants}
use Rattle.ss_logic_means.specs.Sorts.{HasSort, AreWellFormed, HaveSort, IsWellExpressed, IsSorted, IsSortedAmong}
use Rattle.ss_logic_means.proofs.Operands.{bool_some, class_reference}
use Rattle.ss_logic_means.proofs.Invariants.{admissible_no_default}
use Rattle.ss_logic_means.proofs.Everywhere.{all_locals, plainly_from, speaks_all}
use Rattle.ss_logic_means.proofs.Sorting.{equal_formed, all_formed, more_formed, sort_more}
use Rattle.ss_logic_means.proofs.Forming.{F, S, C, and_two, or_two, negation, one_sorted, says_sorted, over_formed, said_formed}
use Rattle.ss_logic_means.proofs.Operating.{bool_sort, reference_sort, null_sorted, as_sort}
use Rattle.ss_logic_means.proofs.Contexts.{bound_sorted, class_sorted, pair_sorted, sub_formed, group_formed, level_sorted, owner_sorted, allocated_formed, committed_formed, full_formed, consistent_formed, sorted_among, local_sorted}
use Rattle.ss_logic_means.proofs.Expressed.{field_sorted, expressed}

-- ---- default conditions

default_sorted : (cs : List ClassTree) (bound : List Sort) (t : Ty) → HasSort cs bound (sort_of_type t) (default_of_sort (sort_of_type t))
default_sorted cs bound ty.Int = (refl, refl)
default_sorted cs bound ty.Bool = (refl, refl)
default_sorted cs bound ty.Null = (refl, refl)
default_sorted cs bound (ty.Ref t n) = (refl, refl)

-- with one more object bound after
module _ (among : ℕ → Bool) (c : Context) (bound : List Sort) (st : IsSortedAmong among c bound) (at : length bound ≡ c.bound) where
  abbrev More : List Sort
  More = bound ++ sort.Rest ∷ []

  abbrev name : Term
  name = Bound c.bound

  name_sorted : S c.classes More sort.Rest name
  name_sorted = bound_sorted c.classes bound sort.Rest c.bound at

  now : S c.classes More sort.Store c.now
  now = sort_more c.classes bound (sort.Rest ∷ []) sort.Store c.now st.now

  not_allocated : F c.classes More (neg (allocated c.now name))
  not_allocated = negation c.classes More (allocated c.now name) (allocated_formed c.classes More c.now now name name_sorted)

  name_full : F c.classes More (is_full c.now name)
  name_full = full_formed c.classes More c.now now name name_sorted

  name_owner : S c.classes More sort.Rest (owner_of c.now name)
  name_owner = owner_sorted c.classes More c.now now name name_sorted

  reference_local : (x : ℕ) → among x ≡ true → is_reference (slice_get c.types x) ≡ true → C c.classes bound sort.Rest (local_meant c x)
  reference_local x asked h = typed (slice_get c.types x) refl h
    where
      typed : (a : Option Ty) → slice_get c.types x ≡ a → is_reference a ≡ true → C c.classes bound sort.Rest (local_meant c x)
      typed None is h = absurd (false≢true h)
      typed (Some t) is h = as_sort c.classes bound (sort_of_type t) sort.Rest (local_meant c x) (reference_sort (Some t) h) (local_sorted among c bound st x t asked is)

  module _ (x : Term) (h : S c.classes bound sort.Rest x) where
    behind : S c.classes More sort.Rest x
    behind = sort_more c.classes bound (sort.Rest ∷ []) sort.Rest x h

    -- fields at their defaults
    module _ (t : ℕ) where
      fields_formed : (f : ℕ) (ds : List DeclaredField) → ((i : ℕ) (d : DeclaredField) → slice_get ds i ≡ Some d → slice_get (all_fields c.classes) (f + i) ≡ Some d) → AreWellFormed c.classes bound (defaults_from c t x f ds)
      fields_formed f [] from = tt
      fields_formed f (d ∷ ds) from =
          by_class (sub c.classes t d.class) (fields_formed (f + 1) ds (λ i y is. let number : f + suc i ≡ f + 1 + i = omega arith in subst (λ j. slice_get (all_fields c.classes) j ≡ Some y) number (from (suc i) y is)))
        where
          there : slice_get (all_fields c.classes) f ≡ Some d
          there = let number : f + 0 ≡ f = omega arith in subst (λ j. slice_get (all_fields c.classes) j ≡ Some d) number (from 0 d refl)

          one : F c.classes bound (equal (app (Field f) (c.now ∷ x ∷ [])) (default_of_sort (sort_of_type d.field.ty)))
          one = equal_formed c.classes bound true (sort_of_type d.field.ty) (app (Field f) (c.now ∷ x ∷ [])) (default_of_sort (sort_of_type d.field.ty))
              (field_sorted c.classes bound c.now x st.now h f d there) (default_sorted c.classes bound d.field.ty)

          by_class : (b : Bool) → AreWellFormed c.classes bound (defaults_from c t x (f + 1) ds) →
              AreWellFormed c.classes bound (if b then equal (app (Field f) (c.now ∷ x ∷ [])) (default_of_sort (sort_of_type d.field.ty)) ∷ defaults_from c t x (f + 1) ds else defaults_from c t x (f + 1) ds)
          by_class true rest = (one, rest)
          by_class false rest = rest

      number_self : (i : ℕ) → 0 + i ≡ i
      number_self i = omega arith

      defaults_formed : F c.classes bound (and_of (defaults_from c t x 0 (all_fields c.classes)))
      defaults_formed =
          all_formed c.classes bound (defaults_from c t x 0 (all_fields c.classes))
          (fields_formed 0 (all_fields c.classes) (λ i d is. subst (λ j. slice_get (all_fields c.classes) j ≡ Some d) (sym (number_self i)) is))

    -- what it owns
    owned_at : (u : ℕ) → F c.classes More (or_of (differ (owner_of c.now name) (pair_of x (class_term u)) ∷ is_full c.now name ∷ []))
    owned_at u =
        or_two c.classes More (differ (owner_of c.now name) (pair_of x (class_term u))) (is_full c.now name)
        (equal_formed c.classes More false sort.Rest (owner_of c.now name) (pair_of x (class_term u)) name_owner (pair_sorted c.classes More x (class_term u) behind (class_sorted c.classes More u))) name_full

    owned_at_each : (us : List ℕ) → AreWellFormed c.classes More (map (λ u. or_of (differ (owner_of c.now name) (pair_of x (class_term u)) ∷ is_full c.now name ∷ [])) us)
    owned_at_each [] = tt
    owned_at_each (u ∷ us) = (owned_at u, owned_at_each us)

    owned_formed : (t : ℕ) → F c.classes bound (owned_full c t x)
    owned_formed t =
        let each = map (λ u. or_of (differ (owner_of c.now name) (pair_of x (class_term u)) ∷ is_full c.now name ∷ [])) (levels c.classes t) in
        or_two c.classes More (neg (allocated c.now name)) (and_of each) not_allocated (all_formed c.classes More each (owned_at_each (levels c.classes t)))

    -- members of its group
    owner : S c.classes bound sort.Rest (owner_of c.now x)
    owner = owner_sorted c.classes bound c.now st.now x h

    members_formed : F c.classes More (or_of (neg (allocated c.now name) ∷ differ (owner_of c.now name) (owner_of c.now x) ∷ is_full c.now name ∷ []))
    members_formed =
        all_formed c.classes More (neg (allocated c.now name) ∷ differ (owner_of c.now name) (owner_of c.now x) ∷ is_full c.now name ∷ [])
        (not_allocated, (equal_formed c.classes More false sort.Rest (owner_of c.now name) (owner_of c.now x) name_owner (owner_sorted c.classes More c.now now x behind), (name_full, tt)))

    apart_formed : (y : Term) → S c.classes bound sort.Rest y → F c.classes bound (or_of (equal y null_term ∷ differ (owner_of c.now y) (owner_of c.now x) ∷ []))
    apart_formed y k =
        or_two c.classes bound (equal y null_term) (differ (owner_of c.now y) (owner_of c.now x)) (equal_formed c.classes bound true sort.Rest y null_term k (null_sorted c.classes bound))
        (equal_formed c.classes bound false sort.Rest (owner_of c.now y) (owner_of c.now x) (owner_sorted c.classes bound c.now st.now y k) owner)

    captured_formed : (apart : Bool) → (not apart || among 0) ≡ true → (not apart || is_reference (slice_get c.types 0)) ≡ true → F c.classes bound (and_of (may_be_captured c apart x))
    captured_formed apart speaks asked = all_formed c.classes bound (may_be_captured c apart x) (group_formed c.classes bound (owner_of c.now x) owner, (members_formed, this_apart apart speaks asked))
      where
        this_apart : (b : Bool) → (not b || among 0) ≡ true → (not b || is_reference (slice_get c.types 0)) ≡ true →
            AreWellFormed c.classes bound (if b then over (local_meant c 0) (λ y. or_of (equal y null_term ∷ differ (owner_of c.now y) (owner_of c.now x) ∷ [])) ∷ [] else [])
        this_apart true speaks asked = (over_formed c.classes bound sort.Rest (λ y. or_of (equal y null_term ∷ differ (owner_of c.now y) (owner_of c.now x) ∷ [])) apart_formed (local_meant c 0) (reference_local 0 speaks asked), tt)
        this_apart false speaks asked = tt

    level : S c.classes bound sort.Rest (level_of c.now x)
    level = level_sorted c.classes bound c.now st.now x h

    met_formed : (d : DefaultTree) → speaks_of among d ≡ true → has_subject c.classes c.types d ≡ true → F c.classes bound (met_by c d x)
    met_formed (AtLevel t) speaks asked =
        and_two c.classes bound (equal (level_of c.now x) (class_term t)) (neg (committed c.now x)) (equal_formed c.classes bound true sort.Rest (level_of c.now x) (class_term t) level (class_sorted c.classes bound t))
        (negation c.classes bound (committed c.now x) (committed_formed c.classes bound c.now st.now x h))
    met_formed Unpacked speaks asked = equal_formed c.classes bound true sort.Rest (level_of c.now x) (class_term 0) level (class_sorted c.classes bound 0)
    met_formed ThisUnowned speaks asked = group_formed c.classes bound (owner_of c.now x) owner
    met_formed (Defaults t) speaks asked = defaults_formed t
    met_formed (OwnedFull t) speaks asked = owned_formed t
    met_formed Full speaks asked = full_formed c.classes bound c.now st.now x h
    met_formed (ConsistentArgument i) speaks asked = consistent_formed c.classes bound c.now st.now x h
    met_formed (FullArgument i) speaks asked = full_formed c.classes bound c.now st.now x h
    met_formed (Captured i apart) speaks asked = captured_formed apart (and_parts (among i) (not apart || among 0) speaks).1 (and_parts (is_reference (slice_get c.types i)) (not apart || is_reference (slice_get c.types 0)) asked).1

    met_or_null : (d : DefaultTree) → speaks_of among d ≡ true → has_subject c.classes c.types d ≡ true → F c.classes bound (or_of (equal x null_term ∷ met_by c d x ∷ []))
    met_or_null d speaks asked = or_two c.classes bound (equal x null_term) (met_by c d x) (equal_formed c.classes bound true sort.Rest x null_term h (null_sorted c.classes bound)) (met_formed d speaks asked)

  subject_reference : (d : DefaultTree) → has_subject c.classes c.types d ≡ true → is_reference (slice_get c.types (subject d)) ≡ true
  subject_reference (Defaults t) asked = class_reference (λ u. below c.classes u t) (slice_get c.types 0) asked
  subject_reference (Captured x apart) asked = (and_parts (is_reference (slice_get c.types x)) (not apart || is_reference (slice_get c.types 0)) asked).0
  subject_reference d asked = asked

  subject_among : (d : DefaultTree) → speaks_of among d ≡ true → among (subject d) ≡ true
  subject_among (Captured x apart) speaks = (and_parts (among x) (not apart || among 0) speaks).0
  subject_among d speaks = speaks

  pub default_formed : (d : DefaultTree) → speaks_of among d ≡ true → has_subject c.classes c.types d ≡ true → F c.classes bound (default_said c d)
  default_formed d speaks asked =
      over_formed c.classes bound sort.Rest (λ x. or_of (equal x null_term ∷ met_by c d x ∷ [])) (λ x h. met_or_null x h d speaks asked) (local_meant c (subject d)) (reference_local (subject d) (subject_among d speaks) (subject_reference d asked))

  -- ---- conditions

  plainly_expressed : (x : ExprTree) → reads_only among x ≡ true → (has_no_default x && is_bool (type_of c.classes c.types x)) ≡ true → IsWellExpressed c.classes bound sort.Truth (defined x c) (meant x c)
  plainly_expressed x reads h =
      let p = and_parts (has_no_default x) (is_bool (type_of c.classes c.types x)) h in
      let is = expressed among x c bound st (plainly_from among x reads p.0) (bool_some (type_of c.classes c.types x) p.1) (λ _. at) in
      (is.0, as_sort c.classes bound _ sort.Truth (meant x c) (bool_sort (type_of c.classes c.types x) p.1) is.1)

  pub stated_expressed : (x : ExprTree) → speaks_only among x ≡ true → is_stated c.classes c.types x ≡ true → IsWellExpressed c.classes bound sort.Truth (defined x c) (meant x c)
  stated_expressed (DefaultExpr p d) speaks h = (tt, says_sorted c.classes bound (default_said c d) (default_formed d speaks h))
  stated_expressed x speaks h = plainly_expressed x speaks h

  holds_formed : (x : ExprTree) → IsWellExpressed c.classes bound sort.Truth (defined x c) (meant x c) → F c.classes bound (holds_formula x c)
  holds_formed x is =
      all_formed c.classes bound (defined x c ++ said (meant x c) ∷ []) (more_formed c.classes bound (defined x c) (said (meant x c) ∷ []) is.0 (said_formed c.classes bound (meant x c) is.1, tt))

  pub condition_formed : (x : ExprTree) → speaks_only among x ≡ true → is_stated c.classes c.types x ≡ true → is_well_formed c.classes bound (holds_formula x c) ≡ true
  condition_formed x speaks h = holds_formed x (stated_expressed x speaks h)

  pub plain_condition_formed : (x : ExprTree) → reads_only among x ≡ true → has_no_default x ≡ true → is_bool (type_of c.classes c.types x) ≡ true → is_well_formed c.classes bound (holds_formula x c) ≡ true
  plain_condition_formed x reads none typed = holds_formed x (plainly_expressed x reads (and_from (has_no_default x) (is_bool (type_of c.classes c.types x)) none typed))

-- ---- contexts of terms without bound names

term_sorted : (cs : List ClassTree) (s : Sort) (t : Term) → (same_sort (sort_of cs [] t) s && is_well_sorted cs [] t) ≡ true → HasSort cs [] s t
term_sorted cs s t h = let p = and_parts (same_sort (sort_of cs [] t) s) (is_well_sorted cs [] t) h in (equal_sorts (sort_of cs [] t) s p.0, p.1)

same_length : (cs : List ClassTree) (tys : List Ty) (ts : List Term) → have_sorts cs (map sort_of_type tys) ts ≡ true → length (map One ts) ≡ length tys
same_length cs [] [] h = refl
same_length cs [] (t ∷ ts) h = absurd (false≢true h)
same_length cs (y ∷ tys) [] h = absurd (false≢true h)
same_length cs (y ∷ tys) (t ∷ ts) h = ap suc (same_length cs tys ts (and_parts (same_sort (sort_of cs [] t) (sort_of_type y) && is_well_sorted cs [] t) (have_sorts cs (map sort_of_type tys) ts) h).1)

sorted_at : (cs : List ClassTree) (tys : List Ty) (ts : List Term) → have_sorts cs (map sort_of_type tys) ts ≡ true → (x : ℕ) (u : Ty) → slice_get tys x ≡ Some u → (more : List Sort) →
    HaveSort cs more (sort_of_type u) (choices (meant_or_null (slice_get (map One ts) x)))
sorted_at cs [] ts h x u is more = absurd (let no : ⊥ = cc in no)
sorted_at cs (y ∷ tys) [] h x u is more = absurd (false≢true h)
sorted_at cs (y ∷ tys) (t ∷ ts) h zero u is more =
    let same : y ≡ u = cc in
    let p = and_parts (same_sort (sort_of cs [] t) (sort_of_type y) && is_well_sorted cs [] t) (have_sorts cs (map sort_of_type tys) ts) h in
    subst (λ w. HaveSort cs more (sort_of_type w) (choices (One t))) same (one_sorted cs more (sort_of_type y) t (sort_more cs [] more (sort_of_type y) t (term_sorted cs (sort_of_type y) t p.0)))
sorted_at cs (y ∷ tys) (t ∷ ts) h (suc x) u is more =
    sorted_at cs tys ts (and_parts (same_sort (sort_of cs [] t) (sort_of_type y) && is_well_sorted cs [] t) (have_sorts cs (map sort_of_type tys) ts) h).1 x u is more

pub closed_sorted : (c : Context) (ts : List Term) → have_sorts c.classes (sort.Store ∷ sort.Store ∷ []) (c.now ∷ c.entry ∷ []) ≡ true → c.locals ≡ map One ts → have_sorts c.classes (map sort_of_type c.types) ts ≡ true → IsSorted c []
closed_sorted c ts stores is h =
    let p = and_parts (same_sort (sort_of c.classes [] c.now) sort.Store && is_well_sorted c.classes [] c.now) (have_sorts c.classes (sort.Store ∷ []) (c.entry ∷ [])) stores in
    let q = and_parts (same_sort (sort_of c.classes [] c.entry) sort.Store && is_well_sorted c.classes [] c.entry) true p.1 in
    record {
      now = term_sorted c.classes sort.Store c.now p.0;
      entry = term_sorted c.classes sort.Store c.entry q.0;
      count = ap length is ∙ same_length c.classes c.types ts h;
      locals = λ x u there more. subst (λ ls. HaveSort c.classes more (sort_of_type u) (choices (meant_or_null (slice_get ls x)))) (sym is) (sorted_at c.classes c.types ts h x u there more);
    }

-- ---- the rule on invariants

plain_stated : (cs : List ClassTree) (tys : List Ty) (x : ExprTree) → has_no_default x ≡ true → is_bool (type_of cs tys x) ≡ true → is_stated cs tys x ≡ true
plain_stated cs tys (DefaultExpr p d) none h = absurd (false≢true none)
plain_stated cs tys x none h = and_from (has_no_default x) (is_bool (type_of cs tys x)) none h

module _ (cs : List ClassTree) (are : AreInvariants cs) (s o : Term) (sorts : have_sorts cs (sort.Store ∷ sort.Rest ∷ []) (s ∷ o ∷ []) ≡ true) where
  sorted_parts : (S cs [] sort.Store s) × (S cs [] sort.Rest o)
  sorted_parts =
      let p = and_parts (same_sort (sort_of cs [] s) sort.Store && is_well_sorted cs [] s) (have_sorts cs (sort.Rest ∷ []) (o ∷ [])) sorts in
      let q = and_parts (same_sort (sort_of cs [] o) sort.Rest && is_well_sorted cs [] o) true p.1 in
      (term_sorted cs sort.Store s p.0, term_sorted cs sort.Rest o q.0)

  module _ (t : ℕ) where
    context_sorted : IsSorted (invariant_context cs s o t) []
    context_sorted = closed_sorted (invariant_context cs s o t) (o ∷ []) (and_from (same_sort (sort_of cs [] s) sort.Store && is_well_sorted cs [] s) _ is_store (and_from (same_sort (sort_of cs [] s) sort.Store && is_well_sorted cs [] s) true is_store refl)) refl
        (and_parts (same_sort (sort_of cs [] s) sort.Store && is_well_sorted cs [] s) (have_sorts cs (sort.Rest ∷ []) (o ∷ [])) sorts).1
      where
        is_store : (same_sort (sort_of cs [] s) sort.Store && is_well_sorted cs [] s) ≡ true
        is_store = (and_parts (same_sort (sort_of cs [] s) sort.Store && is_well_sorted cs [] s) (have_sorts cs (sort.Rest ∷ []) (o ∷ [])) sorts).0

    all_invariants : (xs : List ExprTree) → list_all (is_invariant cs t) xs ≡ true → list_all (is_admissible cs t) xs ≡ true → AreWellFormed cs [] (map (λ x. holds_formula x (invariant_context cs s o t)) xs)
    all_invariants [] a b = tt
    all_invariants (x ∷ xs) a b =
        let p = and_parts (is_invariant cs t x) (list_all (is_invariant cs t) xs) a in
        let q = and_parts (is_admissible cs t x) (list_all (is_admissible cs t) xs) b in
        (condition_formed all_locals (invariant_context cs s o t) [] (sorted_among all_locals (invariant_context cs s o t) [] context_sorted) refl x (speaks_all x) (plain_stated cs (invariant_types t) x (admissible_no_default cs t x q.0) p.0), all_invariants xs p.1 q.1)

    pub packed_formed : is_well_formed cs [] (packed_invariants cs s o t) ≡ true
    packed_formed =
        let said_all = all_formed cs [] (map (λ x. holds_formula x (invariant_context cs s o t)) (invariants cs t)) (all_invariants (invariants cs t) (are.typed t) (are.admissible t)) in
        let there = negation cs [] (allocated s o) (allocated_formed cs [] s sorted_parts.0 o sorted_parts.1) in
        let packed = negation cs [] (sub_atom (level_of s o) (class_term t)) (sub_formed cs [] (level_of s o) (class_term t) (level_sorted cs [] s sorted_parts.0 o sorted_parts.1) (class_sorted cs [] t)) in
        all_formed cs [] (neg (allocated s o) ∷ neg (sub_atom (level_of s o) (class_term t)) ∷ invariants_said cs s o t ∷ []) (there, (packed, (said_all, tt)))

module _ (cs : List ClassTree) (are : AreInvariants cs) (s : Term) (f : Formula) where
  at_class : (o : Term) → have_sorts cs (sort.Store ∷ sort.Rest ∷ []) (s ∷ o ∷ []) ≡ true → (t : Option ℕ) → invariants_at cs s o t ≡ Some f → is_well_formed cs [] f ≡ true
  at_class o sorts None e = absurd (let no : ⊥ = cc in no)
  at_class o sorts (Some t) e =
      let same : packed_invariants cs s o t ≡ f = cc in
      subst (λ g. is_well_formed cs [] g ≡ true) same (packed_formed cs are s o sorts t)

  of_terms : (b : Bool) (o t : Term) → have_sorts cs (sort.Store ∷ sort.Rest ∷ []) (s ∷ o ∷ []) ≡ b → (if b then invariants_at cs s o (class_of_term t) else None) ≡ Some f → is_well_formed cs [] f ≡ true
  of_terms true o t sorts e = at_class o sorts (class_of_term t) e
  of_terms false o t sorts e = absurd (let no : ⊥ = cc in no)

  pub instance_formed : (ts : List Term) → invariants_of cs s ts ≡ Some f → is_well_formed cs [] f ≡ true
  instance_formed (o ∷ t ∷ []) e = of_terms (have_sorts cs (sort.Store ∷ sort.Rest ∷ []) (s ∷ o ∷ [])) o t refl e
  instance_formed [] e = absurd (let no : ⊥ = cc in no)
  instance_formed (o ∷ []) e = absurd (let no : ⊥ = cc in no)
  instance_formed (o ∷ t ∷ u ∷ ts) e = absurd (let no : ⊥ = cc in no)
