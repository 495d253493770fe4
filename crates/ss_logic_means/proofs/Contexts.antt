-- Sorts of the terms of a context, inside `old` and with more bound names, and of what is read in its stores.
use Rattle.std.proofs.Common.{◌≡◌, ℕ, suc, List, [], ◌∷◌, ◌++◌, length, Bool, true, false, Option, Some, None, refl, sym, ◌∙◌, ap, subst, append_assoc, append-nil, ⊎_elim, arith}
use Rattle.std.specs.Prelude.{slice_get, unwrap_or, is_some, option_map, if◌then◌else◌}
use Rattle.std.proofs.lemmas.Bool.{false≢true, lt-ltb}
use Rattle.std.proofs.lemmas.Option.{slice_get_within}
use Rattle.ss_core.specs.declared.names.Ty.{Ty}
use Rattle.ss_core.specs.declared.names.Ty.TheVariants as ty
use Rattle.ss_core.specs.Tree.{ClassTree}
use Rattle.ss_core.specs.Types.{nullable}
use Rattle.ss_logic.specs.declared.Sort.{Sort}
use Rattle.ss_logic.specs.declared.Sort.TheVariants as sort
use Rattle.ss_logic.specs.Terms.{TypeOf, Level, Owner, Pair, Term, Bound, sort_of_type}
use Rattle.ss_logic.specs.Formulas.{Sub, Allocated, Committed, IsGroup, neg}
use Rattle.ss_logic.specs.Shapes.{class_term, level_of, owner_of, pair_of, equal, sub_atom, allocated, committed, group}
use Rattle.ss_logic.specs.Shapes as shape
use Rattle.ss_logic.specs.Express.{and_of, Meant, One, choices, over, Context, state, at_entry, with_bound, meant_or_null, local_meant, element_sort, is_full, readable}
use Rattle.ss_logic_means.specs.Sorts.{HasSort, AreWellFormed, HaveSort, IsSorted, IsSortedAmong}
use Rattle.ss_logic_means.proofs.Standing.{get_old, get_at, get_either, get_found, length_more}
use Rattle.ss_logic_means.proofs.Sorting.{sorted_one, sorted_two, formed_one, formed_two, equal_formed, sort_more}
use Rattle.ss_logic_means.proofs.Forming.{F, S, C, and_two, negation, over_formed, one_sorted}
use Rattle.ss_logic_means.proofs.Operating.{not_null_formed}

-- the bound name that stands after these
pub bound_sorted : (cs : List ClassTree) (bound : List Sort) (s : Sort) (n : ℕ) → length bound ≡ n → HasSort cs (bound ++ s ∷ []) s (Bound n)
bound_sorted cs bound s n at =
    let there = subst (λ k. slice_get (bound ++ s ∷ []) k ≡ Some s) at (get_at bound s []) in
    (ap (λ o. unwrap_or o sort.Rest) there, lt-ltb n (length (bound ++ s ∷ [])) (slice_get_within (bound ++ s ∷ []) n s there))

-- ---- what is read in a store

module _ (cs : List ClassTree) (bound : List Sort) where
  pub class_sorted : (t : ℕ) → S cs bound sort.Rest (class_term t)
  class_sorted t = (refl, refl)

  pub type_sorted : (x : Term) → S cs bound sort.Rest x → S cs bound sort.Rest (shape.type_of x)
  type_sorted x h = sorted_one cs bound TypeOf sort.Rest x refl h

  pub pair_sorted : (x t : Term) → S cs bound sort.Rest x → S cs bound sort.Rest t → S cs bound sort.Rest (pair_of x t)
  pair_sorted x t h k = sorted_two cs bound Pair sort.Rest sort.Rest x t refl h k

  pub sub_formed : (x t : Term) → S cs bound sort.Rest x → S cs bound sort.Rest t → F cs bound (sub_atom x t)
  sub_formed x t h k = formed_two cs bound true Sub sort.Rest sort.Rest x t refl h k

  pub group_formed : (x : Term) → S cs bound sort.Rest x → F cs bound (group x)
  group_formed x h = formed_one cs bound true IsGroup sort.Rest x refl h

  module _ (s : Term) (is : S cs bound sort.Store s) (x : Term) (h : S cs bound sort.Rest x) where
    pub level_sorted : S cs bound sort.Rest (level_of s x)
    level_sorted = sorted_two cs bound Level sort.Store sort.Rest s x refl is h

    pub owner_sorted : S cs bound sort.Rest (owner_of s x)
    owner_sorted = sorted_two cs bound Owner sort.Store sort.Rest s x refl is h

    pub allocated_formed : F cs bound (allocated s x)
    allocated_formed = formed_two cs bound true Allocated sort.Store sort.Rest s x refl is h

    pub committed_formed : F cs bound (committed s x)
    committed_formed = formed_two cs bound true Committed sort.Store sort.Rest s x refl is h

    pub full_formed : F cs bound (is_full s x)
    full_formed = equal_formed cs bound true sort.Rest (level_of s x) (shape.type_of x) level_sorted (type_sorted x h)

    pub consistent_formed : F cs bound (and_of (is_full s x ∷ neg (committed s x) ∷ []))
    consistent_formed = and_two cs bound (is_full s x) (neg (committed s x)) full_formed (negation cs bound (committed s x) committed_formed)

-- ---- contexts

pub plain_sort : (t : Ty) → sort_of_type (nullable t) ≡ sort_of_type t
plain_sort ty.Int = refl
plain_sort ty.Bool = refl
plain_sort ty.Null = refl
plain_sort (ty.Ref t n) = refl

if_sorted : (cs : List ClassTree) (bound : List Sort) (s : Sort) (b : Bool) (x y : Term) → HasSort cs bound s x → HasSort cs bound s y → HasSort cs bound s (if b then x else y)
if_sorted cs bound s true x y h k = h
if_sorted cs bound s false x y h k = k

-- a context that is sorted on all its locals is on these
pub sorted_among : (among : ℕ → Bool) (c : Context) (bound : List Sort) → IsSorted c bound → IsSortedAmong among c bound
sorted_among among c bound st = record { now = st.now; entry = st.entry; count = st.count; locals = λ x t asked is more. st.locals x t is more }

module _ (among : ℕ → Bool) (c : Context) (bound : List Sort) (st : IsSortedAmong among c bound) where
  pub state_sorted : S c.classes bound sort.Store (state c)
  state_sorted = if_sorted c.classes bound sort.Store c.inside_old c.entry c.now st.entry st.now

  pub local_sorted : (x : ℕ) (t : Ty) → among x ≡ true → slice_get c.types x ≡ Some t → C c.classes bound (sort_of_type t) (local_meant c x)
  local_sorted x t asked is = subst (λ w. HaveSort c.classes w (sort_of_type t) (choices (local_meant c x))) (append-nil bound) (st.locals x t asked is [])

  pub local_expressed : (x : ℕ) → among x ≡ true → is_some (option_map nullable (slice_get c.types x)) ≡ true → C c.classes bound (element_sort (option_map nullable (slice_get c.types x))) (local_meant c x)
  local_expressed x asked h = typed (slice_get c.types x) refl h
    where
      typed : (a : Option Ty) → slice_get c.types x ≡ a → is_some (option_map nullable a) ≡ true → C c.classes bound (element_sort (option_map nullable a)) (local_meant c x)
      typed None is h = absurd (false≢true h)
      typed (Some t) is h = subst (λ s. C c.classes bound s (local_meant c x)) (sym (plain_sort t)) (local_sorted x t asked is)

  pub readable_formed : (m : Meant) → C c.classes bound sort.Rest m → AreWellFormed c.classes bound (readable c m)
  readable_formed m h = (not_null_formed c.classes bound m h, looked c.inside_old)
    where
      looked : (b : Bool) → AreWellFormed c.classes bound (if b then over m (allocated c.entry) ∷ [] else [])
      looked true = (over_formed c.classes bound sort.Rest (allocated c.entry) (λ x k. allocated_formed c.classes bound c.entry st.entry x k) m h, tt)
      looked false = tt

  pub old_sorted : IsSortedAmong among (at_entry c) bound
  old_sorted = record { now = st.now; entry = st.entry; count = st.count; locals = st.locals }

  pub longer_sorted : (more : List Sort) → IsSortedAmong among c (bound ++ more)
  longer_sorted more = record {
    now = sort_more c.classes bound more sort.Store c.now st.now;
    entry = sort_more c.classes bound more sort.Store c.entry st.entry;
    count = st.count;
    locals = λ x t asked is rest. subst (λ w. HaveSort c.classes w (sort_of_type t) (choices (local_meant c x))) (sym (append_assoc bound more rest)) (st.locals x t asked is (more ++ rest));
  }

  pub with_bound_sorted : length bound ≡ c.bound → IsSortedAmong among (with_bound c) (bound ++ sort.Whole ∷ [])
  with_bound_sorted at = record {
    now = (longer_sorted (sort.Whole ∷ [])).now;
    entry = (longer_sorted (sort.Whole ∷ [])).entry;
    count = length_more c.locals (One (Bound c.bound)) ∙ ap suc st.count ∙ sym (length_more c.types ty.Int);
    locals = λ x t asked is more. ⊎_elim
        (λ old. old_local x t asked old more)
        (λ new. subst (λ u. HaveSort c.classes ((bound ++ sort.Whole ∷ []) ++ more) (sort_of_type u) (choices (local_meant (with_bound c) x))) new.1 (new_local x new.0 more))
        (get_either c.types ty.Int x t is);
  }
    where
      old_local : (x : ℕ) (t : Ty) → among x ≡ true → slice_get c.types x ≡ Some t → (more : List Sort) → HaveSort c.classes ((bound ++ sort.Whole ∷ []) ++ more) (sort_of_type t) (choices (local_meant (with_bound c) x))
      old_local x t asked is more =
          let within = slice_get_within c.types x t is in
          let count = st.count in
          let y = get_found c.locals x (omega (arith, within, count)) in
          let same : local_meant c x ≡ local_meant (with_bound c) x = ap meant_or_null (y.1 ∙ sym (get_old c.locals (One (Bound c.bound) ∷ []) x y.0 y.1)) in
          subst (λ z. HaveSort c.classes ((bound ++ sort.Whole ∷ []) ++ more) (sort_of_type t) (choices z)) same ((longer_sorted (sort.Whole ∷ [])).locals x t asked is more)

      new_local : (x : ℕ) → x ≡ length c.types → (more : List Sort) → HaveSort c.classes ((bound ++ sort.Whole ∷ []) ++ more) sort.Whole (choices (local_meant (with_bound c) x))
      new_local x new more =
          let is : local_meant (with_bound c) x ≡ One (Bound c.bound) = ap (local_meant (with_bound c)) (new ∙ sym st.count) ∙ ap meant_or_null (get_at c.locals (One (Bound c.bound)) []) in
          let there = sort_more c.classes (bound ++ sort.Whole ∷ []) more sort.Whole (Bound c.bound) (bound_sorted c.classes bound sort.Whole c.bound at) in
          subst (λ z. HaveSort c.classes ((bound ++ sort.Whole ∷ []) ++ more) sort.Whole (choices z)) (sym is) (one_sorted c.classes ((bound ++ sort.Whole ∷ []) ++ more) sort.Whole (Bound c.bound) there)
