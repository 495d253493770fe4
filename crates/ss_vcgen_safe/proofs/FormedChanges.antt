-- Changes of the store: writes, levels, and what is made ready.
use Rattle.std.proofs.Common.{◌≡◌, ℕ, pos, List, [], ◌∷◌, Bool, true, false, refl, subst}
use Rattle.std.proofs.lemmas.Bool.{and_parts}
use Rattle.ss_core.specs.declared.names.Kind.TheVariants as kind
use Rattle.ss_core.specs.declared.names.Mark.{Mark}
use Rattle.ss_core.specs.declared.names.Mark.TheVariants as mark
use Rattle.ss_core.specs.declared.names.Place.{Place}
use Rattle.ss_core.specs.declared.names.Ty.{Ty}
use Rattle.ss_core.specs.declared.names.Ty.TheVariants as ty
use Rattle.ss_core.specs.Tree.{ClassTree, ExprTree}
use Rattle.ss_core.specs.Chain.{above}
use Rattle.ss_store_rules.specs.NonNull.{is_never_null}
use Rattle.ss_store_rules.specs.Typed.{is_plain}
use Rattle.ss_logic.specs.declared.Sort.TheVariants as sort
use Rattle.ss_logic.specs.Terms.{Set, Put, Unpack, Pack, MakeReady, Length, Term, Bound, app, sort_of_type, field_sort, has_field}
use Rattle.ss_logic.specs.Formulas.{Formula, formulas_from, is_well_formed, are_well_formed, neg}
use Rattle.ss_logic.specs.Shapes.{number, null_term, class_term, level_of, owner_of, pair_of, equal, differ, at_most, sub_atom, allocated, committed, group}
use Rattle.ss_logic.specs.Express.{and_of, is_full, less}
use Rattle.ss_logic.specs.Invariants as rule
use Rattle.ss_logic_means.specs.Scenes.{AreInvariants}
use Rattle.ss_logic_means.specs.Sorts.{HasSort, AreWellFormed}
use Rattle.ss_logic_means.proofs.Sorting.{sorted_one, sorted_two, equal_formed, all_formed, sort_more}
use Rattle.ss_logic_means.proofs.Forming.{F, and_two, negation}
use Rattle.ss_logic_means.proofs.Operating.{at_most_formed, less_formed}
use Rattle.ss_logic_means.proofs.Contexts.{class_sorted, pair_sorted, sub_formed, group_formed, level_sorted, owner_sorted, allocated_formed, committed_formed, consistent_formed}
use Rattle.ss_logic_means.proofs.Stated.{packed_formed}
use Rattle.ss_vcgen_heaps.specs.Positions.{Position, Walk, check, check_all, local_term, site, with_store}
use Rattle.ss_vcgen_heaps.specs.Obligations.{classes_of, check_not_null, is_known_local, check_local, may_be_owned, may_be_joined, check_owners, owned_store, write, is_index, write_element, unpack, invariants_said, owned_are_full, pack}
use Rattle.ss_vcgen_safe.proofs.Fields.{write_sorted}
use Rattle.ss_vcgen_safe.specs.Places.{IsFormedAt}
use Rattle.ss_vcgen_safe.proofs.Contracts.{store_and_object}
use Rattle.ss_vcgen_safe.proofs.FormedSteps.{checked, checked_all, checked_unless, store_changed}

-- ---- formulas

module _ (cs : List ClassTree) where
  pub not_null_formed : (o : Term) → HasSort cs [] sort.Rest o → F cs [] (differ o null_term)
  not_null_formed o h = equal_formed cs [] false sort.Rest o null_term h (refl, refl)

  pub null_formed : (o : Term) → HasSort cs [] sort.Rest o → F cs [] (equal o null_term)
  null_formed o h = equal_formed cs [] true sort.Rest o null_term h (refl, refl)

  pub level_formed : (s o : Term) (t : ℕ) → HasSort cs [] sort.Store s → HasSort cs [] sort.Rest o → F cs [] (equal (level_of s o) (class_term t))
  level_formed s o t h k = equal_formed cs [] true sort.Rest (level_of s o) (class_term t) (level_sorted cs [] s h o k) (class_sorted cs [] t)

  uncommitted : (s o : Term) → HasSort cs [] sort.Store s → HasSort cs [] sort.Rest o → F cs [] (neg (committed s o))
  uncommitted s o h k = negation cs [] (committed s o) (committed_formed cs [] s h o k)

  owned_formed : (s o v : Term) (t : ℕ) → HasSort cs [] sort.Store s → HasSort cs [] sort.Rest o → HasSort cs [] sort.Rest v → F cs [] (may_be_owned s o t v)
  owned_formed s o v t h k l =
      let owner = owner_sorted cs [] s h v l in
      all_formed cs [] (equal v null_term ∷ group (owner_of s v) ∷ equal (owner_of s v) (pair_of o (class_term t)) ∷ []) (
        null_formed v l,
        (
          group_formed cs [] (owner_of s v) owner,
          (equal_formed cs [] true sort.Rest (owner_of s v) (pair_of o (class_term t)) owner (pair_sorted cs [] o (class_term t) k (class_sorted cs [] t)), tt),
        ),
      )

  joined_formed : (s o v : Term) → HasSort cs [] sort.Store s → HasSort cs [] sort.Rest o → HasSort cs [] sort.Rest v → F cs [] (may_be_joined s o v)
  joined_formed s o v h k l =
      let mine = owner_sorted cs [] s h o k in
      let other = owner_sorted cs [] s h v l in
      all_formed cs [] (equal v null_term ∷ equal (owner_of s o) (owner_of s v) ∷ group (owner_of s v) ∷ and_of (group (owner_of s o) ∷ neg (committed s v) ∷ []) ∷ []) (
        null_formed v l,
        (
          equal_formed cs [] true sort.Rest (owner_of s o) (owner_of s v) mine other,
          (
            group_formed cs [] (owner_of s v) other,
            (and_two cs [] (group (owner_of s o)) (neg (committed s v)) (group_formed cs [] (owner_of s o) mine) (uncommitted s v h l), tt),
          ),
        ),
      )

  index_formed : (a i : Term) → HasSort cs [] sort.Rest a → HasSort cs [] sort.Whole i → F cs [] (is_index a i)
  index_formed a i h k =
      and_two cs [] (at_most (number (pos 0)) i) (less i (app Length (a ∷ []))) (at_most_formed cs [] (number (pos 0)) i (refl, refl) k)
      (less_formed cs [] i (app Length (a ∷ [])) k (sorted_one cs [] Length sort.Rest a refl h))

  -- what is owned is at its full level
  full_formed : (s o : Term) (t : ℕ) → HasSort cs [] sort.Store s → HasSort cs [] sort.Rest o → F cs [] (owned_are_full s o t)
  full_formed s o t h k =
      let bs = sort.Rest ∷ [] in
      let v = Bound 0 in
      let there : HasSort cs (sort.Rest ∷ []) sort.Rest (Bound 0) = (refl, refl) in
      let store = sort_more cs [] bs sort.Store s h in
      let object = sort_more cs [] bs sort.Rest o k in
      all_formed cs bs (neg (allocated s v) ∷ differ (owner_of s v) (pair_of o (class_term t)) ∷ and_of (is_full s v ∷ neg (committed s v) ∷ []) ∷ []) (
        negation cs bs (allocated s v) (allocated_formed cs bs s store v there),
        (
          equal_formed cs bs false sort.Rest (owner_of s v) (pair_of o (class_term t)) (owner_sorted cs bs s store v there) (pair_sorted cs bs o (class_term t) object (class_sorted cs bs t)),
          (consistent_formed cs bs s store v there, tt),
        ),
      )

  -- ---- invariants

  each_of_all : (fs : List Formula) → are_well_formed cs [] (formulas_from fs) ≡ true → AreWellFormed cs [] fs
  each_of_all [] h = tt
  each_of_all (f ∷ fs) h = let p = and_parts (is_well_formed cs [] f) (are_well_formed cs [] (formulas_from fs)) h in (p.0, each_of_all fs p.1)

  all_invariants_formed : AreInvariants cs → (s o : Term) (t : ℕ) → HasSort cs [] sort.Store s → HasSort cs [] sort.Rest o → AreWellFormed cs [] (invariants_said cs s o t)
  all_invariants_formed are s o t h k =
      let p = and_parts (is_well_formed cs [] (neg (allocated s o))) (are_well_formed cs [] (formulas_from (neg (sub_atom (level_of s o) (class_term t)) ∷ rule.invariants_said cs s o t ∷ []))) (packed_formed cs are s o (store_and_object cs s o h k) t) in
      let q = and_parts (is_well_formed cs [] (neg (sub_atom (level_of s o) (class_term t)))) (are_well_formed cs [] (formulas_from (rule.invariants_said cs s o t ∷ []))) p.1 in
      each_of_all (invariants_said cs s o t) (and_parts (is_well_formed cs [] (rule.invariants_said cs s o t)) true q.1).0

-- ---- stores

put_sorted : (cs : List ClassTree) (t : Ty) (s a i v : Term) → HasSort cs [] sort.Store s → HasSort cs [] sort.Rest a → HasSort cs [] sort.Whole i → HasSort cs [] (sort_of_type t) v → HasSort cs [] sort.Store (app Put (s ∷ a ∷ i ∷ v ∷ []))
put_sorted cs ty.Int s a i v x y z u = (refl, rw (x.0, x.1, y.0, y.1, z.0, z.1, u.0, u.1) refl)
put_sorted cs ty.Bool s a i v x y z u = (refl, rw (x.0, x.1, y.0, y.1, z.0, z.1, u.0, u.1) refl)
put_sorted cs ty.Null s a i v x y z u = (refl, rw (x.0, x.1, y.0, y.1, z.0, z.1, u.0, u.1) refl)
put_sorted cs (ty.Ref t n) s a i v x y z u = (refl, rw (x.0, x.1, y.0, y.1, z.0, z.1, u.0, u.1) refl)

-- ---- positions

module _ (w : Walk) where
  abbrev cs : List ClassTree
  cs = w.program.classes

  pub not_null_checked : (at : Place) (e : ExprTree) (o : Term) (k : Position) → HasSort cs [] sort.Rest o → IsFormedAt w k → IsFormedAt w (check_not_null w at e o k)
  not_null_checked at e o k h is = checked_unless w (is_never_null (site w) k.known false e) kind.Null at (differ o null_term) k (not_null_formed cs o h) is

  local_checked : (at : Place) (x : ℕ) (k : Position) → HasSort cs [] sort.Rest (local_term x k) → IsFormedAt w k → IsFormedAt w (check_local w at x k)
  local_checked at x k h is = checked_unless w (is_known_local w k x) kind.Null at (differ (local_term x k) null_term) k (not_null_formed cs (local_term x k) h) is

  owners_checked : (m : Mark) (at : Place) (o : Term) (t : ℕ) (v : Term) (k : Position) → HasSort cs [] sort.Rest o → (is_plain m ≡ false → HasSort cs [] sort.Rest v) → IsFormedAt w k → IsFormedAt w (check_owners m w at o t v k)
  owners_checked mark.Plain at o t v k h marked is = is
  owners_checked mark.Rep at o t v k h marked is = checked w kind.RepOwner at (may_be_owned k.store o t v) k (owned_formed cs k.store o v t is.store h (marked refl)) is
  owners_checked mark.Peer at o t v k h marked is = checked w kind.PeerOwner at (may_be_joined k.store o v) k (joined_formed cs k.store o v is.store h (marked refl)) is

  pub written : (at : Place) (e : ExprTree) (f : ℕ) (m : Mark) (t : ℕ) (o v : Term) (k : Position) → has_field cs f ≡ true → (is_plain m ≡ false → field_sort cs f ≡ sort.Rest) → HasSort cs [] sort.Rest o → HasSort cs [] (field_sort cs f) v →
      IsFormedAt w k → IsFormedAt w (write w at e f m t o v k)
  written at e f m t o v k field marked h l is =
      let a = check_not_null w at e o k in
      let is_a = not_null_checked at e o k h is in
      let level = neg (sub_atom (level_of k.store o) (class_term t)) in
      let b = check w kind.WriteLevel at level a in
      let is_b =
      checked w kind.WriteLevel at level a (negation cs [] (sub_atom (level_of k.store o) (class_term t)) (sub_formed cs [] (level_of k.store o) (class_term t) (level_sorted cs [] k.store is.store o h) (class_sorted cs [] t))) is_a in
      let c = check_owners m w at o t v b in
      let is_c = owners_checked m at o t v b h (λ plain. subst (λ r. HasSort cs [] r v) (marked plain) l) is_b in
      store_changed w (app (Set f) (owned_store m k.store o t v ∷ o ∷ v ∷ [])) c (write_sorted cs f m t k.store o v field marked is.store h l) is_c

  pub element_written : (at : Place) (e : ExprTree) (a i v : Term) (t : Ty) (k : Position) → HasSort cs [] sort.Rest a → HasSort cs [] sort.Whole i → HasSort cs [] (sort_of_type t) v → IsFormedAt w k → IsFormedAt w (write_element w at e a i v k)
  element_written at e a i v t k h j l is =
      let b = check_not_null w at e a k in
      let c = check w kind.Index at (is_index a i) b in
      let is_c = checked w kind.Index at (is_index a i) b (index_formed cs a i h j) (not_null_checked at e a k h is) in
      let d = check w kind.WriteCommitted at (neg (committed k.store a)) c in
      let is_d = checked w kind.WriteCommitted at (neg (committed k.store a)) c (uncommitted cs k.store a is.store h) is_c in
      store_changed w (app Put (k.store ∷ a ∷ i ∷ v ∷ [])) d (put_sorted cs t k.store a i v is.store h j l) is_d

  pub unpacked : (at : Place) (x t : ℕ) (k : Position) → HasSort cs [] sort.Rest (local_term x k) → IsFormedAt w k → IsFormedAt w (unpack w at x t k)
  unpacked at x t k h is =
      let o = local_term x k in
      let a = check_local w at x k in
      let level = equal (level_of k.store o) (class_term t) in
      let b = check w kind.UnpackLevel at level a in
      let is_b = checked w kind.UnpackLevel at level a (level_formed cs k.store o t is.store h) (local_checked at x k h is) in
      let c = check w kind.UnpackCommitted at (neg (committed k.store o)) b in
      let is_c = checked w kind.UnpackCommitted at (neg (committed k.store o)) b (uncommitted cs k.store o is.store h) is_b in
      store_changed w (app (Unpack t) (k.store ∷ o ∷ [])) c (sorted_two cs [] (Unpack t) sort.Store sort.Rest k.store o refl is.store h) is_c

  pub packed : AreInvariants cs → (at : Place) (x t : ℕ) (k : Position) → HasSort cs [] sort.Rest (local_term x k) → IsFormedAt w k → IsFormedAt w (pack w at x t k)
  packed are at x t k h is =
      let o = local_term x k in
      let a = check_local w at x k in
      let level = equal (level_of k.store o) (class_term (above (classes_of w) t)) in
      let b = check w kind.PackLevel at level a in
      let is_b = checked w kind.PackLevel at level a (level_formed cs k.store o (above (classes_of w) t) is.store h) (local_checked at x k h is) in
      let fs = invariants_said (classes_of w) k.store o t in
      let c = check_all w kind.Invariant at fs b in
      let is_c = checked_all w kind.Invariant at fs b (all_invariants_formed cs are k.store o t is.store h) is_b in
      let d = check w kind.PackOwned at (owned_are_full k.store o t) c in
      let is_d = checked w kind.PackOwned at (owned_are_full k.store o t) c (full_formed cs k.store o t is.store h) is_c in
      store_changed w (app (Pack t) (k.store ∷ o ∷ [])) d (sorted_two cs [] (Pack t) sort.Store sort.Rest k.store o refl is.store h) is_d

  pub made_ready : (o : Term) (k : Position) → HasSort cs [] sort.Rest o → IsFormedAt w k → IsFormedAt w (with_store (app MakeReady (k.store ∷ o ∷ [])) k)
  made_ready o k h is = store_changed w (app MakeReady (k.store ∷ o ∷ [])) k (sorted_two cs [] MakeReady sort.Store sort.Rest k.store o refl is.store h) is
