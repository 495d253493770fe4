-- Where two sides meet: the new terms have the sorts of those of both sides.
use Rattle.std.proofs.Common.{◌≡◌, ℕ, zero, suc, ◌+◌, List, [], ◌∷◌, ◌++◌, Bool, true, false, refl, subst}
use Rattle.std.specs.Prelude.{Option, Some, None, if◌then◌else◌}
use Rattle.ss_core.specs.declared.names.Ty.{Ty}
use Rattle.ss_core.specs.Tree.{ClassTree}
use Rattle.ss_store_rules.specs.Locals.{local_types}
use Rattle.ss_store_rules.specs.NonNull.{Known}
use Rattle.ss_logic.specs.declared.Sort.{Sort}
use Rattle.ss_logic.specs.declared.Sort.TheVariants as sort
use Rattle.ss_logic.specs.Terms.{Term, sort_of_type}
use Rattle.ss_logic.specs.Formulas.{neg}
use Rattle.ss_logic.specs.Equal.{same_term}
use Rattle.ss_logic.specs.Shapes.{equal}
use Rattle.ss_logic.specs.Express.{or_of, element_sort}
use Rattle.ss_logic_means.specs.Sorts.{HasSort}
use Rattle.ss_logic_means.proofs.Sorting.{equal_formed, more_formed}
use Rattle.ss_logic_means.proofs.Forming.{F}
use Rattle.ss_vcgen_heaps.specs.Positions.{Guard, Always, When, Never, Position, Walk, is_true, guard_term, guard_formula, under, new_term, with_new, join_term, joined_term, join_locals, join_guard, join_both, join_from, join}
use Rattle.ss_vcgen_safe.proofs.Leads.{joined_count}
use Rattle.ss_vcgen_safe.proofs.Paths.{joined_terms}
use Rattle.ss_vcgen_safe.specs.Places.{AreSorted, IsFormedAt}
use Rattle.ss_vcgen_safe.proofs.FormedSteps.{under_guard, new_sorted}

-- ---- locals of these types

module _ (cs : List ClassTree) where
  none_sorted : (ts : List Ty) → AreSorted cs ts []
  none_sorted ts x a t typed there = let no : ⊥ = cc in absurd no

  pub tail_sorted : (t : Ty) (ts : List Ty) (l : Option Term) (ls : List (Option Term)) → AreSorted cs (t ∷ ts) (l ∷ ls) → AreSorted cs ts ls
  tail_sorted t ts l ls h x a u typed there = h (suc x) a u typed there

  none_more : (t : Ty) (ts : List Ty) (ls : List (Option Term)) → AreSorted cs ts ls → AreSorted cs (t ∷ ts) (None ∷ ls)
  none_more t ts ls h zero a u typed there = let no : ⊥ = cc in absurd no
  none_more t ts ls h (suc x) a u typed there = h x a u typed there

  one_more : (t : Ty) (ts : List Ty) (u : Term) (ls : List (Option Term)) → HasSort cs [] (sort_of_type t) u → AreSorted cs ts ls → AreSorted cs (t ∷ ts) (Some u ∷ ls)
  one_more t ts u ls s h zero a v typed there =
      let same : t ≡ a = cc in
      let is : u ≡ v = cc in
      subst (λ r. HasSort cs [] (sort_of_type r) v) same (subst (λ r. HasSort cs [] (sort_of_type t) r) is s)
  one_more t ts u ls s h (suc x) a v typed there = h x a v typed there

module _ (w : Walk) (g h : Guard) where
  abbrev cs : List ClassTree
  cs = w.program.classes

  -- ---- one term

  pub joined_sorted : (s : Sort) (x y : Term) (k : Position) → HasSort cs [] s x → HasSort cs [] s (joined_term s x y k)
  joined_sorted s x y k i = one_of (same_term x y)
    where
      one_of : (b : Bool) → HasSort cs [] s (if b then x else new_term s k)
      one_of true = i
      one_of false = new_sorted w s k

  pub term_joined : (s : Sort) (x y : Term) (k : Position) → HasSort cs [] s x → HasSort cs [] s y → IsFormedAt w k → IsFormedAt w (join_term g h s x y k)
  term_joined s x y k i j is = one_of (same_term x y)
    where
      one_of : (b : Bool) → IsFormedAt w (if b then k else record (with_new s k) { premises = k.premises ++ under g (equal (new_term s k) x) ∷ under h (equal (new_term s k) y) ∷ [] })
      one_of true = is
      one_of false = record {
        store = is.store;
        count = is.count;
        locals = is.locals;
        arguments = is.arguments;
        premises =
            more_formed cs [] k.premises (under g (equal (new_term s k) x) ∷ under h (equal (new_term s k) y) ∷ []) is.premises (
              under_guard cs g (equal (new_term s k) x) (equal_formed cs [] true s (new_term s k) x (new_sorted w s k) i),
              (under_guard cs h (equal (new_term s k) y) (equal_formed cs [] true s (new_term s k) y (new_sorted w s k) j), tt),
            );
        listed = is.listed;
      }

  -- ---- all locals

  locals_joined : (ts : List Ty) (xs ys : List (Option Term)) (k : Position) → AreSorted cs ts xs → AreSorted cs ts ys → IsFormedAt w k → IsFormedAt w (join_locals g h ts xs ys k).1 × AreSorted cs ts (join_locals g h ts xs ys k).0
  locals_joined [] xs ys k a b is = (is, none_sorted cs [])
  locals_joined (t ∷ ts) [] ys k a b is = (is, none_sorted cs (t ∷ ts))
  locals_joined (t ∷ ts) (None ∷ xs) [] k a b is = (is, none_sorted cs (t ∷ ts))
  locals_joined (t ∷ ts) (Some x ∷ xs) [] k a b is = (is, none_sorted cs (t ∷ ts))
  locals_joined (t ∷ ts) (None ∷ xs) (y ∷ ys) k a b is =
      let r = locals_joined ts xs ys k (tail_sorted cs t ts None xs a) (tail_sorted cs t ts y ys b) is in
      (r.0, none_more cs t ts (join_locals g h ts xs ys k).0 r.1)
  locals_joined (t ∷ ts) (Some x ∷ xs) (None ∷ ys) k a b is =
      let r = locals_joined ts xs ys k (tail_sorted cs t ts (Some x) xs a) (tail_sorted cs t ts None ys b) is in
      (r.0, none_more cs t ts (join_locals g h ts xs ys k).0 r.1)
  locals_joined (t ∷ ts) (Some x ∷ xs) (Some y ∷ ys) k a b is =
      let s = element_sort (Some t) in
      let i = a 0 t x refl refl in
      let j = b 0 t y refl refl in
      let k' = join_term g h s x y k in
      let r = locals_joined ts xs ys k' (tail_sorted cs t ts (Some x) xs a) (tail_sorted cs t ts (Some y) ys b) (term_joined s x y k i j is) in
      (r.0, one_more cs t ts (joined_term s x y k) (join_locals g h ts xs ys k').0 (joined_sorted s x y k i) r.1)

-- ---- two sides

module _ (w : Walk) (meet : Known → Known → Known) (first second : Position) (one : IsFormedAt w first) (other : IsFormedAt w second) where
  either_formed : (g h : Guard) (n : ℕ) → F w.program.classes [] (or_of (neg (is_true (guard_term n)) ∷ guard_formula g ∷ guard_formula h ∷ []))
  either_formed Always Always n = refl
  either_formed Always (When j) n = refl
  either_formed Always Never n = refl
  either_formed (When i) Always n = refl
  either_formed (When i) (When j) n = refl
  either_formed (When i) Never n = refl
  either_formed Never Always n = refl
  either_formed Never (When j) n = refl
  either_formed Never Never n = refl

  guard_joined : IsFormedAt w (join_guard first.guard second.guard second)
  guard_joined = record {
    store = other.store;
    count = other.count;
    locals = other.locals;
    arguments = other.arguments;
    premises =
        more_formed w.program.classes [] second.premises (or_of (neg (is_true (guard_term second.next.truths)) ∷ guard_formula first.guard ∷ guard_formula second.guard ∷ []) ∷ []) other.premises
        (either_formed first.guard second.guard second.next.truths, tt);
    listed = other.listed;
  }

  both_formed : IsFormedAt w (join_both w meet first second)
  both_formed =
      let g = first.guard in
      let h = second.guard in
      let ts = local_types w.body in
      let k = join_guard g h second in
      let r = join_locals g h ts first.locals second.locals k in
      let locals = locals_joined w g h ts first.locals second.locals k one.locals other.locals guard_joined in
      let z = term_joined w g h sort.Store first.store second.store r.1 one.store other.store locals.0 in
      record {
        store = joined_sorted w g h sort.Store first.store second.store r.1 one.store;
        count = joined_count w g h ts first.locals second.locals k one.count other.count;
        locals = locals.1;
        arguments = λ x asked. let t = one.arguments x asked in let u = other.arguments x asked in joined_terms g h ts first.locals second.locals k x t.0 u.0 one.count other.count t.1 u.1;
        premises = z.premises;
        listed = z.listed;
      }

  first_alone : IsFormedAt w (record second { locals = first.locals; store = first.store; guard = first.guard; known = first.known })
  first_alone = record { store = one.store; count = one.count; locals = one.locals; arguments = one.arguments; premises = other.premises; listed = other.listed }

  from_formed : (g h : Guard) → IsFormedAt w (join_from g h w meet first second)
  from_formed Never h = other
  from_formed Always Never = first_alone
  from_formed Always Always = both_formed
  from_formed Always (When n) = both_formed
  from_formed (When i) Never = first_alone
  from_formed (When i) Always = both_formed
  from_formed (When i) (When n) = both_formed

  pub join_formed : IsFormedAt w (join w meet first second)
  join_formed = from_formed first.guard second.guard
