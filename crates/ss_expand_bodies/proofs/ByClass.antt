-- The bodies of the core program stand class by class; so a body stands nowhere before its class.
use Rattle.std.proofs.Common.{ℕ, zero, suc, ◌≡◌, ◌<◌, ◌≤◌, ◌+◌, ◌++◌, List, [], ◌∷◌, length, map, drop, get_or, cond, ltb, Bool, true, false, Option, Some, None, refl, sym, ap, subst, ◌∙◌, arith}
use Rattle.std.specs.Prelude.{◌==◌, ◌&&◌, if◌then◌else◌, position, option_map}
use Rattle.std.specs.List.{position_or_len, AllWithin}
use Rattle.std.specs.List.Sorted.{IsNonDecreasingBy}
use Rattle.std.proofs.lemmas.Bool.Decides.{nat_tests}
use Rattle.std.proofs.lemmas.List.{get_or-map, length-map, length-drop}
use Rattle.ss_core.specs.Tree.{ClassTree, EntryTree}
use Rattle.ss_typed.specs.Tree.{TypedTree}
use Rattle.ss_expand_rules.specs.Program.{Origin, Constructor, Method, is_own, table, methods_from, bodies_from, bodies, same_origin}
use Rattle.ss_typed.specs.Lookups.{body_at}
use Rattle.ss_expand_bodies.specs.declared.origins.Origin as code
use Rattle.ss_expand_bodies.specs.Origins.{origin_of, class_in, IsByClass}

-- ---- the order of the bodies

-- class by class, from class t on
record From (t : ℕ) (os : List Origin) : Type 0 where
  low : (i : ℕ) (d : Origin) → i < length os → t ≤ class_in (get_or os i d)
  rises : IsByClass os

none : (t : ℕ) → From t []
none t = record { low = λ i d l. absurd (omega (arith, l)); rises = λ i j d e l. absurd (omega (arith, l)) }

-- one more of the lowest class in front
one_more : (o : Origin) (os : List Origin) → From (class_in o) os → From (class_in o) (o ∷ os)
one_more o os h = record { low = low; rises = rises }
  where
    low : (i : ℕ) (d : Origin) → i < length (o ∷ os) → class_in o ≤ class_in (get_or (o ∷ os) i d)
    low zero d l = omega arith
    low (suc i) d l = h.low i d (omega (arith, l))

    rises : (i j : ℕ) (d : Origin) → i ≤ j → j < length (o ∷ os) → class_in (get_or (o ∷ os) i d) ≤ class_in (get_or (o ∷ os) j d)
    rises zero j d e l = low j d l
    rises (suc i) zero d e l = absurd (omega (arith, e))
    rises (suc i) (suc j) d e l = h.rises i j d (omega (arith, e)) (omega (arith, l))

lower : (t : ℕ) (os : List Origin) → From (t + 2) os → From t os
lower t os h = record { low = λ i d l. omega (arith, h.low i d l); rises = h.rises }

perhaps : (own : Bool) (t m : ℕ) (ms rest : List Origin) → From t (ms ++ rest) → From t ((if own then Method t m ∷ ms else ms) ++ rest)
perhaps true t m ms rest h = one_more (Method t m) (ms ++ rest) h
perhaps false t m ms rest h = h

methods_after : (p : TypedTree) (t m : ℕ) (es : List EntryTree) (rest : List Origin) → From t rest → From t (methods_from p t m es ++ rest)
methods_after p t m [] rest h = h
methods_after p t m (e ∷ es) rest h = perhaps (is_own t (body_at p e.body)) t m (methods_from p t (m + 1) es) rest (methods_after p t (m + 1) es rest h)

bodies_after : (p : TypedTree) (t : ℕ) (cs : List ClassTree) → From t (bodies_from p t cs)
bodies_after p t [] = none t
bodies_after p t (c ∷ cs) =
    let rest = bodies_from p (t + 2) cs in
    one_more (Constructor t) (methods_from p t 0 (table p t) ++ rest) (methods_after p t 0 (table p t) rest (lower t rest (bodies_after p (t + 2) cs)))

pub listed_by_class : (p : TypedTree) (os : List Origin) → os ≡ bodies p → IsByClass os
listed_by_class p os e = subst IsByClass (sym e) (bodies_after p 4 p.classes).rises

-- the same of the code's list
pub by_class_in_code : (os : List code.Origin) → IsByClass (map origin_of os) → IsNonDecreasingBy (λ o. class_in (origin_of o)) os
by_class_in_code os h i j d e l =
    let within : j < length (map origin_of os) = rw length-map l in
    let before : class_in (get_or (map origin_of os) i (origin_of d)) ≤ class_in (get_or (map origin_of os) j (origin_of d)) = h i j (origin_of d) e within in
    let first = get_or-map origin_of os i d (origin_of d) (omega (arith, e, l)) in
    let last = get_or-map origin_of os j d (origin_of d) l in
    omega (arith, before, ap class_in first, ap class_in last)

-- ---- a body and those of lower classes

pub not_below : (a b : ℕ) → ltb a b ≡ false → b ≤ a
not_below a b e = grind (arith, nat_tests)

apart : (o q : Origin) → class_in q < class_in o → same_origin o q ≡ false
apart (Constructor t) (Constructor u) l = grind (arith, nat_tests)
apart (Constructor t) (Method u n) l = refl
apart (Method t m) (Constructor u) l = refl
apart (Method t m) (Method u n) l =
    let other : (t == u) ≡ false = grind (arith, nat_tests) in
    ap (λ b. b && (m == n)) other

-- ---- where the first k fail

module _ {X Y : Type 0} (p : Y → Bool) (f : X → Y) where
  behind : (os : List X) (k : ℕ) → k ≤ length os → ((i : ℕ) (d : X) → i < k → p (f (get_or os i d)) ≡ false)
      → position_or_len p (map f os) ≡ k + position_or_len p (map f (drop k os))
  behind os zero l h = omega arith
  behind [] (suc k) l h = absurd (omega (arith, l))
  behind (o ∷ os) (suc k) l h =
      let next = behind os k (omega (arith, l)) (λ i d s. h (suc i) d (omega (arith, s))) in
      let here : p (f o) ≡ false = h zero o (omega arith) in
      rw here (omega (arith, next))

shifted : (k a b c d : ℕ) → c ≡ k + a → d ≡ k + b → cond (ltb c d) (Some c) None ≡ option_map (λ i. k + i) (cond (ltb a b) (Some a) None)
shifted k a b c d e f = grind (arith, nat_tests)

module _ {X Y : Type 0} (p : Y → Bool) (f : X → Y) where
  position_after : (os : List X) (k : ℕ) → k ≤ length os → ((i : ℕ) (d : X) → i < k → p (f (get_or os i d)) ≡ false)
      → position p (map f os) ≡ option_map (λ i. k + i) (position p (map f (drop k os)))
  position_after os k l h =
      let all : length (map f os) ≡ k + length (map f (drop k os)) = omega (arith, length-map os f, length-map (drop k os) f, length-drop k os) in
      shifted k _ _ _ _ (behind p f os k l h) all

-- ---- the search from where the class begins

-- the first k are of lower classes, and r is what was found in the rest
pub found_in_class : (o : Origin) (os rest : List code.Origin) (t k : ℕ) (r : Option ℕ) → t ≡ class_in o → k ≤ length os → AllWithin (λ q. class_in (origin_of q) < t) os 0 k
    → rest ≡ drop k os → r ≡ position (same_origin o) (map origin_of rest) → option_map (λ i. k + i) r ≡ position (same_origin o) (map origin_of os)
found_in_class o os rest t k r e l h same found =
    let none_before = position_after (same_origin o) origin_of os k l (λ i d s. apart o (origin_of (get_or os i d)) (omega (arith, e, h i d (omega arith) s))) in
    ap (option_map (λ i. k + i)) (found ∙ ap (λ qs. position (same_origin o) (map origin_of qs)) same) ∙ sym none_before
