-- Several parts that stand in one another, one level deeper each time.
use Rattle.std.proofs.Common.{◌≡◌, ℕ, zero, suc, ◌+◌, ◌<◌, List, [], ◌∷◌, ◌++◌, Option, None, Result, Err, Bool, true, false, subst, arith}
use Rattle.ss_grammar.specs.declared.fault.Fault.{Fault}
use Rattle.ss_grammar.specs.declared.fault.Fault.TheVariants.{Expected}
use Rattle.ss_grammar.specs.Language.{Starts, Finds}
use Rattle.ss_grammar.proofs.Facts.{Facts, Any, narrow}
use Rattle.ss_grammar.proofs.Good.{Good, Grows, good_from, grown}
use Rattle.ss_grammar.proofs.Finding.{find_same}
use Rattle.ss_grammar.proofs.Knot.{ReadsTo}
use Rattle.ss_grammar.proofs.KnotOpen.{Closed, Opened, Ends_open}
use Rattle.ss_grammar_expressions.proofs.First.{Alive}

-- a part whose reader is right below level n; at level 0 a list of it begins with `sample`, and at some level one with each token of `must`
pub record PartTo {T A : Type 0} (n : ℕ) (L : ℕ → List T → A → Type 0) (first goes : T → Bool) (empty : Bool) (sample : List T) (must : T → Bool) (p : ℕ → List T → Result (A × List T) (Fault × List T)) : Type 0 where
  pub reads : ReadsTo n L first goes empty p
  pub starts : Starts (L 0) sample
  pub alive : 0 < n → (t : T) → must t ≡ true → Alive L t

from_nothing : {T A : Type 0} (L : List T → A → Type 0) (s : List T) → Starts L s → Starts L []
from_nothing L s x = record { more = s ++ x.more; value = x.value; reads = x.reads }

module _ {T I : Type 0} (A : I → Type 0) (F0 : (i : I) → List T → A i → Type 0) (F : ((i : I) → List T → A i → Type 0) → (i : I) → List T → A i → Type 0) (first goes : I → T → Bool) (empty : I → Bool) (sample : I → List T) (must : I → T → Bool) where
  abbrev pub Towers : ℕ → (i : I) → List T → A i → Type 0
  Towers zero = F0
  Towers (suc d) = F (Towers d)

  abbrev pub Overs : ((i : I) → ℕ → List T → A i → Type 0) → (i : I) → ℕ → List T → A i → Type 0
  Overs U i zero = F0 i
  Overs U i (suc d) = F (λ j. U j d) i

  abbrev pub Part : ℕ → (i : I) → (ℕ → List T → A i → Type 0) → (ℕ → List T → Result (A i × List T) (Fault × List T)) → Type 0
  Part n i L p = PartTo n L (first i) (goes i) (empty i) (sample i) (must i) p

  -- with a property beside them: what is open goes on with a token that f knows, and what is closed never does
  module _ {B : Type 0} (f : T → Option B) (open_ : (i : I) → A i → Bool) where
    abbrev pub OpenPart : (i : I) → (ℕ → List T → A i → Type 0) → Type 0
    OpenPart i L = Ends_open f (open_ i) L

    module _ (over : ((i : I) → ℕ → List T → Result (A i × List T) (Fault × List T)) → (i : I) → ℕ → List T → Result (A i × List T) (Fault × List T)) (body : (n : ℕ) (U : (i : I) → ℕ → List T → A i → Type 0) (u : (i : I) → ℕ → List T → Result (A i × List T) (Fault × List T)) → ((i : I) → Part n i (U i) (u i)) → ((i : I) → OpenPart i (U i)) → (i : I) → Part (suc n) i (Overs U i) (over u i) × OpenPart i (Overs U i)) (seed : (i : I) → ℕ → List T → A i → Type 0) (seeded : (i : I) → Good (seed i) (first i) (goes i) (empty i)) (seed_starts : (i : I) → Starts (seed i 0) (sample i)) (seed_open : (i : I) → OpenPart i (seed i)) where
      abbrev X : (i : I) → ℕ → List T → A i → Type 0
      X i d = Towers d i

      nothing : (i : I) → ℕ → List T → Result (A i × List T) (Fault × List T)
      nothing i d ts = Err (Expected, ts)

      over_part : (U : (i : I) → ℕ → List T → A i → Type 0) → ((i : I) → Good (U i) (first i) (goes i) (empty i)) → ((i : I) → Starts (U i 0) (sample i)) → ((i : I) → OpenPart i (U i)) → (i : I) → Part 1 i (Overs U i) (over nothing i) × OpenPart i (Overs U i)
      over_part U g s o i = body 0 U nothing (λ j. record { reads = record { good = g j; finds = λ d lt. absurd (omega arith) }; starts = s j; alive = λ lt. absurd (omega arith) }) o i

      record Level (d : ℕ) (i : I) : Type 0 where
        facts : Facts (X i d) (first i) (goes i) (empty i)
        starts : Starts (X i d) (sample i)
        closed : Closed f (open_ i) (X i d)
        opened : Opened f (open_ i) (X i d)

      const_good : (d : ℕ) → ((i : I) → Level d i) → (i : I) → Good (λ _. X i d) (first i) (goes i) (empty i)
      const_good d l i = record { facts = narrow (X i d) (Any (λ _. X i d)) (first i) (goes i) (empty i) (λ ts v p. p.1) (l i).facts; grows = λ e ts v p. p; some = from_nothing (X i d) (sample i) (l i).starts }

      const_open : (d : ℕ) → ((i : I) → Level d i) → (i : I) → OpenPart i (λ _. X i d)
      const_open d l i = record { closed = λ u a t m c o p q k. (l i).closed u a t m c o p.1 q.1 k; opened = λ e. (l i).opened }

      level : (d : ℕ) (i : I) → Level d i
      level zero i =
          let g = over_part seed seeded seed_starts seed_open i in
          record {
            facts = narrow (Any (Overs seed i)) (F0 i) (first i) (goes i) (empty i) (λ ts v p. (0, p)) g.0.reads.good.facts;
            starts = g.0.starts;
            closed = λ u a t m c o p q k. g.1.closed u a t m c o (0, p) (0, q) k;
            opened = g.1.opened 0;
          }
      level (suc d) i =
          let g = over_part (λ j _. X j d) (const_good d (level d)) (λ j. (level d j).starts) (const_open d (level d)) i in
          record {
            facts = narrow (Any (Overs (λ j _. X j d) i)) (X i (suc d)) (first i) (goes i) (empty i) (λ ts v p. (1, p)) g.0.reads.good.facts;
            starts = record { more = g.0.starts.more; value = g.0.starts.value; reads = g.0.reads.good.grows 0 (sample i ++ g.0.starts.more) g.0.starts.value g.0.starts.reads };
            closed = λ u a t m c o p q k. g.1.closed u a t m c o (1, p) (1, q) k;
            opened = g.1.opened 1;
          }

      abbrev two : ℕ → (i : I) → ℕ → List T → A i → Type 0
      two d i zero = X i d
      two d i (suc e) = X i (suc d)

      two_in : (d : ℕ) (i : I) → ((ts : List T) (v : A i) → X i d ts v → X i (suc d) ts v) → (e : ℕ) (ts : List T) (v : A i) → two d i e ts v → X i (suc d) ts v
      two_in d i h zero ts v p = h ts v p
      two_in d i h (suc e) ts v p = p

      two_grows : (d : ℕ) (i : I) → ((ts : List T) (v : A i) → X i d ts v → X i (suc d) ts v) → Grows (two d i)
      two_grows d i h zero ts v p = h ts v p
      two_grows d i h (suc e) ts v p = p

      two_opened : (d : ℕ) (i : I) (e : ℕ) → Opened f (open_ i) (two d i e)
      two_opened d i zero = (level d i).opened
      two_opened d i (suc e) = (level (suc d) i).opened

      grows : (d : ℕ) (i : I) (ts : List T) (v : A i) → X i d ts v → X i (suc d) ts v
      grows zero i ts v p = (over_part (λ j _. X j 0) (const_good 0 (level 0)) (λ j. (level 0 j).starts) (const_open 0 (level 0)) i).0.reads.good.grows 0 ts v p
      grows (suc d) i ts v p =
          let g : (j : I) → Good (two d j) (first j) (goes j) (empty j) = λ j. record { facts = narrow (X j (suc d)) (Any (two d j)) (first j) (goes j) (empty j) (λ ts v q. two_in d j (λ ts v q. grows d j ts v q) q.0 ts v q.1) (level (suc d) j).facts; grows = two_grows d j (λ ts v q. grows d j ts v q); some = from_nothing (X j d) (sample j) (level d j).starts } in
          let o : (j : I) → OpenPart j (two d j) = λ j. record { closed = λ u a t m c o p q k. (level (suc d) j).closed u a t m c o (two_in d j (λ ts v q. grows d j ts v q) p.0 u a p.1) (two_in d j (λ ts v q. grows d j ts v q) q.0 (u ++ t ∷ m) c q.1) k; opened = two_opened d j } in
          (over_part (two d) g (λ j. (level d j).starts) o i).0.reads.good.grows 1 ts v p

      pub knots_good : (i : I) → Good (X i) (first i) (goes i) (empty i)
      knots_good i = good_from (X i) (first i) (goes i) (empty i) (λ d. (level d i).facts) (λ d ts v p. grows d i ts v p) (from_nothing (X i 0) (sample i) (level 0 i).starts)

      pub towers_end : (i : I) → OpenPart i (X i)
      towers_end i = record {
        closed = λ u a t m c o p q k.
            let e : q.0 + p.0 ≡ p.0 + q.0 = omega arith in
            (level (p.0 + q.0) i).closed u a t m c o (subst (λ n. X i n u a) e (grown (X i) (λ d ts v p. grows d i ts v p) q.0 p.0 u a p.1)) (grown (X i) (λ d ts v p. grows d i ts v p) p.0 q.0 (u ++ t ∷ m) c q.1) k;
        opened = λ d. (level d i).opened;
      }

      to_over : (i : I) (d : ℕ) (ts : List T) (v : A i) → X i d ts v → Overs X i d ts v
      to_over i zero ts v p = p
      to_over i (suc d) ts v p = p

      from_over : (i : I) (d : ℕ) (ts : List T) (v : A i) → Overs X i d ts v → X i d ts v
      from_over i zero ts v p = p
      from_over i (suc d) ts v p = p

      module _ (x : (i : I) → ℕ → List T → Result (A i × List T) (Fault × List T)) (same : (i : I) (d : ℕ) (ts : List T) → over x i d ts ≡ x i d ts) where
        pub towers_read_open : (n : ℕ) (i : I) → Part n i (X i) (x i)
        towers_read_open zero i = record { reads = record { good = knots_good i; finds = λ d lt. absurd (omega arith) }; starts = (level 0 i).starts; alive = λ lt. absurd (omega arith) }
        towers_read_open (suc n) i =
            let b = (body n X x (towers_read_open n) towers_end i).0 in
            record {
              reads = record { good = knots_good i; finds = λ d lt ts. find_same (Overs X i) (X i) (from_over i) (to_over i) d ts (x i d ts) (subst (λ r. Finds (Overs X i) d ts r) (same i d ts) (b.reads.finds d lt ts)) };
              starts = (level 0 i).starts;
              alive = λ lt t h. let a = b.alive (omega arith) t h in (a.0, record { more = a.1.more; value = a.1.value; reads = from_over i a.0 ((t ∷ []) ++ a.1.more) a.1.value a.1.reads });
            }

  no_ends : (L : (i : I) → ℕ → List T → A i → Type 0) (i : I) → Ends_open {B = Unit {0}} (λ t. None) (λ a. false) (L i)
  no_ends L i = record { closed = λ u a t m c e p q k. absurd cc; opened = λ d u a t e p k. absurd cc }

  module _ (over : ((i : I) → ℕ → List T → Result (A i × List T) (Fault × List T)) → (i : I) → ℕ → List T → Result (A i × List T) (Fault × List T)) (body : (n : ℕ) (U : (i : I) → ℕ → List T → A i → Type 0) (u : (i : I) → ℕ → List T → Result (A i × List T) (Fault × List T)) → ((i : I) → Part n i (U i) (u i)) → (i : I) → Part (suc n) i (Overs U i) (over u i)) (seed : (i : I) → ℕ → List T → A i → Type 0) (seeded : (i : I) → Good (seed i) (first i) (goes i) (empty i)) (seed_starts : (i : I) → Starts (seed i 0) (sample i)) where
    module _ (x : (i : I) → ℕ → List T → Result (A i × List T) (Fault × List T)) (same : (i : I) (d : ℕ) (ts : List T) → over x i d ts ≡ x i d ts) where
      pub towers_reads : (n : ℕ) (i : I) → Part n i (λ d. Towers d i) (x i)
      towers_reads n i = towers_read_open {B = Unit {0}} (λ t. None) (λ i a. false) over (λ n U u r e j. (body n U u r j, no_ends (Overs U) j)) seed seeded seed_starts (no_ends seed) x same n i
