-- A nonterminal that stands in itself, one level deeper: which of its values are open, and how open and closed ones go on.
use Rattle.std.proofs.Common.{◌≡◌, ℕ, zero, suc, ◌+◌, List, [], ◌∷◌, ◌++◌, Option, Result, Err, Bool, true, false, subst, arith}
use Rattle.ss_grammar.specs.declared.fault.Fault.{Fault}
use Rattle.ss_grammar.specs.declared.fault.Fault.TheVariants.{Expected}
use Rattle.ss_grammar.specs.Language.{Tower, Starts, Finds}
use Rattle.ss_grammar.proofs.Facts.{Facts, Any, known, narrow}
use Rattle.ss_grammar.proofs.Good.{Good, Grows, good_from, grown}
use Rattle.ss_grammar.proofs.Finding.{find_same}
use Rattle.ss_grammar.proofs.Knot.{Over, ReadsTo}

-- what isn't open never goes on with a token that f knows
abbrev pub Closed : {T A B : Type 0} → (T → Option B) → (A → Bool) → (List T → A → Type 0) → Type 0
Closed {T} {A} f open_ M = (u : List T) (a : A) (t : T) (m : List T) (c : A) → open_ a ≡ false → M u a → M (u ++ t ∷ m) c → known (f t) ≡ true → ⊥

-- and what is open does
abbrev pub Opened : {T A B : Type 0} → (T → Option B) → (A → Bool) → (List T → A → Type 0) → Type 0
Opened {T} {A} f open_ M = (u : List T) (a : A) (t : T) → open_ a ≡ true → M u a → known (f t) ≡ true → Starts M (u ++ t ∷ [])

pub record Ends_open {T A B : Type 0} (f : T → Option B) (open_ : A → Bool) (U : ℕ → List T → A → Type 0) : Type 0 where
  pub closed : Closed f open_ (Any U)
  pub opened : (d : ℕ) → Opened f open_ (U d)

module _ {T A B : Type 0} (f : T → Option B) (open_ : A → Bool) (F0 : List T → A → Type 0) (F : (List T → A → Type 0) → List T → A → Type 0) (first goes : T → Bool) (empty : Bool) (over : (ℕ → List T → Result (A × List T) (Fault × List T)) → ℕ → List T → Result (A × List T) (Fault × List T)) (body : (n : ℕ) (U : ℕ → List T → A → Type 0) (u : ℕ → List T → Result (A × List T) (Fault × List T)) → ReadsTo n U first goes empty u → Ends_open f open_ U → ReadsTo (suc n) (Over F0 F U) first goes empty (over u) × Ends_open f open_ (Over F0 F U)) where
  abbrev X : ℕ → List T → A → Type 0
  X = Tower F0 F

  abbrev nothing : ℕ → List T → Result (A × List T) (Fault × List T)
  nothing d ts = Err (Expected, ts)

  over_good : (U : ℕ → List T → A → Type 0) → Good U first goes empty → Ends_open f open_ U → Good (Over F0 F U) first goes empty × Ends_open f open_ (Over F0 F U)
  over_good U g o = let b = body 0 U nothing (record { good = g; finds = λ d lt. absurd (omega arith) }) o in (b.0.good, b.1)

  record Level (d : ℕ) : Type 0 where
    facts : Facts (X d) first goes empty
    some : Starts (X d) []
    closed : Closed f open_ (X d)
    opened : Opened f open_ (X d)

  const_good : (d : ℕ) → Level d → Good (λ _. X d) first goes empty
  const_good d l = record { facts = narrow (X d) (Any (λ _. X d)) first goes empty (λ ts v p. p.1) l.facts; grows = λ e ts v p. p; some = l.some }

  const_open : (d : ℕ) → Level d → Ends_open f open_ (λ _. X d)
  const_open d l = record { closed = λ u a t m c o p q k. l.closed u a t m c o p.1 q.1 k; opened = λ e. l.opened }

  module _ (seed : ℕ → List T → A → Type 0) (seeded : Good seed first goes empty) (seeded_open : Ends_open f open_ seed) where
    level : (d : ℕ) → Level d
    level zero =
        let g = over_good seed seeded seeded_open in
        record {
          facts = narrow (Any (Over F0 F seed)) F0 first goes empty (λ ts v p. (0, p)) g.0.facts;
          some = record { more = g.0.some.more; value = g.0.some.value; reads = g.0.some.reads };
          closed = λ u a t m c o p q k. g.1.closed u a t m c o (0, p) (0, q) k;
          opened = g.1.opened 0;
        }
    level (suc d) =
        let l = level d in
        let g = over_good (λ _. X d) (const_good d l) (const_open d l) in
        record {
          facts = narrow (Any (Over F0 F (λ _. X d))) (X (suc d)) first goes empty (λ ts v p. (1, p)) g.0.facts;
          some = record { more = g.0.some.more; value = g.0.some.value; reads = g.0.grows 0 g.0.some.more g.0.some.value g.0.some.reads };
          closed = λ u a t m c o p q k. g.1.closed u a t m c o (1, p) (1, q) k;
          opened = g.1.opened 1;
        }

    abbrev two : ℕ → ℕ → List T → A → Type 0
    two d zero = X d
    two d (suc e) = X (suc d)

    two_in : (d : ℕ) → ((ts : List T) (v : A) → X d ts v → X (suc d) ts v) → (e : ℕ) (ts : List T) (v : A) → two d e ts v → X (suc d) ts v
    two_in d h zero ts v p = h ts v p
    two_in d h (suc e) ts v p = p

    two_grows : (d : ℕ) → ((ts : List T) (v : A) → X d ts v → X (suc d) ts v) → Grows (two d)
    two_grows d h zero ts v p = h ts v p
    two_grows d h (suc e) ts v p = p

    two_opened : (d e : ℕ) → Opened f open_ (two d e)
    two_opened d zero = (level d).opened
    two_opened d (suc e) = (level (suc d)).opened

    grows : (d : ℕ) (ts : List T) (v : A) → X d ts v → X (suc d) ts v
    grows zero ts v p = (over_good (λ _. X 0) (const_good 0 (level 0)) (const_open 0 (level 0))).0.grows 0 ts v p
    grows (suc d) ts v p =
        let h = λ (ts : List T) (v : A) (q : X d ts v). grows d ts v q in
        let g : Good (two d) first goes empty = record { facts = narrow (X (suc d)) (Any (two d)) first goes empty (λ ts v q. two_in d h q.0 ts v q.1) (level (suc d)).facts; grows = two_grows d h; some = (level d).some } in
        let o : Ends_open f open_ (two d) = record { closed = λ u a t m c o p q k. (level (suc d)).closed u a t m c o (two_in d h p.0 u a p.1) (two_in d h q.0 (u ++ t ∷ m) c q.1) k; opened = two_opened d } in
        (over_good (two d) g o).0.grows 1 ts v p

    pub tower_good : Good X first goes empty
    tower_good = good_from X first goes empty (λ d. (level d).facts) grows (level 0).some

    pub tower_open : Ends_open f open_ X
    tower_open = record {
      closed = λ u a t m c o p q k.
          let e : q.0 + p.0 ≡ p.0 + q.0 = omega arith in
          (level (p.0 + q.0)).closed u a t m c o (subst (λ n. X n u a) e (grown X grows q.0 p.0 u a p.1)) (grown X grows p.0 q.0 (u ++ t ∷ m) c q.1) k;
      opened = λ d. (level d).opened;
    }

    to_over : (d : ℕ) (ts : List T) (v : A) → X d ts v → Over F0 F X d ts v
    to_over zero ts v p = p
    to_over (suc d) ts v p = p

    from_over : (d : ℕ) (ts : List T) (v : A) → Over F0 F X d ts v → X d ts v
    from_over zero ts v p = p
    from_over (suc d) ts v p = p

    module _ (x : ℕ → List T → Result (A × List T) (Fault × List T)) (same : (d : ℕ) (ts : List T) → over x d ts ≡ x d ts) where
      pub tower_reads : (n : ℕ) → ReadsTo n X first goes empty x
      tower_reads zero = record { good = tower_good; finds = λ d lt. absurd (omega arith) }
      tower_reads (suc n) =
          let b = (body n X x (tower_reads n) tower_open).0 in
          record { good = tower_good; finds = λ d lt ts. find_same (Over F0 F X) X from_over to_over d ts (x d ts) (subst (λ r. Finds (Over F0 F X) d ts r) (same d ts) (b.finds d lt ts)) }
