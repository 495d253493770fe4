-- A nonterminal that stands in itself, one level deeper.
use Rattle.std.proofs.Common.{◌≡◌, ℕ, zero, suc, ◌<◌, List, [], Result, Err, Bool, subst, arith}
use Rattle.ss_grammar.specs.declared.fault.Fault.{Fault}
use Rattle.ss_grammar.specs.declared.fault.Fault.TheVariants.{Expected}
use Rattle.ss_grammar.specs.Language.{Tower, Starts, Finds}
use Rattle.ss_grammar.proofs.Facts.{Facts, Any, narrow}
use Rattle.ss_grammar.proofs.Good.{Good, Grows, good_from}
use Rattle.ss_grammar.proofs.Finding.{find_same}

-- the same, one level deeper than U
abbrev pub Over : {T A : Type 0} → (List T → A → Type 0) → ((List T → A → Type 0) → List T → A → Type 0) → (ℕ → List T → A → Type 0) → ℕ → List T → A → Type 0
Over F0 F U zero = F0
Over F0 F U (suc d) = F (U d)

-- a part of the grammar whose reader is right below level n
pub record ReadsTo {T A : Type 0} (n : ℕ) (L : ℕ → List T → A → Type 0) (first goes : T → Bool) (empty : Bool) (p : ℕ → List T → Result (A × List T) (Fault × List T)) : Type 0 where
  pub good : Good L first goes empty
  pub finds : (d : ℕ) → d < n → (ts : List T) → Finds L d ts (p d ts)

module _ {T A : Type 0} (F0 : List T → A → Type 0) (F : (List T → A → Type 0) → List T → A → Type 0) (first goes : T → Bool) (empty : Bool) (over : (ℕ → List T → Result (A × List T) (Fault × List T)) → ℕ → List T → Result (A × List T) (Fault × List T)) (body : (n : ℕ) (U : ℕ → List T → A → Type 0) (u : ℕ → List T → Result (A × List T) (Fault × List T)) → ReadsTo n U first goes empty u → ReadsTo (suc n) (Over F0 F U) first goes empty (over u)) where
  abbrev X : ℕ → List T → A → Type 0
  X = Tower F0 F

  abbrev nothing : ℕ → List T → Result (A × List T) (Fault × List T)
  nothing d ts = Err (Expected, ts)

  over_good : (U : ℕ → List T → A → Type 0) → Good U first goes empty → Good (Over F0 F U) first goes empty
  over_good U g = (body 0 U nothing (record { good = g; finds = λ d lt. absurd (omega arith) })).good

  record Level (d : ℕ) : Type 0 where
    facts : Facts (X d) first goes empty
    some : Starts (X d) []

  const_good : (d : ℕ) → Level d → Good (λ _. X d) first goes empty
  const_good d l = record { facts = narrow (X d) (Any (λ _. X d)) first goes empty (λ ts v p. p.1) l.facts; grows = λ e ts v p. p; some = l.some }

  module _ (seed : ℕ → List T → A → Type 0) (seeded : Good seed first goes empty) where
    level : (d : ℕ) → Level d
    level zero =
        let g = over_good seed seeded in
        record { facts = narrow (Any (Over F0 F seed)) F0 first goes empty (λ ts v p. (0, p)) g.facts; some = g.some }
    level (suc d) =
        let g = over_good (λ _. X d) (const_good d (level d)) in
        record {
          facts = narrow (Any (Over F0 F (λ _. X d))) (X (suc d)) first goes empty (λ ts v p. (1, p)) g.facts;
          some = record { more = g.some.more; value = g.some.value; reads = g.grows 0 g.some.more g.some.value g.some.reads };
        }

    abbrev two : ℕ → ℕ → List T → A → Type 0
    two d zero = X d
    two d (suc e) = X (suc d)

    two_in : (d : ℕ) → ((ts : List T) (v : A) → X d ts v → X (suc d) ts v) → (e : ℕ) (ts : List T) (v : A) → two d e ts v → X (suc d) ts v
    two_in d h zero ts v p = h ts v p
    two_in d h (suc e) ts v p = p

    two_grows : (d : ℕ) → ((ts : List T) (v : A) → X d ts v → X (suc d) ts v) → Grows (two d)
    two_grows d h zero ts v p = h ts v p
    two_grows d h (suc e) ts v p = p

    grows : (d : ℕ) (ts : List T) (v : A) → X d ts v → X (suc d) ts v
    grows zero ts v p = (over_good (λ _. X 0) (const_good 0 (level 0))).grows 0 ts v p
    grows (suc d) ts v p =
        let h = λ (ts : List T) (v : A) (q : X d ts v). grows d ts v q in
        let g : Good (two d) first goes empty = record { facts = narrow (X (suc d)) (Any (two d)) first goes empty (λ ts v q. two_in d h q.0 ts v q.1) (level (suc d)).facts; grows = two_grows d h; some = (level d).some } in
        (over_good (two d) g).grows 1 ts v p

    pub tower_good : Good X first goes empty
    tower_good = good_from X first goes empty (λ d. (level d).facts) grows (level 0).some

    to_over : (d : ℕ) (ts : List T) (v : A) → X d ts v → Over F0 F X d ts v
    to_over zero ts v p = p
    to_over (suc d) ts v p = p

    from_over : (d : ℕ) (ts : List T) (v : A) → Over F0 F X d ts v → X d ts v
    from_over zero ts v p = p
    from_over (suc d) ts v p = p

    module _ (x : ℕ → List T → Result (A × List T) (Fault × List T)) (same : (d : ℕ) (ts : List T) → over x d ts ≡ x d ts) where
      pub tower_reads : (n : ℕ) → ReadsTo n X first goes empty x
      tower_reads zero = record { good = tower_good; finds = λ d lt. absurd (omega arith) }
      tower_reads (suc n) =
          let b = body n X x (tower_reads n) in
          record { good = tower_good; finds = λ d lt ts. find_same (Over F0 F X) X from_over to_over d ts (x d ts) (subst (λ r. Finds (Over F0 F X) d ts r) (same d ts) (b.finds d lt ts)) }
