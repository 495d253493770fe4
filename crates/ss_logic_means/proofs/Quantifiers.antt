-- Quantifiers: what is so of each whole number in a range.
use Rattle.std.proofs.Common.{◌≡◌, ℕ, zero, suc, ℤ, pos, ◌+ℤ◌, List, [], ◌∷◌, ◌++◌, Bool, true, false, not, Ok, Err, refl, sym, ◌∙◌, subst, arith}
use Rattle.std.specs.Prelude.{int_le}
use Rattle.std.proofs.lemmas.Bool.{false≢true}
use Rattle.std.proofs.lemmas.Int.{ints}
use Rattle.ss_core.specs.declared.expr.Quantifier.{Quantifier}
use Rattle.ss_core.specs.declared.expr.Quantifier.TheVariants as quantifier
use Rattle.ss_core.specs.Tree.{ClassTree}
use Rattle.ss_store_rules.specs.Numbers.{Outcome}
use Rattle.ss_store_rules.specs.Reads.{as_bool}
use Rattle.ss_store_rules.specs.Values as run
use Rattle.ss_logic.specs.declared.Sort.TheVariants as sort
use Rattle.ss_logic.specs.Values.{Value, whole, truth, thing, store, Structure}
use Rattle.ss_logic.specs.Formulas.{Formula, Forall}
use Rattle.ss_logic.proofs.Truth.{formula_stable}
use Rattle.ss_logic.proofs.Numbers.{three_ways_true}
use Rattle.ss_logic.specs.Express.{or_of, Meant, said}
use Rattle.ss_logic_means.proofs.Denoting.{T, M, All, R}
use Rattle.ss_logic_means.proofs.Operations.{IsBool, Gives, truth_denotes}

-- ---- ranges

-- from i to below b
abbrev pub Upto : ℤ → (ℤ → Type 0) → ℤ → Type 0
Upto b P i = (j : ℤ) → int_le i j ≡ true → int_le (j +ℤ pos 1) b ≡ true → P j

-- n numbers stand between i and b
abbrev pub Gap : ℤ → ℕ → ℤ → Type 0
Gap b zero i = int_le b i ≡ true
Gap b (suc n) i = i +ℤ pos (suc n) ≡ b

le_refl : (i : ℤ) → int_le i i ≡ true
le_refl i = grind (arith, ints)

le_step : (i j : ℤ) → int_le (i +ℤ pos 1) j ≡ true → int_le i j ≡ true
le_step i j h = grind (arith, ints)

not_past : (b i j : ℤ) → int_le b i ≡ true → int_le i j ≡ true → int_le (j +ℤ pos 1) b ≡ true → ⊥
not_past b i j p q r = grind (arith, ints)

not_before : (i j : ℤ) → int_le i j ≡ true → int_le (j +ℤ pos 1) i ≡ true → ⊥
not_before i j p q = grind (arith, ints)

first_within : (b i : ℤ) (n : ℕ) → i +ℤ pos (suc n) ≡ b → int_le (i +ℤ pos 1) b ≡ true
first_within b i n h = grind (arith, ints)

gap_next : (b : ℤ) (n : ℕ) (i : ℤ) → Gap b (suc n) i → Gap b n (i +ℤ pos 1)
gap_next b zero i h = grind (arith, ints)
gap_next b (suc n) i h = omega (arith, ints, h)

upto_next : (b : ℤ) (P : ℤ → Type 0) (i : ℤ) → Upto b P i → Upto b P (i +ℤ pos 1)
upto_next b P i h j p q = h j (le_step i j p) q

upto_from : (b : ℤ) (P : ℤ → Type 0) (i : ℤ) → P i → Upto b P (i +ℤ pos 1) → Upto b P i
upto_from b P i h k j p q = three_ways_true {P = P j} i j (λ e. subst P e h) (λ l. k j l q) (λ l. absurd (not_before i j p l))

-- ---- joined truth values

joined_parts : (q : Quantifier) (a b : Bool) → run.joined q a b ≡ run.of_none q → (a ≡ run.of_none q) × (b ≡ run.of_none q)
joined_parts quantifier.Forall true b h = (refl, h)
joined_parts quantifier.Forall false b h = absurd (false≢true h)
joined_parts quantifier.Exists true b h = absurd (false≢true (sym h))
joined_parts quantifier.Exists false b h = (refl, h)

joined_none : (q : Quantifier) (a b : Bool) → a ≡ run.of_none q → b ≡ run.of_none q → run.joined q a b ≡ run.of_none q
joined_none quantifier.Forall true b h k = k
joined_none quantifier.Forall false b h k = h
joined_none quantifier.Exists true b h k = h
joined_none quantifier.Exists false b h k = k

module _ (cs : List ClassTree) (m : Structure) (e : List Value) (b : ℤ) (q : Quantifier) (ps : List Formula) (x : Meant) where
  abbrev pub at : ℤ → List Value
  at i = e ++ whole i ∷ []

  abbrev pub Defined : ℤ → Type 0
  Defined i = All cs m (at i) ps

  -- it doesn't decide: what a `forall` asks of each, and an `exists` of none
  abbrev pub Claim : Quantifier → ℤ → Type 0
  Claim quantifier.Forall i = T cs m (at i) (said x)
  Claim quantifier.Exists i = T cs m (at i) (said x) → ⊥

  abbrev pub Quantifies : Outcome → ℤ → Type 0
  Quantifies (Ok v) i = Upto b Defined i × ((Upto b (Claim q) i → as_bool v ≡ run.of_none q) × (as_bool v ≡ run.of_none q → Upto b (Claim q) i))
  Quantifies (Err u) i = Upto b Defined i → ⊥

  not_true : (c : Bool) → (c ≡ true → ⊥) → c ≡ false
  not_true true n = absurd (n refl)
  not_true false n = refl

  claim_of : (k : Quantifier) (i : ℤ) (c : Bool) → M cs m (at i) (said x) c → (Claim k i → c ≡ run.of_none k) × (c ≡ run.of_none k → Claim k i)
  claim_of quantifier.Forall i c h = (h.0, h.1)
  claim_of quantifier.Exists i c h = (λ n. not_true c (λ y. n (h.1 y)), λ y t. false≢true (sym y ∙ h.0 t))

  step : (i : ℤ) → int_le (i +ℤ pos 1) b ≡ true → (r : Outcome) → R cs m (at i) ps x r → Gives IsBool r → (s : Outcome) → Quantifies s (i +ℤ pos 1) →
      Quantifies (run.and_then r (λ v. run.and_then s (λ w. run.truth (run.joined q (as_bool v) (as_bool w))))) i
  step i l (Ok v) h g (Ok w) k =
      let c = claim_of q i (as_bool v) (truth_denotes cs m (at i) x (Ok v) g v refl h.1) in (
        upto_from b Defined i h.0 k.0,
        (
          λ y. joined_none q (as_bool v) (as_bool w) (c.0 (y i (le_refl i) l)) (k.1.0 (upto_next b (Claim q) i y)),
          λ y. let p = joined_parts q (as_bool v) (as_bool w) y in upto_from b (Claim q) i (c.1 p.0) (k.1.1 p.1),
        ),
      )
  step i l (Ok v) h g (Err u) k = λ d. k (upto_next b Defined i d)
  step i l (Err u) h g s k = λ d. h (d i (le_refl i) l)

  module _ (a : ℤ) (member : ℤ → Outcome) (reads : (i : ℤ) → int_le a i ≡ true → int_le (i +ℤ pos 1) b ≡ true → R cs m (at i) ps x (member i))
      (bools : (i : ℤ) → int_le a i ≡ true → int_le (i +ℤ pos 1) b ≡ true → Gives IsBool (member i)) where
    pub quantified_reads : (n : ℕ) (i : ℤ) → Gap b n i → int_le a i ≡ true → Quantifies (run.quantified q member n i) i
    quantified_reads zero i gap low = (λ j p r. absurd (not_past b i j gap p r), (λ _. refl, λ _ j p r. absurd (not_past b i j gap p r)))
    quantified_reads (suc n) i gap low =
        let l = first_within b i n gap in
        step i l (member i) (reads i low l) (bools i low l) (run.quantified q member n (i +ℤ pos 1)) (quantified_reads n (i +ℤ pos 1) (gap_next b n i gap) (le_next a i low))
      where
        le_next : (a i : ℤ) → int_le a i ≡ true → int_le a (i +ℤ pos 1) ≡ true
        le_next a i h = grind (arith, ints)

-- ---- formulas over a range

module _ (cs : List ClassTree) (m : Structure) (e : List Value) (a b : ℤ) (o1 o2 : Formula)
    (low : (i : ℤ) → M cs m (e ++ whole i ∷ []) o1 (not (int_le a i))) (high : (i : ℤ) → M cs m (e ++ whole i ∷ []) o2 (not (int_le (i +ℤ pos 1) b))) where
  abbrev pub True_at : Formula → ℤ → Type 0
  True_at f i = T cs m (e ++ whole i ∷ []) f

  pub no_more : {c : Bool} → c ≡ true → not c ≡ true → ⊥
  no_more {c = true} p q = false≢true q
  no_more {c = false} p q = false≢true p

  pub forall_upto : (f : Formula) → T cs m e (Forall (sort.Whole ∷ []) (or_of (o1 ∷ o2 ∷ f ∷ []))) → Upto b (True_at f) a
  forall_upto f t j p r =
      formula_stable cs m (e ++ whole j ∷ []) f (λ n. t (whole j ∷ []) (refl, tt) (
        (λ k. no_more p ((low j).0 k)),
        ((λ k. no_more r ((high j).0 k)), (n, tt)),
      ))

  either : (c : Bool) → (c ≡ true → ⊥) → (not c ≡ true → ⊥) → ⊥
  either true p q = p refl
  either false p q = q refl

  pub upto_forall : (f : Formula) → Upto b (True_at f) a → T cs m e (Forall (sort.Whole ∷ []) (or_of (o1 ∷ o2 ∷ f ∷ [])))
  upto_forall f h (whole j ∷ []) are n =
      either (int_le a j) (λ p. either (int_le (j +ℤ pos 1) b) (λ r. n.1.1.0 (h j p r)) (λ r. n.1.0 ((high j).1 r))) (λ p. n.0 ((low j).1 p))
  upto_forall f h [] are n = are
  upto_forall f h (whole j ∷ v ∷ vs) are n = are.1
  upto_forall f h (truth c ∷ vs) are n = let no : ⊥ = (let w = are.0 in cc) in no
  upto_forall f h (thing w ∷ vs) are n = let no : ⊥ = (let w = are.0 in cc) in no
  upto_forall f h (store w ∷ vs) are n = let no : ⊥ = (let w = are.0 in cc) in no
