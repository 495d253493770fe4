-- A quantifier's formula and parts say what the run computes over its range.
use Rattle.std.proofs.Common.{◌≡◌, ℕ, zero, suc, ◌+◌, ℤ, pos, negsuc, ◌+ℤ◌, List, [], ◌∷◌, ◌++◌, Bool, true, false, not, map, Ok, Err, refl, sym, ◌∙◌, ap, subst, arith}
use Rattle.std.specs.Prelude.{int_le}
use Rattle.std.specs.Int.{int_gap}
use Rattle.std.proofs.lemmas.Bool.{false≢true, le-leb}
use Rattle.std.proofs.lemmas.Int.{ints}
use Rattle.ss_core.specs.declared.expr.Quantifier.{Quantifier}
use Rattle.ss_core.specs.declared.expr.Quantifier.TheVariants as quantifier
use Rattle.ss_core.specs.Tree.{ClassTree}
use Rattle.ss_store_rules.specs.declared.Value.{Value as ObjectValue}
use Rattle.ss_store_rules.specs.declared.Value.TheVariants as value
use Rattle.ss_store_rules.specs.Numbers.{Outcome}
use Rattle.ss_store_rules.specs.Reads.{as_bool}
use Rattle.ss_store_rules.specs.Values as run
use Rattle.ss_logic.specs.declared.Sort.TheVariants as sort
use Rattle.ss_logic.specs.Values.{Value, whole, truth, thing, store, Structure}
use Rattle.ss_logic.specs.Formulas.{Formula, Forall, Exists, AreOf, neg}
use Rattle.ss_logic.proofs.Truth.{neg_true, not_both}
use Rattle.ss_logic.specs.Express.{and_of, or_of, Meant, Says, said}
use Rattle.ss_logic_means.proofs.Denoting.{T, M, D, All, R, says_denotes}
use Rattle.ss_logic_means.proofs.Operations.{IsBool, Gives, bool_standing}
use Rattle.ss_logic_means.proofs.Quantifiers.{Upto, Gap, Quantifies, quantified_reads, forall_upto, upto_forall, no_more}

gap_at : (a b : ℤ) (n : ℕ) → int_gap a b ≡ n → Gap b n a
gap_at (pos a) (pos b) zero h = le-leb b a (omega (arith, h))
gap_at (pos a) (pos b) (suc n) h = let e : a + suc n ≡ b = omega (arith, h) in ap pos e
gap_at (pos a) (negsuc b) zero h = refl
gap_at (pos a) (negsuc b) (suc n) h = absurd (omega (arith, h))
gap_at (negsuc a) (pos b) zero h = absurd (omega (arith, h))
gap_at (negsuc a) (pos b) (suc n) h = omega (arith, ints, h)
gap_at (negsuc a) (negsuc b) zero h = le-leb a b (omega (arith, h))
gap_at (negsuc a) (negsuc b) (suc n) h = omega (arith, ints, h)

pub le_self : (i : ℤ) → int_le i i ≡ true
le_self i = grind (arith, ints)

same_ok : (u v : ObjectValue) → ◌≡◌ {A = Outcome} (Ok u) (Ok v) → u ≡ v
same_ok u v e = cc

bool_ok : (c : Bool) (u : ObjectValue) → run.truth c ≡ Ok u → IsBool u
bool_ok c u e = subst IsBool (same_ok (value.Bool c) u e) tt

bool_joined : (q : Quantifier) (r s : Outcome) (u : ObjectValue) → run.and_then r (λ v. run.and_then s (λ w. run.truth (run.joined q (as_bool v) (as_bool w)))) ≡ Ok u → IsBool u
bool_joined q (Ok v) (Ok w) u e = bool_ok (run.joined q (as_bool v) (as_bool w)) u e
bool_joined q (Ok v) (Err x) u e = absurd (let no : ⊥ = cc in no)
bool_joined q (Err x) s u e = absurd (let no : ⊥ = cc in no)

-- a quantifier gives a truth value
pub quantified_bool : (q : Quantifier) (member : ℤ → Outcome) (n : ℕ) (i : ℤ) → Gives IsBool (run.quantified q member n i)
quantified_bool q member zero i u e = bool_ok (run.of_none q) u e
quantified_bool q member (suc n) i u e = bool_joined q (member i) (run.quantified q member n (i +ℤ pos 1)) u e

module _ (cs : List ClassTree) (m : Structure) (e : List Value) (a b : ℤ) (o1 o2 : Formula)
    (low : (i : ℤ) → M cs m (e ++ whole i ∷ []) o1 (not (int_le a i))) (high : (i : ℤ) → M cs m (e ++ whole i ∷ []) o2 (not (int_le (i +ℤ pos 1) b))) where
  abbrev pub over_range : List Formula → List Formula
  over_range ps = map (λ part. Forall (sort.Whole ∷ []) (or_of (o1 ∷ o2 ∷ part ∷ []))) ps

  pub parts_upto : (ps : List Formula) → All cs m e (over_range ps) → Upto b (λ i. All cs m (e ++ whole i ∷ []) ps) a
  parts_upto [] t j p r = tt
  parts_upto (f ∷ ps) t j p r = (forall_upto cs m e a b o1 o2 low high f t.0 j p r, parts_upto ps t.1 j p r)

  pub upto_parts : (ps : List Formula) → Upto b (λ i. All cs m (e ++ whole i ∷ []) ps) a → All cs m e (over_range ps)
  upto_parts [] h = tt
  upto_parts (f ∷ ps) h = (upto_forall cs m e a b o1 o2 low high f (λ j p r. (h j p r).0), upto_parts ps (λ j p r. (h j p r).1))

  abbrev pub quantified_formula : Quantifier → Formula → Formula
  quantified_formula quantifier.Forall f = Forall (sort.Whole ∷ []) (or_of (o1 ∷ o2 ∷ f ∷ []))
  quantified_formula quantifier.Exists f = Exists (sort.Whole ∷ []) (and_of (neg o1 ∷ neg o2 ∷ f ∷ []))

  within : (e' : List Value) (o : Formula) (c : Bool) → M cs m e' o (not c) → T cs m e' (neg o) → c ≡ true
  within e' o true h n = refl
  within e' o false h n = absurd (not_both cs m e' o (h.1 refl) n)

  none_exists : (f : Formula) → Upto b (λ i. T cs m (e ++ whole i ∷ []) f → ⊥) a → (vs : List Value) → AreOf (sort.Whole ∷ []) vs → T cs m (e ++ vs) (and_of (neg o1 ∷ neg o2 ∷ f ∷ [])) → ⊥
  none_exists f h (whole j ∷ []) are t = h j (within (e ++ whole j ∷ []) o1 (int_le a j) (low j) t.0) (within (e ++ whole j ∷ []) o2 (int_le (j +ℤ pos 1) b) (high j) t.1.0) t.1.1.0
  none_exists f h [] are t = are
  none_exists f h (whole j ∷ v ∷ vs) are t = are.1
  none_exists f h (truth c ∷ vs) are t = let no : ⊥ = (let w = are.0 in cc) in no
  none_exists f h (thing w ∷ vs) are t = let no : ⊥ = (let w = are.0 in cc) in no
  none_exists f h (store w ∷ vs) are t = let no : ⊥ = (let w = are.0 in cc) in no

  quantified_means : (q : Quantifier) (ps : List Formula) (x : Meant) (v : ObjectValue) → Quantifies cs m e b q ps x (Ok v) a → M cs m e (quantified_formula q (said x)) (as_bool v)
  quantified_means quantifier.Forall ps x v k = (λ t. k.1.0 (forall_upto cs m e a b o1 o2 low high (said x) t), λ y. upto_forall cs m e a b o1 o2 low high (said x) (k.1.1 y))
  quantified_means quantifier.Exists ps x v k = (
    λ t. or_not (as_bool v) (λ y. t (none_exists (said x) (k.1.1 y))),
    λ y n. false≢true (sym (k.1.0 (λ j p r t. n (whole j ∷ []) (refl, tt) (
      neg_true cs m (e ++ whole j ∷ []) o1 (λ z. no_more cs m e a b o1 o2 low high p ((low j).0 z)),
      (neg_true cs m (e ++ whole j ∷ []) o2 (λ z. no_more cs m e a b o1 o2 low high r ((high j).0 z)), (t, tt)),
    ))) ∙ y),
  )
    where
      or_not : (c : Bool) → (c ≡ false → ⊥) → c ≡ true
      or_not true n = refl
      or_not false n = absurd (n refl)

  finished : (q : Quantifier) (ps : List Formula) (x : Meant) (r : Outcome) → Gives IsBool r → Quantifies cs m e b q ps x r a → R cs m e (over_range ps) (Says (quantified_formula q (said x))) r
  finished q ps x (Ok v) g k = (
    upto_parts ps k.0,
    subst (λ w. D cs m e (Says (quantified_formula q (said x))) w) (sym (bool_standing v (g v refl))) (says_denotes cs m e (quantified_formula q (said x)) (as_bool v) (quantified_means q ps x v k)),
  )
  finished q ps x (Err u) g k = λ t. k (parts_upto ps t)

  -- over the range of a quantifier, where each member is read
  pub range_reads : (q : Quantifier) (ps : List Formula) (x : Meant) (member : ℤ → Outcome) →
      ((i : ℤ) → int_le a i ≡ true → int_le (i +ℤ pos 1) b ≡ true → R cs m (e ++ whole i ∷ []) ps x (member i)) →
      ((i : ℤ) → int_le a i ≡ true → int_le (i +ℤ pos 1) b ≡ true → Gives IsBool (member i)) →
      R cs m e (over_range ps) (Says (quantified_formula q (said x))) (run.quantified q member (int_gap a b) a)
  range_reads q ps x member reads bools =
      finished q ps x (run.quantified q member (int_gap a b) a) (quantified_bool q member (int_gap a b) a)
      (quantified_reads cs m e b q ps x a member reads bools (int_gap a b) a (gap_at a b (int_gap a b) refl) (le_self a))
