-- Quantifiers, member by member.
use Rattle.std.proofs.Common.{◌≡◌, ℕ, zero, suc, ◌<◌, Bool, true, false, true≢false, refl, sym, ap, subst, ◌∙◌, arith, ℤ, pos, negsuc, ◌+ℤ◌}
use Rattle.std.specs.Prelude.{Ok, Err}
use lib.IntN.{+ℤ_one}
use lib.Signed.{lt_z}
use mir.Syntax.{w32}
use mir.Val.{SFits, to_z, of_z}
use Rattle.std.proofs.Math.Facts.{to_z-of_z}
use Rattle.std.proofs.iter.Distance.{went_up}
use borrow.Author.Tests.{ltb-true, ltb-false}
use Rattle.std.specs.Int.{int_gap}
use Rattle.ss_core.specs.declared.expr.Quantifier.{Quantifier}
use Rattle.ss_core.specs.declared.expr.Quantifier.TheVariants as quantifier
use Rattle.ss_core.specs.Tree.{ExprTree}
use Rattle.ss_store_rules.specs.declared.Value.{Value}
use Rattle.ss_store_rules.specs.declared.Undefined.{Undefined}
use Rattle.ss_store_rules.specs.Reads.{as_bool}
use Rattle.ss_store_rules.specs.Numbers.{Outcome}
use Rattle.ss_store_rules.specs.Values.{Setting, with_bound, truth, and_then, of_none, joined, quantified, value_of}

-- the value of a member by its number
abbrev pub member_of : Setting → ExprTree → ℤ → Outcome
member_of c e i = value_of e (with_bound c i)

-- the value of the whole, where the members before gave this truth
abbrev pub continued : Quantifier → (ℤ → Outcome) → ℕ → ℤ → Bool → Outcome
continued q f n i before = and_then (quantified q f n i) (λ w. truth (joined q before (as_bool w)))

joined_assoc : (q : Quantifier) (a b d : Bool) → joined q a (joined q b d) ≡ joined q (joined q a b) d
joined_assoc quantifier.Forall true b d = refl
joined_assoc quantifier.Forall false b d = refl
joined_assoc quantifier.Exists true b d = refl
joined_assoc quantifier.Exists false b d = refl

joined_none : (q : Quantifier) (a : Bool) → joined q a (of_none q) ≡ a
joined_none quantifier.Forall true = refl
joined_none quantifier.Forall false = refl
joined_none quantifier.Exists true = refl
joined_none quantifier.Exists false = refl

none_joined : (q : Quantifier) (a : Bool) → joined q (of_none q) a ≡ a
none_joined quantifier.Forall a = refl
none_joined quantifier.Exists a = refl

-- after any outcome of the rest
joined_after : (q : Quantifier) (before : Bool) (v : Value) (rest : Outcome) → and_then (and_then rest (λ w. truth (joined q (as_bool v) (as_bool w)))) (λ w. truth (joined q before (as_bool w))) ≡ and_then rest (λ w. truth (joined q (joined q before (as_bool v)) (as_bool w)))
joined_after q before v (Ok w) = ap truth (joined_assoc q before (as_bool v) (as_bool w))
joined_after q before v (Err u) = refl

pub with_member : (q : Quantifier) (f : ℤ → Outcome) (n : ℕ) (i : ℤ) (before : Bool) (v : Value) → f i ≡ Ok v → continued q f (suc n) i before ≡ continued q f n (i +ℤ pos 1) (joined q before (as_bool v))
with_member q f n i before v h = ap (λ (r : Outcome). and_then (and_then r (λ x. and_then (quantified q f n (i +ℤ pos 1)) (λ w. truth (joined q (as_bool x) (as_bool w))))) (λ w. truth (joined q before (as_bool w)))) h ∙ joined_after q before v (quantified q f n (i +ℤ pos 1))

pub without_member : (q : Quantifier) (f : ℤ → Outcome) (n : ℕ) (i : ℤ) (before : Bool) (u : Undefined) → f i ≡ Err u → continued q f (suc n) i before ≡ Err u
without_member q f n i before u h = ap (λ (r : Outcome). and_then (and_then r (λ x. and_then (quantified q f n (i +ℤ pos 1)) (λ w. truth (joined q (as_bool x) (as_bool w))))) (λ w. truth (joined q before (as_bool w)))) h

pub no_member : (q : Quantifier) (f : ℤ → Outcome) (i : ℤ) (before : Bool) → continued q f zero i before ≡ truth before
no_member q f i before = ap truth (joined_none q before)

again : (q : Quantifier) (b : Bool) (rest : Outcome) → and_then (and_then rest (λ w. truth (joined q b (as_bool w)))) (λ w. truth (joined q (of_none q) (as_bool w))) ≡ and_then rest (λ w. truth (joined q b (as_bool w)))
again q b (Ok w) = ap truth (none_joined q (joined q b (as_bool w)))
again q b (Err u) = refl

with_first : (q : Quantifier) (rest : Outcome) (r : Outcome) → and_then (and_then r (λ v. and_then rest (λ w. truth (joined q (as_bool v) (as_bool w))))) (λ w. truth (joined q (of_none q) (as_bool w))) ≡ and_then r (λ v. and_then rest (λ w. truth (joined q (as_bool v) (as_bool w))))
with_first q rest (Ok v) = again q (as_bool v) rest
with_first q rest (Err u) = refl

pub from_none : (q : Quantifier) (f : ℤ → Outcome) (n : ℕ) (i : ℤ) → continued q f n i (of_none q) ≡ quantified q f n i
from_none q f zero i = ap truth (none_joined q (of_none q))
from_none q f (suc n) i = with_first q (quantified q f n (i +ℤ pos 1)) (f i)

pub gap_next : (i high : ℤ) → 0 < int_gap i high → int_gap i high ≡ suc (int_gap (i +ℤ pos 1) high)
gap_next (pos a) (pos b) h = omega (arith, h)
gap_next (pos a) (negsuc b) h = absurd (omega (arith, h))
gap_next (negsuc zero) (pos b) h = omega arith
gap_next (negsuc (suc a)) (pos b) h = rw (+ℤ_one (negsuc (suc a))) (omega arith)
gap_next (negsuc zero) (negsuc b) h = absurd (omega (arith, h))
gap_next (negsuc (suc a)) (negsuc b) h = rw (+ℤ_one (negsuc (suc a))) (omega (arith, h))

-- ---- the test and the step of a loop over numbers of 32 bits

pub gap_above : (x y : ℤ) → lt_z x y ≡ true → 0 < int_gap x y
gap_above (pos a) (pos b) h = omega (arith, ltb-true a b h)
gap_above (pos a) (negsuc b) h = absurd (true≢false (sym h))
gap_above (negsuc a) (pos b) h = omega arith
gap_above (negsuc a) (negsuc b) h = omega (arith, ltb-true b a h)

pub no_gap : (x y : ℤ) → lt_z x y ≡ false → int_gap x y ≡ 0
no_gap (pos a) (pos b) h = omega (arith, ltb-false a b h)
no_gap (pos a) (negsuc b) h = refl
no_gap (negsuc a) (pos b) h = absurd (true≢false h)
no_gap (negsuc a) (negsuc b) h = omega (arith, ltb-false b a h)

pub next_is : (x y : ℤ) → SFits w32 x → SFits w32 y → lt_z x y ≡ true → to_z w32 (of_z w32 (x +ℤ pos 1)) ≡ x +ℤ pos 1
next_is x y f g h = subst (λ z. to_z w32 (of_z w32 (z +ℤ pos 1)) ≡ x +ℤ pos 1) (to_z-of_z f) (went_up w32 x y f g (gap_above x y h)).0

-- ---- the loop

pub next_member : (q : Quantifier) (f : ℤ → Outcome) (i next high : ℤ) (before after : Bool) (v : Value) (all : Outcome) → 0 < int_gap i high → next ≡ i +ℤ pos 1 → f i ≡ Ok v → after ≡ joined q before (as_bool v) → continued q f (int_gap i high) i before ≡ all → continued q f (int_gap next high) next after ≡ all
next_member q f i next high before after v all some is has joins so_far =
    ap (λ n. continued q f (int_gap n high) n after) is
    ∙ ap (λ b. continued q f (int_gap (i +ℤ pos 1) high) (i +ℤ pos 1) b) joins
    ∙ sym (with_member q f (int_gap (i +ℤ pos 1) high) i before v has)
    ∙ ap (λ n. continued q f n i before) (sym (gap_next i high some))
    ∙ so_far

pub failed_member : (q : Quantifier) (f : ℤ → Outcome) (i high : ℤ) (before : Bool) (u : Undefined) (all : Outcome) → 0 < int_gap i high → f i ≡ Err u → continued q f (int_gap i high) i before ≡ all → Err u ≡ all
failed_member q f i high before u all some has so_far =
    sym (ap (λ n. continued q f n i before) (gap_next i high some) ∙ without_member q f (int_gap (i +ℤ pos 1) high) i before u has) ∙ so_far

pub last_member : (q : Quantifier) (f : ℤ → Outcome) (i high : ℤ) (before : Bool) (all : Outcome) → int_gap i high ≡ 0 → continued q f (int_gap i high) i before ≡ all → truth before ≡ all
last_member q f i high before all none so_far = sym (ap (λ n. continued q f n i before) none ∙ no_member q f i before) ∙ so_far

-- the bounds as the loop has them
pub bounds_are : (q : Quantifier) (f : ℤ → Outcome) (low high : ℤ) → SFits w32 low → SFits w32 high → quantified q f (int_gap (to_z w32 (of_z w32 low)) (to_z w32 (of_z w32 high))) (to_z w32 (of_z w32 low)) ≡ quantified q f (int_gap low high) low
bounds_are q f low high l h =
    ap (λ n. quantified q f (int_gap n (to_z w32 (of_z w32 high))) n) (to_z-of_z l)
    ∙ ap (λ n. quantified q f (int_gap low n) low) (to_z-of_z h)
