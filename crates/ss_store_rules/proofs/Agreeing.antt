-- Outcomes in two stores that agree: they are equal, and a reference among them has some property.
use Rattle.std.proofs.Common.{◌≡◌, ℕ, zero, suc, ℤ, Bool, true, false, Ok, Err, refl, subst}
use Rattle.std.specs.Prelude.{pos, ◌+ℤ◌, if◌then◌else◌, int_div, int_rem, ◌-ℤ◌, ◌*ℤ◌}
use Rattle.ss_core.specs.declared.names.Place.{Place}
use Rattle.ss_core.specs.declared.names.Kind.{Kind}
use Rattle.ss_core.specs.declared.names.Kind.TheVariants as kind
use Rattle.ss_core.specs.declared.expr.Operator.{Operator}
use Rattle.ss_core.specs.declared.expr.Operator.TheVariants as op
use Rattle.ss_core.specs.declared.expr.Quantifier.{Quantifier}
use Rattle.ss_store_rules.specs.declared.Value.{Value}
use Rattle.ss_store_rules.specs.declared.Value.TheVariants as value
use Rattle.ss_store_rules.specs.Numbers.{Outcome, undefined, whole, quotient, remainder, fits, is_zero}
use Rattle.ss_store_rules.specs.Reads.{as_int, as_bool}
use Rattle.ss_store_rules.specs.Values.{and_then, truth, object_of, decides, applied, operation, implication, quantified, joined, of_none}

-- the object to which the value refers, if it does, has the property
abbrev pub Refers : (ℕ → Type 0) → Value → Type 0
Refers P (value.Int n) = Unit {0}
Refers P (value.Bool b) = Unit {0}
Refers P (value.Obj o) = P o
Refers P value.Null = Unit {0}

-- the same of the value of an outcome, if it has one
abbrev pub Gives : (ℕ → Type 0) → Outcome → Type 0
Gives P (Ok v) = Refers P v
Gives P (Err u) = Unit {0}

-- the outcomes are equal, and what they refer to has the property
pub record Agree (P : ℕ → Type 0) (a b : Outcome) : Type 0 where
  pub same : a ≡ b
  pub gives : Gives P a

pub agree_with_itself : (P : ℕ → Type 0) (a : Outcome) → Gives P a → Agree P a a
agree_with_itself P a g = record { same = refl; gives = g }

pub agree_undefined : (P : ℕ → Type 0) (p : Place) (k : Kind) → Agree P (Err (undefined p k)) (Err (undefined p k))
agree_undefined P p k = record { same = refl; gives = tt }

pub agree_truth : (P : ℕ → Type 0) (b : Bool) → Agree P (truth b) (truth b)
agree_truth P b = record { same = refl; gives = tt }

pub agree_if : (P : ℕ → Type 0) (b : Bool) (x y x' y' : Outcome) → Agree P x x' → Agree P y y' → Agree P (if b then x else y) (if b then x' else y')
agree_if P true x y x' y' h k = h
agree_if P false x y x' y' h k = k

pub agree_if_same : (P : ℕ → Type 0) (b b' : Bool) (x y x' y' : Outcome) → b ≡ b' → Agree P x x' → Agree P y y' → Agree P (if b then x else y) (if b' then x' else y')
agree_if_same P b b' x y x' y' e h k = subst (λ c. Agree P (if b then x else y) (if c then x' else y')) e (agree_if P b x y x' y' h k)

pub agree_and_then : (P Q : ℕ → Type 0) (a b : Outcome) (f g : Value → Outcome) → Agree P a b → ((v : Value) → Refers P v → Agree Q (f v) (g v)) → Agree Q (and_then a f) (and_then b g)
agree_and_then P Q (Ok v) b f g h k = subst (λ x. Agree Q (f v) (and_then x g)) h.same (k v h.gives)
agree_and_then P Q (Err u) b f g h k = subst (λ x. Agree Q (Err u) (and_then x g)) h.same (record { same = refl; gives = tt })

pub agree_of_object : (P Q : ℕ → Type 0) (p : Place) (v : Value) (f g : ℕ → Outcome) → Refers P v → ((o : ℕ) → P o → Agree Q (f o) (g o)) → Agree Q (and_then (object_of p v) f) (and_then (object_of p v) g)
agree_of_object P Q p (value.Int n) f g r k = agree_undefined Q p kind.Null
agree_of_object P Q p (value.Bool b) f g r k = agree_undefined Q p kind.Null
agree_of_object P Q p (value.Obj o) f g r k = k o r
agree_of_object P Q p value.Null f g r k = agree_undefined Q p kind.Null

-- ---- operations

pub agree_whole : (P : ℕ → Type 0) (p : Place) (z : ℤ) → Agree P (whole p z) (whole p z)
agree_whole P p z = agree_if P (fits z) _ _ _ _ (agree_with_itself P (Ok (value.Int z)) tt) (agree_undefined P p kind.Overflow)

agree_quotient : (P : ℕ → Type 0) (p : Place) (x y : ℤ) → Agree P (quotient p x y) (quotient p x y)
agree_quotient P p x y = agree_if P (is_zero y) _ _ _ _ (agree_undefined P p kind.ZeroDivisor) (agree_whole P p (int_div x y))

agree_remainder : (P : ℕ → Type 0) (p : Place) (x y : ℤ) → Agree P (remainder p x y) (remainder p x y)
agree_remainder P p x y =
    agree_if P (is_zero y) _ _ _ _ (agree_undefined P p kind.ZeroDivisor)
    (agree_if P (fits (int_div x y)) _ _ _ _ (agree_with_itself P (Ok (value.Int (int_rem x y))) tt) (agree_undefined P p kind.Overflow))

agree_applied : (P : ℕ → Type 0) (o : Operator) (p : Place) (v w : Value) → Agree P (applied o p v w) (applied o p v w)
agree_applied P op.And p v w = agree_truth P _
agree_applied P op.Or p v w = agree_truth P _
agree_applied P op.Equal p v w = agree_truth P _
agree_applied P op.NotEqual p v w = agree_truth P _
agree_applied P op.Less p v w = agree_truth P _
agree_applied P op.LessEqual p v w = agree_truth P _
agree_applied P op.Greater p v w = agree_truth P _
agree_applied P op.GreaterEqual p v w = agree_truth P _
agree_applied P op.Add p v w = agree_whole P p (as_int v +ℤ as_int w)
agree_applied P op.Subtract p v w = agree_whole P p (as_int v -ℤ as_int w)
agree_applied P op.Multiply p v w = agree_whole P p (as_int v *ℤ as_int w)
agree_applied P op.Divide p v w = agree_quotient P p (as_int v) (as_int w)
agree_applied P op.Remainder p v w = agree_remainder P p (as_int v) (as_int w)

pub agree_operation : (P : ℕ → Type 0) (o : Operator) (p : Place) (a b a' b' : Outcome) → Agree P a a' → Agree P b b' → Agree P (operation o p a b) (operation o p a' b')
agree_operation P o p a b a' b' h k =
    agree_and_then P P a a' _ _ h (λ v _.
    agree_if P (decides o v) _ _ _ _ (agree_truth P (as_bool v))
    (agree_and_then P P b b' _ _ k (λ w _. agree_applied P o p v w)))

pub agree_implication : (P : ℕ → Type 0) (a b a' b' : Outcome) → Agree P a a' → Agree P b b' → Agree P (implication a b) (implication a' b')
agree_implication P a b a' b' h k =
    agree_and_then P P a a' _ _ h (λ v _.
    agree_if P (as_bool v) _ _ _ _
    (agree_and_then P P b b' _ _ k (λ w _. agree_truth P (as_bool w)))
    (agree_truth P true))

-- ---- quantifiers

pub agree_quantified : (P : ℕ → Type 0) (q : Quantifier) (member member' : ℤ → Outcome) → ((i : ℤ) → Agree P (member i) (member' i)) → (n : ℕ) (i : ℤ) → Agree P (quantified q member n i) (quantified q member' n i)
agree_quantified P q member member' h zero i = agree_truth P (of_none q)
agree_quantified P q member member' h (suc n) i =
    agree_and_then P P (member i) (member' i) _ _ (h i) (λ v _.
    agree_and_then P P (quantified q member n (i +ℤ pos 1)) (quantified q member' n (i +ℤ pos 1)) _ _ (agree_quantified P q member member' h n (i +ℤ pos 1)) (λ w _.
    agree_truth P (joined q (as_bool v) (as_bool w))))
