-- Outcomes: what a value comes from, and of which type it is.
use Rattle.std.proofs.Common.{◌≡◌, ℕ, zero, suc, ℤ, pos, negsuc, ◌%◌, ◌≤◌, List, Bool, true, false, Option, Some, None, Ok, Err, refl, sym, ◌∙◌, ap, subst, arith}
use Rattle.std.specs.Prelude.{Result, if◌then◌else◌, int_rem, int_div, unsigned_abs, neg_ℤ}
use Rattle.std.specs.Bool.{beq}
use Rattle.std.proofs.lemmas.Bool.{false≢true, ltb-true, lt-ltb}
use Rattle.std.proofs.Math.Nat.{mod-le}
use Rattle.ss_core.specs.declared.names.Place.{Place}
use Rattle.ss_core.specs.declared.names.Kind.TheVariants as kind
use Rattle.ss_core.specs.declared.names.Ty.{Ty}
use Rattle.ss_core.specs.declared.names.Ty.TheVariants as ty
use Rattle.ss_core.specs.declared.expr.Quantifier.{Quantifier}
use Rattle.ss_core.specs.Tree.{ClassTree}
use Rattle.ss_store_rules.specs.declared.Value.{Value}
use Rattle.ss_store_rules.specs.declared.Value.TheVariants as value
use Rattle.ss_store_rules.specs.declared.Undefined.{Undefined}
use Rattle.ss_store_rules.specs.Store.{Object}
use Rattle.ss_store_rules.specs.Numbers.{Outcome, undefined, fits, whole}
use Rattle.ss_store_rules.specs.Reads.{as_int, as_bool}
use Rattle.ss_store_rules.specs.Values.{Setting, and_then, truth, object_of, is_readable, readable_of, implication, equivalence, quantified, joined, of_none}
use Rattle.ss_store_rules.specs.Types.{where_typed, is_int}
use Rattle.ss_store_rules.specs.Good.{has_type}

-- ---- what a value comes from

pub and_then_ok : {X Y : Type 0} (r : Result X Undefined) (f : X → Result Y Undefined) (y : Y) → and_then r f ≡ Ok y → (x : X) × (r ≡ Ok x) × (f x ≡ Ok y)
and_then_ok (Ok x) f y h = (x, refl, h)
and_then_ok (Err u) f y h = absurd (let no : ⊥ = cc in no)

pub object_ok : (p : Place) (v : Value) (o : ℕ) → object_of p v ≡ Ok o → v ≡ value.Obj o
object_ok p (value.Int n) o h = absurd (let no : ⊥ = cc in no)
object_ok p (value.Bool b) o h = absurd (let no : ⊥ = cc in no)
object_ok p (value.Obj q) o h = let same : q ≡ o = cc in ap value.Obj same
object_ok p value.Null o h = absurd (let no : ⊥ = cc in no)

pub if_ok : {X : Type 0} (b : Bool) (x : X) (u : Undefined) (y : X) → (if b then Ok x else Err u) ≡ Ok y → (b ≡ true) × (x ≡ y)
if_ok true x u y h = (refl, let same : x ≡ y = cc in same)
if_ok false x u y h = absurd (let no : ⊥ = cc in no)

pub readable_ok : (c : Setting) (p : Place) (v : Value) (o : ℕ) → readable_of c p v ≡ Ok o → (v ≡ value.Obj o) × (is_readable c o ≡ true)
readable_ok c p v o h =
    let a = and_then_ok (object_of p v) (λ q. if is_readable c q then Ok q else Err (undefined p kind.Null)) o h in
    let b = if_ok (is_readable c a.0) a.0 (undefined p kind.Null) o a.2 in
    (object_ok p v o (a.1 ∙ ap Ok b.1), subst (λ q. is_readable c q ≡ true) b.1 b.0)

abbrev value_ok : Value → Outcome
value_ok v = Ok v

pub ok_same : (v w : Value) → value_ok v ≡ value_ok w → v ≡ w
ok_same v w e = cc

-- ---- types

pub where_typed_some : (b : Bool) (t u : Ty) → where_typed b t ≡ Some u → (b ≡ true) × (t ≡ u)
where_typed_some true t u h = (refl, let same : t ≡ u = cc in same)
where_typed_some false t u h = absurd (let no : ⊥ = cc in no)

pub is_int_type : (a : Option Ty) → is_int a ≡ true → a ≡ Some ty.Int
is_int_type None h = absurd (false≢true h)
is_int_type (Some ty.Int) h = refl
is_int_type (Some ty.Bool) h = absurd (false≢true h)
is_int_type (Some ty.Null) h = absurd (false≢true h)
is_int_type (Some (ty.Ref t n)) h = absurd (false≢true h)

-- ---- truth values

-- the outcome is none, or a truth value
abbrev pub IsTruth : Outcome → Type 0
IsTruth r = (v : Value) → r ≡ Ok v → (b : Bool) × (v ≡ value.Bool b)

pub of_truth : (b : Bool) → IsTruth (truth b)
of_truth b v h = let same : value.Bool b ≡ v = cc in (b, sym same)

pub truth_then : {X : Type 0} (r : Result X Undefined) (f : X → Outcome) → ((x : X) → IsTruth (f x)) → IsTruth (and_then r f)
truth_then r f k v h = let a = and_then_ok r f v h in k a.0 v a.2

pub truth_if : (b : Bool) (x y : Outcome) → IsTruth x → IsTruth y → IsTruth (if b then x else y)
truth_if true x y h k = h
truth_if false x y h k = k

pub truth_implication : (a b : Outcome) → IsTruth (implication a b)
truth_implication a b = truth_then a _ (λ v. truth_if (as_bool v) _ _ (truth_then b _ (λ w. of_truth (as_bool w))) (of_truth true))

pub truth_equivalence : (a b : Outcome) → IsTruth (equivalence a b)
truth_equivalence a b = truth_then a _ (λ v. truth_then b _ (λ w. of_truth (beq (as_bool v) (as_bool w))))

pub truth_quantified : (q : Quantifier) (member : ℤ → Outcome) (n : ℕ) (i : ℤ) → IsTruth (quantified q member n i)
truth_quantified q member zero i = of_truth (of_none q)
truth_quantified q member (suc n) i = truth_then (member i) _ (λ v. truth_then (quantified q member n _) _ (λ w. of_truth (joined q (as_bool v) (as_bool w))))

pub truth_typed : (cs : List ClassTree) (s : List Object) (r : Outcome) (v : Value) → IsTruth r → r ≡ Ok v → has_type cs s ty.Bool v ≡ true
truth_typed cs s r v h e = rw ((h v e).1) refl

-- ---- numbers

-- the outcome is none, or a number of 32 bits
abbrev pub IsNumber : Outcome → Type 0
IsNumber r = (v : Value) → r ≡ Ok v → (n : ℤ) × (v ≡ value.Int n) × (fits n ≡ true)

pub whole_number : (p : Place) (z : ℤ) → IsNumber (whole p z)
whole_number p z v h = let a = if_ok (fits z) (value.Int z) (undefined p kind.Overflow) v h in (z, sym a.1, a.0)

pub quotient_number : (p : Place) (x y : ℤ) (b : Bool) → IsNumber (if b then Err (undefined p kind.ZeroDivisor) else whole p (int_div x y))
quotient_number p x y true v h = absurd (let no : ⊥ = cc in no)
quotient_number p x y false v h = whole_number p (int_div x y) v h

-- the remainder isn't further from 0 than the dividend
neg_fits : (n : ℕ) → n ≤ 2147483648 → fits (neg_ℤ (pos n)) ≡ true
neg_fits zero l = refl
neg_fits (suc n) l = lt-ltb n 2147483648 (omega (arith, l))

rem_fits : (x y : ℤ) → fits x ≡ true → fits (int_rem x y) ≡ true
rem_fits (pos a) y h = let l = ltb-true a 2147483648 h in let m = mod-le a (unsigned_abs y) in lt-ltb (a % unsigned_abs y) 2147483648 (omega (arith, l, m))
rem_fits (negsuc a) y h = let l = ltb-true a 2147483648 h in let m = mod-le (suc a) (unsigned_abs y) in neg_fits (suc a % unsigned_abs y) (omega (arith, l, m))

pub remainder_number : (p : Place) (x y : ℤ) (b c : Bool) → fits x ≡ true → IsNumber (if b then Err (undefined p kind.ZeroDivisor) else if c then Ok (value.Int (int_rem x y)) else Err (undefined p kind.Overflow))
remainder_number p x y true c f v h = absurd (let no : ⊥ = cc in no)
remainder_number p x y false true f v h = let same : value.Int (int_rem x y) ≡ v = cc in (int_rem x y, sym same, rem_fits x y f)
remainder_number p x y false false f v h = absurd (let no : ⊥ = cc in no)

pub number_typed : (cs : List ClassTree) (s : List Object) (r : Outcome) (v : Value) → IsNumber r → r ≡ Ok v → has_type cs s ty.Int v ≡ true
number_typed cs s r v h e = let a = h v e in rw (a.1) (a.2)

pub number_then : {X : Type 0} (r : Result X Undefined) (f : X → Outcome) → ((x : X) → r ≡ Ok x → IsNumber (f x)) → IsNumber (and_then r f)
number_then r f k v h = let a = and_then_ok r f v h in k a.0 a.1 v a.2

-- a value of the type of numbers is one
pub int_typed : (cs : List ClassTree) (s : List Object) (v : Value) → has_type cs s ty.Int v ≡ true → fits (as_int v) ≡ true
int_typed cs s (value.Int n) h = h
int_typed cs s (value.Bool b) h = absurd (false≢true h)
int_typed cs s (value.Obj o) h = absurd (false≢true h)
int_typed cs s value.Null h = absurd (false≢true h)
