-- The types of operands, and operations by their operators.
use Rattle.std.proofs.Common.{◌≡◌, ℕ, List, Bool, true, false, ◌&&◌, ◌||◌, Option, Some, None, refl, ⊎_elim}
use Rattle.std.specs.Prelude.{is_some, if◌then◌else◌}
use Rattle.std.proofs.lemmas.Bool.{false≢true, and_parts, or_cases}
use Rattle.ss_core.specs.declared.names.Place.{Place}
use Rattle.ss_core.specs.declared.names.Ty.{Ty}
use Rattle.ss_core.specs.declared.names.Ty.TheVariants as ty
use Rattle.ss_core.specs.declared.expr.Operator.{Operator}
use Rattle.ss_core.specs.declared.expr.Operator.TheVariants as op
use Rattle.ss_core.specs.Tree.{ClassTree}
use Rattle.ss_core.specs.Chain.{below, DeclaredField}
use Rattle.ss_store_rules.specs.Numbers.{Outcome}
use Rattle.ss_store_rules.specs.Types.{is_int, is_bool, is_reference, has_class, where_typed, field_read_type, element_of, element_read_type, are_comparable, operation_type}
use Rattle.ss_store_rules.specs.Values as run
use Rattle.ss_logic.specs.Values.{Value, Structure}
use Rattle.ss_logic.specs.Formulas.{Formula}
use Rattle.ss_logic.specs.Express.{Meant, operated, operation_parts}
use Rattle.ss_logic_means.proofs.Denoting.{R}
use Rattle.ss_logic_means.proofs.Operations.{IsBool, IsWhole, Gives, and_reads, or_reads}
use Rattle.ss_logic_means.proofs.Arithmetic.{AreBools, equal_reads, not_equal_reads, less_reads, less_equal_reads, greater_reads, greater_equal_reads, add_reads, subtract_reads, multiply_reads, divide_reads, remainder_reads}

pub three_parts : (a b c : Bool) → (a && b && c) ≡ true → (a ≡ true) × (b ≡ true) × (c ≡ true)
three_parts a b c h = let p = and_parts (a && b) c h in let q = and_parts a b p.0 in (q.0, q.1, p.1)

-- ---- one type

pub where_some : (b : Bool) (t : Ty) → is_some (where_typed b t) ≡ true → b ≡ true
where_some true t h = refl
where_some false t h = absurd (false≢true h)

pub int_some : (a : Option Ty) → is_int a ≡ true → is_some a ≡ true
int_some None h = absurd (false≢true h)
int_some (Some t) h = refl

pub bool_some : (a : Option Ty) → is_bool a ≡ true → is_some a ≡ true
bool_some None h = absurd (false≢true h)
bool_some (Some t) h = refl

pub reference_some : (a : Option Ty) → is_reference a ≡ true → is_some a ≡ true
reference_some None h = absurd (false≢true h)
reference_some (Some t) h = refl

pub class_reference : (test : ℕ → Bool) (a : Option Ty) → has_class test a ≡ true → is_reference a ≡ true
class_reference test None h = absurd (false≢true h)
class_reference test (Some ty.Int) h = absurd (false≢true h)
class_reference test (Some ty.Bool) h = absurd (false≢true h)
class_reference test (Some ty.Null) h = absurd (false≢true h)
class_reference test (Some (ty.Ref t n)) h = refl

pub int_or_bool : (a : Option Ty) → is_int a ≡ true → is_bool a ≡ true → ⊥
int_or_bool None h k = false≢true h
int_or_bool (Some ty.Int) h k = false≢true k
int_or_bool (Some ty.Bool) h k = false≢true h
int_or_bool (Some ty.Null) h k = false≢true h
int_or_bool (Some (ty.Ref t n)) h k = false≢true h

pub reference_or_bool : (a : Option Ty) → is_reference a ≡ true → is_bool a ≡ true → ⊥
reference_or_bool None h k = false≢true h
reference_or_bool (Some ty.Int) h k = false≢true h
reference_or_bool (Some ty.Bool) h k = false≢true h
reference_or_bool (Some ty.Null) h k = false≢true k
reference_or_bool (Some (ty.Ref t n)) h k = false≢true k

-- the field that is read, and the class that it is read from
pub field_from : (cs : List ClassTree) (a : Option Ty) (d : Option DeclaredField) → is_some (field_read_type cs a d) ≡ true → (y : DeclaredField) × (d ≡ Some y) × (has_class (λ c. below cs c y.class) a ≡ true)
field_from cs a None h = absurd (false≢true h)
field_from cs a (Some y) h = (y, refl, where_some (has_class (λ c. below cs c y.class) a) _ h)

pub elements_from : (cs : List ClassTree) (a i : Option Ty) → is_some (element_read_type cs a i) ≡ true → (is_int i ≡ true) × (is_some (element_of cs a) ≡ true)
elements_from cs a i h = read (is_int i) (element_of cs a) h
  where
    read : (b : Bool) (o : Option Ty) → is_some (if b then o else None) ≡ true → (b ≡ true) × (is_some o ≡ true)
    read true o h = (refl, h)
    read false o h = absurd (false≢true h)

pub element_reference : (cs : List ClassTree) (a : Option Ty) → is_some (element_of cs a) ≡ true → is_reference a ≡ true
element_reference cs None h = absurd (false≢true h)
element_reference cs (Some ty.Int) h = absurd (false≢true h)
element_reference cs (Some ty.Bool) h = absurd (false≢true h)
element_reference cs (Some ty.Null) h = absurd (false≢true h)
element_reference cs (Some (ty.Ref t n)) h = refl

-- ---- two types

pub by_comparable : {P : Type 0} (a b : Option Ty) → are_comparable a b ≡ true → (is_int a ≡ true → is_int b ≡ true → P) → (is_bool a ≡ true → is_bool b ≡ true → P) → (is_reference a ≡ true → is_reference b ≡ true → P) → P
by_comparable a b h ints bools references =
    ⊎_elim
    (λ l. ⊎_elim
    (λ i. let both = and_parts (is_int a) (is_int b) i in ints both.0 both.1)
    (λ i. let both = and_parts (is_bool a) (is_bool b) i in bools both.0 both.1)
    (or_cases (is_int a && is_int b) (is_bool a && is_bool b) l))
    (λ r. let both = and_parts (is_reference a) (is_reference b) r in references both.0 both.1)
    (or_cases (is_int a && is_int b || is_bool a && is_bool b) (is_reference a && is_reference b) h)

-- Both operands have types, and where one is a truth value, so is the result.
pub record AreOperands (a b t : Option Ty) : Type 0 where
  pub left : is_some a ≡ true
  pub right : is_some b ≡ true
  pub left_bool : is_bool a ≡ true → is_bool t ≡ true
  pub right_bool : is_bool b ≡ true → is_bool t ≡ true

of_ints : (a b : Option Ty) (t : Ty) → is_some (where_typed (is_int a && is_int b) t) ≡ true → AreOperands a b (where_typed (is_int a && is_int b) t)
of_ints a b t h =
    let both = and_parts (is_int a) (is_int b) (where_some (is_int a && is_int b) t h) in
    record { left = int_some a both.0; right = int_some b both.1; left_bool = λ k. absurd (int_or_bool a both.0 k); right_bool = λ k. absurd (int_or_bool b both.1 k) }

pub where_bool : (b : Bool) → b ≡ true → is_bool (where_typed b ty.Bool) ≡ true
where_bool true h = refl
where_bool false h = absurd (false≢true h)

of_bools : (a b : Option Ty) → is_some (where_typed (is_bool a && is_bool b) ty.Bool) ≡ true → AreOperands a b (where_typed (is_bool a && is_bool b) ty.Bool)
of_bools a b h =
    let is = where_some (is_bool a && is_bool b) ty.Bool h in
    let both = and_parts (is_bool a) (is_bool b) is in
    record { left = bool_some a both.0; right = bool_some b both.1; left_bool = λ k. where_bool (is_bool a && is_bool b) is; right_bool = λ k. where_bool (is_bool a && is_bool b) is }

of_comparable : (a b : Option Ty) → is_some (where_typed (are_comparable a b) ty.Bool) ≡ true → AreOperands a b (where_typed (are_comparable a b) ty.Bool)
of_comparable a b h =
    let is = where_some (are_comparable a b) ty.Bool h in
    record {
      left = by_comparable {P = is_some a ≡ true} a b is (λ i j. int_some a i) (λ i j. bool_some a i) (λ i j. reference_some a i);
      right = by_comparable {P = is_some b ≡ true} a b is (λ i j. int_some b j) (λ i j. bool_some b j) (λ i j. reference_some b j);
      left_bool = λ k. where_bool (are_comparable a b) is;
      right_bool = λ k. where_bool (are_comparable a b) is;
    }

pub are_operands : (o : Operator) (a b : Option Ty) → is_some (operation_type o a b) ≡ true → AreOperands a b (operation_type o a b)
are_operands op.Or a b h = of_bools a b h
are_operands op.And a b h = of_bools a b h
are_operands op.Equal a b h = of_comparable a b h
are_operands op.NotEqual a b h = of_comparable a b h
are_operands op.Less a b h = of_ints a b ty.Bool h
are_operands op.LessEqual a b h = of_ints a b ty.Bool h
are_operands op.Greater a b h = of_ints a b ty.Bool h
are_operands op.GreaterEqual a b h = of_ints a b ty.Bool h
are_operands op.Add a b h = of_ints a b ty.Int h
are_operands op.Subtract a b h = of_ints a b ty.Int h
are_operands op.Multiply a b h = of_ints a b ty.Int h
are_operands op.Divide a b h = of_ints a b ty.Int h
are_operands op.Remainder a b h = of_ints a b ty.Int h

-- ---- operations

-- the type of the operands, and what values they give
module _ (cs : List ClassTree) (m : Structure) (e : List Value) (p : Place) (ps qs : List Formula) (x y : Meant) (a b : Outcome) (ra : R cs m e ps x a) (rb : R cs m e qs y b) (s t : Option Ty)
    (bool_a : is_bool s ≡ true → Gives IsBool a) (bool_b : is_bool t ≡ true → Gives IsBool b) (int_a : is_int s ≡ true → Gives IsWhole a) (int_b : is_int t ≡ true → Gives IsWhole b) where
  module _ (r : Ty) (h : is_some (where_typed (is_int s && is_int t) r) ≡ true) where
    first_int : Gives IsWhole a
    first_int = int_a (and_parts (is_int s) (is_int t) (where_some (is_int s && is_int t) r h)).0

    second_int : Gives IsWhole b
    second_int = int_b (and_parts (is_int s) (is_int t) (where_some (is_int s && is_int t) r h)).1

  -- comparable operands are both truth values, or the first is none
  are_bools : are_comparable s t ≡ true → (c : Bool) → is_bool s ≡ c → AreBools cs m e ps qs x y a b ra rb c
  are_bools h true is = (bool_a is, bool_b (by_comparable {P = is_bool t ≡ true} s t h (λ i j. absurd (int_or_bool s i is)) (λ i j. j) (λ i j. absurd (reference_or_bool s i is))))
  are_bools h false is = tt

  pub operation_reads : (o : Operator) → is_some (operation_type o s t) ≡ true → R cs m e (operation_parts o x y ps qs) (operated o (is_bool s) x y) (run.operation o p a b)
  operation_reads op.And h =
      let both = and_parts (is_bool s) (is_bool t) (where_some (is_bool s && is_bool t) ty.Bool h) in
      and_reads cs m e ps qs x y a b (bool_a both.0) (bool_b both.1) ra rb p
  operation_reads op.Or h =
      let both = and_parts (is_bool s) (is_bool t) (where_some (is_bool s && is_bool t) ty.Bool h) in
      or_reads cs m e ps qs x y a b (bool_a both.0) (bool_b both.1) ra rb p
  operation_reads op.Equal h = equal_reads cs m e ps qs x y a b ra rb p (is_bool s) (are_bools (where_some (are_comparable s t) ty.Bool h) (is_bool s) refl)
  operation_reads op.NotEqual h = not_equal_reads cs m e ps qs x y a b ra rb p (is_bool s) (are_bools (where_some (are_comparable s t) ty.Bool h) (is_bool s) refl)
  operation_reads op.Less h = less_reads cs m e ps qs x y a b ra rb (first_int ty.Bool h) (second_int ty.Bool h) p
  operation_reads op.LessEqual h = less_equal_reads cs m e ps qs x y a b ra rb (first_int ty.Bool h) (second_int ty.Bool h) p
  operation_reads op.Greater h = greater_reads cs m e ps qs x y a b ra rb (first_int ty.Bool h) (second_int ty.Bool h) p
  operation_reads op.GreaterEqual h = greater_equal_reads cs m e ps qs x y a b ra rb (first_int ty.Bool h) (second_int ty.Bool h) p
  operation_reads op.Add h = add_reads cs m e ps qs x y a b ra rb (first_int ty.Int h) (second_int ty.Int h) p
  operation_reads op.Subtract h = subtract_reads cs m e ps qs x y a b ra rb (first_int ty.Int h) (second_int ty.Int h) p
  operation_reads op.Multiply h = multiply_reads cs m e ps qs x y a b ra rb (first_int ty.Int h) (second_int ty.Int h) p
  operation_reads op.Divide h = divide_reads cs m e ps qs x y a b ra rb (first_int ty.Int h) (second_int ty.Int h) p
  operation_reads op.Remainder h = remainder_reads cs m e ps qs x y a b ra rb (first_int ty.Int h) (second_int ty.Int h) p
