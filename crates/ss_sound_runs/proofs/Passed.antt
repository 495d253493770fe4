-- The arguments stand in the first locals of a body, from its entry to where it is left.
use Rattle.std.proofs.Common.{◌≡◌, ◌≢◌, ℕ, zero, suc, ◌<◌, List, [], ◌∷◌, ◌++◌, map, length, Bool, true, false, Option, Some, None, set, refl, sym, ◌∙◌, ap, arith}
use Rattle.std.specs.Prelude.{slice_get, nat_le, nat_lt, if◌then◌else◌, is_some, option_to_list}
use Rattle.std.proofs.lemmas.Bool.{and_parts, ltb-true, leb-true, le-leb}
use Rattle.std.proofs.lemmas.List.{length-append, length-map, length-set}
use Rattle.ss_core.specs.declared.names.Ty.{Ty}
use Rattle.ss_core.specs.Tree.{LocalTree, BodyTree}
use Rattle.ss_store_rules.specs.declared.Value.{Value}
use Rattle.ss_store_rules.specs.Store.{default_value}
use Rattle.ss_store_rules.specs.Locals.{types_of, argument_count, result_number, is_variable, is_kept_among}
use Rattle.ss_machine_rules.specs.States.{locals_at_entry, put}
use Rattle.ss_machine_rules.specs.Steps.{result_local}
use Rattle.ss_sound_runs.specs.Served.{HasArguments}
use Rattle.ss_sound_runs.proofs.Locals.{get_left, one_result, count_locals, AreRead}

set_here : (xs : List Value) (x : ℕ) (v : Value) → x < length xs → slice_get (set xs x v) x ≡ Some v
set_here [] x v h = absurd (omega (arith, h))
set_here (y ∷ xs) zero v h = refl
set_here (y ∷ xs) (suc x) v h = set_here xs x v (omega (arith, h))

set_apart : (xs : List Value) (x y : ℕ) (v : Value) → x ≢ y → slice_get (set xs x v) y ≡ slice_get xs y
set_apart [] x y v ne = refl
set_apart (z ∷ xs) zero zero v ne = absurd (ne refl)
set_apart (z ∷ xs) zero (suc y) v ne = refl
set_apart (z ∷ xs) (suc x) zero v ne = refl
set_apart (z ∷ xs) (suc x) (suc y) v ne = set_apart xs x y v (λ e. ne (ap suc e))

-- ---- entry

pub passed_at_entry : (b : BodyTree) (arguments : List Value) → length arguments ≡ argument_count b → HasArguments b arguments (locals_at_entry b arguments)
passed_at_entry b arguments passed =
    let others = types_of b.locals ++ option_to_list b.result in
    let all = count_locals b in
    let a = length-append arguments (map default_value others) in
    let d = length-map others default_value in
    let l = length-append (types_of b.locals) (option_to_list b.result) in
    let t = length-map b.locals (λ (z : LocalTree). z.ty) in
    record {
      passed = passed;
      count = omega (arith, passed, all, a, d, l, t);
      same = λ x h. let n = ltb-true x (argument_count b) h in get_left arguments (map default_value others) x (omega (arith, n, passed));
    }

-- ---- assignments

put_count : (x : Option ℕ) (v : Value) (locals : List Value) → length (put x v locals) ≡ length locals
put_count None v locals = refl
put_count (Some x) v locals = length-set locals x v

pub passed_past : (b : BodyTree) (arguments locals : List Value) (x : Option ℕ) (v : Value) → is_kept_among (λ y. nat_le (argument_count b) y) x ≡ true → HasArguments b arguments locals → HasArguments b arguments (put x v locals)
passed_past b arguments locals None v h has = has
passed_past b arguments locals (Some x) v h has =
    let past = leb-true (argument_count b) x h in
    record {
      passed = has.passed;
      count = put_count (Some x) v locals ∙ has.count;
      same = λ y a. let n = ltb-true y (argument_count b) a in set_apart locals x y v (omega (arith, past, n)) ∙ has.same y a;
    }

variable_past : (b : BodyTree) (x : Option ℕ) → is_kept_among (is_variable b) x ≡ true → is_kept_among (λ y. nat_le (argument_count b) y) x ≡ true
variable_past b None h = h
variable_past b (Some x) h = (and_parts (nat_le (argument_count b) x) (nat_lt x (result_number b)) h).0

pub passed_on : (b : BodyTree) (arguments locals : List Value) (x : Option ℕ) (v : Value) → is_kept_among (is_variable b) x ≡ true → HasArguments b arguments locals → HasArguments b arguments (put x v locals)
passed_on b arguments locals x v h has = passed_past b arguments locals x v (variable_past b x h) has

-- ---- exit

-- what stands for the result
abbrev pub result_rest : BodyTree → Value → List Value
result_rest b v = if is_some b.result then v ∷ [] else []

result_size : (o : Option Ty) (v : Value) → length (if is_some o then v ∷ [] else []) ≡ length (option_to_list o)
result_size None v = refl
result_size (Some t) v = refl

result_past : (b : BodyTree) → is_kept_among (λ y. nat_le (argument_count b) y) (result_local b) ≡ true
result_past b = past (is_some b.result)
  where
    past : (t : Bool) → is_kept_among (λ y. nat_le (argument_count b) y) (if t then Some (result_number b) else None) ≡ true
    past true = le-leb (argument_count b) (result_number b) (omega arith)
    past false = refl

pub passed_at_exit : (b : BodyTree) (arguments locals : List Value) (v : Value) → HasArguments b arguments locals → HasArguments b arguments (put (result_local b) v locals)
passed_at_exit b arguments locals v has = passed_past b arguments locals (result_local b) v (result_past b) has

pub read_with : (b : BodyTree) (arguments locals : List Value) (v : Value) → HasArguments b arguments locals → AreRead b arguments (result_rest b v) locals
read_with b arguments locals v has = record { passed = has.passed; count = has.count; size = result_size b.result v; same = has.same }

pub read_at_exit : (b : BodyTree) (arguments locals : List Value) (v : Value) → HasArguments b arguments locals → AreRead b arguments (result_rest b v) (put (result_local b) v locals)
read_at_exit b arguments locals v has = read_with b arguments (put (result_local b) v locals) v (passed_at_exit b arguments locals v has)

pub result_given : (b : BodyTree) (arguments locals : List Value) (v : Value) → HasArguments b arguments locals → is_some b.result ≡ true → slice_get (put (result_local b) v locals) (result_number b) ≡ slice_get (result_rest b v) 0
result_given b arguments locals v has h =
    let all = count_locals b in
    let one = one_result b.result h in
    ap (λ t. slice_get (put (if t then Some (result_number b) else None) v locals) (result_number b)) h
    ∙ set_here locals (result_number b) v (omega (arith, has.count, all, one))
    ∙ ap (λ t. slice_get (if t then v ∷ [] else []) 0) (sym h)
