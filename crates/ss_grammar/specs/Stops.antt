-- What a function returned is what reading gives, unless memory ran out. A fault tells how many tokens are left.
use Rattle.std.specs.Prelude.{◌≡◌, ℕ, List, length, Result, Ok, Err, Option, Some, None}
use Rattle.ss_grammar.specs.declared.fault.Fault.{Fault}
use Rattle.ss_grammar.specs.declared.fault.Stop.{Stop}
use Rattle.ss_grammar.specs.declared.fault.Stop.TheVariants as stop
use Rattle.ss_grammar.specs.Language.{Accepts, Finds}

-- the fault, with as many tokens left
abbrev pub FaultIs : {T : Type 0} → Fault → ℕ → Fault × List T → Type 0
FaultIs f n found = (found.0 ≡ f) × (length found.1 ≡ n)

-- reading stopped at this fault
abbrev pub Fails : {T A : Type 0} → Stop → Result (A × List T) (Fault × List T) → Type 0
Fails stop.Memory found = Unit {0}
Fails (stop.Fault f n) (Ok x) = ⊥
Fails (stop.Fault f n) (Err e) = FaultIs f n e

-- the result, seen by `view`, is what reading found
abbrev pub Gives : {T X A : Type 0} → (X → A × List T) → Result X Stop → Result (A × List T) (Fault × List T) → Type 0
Gives view (Ok x) found = found ≡ Ok (view x)
Gives view (Err e) found = Fails e found

-- the same of a reader that gives no value: `rest` is what is left
abbrev pub GivesRest : {T X : Type 0} → (X → List T) → Result X Stop → Result (Unit {0} × List T) (Fault × List T) → Type 0
GivesRest rest (Ok x) found = found ≡ Ok (tt, rest x)
GivesRest rest (Err e) found = Fails e found

-- a token was there, and this is left after it
abbrev pub SeesRest : {T X : Type 0} → (X → List T) → Option X → Option (Unit {0} × List T) → Type 0
SeesRest rest (Some x) found = found ≡ Some (tt, rest x)
SeesRest rest None found = found ≡ None

-- one more begins, and reading it stopped at this fault
abbrev pub FailsIn : {T A : Type 0} → Stop → Option (Result (A × List T) (Fault × List T)) → Type 0
FailsIn e None = ⊥
FailsIn e (Some found) = Fails e found

-- the result of reading one more, where one more begins
abbrev pub GivesMore : {T X A : Type 0} → (X → A × List T) → Result (Option X) Stop → Option (Result (A × List T) (Fault × List T)) → Type 0
GivesMore view (Ok None) found = found ≡ None
GivesMore view (Ok (Some x)) found = found ≡ Some (Ok (view x))
GivesMore view (Err e) found = FailsIn e found

-- what a reader answers to these tokens: memory aside, a value with the rest, or a fault with as many tokens left
abbrev pub Stands : {T A : Type 0} → (ℕ → List T → A → Type 0) → ℕ → List T → Stop → Type 0
Stands L d ts stop.Memory = Unit {0}
Stands {T} L d ts (stop.Fault f n) = (rest : List T) × (length rest ≡ n) × Finds L d ts (Err (f, rest))

-- the same of its result, which `view` shows as a value with the rest
abbrev pub Answers : {T X A : Type 0} → (ℕ → List T → A → Type 0) → ℕ → List T → (X → A × List T) → Result X Stop → Type 0
Answers L d ts view (Ok x) = Accepts L d ts (view x).0 (view x).1
Answers L d ts view (Err e) = Stands L d ts e
