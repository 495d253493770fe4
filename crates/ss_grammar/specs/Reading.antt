-- Reading from left to right with one token of sight: a value and the rest, or the first fault and the rest where it stands.
use Rattle.std.specs.Prelude.{ℕ, zero, suc, Bool, false, List, [], ◌∷◌, Option, Some, None, Result, Ok, Err}
use Rattle.ss_grammar.specs.declared.fault.Fault.{Fault}
use Rattle.ss_grammar.specs.declared.fault.Fault.TheVariants.{Expected}

-- what reading gives: a value and the rest, or a fault and the rest
abbrev pub Found : Type 0 → Type 0 → Type 0
Found T A = Result (A × List T) (Fault × List T)

-- first one reader, and then another with its value and rest
infixl 10 ◌>>=◌
abbrev pub ◌>>=◌ : {T A B : Type 0} → Result (A × List T) (Fault × List T) → (A × List T → Result (B × List T) (Fault × List T)) → Result (B × List T) (Fault × List T)
(Ok x) >>= f = f x
(Err e) >>= f = Err e

-- k after a token that was known, else the other answer
abbrev pub after : {T A B : Type 0} → Option B → (B → List T → Result (A × List T) (Fault × List T)) → Result (A × List T) (Fault × List T) → List T → Result (A × List T) (Fault × List T)
after None k other ts = other
after (Some b) k other ts = k b ts

-- a token that f knows, and then k; another is the first fault
abbrev pub take : {T A B : Type 0} → (T → Option B) → (B → List T → Result (A × List T) (Fault × List T)) → List T → Result (A × List T) (Fault × List T)
take f k [] = Err (Expected, [])
take f k (t ∷ ts) = after (f t) k (Err (Expected, t ∷ ts)) ts

-- the same, or the value a with nothing read
abbrev pub maybe : {T A B : Type 0} → (T → Option B) → (B → List T → Result (A × List T) (Fault × List T)) → A → List T → Result (A × List T) (Fault × List T)
maybe f k a [] = Ok (a, [])
maybe f k a (t ∷ ts) = after (f t) k (Ok (a, t ∷ ts)) ts

-- at most n times one more
abbrev pub times : {T A B R : Type 0} → (T → Option B) → (B → List T → Result (R × List T) (Fault × List T)) → (A → B → R → A) → ℕ → A → List T → Result (A × List T) (Fault × List T)
times f k join zero a ts = Ok (a, ts)
times f k join (suc n) a ts = maybe f (λ b rest. k b rest >>= λ x. times f k join n (join a b x.0) x.1) a ts

-- whether f knows the next token
abbrev pub ahead : {T : Type 0} → (T → Bool) → List T → Bool
ahead f [] = false
ahead f (t ∷ ts) = f t

-- the known token with what is after it
abbrev pub seen_as : {T B : Type 0} → Option B → List T → Option (B × List T)
seen_as None ts = None
seen_as (Some b) ts = Some (b, ts)

-- the token in front, where f knows it, and what is after it
abbrev pub seen : {T B : Type 0} → (T → Option B) → List T → Option (B × List T)
seen f [] = None
seen f (t ∷ ts) = seen_as (f t) ts

-- what k reads after a known token
abbrev pub one_more_as : {T A B : Type 0} → Option B → (B → List T → Result (A × List T) (Fault × List T)) → List T → Option (Result (A × List T) (Fault × List T))
one_more_as None k ts = None
one_more_as (Some b) k ts = Some (k b ts)

-- one more, where the token in front begins one
abbrev pub one_more : {T A B : Type 0} → (T → Option B) → (B → List T → Result (A × List T) (Fault × List T)) → List T → Option (Result (A × List T) (Fault × List T))
one_more f k [] = None
one_more f k (t ∷ ts) = one_more_as (f t) k ts
