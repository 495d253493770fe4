-- Any number of parts of one kind, where the next token tells whether there is one more.
use Rattle.std.specs.Prelude.{ℕ, zero, suc, Bool, true, false, List, [], ◌∷◌, Option, Some, None, Result, Ok}
use Rattle.ss_grammar.specs.declared.fault.Fault.{Fault}
use Rattle.ss_grammar.specs.Language.{Done, Bind}
use Rattle.ss_grammar.specs.Reading.{◌>>=◌, ahead}
use Rattle.ss_grammar_expressions.specs.First.{Choose, choose}
use Rattle.ss_grammar_expressions.specs.Heads.{if_so}

-- at most n times one more of L, where f knows the next token; join makes the next value of the value so far, on which f may depend
abbrev pub AtMost : {T A R : Type 0} → (A → T → Bool) → (List T → R → Type 0) → (A → R → A) → ℕ → A → List T → A → Type 0
AtMost f L join zero a = Done a
AtMost f L join (suc n) a = Choose (f a) (Bind L (λ r. AtMost f L join n (join a r))) (Done a)

-- any number of times
abbrev pub Again : {T A R : Type 0} → (A → T → Bool) → (List T → R → Type 0) → (A → R → A) → A → List T → A → Type 0
Again f L join a ts v = (n : ℕ) × AtMost f L join n a ts v

-- the same, read at most n times
abbrev pub again : {T A R : Type 0} → (A → T → Bool) → (List T → Result (R × List T) (Fault × List T)) → (A → R → A) → ℕ → A → List T → Result (A × List T) (Fault × List T)
again f p join zero a ts = Ok (a, ts)
again f p join (suc n) a ts = choose (f a) (λ us. p us >>= λ x. again f p join n (join a x.0) x.1) (λ us. Ok (a, us)) ts

-- one more, where f knows the next token
abbrev pub another : {T R : Type 0} → (T → Bool) → (List T → Result (R × List T) (Fault × List T)) → List T → Option (Result (R × List T) (Fault × List T))
another f p ts = if_so (ahead f ts) (p ts)
