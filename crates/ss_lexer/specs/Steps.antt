-- What the lexer's functions do.
use Rattle.std.specs.Prelude.{ℕ, ◌≡◌, ◌≤◌, ◌&&◌, Bool, not, List, [], ◌∷◌, ◌++◌, map, take, Result, Ok, Err}
use Rattle.ss_core.specs.declared.names.FrontStop.{FrontStop}
use Rattle.ss_core.specs.declared.names.FrontStop.TheVariants as stop
use Rattle.std.specs.Borrow.{Bor}
use Rattle.ss_ast.specs.Tokens.{Tok, kind_of, toks}
use Rattle.ss_lexer.specs.declared.meaning.Meaning.{Meaning as Found}
use Rattle.ss_lexer.specs.declared.meaning.Meaning.TheVariants as found
use Rattle.ss_lexer.specs.declared.lexer.Lexer.{Lexer}
use Rattle.ss_lexer.specs.Pieces.{Meaning, Nothing, Means, Breaks, ends_operand, is_minus}
use Rattle.ss_lexer.specs.Reading.{place_after}

-- the meaning that a value of the code stands for
abbrev pub meaning_is : Found → Meaning
meaning_is found.Nothing = Nothing
meaning_is (found.Token k) = Means (kind_of k)
meaning_is (found.Fault rule n) = Breaks rule n

-- a fault stands in a text of so many bytes
abbrev pub FaultIsWithin : Found → ℕ → Type 0
FaultIsWithin found.Nothing len = Unit {0}
FaultIsWithin (found.Token k) len = Unit {0}
FaultIsWithin (found.Fault rule n) len = n ≤ len

-- the lexer's tokens, and whether the last one ends an operand and whether it is a sign
pub record State : Type 0 where
  pub tokens : List Tok
  pub operand : Bool
  pub signed : Bool

abbrev pub state : Lexer → State
state l = record { tokens = toks l.tokens.items; operand = l.operand; signed = l.signed }

-- with one more token
abbrev pub pushed : Tok → State → State
pushed t s = record { tokens = s.tokens ++ t ∷ []; operand = ends_operand t.kind; signed = is_minus t.kind && not s.operand }

-- a piece of this meaning was taken, or it is a fault, or memory ran out
abbrev pub Took : {U : Type 0} → Meaning → List ℕ → Lexer → Lexer → Result U FrontStop → Type 0
Took m text old new (Err stop.Memory) = Unit {0}
Took m text old new (Err (stop.Refused rule p)) = (n : ℕ) × (m ≡ Breaks rule n) × (p ≡ place_after old.place (take n text))
Took Nothing text old new (Ok u) = (state new ≡ state old) × (new.place ≡ place_after old.place text)
Took (Means k) text old new (Ok u) = (state new ≡ pushed (record { kind = k; place = old.place }) (state old)) × (new.place ≡ place_after old.place text)
Took (Breaks rule n) text old new (Ok u) = ⊥

-- the rows of a table of spellings
abbrev pub rows : {A : Type 0} → List (Bor (List ℕ) × A) → List (List ℕ × A)
rows = map (λ e. (e.0.now, e.1))
