-- What a source is read as: its tokens with their places, or its first fault.
use Rattle.std.specs.Prelude.{ℕ, ◌≡◌, ◌+◌, ◌==◌, ◌&&◌, nat_lt, if◌then◌else◌, List, [], ◌∷◌, length, take, Result, Ok, Err, MatchBool}
use Rattle.std.specs.declared.alloc.Global.{Global}
use Rattle.std.specs.declared.vec.Vec.{Vec}
use Rattle.ss_core.specs.declared.names.Place.{Place}
use Rattle.ss_core.specs.declared.names.FrontStop.{FrontStop}
use Rattle.ss_core.specs.declared.names.FrontStop.TheVariants as stop
use Rattle.ss_ast.specs.declared.token.Token.{Token}
use Rattle.ss_ast.specs.Tokens.{Kind, AnEnd, Tok, toks}
use Rattle.ss_lexer.specs.declared.pieces.Form.{Form}
use Rattle.ss_lexer.specs.Pieces.{IsFirst, Nothing, Means, Breaks, after_sign, meaning, too_long}

-- ---- places

abbrev pub start : Place
start = record { line = 1; column = 1 }

-- a line feed ends a line; every other byte is a column
abbrev pub next_place : Place → ℕ → Place
next_place p c = if c == 10 then record { line = p.line + 1; column = 1 } else record { line = p.line; column = p.column + 1 }

abbrev pub place_after : Place → List ℕ → Place
place_after p [] = p
place_after p (c ∷ cs) = place_after (next_place p c) cs

-- a byte order mark at the front is no part of the text
abbrev pub without_mark : List ℕ → List ℕ
without_mark (a ∷ b ∷ c ∷ cs) = if (a == 239) && (b == 187) && (c == 191) then cs else a ∷ b ∷ c ∷ cs
without_mark cs = cs

-- ---- readings

-- the tokens, or the rule that is broken and the place
abbrev pub Answer : Type 0
Answer = Result (List Tok) (ℕ × Place)

abbrev pub with_token : Tok → Answer → Answer
with_token t (Ok ts) = Ok (t ∷ ts)
with_token t (Err fault) = Err fault

-- What a source is read as from a place on, after these tokens, the nearest first. The end of the text is a token. A piece at the front
-- stands between tokens, or is a token, or is the fault.
pub data Reads : Place → List Kind → List ℕ → Answer → Type 0 where
  at_end : {p : Place} {before : List Kind} → Reads p before [] (Ok (record { kind = AnEnd; place = p } ∷ []))
  between : {p : Place} {before : List Kind} {source : List ℕ} {a : Answer} (f : Form) (text rest : List ℕ) →
      IsFirst source f text rest → meaning (after_sign before) f text ≡ Nothing →
      Reads (place_after p text) before rest a → Reads p before source a
  token : {p : Place} {before : List Kind} {source : List ℕ} {a : Answer} (f : Form) (text rest : List ℕ) (k : Kind) →
      IsFirst source f text rest → meaning (after_sign before) f text ≡ Means k →
      Reads (place_after p text) (k ∷ before) rest a → Reads p before source (with_token (record { kind = k; place = p }) a)
  fault : {p : Place} {before : List Kind} {source : List ℕ} (f : Form) (text rest : List ℕ) (rule n : ℕ) →
      IsFirst source f text rest → meaning (after_sign before) f text ≡ Breaks rule n →
      Reads p before source (Err (rule, place_after p (take n text)))

-- how many bytes a source has at most
abbrev pub most_bytes : ℕ
most_bytes = 1048576

-- what the bytes are read as; more than that are too long, whatever they are
abbrev pub IsReadAs : List ℕ → Answer → Type 0
IsReadAs bytes a = MatchBool (nat_lt most_bytes (length bytes)) (a ≡ Err (too_long, start)) (Reads start [] (without_mark bytes) a)

-- The bytes have these tokens; the first fault in them breaks this rule at this place.
abbrev pub HasTokens : List ℕ → List Tok → Type 0
HasTokens bytes ts = IsReadAs bytes (Ok ts)

abbrev pub FaultAt : ℕ → Place → List ℕ → Type 0
FaultAt rule p bytes = IsReadAs bytes (Err (rule, p))

-- what `tokens` answers
abbrev pub Answers : List ℕ → Result (Vec Token Global) FrontStop → Type 0
Answers bytes (Ok ts) = HasTokens bytes (toks ts.items)
Answers bytes (Err (stop.Refused rule p)) = FaultAt rule p bytes
Answers bytes (Err stop.Memory) = Unit {0}

-- nothing else is answered where this is what the bytes are read as
abbrev pub IsAnswer : Answer → Result (Vec Token Global) FrontStop → Type 0
IsAnswer a (Ok ts) = a ≡ Ok (toks ts.items)
IsAnswer a (Err (stop.Refused rule p)) = a ≡ Err (rule, p)
IsAnswer a (Err stop.Memory) = Unit {0}
