-- Every list of bytes is read as tokens, or as a fault.
use Rattle.std.proofs.Common.{ℕ, zero, suc, ◌≤◌, Bool, true, false, List, [], ◌∷◌, length, take, drop, Ok, Err, refl, arith, length-drop}
use Rattle.std.specs.Prelude.{nat_lt, ◌≡◌, MatchBool}
use Rattle.ss_core.specs.declared.names.Place.{Place}
use Rattle.ss_ast.specs.Tokens.{Kind, AnEnd}
use Rattle.ss_lexer.specs.declared.pieces.Form.{Form}
use Rattle.ss_lexer.specs.Pieces.{IsFirst, Meaning, Nothing, Means, Breaks, after_sign, meaning, too_long}
use Rattle.ss_lexer.specs.Reading.{Answer, with_token, Reads, at_end, between, token, fault, start, place_after, without_mark, IsReadAs}
use Rattle.ss_lexer.specs.Fronts.{front_of}
use Rattle.ss_lexer.proofs.Longest.{Front, front_whole}

-- there is an answer from here on
abbrev Answered : Place → List Kind → List ℕ → Type 0
Answered p before source = (a : Answer) × Reads p before source a

-- the same of every source of at most n bytes
abbrev AllAnswered : ℕ → Type 0
AllAnswered n = (p : Place) (before : List Kind) (source : List ℕ) → length source ≤ n → Answered p before source

by_meaning : (n : ℕ) → AllAnswered n → (p : Place) (before : List Kind) (source : List ℕ) (f : Form) (text rest : List ℕ) → IsFirst source f text rest → length rest ≤ n → (m : Meaning) → meaning (after_sign before) f text ≡ m → Answered p before source
by_meaning n shorter p before source f text rest first len Nothing e =
    let r = shorter (place_after p text) before rest len in (r.0, between f text rest first e r.1)
by_meaning n shorter p before source f text rest first len (Means k) e =
    let r = shorter (place_after p text) (k ∷ before) rest len in (with_token (record { kind = k; place = p }) r.0, token f text rest k first e r.1)
by_meaning n shorter p before source f text rest first len (Breaks rule m) e = (Err (rule, place_after p (take m text)), fault f text rest rule m first e)

by_front : (n : ℕ) → AllAnswered n → (p : Place) (before : List Kind) (source : List ℕ) (x : Form × ℕ) → Front source x → length source ≤ suc n → Answered p before source
by_front n shorter p before source x front len =
    by_meaning n shorter p before source x.0 (take x.1 source) (drop x.1 source) front.first (omega (arith, length-drop x.1 source, front.some, len)) (meaning (after_sign before) x.0 (take x.1 source)) refl

all_answered : (n : ℕ) → AllAnswered n
all_answered zero p before [] h = (Ok (record { kind = AnEnd; place = p } ∷ []), at_end)
all_answered zero p before (c ∷ cs) h = absurd (omega arith)
all_answered (suc n) p before [] h = (Ok (record { kind = AnEnd; place = p } ∷ []), at_end)
all_answered (suc n) p before (c ∷ cs) h = by_front n (all_answered n) p before (c ∷ cs) (front_of c cs) (front_whole c cs) h

-- there is an answer, however many bytes there are
pub read : (bytes : List ℕ) → (a : Answer) × IsReadAs bytes a
read bytes = by (nat_lt 1048576 (length bytes))
  where
    by : (long : Bool) → (a : Answer) × MatchBool long (a ≡ Err (too_long, start)) (Reads start [] (without_mark bytes) a)
    by true = (Err (too_long, start), refl)
    by false = all_answered (length (without_mark bytes)) start [] (without_mark bytes) (omega arith)
