-- The bytes of which a source is made: classes of bytes, spellings, and where comments and strings end.
use Rattle.std.specs.Prelude.{ℕ, suc, ◌+◌, ◌*◌, ◌-◌, ◌==◌, ◌&&◌, ◌||◌, nat_le, Bool, true, false, not, if◌then◌else◌, List, [], ◌∷◌, length, take, drop, Option, Some, None, option_map, codes, min}
use Rattle.std.specs.List.{list_all}
use Rattle.std.specs.Str.{bytes_eq}
use Rattle.std.specs.Str.Lossy.{utf8_valid_len}
use Rattle.ss_ast.specs.declared.token.Word.{Word}
use Rattle.ss_ast.specs.declared.token.Word.TheVariants as word
use Rattle.ss_ast.specs.declared.token.Symbol.{Symbol}
use Rattle.ss_ast.specs.declared.token.Symbol.TheVariants as symbol

-- blank, tab, carriage return, line feed
abbrev pub is_blank : ℕ → Bool
is_blank c = (c == 32) || (c == 9) || (c == 13) || (c == 10)

abbrev pub is_digit : ℕ → Bool
is_digit c = nat_le 48 c && nat_le c 57

-- a letter or `_`
abbrev pub is_letter : ℕ → Bool
is_letter c = (nat_le 65 c && nat_le c 90) || (nat_le 97 c && nat_le c 122) || (c == 95)

abbrev pub is_word_byte : ℕ → Bool
is_word_byte c = is_letter c || is_digit c

-- not a line feed, which ends a line
abbrev pub stays_on_line : ℕ → Bool
stays_on_line c = not (c == 10)

abbrev pub on_one_line : List ℕ → Bool
on_one_line = list_all stays_on_line

-- the first byte is this one
abbrev pub first_is : ℕ → List ℕ → Bool
first_is b [] = false
first_is b (c ∷ cs) = c == b

-- ---- comments

-- how many bytes there are up to the first `*/` and with it
abbrev pub comment_end : List ℕ → Option ℕ
comment_end [] = None
comment_end (c ∷ cs) = if (c == 42) && first_is 47 cs then Some 2 else option_map suc (comment_end cs)

-- ---- strings

-- how many bytes there are up to the first quote that no backslash hides, and with it, where no line ends before it;
-- a backslash hides the byte after it, unless it is itself hidden
abbrev pub string_end : Bool → List ℕ → Option ℕ
string_end hidden [] = None
string_end hidden (c ∷ cs) = if c == 10 then None else (if (c == 34) && not hidden then Some 1 else option_map suc (string_end ((c == 92) && not hidden) cs))

-- the bytes that may stand after a backslash, with the bytes that they write: `\"`, `\\`, `\n`, `\r`, `\t`, `\0`
abbrev pub escapes : List (ℕ × ℕ)
escapes = (34, 34) ∷ (92, 92) ∷ (110, 10) ∷ (114, 13) ∷ (116, 9) ∷ (48, 0) ∷ []

abbrev pub written_by : List (ℕ × ℕ) → ℕ → Option ℕ
written_by [] e = None
written_by (x ∷ xs) e = if e == x.0 then Some x.1 else written_by xs e

-- the first byte ends an escape
abbrev pub ends_escape : List ℕ → Bool
ends_escape [] = false
ends_escape (e ∷ cs) = elim (written_by escapes e) [ Some b ↦ true | None ↦ false ]

-- how many bytes stand before the first backslash that begins no escape, or in all
abbrev pub escapes_len : Bool → List ℕ → ℕ
escapes_len hidden [] = 0
escapes_len hidden (c ∷ cs) = if (c == 92) && not hidden && not (ends_escape cs) then 0 else suc (escapes_len ((c == 92) && not hidden) cs)

-- how many bytes of a string are in order: UTF-8 with no backslash but in escapes
abbrev pub sound_len : List ℕ → ℕ
sound_len text = min (utf8_valid_len text) (escapes_len false text)

-- the byte that an escape writes
abbrev pub escaped : ℕ → ℕ
escaped e = elim (written_by escapes e) [ Some b ↦ b | None ↦ e ]

-- the bytes that the inside of a string stands for
abbrev pub value_from : Bool → List ℕ → List ℕ
value_from hidden [] = []
value_from true (e ∷ cs) = escaped e ∷ value_from false cs
value_from false (c ∷ cs) = if c == 92 then value_from true cs else c ∷ value_from false cs

-- the bytes that a string stands for, without its quotes
abbrev pub string_value : List ℕ → List ℕ
string_value text = value_from false (take (length text - 2) (drop 1 text))

-- ---- numbers

-- the number that the digits write, after those that write n
abbrev pub decimal_from : ℕ → List ℕ → ℕ
decimal_from n [] = n
decimal_from n (d ∷ ds) = decimal_from (10 * n + (d - 48)) ds

abbrev pub decimal : List ℕ → ℕ
decimal = decimal_from 0

-- ---- spellings

abbrev pub look_up : {A : Type 0} → List (List ℕ × A) → List ℕ → Option A
look_up [] text = None
look_up (e ∷ es) text = if bytes_eq text e.0 then Some e.1 else look_up es text

-- the symbols
unfoldable pub symbols : List (List ℕ × Symbol)
symbols =
    (codes "<==>", symbol.Iff) ∷
    (codes "==>", symbol.Implies) ∷
    (codes "==", symbol.EqualEqual) ∷
    (codes "!=", symbol.BangEqual) ∷
    (codes "<=", symbol.LessEqual) ∷
    (codes ">=", symbol.GreaterEqual) ∷
    (codes "&&", symbol.AndAnd) ∷
    (codes "||", symbol.OrOr) ∷
    (codes "+=", symbol.PlusEqual) ∷
    (codes "-=", symbol.MinusEqual) ∷
    (codes "*=", symbol.StarEqual) ∷
    (codes "++", symbol.PlusPlus) ∷
    (codes "--", symbol.MinusMinus) ∷
    (codes "{", symbol.OpenBrace) ∷
    (codes "}", symbol.CloseBrace) ∷
    (codes "(", symbol.Open) ∷
    (codes ")", symbol.Close) ∷
    (codes "[", symbol.OpenBracket) ∷
    (codes "]", symbol.CloseBracket) ∷
    (codes ";", symbol.Semicolon) ∷
    (codes ":", symbol.Colon) ∷
    (codes ",", symbol.Comma) ∷
    (codes ".", symbol.Dot) ∷
    (codes "=", symbol.Equal) ∷
    (codes "<", symbol.Less) ∷
    (codes ">", symbol.Greater) ∷
    (codes "+", symbol.Plus) ∷
    (codes "-", symbol.Minus) ∷
    (codes "*", symbol.Star) ∷
    (codes "/", symbol.Slash) ∷
    (codes "%", symbol.Percent) ∷
    (codes "!", symbol.Bang) ∷
    []

-- the reserved words
unfoldable pub words : List (List ℕ × Word)
words =
    (codes "using", word.Using) ∷
    (codes "class", word.Class) ∷
    (codes "static", word.Static) ∷
    (codes "virtual", word.Virtual) ∷
    (codes "override", word.Override) ∷
    (codes "public", word.Public) ∷
    (codes "private", word.Private) ∷
    (codes "protected", word.Protected) ∷
    (codes "internal", word.Internal) ∷
    (codes "void", word.Void) ∷
    (codes "int", word.Int) ∷
    (codes "bool", word.Bool) ∷
    (codes "object", word.Object) ∷
    (codes "this", word.This) ∷
    (codes "base", word.Base) ∷
    (codes "null", word.Null) ∷
    (codes "true", word.True) ∷
    (codes "false", word.False) ∷
    (codes "new", word.New) ∷
    (codes "is", word.Is) ∷
    (codes "as", word.As) ∷
    (codes "if", word.If) ∷
    (codes "else", word.Else) ∷
    (codes "while", word.While) ∷
    (codes "for", word.For) ∷
    (codes "return", word.Return) ∷
    (codes "assert", word.Assert) ∷
    (codes "assume", word.Assume) ∷
    (codes "expose", word.Expose) ∷
    (codes "at", word.At) ∷
    (codes "invariant", word.Invariant) ∷
    (codes "requires", word.Requires) ∷
    (codes "ensures", word.Ensures) ∷
    (codes "modifies", word.Modifies) ∷
    (codes "old", word.Old) ∷
    (codes "result", word.Result) ∷
    (codes "forall", word.Forall) ∷
    (codes "exists", word.Exists) ∷
    (codes "in", word.In) ∷
    []
