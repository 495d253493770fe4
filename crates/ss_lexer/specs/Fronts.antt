-- Where the first piece of a source ends, by its first byte.
use Rattle.std.specs.Prelude.{ℕ, ◌+◌, ◌==◌, false, if◌then◌else◌, List, [], ◌∷◌, length, take, drop, Option, Some, None}
use Rattle.std.specs.List.{prefix_len}
use Rattle.std.specs.Str.{bytes_eq}
use Rattle.ss_ast.specs.declared.token.Symbol.{Symbol}
use Rattle.ss_lexer.specs.declared.pieces.Form.{Form}
use Rattle.ss_lexer.specs.declared.pieces.Form.TheVariants as form
use Rattle.ss_lexer.specs.Lexemes.{is_blank, is_digit, is_letter, is_word_byte, stays_on_line, comment_end, string_end, symbols}
use Rattle.ss_lexer.specs.Pieces.{IsFirst}

-- the first of these texts that a source begins with, and its length
abbrev pub first_beginning : {A : Type 0} → List (List ℕ × A) → List ℕ → Option (A × ℕ)
first_beginning [] source = None
first_beginning (e ∷ es) source = if bytes_eq e.0 (take (length e.0) source) then Some (e.1, length e.0) else first_beginning es source

-- the piece at the front has n bytes
abbrev pub StandsFirst : List ℕ → Form × ℕ → Type 0
StandsFirst source x = IsFirst source x.0 (take x.1 source) (drop x.1 source)

abbrev pub string_front : Option ℕ → List ℕ → Form × ℕ
string_front (Some n) cs = (form.Text, 1 + n)
string_front None cs = (form.OpenText, 1 + prefix_len stays_on_line cs)

abbrev pub comment_front : Option ℕ → List ℕ → Form × ℕ
comment_front (Some n) cs = (form.Comment, 2 + n)
comment_front None cs = (form.OpenComment, 2 + length cs)

abbrev pub symbol_front : Option (Symbol × ℕ) → Form × ℕ
symbol_front (Some x) = (form.Symbol x.0, x.1)
symbol_front None = (form.Stray, 1)

-- after a `/`
abbrev pub slash_front : List ℕ → Form × ℕ
slash_front [] = symbol_front (first_beginning symbols (47 ∷ []))
slash_front (c ∷ cs) = if c == 47 then (form.Comment, 2 + prefix_len stays_on_line cs)
    else (if c == 42 then comment_front (comment_end cs) cs
    else symbol_front (first_beginning symbols (47 ∷ c ∷ cs)))

abbrev pub front_of : ℕ → List ℕ → Form × ℕ
front_of c cs = if is_letter c then (form.Word, 1 + prefix_len is_word_byte cs)
    else (if is_digit c then (form.Number, 1 + prefix_len is_digit cs)
    else (if is_blank c then (form.Space, 1)
    else (if c == 34 then string_front (string_end false cs) cs
    else (if c == 47 then slash_front cs
    else symbol_front (first_beginning symbols (c ∷ cs))))))
