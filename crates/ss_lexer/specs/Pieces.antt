-- The pieces of which a source is made, and what each means.
use Rattle.std.specs.Prelude.{ℕ, ◌≡◌, ◌==◌, ◌&&◌, nat_le, Bool, true, false, not, if◌then◌else◌, List, [], ◌∷◌, ◌++◌, length, Option, Some, None, IsSome, codes}
use Rattle.std.specs.List.{list_all}
use Rattle.std.specs.Str.Lossy.{utf8_valid_len}
use Rattle.ss_core.specs.declared.rules.Rule.TheVariants as rule
use Rattle.ss_core.specs.Rules.{rule_number}
use Rattle.ss_ast.specs.declared.token.Word.{Word}
use Rattle.ss_ast.specs.declared.token.Word.TheVariants as word
use Rattle.ss_ast.specs.declared.token.Symbol.{Symbol}
use Rattle.ss_ast.specs.declared.token.Symbol.TheVariants as symbol
use Rattle.ss_ast.specs.Tokens.{Kind, AWord, ASymbol, AName, ANumber, AText, AnEnd}
use Rattle.ss_lexer.specs.declared.pieces.Form.{Form}
use Rattle.ss_lexer.specs.declared.pieces.Form.TheVariants as form
use Rattle.ss_lexer.specs.Lexemes.{is_blank, is_digit, is_letter, is_word_byte, on_one_line, comment_end, string_end, sound_len, string_value, decimal, look_up, symbols, words}

-- ---- which texts are pieces

abbrev pub when : Bool → Form → Option Form
when holds f = if holds then Some f else None

abbrev pub is_empty : List ℕ → Bool
is_empty [] = true
is_empty (c ∷ cs) = false

-- after the first quote of a string
abbrev pub string_form : Option ℕ → List ℕ → Option Form
string_form (Some n) cs = when (length cs == n) form.Text
string_form None cs = when (on_one_line cs) form.OpenText

-- after the `/*` of a comment
abbrev pub comment_form : Option ℕ → List ℕ → Option Form
comment_form (Some n) cs = when (length cs == n) form.Comment
comment_form None cs = Some form.OpenComment

abbrev pub symbol_form : Option Symbol → List ℕ → Option Form
symbol_form (Some s) text = Some (form.Symbol s)
symbol_form None text = when (length text == 1) form.Stray

-- after a `/`
unfoldable pub slash_form : List ℕ → Option Form
slash_form [] = symbol_form (look_up symbols (codes "/")) (codes "/")
slash_form (c ∷ cs) = if c == 47 then when (on_one_line cs) form.Comment
    else (if c == 42 then comment_form (comment_end cs) cs
    else symbol_form (look_up symbols (47 ∷ c ∷ cs)) (47 ∷ c ∷ cs))

-- What piece a text is, by its first byte: a word of letters, digits and `_`; a number of digits; one blank byte; a string,
-- or a quote and what stands after it on its line where none closes it; a comment to the end of its line; a comment up to the first
-- `*/`, or all that is left where there is none; a symbol; a byte that is nothing else.
unfoldable pub form_of : List ℕ → Option Form
form_of [] = None
form_of (c ∷ cs) = if is_letter c then when (list_all is_word_byte cs) form.Word
    else (if is_digit c then when (list_all is_digit cs) form.Number
    else (if is_blank c then when (is_empty cs) form.Space
    else (if c == 34 then string_form (string_end false cs) cs
    else (if c == 47 then slash_form cs
    else symbol_form (look_up symbols (c ∷ cs)) (c ∷ cs)))))

-- The source has this piece at its front, and with more of what stands after it the text is no piece: the longest counts.
pub record IsFirst (source : List ℕ) (f : Form) (text rest : List ℕ) : Type 0 where
  pub parts : source ≡ text ++ rest
  pub piece : form_of text ≡ Some f
  pub longest : (more others : List ℕ) → rest ≡ more ++ others → IsSome (form_of (text ++ more)) → more ≡ []

-- ---- what a piece means

-- A piece separates tokens, or is a token, or breaks the rule of this number after so many of its bytes.
pub data Meaning : Type 0 where
  Nothing : Meaning
  Means : Kind → Meaning
  Breaks : ℕ → ℕ → Meaning

-- the numbers of the rules
abbrev pub bad_byte : ℕ
bad_byte = rule_number rule.BadByte

abbrev pub open_comment : ℕ
open_comment = rule_number rule.OpenComment

abbrev pub open_string : ℕ
open_string = rule_number rule.OpenString

abbrev pub big_number : ℕ
big_number = rule_number rule.BigNumber

abbrev pub too_long : ℕ
too_long = rule_number rule.TooLong

abbrev pub word_or_name : Option Word → List ℕ → Kind
word_or_name (Some w) text = AWord w
word_or_name None text = AName text

abbrev pub is_operand_word : Word → Bool
is_operand_word word.This = true
is_operand_word word.Result = true
is_operand_word word.True = true
is_operand_word word.False = true
is_operand_word word.Null = true
is_operand_word _ = false

abbrev pub is_operand_symbol : Symbol → Bool
is_operand_symbol symbol.Close = true
is_operand_symbol symbol.CloseBracket = true
is_operand_symbol _ = false

-- a number, a name, `)`, `]`, or one of `this result true false null`
abbrev pub ends_operand : Kind → Bool
ends_operand (AWord w) = is_operand_word w
ends_operand (ASymbol s) = is_operand_symbol s
ends_operand (AName n) = true
ends_operand (ANumber n) = true
ends_operand (AText t) = false
ends_operand AnEnd = false

abbrev pub minus_symbol : Symbol → Bool
minus_symbol symbol.Minus = true
minus_symbol _ = false

abbrev pub is_minus : Kind → Bool
is_minus (ASymbol s) = minus_symbol s
is_minus (AWord w) = false
is_minus (AName n) = false
is_minus (ANumber n) = false
is_minus (AText t) = false
is_minus AnEnd = false

-- of the tokens before a place, the nearest first: an operand ends there
abbrev pub after_operand : List Kind → Bool
after_operand [] = false
after_operand (k ∷ ks) = ends_operand k

-- the nearest is a `-` that stands after no operand
abbrev pub after_sign : List Kind → Bool
after_sign [] = false
after_sign (k ∷ ks) = is_minus k && not (after_operand ks)

-- 2147483648 stands only after a sign
abbrev pub number_meaning : Bool → ℕ → Meaning
number_meaning signed n = if nat_le n 2147483647 then Means (ANumber n)
    else (if (n == 2147483648) && signed then Means (ANumber n) else Breaks big_number 0)

-- where only so many bytes of the text are in order, a bad byte stands after them
abbrev pub sound_or_bad : ℕ → List ℕ → Meaning → Meaning
sound_or_bad n text m = if n == length text then m else Breaks bad_byte n

-- what a piece means, after a sign or not
abbrev pub meaning : Bool → Form → List ℕ → Meaning
meaning signed form.Space text = Nothing
meaning signed form.Comment text = sound_or_bad (utf8_valid_len text) text Nothing
meaning signed form.OpenComment text = Breaks open_comment 0
meaning signed form.Word text = Means (word_or_name (look_up words text) text)
meaning signed form.Number text = number_meaning signed (decimal text)
meaning signed form.Text text = sound_or_bad (sound_len text) text (Means (AText (string_value text)))
meaning signed form.OpenText text = Breaks open_string 0
meaning signed (form.Symbol s) text = Means (ASymbol s)
meaning signed form.Stray text = Breaks bad_byte 0
