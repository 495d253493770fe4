-- What the form of a text says of it.
use Rattle.std.proofs.Common.{ℕ, ◌≡◌, ◌≤◌, ◌<◌, true, false, ⊎_elim, List, [], ◌∷◌, length, Option, Some, None, IsUtf8, arith, sym, ap}
use Rattle.std.specs.Prelude.{if◌then◌else◌, nat_le, ◌&&◌, ◌||◌, ◌==◌}
use Rattle.std.specs.List.{list_all}
use Rattle.std.proofs.lemmas.Bool.{and_parts, or_cases, leb-true, eqb-true, or_left}
use Rattle.std.specs.Str.{IsAscii}
use Rattle.std.proofs.lemmas.Str.{IsUtf8-from_ascii}
use Rattle.std.proofs.lemmas.Str.Ascii.{IsAscii-nil, IsAscii-cons}
use Rattle.ss_ast.specs.declared.token.Symbol.{Symbol}
use Rattle.ss_lexer.specs.declared.pieces.Form.{Form}
use Rattle.ss_lexer.specs.declared.pieces.Form.TheVariants as form
use Rattle.ss_lexer.specs.Lexemes.{is_letter, is_digit, is_blank, is_word_byte, on_one_line, string_end, comment_end, look_up, symbols}
use Rattle.ss_lexer.specs.Pieces.{when, is_empty, string_form, comment_form, symbol_form, slash_form, form_of}
use Rattle.ss_lexer.proofs.Choice.{if_cases, when_holds, when_differs}
use Rattle.ss_lexer.proofs.Closing.{string_closes}

-- ---- no other form

string_word : (o : Option ℕ) (cs : List ℕ) → string_form o cs ≡ Some form.Word → ⊥
string_word (Some n) cs e = let d = when_differs (length cs == n) form.Text form.Word e in cc
string_word None cs e = let d = when_differs (on_one_line cs) form.OpenText form.Word e in cc

comment_word : (f : Form) → (form.Comment ≡ f → ⊥) → (form.OpenComment ≡ f → ⊥) → (o : Option ℕ) (cs : List ℕ) → comment_form o cs ≡ Some f → ⊥
comment_word f no_comment no_open (Some n) cs e = no_comment (when_differs (length cs == n) form.Comment f e)
comment_word f no_comment no_open None cs e = no_open (let same : Some form.OpenComment ≡ Some f = e in cc)

symbol_not : (f : Form) → ((s : Symbol) → form.Symbol s ≡ f → ⊥) → (form.Stray ≡ f → ⊥) → (o : Option Symbol) (text : List ℕ) → symbol_form o text ≡ Some f → ⊥
symbol_not f no_symbol no_stray (Some s) text e = no_symbol s (let same : Some (form.Symbol s) ≡ Some f = e in cc)
symbol_not f no_symbol no_stray None text e = no_stray (when_differs (length text == 1) form.Stray f e)

slash_not : (f : Form) → (form.Comment ≡ f → ⊥) → (form.OpenComment ≡ f → ⊥) → ((s : Symbol) → form.Symbol s ≡ f → ⊥) → (form.Stray ≡ f → ⊥) → (cs : List ℕ) → slash_form cs ≡ Some f → ⊥
unfolding slash_form
slash_not f c o s t [] e = symbol_not f s t (look_up symbols (47 ∷ [])) (47 ∷ []) e
slash_not f c o s t (d ∷ ds) e =
    ⊎_elim
    (λ line. c (when_differs (on_one_line ds) form.Comment f line.1))
    (λ more. ⊎_elim
    (λ block. comment_word f c o (comment_end ds) ds block.1)
    (λ other. symbol_not f s t (look_up symbols (47 ∷ d ∷ ds)) (47 ∷ d ∷ ds) other.1)
    (if_cases (d == 42) (comment_form (comment_end ds) ds) (symbol_form (look_up symbols (47 ∷ d ∷ ds)) (47 ∷ d ∷ ds)) (Some f) more.1))
    (if_cases (d == 47) (when (on_one_line ds) form.Comment) (if d == 42 then comment_form (comment_end ds) ds else symbol_form (look_up symbols (47 ∷ d ∷ ds)) (47 ∷ d ∷ ds)) (Some f) e)

-- ---- the parts of a form by the first byte

abbrev from_other : ℕ → List ℕ → Option Form
from_other c cs = if c == 47 then slash_form cs else symbol_form (look_up symbols (c ∷ cs)) (c ∷ cs)

abbrev from_quote : ℕ → List ℕ → Option Form
from_quote c cs = if c == 34 then string_form (string_end false cs) cs else from_other c cs

abbrev from_blank : ℕ → List ℕ → Option Form
from_blank c cs = if is_blank c then when (is_empty cs) form.Space else from_quote c cs

abbrev from_digit : ℕ → List ℕ → Option Form
from_digit c cs = if is_digit c then when (list_all is_digit cs) form.Number else from_blank c cs

other_not : (f : Form) → (form.Comment ≡ f → ⊥) → (form.OpenComment ≡ f → ⊥) → ((s : Symbol) → form.Symbol s ≡ f → ⊥) → (form.Stray ≡ f → ⊥) → (c : ℕ) (cs : List ℕ) → from_other c cs ≡ Some f → ⊥
other_not f k o s t c cs e =
    ⊎_elim (λ slash. slash_not f k o s t cs slash.1) (λ other. symbol_not f s t (look_up symbols (c ∷ cs)) (c ∷ cs) other.1)
    (if_cases (c == 47) (slash_form cs) (symbol_form (look_up symbols (c ∷ cs)) (c ∷ cs)) (Some f) e)

not_word : (c : ℕ) (cs : List ℕ) → from_digit c cs ≡ Some form.Word → ⊥
not_word c cs e =
    ⊎_elim
    (λ d. let h = when_differs (list_all is_digit cs) form.Number form.Word d.1 in cc)
    (λ d. ⊎_elim
    (λ b. let h = when_differs (is_empty cs) form.Space form.Word b.1 in cc)
    (λ b. ⊎_elim
    (λ q. string_word (string_end false cs) cs q.1)
    (λ q. other_not form.Word (λ h. cc) (λ h. cc) (λ s h. cc) (λ h. cc) c cs q.1)
    (if_cases (c == 34) (string_form (string_end false cs) cs) (from_other c cs) (Some form.Word) b.1))
    (if_cases (is_blank c) (when (is_empty cs) form.Space) (from_quote c cs) (Some form.Word) d.1))
    (if_cases (is_digit c) (when (list_all is_digit cs) form.Number) (from_blank c cs) (Some form.Word) e)

-- a word is letters, digits and `_`
pub word_bytes : (text : List ℕ) → form_of text ≡ Some form.Word → list_all is_word_byte text ≡ true
unfolding form_of
word_bytes [] e = absurd cc
word_bytes (c ∷ cs) e =
    ⊎_elim
    (λ l. let head : is_word_byte c ≡ true = or_left (is_letter c) (is_digit c) l.0 in rw head (when_holds (list_all is_word_byte cs) form.Word form.Word l.1))
    (λ l. absurd (not_word c cs l.1))
    (if_cases (is_letter c) (when (list_all is_word_byte cs) form.Word) (from_digit c cs) (Some form.Word) e)

string_text : (o : Option ℕ) (cs : List ℕ) → string_form o cs ≡ Some form.Text → o ≡ Some (length cs)
string_text (Some n) cs e = ap Some (sym (eqb-true (length cs) n (when_holds (length cs == n) form.Text form.Text e)))
string_text None cs e = absurd (let h = when_differs (on_one_line cs) form.OpenText form.Text e in cc)

-- a string has two quotes
pub text_long : (text : List ℕ) → form_of text ≡ Some form.Text → 2 ≤ length text
unfolding form_of
text_long [] e = absurd cc
text_long (c ∷ cs) e =
    ⊎_elim
    (λ l. absurd (let h = when_differs (list_all is_word_byte cs) form.Word form.Text l.1 in cc))
    (λ l. ⊎_elim
    (λ d. absurd (let h = when_differs (list_all is_digit cs) form.Number form.Text d.1 in cc))
    (λ d. ⊎_elim
    (λ b. absurd (let h = when_differs (is_empty cs) form.Space form.Text b.1 in cc))
    (λ b. ⊎_elim
    (λ q. let r = string_closes false cs (length cs) (string_text (string_end false cs) cs q.1) in omega (arith, r.some))
    (λ q. absurd (other_not form.Text (λ h. cc) (λ h. cc) (λ s h. cc) (λ h. cc) c cs q.1))
    (if_cases (c == 34) (string_form (string_end false cs) cs) (from_other c cs) (Some form.Text) b.1))
    (if_cases (is_blank c) (when (is_empty cs) form.Space) (from_quote c cs) (Some form.Text) d.1))
    (if_cases (is_digit c) (when (list_all is_digit cs) form.Number) (from_blank c cs) (Some form.Text) l.1))
    (if_cases (is_letter c) (when (list_all is_word_byte cs) form.Word) (from_digit c cs) (Some form.Text) e)

-- ---- words are UTF-8

letter_small : (c : ℕ) → is_word_byte c ≡ true → c < 128
letter_small c e =
    ⊎_elim
    (λ l. ⊎_elim
    (λ big. ⊎_elim
    (λ upper. omega (arith, leb-true c 90 (and_parts (nat_le 65 c) (nat_le c 90) upper).1))
    (λ lower. omega (arith, leb-true c 122 (and_parts (nat_le 97 c) (nat_le c 122) lower).1))
    (or_cases (nat_le 65 c && nat_le c 90) (nat_le 97 c && nat_le c 122) big))
    (λ under. omega (arith, eqb-true c 95 under))
    (or_cases ((nat_le 65 c && nat_le c 90) || (nat_le 97 c && nat_le c 122)) (c == 95) l))
    (λ d. omega (arith, leb-true c 57 (and_parts (nat_le 48 c) (nat_le c 57) d).1))
    (or_cases (is_letter c) (is_digit c) e)

word_small : (text : List ℕ) → list_all is_word_byte text ≡ true → IsAscii text
word_small [] e = IsAscii-nil
word_small (c ∷ cs) e = let parts = and_parts (is_word_byte c) (list_all is_word_byte cs) e in IsAscii-cons c cs (letter_small c parts.0) (word_small cs parts.1)

pub word_utf8 : (text : List ℕ) → list_all is_word_byte text ≡ true → IsUtf8 text
word_utf8 text e = IsUtf8-from_ascii text (word_small text e)
