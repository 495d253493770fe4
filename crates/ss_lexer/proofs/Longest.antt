-- The piece at the front of a source is the longest.
use Rattle.std.proofs.Common.{ℕ, ◌≡◌, ◌<◌, ◌≤◌, ◌+◌, ◌-◌, Bool, true, false, ◌⊎◌, inl, inr, ⊎_elim, List, [], ◌∷◌, ◌++◌, length, take, drop, get_or, Option, Some, None, refl, sym, ap, subst, ◌∙◌, arith, append_assoc, length-append}
use Rattle.std.specs.Prelude.{◌==◌, if◌then◌else◌, IsSome}
use Rattle.std.specs.List.{list_all, prefix_len}
use Rattle.std.proofs.lemmas.List.{append-nil, take_all}
use Rattle.std.proofs.lemmas.Bool.{eq-eqb, eqb-true}
use Rattle.ss_ast.specs.declared.token.Symbol.{Symbol}
use Rattle.ss_lexer.specs.declared.pieces.Form.{Form}
use Rattle.ss_lexer.specs.declared.pieces.Form.TheVariants as form
use Rattle.ss_lexer.specs.Lexemes.{is_letter, is_digit, is_blank, is_word_byte, stays_on_line, on_one_line, string_end, comment_end, look_up, symbols}
use Rattle.ss_lexer.specs.Fronts.{first_beginning}
use Rattle.ss_lexer.specs.Pieces.{when, is_empty, string_form, comment_form, symbol_form, slash_form, form_of, IsFirst}
use Rattle.ss_lexer.specs.Fronts.{StandsFirst, string_front, comment_front, symbol_front, slash_front, front_of}
use Rattle.ss_lexer.proofs.Choice.{by_if, when_some, when_true, option_cases}
use Rattle.ss_lexer.proofs.Runs.{run, all_after}
use Rattle.ss_lexer.proofs.Closing.{Closes, string_closes, comment_closes, still_open}
use Rattle.ss_lexer.proofs.Tables.{falling, take_front, drop_front, longest, none_begins, found}

pub record Front (source : List ℕ) (x : Form × ℕ) : Type 0 where
  pub first : StandsFirst source x
  pub within : x.1 ≤ length source
  pub some : 0 < x.1

-- more of what stands after a text makes no piece of it
abbrev Longest : List ℕ → List ℕ → Type 0
Longest text rest = (more others : List ℕ) → rest ≡ more ++ others → IsSome (form_of (text ++ more)) → more ≡ []

some_long : (f : Form) (text : List ℕ) → form_of text ≡ Some f → 0 < length text
unfolding form_of
some_long f [] e = absurd cc
some_long f (c ∷ cs) e = omega arith

stands : (f : Form) (text rest : List ℕ) → form_of text ≡ Some f → Longest text rest → StandsFirst (text ++ rest) (f, length text)
stands f text rest piece long =
    subst (λ a. IsFirst (text ++ rest) f a (drop (length text) (text ++ rest))) (sym (take_front text rest))
    (subst (λ b. IsFirst (text ++ rest) f text b) (sym (drop_front text rest)) (record { parts = refl; piece = piece; longest = long }))

-- from the two parts of a source
from_parts : (f : Form) (source text rest : List ℕ) (n : ℕ) → source ≡ text ++ rest → length text ≡ n → form_of text ≡ Some f → Longest text rest → Front source (f, n)
from_parts f source text rest n parts len piece long =
    subst (λ s. Front s (f, n)) (sym parts)
    (subst (λ m. Front (text ++ rest) (f, m)) len
    (record { first = stands f text rest piece long; within = omega (arith, length-append text rest); some = some_long f text piece }))

nil_long : (more : List ℕ) → length more ≡ 0 → more ≡ []
nil_long [] e = refl
nil_long (m ∷ ms) e = absurd (omega arith)

nil_parts : (more others : List ℕ) → [] ≡ more ++ others → more ≡ []
nil_parts [] others e = refl
nil_parts (m ∷ ms) others e = absurd cc

-- ---- runs

run_front : (p : ℕ → Bool) (f : Form) (h cs : List ℕ) → ((ds : List ℕ) → form_of (h ++ ds) ≡ when (list_all p ds) f) → Front (h ++ cs) (f, length h + prefix_len p cs)
run_front p f h cs forms =
    let r = run p cs in
    from_parts f (h ++ cs) (h ++ r.inside) r.outside (length h + prefix_len p cs)
    (ap (λ l. h ++ l) r.parts ∙ sym (append_assoc h r.inside r.outside))
    (omega (arith, length-append h r.inside, r.long))
    (forms r.inside ∙ when_true (list_all p r.inside) f r.passes)
    (λ more others e some.
    let whole : form_of ((h ++ r.inside) ++ more) ≡ when (list_all p (r.inside ++ more)) f = ap form_of (append_assoc h r.inside more) ∙ forms (r.inside ++ more) in
    r.stops more others e (all_after p r.inside more (when_some (list_all p (r.inside ++ more)) f (subst IsSome whole some))))

-- one byte
one_front : (f : Form) (c : ℕ) (cs : List ℕ) → ((ds : List ℕ) → form_of (c ∷ ds) ≡ when (is_empty ds) f) → Front (c ∷ cs) (f, 1)
one_front f c cs forms =
    from_parts f (c ∷ cs) (c ∷ []) cs 1 refl refl (forms [])
    (λ more others e some. only more (when_some (is_empty more) f (subst IsSome (forms more) some)))
  where
    only : (more : List ℕ) → is_empty more ≡ true → more ≡ []
    only [] e = refl
    only (m ∷ ms) e = absurd cc

-- ---- strings and comments

closed_front : (e : List ℕ → Option ℕ) (f : Form) (h cs : List ℕ) (n : ℕ) → Closes e cs n → ((ds : List ℕ) (k : ℕ) → e ds ≡ Some k → form_of (h ++ ds) ≡ when (length ds == k) f) → Front (h ++ cs) (f, length h + n)
closed_front e f h cs n r forms =
    from_parts f (h ++ cs) (h ++ r.inside) r.outside (length h + n)
    (ap (λ l. h ++ l) r.parts ∙ sym (append_assoc h r.inside r.outside))
    (omega (arith, length-append h r.inside, r.long))
    (forms r.inside n (ap e (sym (append-nil r.inside)) ∙ r.kept []) ∙ when_true (length r.inside == n) f (eq-eqb (length r.inside) n r.long))
    (λ more others eq some.
    let whole : form_of ((h ++ r.inside) ++ more) ≡ when (length (r.inside ++ more) == n) f = ap form_of (append_assoc h r.inside more) ∙ forms (r.inside ++ more) n (r.kept more) in
    let len = eqb-true (length (r.inside ++ more)) n (when_some (length (r.inside ++ more) == n) f (subst IsSome whole some)) in
    nil_long more (omega (arith, length-append r.inside more, r.long, len)))

-- a string that its line doesn't close
open_front : (h cs : List ℕ) → string_end false cs ≡ None → ((ds : List ℕ) → string_end false ds ≡ None → form_of (h ++ ds) ≡ when (on_one_line ds) form.OpenText) → Front (h ++ cs) (form.OpenText, length h + prefix_len stays_on_line cs)
open_front h cs none forms =
    let r = run stays_on_line cs in
    let open_ = λ (a b : List ℕ) (parts : cs ≡ a ++ b). still_open (string_end false) (string_closes false) a b (ap (string_end false) (sym parts) ∙ none) in
    from_parts form.OpenText (h ++ cs) (h ++ r.inside) r.outside (length h + prefix_len stays_on_line cs)
    (ap (λ l. h ++ l) r.parts ∙ sym (append_assoc h r.inside r.outside))
    (omega (arith, length-append h r.inside, r.long))
    (forms r.inside (open_ r.inside r.outside r.parts) ∙ when_true (on_one_line r.inside) form.OpenText r.passes)
    (λ more others e some.
    let parts : cs ≡ (r.inside ++ more) ++ others = r.parts ∙ ap (λ l. r.inside ++ l) e ∙ sym (append_assoc r.inside more others) in
    let whole : form_of ((h ++ r.inside) ++ more) ≡ when (on_one_line (r.inside ++ more)) form.OpenText = ap form_of (append_assoc h r.inside more) ∙ forms (r.inside ++ more) (open_ (r.inside ++ more) others parts) in
    r.stops more others e (all_after stays_on_line r.inside more (when_some (on_one_line (r.inside ++ more)) form.OpenText (subst IsSome whole some))))

-- all that is left
rest_front : (f : Form) (source : List ℕ) → form_of source ≡ Some f → Front source (f, length source)
rest_front f source e = from_parts f source source [] (length source) (sym (append-nil source)) refl e (λ more others eq some. nil_parts more others eq)

-- ---- symbols

-- each front of the source that is no part of a longer kind of piece is a symbol, one byte, or no piece
abbrev Plain : List ℕ → Type 0
Plain source = (c : ℕ) (cs b : List ℕ) → source ≡ (c ∷ cs) ++ b → form_of (c ∷ cs) ≡ symbol_form (look_up symbols (c ∷ cs)) (c ∷ cs)

symbols_fall : falling symbols ≡ true
unfolding symbols
symbols_fall = refl

symbol_some : (o : Option Symbol) (text : List ℕ) → IsSome (symbol_form o text) → ((s : Symbol) × (o ≡ Some s)) ⊎ (length text ≡ 1)
symbol_some (Some s) text h = inl (s, refl)
symbol_some None text h = inr (eqb-true (length text) 1 (when_some (length text == 1) form.Stray h))

-- a plain text and its form
plain_form : (source : List ℕ) → Plain source → (a b : List ℕ) → 0 < length a → source ≡ a ++ b → form_of a ≡ symbol_form (look_up symbols a) a
plain_form source plain [] b h e = absurd (omega arith)
plain_form source plain (c ∷ cs) b h e = plain c cs b e

found_front : (source : List ℕ) (x : Symbol × ℕ) → Plain source → first_beginning symbols source ≡ Some x → Front source (form.Symbol x.0, x.1)
found_front source x plain e =
    let g = found symbols source x symbols_fall e in
    let plainly = plain_form source plain g.text g.rest (omega (arith, g.long, g.some)) g.parts in
    from_parts (form.Symbol x.0) source g.text g.rest x.1 g.parts g.long
    (plainly ∙ ap (λ o. symbol_form o g.text) g.is)
    (λ more others eq some.
    let parts : source ≡ (g.text ++ more) ++ others = g.parts ∙ ap (λ l. g.text ++ l) eq ∙ sym (append_assoc g.text more others) in
    let len = length-append g.text more in
    let whole = plain_form source plain (g.text ++ more) others (omega (arith, len, g.long, g.some)) parts in
    ⊎_elim
    (λ s. nil_long more (omega (arith, len, g.long, longest symbols (g.text ++ more) others x s.0 symbols_fall (ap (first_beginning symbols) (sym parts) ∙ e) s.1)))
    (λ one. nil_long more (omega (arith, len, g.long, g.some, one)))
    (symbol_some (look_up symbols (g.text ++ more)) (g.text ++ more) (subst IsSome whole some)))

stray_front : (c : ℕ) (cs : List ℕ) → Plain (c ∷ cs) → first_beginning symbols (c ∷ cs) ≡ None → Front (c ∷ cs) (form.Stray, 1)
stray_front c cs plain e =
    from_parts form.Stray (c ∷ cs) (c ∷ []) cs 1 refl refl
    (plain c [] cs refl ∙ ap (λ o. symbol_form o (c ∷ [])) (none_begins symbols (c ∷ []) cs e))
    (λ more others eq some.
    let parts : c ∷ cs ≡ (c ∷ more) ++ others = ap (λ l. c ∷ l) eq in
    let whole = plain c more others parts in
    let none = none_begins symbols (c ∷ more) others (ap (first_beginning symbols) (sym parts) ∙ e) in
    ⊎_elim
    (λ s. absurd (let both : ◌≡◌ {A = Option Symbol} None (Some s.0) = sym none ∙ s.1 in cc))
    (λ one. nil_long more (omega arith))
    (symbol_some (look_up symbols (c ∷ more)) (c ∷ more) (subst IsSome whole some)))

plain_front : (c : ℕ) (cs : List ℕ) → Plain (c ∷ cs) → Front (c ∷ cs) (symbol_front (first_beginning symbols (c ∷ cs)))
plain_front c cs plain =
    ⊎_elim
    (λ none. subst (λ o. Front (c ∷ cs) (symbol_front o)) (sym none) (stray_front c cs plain none))
    (λ some. subst (λ o. Front (c ∷ cs) (symbol_front o)) (sym some.1) (found_front (c ∷ cs) some.0 plain some.1))
    (option_cases (first_beginning symbols (c ∷ cs)))

-- ---- by the first byte

letter_form : (c : ℕ) → is_letter c ≡ true → (ds : List ℕ) → form_of (c ∷ ds) ≡ when (list_all is_word_byte ds) form.Word
unfolding form_of
letter_form c l ds = rw l refl

digit_form : (c : ℕ) → is_letter c ≡ false → is_digit c ≡ true → (ds : List ℕ) → form_of (c ∷ ds) ≡ when (list_all is_digit ds) form.Number
unfolding form_of
digit_form c l d ds = rw (l, d) refl

blank_form : (c : ℕ) → is_letter c ≡ false → is_digit c ≡ false → is_blank c ≡ true → (ds : List ℕ) → form_of (c ∷ ds) ≡ when (is_empty ds) form.Space
unfolding form_of
blank_form c l d b ds = rw (l, d, b) refl

quote_form : (c : ℕ) → is_letter c ≡ false → is_digit c ≡ false → is_blank c ≡ false → (c == 34) ≡ true → (ds : List ℕ) → form_of (c ∷ ds) ≡ string_form (string_end false ds) ds
unfolding form_of
quote_form c l d b q ds = rw (l, d, b, q) refl

other_form : (c : ℕ) → is_letter c ≡ false → is_digit c ≡ false → is_blank c ≡ false → (c == 34) ≡ false → (c == 47) ≡ false → (ds : List ℕ) → form_of (c ∷ ds) ≡ symbol_form (look_up symbols (c ∷ ds)) (c ∷ ds)
unfolding form_of
other_form c l d b q s ds = rw (l, d, b, q, s) refl

slash_is : (ds : List ℕ) → form_of (47 ∷ ds) ≡ slash_form ds
unfolding form_of
slash_is ds = refl

line_form : (c : ℕ) → (c == 47) ≡ true → (ds : List ℕ) → form_of (47 ∷ c ∷ ds) ≡ when (on_one_line ds) form.Comment
unfolding slash_form
line_form c e ds = slash_is (c ∷ ds) ∙ rw e refl

block_form : (c : ℕ) → (c == 47) ≡ false → (c == 42) ≡ true → (ds : List ℕ) → form_of (47 ∷ c ∷ ds) ≡ comment_form (comment_end ds) ds
unfolding slash_form
block_form c e f ds = slash_is (c ∷ ds) ∙ rw (e, f) refl

slash_other_form : (c : ℕ) → (c == 47) ≡ false → (c == 42) ≡ false → (ds : List ℕ) → form_of (47 ∷ c ∷ ds) ≡ symbol_form (look_up symbols (47 ∷ c ∷ ds)) (47 ∷ c ∷ ds)
unfolding slash_form
slash_other_form c e f ds = slash_is (c ∷ ds) ∙ rw (e, f) refl

slash_alone_form : form_of (47 ∷ []) ≡ symbol_form (look_up symbols (47 ∷ [])) (47 ∷ [])
unfolding slash_form
slash_alone_form = slash_is []

string_front_whole : (h : List ℕ) (cs : List ℕ) → ((ds : List ℕ) → form_of (h ++ ds) ≡ string_form (string_end false ds) ds) → length h ≡ 1 → Front (h ++ cs) (string_front (string_end false cs) cs)
string_front_whole h cs forms one =
    ⊎_elim
    (λ none.
    let at = open_front h cs none (λ ds e. forms ds ∙ ap (λ o. string_form o ds) e) in
    subst (λ o. Front (h ++ cs) (string_front o cs)) (sym none) (subst (λ n. Front (h ++ cs) (form.OpenText, n + prefix_len stays_on_line cs)) one at))
    (λ some.
    let at = closed_front (string_end false) form.Text h cs some.0 (string_closes false cs some.0 some.1) (λ ds k e. forms ds ∙ ap (λ o. string_form o ds) e) in
    subst (λ o. Front (h ++ cs) (string_front o cs)) (sym some.1) (subst (λ n. Front (h ++ cs) (form.Text, n + some.0)) one at))
    (option_cases (string_end false cs))

comment_front_whole : (c : ℕ) (cs : List ℕ) → (c == 47) ≡ false → (c == 42) ≡ true → Front (47 ∷ c ∷ cs) (comment_front (comment_end cs) cs)
comment_front_whole c cs e f =
    ⊎_elim
    (λ none.
    let form_is = block_form c e f cs ∙ ap (λ o. comment_form o cs) none in
    let len : 2 + length cs ≡ length (47 ∷ c ∷ cs) = omega arith in
    subst (λ o. Front (47 ∷ c ∷ cs) (comment_front o cs)) (sym none) (subst (λ n. Front (47 ∷ c ∷ cs) (form.OpenComment, n)) (sym len) (rest_front form.OpenComment (47 ∷ c ∷ cs) form_is)))
    (λ some.
    let at = closed_front comment_end form.Comment (47 ∷ c ∷ []) cs some.0 (comment_closes cs some.0 some.1) (λ ds k g. block_form c e f ds ∙ ap (λ o. comment_form o ds) g) in
    subst (λ o. Front (47 ∷ c ∷ cs) (comment_front o cs)) (sym some.1) at)
    (option_cases (comment_end cs))

slash_plain : (c : ℕ) (cs : List ℕ) → (c == 47) ≡ false → (c == 42) ≡ false → Plain (47 ∷ c ∷ cs)
slash_plain c cs e f a [] b parts =
    let same : 47 ≡ a = cc in subst (λ x. form_of (x ∷ []) ≡ symbol_form (look_up symbols (x ∷ [])) (x ∷ [])) same slash_alone_form
slash_plain c cs e f a (d ∷ ds) b parts =
    let same : 47 ≡ a = cc in
    let next : c ≡ d = cc in
    subst (λ x. form_of (x ∷ d ∷ ds) ≡ symbol_form (look_up symbols (x ∷ d ∷ ds)) (x ∷ d ∷ ds)) same
    (subst (λ y. form_of (47 ∷ y ∷ ds) ≡ symbol_form (look_up symbols (47 ∷ y ∷ ds)) (47 ∷ y ∷ ds)) next (slash_other_form c e f ds))

slash_end_plain : Plain (47 ∷ [])
slash_end_plain a [] b parts =
    let same : 47 ≡ a = cc in subst (λ x. form_of (x ∷ []) ≡ symbol_form (look_up symbols (x ∷ [])) (x ∷ [])) same slash_alone_form
slash_end_plain a (d ∷ ds) b parts = absurd cc

slash_front_whole : (cs : List ℕ) → Front (47 ∷ cs) (slash_front cs)
slash_front_whole [] = plain_front 47 [] slash_end_plain
slash_front_whole (c ∷ cs) =
    by_if (Front (47 ∷ c ∷ cs)) (c == 47) (form.Comment, 2 + prefix_len stays_on_line cs) (if c == 42 then comment_front (comment_end cs) cs else symbol_front (first_beginning symbols (47 ∷ c ∷ cs)))
    (λ e. run_front stays_on_line form.Comment (47 ∷ c ∷ []) cs (line_form c e))
    (λ e.
    by_if (Front (47 ∷ c ∷ cs)) (c == 42) (comment_front (comment_end cs) cs) (symbol_front (first_beginning symbols (47 ∷ c ∷ cs)))
    (λ f. comment_front_whole c cs e f)
    (λ f. plain_front 47 (c ∷ cs) (slash_plain c cs e f)))

other_plain : (c : ℕ) (cs : List ℕ) → is_letter c ≡ false → is_digit c ≡ false → is_blank c ≡ false → (c == 34) ≡ false → (c == 47) ≡ false → Plain (c ∷ cs)
other_plain c cs l d b q s a ds e parts =
    let same : c ≡ a = cc in
    subst (λ x. form_of (x ∷ ds) ≡ symbol_form (look_up symbols (x ∷ ds)) (x ∷ ds)) same (other_form c l d b q s ds)

pub front_whole : (c : ℕ) (cs : List ℕ) → Front (c ∷ cs) (front_of c cs)
front_whole c cs =
    let symbol_at = symbol_front (first_beginning symbols (c ∷ cs)) in
    let from_slash = if c == 47 then slash_front cs else symbol_at in
    let from_quote = if c == 34 then string_front (string_end false cs) cs else from_slash in
    let from_blank = if is_blank c then (form.Space, 1) else from_quote in
    let from_digit = if is_digit c then (form.Number, 1 + prefix_len is_digit cs) else from_blank in
    by_if (Front (c ∷ cs)) (is_letter c) (form.Word, 1 + prefix_len is_word_byte cs) from_digit
    (λ l. run_front is_word_byte form.Word (c ∷ []) cs (letter_form c l))
    (λ l. by_if (Front (c ∷ cs)) (is_digit c) (form.Number, 1 + prefix_len is_digit cs) from_blank
    (λ d. run_front is_digit form.Number (c ∷ []) cs (digit_form c l d))
    (λ d. by_if (Front (c ∷ cs)) (is_blank c) (form.Space, 1) from_quote
    (λ b. one_front form.Space c cs (blank_form c l d b))
    (λ b. by_if (Front (c ∷ cs)) (c == 34) (string_front (string_end false cs) cs) from_slash
    (λ q. string_front_whole (c ∷ []) cs (quote_form c l d b q) refl)
    (λ q. by_if (Front (c ∷ cs)) (c == 47) (slash_front cs) symbol_at
    (λ s. let same : c ≡ 47 = eqb-true c 47 s in subst (λ x. Front (x ∷ cs) (slash_front cs)) (sym same) (slash_front_whole cs))
    (λ s. plain_front c cs (other_plain c cs l d b q s))))))

-- at the front of a source that isn't empty
pub front_at : (source : List ℕ) (x : Form × ℕ) → 0 < length source → x ≡ front_of (get_or source 0 0) (take (length source - 1) (drop 1 source)) → Front source x
front_at [] x h e = absurd (omega arith)
front_at (c ∷ cs) x h e =
    let all : take (length (c ∷ cs) - 1) cs ≡ cs = take_all (length (c ∷ cs) - 1) cs (omega arith) in
    subst (Front (c ∷ cs)) (sym (e ∙ ap (front_of c) all)) (front_whole c cs)
