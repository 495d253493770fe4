-- How far the lexer has come.
use Rattle.std.proofs.Common.{ℕ, ◌≡◌, ◌≤◌, ◌+◌, true, false, List, [], ◌∷◌, ◌++◌, length, take, drop, Ok, Err, ⊎_elim, append_assoc, refl, sym, ap, subst, ◌∙◌, arith, length-append}
use Rattle.std.specs.Prelude.{◌&&◌, ◌==◌, not}
use Rattle.std.proofs.lemmas.Bool.{le-ltb, eqb-true, cases_Bool}
use Rattle.ss_core.specs.declared.names.Place.{Place}
use Rattle.ss_core.specs.declared.names.FrontStop.{FrontStop}
use Rattle.ss_core.specs.declared.names.FrontStop.TheVariants as stop
use Rattle.ss_ast.specs.Tokens.{Kind, AnEnd, Tok}
use Rattle.ss_lexer.specs.declared.pieces.Form.{Form}
use Rattle.ss_lexer.specs.declared.lexer.Lexer.{Lexer}
use Rattle.ss_lexer.specs.Pieces.{IsFirst, Meaning, Nothing, Means, Breaks, is_minus, after_operand, after_sign, meaning}
use Rattle.ss_lexer.specs.Reading.{Answer, with_token, Reads, at_end, between, token, fault, start, next_place, place_after, without_mark, most_bytes, IsReadAs, Answers}
use Rattle.ss_lexer.specs.Steps.{state, Took}

-- these tokens, and then an answer
abbrev pub joined : List Tok → Answer → Answer
joined ts (Ok us) = Ok (ts ++ us)
joined ts (Err f) = Err f

-- The lexer stands before the rest of a source: whatever the rest is read as, the source is read as that after the lexer's tokens.
pub record Stands (source : List ℕ) (l : Lexer) (rest : List ℕ) : Type 0 where
  pub before : List Kind
  pub operand : l.operand ≡ after_operand before
  pub signed : l.signed ≡ after_sign before
  pub whole : (a : Answer) → Reads l.place before rest a → Reads start [] source (joined (state l).tokens a)
  pub lines : l.place.line + length rest ≤ 1 + length source
  pub columns : l.place.column + length rest ≤ 1 + length source

joined_nil : (a : Answer) → joined [] a ≡ a
joined_nil (Ok us) = refl
joined_nil (Err f) = refl

joined_one : (ts : List Tok) (t : Tok) (a : Answer) → joined ts (with_token t a) ≡ joined (ts ++ t ∷ []) a
joined_one ts t (Ok us) = ap Ok (sym (append_assoc ts (t ∷ []) us))
joined_one ts t (Err f) = refl

-- ---- places

next_lines : (p : Place) (c : ℕ) → (next_place p c).line ≤ p.line + 1
next_lines p c = ⊎_elim (λ e. rw e (omega arith)) (λ e. rw e (omega arith)) (cases_Bool (c == 10))

next_columns : (p : Place) (c : ℕ) → (next_place p c).column ≤ p.column + 1
next_columns p c = ⊎_elim (λ e. rw e (omega arith)) (λ e. rw e (omega arith)) (cases_Bool (c == 10))

pub after_lines : (p : Place) (cs : List ℕ) → (place_after p cs).line ≤ p.line + length cs
after_lines p [] = omega arith
after_lines p (c ∷ cs) = omega (arith, next_lines p c, after_lines (next_place p c) cs)

pub after_columns : (p : Place) (cs : List ℕ) → (place_after p cs).column ≤ p.column + length cs
after_columns p [] = omega arith
after_columns p (c ∷ cs) = omega (arith, next_columns p c, after_columns (next_place p c) cs)

-- ---- a byte order mark

pub mark_len : (bytes : List ℕ) → length (without_mark bytes) ≤ length bytes
mark_len [] = omega arith
mark_len (a ∷ []) = omega arith
mark_len (a ∷ b ∷ []) = omega arith
mark_len (a ∷ b ∷ c ∷ cs) = ⊎_elim (λ e. rw e (omega arith)) (λ e. rw e (omega arith)) (cases_Bool ((a == 239) && (b == 187) && (c == 191)))

-- ---- steps

pub begins : (source : List ℕ) (l : Lexer) (rest : List ℕ) → rest ≡ source → l.place ≡ start → (state l).tokens ≡ [] → l.operand ≡ false → l.signed ≡ false → Stands source l rest
begins source l rest same place tokens operand signed = record {
  before = [];
  operand = operand;
  signed = signed;
  whole = λ a r.
      let at_start : Reads start [] source a = subst (λ p. Reads p [] source a) place (subst (λ s. Reads l.place [] s a) same r) in
      subst (λ ts. Reads start [] source (joined ts a)) (sym tokens) (subst (Reads start [] source) (sym (joined_nil a)) at_start);
  lines = omega (arith, ap (λ p. p.line) place, ap length same);
  columns = omega (arith, ap (λ p. p.column) place, ap length same);
}

module _ (source : List ℕ) (old new : Lexer) (f : Form) (text rest behind : List ℕ) (first : IsFirst rest f text behind) (s : Stands source old rest) where
  -- the piece means the same after the tokens as in the lexer
  means : (m : Meaning) → meaning old.signed f text ≡ m → meaning (after_sign s.before) f text ≡ m
  means m e = ap (λ b. meaning b f text) (sym s.signed) ∙ e

  lengths : length rest ≡ length text + length behind
  lengths = ap length first.parts ∙ length-append text behind

  lines_after : new.place ≡ place_after old.place text → new.place.line + length behind ≤ 1 + length source
  lines_after place = omega (arith, lengths, s.lines, ap (λ p. p.line) place, after_lines old.place text)

  columns_after : new.place ≡ place_after old.place text → new.place.column + length behind ≤ 1 + length source
  columns_after place = omega (arith, lengths, s.columns, ap (λ p. p.column) place, after_columns old.place text)

  step_by : {U : Type 0} (m : Meaning) → meaning old.signed f text ≡ m → (u : U) → Took m text old new (Ok u) → Stands source new behind
  step_by Nothing e u took = record {
    before = s.before;
    operand = ap (λ x. x.operand) took.0 ∙ s.operand;
    signed = ap (λ x. x.signed) took.0 ∙ s.signed;
    whole = λ a r.
        subst (λ x. Reads start [] source (joined x.tokens a)) (sym took.0)
        (s.whole a (between f text behind first (means Nothing e) (subst (λ p. Reads p s.before behind a) took.1 r)));
    lines = lines_after took.1;
    columns = columns_after took.1;
  }
  step_by (Means k) e u took = record {
    before = k ∷ s.before;
    operand = ap (λ x. x.operand) took.0;
    signed = ap (λ x. x.signed) took.0 ∙ ap (λ b. is_minus k && not b) s.operand;
    whole = λ a r.
        let t : Tok = record { kind = k; place = old.place } in
        subst (λ x. Reads start [] source (joined x.tokens a)) (sym took.0)
        (subst (Reads start [] source) (joined_one (state old).tokens t a)
        (s.whole (with_token t a) (token f text behind k first (means (Means k) e) (subst (λ p. Reads p (k ∷ s.before) behind a) took.1 r))));
    lines = lines_after took.1;
    columns = columns_after took.1;
  }
  step_by (Breaks rule n) e u took = absurd took

  pub step : {U : Type 0} (u : U) → Took (meaning old.signed f text) text old new (Ok u) → Stands source new behind
  step u took = step_by (meaning old.signed f text) refl u took

  pub stops : (U : Type 0) (rule : ℕ) (p : Place) → Took {U = U} (meaning old.signed f text) text old new (Err (stop.Refused rule p)) → Reads start [] source (Err (rule, p))
  stops U rule p took =
      let at = s.whole (Err (rule, place_after old.place (take took.0 text))) (fault f text behind rule took.0 first (means (Breaks rule took.0) took.1)) in
      subst (λ q. Reads start [] source (Err (rule, q))) (sym took.2) at

-- at the end
pub ends : (source : List ℕ) (old : Lexer) (rest : List ℕ) (ts : List Tok) → Stands source old rest → rest ≡ [] → ts ≡ (state old).tokens ++ record { kind = AnEnd; place = old.place } ∷ [] → Reads start [] source (Ok ts)
ends source old rest ts s none is =
    let at = s.whole (Ok (record { kind = AnEnd; place = old.place } ∷ [])) (subst (λ r. Reads old.place s.before r (Ok (record { kind = AnEnd; place = old.place } ∷ []))) (sym none) at_end) in
    subst (λ x. Reads start [] source (Ok x)) (sym is) at

pub read_as : (bytes : List ℕ) (a : Answer) → length bytes ≤ most_bytes → Reads start [] (without_mark bytes) a → IsReadAs bytes a
read_as bytes a few r = rw (le-ltb most_bytes (length bytes) few) r

-- the parts that a split makes
pub first_parts : (f : Form) (n : ℕ) (rest text behind : List ℕ) → IsFirst rest f (take n rest) (drop n rest) → text ≡ take n rest → behind ≡ drop n rest → IsFirst rest f text behind
first_parts f n rest text behind first t b = subst (λ x. IsFirst rest f x behind) (sym t) (subst (λ x. IsFirst rest f (take n rest) x) (sym b) first)

pub stops_as : (U : Type 0) (bytes : List ℕ) (old new : Lexer) (f : Form) (text rest behind : List ℕ) (first : IsFirst rest f text behind) (s : Stands (without_mark bytes) old rest) (e : FrontStop) → length bytes ≤ most_bytes → Took {U = U} (meaning old.signed f text) text old new (Err e) → Answers bytes (Err e)
stops_as U bytes old new f text rest behind first s (stop.Refused rule p) few took = read_as bytes (Err (rule, p)) few (stops (without_mark bytes) old new f text rest behind first s U rule p took)
stops_as U bytes old new f text rest behind first s stop.Memory few took = tt

pub nothing_left : (rest : List ℕ) → true ≡ (length rest == 0) → rest ≡ []
nothing_left [] e = refl
nothing_left (c ∷ cs) e = absurd (let none : length (c ∷ cs) ≡ 0 = eqb-true (length (c ∷ cs)) 0 (sym e) in omega arith)
