-- What is left of the tokens, by how many there are.
use Rattle.std.proofs.Common.{◌≡◌, ℕ, zero, suc, ◌+◌, ◌-◌, ◌<◌, ◌≤◌, List, [], ◌∷◌, ◌++◌, length, drop, Result, Ok, Err, true, false, refl, sym, ap, subst, ◌∙◌, arith, append-nil, length-append, length-drop, inl, inr}
use Rattle.ss_ast.specs.declared.token.Token.{Token}
use Rattle.ss_ast.specs.declared.token.TokenKind.{TokenKind}
use Rattle.ss_ast.specs.declared.token.TokenKind.TheVariants as kind
use Rattle.ss_ast.specs.Tokens.{tok, kind_of}
use Rattle.ss_core.specs.declared.names.FrontStop.TheVariants as front
use Rattle.ss_grammar.specs.declared.fault.Fault.{Fault}
use Rattle.ss_grammar.specs.declared.fault.Fault.TheVariants.{Expected, TooDeep}
use Rattle.ss_grammar.specs.declared.fault.Stop.TheVariants as stop
use Rattle.ss_grammar.specs.Language.{Accepts, Finds}
use Rattle.ss_grammar.specs.Stops.{Fails}
use Rattle.ss_grammar_expressions.specs.Heads.{Piece, AToken, pieces}
use Rattle.ss_grammar_expressions.specs.Ends.{is_end, is_end_kind, TakesNoEnd}
use Rattle.ss_grammar_expressions.specs.Parser.{Gets}
use Rattle.ss_core.specs.Rules.{rule_number}
use Rattle.ss_parser_expressions.specs.Answer.{first_place, PartAnswer, EndsText, rule_of}
use Rattle.ss_parser_expressions.proofs.Loops.{pieces_length}

drop_front : {T : Type 0} (f ys : List T) → drop (length f) (f ++ ys) ≡ ys
drop_front [] ys = refl
drop_front (x ∷ f) ys = drop_front f ys

drop_pieces : (n : ℕ) (ts : List Token) → pieces (drop n ts) ≡ drop n (pieces ts)
drop_pieces zero ts = refl
drop_pieces (suc n) [] = refl
drop_pieces (suc n) (t ∷ ts) = drop_pieces n ts

drop_nil : {T : Type 0} (n : ℕ) → drop {A = T} n [] ≡ []
drop_nil zero = refl
drop_nil (suc n) = refl

drop_more : {T : Type 0} (n m : ℕ) (ts : List T) → drop m (drop n ts) ≡ drop (n + m) ts
drop_more zero m ts = let e : m ≡ zero + m = omega arith in ap (λ k. drop k ts) e
drop_more (suc n) m [] = drop_nil m ∙ sym (drop_nil (suc n + m))
drop_more (suc n) m (t ∷ ts) = let e : suc (n + m) ≡ suc n + m = omega arith in drop_more n m ts ∙ ap (λ k. drop k (t ∷ ts)) e

pub behind_is : (tokens : List Token) (at : ℕ) (front rest : List Piece) → at ≤ length tokens → pieces (drop at tokens) ≡ front ++ rest → rest ≡ pieces (drop (length tokens - length rest) tokens)
behind_is tokens at front rest le e =
    let l : length (pieces (drop at tokens)) ≡ length (front ++ rest) = ap length e in
    let n : at + length front ≡ length tokens - length rest = omega (arith, l, pieces_length (drop at tokens), length-drop at tokens, length-append front rest) in
    sym (drop_front front rest) ∙ ap (λ y. drop (length front) y) (sym e) ∙ sym (drop_pieces (length front) (drop at tokens)) ∙ ap pieces (drop_more at (length front) tokens) ∙ ap (λ k. pieces (drop k tokens)) n

-- ---- where the tokens end with the end of the text, and a part does not take it, a token is left

last_no_end : (f : List Token) (t : Token) → TakesNoEnd (pieces (f ++ t ∷ [])) → is_end (AToken (tok t)) ≡ false
last_no_end [] t p = p.0
last_no_end (x ∷ f) t p = last_no_end f t p.1

dropped_no_end : (at : ℕ) (f : List Token) (t : Token) → at < length (f ++ t ∷ []) → TakesNoEnd (pieces (drop at (f ++ t ∷ []))) → is_end (AToken (tok t)) ≡ false
dropped_no_end zero f t lt p = last_no_end f t p
dropped_no_end (suc n) [] t lt p = absurd (omega (arith, lt))
dropped_no_end (suc n) (x ∷ f) t lt p = dropped_no_end n f t (omega (arith, lt)) p

left_over : (tokens : List Token) (at : ℕ) (front rest : List Piece) → at < length tokens → EndsText tokens → pieces (drop at tokens) ≡ front ++ rest → TakesNoEnd front → 0 < length rest
left_over tokens at front (t ∷ rest) lt ends e kept = omega arith
left_over tokens at front [] lt ends e kept =
    let all : TakesNoEnd (pieces (drop at tokens)) = subst TakesNoEnd (sym (e ∙ append-nil front)) kept in
    let lt2 : at < length (ends.front ++ ends.last ∷ []) = subst (λ (y : List Token). at < length y) ends.parts lt in
    let f = dropped_no_end at ends.front ends.last lt2 (subst (λ (y : List Token). TakesNoEnd (pieces (drop at y))) ends.parts all) in
    absurd (let g : true ≡ false = ap (λ (k : TokenKind). is_end_kind (kind_of k)) (sym ends.is_end) ∙ f in cc)

-- reading a part of a program, where reading is its grammar L
module _ {X A : Type 0} (L : ℕ → List Piece → A → Type 0) (view : X → A) (read : Gets A) (tokens : List Token) (at : ℕ) (le : at < length tokens) (finds : Finds L 64 (pieces (drop at tokens)) (read (pieces (drop at tokens)))) where
  abbrev ts : List Piece
  ts = pieces (drop at tokens)

  pub found : (e : X) (rest : List Token) → read ts ≡ Ok (view e, pieces rest) → PartAnswer L view tokens at (Ok (e, length tokens - length rest))
  found e rest q =
      let a : Accepts L 64 ts (view e) (pieces rest) = subst (λ r. Finds L 64 ts r) q finds in
      let s : pieces rest ≡ pieces (drop (length tokens - length rest) tokens) = behind_is tokens at a.front (pieces rest) (omega (arith, le)) a.parts ∙ ap (λ k. pieces (drop (length tokens - k) tokens)) (pieces_length rest) in
      subst (λ y. Accepts L 64 ts (view e) y) s a

  -- the number of the token after the part is that of a token
  pub stays : (e : X) (rest : List Token) → read ts ≡ Ok (view e, pieces rest) → ((d : ℕ) (us : List Piece) (v : A) → L d us v → TakesNoEnd us) → EndsText tokens → length tokens - length rest < length tokens
  stays e rest q kept ends =
      let a : Accepts L 64 ts (view e) (pieces rest) = subst (λ r. Finds L 64 ts r) q finds in
      let some : 0 < length (pieces rest) = left_over tokens at a.front (pieces rest) le ends a.parts (kept 64 a.front (view e) a.reads) in
      omega (arith, some, pieces_length rest, le)

  refusal : (f : Fault) (rest : List Piece) → Finds L 64 ts (Err (f, rest)) → PartAnswer L view tokens at (Err (front.Refused (rule_number (rule_of f)) (first_place (pieces (drop (length tokens - length rest) tokens)))))
  refusal Expected rest g = (rest, ap first_place (behind_is tokens at g.front rest (omega (arith, le)) g.parts), inl (refl, g))
  refusal TooDeep rest g = (rest, ap first_place (behind_is tokens at g.front rest (omega (arith, le)) g.parts), inr (refl, g))

  pub faulty : (f : Fault) (n : ℕ) → Fails (stop.Fault f n) (read ts) → PartAnswer L view tokens at (Err (front.Refused (rule_number (rule_of f)) (first_place (pieces (drop (length tokens - n) tokens)))))
  faulty f n g = look (read ts) finds g
    where
      look : (r : Result (A × List Piece) (Fault × List Piece)) → Finds L 64 ts r → Fails (stop.Fault f n) r → PartAnswer L view tokens at (Err (front.Refused (rule_number (rule_of f)) (first_place (pieces (drop (length tokens - n) tokens)))))
      look (Ok x) h q = absurd q
      look (Err e) h q =
          let a = refusal e.0 e.1 h in
          subst (λ (k : ℕ). PartAnswer L view tokens at (Err (front.Refused (rule_number (rule_of f)) (first_place (pieces (drop (length tokens - k) tokens)))))) q.1
          (subst (λ (c : Fault). PartAnswer L view tokens at (Err (front.Refused (rule_number (rule_of c)) (first_place (pieces (drop (length tokens - length e.1) tokens)))))) q.0 a)
