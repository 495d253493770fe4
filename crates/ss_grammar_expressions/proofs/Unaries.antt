-- Reading unary expressions, chains of operators and whole expressions finds what the grammar says.
use Rattle.std.proofs.Common.{◌≡◌, ℕ, zero, suc, ◌<◌, List, [], ◌∷◌, ◌++◌, Option, Some, None, Bool, true, false, refl, sym, pos, negsuc}
use Rattle.std.proofs.lemmas.List.{append-nil}
use Rattle.ss_core.specs.declared.names.Place.{Place}
use Rattle.ss_ast.specs.declared.token.Word.TheVariants as word
use Rattle.ss_ast.specs.declared.token.Symbol.TheVariants as symbol
use Rattle.ss_ast.specs.Tokens.{AWord, ASymbol, AName, ANumber}
use Rattle.ss_ast.specs.Expressions.{NameTree, IntType, TypeTree, ExprTree, NegateOf, NotOf, CastOf, NumberOf, ParenOf}
use Rattle.ss_grammar.specs.Language.{Done, Take, Bind, Starts}
use Rattle.ss_grammar.specs.Reading.{◌>>=◌, take}
use Rattle.ss_grammar.proofs.Facts.{known}
use Rattle.ss_grammar.proofs.Good.{take_in}
use Rattle.ss_grammar.proofs.Parts.{Pick, pick, to_as, to_same}
use Rattle.ss_grammar_expressions.specs.First.{Choose, Here, choose, here}
use Rattle.ss_grammar_expressions.specs.Heads.{Piece, place_at, is, the, the_least, a_name, TypeHead, type_word, castable, Head, NegateHead, NotHead, OpenHead, Leaf, OldHead, NewHead, QuantifierHead, unary_head, head_opens}
use Rattle.ss_grammar_expressions.specs.Grammar.{Part, TheUnary, TheExpression, TheTypeEnd, TheNamed, TheRange, Enclosed, AType, AnExpr, Value, Parts, type_of, ParenEnd, no_place, Postfixes, New, Old, Quantified, CastEnd, CastOnly, AfterParen, BareEnd, Closed, NameAfter, head_of, named, WordParen, NameParen, OtherParen, Paren, Negated, UnaryAfter, Unary}
use Rattle.ss_grammar_expressions.specs.Parser.{Gets, Inner, opened, paren_end, postfixes, new, old, quantified, cast_end, cast_only, after_paren, bare_end, closed, enclosed, word_paren, name_paren, other_paren, paren, negation, negated, unary_after, unary}
use Rattle.ss_grammar_expressions.proofs.First.{Alive, to_choose, to_only, to_here}
use Rattle.ss_grammar_expressions.proofs.Opening.{to_take_open, to_above, head_alive}
use Rattle.ss_grammar_expressions.proofs.Sets.{code, In, subset, subset_in, disjoint, PartOf, larger, listed, may_be_empty, token, seq}
use Rattle.ss_grammar_expressions.proofs.Levels.{may_open, the_in, of, symbol}
use Rattle.ss_grammar_expressions.proofs.Pieces.{castables, unary_first, postfix_set, unary_goes, expr_goes, unary_in, castable_in, least_in, castable_known, name_in, word_type_in}
use Rattle.ss_grammar_expressions.proofs.Expressions.{inner_parts, inner_readers, paren_end_to, postfixes_to, old_to, new_to, quantified_to}

abbrev pub number_piece : Piece
number_piece = of (ANumber 0)

abbrev pub type_set : List ℕ
type_set = 17 ∷ 31 ∷ []

-- what may stand after `(` and a name, and what goes on with it
abbrev pub named_set : List ℕ
named_set = 31 ∷ expr_goes

module _ (n : ℕ) (U : (i : Part) → ℕ → List Piece → Value i → Type 0) (u : (i : Part) → ℕ → Gets (Value i)) (un : PartOf n (U TheUnary) unary_first unary_goes false (u TheUnary)) (un_starts : Starts (U TheUnary 0) (number_piece ∷ [])) (un_alive : 0 < n → (t : Piece) → castable t ≡ true → Alive (U TheUnary) t) (inner : PartOf n (U TheExpression) unary_first expr_goes false (u TheExpression)) (type_part : (t : TypeHead) → PartOf n (U (TheTypeEnd t)) type_set type_set true (u (TheTypeEnd t))) (named_part : (x : NameTree) → PartOf n (U (TheNamed x)) named_set named_set true (u (TheNamed x))) (range_part : PartOf n (U TheRange) (36 ∷ 15 ∷ []) [] false (u TheRange)) where
  abbrev V : ℕ → Parts
  V d = inner_parts U d

  abbrev w : ℕ → Inner
  w d = inner_readers u d

  abbrev Vi : ℕ → Parts
  Vi d = λ i. U i d

  abbrev wi : ℕ → Inner
  wi d = λ i. u i d

  -- ---- casts and parentheses

  cast_end_to : (p : Place) (t : TypeTree) → PartOf n (λ d. CastEnd (Vi d) p t) unary_first unary_goes false (λ d. cast_end (suc d) (wi d) p t)
  unfolding cast_end
  cast_end_to p t = to_as n (U TheUnary) (In unary_first) (In unary_goes) (u TheUnary) (λ e. CastOf p t e) un

  cast_sample : (p : Place) (t : TypeTree) → (x : Piece) × (z : List Piece) × (v : ExprTree) × (castable x ≡ true) × CastEnd (Vi 0) p t (x ∷ z) v
  cast_sample p t = (number_piece, un_starts.more, CastOf p t un_starts.value, refl, record { first = un_starts.value; front = number_piece ∷ un_starts.more; back = []; parts = sym (append-nil (number_piece ∷ un_starts.more)); reads = un_starts.reads; goes_on = (refl, refl) })

  cast_only_to : (p : Place) (t : TypeTree) → PartOf n (λ d. CastOnly (Vi d) p t) castables unary_goes false (λ d. cast_only (suc d) (wi d) p t)
  unfolding cast_only
  cast_only_to p t = to_only n castable (λ d. CastEnd (Vi d) p t) (In unary_first) (In unary_goes) (λ d. cast_end (suc d) (wi d) p t) (cast_end_to p t) (In castables) castable_in (cast_sample p t)

  postfixes_in : (p : Place) (a : ExprTree) → PartOf n (λ d. Postfixes true (Vi d) p a) postfix_set postfix_set true (λ d. postfixes (suc d) (wi d) p a)
  postfixes_in p a = to_above n (λ d. Postfixes (may_open d) (V d) p a) (In postfix_set) (In postfix_set) true (λ d. postfixes d (w d) p a) (postfixes_to n U u inner range_part p a)

  after_paren_to : (p : Place) (e : ExprTree) → PartOf n (λ d. AfterParen (Vi d) p e) unary_goes unary_goes true (λ d. after_paren (suc d) (wi d) p e)
  after_paren_to p e = larger n (λ d. AfterParen (Vi d) p e) postfix_set postfix_set unary_goes unary_goes true (λ d. after_paren (suc d) (wi d) p e) refl refl (postfixes_in p (ParenOf p e))

  cast_alive : (p : Place) (t : TypeTree) → 0 < n → (x : Piece) → castable x ≡ true → Alive (λ d. CastEnd (Vi d) p t) x
  cast_alive p t lt x h =
      let a = un_alive lt x h in
      (a.0, record { more = a.1.more; value = CastOf p t a.1.value; reads = record { first = a.1.value; front = (x ∷ []) ++ a.1.more; back = []; parts = sym (append-nil ((x ∷ []) ++ a.1.more)); reads = a.1.reads; goes_on = (refl, refl) } })

  bare_end_to : (p : Place) (x : NameTree) → PartOf n (λ d. BareEnd (Vi d) p x) unary_goes unary_goes true (λ d. bare_end (suc d) (wi d) p x)
  unfolding bare_end
  bare_end_to p x =
      let t = type_of (head_of x) false false in
      to_choose n castable (λ d. CastEnd (Vi d) p t) (λ d. AfterParen (Vi d) p (named x)) (In unary_goes) (In unary_goes) true (λ d. cast_end (suc d) (wi d) p t) (λ d. after_paren (suc d) (wi d) p (named x)) (In unary_first) (cast_end_to p t) (λ y h. subset_in (code y) castables unary_goes refl (castable_in y h)) (after_paren_to p (named x)) (λ h y k. k) (λ h lt y k. cast_alive p t lt y k) (cast_sample p t)

  closed_to : (p : Place) (c : Enclosed) → PartOf n (λ d. Closed (Vi d) p c) unary_goes unary_goes true (λ d. closed (suc d) (wi d) p c)
  unfolding closed
  closed_to p (AType t) = larger n (λ d. CastOnly (Vi d) p t) castables unary_goes unary_goes unary_goes true (λ d. cast_only (suc d) (wi d) p t) refl refl (may_be_empty n (λ d. CastOnly (Vi d) p t) castables unary_goes false (λ d. cast_only (suc d) (wi d) p t) (cast_only_to p t))
  closed_to p (AnExpr e) = after_paren_to p e

  paren_set : List ℕ
  paren_set = 50 ∷ 51 ∷ 52 ∷ unary_first

  word_paren_to : (p : Place) → PartOf n (λ d. WordParen (Vi d) p) (50 ∷ 51 ∷ 52 ∷ []) unary_goes false (λ d. take type_word (word_paren (suc d) (wi d) p))
  unfolding word_paren
  word_paren_to p = token n type_word (50 ∷ 51 ∷ 52 ∷ []) word_type_in (λ x d. Bind (U (TheTypeEnd x) d) (λ t. Take (the symbol.Close) (λ _. CastOnly (Vi d) p t))) (17 ∷ 31 ∷ 16 ∷ []) unary_goes false (λ x d. word_paren (suc d) (wi d) p x)
      (λ x. seq n true false (U (TheTypeEnd x)) (λ t d. Take (the symbol.Close) (λ _. CastOnly (Vi d) p t)) type_set type_set (16 ∷ []) unary_goes (u (TheTypeEnd x)) (λ t d. take (the symbol.Close) (λ _. cast_only (suc d) (wi d) p t)) (type_part x)
      (λ t. symbol n symbol.Close (λ _ d. CastOnly (Vi d) p t) castables unary_goes false (λ _ d. cast_only (suc d) (wi d) p t) refl (λ _. cast_only_to p t)) refl)
      (of (AWord word.Int)) (record { place = no_place; name = IntType }) refl

  enclosed_to : (p : Place) (x : NameTree) → PartOf n (λ d. Bind (U (TheNamed x) d) (λ c. Take (the symbol.Close) (λ _. Closed (Vi d) p c))) (named_set ++ 16 ∷ []) unary_goes false (λ d. enclosed (suc d) (wi d) p x)
  unfolding enclosed
  enclosed_to p x = seq n true false (U (TheNamed x)) (λ c d. Take (the symbol.Close) (λ _. Closed (Vi d) p c)) named_set named_set (16 ∷ []) unary_goes (u (TheNamed x)) (λ c d. take (the symbol.Close) (λ _. closed (suc d) (wi d) p c)) (named_part x)
      (λ c. symbol n symbol.Close (λ _ d. Closed (Vi d) p c) unary_goes unary_goes true (λ _ d. closed (suc d) (wi d) p c) refl (λ _. closed_to p c)) refl

  bare_to : (p : Place) (x : NameTree) → PartOf n (λ d. Take (the symbol.Close) (λ _. BareEnd (Vi d) p x)) (16 ∷ []) unary_goes false (λ d. take (the symbol.Close) (λ _. bare_end (suc d) (wi d) p x))
  bare_to p x = symbol n symbol.Close (λ _ d. BareEnd (Vi d) p x) unary_goes unary_goes true (λ _ d. bare_end (suc d) (wi d) p x) refl (λ _. bare_end_to p x)

  bare_sample : (p : Place) (x : NameTree) → (y : Piece) × (z : List Piece) × (v : ExprTree) × (is (the symbol.Close) y ≡ true) × Take (the symbol.Close) (λ _. BareEnd (Vi 0) p x) (y ∷ z) v
  unfolding cast_sample
  bare_sample p x = let s = cast_sample p (type_of (head_of x) false false) in (of (ASymbol symbol.Close), s.0 ∷ s.1, s.2, refl, s.4)

  name_after_to : (p : Place) (x : NameTree) → PartOf n (λ d. NameAfter (Vi d) p x) (named_set ++ 16 ∷ []) unary_goes false (λ d. name_paren (suc d) (wi d) p x)
  unfolding name_paren
  name_after_to p x = to_choose n (is (the symbol.Close)) (λ d. Take (the symbol.Close) (λ _. BareEnd (Vi d) p x)) (λ d. Bind (U (TheNamed x) d) (λ c. Take (the symbol.Close) (λ _. Closed (Vi d) p c))) (In (named_set ++ 16 ∷ [])) (In unary_goes) false (λ d. take (the symbol.Close) (λ _. bare_end (suc d) (wi d) p x)) (λ d. enclosed (suc d) (wi d) p x) (In (16 ∷ [])) (bare_to p x) (λ y h. subset_in (code y) (16 ∷ []) (named_set ++ 16 ∷ []) refl (the_in symbol.Close y h)) (enclosed_to p x) (λ h. absurd cc) (λ h. absurd cc) (bare_sample p x)

  name_paren_to : (p : Place) → PartOf n (λ d. NameParen (Vi d) p) (32 ∷ []) unary_goes false (λ d. take a_name (name_paren (suc d) (wi d) p))
  name_paren_to p = token n a_name (32 ∷ []) name_in (λ x d. NameAfter (Vi d) p x) (named_set ++ 16 ∷ []) unary_goes false (λ x d. name_paren (suc d) (wi d) p x) (name_after_to p) (of (AName [])) (record { text = []; place = no_place }) refl

  other_paren_to : (p : Place) → PartOf n (λ d. OtherParen (Vi d) p) unary_first unary_goes false (λ d. other_paren (suc d) (wi d) p)
  unfolding other_paren
  other_paren_to p = seq n false true (λ d. ParenEnd (U TheExpression d)) (λ e d. AfterParen (Vi d) p e) unary_first [] unary_goes unary_goes (λ d. paren_end (u TheExpression d)) (λ e d. after_paren (suc d) (wi d) p e) (paren_end_to n (U TheExpression) (u TheExpression) inner) (after_paren_to p) refl

  name_sample : (p : Place) → (y : Piece) × (z : List Piece) × (v : ExprTree) × (is a_name y ≡ true) × NameParen (Vi 0) p (y ∷ z) v
  unfolding bare_sample cast_sample
  name_sample p = let s = bare_sample p (record { text = []; place = no_place }) in (of (AName []), s.0 ∷ s.1, s.2, refl, s.4)

  name_or_other_to : (p : Place) → PartOf n (λ d. Choose (is a_name) (NameParen (Vi d) p) (OtherParen (Vi d) p)) unary_first unary_goes false (λ d. choose (is a_name) (take a_name (name_paren (suc d) (wi d) p)) (other_paren (suc d) (wi d) p))
  name_or_other_to p = to_choose n (is a_name) (λ d. NameParen (Vi d) p) (λ d. OtherParen (Vi d) p) (In unary_first) (In unary_goes) false (λ d. take a_name (name_paren (suc d) (wi d) p)) (λ d. other_paren (suc d) (wi d) p) (In (32 ∷ [])) (name_paren_to p) (λ y h. subset_in (code y) (32 ∷ []) unary_first refl (name_in y h)) (other_paren_to p) (λ h. absurd cc) (λ h. absurd cc) (name_sample p)

  -- a list of a part that may be empty, at the lowest level
  type_some : (x : TypeHead) → Starts (U (TheTypeEnd x) 0) []
  type_some x = (type_part x).good.some

  word_sample : (p : Place) → (y : Piece) × (z : List Piece) × (v : ExprTree) × (is type_word y ≡ true) × WordParen (Vi 0) p (y ∷ z) v
  unfolding cast_sample
  word_sample p =
      let x : TypeHead = record { place = no_place; name = IntType } in
      let s = cast_sample p (type_some x).value in (
        of (AWord word.Int),
        (type_some x).more ++ (of (ASymbol symbol.Close) ∷ s.0 ∷ s.1),
        s.2,
        refl,
        record { first = (type_some x).value; front = (type_some x).more; back = of (ASymbol symbol.Close) ∷ s.0 ∷ s.1; parts = refl; reads = (type_some x).reads; goes_on = s.4 },
      )

  paren_to : (p : Place) → PartOf n (λ d. Paren (Vi d) p) (50 ∷ 51 ∷ 52 ∷ unary_first) unary_goes false (λ d. paren (suc d) (wi d) p)
  unfolding paren
  paren_to p = to_choose n (is type_word) (λ d. WordParen (Vi d) p) (λ d. Choose (is a_name) (NameParen (Vi d) p) (OtherParen (Vi d) p)) (In (50 ∷ 51 ∷ 52 ∷ unary_first)) (In unary_goes) false (λ d. take type_word (word_paren (suc d) (wi d) p)) (λ d. choose (is a_name) (take a_name (name_paren (suc d) (wi d) p)) (other_paren (suc d) (wi d) p)) (In (50 ∷ 51 ∷ 52 ∷ [])) (word_paren_to p) (λ y h. subset_in (code y) (50 ∷ 51 ∷ 52 ∷ []) (50 ∷ 51 ∷ 52 ∷ unary_first) refl (word_type_in y h))
      (larger n (λ d. Choose (is a_name) (NameParen (Vi d) p) (OtherParen (Vi d) p)) unary_first unary_goes (50 ∷ 51 ∷ 52 ∷ unary_first) unary_goes false (λ d. choose (is a_name) (take a_name (name_paren (suc d) (wi d) p)) (other_paren (suc d) (wi d) p)) refl refl (name_or_other_to p)) (λ h. absurd cc) (λ h. absurd cc) (word_sample p)

  -- ---- `-` and `!`

  abbrev least_literal : Place → ExprTree
  least_literal p = NumberOf p (negsuc 2147483647)

  least_to : (p : Place) → PartOf n (λ d. Take the_least (λ _. Postfixes true (Vi d) p (least_literal p))) (33 ∷ []) postfix_set false (λ d. take the_least (λ _. postfixes (suc d) (wi d) p (least_literal p)))
  least_to p = token n the_least (33 ∷ []) least_in (λ _ d. Postfixes true (Vi d) p (least_literal p)) postfix_set postfix_set true (λ _ d. postfixes (suc d) (wi d) p (least_literal p)) (λ _. postfixes_in p (least_literal p)) (of (ANumber 2147483648)) no_place refl

  negation_to : (p : Place) → PartOf n (λ d. Bind (U TheUnary d) (λ e. Done (NegateOf p e))) unary_first unary_goes false (λ d. negation (suc d) (wi d) p)
  unfolding negation
  negation_to p = to_as n (U TheUnary) (In unary_first) (In unary_goes) (u TheUnary) (λ e. NegateOf p e) un

  negated_to : (p : Place) → PartOf n (λ d. Negated (Vi d) p) unary_first unary_goes false (λ d. negated (suc d) (wi d) p)
  unfolding negated
  negated_to p = to_choose n (is the_least) (λ d. Take the_least (λ _. Postfixes true (Vi d) p (least_literal p))) (λ d. Bind (U TheUnary d) (λ e. Done (NegateOf p e))) (In unary_first) (In unary_goes) false (λ d. take the_least (λ _. postfixes (suc d) (wi d) p (least_literal p))) (λ d. negation (suc d) (wi d) p) (In (33 ∷ []))
      (larger n (λ d. Take the_least (λ _. Postfixes true (Vi d) p (least_literal p))) (33 ∷ []) postfix_set (33 ∷ []) unary_goes false (λ d. take the_least (λ _. postfixes (suc d) (wi d) p (least_literal p))) refl refl (least_to p))
      (λ y h. subset_in (code y) (33 ∷ []) unary_first refl (least_in y h)) (negation_to p) (λ h. absurd cc) (λ h. absurd cc)
      (of (ANumber 2147483648), [], least_literal p, refl, (0, (refl, refl)))

  -- ---- all heads

  abbrev head_part : Head → ℕ → List Piece → ExprTree → Type 0
  head_part (NegateHead p) d = Negated (Vi d) p
  head_part (NotHead p) d = Bind (U TheUnary d) (λ e. Done (NotOf p e))
  head_part (OpenHead p) d = Paren (Vi d) p
  head_part (Leaf p v) d = Postfixes (may_open d) (V d) p v
  head_part (OldHead p) d = Bind (Old (may_open d) (V d) p) (Postfixes (may_open d) (V d) p)
  head_part (NewHead p) d = Bind (New (may_open d) (V d) p) (Postfixes (may_open d) (V d) p)
  head_part (QuantifierHead p q) d = Bind (Quantified (may_open d) (V d) p q) (Postfixes (may_open d) (V d) p)

  abbrev head_reader : Head → ℕ → Gets ExprTree
  head_reader (NegateHead p) d = unary_after (suc d) (wi d) (NegateHead p)
  head_reader (NotHead p) d = unary_after (suc d) (wi d) (NotHead p)
  head_reader (OpenHead p) d = unary_after (suc d) (wi d) (OpenHead p)
  head_reader (Leaf p v) d = unary_after d (w d) (Leaf p v)
  head_reader (OldHead p) d = unary_after d (w d) (OldHead p)
  head_reader (NewHead p) d = unary_after d (w d) (NewHead p)
  head_reader (QuantifierHead p q) d = unary_after d (w d) (QuantifierHead p q)

  abbrev head_first : List ℕ
  head_first = 36 ∷ 13 ∷ 22 ∷ 17 ∷ 50 ∷ 51 ∷ 52 ∷ unary_first

  loose : (L : ℕ → List Piece → ExprTree → Type 0) (f g : List ℕ) (e : Bool) (p : ℕ → Gets ExprTree) → subset f head_first ≡ true → subset g unary_goes ≡ true → PartOf n L f g e p → PartOf n L head_first unary_goes true p
  loose L f g e p a b r = larger n L f g head_first unary_goes true p a b (may_be_empty n L f g e p r)

  loose_above : (L : ℕ → List Piece → ExprTree → Type 0) (f g : List ℕ) (e : Bool) (p : ℕ → Gets ExprTree) → subset f head_first ≡ true → subset g unary_goes ≡ true → PartOf (suc n) L f g e p → PartOf (suc n) L head_first unary_goes true p
  loose_above L f g e p a b r = larger (suc n) L f g head_first unary_goes true p a b (may_be_empty (suc n) L f g e p r)

  open_head : (h : Head) → head_opens h ≡ true → PartOf n (head_part h) head_first unary_goes true (head_reader h)
  unfolding unary_after
  open_head (NegateHead p) e = loose (head_part (NegateHead p)) unary_first unary_goes false (head_reader (NegateHead p)) refl refl (negated_to p)
  open_head (NotHead p) e = loose (head_part (NotHead p)) unary_first unary_goes false (head_reader (NotHead p)) refl refl (to_as n (U TheUnary) (In unary_first) (In unary_goes) (u TheUnary) (λ e. NotOf p e) un)
  open_head (OpenHead p) e = loose (head_part (OpenHead p)) (50 ∷ 51 ∷ 52 ∷ unary_first) unary_goes false (head_reader (OpenHead p)) refl refl (paren_to p)
  open_head (Leaf p v) e = absurd cc
  open_head (OldHead p) e = absurd cc
  open_head (NewHead p) e = absurd cc
  open_head (QuantifierHead p q) e = absurd cc

  leaf_head : (h : Head) → head_opens h ≡ false → PartOf (suc n) (head_part h) head_first unary_goes true (head_reader h)
  unfolding unary_after
  leaf_head (NegateHead p) e = absurd cc
  leaf_head (NotHead p) e = absurd cc
  leaf_head (OpenHead p) e = absurd cc
  leaf_head (Leaf p v) e = loose_above (head_part (Leaf p v)) postfix_set postfix_set true (head_reader (Leaf p v)) refl refl (postfixes_to n U u inner range_part p v)
  leaf_head (OldHead p) e = loose_above (head_part (OldHead p)) (36 ∷ 15 ∷ []) postfix_set false (head_reader (OldHead p)) refl refl
      (seq (suc n) false true (λ d. Old (may_open d) (V d) p) (λ a d. Postfixes (may_open d) (V d) p a) (36 ∷ 15 ∷ []) [] postfix_set postfix_set (λ d. old d (w d) p) (λ a d. postfixes d (w d) p a) (old_to n U u inner range_part p) (postfixes_to n U u inner range_part p) refl)
  leaf_head (NewHead p) e = loose_above (head_part (NewHead p)) (32 ∷ 50 ∷ 51 ∷ 52 ∷ []) postfix_set false (head_reader (NewHead p)) refl refl
      (seq (suc n) false true (λ d. New (may_open d) (V d) p) (λ a d. Postfixes (may_open d) (V d) p a) (32 ∷ 50 ∷ 51 ∷ 52 ∷ []) [] postfix_set postfix_set (λ d. new d (w d) p) (λ a d. postfixes d (w d) p a) (new_to n U u inner range_part p) (postfixes_to n U u inner range_part p) refl)
  leaf_head (QuantifierHead p q) e = loose_above (head_part (QuantifierHead p q)) (36 ∷ 13 ∷ []) postfix_set false (head_reader (QuantifierHead p q)) refl refl
      (seq (suc n) false true (λ d. Quantified (may_open d) (V d) p q) (λ a d. Postfixes (may_open d) (V d) p a) (36 ∷ 13 ∷ []) [] postfix_set postfix_set (λ d. quantified d (w d) p q) (λ a d. postfixes d (w d) p a) (quantified_to n U u inner range_part p q) (postfixes_to n U u inner range_part p) refl)

  head_agree : (d : ℕ) (h : Head) (t : Piece) (ts : List Piece) → pick (head_opens h) d (head_reader h) t ts ≡ opened (head_opens h) d (unary_after d (w d) h) t ts
  head_agree zero (NegateHead p) t ts = refl
  head_agree (suc d) (NegateHead p) t ts = refl
  head_agree zero (NotHead p) t ts = refl
  head_agree (suc d) (NotHead p) t ts = refl
  head_agree zero (OpenHead p) t ts = refl
  head_agree (suc d) (OpenHead p) t ts = refl
  head_agree d (Leaf p v) t ts = refl
  head_agree d (OldHead p) t ts = refl
  head_agree d (NewHead p) t ts = refl
  head_agree d (QuantifierHead p q) t ts = refl

  head_there : (d : ℕ) (h : Head) (ts : List Piece) (v : ExprTree) → Pick (head_opens h) (head_part h) d ts v → UnaryAfter (may_open d) (V d) h ts v
  head_there zero (NegateHead p) ts v q = q
  head_there (suc d) (NegateHead p) ts v q = q
  head_there zero (NotHead p) ts v q = q
  head_there (suc d) (NotHead p) ts v q = q
  head_there zero (OpenHead p) ts v q = q
  head_there (suc d) (OpenHead p) ts v q = q
  head_there d (Leaf p x) ts v q = q
  head_there d (OldHead p) ts v q = q
  head_there d (NewHead p) ts v q = q
  head_there d (QuantifierHead p k) ts v q = q

  head_back : (d : ℕ) (h : Head) (ts : List Piece) (v : ExprTree) → UnaryAfter (may_open d) (V d) h ts v → Pick (head_opens h) (head_part h) d ts v
  head_back zero (NegateHead p) ts v q = q
  head_back (suc d) (NegateHead p) ts v q = q
  head_back zero (NotHead p) ts v q = q
  head_back (suc d) (NotHead p) ts v q = q
  head_back zero (OpenHead p) ts v q = q
  head_back (suc d) (OpenHead p) ts v q = q
  head_back d (Leaf p x) ts v q = q
  head_back d (OldHead p) ts v q = q
  head_back d (NewHead p) ts v q = q
  head_back d (QuantifierHead p k) ts v q = q

  pub unary_to : PartOf (suc n) (λ d. Unary (may_open d) (V d)) unary_first unary_goes false (λ d. unary d (w d))
  unfolding unary
  unary_to = to_same (suc n) (λ d. Take unary_head (λ h. Pick (head_opens h) (head_part h) d)) (λ d. Unary (may_open d) (V d)) (In unary_first) (In unary_goes) false (λ d. unary d (w d))
      (λ d ts v q. take_in unary_head (λ h. Pick (head_opens h) (head_part h) d) (UnaryAfter (may_open d) (V d)) (head_there d) ts v q)
      (λ d ts v q. take_in unary_head (UnaryAfter (may_open d) (V d)) (λ h. Pick (head_opens h) (head_part h) d) (head_back d) ts v q)
      (listed (suc n) (λ d. Take unary_head (λ h. Pick (head_opens h) (head_part h) d)) (λ t. known (unary_head t)) (In unary_goes) unary_first unary_goes false (λ d. unary d (w d)) unary_in (λ t h. h)
      (to_take_open n unary_head head_opens head_part head_reader (In head_first) (In unary_goes) true open_head leaf_head (λ d x. opened (head_opens x.0) d (unary_after d (w d) x.0) x.1) head_agree (record { more = number_piece ∷ []; value = NumberOf no_place (pos 0); reads = (0, (refl, refl)) })))

  pub unary_starts : Starts (Unary (may_open 0) (V 0)) (number_piece ∷ [])
  unary_starts = record { more = []; value = NumberOf no_place (pos 0); reads = (0, (refl, refl)) }

  pub unary_alive : (t : Piece) → castable t ≡ true → Alive (λ d. Unary (may_open d) (V d)) t
  unary_alive t h = at (unary_head t) refl (castable_known t h)
    where
      at : (o : Option Head) → unary_head t ≡ o → known o ≡ true → Alive (λ d. Unary (may_open d) (V d)) t
      at None e k = absurd cc
      at (Some b) e k =
          let a = head_alive n unary_head head_opens head_part head_reader (In head_first) (In unary_goes) true open_head leaf_head t b e in
          (a.0, record { more = a.1.more; value = a.1.value; reads = take_in unary_head (λ h. Pick (head_opens h) (head_part h) a.0) (UnaryAfter (may_open a.0) (V a.0)) (head_there a.0) ((t ∷ []) ++ a.1.more) a.1.value a.1.reads })

-- ---- chains of operators, where X is a unary expression

module _ (n : ℕ) (X : ℕ → List Piece → ExprTree → Type 0) (x : ℕ → Gets ExprTree) (r : PartOf n X unary_first unary_goes false x) (sample : (z : List Piece) × (v : ExprTree) × X 0 (number_piece ∷ z) v) where
  -- an operand whose first unary expression is followed by what C reads
  pub from_unary : (e : Bool) (C : Place → ExprTree → ℕ → List Piece → ExprTree → Type 0) (c : Place → ExprTree → ℕ → Gets ExprTree) (f g : List ℕ) → disjoint unary_goes f ≡ true → ((p : Place) (a : ExprTree) → PartOf n (C p a) f g true (c p a)) → ((p : Place) (a : ExprTree) → C p a 0 [] a) → PartOf n (λ d. Here place_at (λ p. Bind (X d) (λ a. C p a d))) unary_first (g ++ unary_goes) false (λ d. here place_at (λ p ts. x d ts >>= λ a. c p a.0 d a.1))
  from_unary e C c f g s each nil = to_here n place_at (λ p d. Bind (X d) (λ a. C p a d)) (In unary_first) (In (g ++ unary_goes)) (λ p d ts. x d ts >>= λ a. c p a.0 d a.1)
      (λ p. seq n false true X (λ a d. C p a d) unary_first unary_goes f g x (λ a d. c p a d) r (each p) s)
      (number_piece, sample.0, sample.1, record { first = sample.1; front = number_piece ∷ sample.0; back = []; parts = sym (append-nil (number_piece ∷ sample.0)); reads = sample.2; goes_on = nil no_place sample.1 })
