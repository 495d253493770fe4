-- All parts of expressions, tied together.
use Rattle.std.proofs.Common.{◌≡◌, ℕ, zero, suc, List, [], ◌∷◌, ◌++◌, Option, Some, None, Ok, true, false, refl, pos}
use Rattle.ss_core.specs.declared.names.Place.{Place}
use Rattle.ss_ast.specs.declared.token.Symbol.TheVariants as symbol
use Rattle.ss_ast.specs.Tokens.{ASymbol}
use Rattle.ss_ast.specs.Expressions.{NameTree, ExprTree, ElementOf, NumberOf}
use Rattle.ss_grammar.specs.Language.{Done, Take, Bind}
use Rattle.ss_grammar.specs.Reading.{◌>>=◌, take}
use Rattle.ss_grammar.proofs.Facts.{known}
use Rattle.ss_grammar.proofs.Good.{take_in}
use Rattle.ss_grammar.proofs.Parts.{Pick, pick, to_same}
use Rattle.ss_grammar_expressions.specs.First.{tokened}
use Rattle.ss_grammar_expressions.specs.Heads.{Piece, is, the, NamedHead, BangAfter, BracketAfter, named_head, named_opens}
use Rattle.ss_grammar_expressions.specs.Grammar.{Part, TheImplication, TheExpression, TheRange, Enclosed, AType, AnExpr, Value, Parts, BangEnd, type_of, IndexEnd, head_of, named, no_place, Postfixes, Unary, ExpressionFrom, RestOf, ElementOrArray, NamedAfter, Named}
use Rattle.ss_grammar_expressions.specs.Parser.{Gets, Inner, give, opened, bang_end, index_end, postfixes, unary, expression_from, rest_of, array_end, element_end, element_or_array, named_after, named_rest, named_end}
use Rattle.ss_grammar_expressions.proofs.First.{Alive, to_choose}
use Rattle.ss_grammar_expressions.proofs.Opening.{to_take_open, to_above, head_alive}
use Rattle.ss_grammar_expressions.proofs.Sets.{code, In, subset_in, PartOf, larger, listed, done, may_be_empty, seq}
use Rattle.ss_grammar_expressions.proofs.Levels.{may_open, the_in, of, symbol}
use Rattle.ss_grammar_expressions.proofs.Pieces.{unary_first, postfix_set, unary_goes, imp_goes, expr_goes, named_in}
use Rattle.ss_grammar_expressions.proofs.Expressions.{inner_parts, inner_readers, bang_to, index_end_to, postfixes_to}
use Rattle.ss_grammar_expressions.proofs.Unaries.{number_piece, named_set}
use Rattle.ss_grammar_expressions.proofs.Chains.{expression_from_to}

-- ---- after `(` and a name

module _ (n : ℕ) (U : (i : Part) → ℕ → List Piece → Value i → Type 0) (u : (i : Part) → ℕ → Gets (Value i)) (inner : PartOf n (U TheExpression) unary_first expr_goes false (u TheExpression)) (range_part : PartOf n (U TheRange) (36 ∷ 15 ∷ []) [] false (u TheRange)) (imp : PartOf n (U TheImplication) unary_first imp_goes false (u TheImplication)) (un : PartOf (suc n) (λ d. Unary (may_open d) (inner_parts U d)) unary_first unary_goes false (λ d. unary d (inner_readers u d))) where
  abbrev V : ℕ → Parts
  V d = inner_parts U d

  abbrev w : ℕ → Inner
  w d = inner_readers u d

  sample : (z : List Piece) × (v : ExprTree) × Unary (may_open 0) (V 0) (number_piece ∷ z) v
  sample = ([], NumberOf no_place (pos 0), (0, (refl, refl)))

  rest_to : (p : Place) (a : ExprTree) → PartOf (suc n) (λ d. RestOf (may_open d) (V d) p a) expr_goes expr_goes true (λ d. rest_of d (w d) p a)
  unfolding rest_of
  rest_to p a = larger (suc n) (λ d. RestOf (may_open d) (V d) p a) (postfix_set ++ 0 ∷ 1 ∷ 7 ∷ 6 ∷ 2 ∷ 3 ∷ 24 ∷ 4 ∷ 25 ∷ 5 ∷ 59 ∷ 60 ∷ 26 ∷ 27 ∷ 28 ∷ 29 ∷ 30 ∷ []) (expr_goes ++ postfix_set) expr_goes expr_goes true (λ d. rest_of d (w d) p a) refl refl
      (seq (suc n) true true (λ d. Postfixes (may_open d) (V d) p a) (λ b d. ExpressionFrom (may_open d) (V d) p b) postfix_set postfix_set (0 ∷ 1 ∷ 7 ∷ 6 ∷ 2 ∷ 3 ∷ 24 ∷ 4 ∷ 25 ∷ 5 ∷ 59 ∷ 60 ∷ 26 ∷ 27 ∷ 28 ∷ 29 ∷ 30 ∷ []) expr_goes (λ d. postfixes d (w d) p a) (λ b d. expression_from d (w d) p b) (postfixes_to n U u inner range_part p a) (λ b. expression_from_to n U u un sample imp p b) refl)

  rest_above : (p : Place) (a : ExprTree) → PartOf n (λ d. RestOf true (λ i. U i d) p a) expr_goes expr_goes true (λ d. rest_of (suc d) (λ i. u i d) p a)
  rest_above p a = to_above n (λ d. RestOf (may_open d) (V d) p a) (In expr_goes) (In expr_goes) true (λ d. rest_of d (w d) p a) (rest_to p a)

  array_to : (x : NameTree) → PartOf n (λ d. Take (the symbol.CloseBracket) (λ _. Bind BangEnd (λ s. Done (AType (type_of (head_of x) true s))))) (18 ∷ []) (31 ∷ []) false (λ d. array_end (suc d) (λ i. u i d) x)
  unfolding array_end
  array_to x = symbol n symbol.CloseBracket (λ _ d. Bind BangEnd (λ s. Done (AType (type_of (head_of x) true s)))) (31 ∷ []) (31 ∷ []) true (λ _ d ts. bang_end ts >>= λ s. Ok (AType (type_of (head_of x) true s.0), s.1)) refl
      (λ _. seq n true true (λ d. BangEnd) (λ s d. Done (AType (type_of (head_of x) true s))) (31 ∷ []) (31 ∷ []) [] [] (λ d. bang_end) (λ s d. give (AType (type_of (head_of x) true s))) (bang_to n) (λ s. done n (AType (type_of (head_of x) true s))) refl)

  element_to : (x : NameTree) → PartOf n (λ d. Bind (IndexEnd (U TheExpression d)) (λ i. Bind (RestOf true (λ i. U i d) x.place (ElementOf x.place (named x) i)) (λ e. Done (AnExpr e)))) unary_first expr_goes false (λ d. element_end (suc d) (λ i. u i d) x)
  unfolding element_end
  element_to x = seq n false true (λ d. IndexEnd (U TheExpression d)) (λ i d. Bind (RestOf true (λ i. U i d) x.place (ElementOf x.place (named x) i)) (λ e. Done (AnExpr e))) unary_first [] expr_goes expr_goes (λ d. index_end (u TheExpression d)) (λ i d ts. rest_of (suc d) (λ i. u i d) x.place (ElementOf x.place (named x) i) ts >>= λ e. Ok (AnExpr e.0, e.1)) (index_end_to n (U TheExpression) (u TheExpression) inner)
      (λ i. seq n true true (λ d. RestOf true (λ i. U i d) x.place (ElementOf x.place (named x) i)) (λ e d. Done (AnExpr e)) expr_goes expr_goes [] [] (λ d. rest_of (suc d) (λ i. u i d) x.place (ElementOf x.place (named x) i)) (λ e d. give (AnExpr e)) (rest_above x.place (ElementOf x.place (named x) i)) (λ e. done n (AnExpr e)) refl) refl

  element_or_array_to : (x : NameTree) → PartOf n (λ d. ElementOrArray true (λ i. U i d) x) (18 ∷ unary_first) named_set false (λ d. element_or_array (suc d) (λ i. u i d) x)
  unfolding element_or_array
  element_or_array_to x = to_choose n (is (the symbol.CloseBracket)) (λ d. Take (the symbol.CloseBracket) (λ _. Bind BangEnd (λ s. Done (AType (type_of (head_of x) true s))))) (λ d. Bind (IndexEnd (U TheExpression d)) (λ i. Bind (RestOf true (λ i. U i d) x.place (ElementOf x.place (named x) i)) (λ e. Done (AnExpr e)))) (In (18 ∷ unary_first)) (In named_set) false (λ d. array_end (suc d) (λ i. u i d) x) (λ d. element_end (suc d) (λ i. u i d) x) (In (18 ∷ []))
      (larger n (λ d. Take (the symbol.CloseBracket) (λ _. Bind BangEnd (λ s. Done (AType (type_of (head_of x) true s))))) (18 ∷ []) (31 ∷ []) (18 ∷ []) named_set false (λ d. array_end (suc d) (λ i. u i d) x) refl refl (array_to x))
      (λ t h. subset_in (code t) (18 ∷ []) (18 ∷ unary_first) refl (the_in symbol.CloseBracket t h))
      (larger n (λ d. Bind (IndexEnd (U TheExpression d)) (λ i. Bind (RestOf true (λ i. U i d) x.place (ElementOf x.place (named x) i)) (λ e. Done (AnExpr e)))) unary_first expr_goes (18 ∷ unary_first) named_set false (λ d. element_end (suc d) (λ i. u i d) x) refl refl (element_to x))
      (λ h. absurd cc) (λ h. absurd cc)
      (of (ASymbol symbol.CloseBracket), [], AType (type_of (head_of x) true false), refl, record { first = false; front = []; back = []; parts = refl; reads = refl; goes_on = (refl, refl) })

  abbrev named_part : NameTree → NamedHead → ℕ → List Piece → Enclosed → Type 0
  named_part x BangAfter d = Done (AType (type_of (head_of x) false true))
  named_part x BracketAfter d = ElementOrArray true (λ i. U i d) x

  abbrev named_reader : NameTree → NamedHead → ℕ → Gets Enclosed
  named_reader x h d = named_after (suc d) (λ i. u i d) x h

  abbrev named_first : List ℕ
  named_first = 18 ∷ unary_first

  named_open : (x : NameTree) (h : NamedHead) → named_opens h ≡ true → PartOf n (named_part x h) named_first named_set true (named_reader x h)
  unfolding named_after
  named_open x BangAfter e = absurd cc
  named_open x BracketAfter e = may_be_empty n (named_part x BracketAfter) named_first named_set false (named_reader x BracketAfter) (element_or_array_to x)

  named_leaf : (x : NameTree) (h : NamedHead) → named_opens h ≡ false → PartOf (suc n) (named_part x h) named_first named_set true (named_reader x h)
  unfolding named_after
  named_leaf x BangAfter e = larger (suc n) (named_part x BangAfter) [] [] named_first named_set true (named_reader x BangAfter) refl refl (done (suc n) (AType (type_of (head_of x) false true)))
  named_leaf x BracketAfter e = absurd cc

  named_agree : (x : NameTree) (d : ℕ) (h : NamedHead) (t : Piece) (ts : List Piece) → pick (named_opens h) d (named_reader x h) t ts ≡ opened (named_opens h) d (named_after d (w d) x h) t ts
  unfolding named_after
  named_agree x zero BangAfter t ts = refl
  named_agree x (suc d) BangAfter t ts = refl
  named_agree x zero BracketAfter t ts = refl
  named_agree x (suc d) BracketAfter t ts = refl

  named_there : (x : NameTree) (d : ℕ) (h : NamedHead) (ts : List Piece) (v : Enclosed) → Pick (named_opens h) (named_part x h) d ts v → NamedAfter (may_open d) (V d) x h ts v
  named_there x zero BangAfter ts v q = q
  named_there x (suc d) BangAfter ts v q = q
  named_there x zero BracketAfter ts v q = q
  named_there x (suc d) BracketAfter ts v q = q

  named_back : (x : NameTree) (d : ℕ) (h : NamedHead) (ts : List Piece) (v : Enclosed) → NamedAfter (may_open d) (V d) x h ts v → Pick (named_opens h) (named_part x h) d ts v
  named_back x zero BangAfter ts v q = q
  named_back x (suc d) BangAfter ts v q = q
  named_back x zero BracketAfter ts v q = q
  named_back x (suc d) BracketAfter ts v q = q

  abbrev Headed : NameTree → ℕ → List Piece → Enclosed → Type 0
  Headed x d = Take named_head (NamedAfter (may_open d) (V d) x)

  abbrev headed : NameTree → ℕ → Gets Enclosed
  headed x d = take (tokened named_head) (λ y. opened (named_opens y.0) d (named_after d (w d) x y.0) y.1)

  headed_to : (x : NameTree) → PartOf (suc n) (Headed x) (31 ∷ 17 ∷ []) named_set false (headed x)
  headed_to x = to_same (suc n) (λ d. Take named_head (λ h. Pick (named_opens h) (named_part x h) d)) (Headed x) (In (31 ∷ 17 ∷ [])) (In named_set) false (headed x)
      (λ d ts v q. take_in named_head (λ h. Pick (named_opens h) (named_part x h) d) (NamedAfter (may_open d) (V d) x) (named_there x d) ts v q)
      (λ d ts v q. take_in named_head (NamedAfter (may_open d) (V d) x) (λ h. Pick (named_opens h) (named_part x h) d) (named_back x d) ts v q)
      (listed (suc n) (λ d. Take named_head (λ h. Pick (named_opens h) (named_part x h) d)) (λ t. known (named_head t)) (In named_set) (31 ∷ 17 ∷ []) named_set false (headed x) named_in (λ t h. h)
      (to_take_open n named_head named_opens (named_part x) (named_reader x) (In named_first) (In named_set) true (named_open x) (named_leaf x) (λ d y. opened (named_opens y.0) d (named_after d (w d) x y.0) y.1) (named_agree x) (record { more = of (ASymbol symbol.Bang) ∷ []; value = AType (type_of (head_of x) false true); reads = (refl, refl) })))

  headed_alive : (x : NameTree) (t : Piece) → is named_head t ≡ true → Alive (Headed x) t
  headed_alive x t h = at (named_head t) refl h
    where
      at : (o : Option NamedHead) → named_head t ≡ o → known o ≡ true → Alive (Headed x) t
      at None e k = absurd cc
      at (Some b) e k =
          let a = head_alive n named_head named_opens (named_part x) (named_reader x) (In named_first) (In named_set) true (named_open x) (named_leaf x) t b e in
          (a.0, record { more = a.1.more; value = a.1.value; reads = take_in named_head (λ h. Pick (named_opens h) (named_part x h) a.0) (NamedAfter (may_open a.0) (V a.0) x) (named_there x a.0) ((t ∷ []) ++ a.1.more) a.1.value a.1.reads })

  named_rest_to : (x : NameTree) → PartOf (suc n) (λ d. Bind (RestOf (may_open d) (V d) x.place (named x)) (λ e. Done (AnExpr e))) named_set named_set true (λ d. named_rest d (w d) x)
  unfolding named_rest
  named_rest_to x = larger (suc n) (λ d. Bind (RestOf (may_open d) (V d) x.place (named x)) (λ e. Done (AnExpr e))) expr_goes expr_goes named_set named_set true (λ d. named_rest d (w d) x) refl refl
      (seq (suc n) true true (λ d. RestOf (may_open d) (V d) x.place (named x)) (λ e d. Done (AnExpr e)) expr_goes expr_goes [] [] (λ d. rest_of d (w d) x.place (named x)) (λ e d. give (AnExpr e)) (rest_to x.place (named x)) (λ e. done (suc n) (AnExpr e)) refl)

  pub named_to : (x : NameTree) → PartOf (suc n) (λ d. Named (may_open d) (V d) x) named_set named_set true (λ d. named_end d (w d) x)
  unfolding named_end
  named_to x = to_choose (suc n) (is named_head) (Headed x) (λ d. Bind (RestOf (may_open d) (V d) x.place (named x)) (λ e. Done (AnExpr e))) (In named_set) (In named_set) true (headed x) (λ d. named_rest d (w d) x) (In (31 ∷ 17 ∷ [])) (headed_to x) (λ t h. subset_in (code t) (31 ∷ 17 ∷ []) named_set refl (named_in t h)) (named_rest_to x) (λ h t k. k) (λ h lt t k. headed_alive x t k)
      (of (ASymbol symbol.Bang), [], AType (type_of (head_of x) false true), refl, (refl, refl))
