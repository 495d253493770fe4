-- Reading declarations finds what the grammar says.
use Rattle.std.proofs.Common.{ℕ, suc, List, [], ◌∷◌, ◌++◌, length, Some, None, Ok, true, false, refl}
use Rattle.ss_ast.specs.declared.token.Symbol.TheVariants as symbol
use Rattle.ss_ast.specs.Expressions.{NameTree, TypeTree}
use Rattle.ss_grammar.specs.Language.{Done, Bind, Many}
use Rattle.ss_grammar.specs.Reading.{◌>>=◌, times}
use Rattle.ss_grammar.proofs.Parts.{to_as}
use Rattle.ss_grammar_expressions.specs.Heads.{Piece, the, TypeHead}
use Rattle.ss_grammar_expressions.specs.Grammar.{Part, Value, Parts, AnyName, TypeEnd, WholeExpression}
use Rattle.ss_grammar_expressions.specs.Parser.{Gets, Inner, name_at, type_end, whole_expression}
use Rattle.ss_grammar_expressions.proofs.Sets.{In, PartOf, larger, seq, many}
use Rattle.ss_grammar_expressions.proofs.Levels.{may_open, the_in}
use Rattle.ss_grammar_expressions.proofs.Pieces.{unary_first, expr_goes}
use Rattle.ss_grammar_expressions.proofs.Expressions.{inner_parts, inner_readers, name_to, type_end_to}
use Rattle.ss_grammar_statements.specs.Grammar.{declared, join_declarator, declares, Initial, DeclsFrom, Decls, Declared}
use Rattle.ss_grammar_statements.specs.Parser.{initial, declarator, decls_from, decls, declaration}
use Rattle.ss_grammar_statements.proofs.Pieces.{decls_goes}
use Rattle.ss_grammar_statements.proofs.Parts.{perhaps}

module _ (n : ℕ) (U : (i : Part) → ℕ → List Piece → Value i → Type 0) (u : (i : Part) → ℕ → Gets (Value i)) (whole : PartOf (suc n) (λ d. WholeExpression (may_open d) (inner_parts U d)) unary_first expr_goes false (λ d. whole_expression d (inner_readers u d))) where
  abbrev V : ℕ → Parts
  V d = inner_parts U d

  abbrev w : ℕ → Inner
  w d = inner_readers u d

  pub initial_to : (x : NameTree) → PartOf (suc n) (λ d. Initial (may_open d) (V d) x) (23 ∷ []) (23 ∷ expr_goes) true (λ d. initial d (w d) x)
  unfolding initial
  initial_to x = perhaps (suc n) (the symbol.Equal) (23 ∷ []) (the_in symbol.Equal) (λ _ d. Bind (WholeExpression (may_open d) (V d)) (λ e. Done (declared x (Some e)))) unary_first expr_goes false (λ _ d ts. whole_expression d (w d) ts >>= λ e. Ok (declared x (Some e.0), e.1))
      (λ _. to_as (suc n) (λ d. WholeExpression (may_open d) (V d)) (In unary_first) (In expr_goes) (λ d. whole_expression d (w d)) (λ e. declared x (Some e)) whole) (declared x None)

  declarator_to : PartOf (suc n) (λ d. Bind AnyName (Initial (may_open d) (V d))) (32 ∷ []) (23 ∷ expr_goes) false (λ d. declarator d (w d))
  unfolding declarator
  declarator_to = larger (suc n) (λ d. Bind AnyName (Initial (may_open d) (V d))) (32 ∷ []) ((23 ∷ expr_goes) ++ []) (32 ∷ []) (23 ∷ expr_goes) false (λ d. declarator d (w d)) refl refl
      (seq (suc n) false true (λ d. AnyName) (λ x d. Initial (may_open d) (V d) x) (32 ∷ []) [] (23 ∷ []) (23 ∷ expr_goes) (λ d. name_at) (λ x d. initial d (w d) x) (name_to (suc n)) initial_to refl)

  pub decls_from_to : (x : NameTree) → PartOf (suc n) (λ d. DeclsFrom (may_open d) (V d) x) (23 ∷ 21 ∷ []) decls_goes true (λ d. decls_from d (w d) x)
  unfolding decls_from
  decls_from_to x = larger (suc n) (λ d. DeclsFrom (may_open d) (V d) x) (23 ∷ 21 ∷ []) ((21 ∷ 23 ∷ expr_goes) ++ 23 ∷ expr_goes) (23 ∷ 21 ∷ []) decls_goes true (λ d. decls_from d (w d) x) refl refl
      (seq (suc n) true true (λ d. Initial (may_open d) (V d) x) (λ c d. Many (the symbol.Comma) (λ _. Bind AnyName (Initial (may_open d) (V d))) join_declarator (c ∷ [])) (23 ∷ []) (23 ∷ expr_goes) (21 ∷ []) (21 ∷ 23 ∷ expr_goes) (λ d. initial d (w d) x) (λ c d ts. times (the symbol.Comma) (λ _. declarator d (w d)) join_declarator (length ts) (c ∷ []) ts) (initial_to x)
      (λ c. many (suc n) (the symbol.Comma) (21 ∷ []) (the_in symbol.Comma) (λ _ d. Bind AnyName (Initial (may_open d) (V d))) join_declarator (32 ∷ []) (23 ∷ expr_goes) (λ _ d. declarator d (w d)) (λ _. declarator_to) refl (c ∷ [])) refl)

  pub decls_to : PartOf (suc n) (λ d. Decls (may_open d) (V d)) (32 ∷ []) decls_goes false (λ d. decls d (w d))
  unfolding decls
  decls_to = larger (suc n) (λ d. Decls (may_open d) (V d)) (32 ∷ []) (decls_goes ++ []) (32 ∷ []) decls_goes false (λ d. decls d (w d)) refl refl
      (seq (suc n) false true (λ d. AnyName) (λ x d. DeclsFrom (may_open d) (V d) x) (32 ∷ []) [] (23 ∷ 21 ∷ []) decls_goes (λ d. name_at) (λ x d. decls_from d (w d) x) (name_to (suc n)) decls_from_to refl)

  pub declared_to : (t : TypeTree) → PartOf (suc n) (λ d. Declared (may_open d) (V d) t) (32 ∷ []) decls_goes false (λ d. declaration d (w d) t)
  unfolding declaration
  declared_to t = to_as (suc n) (λ d. Decls (may_open d) (V d)) (In (32 ∷ [])) (In decls_goes) (λ d. decls d (w d)) (λ cs. declares t cs) decls_to

  pub typed_to : (t : TypeHead) → PartOf (suc n) (λ d. Bind (TypeEnd (may_open d) t) (Declared (may_open d) (V d))) (17 ∷ 31 ∷ 32 ∷ []) decls_goes false (λ d ts. type_end d t ts >>= λ t. declaration d (w d) t.0 t.1)
  typed_to t = seq (suc n) true false (λ d. TypeEnd (may_open d) t) (λ t d. Declared (may_open d) (V d) t) (17 ∷ 31 ∷ []) (31 ∷ 17 ∷ []) (32 ∷ []) decls_goes (λ d. type_end d t) (λ t d. declaration d (w d) t) (type_end_to n t) declared_to refl
