-- Reading statements finds what the grammar says.
use Rattle.std.proofs.Common.{◌≡◌, ℕ, zero, suc, List, [], ◌∷◌, ◌++◌, Option, Some, None, Ok, Bool, true, false, refl, ap}
use Rattle.ss_core.specs.declared.names.Place.{Place}
use Rattle.ss_ast.specs.declared.token.Symbol.TheVariants as symbol
use Rattle.ss_ast.specs.Tokens.{ASymbol}
use Rattle.ss_ast.specs.Expressions.{ExprTree}
use Rattle.ss_ast.specs.Statements.{SimpleTree, ForInitTree, DeclareFirst, SimpleFirst, StmtTree, InBlock, ReturnOf, AssertOf, AssumeOf, ExposeOf, EmptyOf, stmt_trees}
use Rattle.ss_grammar.specs.Language.{Done, Take, Bind, Many, Starts}
use Rattle.ss_grammar.specs.Reading.{◌>>=◌, take}
use Rattle.ss_grammar.proofs.Parts.{to_as}
use Rattle.ss_grammar_expressions.specs.First.{tokened}
use Rattle.ss_grammar_expressions.specs.Heads.{Piece, or_left_out, the}
use Rattle.ss_grammar_expressions.specs.Grammar.{Part, TheExpression, TheRange, Value, Parts, NoParts, Deeper, HeldAfter, Held, WholeExpression, no_place}
use Rattle.ss_grammar_expressions.specs.Parser.{Gets, Inner, give, held, whole_expression}
use Rattle.ss_grammar_expressions.proofs.Sets.{In, subset, PartOf, larger, done, may_be_empty, seq}
use Rattle.ss_grammar_expressions.proofs.Levels.{may_open, the_in, of, symbol}
use Rattle.ss_grammar_expressions.proofs.Pieces.{unary_first, expr_goes}
use Rattle.ss_grammar_expressions.proofs.Expressions.{inner_parts, inner_readers}
use Rattle.ss_grammar_statements.specs.Heads.{StartHead, start_opens, StmtHead, BlockFirst, StartFirst, IfFirst, WhileFirst, ForFirst, ReturnFirst, AssertFirst, AssumeFirst, ExposeFirst, EmptyFirst, stmt_head, stmt_opens, other_head}
use Rattle.ss_grammar_statements.specs.Grammar.{Ended, Optional, Simple, StartAfter, ForInit, Nest, TheStatements, TheGoverned, TheHeading, HeadingTree, Nested, Nests, NoNests, join_stmt, statement_of, open_if, BlockAfter, InnerBlock, IfEnd, WhileEnd, ForEnd, ExposeEnd, left_out_block, StmtAfter, Other, Statements, Heading, WholeBlock}
use Rattle.ss_grammar_statements.specs.Parser.{Nesting, ended, optional, simple, start_after, for_init, block_after, if_end, while_end, for_end, expose_end, start_end, stmt_after, other, stmts, statements, heading}
use Rattle.ss_grammar_statements.proofs.Pieces.{start_first, other_first, stmt_first, start_goes, simple_goes, prim_first, stmt_in, other_in}
use Rattle.ss_grammar_statements.proofs.Parts.{ended_to, optional_to}
use Rattle.ss_grammar_statements.proofs.Openings.{take_heads, many_heads, held_parts}
use Rattle.ss_grammar_statements.proofs.Paths.{simple_to}
use Rattle.ss_grammar_statements.proofs.Starts.{start_set, start_never, start_open, start_leaf, for_init_to}
use Rattle.ss_grammar_statements.proofs.Open.{never_open, Shut, done_shut, bind_shut, take_shut, above_ends, take_ends}
use Rattle.ss_grammar_statements.proofs.Governed.{else_set, an_else, no_else, Elses, list_first, heading_first, inner_nests, inner_nesting, block_after_to, if_end_to, if_end_ends, while_end_to, while_end_ends, for_end_to, for_end_ends, expose_end_to}

-- a `{` opens a level, and so does a `(`
stmt_never : (h : StmtHead) → stmt_opens h ≡ true → (ts : List Piece) (v : StmtTree) → StmtAfter false NoParts NoNests h ts v → ⊥
stmt_never (BlockFirst p) e ts v q = q
stmt_never (StartFirst h) e ts v q = start_never h e q.front q.first q.reads
stmt_never (IfFirst p) e ts v q = cc
stmt_never (WhileFirst p) e ts v q = cc
stmt_never (ForFirst p) e ts v q = cc
stmt_never (ReturnFirst p) e ts v q = cc
stmt_never (AssertFirst p) e ts v q = cc
stmt_never (AssumeFirst p) e ts v q = cc
stmt_never (ExposeFirst p) e ts v q = cc
stmt_never (EmptyFirst p) e ts v q = cc

-- what may stand after the first token of a statement
abbrev after_set : List ℕ
after_set = list_first ++ start_set ++ 36 ∷ 15 ∷ 19 ∷ unary_first

abbrev heading_of : Option ForInitTree → Option ExprTree → Option SimpleTree → HeadingTree
heading_of i e s = record { first = i; test = e; step = s }

started_shut : (i : ForInitTree) → open_if (statement_of i) ≡ false
started_shut (DeclareFirst d) = refl
started_shut (SimpleFirst s) = refl

module _ (n : ℕ) (U : (i : Part) → ℕ → List Piece → Value i → Type 0) (u : (i : Part) → ℕ → Gets (Value i)) (W : (i : Nest) → ℕ → List Piece → Nested i → Type 0) (s : (i : Nest) → ℕ → Gets (Nested i)) (inner : PartOf n (U TheExpression) unary_first expr_goes false (u TheExpression)) (range_part : PartOf n (U TheRange) (36 ∷ 15 ∷ []) [] false (u TheRange)) (whole : PartOf (suc n) (λ d. WholeExpression (may_open d) (inner_parts U d)) unary_first expr_goes false (λ d. whole_expression d (inner_readers u d))) (lists : PartOf n (W TheStatements) list_first [] false (s TheStatements)) (other_part : PartOf n (W TheGoverned) other_first else_set false (s TheGoverned)) (other_ends : Elses (W TheGoverned)) (heads : PartOf n (W TheHeading) heading_first [] false (s TheHeading)) where
  abbrev V : ℕ → Parts
  V d = inner_parts U d

  abbrev w : ℕ → Inner
  w d = inner_readers u d

  abbrev X : ℕ → Nests
  X d = inner_nests W d

  abbrev x : ℕ → Nesting
  x d = inner_nesting s d

  abbrev Ls : StmtHead → ℕ → List Piece → StmtTree → Type 0
  Ls h d = StmtAfter (may_open d) (V d) (X d) h

  abbrev ls : StmtHead → ℕ → Gets StmtTree
  ls h d = stmt_after d (w d) (x d) h

  -- ---- each kind of statement

  block_part : (p : Place) → PartOf n (λ d. Ls (BlockFirst p) (suc d)) list_first [] false (λ d. ls (BlockFirst p) (suc d))
  unfolding stmt_after
  block_part p = to_as n (λ d. BlockAfter (V (suc d)) (X (suc d)) p) (In list_first) (In []) (λ d. block_after (suc d) (w (suc d)) (x (suc d)) p) (λ b. InBlock b) (block_after_to n U u W s inner whole lists other_part other_ends heads p)

  abbrev Semicolons : ForInitTree → ℕ → List Piece → StmtTree → Type 0
  Semicolons i d = Take (the symbol.Semicolon) (λ _. Done (statement_of i))

  semicolon_to : (k : ℕ) (i : ForInitTree) → PartOf k (Semicolons i) (19 ∷ []) [] false (λ d. take (the symbol.Semicolon) (λ _. give (statement_of i)))
  semicolon_to k i = symbol k symbol.Semicolon (λ _ d. Done (statement_of i)) [] [] true (λ _ d. give (statement_of i)) refl (λ _. done k (statement_of i))

  started_open : (h : StartHead) → start_opens h ≡ true → PartOf n (λ d. Ls (StartFirst h) (suc d)) (start_set ++ 19 ∷ []) [] false (λ d. ls (StartFirst h) (suc d))
  unfolding stmt_after start_end
  started_open h e = seq n true false (λ d. StartAfter true (V (suc d)) h) Semicolons start_set start_goes (19 ∷ []) [] (λ d. start_after (suc d) (w (suc d)) h) (λ i d. take (the symbol.Semicolon) (λ _. give (statement_of i))) (start_open n U u inner range_part whole h e) (semicolon_to n) refl

  started_leaf : (h : StartHead) → start_opens h ≡ false → PartOf (suc n) (Ls (StartFirst h)) (start_set ++ 19 ∷ []) [] false (ls (StartFirst h))
  unfolding stmt_after start_end
  started_leaf h e = seq (suc n) true false (λ d. StartAfter (may_open d) (V d) h) Semicolons start_set start_goes (19 ∷ []) [] (λ d. start_after d (w d) h) (λ i d. take (the symbol.Semicolon) (λ _. give (statement_of i))) (start_leaf n U u inner range_part whole h e) (semicolon_to (suc n)) refl

  if_part : (p : Place) → PartOf (suc n) (Ls (IfFirst p)) (36 ∷ 15 ∷ []) else_set false (ls (IfFirst p))
  unfolding stmt_after
  if_part p = held_parts n (the symbol.Open) (15 ∷ []) (the_in symbol.Open) (λ d _. IfEnd (V d) (X d) p) (λ d _. if_end d (w d) (x d) p) (EmptyOf p) unary_first else_set (λ _. if_end_to n U u W s inner whole lists other_part other_ends heads p)

  while_part : (p : Place) → PartOf (suc n) (Ls (WhileFirst p)) (36 ∷ 15 ∷ []) else_set false (ls (WhileFirst p))
  unfolding stmt_after
  while_part p = held_parts n (the symbol.Open) (15 ∷ []) (the_in symbol.Open) (λ d _. WhileEnd (V d) (X d) p) (λ d _. while_end d (w d) (x d) p) (EmptyOf p) unary_first else_set (λ _. while_end_to n U u W s inner whole lists other_part other_ends heads p)

  for_part : (p : Place) → PartOf (suc n) (Ls (ForFirst p)) (36 ∷ 15 ∷ []) else_set false (ls (ForFirst p))
  unfolding stmt_after
  for_part p = held_parts n (the symbol.Open) (15 ∷ []) (the_in symbol.Open) (λ d _. ForEnd (V d) (X d) p) (λ d _. for_end d (w d) (x d) p) (EmptyOf p) heading_first else_set (λ _. for_end_to n U u W s inner whole lists other_part other_ends heads p)

  expose_part : (p : Place) → PartOf (suc n) (Ls (ExposeFirst p)) (36 ∷ 15 ∷ []) [] false (ls (ExposeFirst p))
  unfolding stmt_after
  expose_part p = held_parts n (the symbol.Open) (15 ∷ []) (the_in symbol.Open) (λ d _. ExposeEnd (V d) (X d) p) (λ d _. expose_end d (w d) (x d) p) (EmptyOf p) unary_first [] (λ _. expose_end_to n U u W s inner whole lists other_part other_ends heads p)

  abbrev E : ℕ → List Piece → ExprTree → Type 0
  E d = WholeExpression (may_open d) (V d)

  abbrev e_reader : ℕ → Gets ExprTree
  e_reader d = whole_expression d (w d)

  return_part : (p : Place) → PartOf (suc n) (Ls (ReturnFirst p)) (19 ∷ unary_first) [] false (ls (ReturnFirst p))
  unfolding stmt_after
  return_part p = to_as (suc n) (λ d. Optional symbol.Semicolon (E d)) (In (19 ∷ unary_first)) (In []) (λ d. optional symbol.Semicolon (e_reader d)) (λ e. ReturnOf p e) (optional_to (suc n) E unary_first expr_goes e_reader whole symbol.Semicolon refl refl)

  ended_part : (make : ExprTree → StmtTree) → PartOf (suc n) (λ d. Bind (Ended (E d)) (λ e. Done (make e))) unary_first [] false (λ d ts. ended (e_reader d) ts >>= λ e. Ok (make e.0, e.1))
  ended_part make = to_as (suc n) (λ d. Ended (E d)) (In unary_first) (In []) (λ d. ended (e_reader d)) make (ended_to (suc n) E unary_first expr_goes e_reader whole refl)

  assert_part : (p : Place) → PartOf (suc n) (Ls (AssertFirst p)) unary_first [] false (ls (AssertFirst p))
  unfolding stmt_after
  assert_part p = ended_part (AssertOf p)

  assume_part : (p : Place) → PartOf (suc n) (Ls (AssumeFirst p)) unary_first [] false (ls (AssumeFirst p))
  unfolding stmt_after
  assume_part p = ended_part (AssumeOf p)

  empty_part : (p : Place) → PartOf (suc n) (Ls (EmptyFirst p)) [] [] true (ls (EmptyFirst p))
  unfolding stmt_after
  empty_part p = done (suc n) (EmptyOf p)

  -- ---- any statement

  fits : (k : ℕ) (L : ℕ → List Piece → StmtTree → Type 0) (f g : List ℕ) (e : Bool) (p : ℕ → Gets StmtTree) → subset f after_set ≡ true → subset g else_set ≡ true → PartOf k L f g e p → PartOf k L after_set else_set true p
  fits k L f g e p a b r = larger k L f g after_set else_set true p a b (may_be_empty k L f g e p r)

  stmt_open : (h : StmtHead) → stmt_opens h ≡ true → PartOf n (λ d. Ls h (suc d)) after_set else_set true (λ d. ls h (suc d))
  stmt_open (BlockFirst p) e = fits n (λ d. Ls (BlockFirst p) (suc d)) list_first [] false (λ d. ls (BlockFirst p) (suc d)) refl refl (block_part p)
  stmt_open (StartFirst h) e = fits n (λ d. Ls (StartFirst h) (suc d)) (start_set ++ 19 ∷ []) [] false (λ d. ls (StartFirst h) (suc d)) refl refl (started_open h e)
  stmt_open (IfFirst p) e = absurd cc
  stmt_open (WhileFirst p) e = absurd cc
  stmt_open (ForFirst p) e = absurd cc
  stmt_open (ReturnFirst p) e = absurd cc
  stmt_open (AssertFirst p) e = absurd cc
  stmt_open (AssumeFirst p) e = absurd cc
  stmt_open (ExposeFirst p) e = absurd cc
  stmt_open (EmptyFirst p) e = absurd cc

  stmt_leaf : (h : StmtHead) → stmt_opens h ≡ false → PartOf (suc n) (Ls h) after_set else_set true (ls h)
  stmt_leaf (BlockFirst p) e = absurd cc
  stmt_leaf (StartFirst h) e = fits (suc n) (Ls (StartFirst h)) (start_set ++ 19 ∷ []) [] false (ls (StartFirst h)) refl refl (started_leaf h e)
  stmt_leaf (IfFirst p) e = fits (suc n) (Ls (IfFirst p)) (36 ∷ 15 ∷ []) else_set false (ls (IfFirst p)) refl refl (if_part p)
  stmt_leaf (WhileFirst p) e = fits (suc n) (Ls (WhileFirst p)) (36 ∷ 15 ∷ []) else_set false (ls (WhileFirst p)) refl refl (while_part p)
  stmt_leaf (ForFirst p) e = fits (suc n) (Ls (ForFirst p)) (36 ∷ 15 ∷ []) else_set false (ls (ForFirst p)) refl refl (for_part p)
  stmt_leaf (ReturnFirst p) e = fits (suc n) (Ls (ReturnFirst p)) (19 ∷ unary_first) [] false (ls (ReturnFirst p)) refl refl (return_part p)
  stmt_leaf (AssertFirst p) e = fits (suc n) (Ls (AssertFirst p)) unary_first [] false (ls (AssertFirst p)) refl refl (assert_part p)
  stmt_leaf (AssumeFirst p) e = fits (suc n) (Ls (AssumeFirst p)) unary_first [] false (ls (AssumeFirst p)) refl refl (assume_part p)
  stmt_leaf (ExposeFirst p) e = fits (suc n) (Ls (ExposeFirst p)) (36 ∷ 15 ∷ []) [] false (ls (ExposeFirst p)) refl refl (expose_part p)
  stmt_leaf (EmptyFirst p) e = fits (suc n) (Ls (EmptyFirst p)) [] [] true (ls (EmptyFirst p)) refl refl (empty_part p)

  semicolon_some : Starts (Take stmt_head (λ h. Ls h 0)) []
  semicolon_some = record { more = of (ASymbol symbol.Semicolon) ∷ []; value = EmptyOf no_place; reads = (refl, refl) }

  pub other_to : PartOf (suc n) (λ d. Other (may_open d) (V d) (X d)) other_first else_set false (λ d. other d (w d) (x d))
  unfolding other
  other_to = take_heads n other_head other_first other_in stmt_opens Ls ls after_set else_set true stmt_never stmt_open stmt_leaf (record { more = of (ASymbol symbol.Semicolon) ∷ []; value = EmptyOf no_place; reads = (refl, refl) })

  stmts_to : PartOf (suc n) (λ d. Many stmt_head (λ h. Ls h d) join_stmt []) stmt_first (stmt_first ++ else_set) true (λ d. stmts d (w d) (x d))
  unfolding stmts
  stmts_to = many_heads n stmt_head stmt_first stmt_in stmt_opens Ls ls after_set else_set true stmt_never stmt_open stmt_leaf join_stmt refl []

  pub statements_to : PartOf (suc n) (λ d. Statements (may_open d) (V d) (X d)) list_first [] false (λ d. statements d (w d) (x d))
  unfolding statements
  statements_to = larger (suc n) (λ d. Statements (may_open d) (V d) (X d)) (stmt_first ++ 14 ∷ []) [] list_first [] false (λ d. statements d (w d) (x d)) refl refl
      (seq (suc n) true false (λ d. Many stmt_head (λ h. Ls h d) join_stmt []) (λ ss d. Take (the symbol.CloseBrace) (λ p. Done (record { statements = stmt_trees ss; end = p }))) stmt_first (stmt_first ++ else_set) (14 ∷ []) [] (λ d. stmts d (w d) (x d)) (λ ss d. take (the symbol.CloseBrace) (λ p. give (record { statements = stmt_trees ss; end = p }))) stmts_to
      (λ ss. symbol (suc n) symbol.CloseBrace (λ p d. Done (record { statements = stmt_trees ss; end = p })) [] [] true (λ p d. give (record { statements = stmt_trees ss; end = p })) refl (λ p. done (suc n) (record { statements = stmt_trees ss; end = p }))) refl)

  -- ---- which statements go on with an `else`

  ifs_only : (K : ℕ → List Piece → StmtTree → Type 0) (p : Place) → Elses (λ d. K (suc d)) → Elses (λ d. Held (may_open d) (the symbol.Open) (λ _. K d) (EmptyOf p))
  ifs_only K p r = take_ends an_else open_if (or_left_out (the symbol.Open)) (λ y d. HeldAfter (may_open d) (λ _. K d) (EmptyOf p) y) each
    where
      each : (y : Option Place) → Elses (λ d. HeldAfter (may_open d) (λ _. K d) (EmptyOf p) y)
      each None = never_open an_else open_if (λ d. Done (EmptyOf p)) (In []) (In []) true (done n (EmptyOf p)).good.facts (no_else [] refl) (done_shut an_else open_if (EmptyOf p) refl)
      each (Some b) = above_ends an_else open_if (λ d. Deeper (may_open d) (K d)) (λ u a q. q) r

  -- what is plain goes on with nothing
  plain : (k : ℕ) (L : ℕ → List Piece → StmtTree → Type 0) (f : List ℕ) (e : Bool) (p : ℕ → Gets StmtTree) → PartOf k L f [] e p → Shut an_else open_if L → Elses L
  plain k L f e p r t = never_open an_else open_if L (In f) (In []) e r.good.facts (no_else [] refl) t

  started_ends : (h : StartHead) (o : Bool) → start_opens h ≡ o → Elses (Ls (StartFirst h))
  started_ends h true e = above_ends an_else open_if (Ls (StartFirst h)) (stmt_never (StartFirst h) e)
      (plain n (λ d. Ls (StartFirst h) (suc d)) (start_set ++ 19 ∷ []) false (λ d. ls (StartFirst h) (suc d)) (started_open h e)
      (bind_shut an_else open_if (λ d. StartAfter true (V (suc d)) h) Semicolons (λ i. take_shut an_else open_if (the symbol.Semicolon) (λ _ d. Done (statement_of i)) (λ _. done_shut an_else open_if (statement_of i) (started_shut i)))))
  started_ends h false e = plain (suc n) (Ls (StartFirst h)) (start_set ++ 19 ∷ []) false (ls (StartFirst h)) (started_leaf h e)
      (bind_shut an_else open_if (λ d. StartAfter (may_open d) (V d) h) Semicolons (λ i. take_shut an_else open_if (the symbol.Semicolon) (λ _ d. Done (statement_of i)) (λ _. done_shut an_else open_if (statement_of i) (started_shut i))))

  expose_shut : (p : Place) → Shut an_else open_if (Ls (ExposeFirst p))
  expose_shut p = take_shut an_else open_if (or_left_out (the symbol.Open)) (λ y d. HeldAfter (may_open d) (λ _. ExposeEnd (V d) (X d) p) (EmptyOf p) y) each
    where
      inside : (d : ℕ) (ts : List Piece) (a : StmtTree) → ExposeEnd (V (suc d)) (X (suc d)) p ts a → open_if a ≡ false
      inside d ts a q = take_shut an_else open_if (the symbol.Close) (λ _ (e : ℕ). Bind (InnerBlock (V (suc e)) (X (suc e))) (λ b. Done (ExposeOf p q.first q.goes_on.first b))) (λ _ e z c r. ap open_if r.goes_on.1) d q.goes_on.back a q.goes_on.goes_on

      each : (y : Option Place) → Shut an_else open_if (λ d. HeldAfter (may_open d) (λ _. ExposeEnd (V d) (X d) p) (EmptyOf p) y)
      each None d ts a q = ap open_if q.1
      each (Some b) zero ts a q = absurd q
      each (Some b) (suc d) ts a q = inside d ts a q

  stmt_ends : (h : StmtHead) → Elses (Ls h)
  stmt_ends (BlockFirst p) = above_ends an_else open_if (Ls (BlockFirst p)) (λ u a q. q)
      (plain n (λ d. Ls (BlockFirst p) (suc d)) list_first false (λ d. ls (BlockFirst p) (suc d)) (block_part p) (λ d ts a q. ap open_if q.goes_on.1))
  stmt_ends (StartFirst h) = started_ends h (start_opens h) refl
  stmt_ends (IfFirst p) = ifs_only (λ d. IfEnd (V d) (X d) p) p (if_end_ends n U u W s inner whole lists other_part other_ends heads p)
  stmt_ends (WhileFirst p) = ifs_only (λ d. WhileEnd (V d) (X d) p) p (while_end_ends n U u W s inner whole lists other_part other_ends heads p)
  stmt_ends (ForFirst p) = ifs_only (λ d. ForEnd (V d) (X d) p) p (for_end_ends n U u W s inner whole lists other_part other_ends heads p)
  stmt_ends (ReturnFirst p) = plain (suc n) (Ls (ReturnFirst p)) (19 ∷ unary_first) false (ls (ReturnFirst p)) (return_part p) (λ d ts a q. ap open_if q.goes_on.1)
  stmt_ends (AssertFirst p) = plain (suc n) (Ls (AssertFirst p)) unary_first false (ls (AssertFirst p)) (assert_part p) (λ d ts a q. ap open_if q.goes_on.1)
  stmt_ends (AssumeFirst p) = plain (suc n) (Ls (AssumeFirst p)) unary_first false (ls (AssumeFirst p)) (assume_part p) (λ d ts a q. ap open_if q.goes_on.1)
  stmt_ends (ExposeFirst p) = plain (suc n) (Ls (ExposeFirst p)) (36 ∷ 15 ∷ []) false (ls (ExposeFirst p)) (expose_part p) (expose_shut p)
  stmt_ends (EmptyFirst p) = plain (suc n) (Ls (EmptyFirst p)) [] true (ls (EmptyFirst p)) (empty_part p) (λ d ts a q. ap open_if q.1)

  pub others_end : Elses (λ d. Other (may_open d) (V d) (X d))
  others_end = take_ends an_else open_if other_head Ls stmt_ends

  -- ---- the heading of a `for`

  abbrev Inits : ℕ → List Piece → Option ForInitTree → Type 0
  Inits d = Optional symbol.Semicolon (ForInit (may_open d) (V d))

  abbrev TestsOf : ℕ → List Piece → Option ExprTree → Type 0
  TestsOf d = Optional symbol.Semicolon (E d)

  abbrev Steps : ℕ → List Piece → Option SimpleTree → Type 0
  Steps d = Optional symbol.Close (Simple (may_open d) (V d))

  steps_to : (i : Option ForInitTree) (e : Option ExprTree) → PartOf (suc n) (λ d. Bind (Steps d) (λ s. Done (heading_of i e s))) (16 ∷ prim_first) [] false (λ d ts. optional symbol.Close (simple d (w d)) ts >>= λ s. Ok (heading_of i e s.0, s.1))
  steps_to i e = to_as (suc n) Steps (In (16 ∷ prim_first)) (In []) (λ d. optional symbol.Close (simple d (w d))) (λ s. heading_of i e s)
      (optional_to (suc n) (λ d. Simple (may_open d) (V d)) prim_first simple_goes (λ d. simple d (w d)) (simple_to n U u inner range_part whole) symbol.Close refl refl)

  pub heading_to : PartOf (suc n) (λ d. Heading (may_open d) (V d) (X d)) heading_first [] false (λ d. heading d (w d) (x d))
  unfolding heading
  heading_to = seq (suc n) false false Inits (λ i d. Bind (TestsOf d) (λ e. Bind (Steps d) (λ s. Done (heading_of i e s)))) heading_first [] (19 ∷ unary_first) [] (λ d. optional symbol.Semicolon (for_init d (w d))) (λ i d ts. optional symbol.Semicolon (e_reader d) ts >>= λ e. optional symbol.Close (simple d (w d)) e.1 >>= λ s. Ok (heading_of i e.0 s.0, s.1))
      (optional_to (suc n) (λ d. ForInit (may_open d) (V d)) start_first start_goes (λ d. for_init d (w d)) (for_init_to n U u inner range_part whole) symbol.Semicolon refl refl)
      (λ i. seq (suc n) false false TestsOf (λ e d. Bind (Steps d) (λ s. Done (heading_of i e s))) (19 ∷ unary_first) [] (16 ∷ prim_first) [] (λ d. optional symbol.Semicolon (e_reader d)) (λ e d ts. optional symbol.Close (simple d (w d)) ts >>= λ s. Ok (heading_of i e s.0, s.1))
      (optional_to (suc n) E unary_first expr_goes e_reader whole symbol.Semicolon refl refl) (steps_to i) refl) refl

  -- ---- a block that must come

  pub whole_block_to : PartOf (suc n) (λ d. WholeBlock (may_open d) (V d) (X d)) (36 ∷ 13 ∷ []) [] false (λ d. take (tokened (or_left_out (the symbol.OpenBrace))) (held d (block_after d (w d) (x d)) left_out_block))
  whole_block_to = held_parts n (the symbol.OpenBrace) (13 ∷ []) (the_in symbol.OpenBrace) (λ d p. BlockAfter (V d) (X d) p) (λ d p. block_after d (w d) (x d) p) left_out_block list_first [] (block_after_to n U u W s inner whole lists other_part other_ends heads)
