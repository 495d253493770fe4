-- Reading by the grammar of statements, from left to right. At depth d, w and s read the expressions and the statements one
-- level deeper.
use Rattle.std.specs.Prelude.{ℕ, zero, suc, true, false, List, [], ◌∷◌, length, Option, Some, None, Ok, Err}
use Rattle.ss_core.specs.declared.names.Place.{Place}
use Rattle.ss_ast.specs.declared.token.Word.TheVariants as word
use Rattle.ss_ast.specs.declared.token.Symbol.{Symbol}
use Rattle.ss_ast.specs.declared.token.Symbol.TheVariants as symbol
use Rattle.ss_ast.specs.Expressions.{NameTree, TypeTree, ExprTree, ElementOf, ParenOf}
use Rattle.ss_ast.specs.Statements.{DeclaratorTree, SimpleTree, AssignOf, StepOf, AloneOf, ForInitTree, SimpleFirst, BlockTree, BlockOf, StmtTree, InBlock, IfOf, IfElseOf, WhileOf, ForOf, ReturnOf, AssertOf, AssumeOf, ExposeOf, EmptyOf, stmt_trees}
use Rattle.ss_grammar.specs.declared.fault.Fault.TheVariants.{Expected}
use Rattle.ss_grammar.specs.Reading.{◌>>=◌, take, maybe, times}
use Rattle.ss_grammar_expressions.specs.First.{choose, tokened}
use Rattle.ss_grammar_expressions.specs.Heads.{Piece, or_left_out, is, the, the_word}
use Rattle.ss_grammar_expressions.specs.Grammar.{TheExpression, type_of, join_argument, head_of, named}
use Rattle.ss_grammar_expressions.specs.Parser.{Gets, Inner, give, nothing, reading, below, opened, held, bang_end, type_end, name_at, index_end, paren_end, old, new, quantified, postfixes, whole_expression}
use Rattle.ss_grammar_statements.specs.Heads.{PrimHead, ParenPrim, LeafPrim, OldPrim, NewPrim, QuantifierPrim, prim_place, prim_head, prim_opens, SimpleHead, AssignHead, StepHead, simple_head, NextHead, NextName, NextBang, NextBracket, next_head, next_opens, StartHead, TypeFirst, NameFirst, PrimFirst, start_head, start_opens, StmtHead, BlockFirst, StartFirst, IfFirst, WhileFirst, ForFirst, ReturnFirst, AssertFirst, AssumeFirst, ExposeFirst, EmptyFirst, stmt_head, stmt_opens, other_head}
use Rattle.ss_grammar_statements.specs.Grammar.{declared, join_declarator, declares, Nest, TheStatements, TheGoverned, TheHeading, Listed, HeadingTree, Nested, join_stmt, statement_of, left_out_block}

abbrev pub Nesting : Type 0
Nesting = (i : Nest) → Gets (Nested i)

unfoldable pub ended : {A : Type 0} → Gets A → Gets A
ended l ts = l ts >>= λ a. take (the symbol.Semicolon) (λ _. give a.0) a.1

unfoldable pub some_of : {A : Type 0} → Symbol → Gets A → Gets (Option A)
some_of s l ts = l ts >>= λ a. take (the s) (λ _. give (Some a.0)) a.1

unfoldable pub optional : {A : Type 0} → Symbol → Gets A → Gets (Option A)
optional s l = choose (is (the s)) (take (the s) (λ _. give None)) (some_of s l)

module _ (d : ℕ) (w : Inner) where
  -- ---- declarations

  unfoldable pub initial : NameTree → Gets DeclaratorTree
  initial n = maybe (the symbol.Equal) (λ _ ts. whole_expression d w ts >>= λ e. Ok (declared n (Some e.0), e.1)) (declared n None)

  unfoldable pub declarator : Gets DeclaratorTree
  declarator ts = name_at ts >>= λ n. initial n.0 n.1

  unfoldable pub decls_from : NameTree → Gets (List DeclaratorTree)
  decls_from n ts = initial n ts >>= λ c. times (the symbol.Comma) (λ _. declarator) join_declarator (length c.1) (c.0 ∷ []) c.1

  unfoldable pub decls : Gets (List DeclaratorTree)
  decls ts = name_at ts >>= λ n. decls_from n.0 n.1

  unfoldable pub declaration : TypeTree → Gets ForInitTree
  declaration t ts = decls ts >>= λ cs. Ok (declares t cs.0, cs.1)

  -- ---- simple statements

  unfoldable pub prim_after : PrimHead → Gets ExprTree
  prim_after (ParenPrim p) ts = paren_end (w TheExpression) ts >>= λ e. Ok (ParenOf p e.0, e.1)
  prim_after (LeafPrim p e) ts = Ok (e, ts)
  prim_after (OldPrim p) ts = old d w p ts
  prim_after (NewPrim p) ts = new d w p ts
  prim_after (QuantifierPrim p q) ts = quantified d w p q ts

  unfoldable pub prim : Gets ExprTree
  prim = take (tokened prim_head) (λ x. opened (prim_opens x.0) d (prim_after x.0) x.1)

  unfoldable pub post_after : PrimHead → Gets ExprTree
  post_after h ts = prim_after h ts >>= λ e. postfixes d w (prim_place h) e.0 e.1

  unfoldable pub post : Gets ExprTree
  post = take (tokened prim_head) (λ x. opened (prim_opens x.0) d (post_after x.0) x.1)

  unfoldable pub simple_after : ExprTree → SimpleHead → Gets SimpleTree
  simple_after a (AssignHead op) ts = whole_expression d w ts >>= λ e. Ok (AssignOf a op e.0, e.1)
  simple_after a (StepHead op) ts = Ok (StepOf a op, ts)

  unfoldable pub simple_end : ExprTree → Gets SimpleTree
  simple_end a = maybe simple_head (simple_after a) (AloneOf a)

  unfoldable pub simple : Gets SimpleTree
  simple ts = post ts >>= λ a. simple_end a.0 a.1

  -- ---- declarations and simple statements, told apart

  unfoldable pub simple_then : ExprTree → Gets ForInitTree
  simple_then a ts = simple_end a ts >>= λ s. Ok (SimpleFirst s.0, s.1)

  unfoldable pub simple_from : Place → ExprTree → Gets ForInitTree
  simple_from p a ts = postfixes d w p a ts >>= λ b. simple_then b.0 b.1

  unfoldable pub array_declared : NameTree → Gets ForInitTree
  array_declared n = take (the symbol.CloseBracket) (λ _ ts. bang_end ts >>= λ s. declaration (type_of (head_of n) true s.0) s.1)

  unfoldable pub element_first : NameTree → Gets ForInitTree
  element_first n ts = index_end (w TheExpression) ts >>= λ i. simple_from n.place (ElementOf n.place (named n) i.0) i.1

  unfoldable pub element_or_declared : NameTree → Gets ForInitTree
  element_or_declared n = choose (is (the symbol.CloseBracket)) (array_declared n) (element_first n)

  unfoldable pub next_behind : NameTree → NextHead → Gets ForInitTree
  next_behind n (NextName m) ts = decls_from m ts >>= λ cs. Ok (declares (type_of (head_of n) false false) cs.0, cs.1)
  next_behind n NextBang ts = declaration (type_of (head_of n) false true) ts
  next_behind n NextBracket ts = element_or_declared n ts

  unfoldable pub name_after : NameTree → Gets ForInitTree
  name_after n = choose (is next_head) (take (tokened next_head) (λ x. opened (next_opens x.0) d (next_behind n x.0) x.1)) (simple_from n.place (named n))

  unfoldable pub start_after : StartHead → Gets ForInitTree
  start_after (TypeFirst t) ts = type_end d t ts >>= λ t. declaration t.0 t.1
  start_after (NameFirst n) ts = name_after n ts
  start_after (PrimFirst h) ts = post_after h ts >>= λ a. simple_then a.0 a.1

  unfoldable pub for_init : Gets ForInitTree
  for_init = take (tokened start_head) (λ x. opened (start_opens x.0) d (start_after x.0) x.1)

module _ (d : ℕ) (w : Inner) (s : Nesting) where
  -- ---- blocks and governed statements

  unfoldable pub block_after : Place → Gets BlockTree
  block_after p ts = s TheStatements ts >>= λ b. Ok (BlockOf p b.0.statements b.0.end, b.1)

  unfoldable pub inner_block : Gets BlockTree
  inner_block = take (the symbol.OpenBrace) block_after

  unfoldable pub in_block : Gets StmtTree
  in_block ts = inner_block ts >>= λ b. Ok (InBlock b.0, b.1)

  unfoldable pub governed : Gets StmtTree
  governed = choose (is (the symbol.OpenBrace)) in_block (s TheGoverned)

  unfoldable pub other_side : Place → ExprTree → StmtTree → Gets StmtTree
  other_side p e a ts = governed ts >>= λ b. Ok (IfElseOf p e a b.0, b.1)

  -- an `else` belongs to the `if` that is read last
  unfoldable pub else_end : Place → ExprTree → StmtTree → Gets StmtTree
  else_end p e a = maybe (the_word word.Else) (λ _. other_side p e a) (IfOf p e a)

  unfoldable pub if_end : Place → Gets StmtTree
  if_end p ts = paren_end (w TheExpression) ts >>= λ e. governed e.1 >>= λ a. else_end p e.0 a.0 a.1

  unfoldable pub invariants : Gets (List ExprTree)
  invariants ts = times (the_word word.Invariant) (λ _. ended (whole_expression d w)) join_argument (length ts) [] ts

  unfoldable pub while_body : Place → ExprTree → Gets StmtTree
  while_body p e ts = invariants ts >>= λ is. governed is.1 >>= λ a. Ok (WhileOf p e is.0 a.0, a.1)

  unfoldable pub while_end : Place → Gets StmtTree
  while_end p ts = paren_end (w TheExpression) ts >>= λ e. while_body p e.0 e.1

  unfoldable pub for_body : Place → HeadingTree → Gets StmtTree
  for_body p h ts = invariants ts >>= λ is. governed is.1 >>= λ a. Ok (ForOf p h.first h.test h.step is.0 a.0, a.1)

  unfoldable pub for_end : Place → Gets StmtTree
  for_end p ts = s TheHeading ts >>= λ h. for_body p h.0 h.1

  unfoldable pub at_end : Gets (Option NameTree)
  at_end = maybe (the_word word.At) (λ _ ts. name_at ts >>= λ n. Ok (Some n.0, n.1)) None

  unfoldable pub expose_body : Place → ExprTree → Option NameTree → Gets StmtTree
  expose_body p e n = take (the symbol.Close) (λ _ ts. inner_block ts >>= λ b. Ok (ExposeOf p e n b.0, b.1))

  unfoldable pub expose_end : Place → Gets StmtTree
  expose_end p ts = w TheExpression ts >>= λ e. at_end e.1 >>= λ n. expose_body p e.0 n.0 n.1

  -- ---- statements

  unfoldable pub start_end : StartHead → Gets StmtTree
  start_end h ts = start_after d w h ts >>= λ i. take (the symbol.Semicolon) (λ _. give (statement_of i.0)) i.1

  unfoldable pub stmt_after : StmtHead → Gets StmtTree
  stmt_after (BlockFirst p) ts = block_after p ts >>= λ b. Ok (InBlock b.0, b.1)
  stmt_after (StartFirst h) ts = start_end h ts
  stmt_after (IfFirst p) ts = take (tokened (or_left_out (the symbol.Open))) (held d (λ _. if_end p) (EmptyOf p)) ts
  stmt_after (WhileFirst p) ts = take (tokened (or_left_out (the symbol.Open))) (held d (λ _. while_end p) (EmptyOf p)) ts
  stmt_after (ForFirst p) ts = take (tokened (or_left_out (the symbol.Open))) (held d (λ _. for_end p) (EmptyOf p)) ts
  stmt_after (ReturnFirst p) ts = optional symbol.Semicolon (whole_expression d w) ts >>= λ e. Ok (ReturnOf p e.0, e.1)
  stmt_after (AssertFirst p) ts = ended (whole_expression d w) ts >>= λ e. Ok (AssertOf p e.0, e.1)
  stmt_after (AssumeFirst p) ts = ended (whole_expression d w) ts >>= λ e. Ok (AssumeOf p e.0, e.1)
  stmt_after (ExposeFirst p) ts = take (tokened (or_left_out (the symbol.Open))) (held d (λ _. expose_end p) (EmptyOf p)) ts
  stmt_after (EmptyFirst p) ts = Ok (EmptyOf p, ts)

  abbrev pub one_stmt : StmtHead × Piece → Gets StmtTree
  one_stmt x = opened (stmt_opens x.0) d (stmt_after x.0) x.1

  unfoldable pub other : Gets StmtTree
  other = take (tokened other_head) one_stmt

  abbrev pub joins_stmt : List StmtTree → StmtHead × Piece → StmtTree → List StmtTree
  joins_stmt ss x b = join_stmt ss x.0 b

  unfoldable pub stmts : Gets (List StmtTree)
  stmts ts = times (tokened stmt_head) one_stmt joins_stmt (length ts) [] ts

  unfoldable pub statements : Gets Listed
  statements ts = stmts ts >>= λ ss. take (the symbol.CloseBrace) (λ p. give (record { statements = stmt_trees ss.0; end = p })) ss.1

  unfoldable pub heading : Gets HeadingTree
  heading ts = optional symbol.Semicolon (for_init d w) ts >>= λ i. optional symbol.Semicolon (whole_expression d w) i.1 >>= λ e. optional symbol.Close (simple d w) e.1 >>= λ s. Ok (record { first = i.0; test = e.0; step = s.0 }, s.1)

  -- ---- all parts

  abbrev pub nested_production : Nesting
  nested_production TheStatements = statements
  nested_production TheGoverned = other
  nested_production TheHeading = heading

abbrev pub no_nesting : Nesting
no_nesting i ts = Err (Expected, ts)

-- reading a part at depth d
unfoldable pub nested : ℕ → Nesting
nested zero = nested_production zero nothing no_nesting
nested (suc d) = nested_production (suc d) (reading d) (nested d)

-- reading one level deeper
unfoldable pub nested_below : ℕ → Nesting
nested_below zero = no_nesting
nested_below (suc d) = nested d

-- reading a block at depth d
unfoldable pub block : ℕ → Gets BlockTree
block d = take (tokened (or_left_out (the symbol.OpenBrace))) (held d (block_after d (below d) (nested_below d)) left_out_block)
