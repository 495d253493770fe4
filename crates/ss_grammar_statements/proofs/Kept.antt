-- No part of a block takes a piece that ends the text.
use Rattle.std.proofs.Common.{◌≡◌, ℕ, zero, suc, List, [], ◌∷◌, Option, Some, None, Bool, true, false, refl}
use Rattle.ss_core.specs.declared.names.Place.{Place}
use Rattle.ss_ast.specs.declared.token.Symbol.{Symbol}
use Rattle.ss_ast.specs.declared.token.Symbol.TheVariants as symbol
use Rattle.ss_ast.specs.declared.token.Word.TheVariants as word
use Rattle.ss_ast.specs.Expressions.{NameTree, TypeTree, ExprTree}
use Rattle.ss_ast.specs.Statements.{StmtTree, EmptyOf}
use Rattle.ss_grammar.specs.Language.{Done, Take, Bind}
use Rattle.ss_grammar_expressions.specs.Heads.{Piece, or_left_out, the, the_word}
use Rattle.ss_grammar_expressions.specs.Grammar.{Part, TheExpression, Parts, NoParts, AtLevel}
use Rattle.ss_grammar_expressions.proofs.Kept.{Kept, knows, knows_symbol, knows_word, kept_done, kept_take, kept_maybe, kept_bind, kept_many, kept_choose, kept_deeper, kept_held, bang_end, type_end, any_name, index_end, paren_end, postfixes, new, old, quantified, whole_expression, no_parts, at_level}
use Rattle.ss_grammar_statements.specs.Heads.{PrimHead, ParenPrim, LeafPrim, OldPrim, NewPrim, QuantifierPrim, prim_place, prim_head, SimpleHead, AssignHead, StepHead, simple_head, NextHead, NextName, NextBang, NextBracket, next_head, StartHead, TypeFirst, NameFirst, PrimFirst, start_head, StmtHead, BlockFirst, StartFirst, IfFirst, WhileFirst, ForFirst, ReturnFirst, AssertFirst, AssumeFirst, ExposeFirst, EmptyFirst, stmt_head, other_head}
use Rattle.ss_grammar_statements.specs.Grammar as grammar
use Rattle.ss_grammar_statements.specs.Grammar.{Nest, TheStatements, TheGoverned, TheHeading, Nested, Nests, left_out_block}

closing : {A : Type 0} (s : Symbol) (a : A) → Kept (Take (the s) (λ _. Done a))
closing s a = kept_take _ _ (knows_symbol s) (λ _. kept_done a)

ended : {A : Type 0} (L : List Piece → A → Type 0) → Kept L → Kept (grammar.Ended L)
ended L l = kept_bind _ _ l (λ a. closing symbol.Semicolon a)

optional : {A : Type 0} (s : Symbol) (L : List Piece → A → Type 0) → Kept L → Kept (grammar.Optional s L)
optional s L l = kept_choose _ _ _ (closing s None) (kept_bind _ _ l (λ a. closing s (Some a)))

module _ (V : Parts) (kv : (i : Part) → Kept (V i)) (o : Bool) where
  initial : (n : NameTree) → Kept (grammar.Initial o V n)
  initial n = kept_maybe _ _ _ (knows_symbol symbol.Equal) (λ _. kept_bind _ _ (whole_expression V kv o) (λ e. kept_done _))

  decls_from : (n : NameTree) → Kept (grammar.DeclsFrom o V n)
  decls_from n = kept_bind _ _ (initial n) (λ c. kept_many _ _ _ (knows_symbol symbol.Comma) (λ _. kept_bind _ _ any_name initial) _)

  declared : (t : TypeTree) → Kept (grammar.Declared o V t)
  declared t = kept_bind _ _ (kept_bind _ _ any_name decls_from) (λ cs. kept_done _)

  prim_after : (h : PrimHead) → Kept (grammar.PrimAfter o V h)
  prim_after (ParenPrim p) = kept_deeper o _ (kept_bind _ _ (paren_end (V TheExpression) (kv TheExpression)) (λ e. kept_done _))
  prim_after (LeafPrim p e) = kept_done e
  prim_after (OldPrim p) = old V kv o p
  prim_after (NewPrim p) = new V kv o p
  prim_after (QuantifierPrim p q) = quantified V kv o p q

  post_after : (h : PrimHead) → Kept (grammar.PostAfter o V h)
  post_after h = kept_bind _ _ (prim_after h) (λ a. postfixes V kv o (prim_place h) a)

  post : Kept (grammar.Post o V)
  post = kept_take _ _ (knows prim_head (λ p. refl)) post_after

  simple_after : (a : ExprTree) (h : SimpleHead) → Kept (grammar.SimpleAfter o V a h)
  simple_after a (AssignHead op) = kept_bind _ _ (whole_expression V kv o) (λ e. kept_done _)
  simple_after a (StepHead op) = kept_done _

  simple_end : (a : ExprTree) → Kept (grammar.SimpleEnd o V a)
  simple_end a = kept_maybe _ _ _ (knows simple_head (λ p. refl)) (simple_after a)

  simple : Kept (grammar.Simple o V)
  simple = kept_bind _ _ post simple_end

  simple_then : (a : ExprTree) → Kept (grammar.SimpleThen o V a)
  simple_then a = kept_bind _ _ (simple_end a) (λ s. kept_done _)

  simple_from : (p : Place) (a : ExprTree) → Kept (grammar.SimpleFrom o V p a)
  simple_from p a = kept_bind _ _ (postfixes V kv o p a) simple_then

  element_or_array : (n : NameTree) → Kept (grammar.ElementOrArray o V n)
  element_or_array n = kept_choose _ _ _ (kept_take _ _ (knows_symbol symbol.CloseBracket) (λ _. kept_bind _ _ bang_end (λ s. declared _))) (kept_bind _ _ (index_end (V TheExpression) (kv TheExpression)) (λ i. simple_from n.place _))

  next_behind : (n : NameTree) (h : NextHead) → Kept (grammar.NextAfter o V n h)
  next_behind n (NextName m) = kept_bind _ _ (decls_from m) (λ cs. kept_done _)
  next_behind n NextBang = declared _
  next_behind n NextBracket = kept_deeper o _ (element_or_array n)

  name_after : (n : NameTree) → Kept (grammar.NameAfter o V n)
  name_after n = kept_choose _ _ _ (kept_take _ _ (knows next_head (λ p. refl)) (next_behind n)) (simple_from n.place _)

  start_after : (h : StartHead) → Kept (grammar.StartAfter o V h)
  start_after (TypeFirst t) = kept_bind _ _ (type_end o t) declared
  start_after (NameFirst n) = name_after n
  start_after (PrimFirst h) = kept_bind _ _ (post_after h) simple_then

  for_init : Kept (grammar.ForInit o V)
  for_init = kept_take _ _ (knows start_head (λ p. refl)) start_after

module _ (V : Parts) (kv : (i : Part) → Kept (V i)) (W : Nests) (kw : (i : Nest) → Kept (W i)) where
  block_after : (p : Place) → Kept (grammar.BlockAfter V W p)
  block_after p = kept_bind _ _ (kw TheStatements) (λ b. kept_done _)

  inner_block : Kept (grammar.InnerBlock V W)
  inner_block = kept_take _ _ (knows_symbol symbol.OpenBrace) block_after

  governed : Kept (grammar.Governed V W)
  governed = kept_choose _ _ _ (kept_bind _ _ inner_block (λ b. kept_done _)) (kw TheGoverned)

  else_end : (p : Place) (e : ExprTree) (a : StmtTree) (b : Bool) → Kept (grammar.ElseEnd V W p e a b)
  else_end p e a true = kept_done _
  else_end p e a false = kept_maybe _ _ _ (knows_word word.Else) (λ _. kept_bind _ _ governed (λ b. kept_done _))

  if_end : (p : Place) → Kept (grammar.IfEnd V W p)
  if_end p = kept_bind _ _ (paren_end (V TheExpression) (kv TheExpression)) (λ e. kept_bind _ _ governed (λ a. else_end p e a (grammar.open_if a)))

  invariants : Kept (grammar.Invariants V W)
  invariants = kept_many _ _ _ (knows_word word.Invariant) (λ _. ended _ (whole_expression V kv true)) []

  while_end : (p : Place) → Kept (grammar.WhileEnd V W p)
  while_end p = kept_bind _ _ (paren_end (V TheExpression) (kv TheExpression)) (λ e. kept_bind _ _ invariants (λ is. kept_bind _ _ governed (λ a. kept_done _)))

  for_end : (p : Place) → Kept (grammar.ForEnd V W p)
  for_end p = kept_bind _ _ (kw TheHeading) (λ h. kept_bind _ _ invariants (λ is. kept_bind _ _ governed (λ a. kept_done _)))

  at_end : Kept (grammar.AtEnd V W)
  at_end = kept_maybe _ _ _ (knows_word word.At) (λ _. kept_bind _ _ any_name (λ n. kept_done _))

  expose_end : (p : Place) → Kept (grammar.ExposeEnd V W p)
  expose_end p = kept_bind _ _ (kv TheExpression) (λ e. kept_bind _ _ at_end (λ n. kept_take _ _ (knows_symbol symbol.Close) (λ _. kept_bind _ _ inner_block (λ b. kept_done _))))

  module _ (o : Bool) where
    stmt_after : (h : StmtHead) → Kept (grammar.StmtAfter o V W h)
    stmt_after (BlockFirst p) = kept_deeper o _ (kept_bind _ _ (block_after p) (λ b. kept_done _))
    stmt_after (StartFirst h) = kept_bind _ _ (start_after V kv o h) (λ i. closing symbol.Semicolon _)
    stmt_after (IfFirst p) = kept_held o (the symbol.Open) (λ _. grammar.IfEnd V W p) (EmptyOf p) (knows (or_left_out (the symbol.Open)) (λ p. refl)) (λ _. if_end p)
    stmt_after (WhileFirst p) = kept_held o (the symbol.Open) (λ _. grammar.WhileEnd V W p) (EmptyOf p) (knows (or_left_out (the symbol.Open)) (λ p. refl)) (λ _. while_end p)
    stmt_after (ForFirst p) = kept_held o (the symbol.Open) (λ _. grammar.ForEnd V W p) (EmptyOf p) (knows (or_left_out (the symbol.Open)) (λ p. refl)) (λ _. for_end p)
    stmt_after (ReturnFirst p) = kept_bind _ _ (optional symbol.Semicolon _ (whole_expression V kv o)) (λ e. kept_done _)
    stmt_after (AssertFirst p) = kept_bind _ _ (ended _ (whole_expression V kv o)) (λ e. kept_done _)
    stmt_after (AssumeFirst p) = kept_bind _ _ (ended _ (whole_expression V kv o)) (λ e. kept_done _)
    stmt_after (ExposeFirst p) = kept_held o (the symbol.Open) (λ _. grammar.ExposeEnd V W p) (EmptyOf p) (knows (or_left_out (the symbol.Open)) (λ p. refl)) (λ _. expose_end p)
    stmt_after (EmptyFirst p) = kept_done _

    production : (i : Nest) → Kept (grammar.Production o V W i)
    production TheStatements = kept_bind _ _ (kept_many _ _ _ (knows stmt_head (λ p. refl)) stmt_after []) (λ ss. kept_take _ _ (knows_symbol symbol.CloseBrace) (λ p. kept_done _))
    production TheGoverned = kept_take _ _ (knows other_head (λ p. refl)) stmt_after
    production TheHeading = kept_bind _ _ (optional symbol.Semicolon _ (for_init V kv o)) (λ i. kept_bind _ _ (optional symbol.Semicolon _ (whole_expression V kv o)) (λ e. kept_bind _ _ (optional symbol.Close _ (simple V kv o)) (λ s. kept_done _)))

    whole_block : Kept (grammar.WholeBlock o V W)
    whole_block = kept_held o (the symbol.OpenBrace) (grammar.BlockAfter V W) left_out_block (knows (or_left_out (the symbol.OpenBrace)) (λ p. refl)) block_after

no_nests : (i : Nest) → Kept (grammar.NoNests i)
no_nests i ts v p = absurd p

nested_at : (d : ℕ) (i : Nest) → Kept (grammar.NestedAt d i)
nested_at zero i = production NoParts no_parts grammar.NoNests no_nests false i
nested_at (suc d) i = production (AtLevel d) (at_level d) (grammar.NestedAt d) (nested_at d) true i

pub block : (d : ℕ) → Kept (grammar.Block d)
block zero = whole_block NoParts no_parts grammar.NoNests no_nests false
block (suc d) = whole_block (AtLevel d) (at_level d) (grammar.NestedAt d) (nested_at d) true
