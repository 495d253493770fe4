-- The first side of an `if` with an `else` never ends with an `if` that could have it.
use Rattle.std.proofs.Common.{◌≡◌, ℕ, zero, suc, List, [], ◌∷◌, Option, Some, None, Bool, true, false, refl, ap, ◌∙◌}
use Rattle.ss_core.specs.declared.names.Place.{Place}
use Rattle.ss_ast.specs.declared.token.Word.TheVariants as word
use Rattle.ss_ast.specs.declared.token.Symbol.TheVariants as symbol
use Rattle.ss_ast.specs.Expressions.{ExprTree}
use Rattle.ss_ast.specs.Statements.{ForInitTree, DeclareFirst, SimpleFirst, StmtTree, IfElseOf, ExposeOf, EmptyOf}
use Rattle.ss_grammar.specs.Language.{Done, After, Take, Bind}
use Rattle.ss_grammar_expressions.specs.Heads.{Piece, or_left_out, the, the_word}
use Rattle.ss_grammar_expressions.specs.Grammar.{TheExpression, Parts, NoParts, AtLevel, Deeper, HeldAfter, ParenEnd}
use Rattle.ss_grammar_statements.specs.Heads.{StmtHead, BlockFirst, StartFirst, IfFirst, WhileFirst, ForFirst, ReturnFirst, AssertFirst, AssumeFirst, ExposeFirst, EmptyFirst, other_head}
use Rattle.ss_grammar_statements.specs.Grammar.{TheGoverned, Nests, NoNests, NestedAt, statement_of, open_if, InnerBlock, Governed, ElseEnd, IfEnd, WhileEnd, ForEnd, ExposeEnd, StmtAfter}

-- whether the first side could have the `else` too
abbrev far : StmtTree → Bool
far (IfElseOf p e a b) = open_if a
far _ = false

abbrev Near : (List Piece → StmtTree → Type 0) → Type 0
Near L = (ts : List Piece) (v : StmtTree) → L ts v → far v ≡ false

near_bind : {C : Type 0} (L : List Piece → C → Type 0) (K : C → List Piece → StmtTree → Type 0) → ((x : C) → Near (K x)) → Near (Bind L K)
near_bind L K each ts v p = each p.first p.back v p.goes_on

near_after : {B : Type 0} (K : B → List Piece → StmtTree → Type 0) → ((b : B) → Near (K b)) → (o : Option B) → Near (After o K)
near_after K each None ts v p = absurd p
near_after K each (Some b) ts v p = each b ts v p

near_take : {B : Type 0} (h : Piece → Option B) (K : B → List Piece → StmtTree → Type 0) → ((b : B) → Near (K b)) → Near (Take h K)
near_take h K each [] v p = absurd p
near_take h K each (t ∷ ts) v p = near_after K each (h t) ts v p

near_deeper : (o : Bool) (L : List Piece → StmtTree → Type 0) → Near L → Near (Deeper o L)
near_deeper true L r ts v p = r ts v p
near_deeper false L r ts v p = absurd p

near_held : (o : Bool) (p : Place) (L : List Piece → StmtTree → Type 0) → Near L → Near (Take (or_left_out (the symbol.Open)) (HeldAfter o (λ _. L) (EmptyOf p)))
near_held o p L r = near_take (or_left_out (the symbol.Open)) (HeldAfter o (λ _. L) (EmptyOf p)) each
  where
    each : (x : Option Place) → Near (HeldAfter o (λ _. L) (EmptyOf p) x)
    each None ts v q = ap far q.1
    each (Some b) ts v q = near_deeper o L r ts v q

started_near : (i : ForInitTree) → far (statement_of i) ≡ false
started_near (DeclareFirst x) = refl
started_near (SimpleFirst s) = refl

module _ (V : Parts) (W : Nests) where
  else_near : (p : Place) (e : ExprTree) (a : StmtTree) (o : Bool) → open_if a ≡ o → Near (ElseEnd V W p e a o)
  else_near p e a true h ts v q = ap far q.1
  else_near p e a false h [] v q = ap far q
  else_near p e a false h (t ∷ ts) v q = near_after (λ (_ : Place). Bind (Governed V W) (λ b. Done (IfElseOf p e a b))) (λ _ ts v r. ap far r.goes_on.1 ∙ h) (the_word word.Else t) ts v q

  if_near : (p : Place) → Near (IfEnd V W p)
  if_near p = near_bind (ParenEnd (V TheExpression)) (λ e. Bind (Governed V W) (λ a. ElseEnd V W p e a (open_if a))) (λ e. near_bind (Governed V W) (λ a. ElseEnd V W p e a (open_if a)) (λ a. else_near p e a (open_if a) refl))

  while_near : (p : Place) → Near (WhileEnd V W p)
  while_near p ts v q = ap far q.goes_on.goes_on.goes_on.1

  for_near : (p : Place) → Near (ForEnd V W p)
  for_near p ts v q = ap far q.goes_on.goes_on.goes_on.1

  expose_near : (p : Place) → Near (ExposeEnd V W p)
  expose_near p ts v q = near_take (the symbol.Close) (λ _. Bind (InnerBlock V W) (λ b. Done (ExposeOf p q.first q.goes_on.first b))) (λ _ ts v r. ap far r.goes_on.1) q.goes_on.back v q.goes_on.goes_on

module _ (o : Bool) (V : Parts) (W : Nests) where
  stmt_near : (h : StmtHead) → Near (StmtAfter o V W h)
  stmt_near (BlockFirst p) ts v q = at o q
    where
      at : (o : Bool) → StmtAfter o V W (BlockFirst p) ts v → far v ≡ false
      at true r = ap far r.goes_on.1
      at false r = absurd r
  stmt_near (StartFirst h) ts v q = near_take (the symbol.Semicolon) (λ _. Done (statement_of q.first)) (λ _ ts v r. ap far r.1 ∙ started_near q.first) q.back v q.goes_on
  stmt_near (IfFirst p) ts v q = near_held o p (IfEnd V W p) (if_near V W p) ts v q
  stmt_near (WhileFirst p) ts v q = near_held o p (WhileEnd V W p) (while_near V W p) ts v q
  stmt_near (ForFirst p) ts v q = near_held o p (ForEnd V W p) (for_near V W p) ts v q
  stmt_near (ReturnFirst p) ts v q = ap far q.goes_on.1
  stmt_near (AssertFirst p) ts v q = ap far q.goes_on.1
  stmt_near (AssumeFirst p) ts v q = ap far q.goes_on.1
  stmt_near (ExposeFirst p) ts v q = near_held o p (ExposeEnd V W p) (expose_near V W p) ts v q
  stmt_near (EmptyFirst p) ts v q = ap far q.1

pub nearest : (d : ℕ) (ts : List Piece) (p : Place) (e : ExprTree) (a b : StmtTree) → NestedAt d TheGoverned ts (IfElseOf p e a b) → open_if a ≡ false
nearest zero ts p e a b q = near_take other_head (StmtAfter false NoParts NoNests) (stmt_near false NoParts NoNests) ts (IfElseOf p e a b) q
nearest (suc d) ts p e a b q = near_take other_head (StmtAfter true (AtLevel d) (NestedAt d)) (stmt_near true (AtLevel d) (NestedAt d)) ts (IfElseOf p e a b) q
