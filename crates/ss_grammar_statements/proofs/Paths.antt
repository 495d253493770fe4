-- Reading paths and simple statements finds what the grammar says.
use Rattle.std.proofs.Common.{◌≡◌, ℕ, suc, List, [], ◌∷◌, ◌++◌, true, false, refl, pos}
use Rattle.ss_core.specs.declared.names.Place.{Place}
use Rattle.ss_ast.specs.Expressions.{ExprTree, NumberOf, ParenOf}
use Rattle.ss_ast.specs.Statements.{AssignOf, StepOf, AloneOf, SimpleFirst}
use Rattle.ss_grammar.specs.Language.{Done, Starts}
use Rattle.ss_grammar.proofs.Parts.{to_as}
use Rattle.ss_grammar_expressions.specs.Heads.{Piece}
use Rattle.ss_grammar_expressions.specs.Grammar.{Part, TheExpression, TheRange, Value, Parts, NoParts, ParenEnd, no_place, Postfixes, WholeExpression}
use Rattle.ss_grammar_expressions.specs.Parser.{Gets, Inner, give, paren_end, postfixes, whole_expression}
use Rattle.ss_grammar_expressions.proofs.Opening.{to_above}
use Rattle.ss_grammar_expressions.proofs.Sets.{In, PartOf, larger, done, may_be_empty, seq}
use Rattle.ss_grammar_expressions.proofs.Levels.{may_open}
use Rattle.ss_grammar_expressions.proofs.Pieces.{unary_first, postfix_set, expr_goes}
use Rattle.ss_grammar_expressions.proofs.Expressions.{inner_parts, inner_readers, paren_end_to, postfixes_to, old_to, new_to, quantified_to}
use Rattle.ss_grammar_expressions.proofs.Unaries.{number_piece}
use Rattle.ss_grammar_statements.specs.Heads.{PrimHead, ParenPrim, LeafPrim, OldPrim, NewPrim, QuantifierPrim, prim_place, prim_head, prim_opens, SimpleHead, AssignHead, StepHead, simple_head}
use Rattle.ss_grammar_statements.specs.Grammar.{PrimAfter, Prim, PostAfter, Post, SimpleAfter, SimpleEnd, Simple, SimpleThen, SimpleFrom}
use Rattle.ss_grammar_statements.specs.Parser.{prim_after, prim, post_after, post, simple_after, simple_end, simple, simple_then, simple_from}
use Rattle.ss_grammar_statements.proofs.Pieces.{prim_first, prim_in, simple_set, simple_goes, simple_in}
use Rattle.ss_grammar_statements.proofs.Parts.{perhaps}
use Rattle.ss_grammar_statements.proofs.Openings.{take_heads}

-- a `(` opens a level
pub prim_never : (h : PrimHead) → prim_opens h ≡ true → (ts : List Piece) (v : ExprTree) → PrimAfter false NoParts h ts v → ⊥
prim_never (ParenPrim p) e ts v q = q
prim_never (LeafPrim p x) e ts v q = cc
prim_never (OldPrim p) e ts v q = cc
prim_never (NewPrim p) e ts v q = cc
prim_never (QuantifierPrim p k) e ts v q = cc

pub post_never : (h : PrimHead) → prim_opens h ≡ true → (ts : List Piece) (v : ExprTree) → PostAfter false NoParts h ts v → ⊥
post_never h e ts v q = prim_never h e q.front q.first q.reads

-- what may stand after the first token of a path
abbrev pub prim_set : List ℕ
prim_set = 36 ∷ 13 ∷ 50 ∷ 51 ∷ 52 ∷ unary_first

abbrev pub post_set : List ℕ
post_set = 22 ∷ 17 ∷ prim_set

module _ (n : ℕ) (U : (i : Part) → ℕ → List Piece → Value i → Type 0) (u : (i : Part) → ℕ → Gets (Value i)) (inner : PartOf n (U TheExpression) unary_first expr_goes false (u TheExpression)) (range_part : PartOf n (U TheRange) (36 ∷ 15 ∷ []) [] false (u TheRange)) (whole : PartOf (suc n) (λ d. WholeExpression (may_open d) (inner_parts U d)) unary_first expr_goes false (λ d. whole_expression d (inner_readers u d))) where
  abbrev V : ℕ → Parts
  V d = inner_parts U d

  abbrev w : ℕ → Inner
  w d = inner_readers u d

  abbrev Prims : PrimHead → ℕ → List Piece → ExprTree → Type 0
  Prims h d = PrimAfter (may_open d) (V d) h

  abbrev prims : PrimHead → ℕ → Gets ExprTree
  prims h d = prim_after d (w d) h

  abbrev Posts : PrimHead → ℕ → List Piece → ExprTree → Type 0
  Posts h d = PostAfter (may_open d) (V d) h

  abbrev posts : PrimHead → ℕ → Gets ExprTree
  posts h d = post_after d (w d) h

  prim_open : (h : PrimHead) → prim_opens h ≡ true → PartOf n (λ d. Prims h (suc d)) prim_set [] true (λ d. prims h (suc d))
  unfolding prim_after
  prim_open (ParenPrim p) e = larger n (λ d. Prims (ParenPrim p) (suc d)) unary_first [] prim_set [] true (λ d. prims (ParenPrim p) (suc d)) refl refl
      (may_be_empty n (λ d. Prims (ParenPrim p) (suc d)) unary_first [] false (λ d. prims (ParenPrim p) (suc d))
      (to_as n (λ d. ParenEnd (U TheExpression d)) (In unary_first) (In []) (λ d. paren_end (u TheExpression d)) (λ x. ParenOf p x) (paren_end_to n (U TheExpression) (u TheExpression) inner)))
  prim_open (LeafPrim p x) e = absurd cc
  prim_open (OldPrim p) e = absurd cc
  prim_open (NewPrim p) e = absurd cc
  prim_open (QuantifierPrim p q) e = absurd cc

  held : (h : PrimHead) (f : List ℕ) → PartOf (suc n) (Prims h) f [] false (prims h) → PartOf (suc n) (Prims h) f [] true (prims h)
  held h f r = may_be_empty (suc n) (Prims h) f [] false (prims h) r

  prim_leaf : (h : PrimHead) → prim_opens h ≡ false → PartOf (suc n) (Prims h) prim_set [] true (prims h)
  unfolding prim_after
  prim_leaf (ParenPrim p) e = absurd cc
  prim_leaf (LeafPrim p x) e = larger (suc n) (Prims (LeafPrim p x)) [] [] prim_set [] true (prims (LeafPrim p x)) refl refl (done (suc n) x)
  prim_leaf (OldPrim p) e = larger (suc n) (Prims (OldPrim p)) (36 ∷ 15 ∷ []) [] prim_set [] true (prims (OldPrim p)) refl refl (held (OldPrim p) (36 ∷ 15 ∷ []) (old_to n U u inner range_part p))
  prim_leaf (NewPrim p) e = larger (suc n) (Prims (NewPrim p)) (32 ∷ 50 ∷ 51 ∷ 52 ∷ []) [] prim_set [] true (prims (NewPrim p)) refl refl (held (NewPrim p) (32 ∷ 50 ∷ 51 ∷ 52 ∷ []) (new_to n U u inner range_part p))
  prim_leaf (QuantifierPrim p q) e = larger (suc n) (Prims (QuantifierPrim p q)) (36 ∷ 13 ∷ []) [] prim_set [] true (prims (QuantifierPrim p q)) refl refl (held (QuantifierPrim p q) (36 ∷ 13 ∷ []) (quantified_to n U u inner range_part p q))

  prim_some : Starts (Prim (may_open 0) (V 0)) []
  prim_some = record { more = number_piece ∷ []; value = NumberOf no_place (pos 0); reads = (refl, refl) }

  pub prim_to : PartOf (suc n) (λ d. Prim (may_open d) (V d)) prim_first [] false (λ d. prim d (w d))
  unfolding prim
  prim_to = take_heads n prim_head prim_first prim_in prim_opens Prims prims prim_set [] true prim_never prim_open prim_leaf prim_some

  -- ---- a path

  postfixes_above : (p : Place) (a : ExprTree) → PartOf n (λ d. Postfixes true (V (suc d)) p a) postfix_set postfix_set true (λ d. postfixes (suc d) (w (suc d)) p a)
  postfixes_above p a = to_above n (λ d. Postfixes (may_open d) (V d) p a) (In postfix_set) (In postfix_set) true (λ d. postfixes d (w d) p a) (postfixes_to n U u inner range_part p a)

  pub post_open : (h : PrimHead) → prim_opens h ≡ true → PartOf n (λ d. Posts h (suc d)) post_set postfix_set true (λ d. posts h (suc d))
  unfolding post_after
  post_open h e = larger n (λ d. Posts h (suc d)) (prim_set ++ postfix_set) (postfix_set ++ []) post_set postfix_set true (λ d. posts h (suc d)) refl refl
      (seq n true true (λ d. Prims h (suc d)) (λ a d. Postfixes true (V (suc d)) (prim_place h) a) prim_set [] postfix_set postfix_set (λ d. prims h (suc d)) (λ a d. postfixes (suc d) (w (suc d)) (prim_place h) a) (prim_open h e) (postfixes_above (prim_place h)) refl)

  pub post_leaf : (h : PrimHead) → prim_opens h ≡ false → PartOf (suc n) (Posts h) post_set postfix_set true (posts h)
  unfolding post_after
  post_leaf h e = larger (suc n) (Posts h) (prim_set ++ postfix_set) (postfix_set ++ []) post_set postfix_set true (posts h) refl refl
      (seq (suc n) true true (Prims h) (λ a d. Postfixes (may_open d) (V d) (prim_place h) a) prim_set [] postfix_set postfix_set (prims h) (λ a d. postfixes d (w d) (prim_place h) a) (prim_leaf h e) (postfixes_to n U u inner range_part (prim_place h)) refl)

  abbrev number : ExprTree
  number = NumberOf no_place (pos 0)

  post_some : Starts (Post (may_open 0) (V 0)) []
  post_some = record { more = number_piece ∷ []; value = number; reads = record { first = number; front = []; back = []; parts = refl; reads = (refl, refl); goes_on = (0, (refl, refl)) } }

  pub post_to : PartOf (suc n) (λ d. Post (may_open d) (V d)) prim_first postfix_set false (λ d. post d (w d))
  unfolding post
  post_to = take_heads n prim_head prim_first prim_in prim_opens Posts posts post_set postfix_set true post_never post_open post_leaf post_some

  -- ---- what is after a path

  simple_after_to : (a : ExprTree) (h : SimpleHead) → PartOf (suc n) (λ d. SimpleAfter (may_open d) (V d) a h) unary_first expr_goes true (λ d. simple_after d (w d) a h)
  unfolding simple_after
  simple_after_to a (AssignHead op) = may_be_empty (suc n) (λ d. SimpleAfter (may_open d) (V d) a (AssignHead op)) unary_first expr_goes false (λ d. simple_after d (w d) a (AssignHead op))
      (to_as (suc n) (λ d. WholeExpression (may_open d) (V d)) (In unary_first) (In expr_goes) (λ d. whole_expression d (w d)) (λ e. AssignOf a op e) whole)
  simple_after_to a (StepHead op) = larger (suc n) (λ d. SimpleAfter (may_open d) (V d) a (StepHead op)) [] [] unary_first expr_goes true (λ d. simple_after d (w d) a (StepHead op)) refl refl (done (suc n) (StepOf a op))

  simple_end_to : (a : ExprTree) → PartOf (suc n) (λ d. SimpleEnd (may_open d) (V d) a) simple_set simple_goes true (λ d. simple_end d (w d) a)
  unfolding simple_end
  simple_end_to a = perhaps (suc n) simple_head simple_set simple_in (λ h d. SimpleAfter (may_open d) (V d) a h) unary_first expr_goes true (λ h d. simple_after d (w d) a h) (simple_after_to a) (AloneOf a)

  pub simple_to : PartOf (suc n) (λ d. Simple (may_open d) (V d)) prim_first simple_goes false (λ d. simple d (w d))
  unfolding simple
  simple_to = larger (suc n) (λ d. Simple (may_open d) (V d)) prim_first (simple_goes ++ postfix_set) prim_first simple_goes false (λ d. simple d (w d)) refl refl
      (seq (suc n) false true (λ d. Post (may_open d) (V d)) (λ a d. SimpleEnd (may_open d) (V d) a) prim_first postfix_set simple_set simple_goes (λ d. post d (w d)) (λ a d. simple_end d (w d) a) post_to simple_end_to refl)

  pub simple_then_to : (a : ExprTree) → PartOf (suc n) (λ d. SimpleThen (may_open d) (V d) a) simple_set simple_goes true (λ d. simple_then d (w d) a)
  unfolding simple_then
  simple_then_to a = larger (suc n) (λ d. SimpleThen (may_open d) (V d) a) (simple_set ++ []) ([] ++ simple_goes) simple_set simple_goes true (λ d. simple_then d (w d) a) refl refl
      (seq (suc n) true true (λ d. SimpleEnd (may_open d) (V d) a) (λ s d. Done (SimpleFirst s)) simple_set simple_goes [] [] (λ d. simple_end d (w d) a) (λ s d. give (SimpleFirst s)) (simple_end_to a) (λ s. done (suc n) (SimpleFirst s)) refl)

  pub simple_from_to : (p : Place) (a : ExprTree) → PartOf (suc n) (λ d. SimpleFrom (may_open d) (V d) p a) (postfix_set ++ simple_set) simple_goes true (λ d. simple_from d (w d) p a)
  unfolding simple_from
  simple_from_to p a = larger (suc n) (λ d. SimpleFrom (may_open d) (V d) p a) (postfix_set ++ simple_set) (simple_goes ++ postfix_set) (postfix_set ++ simple_set) simple_goes true (λ d. simple_from d (w d) p a) refl refl
      (seq (suc n) true true (λ d. Postfixes (may_open d) (V d) p a) (λ b d. SimpleThen (may_open d) (V d) b) postfix_set postfix_set simple_set simple_goes (λ d. postfixes d (w d) p a) (λ b d. simple_then d (w d) b) (postfixes_to n U u inner range_part p a) simple_then_to refl)
