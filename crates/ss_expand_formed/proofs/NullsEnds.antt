-- After a statement whose end can't be reached nothing is known.
use Rattle.std.proofs.Common.{◌≡◌, Bool, true, false, Option, Some, None, refl, sym, ◌∙◌, ap}
use Rattle.std.specs.Prelude.{not, ◌&&◌}
use Rattle.std.proofs.lemmas.Bool.{false≢true}
use Rattle.ss_core.specs.declared.names.Place.{Place}
use Rattle.ss_typed.specs.Tree.{ExprTree, BoolOf, BlockTree, BlockOf, StmtTree, InBlock, DeclareOf, SimpleOf, IfOf, IfElseOf, WhileOf, ForOf, ReturnOf, AssertOf, AssumeOf, ExposeOf, EmptyOf, StmtTrees, NoMore, Before}
use Rattle.ss_paths.specs.Paths.{Flow, test_of, left, behind, after_block, at_end, begun}
use Rattle.ss_typed.specs.Shapes.{is_true}
use Rattle.ss_expand_rules.specs.Ends.{can_end, block_can_end, all_can_end, is_always}
use Rattle.ss_expand_formed.proofs.Facts.{or_false}

pub not_false : (a : Bool) → not a ≡ false → a ≡ true
not_false true h = refl
not_false false h = absurd (false≢true (sym h))

module _ {S : Type 0} (f : Flow S) where
  pub none_after : (ss : StmtTrees) → at_end f ss None ≡ None
  none_after NoMore = refl
  none_after (Before s ss) = refl

  left_none : (e : ExprTree) (k : S) → is_true e ≡ true → left f e k ≡ None
  left_none e k h = rw h refl

  always : (p : Place) (e : Option ExprTree) → is_always e ≡ true → is_true (test_of p e) ≡ true
  always p None h = refl
  always p (Some e) h = h

  by_ends : (a b : Bool) (ss : StmtTrees) (k : Option S) → (a ≡ false → k ≡ None) → (b ≡ false → at_end f ss k ≡ None) → (a && b) ≡ false → at_end f ss k ≡ None
  by_ends true b ss k g h i = h i
  by_ends false b ss k g h i = ap (at_end f ss) (g refl) ∙ none_after ss

  mutual
    pub no_end : (s : StmtTree) (k : S) → can_end s ≡ false → behind f s k ≡ None
    no_end (InBlock b) k h = no_block_end b k h
    no_end (DeclareOf ds) k h = absurd (false≢true (sym h))
    no_end (SimpleOf x) k h = absurd (false≢true (sym h))
    no_end (IfOf p e a) k h = absurd (false≢true (sym h))
    no_end (IfElseOf p e a b) k h =
        let both = or_false (can_end a) (can_end b) h in
        let one = no_end a (f.tested e true k) both.0 in
        let two = no_end b (f.tested e false k) both.1 in
        rw (one, two) refl
    no_end (WhileOf p e is a) k h = left_none e (f.head a None k) (not_false (is_true e) h)
    no_end (ForOf p i e x is a) k h = left_none (test_of p e) (f.head a x (begun f i k)) (always p e (not_false (is_always e) h))
    no_end (ReturnOf p e) k h = refl
    no_end (AssertOf p e) k h = absurd (false≢true (sym h))
    no_end (AssumeOf p e) k h = absurd (false≢true (sym h))
    no_end (ExposeOf p e t b) k h = no_block_end b k h
    no_end (EmptyOf p) k h = absurd (false≢true (sym h))

    no_block_end : (b : BlockTree) (k : S) → block_can_end b ≡ false → after_block f b k ≡ None
    no_block_end (BlockOf p ss end) k h = no_end_along ss (Some k) h

    no_end_along : (ss : StmtTrees) (k : Option S) → all_can_end ss ≡ false → at_end f ss k ≡ None
    no_end_along NoMore k h = absurd (false≢true (sym h))
    no_end_along (Before s ss) None h = refl
    no_end_along (Before s ss) (Some k) h = by_ends (can_end s) (all_can_end ss) ss (behind f s k) (λ i. no_end s k i) (λ i. no_end_along ss (behind f s k) i) h
