-- A local that a loop doesn't assign in the phase of null isn't assigned in its elaboration.
use Rattle.std.proofs.Common.{◌≡◌, ℕ, List, [], ◌∷◌, ◌++◌, Bool, true, false, Option, Some, None, refl, sym, ◌∙◌, ap}
use Rattle.std.specs.Prelude.{not, is_some, ◌==◌, ◌&&◌}
use Rattle.std.proofs.lemmas.Bool.{and_parts, and_from, eqb-true, eq-eqb, ne_eqb, false≢true}
use Rattle.ss_core.specs.Tree as core
use Rattle.ss_typed.specs.Tree.{ExprTree, LocalOf, DeclaratorTree, SimpleTree, AssignOf, StepOf, InitTree, DeclareFirst, SimpleFirst, BlockTree, BlockOf, StmtTree, InBlock, DeclareOf, SimpleOf, IfOf, IfElseOf, WhileOf, ForOf, ExposeOf, StmtTrees, NoMore, Before}
use Rattle.ss_typed.specs.Types.{type_of}
use Rattle.ss_typed.specs.Shapes.{local_of}
use Rattle.ss_typed.specs.Assigned.{listed, declared_locals, put_locals, first_locals, step_locals, assigned, assigned_in, assigned_along}
use Rattle.ss_paths.specs.Sets.{Set, none, only, without, among}
use Rattle.ss_paths.proofs.Among.{neither, among_neither}
use Rattle.ss_nonnull_rules.specs.NonNull as source
use Rattle.ss_nonnull_rules.specs.Facts.{forgotten}
use Rattle.ss_expand_rules.specs.Numbers.{number}
use Rattle.ss_store_rules.specs.Locals.{each_inside}
use Rattle.ss_store_rules.specs.NonNull.{Known, known_head}
use Rattle.ss_expand_formed.proofs.Targets.{target_passes, simple_passes, declared_pass, begin_passes, advance_passes, stmt_passes, block_passes, all_pass}
use Rattle.ss_expand_formed.proofs.Kept.{spares}
use Rattle.ss_expand_formed.specs.Fitting.{Frame, fits, target_fits, is_number, assigned_fits, simple_fits, begins_fitting, declarator_fits, declared_fit, begin_fits, may_fit, advance_fits, stmt_fits, block_fits, all_fitting, Agrees, Covers}

not_only : (x y : ℕ) → only x y ≡ false → (x == y) ≡ false
unfolding only
not_only x y h = h

pub without_is : (f g : Set) (x : ℕ) → without f g x ≡ true → (f x && not (g x)) ≡ true
unfolding without
without_is f g x h = h

module _ (z : Frame) (agrees : Agrees z) where
  module _ (x0 : ℕ) (own : z.locals x0 ≡ true) where
    abbrev y : ℕ
    y = number z.numbers x0

    abbrev f : ℕ → Bool
    f x = not (number z.numbers x == y)

    abbrev g : ℕ → Bool
    g x = not (x == y)

    other : (x : ℕ) → z.locals x ≡ true → (x == x0) ≡ false → f x ≡ true
    other x l h = ap not (ne_eqb (number z.numbers x) y (λ e. absurd (false≢true (sym h ∙ eq-eqb x x0 (agrees.apart x x0 l own e)))))

    target_quiet : (l : ExprTree) → target_fits z l ≡ true → among (listed (local_of l)) x0 ≡ false → target_passes f l ≡ true
    target_quiet (LocalOf p x t) h i = other x (and_parts (z.locals x) _ h).0 (not_only x x0 (neither (only x) none x0 i).0)
    target_quiet l h i = refl

    simple_quiet : (s : SimpleTree) → simple_fits z s ≡ true → among (put_locals s) x0 ≡ false → simple_passes f s ≡ true
    simple_quiet (AssignOf l o e) h i =
        let one = and_parts (target_fits z l && fits z l && fits z e && is_some (type_of e)) (assigned_fits z l o e) h in
        let two = and_parts (target_fits z l && fits z l && fits z e) (is_some (type_of e)) one.0 in
        let three = and_parts (target_fits z l && fits z l) (fits z e) two.0 in
        target_quiet l (and_parts (target_fits z l) (fits z l) three.0).0 i
    simple_quiet (StepOf l o) h i =
        let one = and_parts (target_fits z l && fits z l) (is_number z l) h in
        target_quiet l (and_parts (target_fits z l) (fits z l) one.0).0 i
    simple_quiet s h i = refl

    declared_quiet : (ds : List DeclaratorTree) → declared_fit z ds ≡ true → among (declared_locals ds) x0 ≡ false → declared_pass g ds ≡ true
    declared_quiet [] h i = refl
    declared_quiet (d ∷ ds) h i =
        let both = and_parts (declarator_fits z d) (declared_fit z ds) h in
        let parts = neither (only d.local) (among (declared_locals ds)) x0 i in
        let one = and_parts (z.locals d.local && number z.numbers d.local == d.local && _) (begins_fitting z d.local d.initial) both.0 in
        let two = and_parts (z.locals d.local && number z.numbers d.local == d.local) _ one.0 in
        let three = and_parts (z.locals d.local) (number z.numbers d.local == d.local) two.0 in
        let same = eqb-true (number z.numbers d.local) d.local three.1 in
        and_from _ _ (ap (λ n. not (n == y)) (sym same) ∙ other d.local three.0 (not_only d.local x0 parts.0)) (declared_quiet ds both.1 parts.1)

    begin_quiet : (i : Option InitTree) → begin_fits z i ≡ true → among (first_locals i) x0 ≡ false → begin_passes f g i ≡ true
    begin_quiet None h j = refl
    begin_quiet (Some (DeclareFirst ds)) h j = declared_quiet ds h j
    begin_quiet (Some (SimpleFirst s)) h j = simple_quiet s h j

    pub step_quiet : (s : Option SimpleTree) → advance_fits z s ≡ true → among (step_locals s) x0 ≡ false → advance_passes f s ≡ true
    step_quiet None h j = refl
    step_quiet (Some s) h j = simple_quiet s h j

    mutual
      pub stmt_quiet : (s : StmtTree) → stmt_fits z s ≡ true → among (assigned s) x0 ≡ false → stmt_passes f g s ≡ true
      stmt_quiet (InBlock b) h i = block_quiet b h i
      stmt_quiet (DeclareOf ds) h i = declared_quiet ds h i
      stmt_quiet (SimpleOf s) h i = simple_quiet s h i
      stmt_quiet (IfOf p e a) h i = stmt_quiet a (and_parts (fits z e) (stmt_fits z a) h).1 i
      stmt_quiet (IfElseOf p e a b) h i =
          let one = and_parts (fits z e && stmt_fits z a) (stmt_fits z b) h in
          let parts = among_neither (assigned a) (assigned b) x0 i in
          and_from _ _ (stmt_quiet a (and_parts (fits z e) (stmt_fits z a) one.0).1 parts.0) (stmt_quiet b one.1 parts.1)
      stmt_quiet (WhileOf p e is a) h i = stmt_quiet a (and_parts (fits z e) (stmt_fits z a) h).1 i
      stmt_quiet (ForOf p j e s is a) h i =
          let one = and_parts (begin_fits z j && may_fit z e && advance_fits z s) (stmt_fits z a) h in
          let two = and_parts (begin_fits z j && may_fit z e) (advance_fits z s) one.0 in
          let three = and_parts (begin_fits z j) (may_fit z e) two.0 in
          let parts = among_neither (first_locals j) (assigned a ++ step_locals s) x0 i in
          let rest = among_neither (assigned a) (step_locals s) x0 parts.1 in
          and_from _ _ (begin_quiet j three.0 parts.0) (and_from _ _ (step_quiet s two.1 rest.1) (stmt_quiet a one.1 rest.0))
      stmt_quiet (ExposeOf p e t b) h i = block_quiet b (and_parts (fits z e) (block_fits z b) h).1 i
      stmt_quiet s h i = refl

      block_quiet : (b : BlockTree) → block_fits z b ≡ true → among (assigned_in b) x0 ≡ false → block_passes f g b ≡ true
      block_quiet (BlockOf p ss end) h i = all_quiet ss h i

      all_quiet : (ss : StmtTrees) → all_fitting z ss ≡ true → among (assigned_along ss) x0 ≡ false → all_pass f g ss ≡ true
      all_quiet NoMore h i = refl
      all_quiet (Before s ss) h i =
          let both = and_parts (stmt_fits z s) (all_fitting z ss) h in
          let parts = among_neither (assigned s) (assigned_along ss) x0 i in
          and_from _ _ (stmt_quiet s both.0 parts.0) (all_quiet ss both.1 parts.1)

  -- at the head of a loop the elaboration knows what the phase does
  pub head_covers : (k : source.Known) (l : Known) (a : StmtTree) (step : Option SimpleTree) (s : core.StmtTree) → Covers z k l → ((x : ℕ) → z.locals x ≡ true → among (assigned a) x ≡ false → among (step_locals step) x ≡ false → each_inside (spares (number z.numbers x)) s ≡ true) →
      Covers z (record k { facts = forgotten a step k.facts }) (known_head s l)
  head_covers k l a step s c quiet = record {
    facts = λ x i. let both = parts x i in and_from _ _ (c.facts x both.0) (rest x (c.mine x both.0) both.1);
    mine = λ x i. c.mine x (parts x i).0;
    fields = c.fields;
    free = c.free;
  }
    where
      parts : (x : ℕ) → forgotten a step k.facts x ≡ true → (k.facts x ≡ true) × (not (among (assigned a ++ step_locals step) x) ≡ true)
      parts x i = and_parts (k.facts x) (not (among (assigned a ++ step_locals step) x)) (without_is k.facts (among (assigned a ++ step_locals step)) x i)

      not_is : (b : Bool) → not b ≡ true → b ≡ false
      not_is true h = absurd (false≢true h)
      not_is false h = refl

      rest : (x : ℕ) → z.mine x ≡ true → not (among (assigned a ++ step_locals step) x) ≡ true → not (not (each_inside (spares (number z.numbers x)) s)) ≡ true
      rest x m i =
          let no = among_neither (assigned a) (step_locals step) x (not_is (among (assigned a ++ step_locals step) x) i) in
          ap (λ b. not (not b)) (quiet x (agrees.known x m) no.0 no.1)
