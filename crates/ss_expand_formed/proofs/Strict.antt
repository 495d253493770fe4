-- What reads only what is in scope, nothing of `this` by another walk, and no `result` by the rules of ownership, does all at once.
use Rattle.std.proofs.Common.{◌≡◌, ℕ, List, [], ◌∷◌, ◌++◌, Bool, true, false, Option, Some, None, refl, sym, subst}
use Rattle.std.specs.Prelude.{◌&&◌}
use Rattle.std.specs.List.{list_all}
use Rattle.std.proofs.lemmas.Bool.{and_parts, and_from, false≢true}
use Rattle.ss_core.specs.declared.names.Place.{Place}
use Rattle.ss_typed.specs.Tree.{ExprTree, ThisOf, LocalOf, ResultOf, IffOf, ImpliesOf, BinaryOf, IsOf, AsOf, NegateOf, NotOf, CastOf, FieldOf, ElementOf, LengthOf, OldOf, QuantifiedOf, StateOf, OwnersOf, NewOf, NewArrayOf, CallOf, StaticOf, BaseOf, Arguments, NoMore, Argument, DeclaratorTree, SimpleTree, AssignOf, StepOf, AloneOf, PrintOf, PrintTextOf, BaseCallOf, InitTree, DeclareFirst, SimpleFirst, BlockTree, BlockOf, StmtTree, InBlock, DeclareOf, SimpleOf, IfOf, IfElseOf, WhileOf, ForOf, ReturnOf, AssertOf, AssumeOf, ExposeOf, EmptyOf, StmtTrees, Before}
use Rattle.ss_typed.specs.Tree as typed
use Rattle.ss_owners_rules.specs.Words.{Allowed, NoWord, OfEntry, allows_old, allows_question, allows_result, allows_state, unless, misplaced, misplaced_each, misplaced_in_all, misplaced_if, misplaced_declared, misplaced_done, misplaced_first, misplaced_step, misplaced_at, misplaced_in, misplaced_along}
use Rattle.ss_expand_formed.proofs.Facts.{none_left}
use Rattle.ss_expand_formed.proofs.AssignedReading.{May, reads, read_all, may_read, with_local, with_declared, declared_read, simple_reads, begin_reads, with_begun, step_reads, behind, stmt_reads, block_reads, all_read}

-- without `result`, and without `this` where the other has none
abbrev pub strictly : May → May → May
strictly m n = record m { this = m.this && n.this; result = false }

not_there : (b : Bool) (p : Place) → b ≡ false → unless b p ≡ [] → ⊥
not_there true p h g = false≢true (sym h)
not_there false p h g = let x : ⊥ = cc in x

-- ---- expressions

module _ (m n : May) (w : Allowed) (none : allows_result w ≡ false) where
  abbrev Strict : ExprTree → Type 0
  Strict e = reads m e ≡ true → reads n e ≡ true → misplaced w e ≡ [] → reads (strictly m n) e ≡ true

  abbrev AllStrict : Arguments → Type 0
  AllStrict es = read_all m es ≡ true → read_all n es ≡ true → misplaced_each w es ≡ [] → read_all (strictly m n) es ≡ true

  two : (a b : ExprTree) → Strict a → Strict b → (reads m a && reads m b) ≡ true → (reads n a && reads n b) ≡ true → misplaced w a ++ misplaced w b ≡ [] → (reads (strictly m n) a && reads (strictly m n) b) ≡ true
  two a b f g h i j =
      let one = and_parts (reads m a) (reads m b) h in
      let other = and_parts (reads n a) (reads n b) i in
      let words = none_left (misplaced w a) (misplaced w b) j in
      and_from _ _ (f one.0 other.0 words.0) (g one.1 other.1 words.1)

  with_arguments : (a : ExprTree) (es : Arguments) → Strict a → AllStrict es → (reads m a && read_all m es) ≡ true → (reads n a && read_all n es) ≡ true → misplaced w a ++ misplaced_each w es ≡ [] → (reads (strictly m n) a && read_all (strictly m n) es) ≡ true
  with_arguments a es f g h i j =
      let one = and_parts (reads m a) (read_all m es) h in
      let other = and_parts (reads n a) (read_all n es) i in
      let words = none_left (misplaced w a) (misplaced_each w es) j in
      and_from _ _ (f one.0 other.0 words.0) (g one.1 other.1 words.1)

  mutual
    pub strict : (e : ExprTree) → Strict e
    strict (ThisOf p t) h i j = and_from _ _ h i
    strict (LocalOf p x t) h i j = h
    strict (ResultOf p t) h i j = absurd (not_there (allows_result w) p none j)
    strict (IffOf p a b) h i j = two a b (strict a) (strict b) h i j
    strict (ImpliesOf p a b) h i j = two a b (strict a) (strict b) h i j
    strict (BinaryOf p o a b) h i j = two a b (strict a) (strict b) h i j
    strict (IsOf p e t) h i j = strict e h i j
    strict (AsOf p e t) h i j = strict e h i j
    strict (NegateOf p e) h i j = strict e h i j
    strict (NotOf p e) h i j = strict e h i j
    strict (CastOf p t non_null e) h i j = strict e h i j
    strict (FieldOf p e f t) h i j = strict e h i j
    strict (ElementOf p a b) h i j = two a b (strict a) (strict b) h i j
    strict (LengthOf p e) h i j = strict e h i j
    strict (OldOf p e) h i j = strict e h i (none_left (unless (allows_old w) p) (misplaced w e) j).1
    strict (QuantifiedOf p q name low high e) h i j =
        let one = and_parts (reads m low) (reads m high && reads m e) h in
        let other = and_parts (reads n low) (reads n high && reads n e) i in
        let words = none_left (misplaced w low ++ misplaced w high) (misplaced w e) j in
        let bounds = none_left (misplaced w low) (misplaced w high) words.0 in
        let more = and_parts (reads m high) (reads m e) one.1 in
        let others = and_parts (reads n high) (reads n e) other.1 in
        and_from _ _ (strict low one.0 other.0 bounds.0) (and_from _ _ (strict high more.0 others.0 bounds.1) (strict e more.1 others.1 words.1))
    strict (StateOf p q e) h i j = strict e h i (none_left (unless (allows_state w q) p) (misplaced w e) j).1
    strict (OwnersOf p q a b) h i j =
        let words = none_left (unless (allows_question w) p ++ misplaced w a) (misplaced w b) j in
        let front = none_left (unless (allows_question w) p) (misplaced w a) words.0 in
        let one = and_parts (reads m a) (reads m b) h in
        let other = and_parts (reads n a) (reads n b) i in
        and_from _ _ (strict a one.0 other.0 front.1) (strict b one.1 other.1 words.1)
    strict (NewOf p t es) h i j = all_strict es h i j
    strict (NewArrayOf p t e) h i j = strict e h i j
    strict (CallOf p e k t es) h i j = with_arguments e es (strict e) (all_strict es) h i j
    strict (StaticOf p k t es) h i j = all_strict es h i j
    strict (BaseOf p k t es) h i j = all_strict es h i j
    strict e h i j = refl

    pub all_strict : (es : Arguments) → AllStrict es
    all_strict NoMore h i j = refl
    all_strict (Argument e es) h i j = with_arguments e es (strict e) (all_strict es) h i j

  list_strict : (es : List ExprTree) → list_all (reads m) es ≡ true → list_all (reads n) es ≡ true → misplaced_in_all w es ≡ [] → list_all (reads (strictly m n)) es ≡ true
  list_strict [] h i j = refl
  list_strict (e ∷ es) h i j =
      let one = and_parts (reads m e) (list_all (reads m) es) h in
      let other = and_parts (reads n e) (list_all (reads n) es) i in
      let words = none_left (misplaced w e) (misplaced_in_all w es) j in
      and_from _ _ (strict e one.0 other.0 words.0) (list_strict es one.1 other.1 words.1)

  pub may_strict : (e : Option ExprTree) → may_read m e ≡ true → may_read n e ≡ true → misplaced_if w e ≡ [] → may_read (strictly m n) e ≡ true
  may_strict None h i j = refl
  may_strict (Some e) h i j = strict e h i j

-- ---- statements

declared_strictly : (m n : May) (ds : List DeclaratorTree) → with_declared (strictly m n) ds ≡ strictly (with_declared m ds) (with_declared n ds)
declared_strictly m n [] = refl
declared_strictly m n (d ∷ ds) = declared_strictly (with_local m d.local) (with_local n d.local) ds

begun_strictly : (m n : May) (i : Option InitTree) → with_begun (strictly m n) i ≡ strictly (with_begun m i) (with_begun n i)
begun_strictly m n None = refl
begun_strictly m n (Some (DeclareFirst ds)) = declared_strictly m n ds
begun_strictly m n (Some (SimpleFirst s)) = refl

after_strictly : (m n : May) (s : StmtTree) → behind (strictly m n) s ≡ strictly (behind m s) (behind n s)
after_strictly m n (DeclareOf ds) = declared_strictly m n ds
after_strictly m n s = refl

module _ (own other : ℕ → Bool) where
  declared_strict : (m n : May) (ds : List DeclaratorTree) → declared_read own m ds ≡ true → declared_read other n ds ≡ true → misplaced_declared ds ≡ [] → declared_read own (strictly m n) ds ≡ true
  declared_strict m n [] h i j = refl
  declared_strict m n (d ∷ ds) h i j =
      let one = and_parts (own d.local) (may_read m d.initial && declared_read own (with_local m d.local) ds) h in
      let ones = and_parts (may_read m d.initial) (declared_read own (with_local m d.local) ds) one.1 in
      let second = and_parts (other d.local) (may_read n d.initial && declared_read other (with_local n d.local) ds) i in
      let seconds = and_parts (may_read n d.initial) (declared_read other (with_local n d.local) ds) second.1 in
      let words = none_left (misplaced_if NoWord d.initial) (misplaced_declared ds) j in
      and_from _ _ one.0 (and_from _ _ (may_strict m n NoWord refl d.initial ones.0 seconds.0 words.0) (declared_strict (with_local m d.local) (with_local n d.local) ds ones.1 seconds.1 words.1))

  simple_strict : (m n : May) (s : SimpleTree) → simple_reads m s ≡ true → simple_reads n s ≡ true → misplaced_done s ≡ [] → simple_reads (strictly m n) s ≡ true
  simple_strict m n (AssignOf target o e) h i j = two m n NoWord refl target e (strict m n NoWord refl target) (strict m n NoWord refl e) h i j
  simple_strict m n (StepOf target o) h i j = strict m n NoWord refl target h i j
  simple_strict m n (AloneOf e) h i j = strict m n NoWord refl e h i j
  simple_strict m n (PrintOf p e line) h i j = may_strict m n NoWord refl e h i j
  simple_strict m n (PrintTextOf p text line) h i j = refl
  simple_strict m n (BaseCallOf p es) h i j = all_strict m n NoWord refl es h i j

  begin_strict : (m n : May) (b : Option InitTree) → begin_reads own m b ≡ true → begin_reads other n b ≡ true → misplaced_first b ≡ [] → begin_reads own (strictly m n) b ≡ true
  begin_strict m n None h i j = refl
  begin_strict m n (Some (DeclareFirst ds)) h i j = declared_strict m n ds h i j
  begin_strict m n (Some (SimpleFirst s)) h i j = simple_strict m n s h i j

  step_strict : (m n : May) (s : Option SimpleTree) → step_reads m s ≡ true → step_reads n s ≡ true → misplaced_step s ≡ [] → step_reads (strictly m n) s ≡ true
  step_strict m n None h i j = refl
  step_strict m n (Some s) h i j = simple_strict m n s h i j

  -- the statements of a `for`, where its locals are in scope
  abbrev inner_reads : (ℕ → Bool) → May → Option ExprTree → Option SimpleTree → List ExprTree → StmtTree → Bool
  inner_reads f m e s is a = may_read m e && (step_reads m s && (list_all (reads m) is && stmt_reads f m a))

  mutual
    stmt_strict : (m n : May) (s : StmtTree) → stmt_reads own m s ≡ true → stmt_reads other n s ≡ true → misplaced_at s ≡ [] → stmt_reads own (strictly m n) s ≡ true
    stmt_strict m n (InBlock b) h i j = block_strict m n b h i j
    stmt_strict m n (DeclareOf ds) h i j = declared_strict m n ds h i j
    stmt_strict m n (SimpleOf s) h i j = simple_strict m n s h i j
    stmt_strict m n (IfOf p e a) h i j =
        let one = and_parts (reads m e) (stmt_reads own m a) h in
        let also = and_parts (reads n e) (stmt_reads other n a) i in
        let words = none_left (misplaced NoWord e) (misplaced_at a) j in
        and_from _ _ (strict m n NoWord refl e one.0 also.0 words.0) (stmt_strict m n a one.1 also.1 words.1)
    stmt_strict m n (IfElseOf p e a b) h i j =
        let one = and_parts (reads m e) (stmt_reads own m a && stmt_reads own m b) h in
        let ones = and_parts (stmt_reads own m a) (stmt_reads own m b) one.1 in
        let also = and_parts (reads n e) (stmt_reads other n a && stmt_reads other n b) i in
        let ands = and_parts (stmt_reads other n a) (stmt_reads other n b) also.1 in
        let words = none_left (misplaced NoWord e ++ misplaced_at a) (misplaced_at b) j in
        let front = none_left (misplaced NoWord e) (misplaced_at a) words.0 in
        and_from _ _ (strict m n NoWord refl e one.0 also.0 front.0) (and_from _ _ (stmt_strict m n a ones.0 ands.0 front.1) (stmt_strict m n b ones.1 ands.1 words.1))
    stmt_strict m n (WhileOf p e is a) h i j =
        let one = and_parts (reads m e) (list_all (reads m) is && stmt_reads own m a) h in
        let ones = and_parts (list_all (reads m) is) (stmt_reads own m a) one.1 in
        let also = and_parts (reads n e) (list_all (reads n) is && stmt_reads other n a) i in
        let ands = and_parts (list_all (reads n) is) (stmt_reads other n a) also.1 in
        let words = none_left (misplaced NoWord e ++ misplaced_in_all OfEntry is) (misplaced_at a) j in
        let front = none_left (misplaced NoWord e) (misplaced_in_all OfEntry is) words.0 in
        and_from _ _ (strict m n NoWord refl e one.0 also.0 front.0) (and_from _ _ (list_strict m n OfEntry refl is ones.0 ands.0 front.1) (stmt_strict m n a ones.1 ands.1 words.1))
    stmt_strict m n (ForOf p b e s is a) h i j =
        let k = with_begun m b in
        let l = with_begun n b in
        let one = and_parts (begin_reads own m b) (inner_reads own k e s is a) h in
        let also = and_parts (begin_reads other n b) (inner_reads other l e s is a) i in
        let words = none_left (misplaced_first b ++ misplaced_if NoWord e ++ misplaced_step s ++ misplaced_in_all OfEntry is) (misplaced_at a) j in
        let four = none_left (misplaced_first b ++ misplaced_if NoWord e ++ misplaced_step s) (misplaced_in_all OfEntry is) words.0 in
        let three = none_left (misplaced_first b ++ misplaced_if NoWord e) (misplaced_step s) four.0 in
        let front = none_left (misplaced_first b) (misplaced_if NoWord e) three.0 in
        let a1 = and_parts (may_read k e) (step_reads k s && (list_all (reads k) is && stmt_reads own k a)) one.1 in
        let a2 = and_parts (step_reads k s) (list_all (reads k) is && stmt_reads own k a) a1.1 in
        let a3 = and_parts (list_all (reads k) is) (stmt_reads own k a) a2.1 in
        let b1 = and_parts (may_read l e) (step_reads l s && (list_all (reads l) is && stmt_reads other l a)) also.1 in
        let b2 = and_parts (step_reads l s) (list_all (reads l) is && stmt_reads other l a) b1.1 in
        let b3 = and_parts (list_all (reads l) is) (stmt_reads other l a) b2.1 in
        and_from _ _ (begin_strict m n b one.0 also.0 front.0)
        (subst (λ z. inner_reads own z e s is a ≡ true) (sym (begun_strictly m n b))
        (and_from _ _ (may_strict k l NoWord refl e a1.0 b1.0 front.1)
        (and_from _ _ (step_strict k l s a2.0 b2.0 three.1) (and_from _ _ (list_strict k l OfEntry refl is a3.0 b3.0 four.1) (stmt_strict k l a a3.1 b3.1 words.1)))))
    stmt_strict m n (ReturnOf p e) h i j = may_strict m n NoWord refl e h i j
    stmt_strict m n (AssertOf p e) h i j = strict m n OfEntry refl e h i j
    stmt_strict m n (AssumeOf p e) h i j = strict m n NoWord refl e h i j
    stmt_strict m n (ExposeOf p e t b) h i j =
        let one = and_parts (reads m e) (block_reads own m b) h in
        let also = and_parts (reads n e) (block_reads other n b) i in
        let words = none_left (misplaced NoWord e) (misplaced_in b) j in
        and_from _ _ (strict m n NoWord refl e one.0 also.0 words.0) (block_strict m n b one.1 also.1 words.1)
    stmt_strict m n (EmptyOf p) h i j = refl

    pub block_strict : (m n : May) (b : BlockTree) → block_reads own m b ≡ true → block_reads other n b ≡ true → misplaced_in b ≡ [] → block_reads own (strictly m n) b ≡ true
    block_strict m n (BlockOf p ss end) h i j = stmts_strict m n ss h i j

    stmts_strict : (m n : May) (ss : StmtTrees) → all_read own m ss ≡ true → all_read other n ss ≡ true → misplaced_along ss ≡ [] → all_read own (strictly m n) ss ≡ true
    stmts_strict m n typed.NoMore h i j = refl
    stmts_strict m n (Before s ss) h i j =
        let one = and_parts (stmt_reads own m s) (all_read own (behind m s) ss) h in
        let also = and_parts (stmt_reads other n s) (all_read other (behind n s) ss) i in
        let words = none_left (misplaced_at s) (misplaced_along ss) j in
        and_from _ _ (stmt_strict m n s one.0 also.0 words.0)
        (subst (λ z. all_read own z ss ≡ true) (sym (after_strictly m n s)) (stmts_strict (behind m s) (behind n s) ss one.1 also.1 words.1))
