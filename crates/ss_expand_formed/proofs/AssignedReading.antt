-- What resolved expressions and statements read: `this`, `result`, and locals that are in scope.
use Rattle.std.proofs.Common.{◌≡◌, ℕ, List, [], ◌∷◌, Bool, true, Option, Some, None, refl}
use Rattle.std.specs.Prelude.{◌&&◌, ◌||◌, ◌==◌}
use Rattle.std.specs.List.{list_all}
use Rattle.std.proofs.lemmas.Bool.{and_parts, and_from, or_left}
use Rattle.ss_typed.specs.Tree.{ExprTree, IntOf, BoolOf, NullOf, ThisOf, LocalOf, ResultOf, BoundOf, IffOf, ImpliesOf, BinaryOf, IsOf, AsOf, NegateOf, NotOf, CastOf, FieldOf, ElementOf, LengthOf, OldOf, QuantifiedOf, StateOf, OwnersOf, NewOf, NewArrayOf, CallOf, StaticOf, BaseOf, Arguments, NoMore, Argument, DeclaratorTree, SimpleTree, AssignOf, StepOf, AloneOf, PrintOf, PrintTextOf, BaseCallOf, InitTree, DeclareFirst, SimpleFirst, BlockTree, BlockOf, StmtTree, InBlock, DeclareOf, SimpleOf, IfOf, IfElseOf, WhileOf, ForOf, ReturnOf, AssertOf, AssumeOf, ExposeOf, EmptyOf, StmtTrees, Before}
use Rattle.ss_typed.specs.Tree as typed

-- ---- expressions

-- what may be read: `this`, `result`, and these locals
pub record May : Type 0 where
  pub this : Bool
  pub result : Bool
  pub locals : ℕ → Bool

abbrev mutual
  pub reads : May → ExprTree → Bool
  reads m (IntOf p n) = true
  reads m (BoolOf p b) = true
  reads m (NullOf p) = true
  reads m (ThisOf p t) = m.this
  reads m (LocalOf p x t) = m.locals x
  reads m (ResultOf p t) = m.result
  reads m (BoundOf p n) = true
  reads m (IffOf p a b) = reads m a && reads m b
  reads m (ImpliesOf p a b) = reads m a && reads m b
  reads m (BinaryOf p o a b) = reads m a && reads m b
  reads m (IsOf p e t) = reads m e
  reads m (AsOf p e t) = reads m e
  reads m (NegateOf p e) = reads m e
  reads m (NotOf p e) = reads m e
  reads m (CastOf p t non_null e) = reads m e
  reads m (FieldOf p e f t) = reads m e
  reads m (ElementOf p a i) = reads m a && reads m i
  reads m (LengthOf p e) = reads m e
  reads m (OldOf p e) = reads m e
  reads m (QuantifiedOf p q name low high e) = reads m low && (reads m high && reads m e)
  reads m (StateOf p w e) = reads m e
  reads m (OwnersOf p w a b) = reads m a && reads m b
  reads m (NewOf p t es) = read_all m es
  reads m (NewArrayOf p t e) = reads m e
  reads m (CallOf p e n t es) = reads m e && read_all m es
  reads m (StaticOf p n t es) = read_all m es
  reads m (BaseOf p n t es) = read_all m es

  pub read_all : May → Arguments → Bool
  read_all m NoMore = true
  read_all m (Argument e es) = reads m e && read_all m es

abbrev pub may_read : May → Option ExprTree → Bool
may_read m None = true
may_read m (Some e) = reads m e

-- ---- one more local

abbrev pub with_local : May → ℕ → May
with_local m x = record m { locals = λ y. m.locals y || x == y }

abbrev pub with_declared : May → List DeclaratorTree → May
with_declared m [] = m
with_declared m (d ∷ ds) = with_declared (with_local m d.local) ds

-- ---- statements: what they read is in scope, and the locals that they declare pass the test

abbrev pub declared_read : (ℕ → Bool) → May → List DeclaratorTree → Bool
declared_read own m [] = true
declared_read own m (d ∷ ds) = own d.local && (may_read m d.initial && declared_read own (with_local m d.local) ds)

abbrev pub simple_reads : May → SimpleTree → Bool
simple_reads m (AssignOf target o e) = reads m target && reads m e
simple_reads m (StepOf target o) = reads m target
simple_reads m (AloneOf e) = reads m e
simple_reads m (PrintOf p e line) = may_read m e
simple_reads m (PrintTextOf p text line) = true
simple_reads m (BaseCallOf p es) = read_all m es

abbrev pub begin_reads : (ℕ → Bool) → May → Option InitTree → Bool
begin_reads own m None = true
begin_reads own m (Some (DeclareFirst ds)) = declared_read own m ds
begin_reads own m (Some (SimpleFirst s)) = simple_reads m s

abbrev pub with_begun : May → Option InitTree → May
with_begun m None = m
with_begun m (Some (DeclareFirst ds)) = with_declared m ds
with_begun m (Some (SimpleFirst s)) = m

abbrev pub step_reads : May → Option SimpleTree → Bool
step_reads m None = true
step_reads m (Some s) = simple_reads m s

-- a declaration alone leaves its locals in scope
abbrev pub behind : May → StmtTree → May
behind m (DeclareOf ds) = with_declared m ds
behind m s = m

abbrev mutual
  pub stmt_reads : (ℕ → Bool) → May → StmtTree → Bool
  stmt_reads own m (InBlock b) = block_reads own m b
  stmt_reads own m (DeclareOf ds) = declared_read own m ds
  stmt_reads own m (SimpleOf s) = simple_reads m s
  stmt_reads own m (IfOf p e a) = reads m e && stmt_reads own m a
  stmt_reads own m (IfElseOf p e a b) = reads m e && (stmt_reads own m a && stmt_reads own m b)
  stmt_reads own m (WhileOf p e is a) = reads m e && (list_all (reads m) is && stmt_reads own m a)
  stmt_reads own m (ForOf p i e s is a) =
      begin_reads own m i && (may_read (with_begun m i) e && (step_reads (with_begun m i) s && (list_all (reads (with_begun m i)) is && stmt_reads own (with_begun m i) a)))
  stmt_reads own m (ReturnOf p e) = may_read m e
  stmt_reads own m (AssertOf p e) = reads m e
  stmt_reads own m (AssumeOf p e) = reads m e
  stmt_reads own m (ExposeOf p e t b) = reads m e && block_reads own m b
  stmt_reads own m (EmptyOf p) = true

  pub block_reads : (ℕ → Bool) → May → BlockTree → Bool
  block_reads own m (BlockOf p ss end) = all_read own m ss

  pub all_read : (ℕ → Bool) → May → StmtTrees → Bool
  all_read own m typed.NoMore = true
  all_read own m (Before s ss) = stmt_reads own m s && all_read own (behind m s) ss

-- ---- more may be read

pub record Wider (m n : May) : Type 0 where
  pub this : m.this ≡ true → n.this ≡ true
  pub result : m.result ≡ true → n.result ≡ true
  pub locals : (x : ℕ) → m.locals x ≡ true → n.locals x ≡ true

pub as_wide : (m : May) → Wider m m
as_wide m = record { this = λ h. h; result = λ h. h; locals = λ x h. h }

pub wider_still : (l m n : May) → Wider l m → Wider m n → Wider l n
wider_still l m n h g = record { this = λ i. g.this (h.this i); result = λ i. g.result (h.result i); locals = λ x i. g.locals x (h.locals x i) }

pub wider_local : (m : May) (x : ℕ) → Wider m (with_local m x)
wider_local m x = record { this = λ h. h; result = λ h. h; locals = λ y h. or_left (m.locals y) (x == y) h }

module _ (m n : May) (w : Wider m n) where
  both_more : (a b c d : Bool) → (a ≡ true → c ≡ true) → (b ≡ true → d ≡ true) → (a && b) ≡ true → (c && d) ≡ true
  both_more a b c d f g h = let both = and_parts a b h in and_from c d (f both.0) (g both.1)

  mutual
    pub reads_wider : (e : ExprTree) → reads m e ≡ true → reads n e ≡ true
    reads_wider (ThisOf p t) h = w.this h
    reads_wider (LocalOf p x t) h = w.locals x h
    reads_wider (ResultOf p t) h = w.result h
    reads_wider (IffOf p a b) h = both_more (reads m a) (reads m b) (reads n a) (reads n b) (reads_wider a) (reads_wider b) h
    reads_wider (ImpliesOf p a b) h = both_more (reads m a) (reads m b) (reads n a) (reads n b) (reads_wider a) (reads_wider b) h
    reads_wider (BinaryOf p o a b) h = both_more (reads m a) (reads m b) (reads n a) (reads n b) (reads_wider a) (reads_wider b) h
    reads_wider (IsOf p e t) h = reads_wider e h
    reads_wider (AsOf p e t) h = reads_wider e h
    reads_wider (NegateOf p e) h = reads_wider e h
    reads_wider (NotOf p e) h = reads_wider e h
    reads_wider (CastOf p t non_null e) h = reads_wider e h
    reads_wider (FieldOf p e f t) h = reads_wider e h
    reads_wider (ElementOf p a i) h = both_more (reads m a) (reads m i) (reads n a) (reads n i) (reads_wider a) (reads_wider i) h
    reads_wider (LengthOf p e) h = reads_wider e h
    reads_wider (OldOf p e) h = reads_wider e h
    reads_wider (QuantifiedOf p q name low high e) h =
        both_more (reads m low) (reads m high && reads m e) (reads n low) (reads n high && reads n e) (reads_wider low)
        (both_more (reads m high) (reads m e) (reads n high) (reads n e) (reads_wider high) (reads_wider e)) h
    reads_wider (StateOf p q e) h = reads_wider e h
    reads_wider (OwnersOf p q a b) h = both_more (reads m a) (reads m b) (reads n a) (reads n b) (reads_wider a) (reads_wider b) h
    reads_wider (NewOf p t es) h = all_wider es h
    reads_wider (NewArrayOf p t e) h = reads_wider e h
    reads_wider (CallOf p e i t es) h = both_more (reads m e) (read_all m es) (reads n e) (read_all n es) (reads_wider e) (all_wider es) h
    reads_wider (StaticOf p i t es) h = all_wider es h
    reads_wider (BaseOf p i t es) h = all_wider es h
    reads_wider e h = refl

    pub all_wider : (es : Arguments) → read_all m es ≡ true → read_all n es ≡ true
    all_wider NoMore h = refl
    all_wider (Argument e es) h = both_more (reads m e) (read_all m es) (reads n e) (read_all n es) (reads_wider e) (all_wider es) h
