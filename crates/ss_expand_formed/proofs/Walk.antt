-- Elaborated code reads what is assigned, where the resolved statements read what is in scope.
use Rattle.std.proofs.Common.{◌≡◌, ℕ, ◌+◌, ◌≤◌, List, [], ◌∷◌, ◌++◌, Bool, true, false, Option, Some, None, refl, sym, ◌∙◌, subst, arith, ⊎_elim}
use Rattle.std.specs.Prelude.{◌&&◌, ◌||◌, ◌==◌, if◌then◌else◌, pos}
use Rattle.std.specs.List.{list_all}
use Rattle.std.proofs.lemmas.Bool.{and_parts, and_from, or_left, or_right, cases_Bool, eqb-true, eq-eqb, false≢true}
use Rattle.std.proofs.lemmas.List.Folds.{list_all-append}
use Rattle.ss_core.specs.declared.names.Place.{Place}
use Rattle.ss_core.specs.declared.names.Ty.{Ty}
use Rattle.ss_core.specs.declared.names.Ty.TheVariants as ty
use Rattle.ss_core.specs.declared.expr.Operator.{Operator}
use Rattle.ss_core.specs.declared.expr.Operator.TheVariants as op
use Rattle.ss_core.specs.Tree as core
use Rattle.ss_core.specs.Tree.{BoolExpr, LocalExpr, NullExpr, NotExpr, BinaryExpr, IffExpr, AssignStmt, WriteStmt, WriteElementStmt, NewStmt, NewArrayStmt, CallStmt, ReadyStmt, AssertStmt, AssumeStmt, PrintStmt, PrintTextStmt, PackStmt, ReturnStmt, IfStmt, NoCode, BaseConstructor}
use Rattle.ss_core.specs.View.{code_of}
use Rattle.ss_core.specs.Chain.{DeclaredField}
use Rattle.ss_ast.specs.declared.stmt.AssignOperator.{AssignOperator}
use Rattle.ss_ast.specs.declared.stmt.AssignOperator.TheVariants as operator
use Rattle.ss_typed.specs.Tree.{ExprTree, IntOf, BoolOf, NullOf, ThisOf, LocalOf, ResultOf, BoundOf, IffOf, ImpliesOf, BinaryOf, IsOf, AsOf, NegateOf, NotOf, CastOf, FieldOf, ElementOf, LengthOf, OldOf, QuantifiedOf, StateOf, OwnersOf, NewOf, NewArrayOf, CallOf, StaticOf, BaseOf, Arguments, NoMore, Argument, DeclaratorTree, SimpleTree, AssignOf, StepOf, AloneOf, PrintOf, PrintTextOf, BaseCallOf, InitTree, DeclareFirst, SimpleFirst, BlockTree, BlockOf, StmtTree, InBlock, DeclareOf, SimpleOf, IfOf, IfElseOf, WhileOf, ForOf, ReturnOf, AssertOf, AssumeOf, ExposeOf, EmptyOf, StmtTrees, Before}
use Rattle.ss_typed.specs.Tree as typed
use Rattle.ss_typed.specs.Types.{type_of}
use Rattle.ss_expand_rules.specs.Numbers.{Numbers, number, plain, all_plain, plain_arguments}
use Rattle.ss_expand_rules.specs.Calls.{has_call, have_call, is_lazy}
use Rattle.ss_typed.specs.Shapes.{is_this, place_of}
use Rattle.ss_expand_rules.specs.Program.{field_at, above_of, Constructor, number_of}
use Rattle.ss_typed.specs.Lookups.{constructor_of, param_types_in}
use Rattle.ss_expand_rules.specs.Code.{Coded, nothing, then_code}
use Rattle.ss_expand_rules.specs.Lifting.{Opened, ElaborationContext, Source, Pure, Created, CreatedArray, Called, put, Lifted, Valued, Listed, unlifted, next, temporary_type, any_object, in_local, in_temporary, valued_from, valued, lifted_of, operand, unary, binary, lazily, holds, fails, negated, operation, implication, first_type, other_types, no_operands, operands_of, and_operands, only_of, dispatched, static_class, types_of_constructor, types_of_written, types_of_method, lifted, in_temporaries, right_side, value, arguments_of}
use Rattle.ss_expand_rules.specs.Simple.{default_of, into_local, write_of, write, write_value, assign_settled, Settled, settle_lifted, settle_part, settle, assign_after, assign, update, assignment, step_operator, declared_as, declare, drop_result, print, has_delayed_constructor, ready_after, base_with, base_of, simple}
use Rattle.ss_expand_rules.specs.Ends.{can_end, block_can_end}
use Rattle.ss_expand_rules.specs.Statements.{loop_while, begin, advance, pack_this, packs, leave_with, result_type, kept_result, leave_value, leave, exposed_class, within, close, opened, expose_lifted, stmt, block, stmts}
use Rattle.ss_store_rules.specs.Locals.{is_bound}
use Rattle.ss_expand_formed.proofs.Choosing.{on_either}
use Rattle.ss_expand_formed.proofs.Shape.{Code}
use Rattle.ss_expand_formed.proofs.Flows.{Known, More, same, further, sources, Reads, ReadsAll, reads_more, Flows, weaken, join, more_join, empty, more_step, Puts, puts, unpack, pack, are_known, known_more, packs_flow, returns, branch, Gives, loop}
use Rattle.ss_expand_formed.proofs.AssignedReading.{May, reads, read_all, may_read, with_local, with_declared, declared_read, simple_reads, begin_reads, with_begun, step_reads, behind, stmt_reads, block_reads, all_read, Wider, as_wide, wider_still, wider_local, reads_wider}

module _ (y : core.BodyTree) (own : ℕ → Bool) where
  -- temporaries and the locals that the body declares keep their numbers, and after all locals stand the names of quantifiers
  pub record Fits (ns : Numbers) : Type 0 where
    pub temporaries : (x : ℕ) → ns.first_temporary ≤ x → number ns x ≡ x
    pub declared : (x : ℕ) → own x ≡ true → number ns x ≡ x
    pub bound : (n : ℕ) → is_bound y (ns.first_bound + n) ≡ true

  -- what may be read is assigned, and so are the objects that are exposed and the `this` of a constructor
  pub record Knows (k : Known) (ns : Numbers) (ctor : Bool) (m : May) (os : List Opened) : Type 0 where
    pub this : m.this ≡ true → k 0 ≡ true
    pub built : ctor ≡ true → k 0 ≡ true
    pub result : m.result ≡ false
    pub locals : (x : ℕ) → m.locals x ≡ true → k (number ns x) ≡ true
    pub exposes : are_known y k os ≡ true

  pub knows_more : (k l : Known) (ns : Numbers) (ctor : Bool) (m : May) (os : List Opened) → More k l → Knows k ns ctor m os → Knows l ns ctor m os
  knows_more k l ns ctor m os more h = record {
    this = λ i. more 0 (h.this i);
    built = λ i. more 0 (h.built i);
    result = h.result;
    locals = λ x i. more (number ns x) (h.locals x i);
    exposes = known_more y k l more os h.exposes;
  }

  -- one more local is assigned
  knows_local : (k : Known) (ns : Numbers) (ctor : Bool) (m : May) (os : List Opened) (x : ℕ) → number ns x ≡ x → k x ≡ true → Knows k ns ctor m os → Knows k ns ctor (with_local m x) os
  knows_local k ns ctor m os x fixed has h = record {
    this = h.this;
    built = h.built;
    result = h.result;
    locals = λ z i.
        ⊎_elim (λ yes. h.locals z yes)
        (λ no.
        let e : x ≡ z = eqb-true x z (rw no at i) in
        subst (λ w. k (number ns w) ≡ true) e (subst (λ w. k w ≡ true) (sym fixed) has))
        (cases_Bool (m.locals z));
    exposes = h.exposes;
  }

  -- ---- expressions without calls

  module _ (k : Known) (ns : Numbers) (fits : Fits ns) (ctor : Bool) (m : May) (os : List Opened) (h : Knows k ns ctor m os) where
    both_plain : (a b : ExprTree) → (reads m a ≡ true → Reads y k (plain ns a)) → (reads m b ≡ true → Reads y k (plain ns b)) → (reads m a && reads m b) ≡ true → (Reads y k (plain ns a)) × (Reads y k (plain ns b))
    both_plain a b f g r = let both = and_parts (reads m a) (reads m b) r in (f both.0, g both.1)

    pub plain_reads : (e : ExprTree) → reads m e ≡ true → Reads y k (plain ns e)
    plain_reads (ThisOf p t) r = or_left _ _ (h.this r)
    plain_reads (LocalOf p x t) r = or_left _ _ (h.locals x r)
    plain_reads (ResultOf p t) r = absurd (false≢true (sym h.result ∙ r))
    plain_reads (BoundOf p n) r = or_right _ _ (fits.bound n)
    plain_reads (IffOf p a b) r = let both = both_plain a b (plain_reads a) (plain_reads b) r in and_from _ _ both.0 both.1
    plain_reads (ImpliesOf p a b) r = let both = both_plain a b (plain_reads a) (plain_reads b) r in and_from _ _ both.0 both.1
    plain_reads (BinaryOf p o a b) r = let both = both_plain a b (plain_reads a) (plain_reads b) r in and_from _ _ both.0 both.1
    plain_reads (IsOf p e t) r = plain_reads e r
    plain_reads (AsOf p e t) r = plain_reads e r
    plain_reads (NegateOf p e) r = plain_reads e r
    plain_reads (NotOf p e) r = plain_reads e r
    plain_reads (CastOf p t non_null e) r = plain_reads e r
    plain_reads (FieldOf p e f t) r = plain_reads e r
    plain_reads (ElementOf p a i) r = let both = both_plain a i (plain_reads a) (plain_reads i) r in and_from _ _ both.0 both.1
    plain_reads (LengthOf p e) r = plain_reads e r
    plain_reads (OldOf p e) r = plain_reads e r
    plain_reads (QuantifiedOf p q name low high e) r =
        let first = and_parts (reads m low) (reads m high && reads m e) r in
        let rest = and_parts (reads m high) (reads m e) first.1 in
        and_from _ _ (and_from _ _ (plain_reads low first.0) (plain_reads high rest.0)) (plain_reads e rest.1)
    plain_reads (StateOf p w e) r = plain_reads e r
    plain_reads (OwnersOf p w a b) r = let both = both_plain a b (plain_reads a) (plain_reads b) r in and_from _ _ both.0 both.1
    plain_reads e r = refl

    pub list_reads : (es : List ExprTree) → list_all (reads m) es ≡ true → ReadsAll y k (all_plain ns es)
    list_reads [] r = refl
    list_reads (e ∷ es) r = let both = and_parts (reads m e) (list_all (reads m) es) r in and_from _ _ (plain_reads e both.0) (list_reads es both.1)

    pub arguments_read : (es : Arguments) → read_all m es ≡ true → ReadsAll y k (plain_arguments ns es)
    arguments_read NoMore r = refl
    arguments_read (Argument e es) r = let both = and_parts (reads m e) (read_all m es) r in and_from _ _ (plain_reads e both.0) (arguments_read es both.1)

  -- ---- what an expression is lifted to

  -- the value comes from what is known
  pub record Comes (k : Known) (v : Source) (l : Known) : Type 0 where
    pub more : More k l
    pub reads : ReadsAll y l (sources v)

  pub record GivesAll (k : Known) (es : List core.ExprTree) (l : Known) : Type 0 where
    pub more : More k l
    pub reads : ReadsAll y l es

  abbrev KnowsIn : ElaborationContext → May → Known → Type 0
  KnowsIn s m k = Knows k s.numbers s.body.flags.ctor m s.exposes

  knows_further : (s : ElaborationContext) (m : May) (k l : Known) → More k l → KnowsIn s m k → KnowsIn s m l
  knows_further s m k l more h = knows_more k l s.numbers s.body.flags.ctor m s.exposes more h

  abbrev Lifts : ElaborationContext → May → (List Ty → Lifted) → Type 0
  Lifts s m f = (made : List Ty) (k : Known) → KnowsIn s m k → Flows y k (f made).code (Comes k (f made).source)

  abbrev Values : ElaborationContext → May → (List Ty → Valued) → Type 0
  Values s m f = (made : List Ty) (k : Known) → KnowsIn s m k → Flows y k (f made).code (Gives y k (f made).value)

  abbrev Lists : ElaborationContext → May → (List Ty → Listed) → Type 0
  Lists s m f = (made : List Ty) (k : Known) → KnowsIn s m k → Flows y k (f made).code (GivesAll k (f made).values)

  abbrev Codes : ElaborationContext → May → (List Ty → Coded) → Type 0
  Codes s m f = (made : List Ty) (k : Known) → KnowsIn s m k → Flows y k (f made).code (More k)

  in_local_reads : (p : Place) (x : ℕ) (t : Ty) (k : Known) (l : Lifted) → Flows y k l.code (Comes k l.source) → Flows y k (in_local p x t l).code (Gives y k (in_local p x t l).value)
  in_local_reads p x t k l h =
      join y k (Comes k l.source) (Gives y k (LocalExpr p x)) l.code (put p x l.source ∷ []) h
      (λ a g.
      weaken y a (Puts y a x) (Gives y k (LocalExpr p x)) (put p x l.source ∷ [])
      (λ b i. record { more = further k a b g.more i.more; reads = or_left (b x) (is_bound y x) i.has })
      (puts y a p x l.source g.reads))

  valued_from_reads : (ns : Numbers) (e : ExprTree) (k : Known) (l : Lifted) (v : Source) → Flows y k l.code (Comes k v) → Flows y k l.code (Comes k l.source) → Flows y k (valued_from ns e l v).code (Gives y k (valued_from ns e l v).value)
  valued_from_reads ns e k l (Pure x) h g = weaken y k (Comes k (Pure x)) (Gives y k x) l.code (λ a i. record { more = i.more; reads = (and_parts _ true i.reads).0 }) h
  valued_from_reads ns e k l (Created p t es) h g = in_local_reads (place_of e) (next ns l.made) (temporary_type any_object (type_of e)) k l g
  valued_from_reads ns e k l (CreatedArray p t n) h g = in_local_reads (place_of e) (next ns l.made) (temporary_type any_object (type_of e)) k l g
  valued_from_reads ns e k l (Called p callee es) h g = in_local_reads (place_of e) (next ns l.made) (temporary_type any_object (type_of e)) k l g

  -- ---- operands

  unlifted_reads : (s : ElaborationContext) → Fits s.numbers → (m : May) (e : ExprTree) → reads m e ≡ true → (k : Known) → KnowsIn s m k → Flows y k [] (Comes k (Pure (plain s.numbers e)))
  unlifted_reads s fits m e r k kn = empty y k (Comes k (Pure (plain s.numbers e))) (record { more = same k; reads = and_from _ _ (plain_reads k s.numbers fits s.body.flags.ctor m s.exposes kn e r) refl })

  lifted_of_reads : (s : ElaborationContext) → Fits s.numbers → (m : May) (e : ExprTree) → reads m e ≡ true → (f : List Ty → Lifted) → Lifts s m f → Lifts s m (lifted_of s.numbers e f)
  lifted_of_reads s fits m e r f h made k kn =
      on_either (λ (l : Lifted). Flows y k l.code (Comes k l.source)) (has_call e) (f made) (unlifted (plain s.numbers e) made) (h made k kn) (unlifted_reads s fits m e r k kn)

  operand_reads : (s : ElaborationContext) → Fits s.numbers → (m : May) (t : Ty) (e : ExprTree) → reads m e ≡ true → (f : List Ty → Lifted) → Lifts s m f → Values s m (operand s.numbers t e f)
  operand_reads s fits m t e r f h made k kn =
      on_either (λ (v : Valued). Flows y k v.code (Gives y k v.value)) (is_lazy e && has_call e) (valued s.numbers e (f made)) (in_temporary s.numbers (place_of e) (temporary_type t (type_of e)) (lifted_of s.numbers e f made))
      (valued_from_reads s.numbers e k (f made) (f made).source (h made k kn) (h made k kn))
      (in_local_reads (place_of e) (next s.numbers (lifted_of s.numbers e f made).made) (temporary_type t (type_of e)) k (lifted_of s.numbers e f made) (lifted_of_reads s fits m e r f h made k kn))

  unary_reads : (f : core.ExprTree → core.ExprTree) → ((k : Known) (e : core.ExprTree) → Reads y k e → Reads y k (f e)) → (k : Known) (v : Valued) → Flows y k v.code (Gives y k v.value) → Flows y k (unary f v).code (Comes k (unary f v).source)
  unary_reads f keeps k v h = weaken y k (Gives y k v.value) (Comes k (Pure (f v.value))) v.code (λ a i. record { more = i.more; reads = and_from _ _ (keeps a v.value i.reads) refl }) h

  abbrev KeepsBoth : (core.ExprTree → core.ExprTree → core.ExprTree) → Type 0
  KeepsBoth f = (k : Known) (a b : core.ExprTree) → Reads y k a → Reads y k b → Reads y k (f a b)

  binary_reads : (s : ElaborationContext) (m : May) (f : core.ExprTree → core.ExprTree → core.ExprTree) → KeepsBoth f → (k : Known) → KnowsIn s m k → (a : Valued) (b : List Ty → Valued) → Flows y k a.code (Gives y k a.value) → Values s m b →
      Flows y k (binary f a b).code (Comes k (binary f a b).source)
  binary_reads s m f keeps k kn a b h g =
      let v = b a.made in
      join y k (Gives y k a.value) (Comes k (Pure (f a.value v.value))) a.code v.code h
      (λ c i.
      weaken y c (Gives y c v.value) (Comes k (Pure (f a.value v.value))) v.code
      (λ d j. record { more = further k c d i.more j.more; reads = and_from _ _ (keeps d a.value v.value (reads_more y c d j.more a.value i.reads) j.reads) refl })
      (g a.made c (knows_further s m k c i.more kn)))

  -- ---- lazy operations

  lazily_reads : (s : ElaborationContext) (m : May) (p : Place) (a b : ExprTree) (test : core.ExprTree → core.ExprTree) → ((k : Known) (e : core.ExprTree) → Reads y k e → Reads y k (test e)) →
      (k : Known) → KnowsIn s m k → (first : Lifted) (second : List Ty → Lifted) → Flows y k first.code (Comes k first.source) → Lifts s m second →
      Flows y k (lazily s.numbers p a b test first second).code (Comes k (lazily s.numbers p a b test first second).source)
  lazily_reads s m p a b test keeps k kn first second h g =
      let x = next s.numbers first.made in
      let t = in_temporary s.numbers (place_of a) ty.Bool first in
      let r = second t.made in
      let inner = r.code ++ put (place_of b) x r.source ∷ [] in
      join y k (Gives y k (LocalExpr (place_of a) x)) (Comes k (Pure (LocalExpr p x))) t.code (IfStmt p (test (LocalExpr p x)) (code_of inner) NoCode ∷ []) (in_local_reads (place_of a) x ty.Bool k first h)
      (λ c i.
      weaken y c (More c) (Comes k (Pure (LocalExpr p x))) (IfStmt p (test (LocalExpr p x)) (code_of inner) NoCode ∷ [])
      (λ d j. record { more = further k c d i.more j; reads = and_from _ _ (reads_more y c d j (LocalExpr p x) i.reads) refl })
      (branch y c p (test (LocalExpr p x)) inner [] (keeps c (LocalExpr p x) i.reads)
      (join y c (Comes c r.source) (More c) r.code (put (place_of b) x r.source ∷ []) (g t.made c (knows_further s m k c i.more kn))
      (λ d j. weaken y d (Puts y d x) (More c) (put (place_of b) x r.source ∷ []) (λ e n. further c d e j.more n.more) (puts y d (place_of b) x r.source j.reads)))
      (empty y c (More c) (same c))))

  negated_reads : (s : ElaborationContext) → Fits s.numbers → (m : May) (a : ExprTree) → reads m a ≡ true → (f : List Ty → Lifted) → Lifts s m f → Lifts s m (negated s.numbers a f)
  negated_reads s fits m a r f h made k kn =
      on_either (λ (l : Lifted). Flows y k l.code (Comes k l.source)) (has_call a) (unary (NotExpr (place_of a)) (operand s.numbers ty.Bool a f made)) (unlifted (NotExpr (place_of a) (plain s.numbers a)) made)
      (unary_reads (NotExpr (place_of a)) (λ l e i. i) k (operand s.numbers ty.Bool a f made) (operand_reads s fits m ty.Bool a r f h made k kn))
      (empty y k (Comes k (Pure (NotExpr (place_of a) (plain s.numbers a)))) (record { more = same k; reads = and_from _ _ (plain_reads k s.numbers fits s.body.flags.ctor m s.exposes kn a r) refl }))

  operation_reads : (s : ElaborationContext) → Fits s.numbers → (m : May) (p : Place) (o : Operator) (a b : ExprTree) → reads m a ≡ true → reads m b ≡ true → (f g : List Ty → Lifted) → Lifts s m f → Lifts s m g → Lifts s m (operation s.numbers p o a b f g)
  operation_reads s fits m p op.And a b r q f g h i made k kn = lazily_reads s m p a b holds (λ l e j. j) k kn (lifted_of s.numbers a f made) (lifted_of s.numbers b g) (lifted_of_reads s fits m a r f h made k kn) (lifted_of_reads s fits m b q g i)
  operation_reads s fits m p op.Or a b r q f g h i made k kn = lazily_reads s m p a b (fails p) (λ l e j. j) k kn (lifted_of s.numbers a f made) (lifted_of s.numbers b g) (lifted_of_reads s fits m a r f h made k kn) (lifted_of_reads s fits m b q g i)
  operation_reads s fits m p o a b r q f g h i made k kn =
      binary_reads s m (BinaryExpr p o) (λ l c d j n. and_from _ _ j n) k kn (operand s.numbers any_object a f made) (operand s.numbers any_object b g) (operand_reads s fits m any_object a r f h made k kn) (operand_reads s fits m any_object b q g i)

  implication_reads : (s : ElaborationContext) → Fits s.numbers → (m : May) (p : Place) (a b : ExprTree) → reads m a ≡ true → reads m b ≡ true → (f g : List Ty → Lifted) → Lifts s m f → Lifts s m g → Lifts s m (implication s.numbers p a b f g)
  implication_reads s fits m p a b r q f g h i made k kn = lazily_reads s m p a b (fails p) (λ l e j. j) k kn (negated s.numbers a f made) (lifted_of s.numbers b g) (negated_reads s fits m a r f h made k kn) (lifted_of_reads s fits m b q g i)

  -- ---- calls

  operands_read : (s : ElaborationContext) → Fits s.numbers → (m : May) (es : Arguments) → read_all m es ≡ true → (f : List Ty → Listed) → Lists s m f → Lists s m (operands_of s.numbers es f)
  operands_read s fits m es r f h made k kn =
      on_either (λ (l : Listed). Flows y k l.code (GivesAll k l.values)) (have_call es) (f made) (record { code = []; values = plain_arguments s.numbers es; made = made }) (h made k kn)
      (empty y k (GivesAll k (plain_arguments s.numbers es)) (record { more = same k; reads = arguments_read k s.numbers fits s.body.flags.ctor m s.exposes kn es r }))

  and_operands_read : (s : ElaborationContext) (m : May) (k : Known) → KnowsIn s m k → (v : Valued) (f : List Ty → Listed) → Flows y k v.code (Gives y k v.value) → Lists s m f → Flows y k (and_operands v f).code (GivesAll k (and_operands v f).values)
  and_operands_read s m k kn v f h g =
      let l = f v.made in
      join y k (Gives y k v.value) (GivesAll k (v.value ∷ l.values)) v.code l.code h
      (λ c i.
      weaken y c (GivesAll c l.values) (GivesAll k (v.value ∷ l.values)) l.code
      (λ d j. record { more = further k c d i.more j.more; reads = and_from _ _ (reads_more y c d j.more v.value i.reads) j.reads })
      (g v.made c (knows_further s m k c i.more kn)))

  no_operands_read : (s : ElaborationContext) (m : May) → Lists s m no_operands
  no_operands_read s m made k kn = empty y k (GivesAll k []) (record { more = same k; reads = refl })

  called_reads : (k : Known) (l : Listed) (v : Source) → ((a : Known) → ReadsAll y a l.values → ReadsAll y a (sources v)) → Flows y k l.code (GivesAll k l.values) → Flows y k l.code (Comes k v)
  called_reads k l v keeps h = weaken y k (GivesAll k l.values) (Comes k v) l.code (λ a i. record { more = i.more; reads = keeps a i.reads }) h

  only_reads : (a : Known) (p : Place) (vs : List core.ExprTree) → ReadsAll y a vs → ReadsAll y a (only_of p vs ∷ [])
  only_reads a p [] h = refl
  only_reads a p (v ∷ vs) h = and_from _ _ (and_parts _ _ h).0 refl

  dispatched_reads : (a : Known) (p : Place) (t i : ℕ) (vs : List core.ExprTree) → ReadsAll y a vs → ReadsAll y a (sources (dispatched p t i vs))
  dispatched_reads a p t i [] h = refl
  dispatched_reads a p t i (v ∷ vs) h = h

  mutual
    pub lifted_reads : (s : ElaborationContext) → Fits s.numbers → (m : May) (e : ExprTree) → reads m e ≡ true → Lifts s m (lifted s e)
    lifted_reads s fits m (IffOf p a b) r made k kn =
        let both = and_parts (reads m a) (reads m b) r in
        binary_reads s m (IffExpr p) (λ l c d j n. and_from _ _ j n) k kn (operand s.numbers any_object a (lifted s a) made) (operand s.numbers any_object b (lifted s b))
        (operand_reads s fits m any_object a both.0 (lifted s a) (lifted_reads s fits m a both.0) made k kn) (operand_reads s fits m any_object b both.1 (lifted s b) (lifted_reads s fits m b both.1))
    lifted_reads s fits m (ImpliesOf p a b) r made k kn =
        let both = and_parts (reads m a) (reads m b) r in
        implication_reads s fits m p a b both.0 both.1 (lifted s a) (lifted s b) (lifted_reads s fits m a both.0) (lifted_reads s fits m b both.1) made k kn
    lifted_reads s fits m (BinaryOf p o a b) r made k kn =
        let both = and_parts (reads m a) (reads m b) r in
        operation_reads s fits m p o a b both.0 both.1 (lifted s a) (lifted s b) (lifted_reads s fits m a both.0) (lifted_reads s fits m b both.1) made k kn
    lifted_reads s fits m (IsOf p e t) r made k kn = unary_reads (λ v. core.IsExpr p v t) (λ l v i. i) k (operand s.numbers any_object e (lifted s e) made) (operand_reads s fits m any_object e r (lifted s e) (lifted_reads s fits m e r) made k kn)
    lifted_reads s fits m (AsOf p e t) r made k kn = unary_reads (λ v. core.AsExpr p v t) (λ l v i. i) k (operand s.numbers any_object e (lifted s e) made) (operand_reads s fits m any_object e r (lifted s e) (lifted_reads s fits m e r) made k kn)
    lifted_reads s fits m (NegateOf p e) r made k kn = unary_reads (core.NegateExpr p) (λ l v i. i) k (operand s.numbers any_object e (lifted s e) made) (operand_reads s fits m any_object e r (lifted s e) (lifted_reads s fits m e r) made k kn)
    lifted_reads s fits m (NotOf p e) r made k kn = unary_reads (NotExpr p) (λ l v i. i) k (operand s.numbers any_object e (lifted s e) made) (operand_reads s fits m any_object e r (lifted s e) (lifted_reads s fits m e r) made k kn)
    lifted_reads s fits m (CastOf p t non_null e) r made k kn = unary_reads (core.CastExpr p t non_null) (λ l v i. i) k (operand s.numbers any_object e (lifted s e) made) (operand_reads s fits m any_object e r (lifted s e) (lifted_reads s fits m e r) made k kn)
    lifted_reads s fits m (FieldOf p e f t) r made k kn = unary_reads (λ v. core.FieldExpr p v f) (λ l v i. i) k (operand s.numbers any_object e (lifted s e) made) (operand_reads s fits m any_object e r (lifted s e) (lifted_reads s fits m e r) made k kn)
    lifted_reads s fits m (ElementOf p a i) r made k kn =
        let both = and_parts (reads m a) (reads m i) r in
        binary_reads s m (core.ElementExpr p) (λ l c d j n. and_from _ _ j n) k kn (operand s.numbers any_object a (lifted s a) made) (operand s.numbers any_object i (lifted s i))
        (operand_reads s fits m any_object a both.0 (lifted s a) (lifted_reads s fits m a both.0) made k kn) (operand_reads s fits m any_object i both.1 (lifted s i) (lifted_reads s fits m i both.1))
    lifted_reads s fits m (LengthOf p e) r made k kn = unary_reads (core.LengthExpr p) (λ l v i. i) k (operand s.numbers any_object e (lifted s e) made) (operand_reads s fits m any_object e r (lifted s e) (lifted_reads s fits m e r) made k kn)
    lifted_reads s fits m (NewOf p t es) r made k kn =
        let ts = types_of_constructor s t in
        let l = operands_of s.numbers es (in_temporaries s ts es) made in
        called_reads k l (Created p t l.values) (λ a h. h) (operands_read s fits m es r (in_temporaries s ts es) (in_temporaries_read s fits m ts es r) made k kn)
    lifted_reads s fits m (NewArrayOf p t e) r made k kn =
        let f = λ (n : List Ty). and_operands (operand s.numbers any_object e (lifted s e) n) no_operands in
        let l = operands_of s.numbers (Argument e NoMore) f made in
        called_reads k l (CreatedArray p t (only_of p l.values)) (λ a h. only_reads a p l.values h)
        (operands_read s fits m (Argument e NoMore) (and_from _ _ r refl) f
        (λ n c i. and_operands_read s m c i (operand s.numbers any_object e (lifted s e) n) no_operands (operand_reads s fits m any_object e r (lifted s e) (lifted_reads s fits m e r) n c i) (no_operands_read s m)) made k kn)
    lifted_reads s fits m (CallOf p e i t es) r made k kn =
        let both = and_parts (reads m e) (read_all m es) r in
        let ts = types_of_method s (static_class e) i in
        let f = λ (n : List Ty). and_operands (operand s.numbers any_object e (lifted s e) n) (in_temporaries s ts es) in
        let l = operands_of s.numbers (Argument e es) f made in
        called_reads k l (dispatched p (static_class e) i l.values) (λ a h. dispatched_reads a p (static_class e) i l.values h)
        (operands_read s fits m (Argument e es) r f
        (λ n c j. and_operands_read s m c j (operand s.numbers any_object e (lifted s e) n) (in_temporaries s ts es) (operand_reads s fits m any_object e both.0 (lifted s e) (lifted_reads s fits m e both.0) n c j) (in_temporaries_read s fits m ts es both.1)) made k kn)
    lifted_reads s fits m (StaticOf p n t es) r made k kn =
        let ts = types_of_written s n in
        let l = operands_of s.numbers es (in_temporaries s ts es) made in
        called_reads k l (lifted s (StaticOf p n t es) made).source (λ a h. h) (operands_read s fits m es r (in_temporaries s ts es) (in_temporaries_read s fits m ts es r) made k kn)
    lifted_reads s fits m (BaseOf p i t es) r made k kn =
        let ts = types_of_method s (above_of s.program s.body.class) i in
        let l = operands_of s.numbers es (in_temporaries s ts es) made in
        called_reads k l (lifted s (BaseOf p i t es) made).source (λ a h. h) (operands_read s fits m es r (in_temporaries s ts es) (in_temporaries_read s fits m ts es r) made k kn)
    lifted_reads s fits m e r made k kn = unlifted_reads s fits m e r k kn

    pub in_temporaries_read : (s : ElaborationContext) → Fits s.numbers → (m : May) (ts : List Ty) (es : Arguments) → read_all m es ≡ true → Lists s m (in_temporaries s ts es)
    in_temporaries_read s fits m ts NoMore r made k kn = no_operands_read s m made k kn
    in_temporaries_read s fits m ts (Argument e es) r made k kn =
        let both = and_parts (reads m e) (read_all m es) r in
        and_operands_read s m k kn (operand s.numbers (first_type ts) e (lifted s e) made) (in_temporaries s (other_types ts) es)
        (operand_reads s fits m (first_type ts) e both.0 (lifted s e) (lifted_reads s fits m e both.0) made k kn) (in_temporaries_read s fits m (other_types ts) es both.1)

  right_reads : (s : ElaborationContext) → Fits s.numbers → (m : May) (e : ExprTree) → reads m e ≡ true → Lifts s m (right_side s e)
  right_reads s fits m e r made k kn = lifted_of_reads s fits m e r (lifted s e) (lifted_reads s fits m e r) made k kn

  value_reads : (s : ElaborationContext) → Fits s.numbers → (m : May) (e : ExprTree) → reads m e ≡ true → Values s m (value s e)
  value_reads s fits m e r made k kn = let h = right_reads s fits m e r made k kn in valued_from_reads s.numbers e k (right_side s e made) (right_side s e made).source h h

  -- ---- left sides

  into_local_reads : (p : Place) (x : ℕ) (k : Known) (l : Lifted) → Flows y k l.code (Comes k l.source) → Flows y k (into_local p x l).code (Puts y k x)
  into_local_reads p x k l h =
      join y k (Comes k l.source) (Puts y k x) l.code (put p x l.source ∷ []) h
      (λ a g. weaken y a (Puts y a x) (Puts y k x) (put p x l.source ∷ []) (λ b i. record { more = further k a b g.more i.more; has = i.has }) (puts y a p x l.source g.reads))

  put_more : (k : Known) (x : ℕ) (code : Code) → Flows y k code (Puts y k x) → Flows y k code (More k)
  put_more k x code h = weaken y k (Puts y k x) (More k) code (λ a i. i.more) h

  write_of_reads : (p : Place) (o : core.ExprTree) (f : ℕ) (d : Option DeclaredField) (v : core.ExprTree) (k : Known) → Reads y k o → Reads y k v → Flows y k (write_of p o f d v) (More k)
  write_of_reads p o f None v k h g = empty y k (More k) (same k)
  write_of_reads p o f (Some d) v k h g = more_step y k (WriteStmt p o f d.field.mark d.class v) refl (and_from _ _ h (and_from _ _ g refl))

  write_reads : (s : ElaborationContext) → Fits s.numbers → (m : May) (target : ExprTree) → reads m target ≡ true → (v : core.ExprTree) (k : Known) → KnowsIn s m k → Reads y k v → Flows y k (write s target v) (More k)
  write_reads s fits m (FieldOf p o f t) r v k kn g = write_of_reads p (plain s.numbers o) f (field_at s.program f) v k (plain_reads k s.numbers fits s.body.flags.ctor m s.exposes kn o r) g
  write_reads s fits m (ElementOf p a i) r v k kn g =
      let both = and_parts (reads m a) (reads m i) r in
      let one = plain_reads k s.numbers fits s.body.flags.ctor m s.exposes kn a both.0 in
      let other = plain_reads k s.numbers fits s.body.flags.ctor m s.exposes kn i both.1 in
      more_step y k (WriteElementStmt p (plain s.numbers a) (plain s.numbers i) v) refl (and_from _ _ one (and_from _ _ other (and_from _ _ g refl)))
  write_reads s fits m e r v k kn g = empty y k (More k) (same k)

  write_value_reads : (s : ElaborationContext) → Fits s.numbers → (m : May) (target : ExprTree) → reads m target ≡ true → (v : Valued) (k : Known) → KnowsIn s m k → Flows y k v.code (Gives y k v.value) → Flows y k (write_value s target v).code (More k)
  write_value_reads s fits m target r v k kn h =
      join y k (Gives y k v.value) (More k) v.code (write s target v.value) h
      (λ a i. weaken y a (More a) (More k) (write s target v.value) (λ b j. further k a b i.more j) (write_reads s fits m target r v.value a (knows_further s m k a i.more kn) i.reads))

  assign_settled_reads : (s : ElaborationContext) → Fits s.numbers → (m : May) (target e : ExprTree) → reads m target ≡ true → reads m e ≡ true → Codes s m (assign_settled s target e)
  assign_settled_reads s fits m (LocalOf p x t) e q r made k kn = put_more k (number s.numbers x) (into_local p (number s.numbers x) (right_side s e made)).code (into_local_reads p (number s.numbers x) k (right_side s e made) (right_reads s fits m e r made k kn))
  assign_settled_reads s fits m target e q r made k kn = write_value_reads s fits m target q (value s e made) k kn (value_reads s fits m e r made k kn)

  -- a left side whose parts are settled reads what may be read, and temporaries
  record Targets (s : ElaborationContext) (m : May) (k : Known) (target : ExprTree) (l : Known) : Type 0 where
    more : More k l
    names : May
    wider : Wider m names
    knows : KnowsIn s names l
    is_read : reads names target ≡ true

  abbrev Settles : ElaborationContext → May → (List Ty → Settled) → Type 0
  Settles s m f = (made : List Ty) (k : Known) → KnowsIn s m k → Flows y k (f made).code (Targets s m k (f made).target)

  stays : (s : ElaborationContext) (m : May) (k : Known) (e : ExprTree) → reads m e ≡ true → KnowsIn s m k → Flows y k [] (Targets s m k e)
  stays s m k e r kn = empty y k (Targets s m k e) (record { more = same k; names = m; wider = as_wide m; knows = kn; is_read = r })

  settle_part_reads : (s : ElaborationContext) → Fits s.numbers → (m : May) (e : ExprTree) → reads m e ≡ true → Settles s m (settle_part s e)
  settle_part_reads s fits m e r made k kn =
      let l = right_side s e made in
      let x = next s.numbers l.made in
      on_either (λ (z : Settled). Flows y k z.code (Targets s m k z.target)) (is_this e) (record { code = []; target = e; made = made }) (settle_lifted s e l) (stays s m k e r kn)
      (weaken y k (Puts y k x) (Targets s m k (LocalOf (place_of e) x (temporary_type any_object (type_of e)))) (into_local (place_of e) x l).code
      (λ a i. record {
        more = i.more;
        names = with_local m x;
        wider = wider_local m x;
        knows = knows_local a s.numbers s.body.flags.ctor m s.exposes x (fits.temporaries x (omega arith)) i.has (knows_further s m k a i.more kn);
        is_read = or_right (m.locals x) (x == x) (eq-eqb x x refl);
      })
      (into_local_reads (place_of e) x k l (right_reads s fits m e r made k kn)))

  settle_reads : (s : ElaborationContext) → Fits s.numbers → (m : May) (target : ExprTree) → reads m target ≡ true → Settles s m (settle s target)
  settle_reads s fits m (FieldOf p o f t) r made k kn =
      let part = settle_part s o made in
      weaken y k (Targets s m k part.target) (Targets s m k (FieldOf p part.target f t)) part.code
      (λ a i. record { more = i.more; names = i.names; wider = i.wider; knows = i.knows; is_read = i.is_read })
      (settle_part_reads s fits m o r made k kn)
  settle_reads s fits m (ElementOf p a i) r made k kn =
      let both = and_parts (reads m a) (reads m i) r in
      let one = settle_part s a made in
      let other = settle_part s i one.made in
      join y k (Targets s m k one.target) (Targets s m k (ElementOf p one.target other.target)) one.code other.code (settle_part_reads s fits m a both.0 made k kn)
      (λ c g.
      weaken y c (Targets s g.names c other.target) (Targets s m k (ElementOf p one.target other.target)) other.code
      (λ d j. record {
        more = further k c d g.more j.more;
        names = j.names;
        wider = wider_still m g.names j.names g.wider j.wider;
        knows = j.knows;
        is_read = and_from _ _ (reads_wider g.names j.names j.wider one.target g.is_read) j.is_read;
      })
      (settle_part_reads s fits g.names i (reads_wider m g.names g.wider i both.1) one.made c g.knows))
  settle_reads s fits m target r made k kn = stays s m k target r kn

  -- ---- assignments

  assign_after_reads : (s : ElaborationContext) → Fits s.numbers → (m : May) (e : ExprTree) (t : Settled) (k : Known) →
      ((n : May) → Wider m n → reads n t.target ≡ true → reads n e ≡ true) → Flows y k t.code (Targets s m k t.target) → Flows y k (assign_after s e t).code (More k)
  assign_after_reads s fits m e t k r h =
      join y k (Targets s m k t.target) (More k) t.code (assign_settled s t.target e t.made).code h
      (λ a i.
      weaken y a (More a) (More k) (assign_settled s t.target e t.made).code (λ b j. further k a b i.more j)
      (assign_settled_reads s fits i.names t.target e i.is_read (r i.names i.wider i.is_read) t.made a i.knows))

  assign_reads : (s : ElaborationContext) → Fits s.numbers → (m : May) (target e : ExprTree) → reads m target ≡ true → reads m e ≡ true → Codes s m (assign s target e)
  assign_reads s fits m target e q r made k kn =
      on_either (λ (c : Coded). Flows y k c.code (More k)) (has_call target || has_call e) (assign_after s e (settle s target made)) (assign_settled s target e made)
      (assign_after_reads s fits m e (settle s target made) k (λ n w i. reads_wider m n w e r) (settle_reads s fits m target q made k kn))
      (assign_settled_reads s fits m target e q r made k kn)

  update_reads : (s : ElaborationContext) → Fits s.numbers → (m : May) (o : Operator) (target e : ExprTree) → reads m target ≡ true → reads m e ≡ true → Codes s m (update s o target e)
  update_reads s fits m o target e q r made k kn =
      let t = settle s target made in
      assign_after_reads s fits m (BinaryOf (place_of t.target) o t.target e) t k (λ n w i. and_from _ _ i (reads_wider m n w e r)) (settle_reads s fits m target q made k kn)

  assignment_reads : (s : ElaborationContext) → Fits s.numbers → (m : May) (target : ExprTree) (o : AssignOperator) (e : ExprTree) → reads m target ≡ true → reads m e ≡ true → Codes s m (assignment s target o e)
  assignment_reads s fits m target operator.Set e q r made k kn = assign_reads s fits m target e q r made k kn
  assignment_reads s fits m target operator.Add e q r made k kn = update_reads s fits m op.Add target e q r made k kn
  assignment_reads s fits m target operator.Subtract e q r made k kn = update_reads s fits m op.Subtract target e q r made k kn
  assignment_reads s fits m target operator.Multiply e q r made k kn = update_reads s fits m op.Multiply target e q r made k kn

  -- ---- declarations

  -- more is assigned after a statement, and so are the locals that it leaves in scope
  pub record Leads (s : ElaborationContext) (m : May) (k l : Known) : Type 0 where
    pub more : More k l
    pub knows : KnowsIn s m l

  default_reads : (k : Known) (p : Place) (t : Ty) → ReadsAll y k (default_of p t ∷ [])
  default_reads k p ty.Int = refl
  default_reads k p ty.Bool = refl
  default_reads k p t = refl

  declared_as_reads : (s : ElaborationContext) → Fits s.numbers → (m : May) (d : DeclaratorTree) (e : Option ExprTree) → may_read m e ≡ true → (made : List Ty) (k : Known) → KnowsIn s m k → Flows y k (declared_as s d e made).code (Puts y k d.local)
  declared_as_reads s fits m d None r made k kn = puts y k d.place d.local (Pure (default_of d.place d.ty)) (default_reads k d.place d.ty)
  declared_as_reads s fits m d (Some e) r made k kn = into_local_reads d.place d.local k (right_side s e made) (right_reads s fits m e r made k kn)

  declare_reads : (s : ElaborationContext) → Fits s.numbers → (m : May) (ds : List DeclaratorTree) → declared_read own m ds ≡ true → (made : List Ty) (k : Known) → KnowsIn s m k → Flows y k (declare s ds made).code (Leads s (with_declared m ds) k)
  declare_reads s fits m [] r made k kn = empty y k (Leads s m k) (record { more = same k; knows = kn })
  declare_reads s fits m (d ∷ ds) r made k kn =
      let both = and_parts (own d.local) (may_read m d.initial && declared_read own (with_local m d.local) ds) r in
      let rest = and_parts (may_read m d.initial) (declared_read own (with_local m d.local) ds) both.1 in
      let first = declared_as s d d.initial made in
      let more = declare s ds first.made in
      join y k (Puts y k d.local) (Leads s (with_declared (with_local m d.local) ds) k) first.code more.code (declared_as_reads s fits m d d.initial rest.0 made k kn)
      (λ a i.
      weaken y a (Leads s (with_declared (with_local m d.local) ds) a) (Leads s (with_declared (with_local m d.local) ds) k) more.code
      (λ b j. record { more = further k a b i.more j.more; knows = j.knows })
      (declare_reads s fits (with_local m d.local) ds rest.1 first.made a
      (knows_local a s.numbers s.body.flags.ctor m s.exposes d.local (fits.declared d.local both.0) i.has (knows_further s m k a i.more kn))))

  -- what only assigns more leaves in scope what was
  leads : (s : ElaborationContext) (m : May) (k : Known) (code : Code) → KnowsIn s m k → Flows y k code (More k) → Flows y k code (Leads s m k)
  leads s m k code kn h = weaken y k (More k) (Leads s m k) code (λ a i. record { more = i; knows = knows_further s m k a i kn }) h

  leads_more : (s : ElaborationContext) (m : May) (k : Known) (code : Code) → Flows y k code (Leads s m k) → Flows y k code (More k)
  leads_more s m k code h = weaken y k (Leads s m k) (More k) code (λ a i. i.more) h

  -- ---- calls alone, printing and `base(..)`

  drop_reads : (k : Known) (v : Source) → ReadsAll y k (sources v) → Flows y k (drop_result v) (More k)
  drop_reads k (Pure e) h = empty y k (More k) (same k)
  drop_reads k (Created p t es) h = more_step y k (NewStmt p None t es) refl h
  drop_reads k (CreatedArray p t e) h = more_step y k (NewArrayStmt p None t e) refl h
  drop_reads k (Called p callee es) h = more_step y k (CallStmt p None callee es) refl h

  alone_reads : (k : Known) (l : Lifted) → Flows y k l.code (Comes k l.source) → Flows y k (l.code ++ drop_result l.source) (More k)
  alone_reads k l h =
      join y k (Comes k l.source) (More k) l.code (drop_result l.source) h
      (λ a i. weaken y a (More a) (More k) (drop_result l.source) (λ b j. further k a b i.more j) (drop_reads a l.source i.reads))

  -- a value, and a step that reads it
  then_step : (k : Known) (code : Code) (e : core.ExprTree) (x : core.StmtTree) → ((l : Known) → Reads y l e → Flows y l (x ∷ []) (More l)) → Flows y k code (Gives y k e) → Flows y k (code ++ x ∷ []) (More k)
  then_step k code e x next h = join y k (Gives y k e) (More k) code (x ∷ []) h (λ a i. weaken y a (More a) (More k) (x ∷ []) (λ b j. further k a b i.more j) (next a i.reads))

  print_reads : (s : ElaborationContext) → Fits s.numbers → (m : May) (p : Place) (e : Option ExprTree) → may_read m e ≡ true → (line : Bool) → Codes s m (print s p e line)
  print_reads s fits m p None r line made k kn = more_step y k (PrintStmt p None line) refl refl
  print_reads s fits m p (Some e) r line made k kn =
      let v = value s e made in
      then_step k v.code v.value (PrintStmt p (Some v.value) line) (λ l i. more_step y l (PrintStmt p (Some v.value) line) refl (and_from _ _ i refl)) (value_reads s fits m e r made k kn)

  ready_reads : (s : ElaborationContext) (p : Place) (t : ℕ) (k : Known) → Flows y k (ready_after s p t) (More k)
  ready_reads s p t k =
      on_either (λ (c : Code). Flows y k c (More k)) s.body.flags.delayed [] (if has_delayed_constructor s.program t then ReadyStmt p ∷ [] else []) (empty y k (More k) (same k))
      (on_either (λ (c : Code). Flows y k c (More k)) (has_delayed_constructor s.program t) (ReadyStmt p ∷ []) [] (more_step y k (ReadyStmt p) refl refl) (empty y k (More k) (same k)))

  base_reads : (s : ElaborationContext) → Fits s.numbers → (m : May) (p : Place) (es : Arguments) → read_all m es ≡ true → (t : ℕ) → Codes s m (base_of s p es t)
  base_reads s fits m p es r t made k kn =
      let ts = param_types_in (constructor_of s.program t) in
      let l = arguments_of s ts es made in
      let call = CallStmt p None (BaseConstructor (number_of s.program (Constructor t))) l.values in
      on_either (λ (c : Coded). Flows y k c.code (More k)) (t == 0) (record { code = ready_after s p t; made = made }) (base_with s p t l)
      (ready_reads s p t k)
      (join y k (GivesAll k l.values) (More k) l.code (call ∷ ready_after s p t) (operands_read s fits m es r (in_temporaries s ts es) (in_temporaries_read s fits m ts es r) made k kn)
      (λ a i. weaken y a (More a) (More k) (call ∷ ready_after s p t) (λ b j. further k a b i.more j) (more_join y a (call ∷ []) (ready_after s p t) (more_step y a call refl i.reads) (λ b j. ready_reads s p t b))))

  simple_read : (s : ElaborationContext) → Fits s.numbers → (m : May) (x : SimpleTree) → simple_reads m x ≡ true → Codes s m (simple s x)
  simple_read s fits m (AssignOf target o e) r made k kn = let both = and_parts (reads m target) (reads m e) r in assignment_reads s fits m target o e both.0 both.1 made k kn
  simple_read s fits m (StepOf target o) r made k kn = update_reads s fits m (step_operator o) target (IntOf (place_of target) (pos 1)) r refl made k kn
  simple_read s fits m (AloneOf e) r made k kn = alone_reads k (right_side s e made) (right_reads s fits m e r made k kn)
  simple_read s fits m (PrintOf p e line) r made k kn = print_reads s fits m p e r line made k kn
  simple_read s fits m (PrintTextOf p text line) r made k kn = more_step y k (PrintTextStmt p text line) refl refl
  simple_read s fits m (BaseCallOf p es) r made k kn = base_reads s fits m p es r (above_of s.program s.body.class) made k kn

  -- ---- loops

  turn_more : (s : ElaborationContext) (m : May) (k : Known) → KnowsIn s m k → (turn : List Ty → Coded) → Codes s m turn → (made : List Ty) (l : Known) → More k l → Flows y l (turn made).code (More l)
  turn_more s m k kn turn h made l more = h made l (knows_further s m k l more kn)

  loop_reads : (s : ElaborationContext) → Fits s.numbers → (m : May) (p : Place) (is : List ExprTree) → list_all (reads m) is ≡ true → (e : Option ExprTree) → may_read m e ≡ true → (turn : List Ty → Coded) → Codes s m turn → Codes s m (loop_while s p is e turn)
  loop_reads s fits m p is q None r turn h made k kn =
      loop y k p (all_plain s.numbers is) (BoolExpr p true) s.exposes [] (turn made).code (list_reads k s.numbers fits s.body.flags.ctor m s.exposes kn is q) kn.exposes (turn_more s m k kn turn h made)
      (empty y k (Gives y k (BoolExpr p true)) (record { more = same k; reads = refl }))
  loop_reads s fits m p is q (Some e) r turn h made k kn =
      let v = value s e made in
      loop y k p (all_plain s.numbers is) v.value s.exposes v.code (turn v.made).code (list_reads k s.numbers fits s.body.flags.ctor m s.exposes kn is q) kn.exposes (turn_more s m k kn turn h v.made) (value_reads s fits m e r made k kn)

  begin_read : (s : ElaborationContext) → Fits s.numbers → (m : May) (i : Option InitTree) → begin_reads own m i ≡ true → (made : List Ty) (k : Known) → KnowsIn s m k → Flows y k (begin s i made).code (Leads s (with_begun m i) k)
  begin_read s fits m None r made k kn = empty y k (Leads s m k) (record { more = same k; knows = kn })
  begin_read s fits m (Some (DeclareFirst ds)) r made k kn = declare_reads s fits m ds r made k kn
  begin_read s fits m (Some (SimpleFirst x)) r made k kn = leads s m k (simple s x made).code kn (simple_read s fits m x r made k kn)

  advance_reads : (s : ElaborationContext) → Fits s.numbers → (m : May) (x : Option SimpleTree) → step_reads m x ≡ true → Codes s m (advance s x)
  advance_reads s fits m None r made k kn = empty y k (More k) (same k)
  advance_reads s fits m (Some x) r made k kn = simple_read s fits m x r made k kn

  -- ---- returns

  this_pack : (s : ElaborationContext) (p : Place) (k : Known) → (s.body.flags.ctor ≡ true → k 0 ≡ true) → Flows y k (pack_this s p) (More k)
  this_pack s p k h = by s.body.flags.ctor h
    where
      by : (b : Bool) → (b ≡ true → k 0 ≡ true) → Flows y k (if b then PackStmt p 0 s.body.class ∷ [] else []) (More k)
      by true g = pack y k p 0 s.body.class (g refl)
      by false g = empty y k (More k) (same k)

  packs_read : (s : ElaborationContext) (m : May) (p : Place) (k : Known) → KnowsIn s m k → Flows y k (packs s p) (More k)
  packs_read s m p k kn = more_join y k _ (pack_this s p) (packs_flow y k s.exposes kn.exposes) (λ l more. this_pack s p l (λ i. more 0 (kn.built i)))

  leave_with_reads : (s : ElaborationContext) (m : May) (p : Place) (k : Known) → KnowsIn s m k → (v : Valued) → Flows y k v.code (Gives y k v.value) → Flows y k (leave_with s p v).code (More k)
  leave_with_reads s m p k kn v h =
      join y k (Gives y k v.value) (More k) (v.code ++ packs s p) (ReturnStmt p (Some v.value) ∷ [])
      (join y k (Gives y k v.value) (Gives y k v.value) v.code (packs s p) h
      (λ a i. weaken y a (More a) (Gives y k v.value) (packs s p) (λ b j. record { more = further k a b i.more j; reads = reads_more y a b j v.value i.reads }) (packs_read s m p a (knows_further s m k a i.more kn))))
      (λ a i. returns y a (More k) p (Some v.value) (and_from _ _ i.reads refl))

  leave_value_reads : (s : ElaborationContext) → Fits s.numbers → (m : May) (p : Place) (e : ExprTree) → reads m e ≡ true → (os : List Opened) → Codes s m (leave_value s p e os)
  leave_value_reads s fits m p e r [] made k kn = leave_with_reads s m p k kn (value s e made) (value_reads s fits m e r made k kn)
  leave_value_reads s fits m p e r (o ∷ os) made k kn =
      let l = right_side s e made in
      leave_with_reads s m p k kn (kept_result s e l) (in_local_reads (place_of e) (next s.numbers l.made) (result_type s.body.result) k l (right_reads s fits m e r made k kn))

  leave_reads : (s : ElaborationContext) → Fits s.numbers → (m : May) (p : Place) (e : Option ExprTree) → may_read m e ≡ true → Codes s m (leave s p e)
  leave_reads s fits m p None r made k kn = join y k (More k) (More k) (packs s p) (ReturnStmt p None ∷ []) (packs_read s m p k kn) (λ a i. returns y a (More k) p None refl)
  leave_reads s fits m p (Some e) r made k kn = leave_value_reads s fits m p e r s.exposes made k kn

  -- ---- exposes

  closed_reads : (k : Known) (o : Opened) (ends : Bool) (inside : Coded) → k o.local ≡ true → Flows y k inside.code (More k) → Flows y k (close o ends inside).code (More k)
  closed_reads k o false inside has h = h
  closed_reads k o true inside has h = more_join y k inside.code (PackStmt o.place o.local o.class ∷ []) h (λ l more. pack y l o.place o.local o.class (more o.local has))

  expose_reads : (s : ElaborationContext) (m : May) (p : Place) (e : ExprTree) (t : ℕ) (ends : Bool) (inner : ElaborationContext → List Ty → Coded) → ((o : Opened) → Codes (within s o) m (inner (within s o))) → (k : Known) → KnowsIn s m k → (l : Lifted) → Flows y k l.code (Comes k l.source) →
      Flows y k (expose_lifted s p e t ends inner l).code (More k)
  expose_reads s m p e t ends inner h k kn l g =
      let n = next s.numbers l.made in
      let o = opened p n t in
      let c = inner (within s o) (l.made ++ temporary_type any_object (type_of e) ∷ []) in
      let front = (l.code ++ put (place_of e) n l.source ∷ []) ++ core.UnpackStmt p n t ∷ [] in
      join y k (Puts y k n) (More k) front (close o ends c).code
      (join y k (Puts y k n) (Puts y k n) (l.code ++ put (place_of e) n l.source ∷ []) (core.UnpackStmt p n t ∷ []) (into_local_reads (place_of e) n k l g)
      (λ a i. weaken y a (More a) (Puts y k n) (core.UnpackStmt p n t ∷ []) (λ b j. record { more = further k a b i.more j; has = j n i.has }) (unpack y a p n t i.has)))
      (λ a i.
      let kn_a = knows_further s m k a i.more kn in
      weaken y a (More a) (More k) (close o ends c).code (λ b j. further k a b i.more j)
      (closed_reads a o ends c i.has
      (h o (l.made ++ temporary_type any_object (type_of e) ∷ []) a
      (record {
        this = kn_a.this;
        built = kn_a.built;
        result = kn_a.result;
        locals = kn_a.locals;
        exposes = list_all-append (λ (z : Opened). a z.local) s.exposes (o ∷ []) ∙ rw (kn_a.exposes, i.has) refl;
      }))))

  -- ---- statements

  then_more : (s : ElaborationContext) (m : May) (c : Coded) (b : Bool) (f : List Ty → Coded) (k : Known) → Flows y k c.code (Leads s m k) → Codes s m f → Flows y k (then_code c (if b then f else nothing)).code (More k)
  then_more s m c b f k h g =
      let rest = (if b then f else nothing) c.made in
      join y k (Leads s m k) (More k) c.code rest.code h
      (λ a i.
      weaken y a (More a) (More k) rest.code (λ d j. further k a d i.more j)
      (on_either (λ (f : List Ty → Coded). Flows y a (f c.made).code (More a)) b f nothing (g c.made a i.knows) (empty y a (More a) (same a))))

  branch_reads : (s : ElaborationContext) (m : May) (p : Place) (v : Valued) (k : Known) → KnowsIn s m k → Flows y k v.code (Gives y k v.value) → (one other : Coded) →
      ((l : Known) → KnowsIn s m l → Flows y l one.code (More l)) → ((l : Known) → KnowsIn s m l → Flows y l other.code (More l)) → Flows y k (v.code ++ IfStmt p v.value (code_of one.code) (code_of other.code) ∷ []) (More k)
  branch_reads s m p v k kn h one other f g =
      join y k (Gives y k v.value) (More k) v.code (IfStmt p v.value (code_of one.code) (code_of other.code) ∷ []) h
      (λ a i.
      let there = knows_further s m k a i.more kn in
      weaken y a (More a) (More k) (IfStmt p v.value (code_of one.code) (code_of other.code) ∷ []) (λ b j. further k a b i.more j)
      (branch y a p v.value one.code other.code i.reads (f a there) (g a there)))

  mutual
    -- what a statement leaves in scope is assigned after it
    pub stmt_read : (s : ElaborationContext) → Fits s.numbers → (m : May) (x : StmtTree) → stmt_reads own m x ≡ true → (made : List Ty) (k : Known) → KnowsIn s m k → Flows y k (stmt s x made).code (Leads s (behind m x) k)
    stmt_read s fits m (InBlock b) r made k kn = leads s m k (block s b made).code kn (block_read s fits m b r made k kn)
    stmt_read s fits m (DeclareOf ds) r made k kn = declare_reads s fits m ds r made k kn
    stmt_read s fits m (SimpleOf x) r made k kn = leads s m k (simple s x made).code kn (simple_read s fits m x r made k kn)
    stmt_read s fits m (IfOf p e a) r made k kn =
        let both = and_parts (reads m e) (stmt_reads own m a) r in
        let v = value s e made in
        let one = stmt s a v.made in
        leads s m k (v.code ++ IfStmt p v.value (code_of one.code) NoCode ∷ []) kn
        (branch_reads s m p v k kn (value_reads s fits m e both.0 made k kn) one (nothing one.made)
        (λ l kn_l. leads_more s (behind m a) l one.code (stmt_read s fits m a both.1 v.made l kn_l)) (λ l kn_l. empty y l (More l) (same l)))
    stmt_read s fits m (IfElseOf p e a b) r made k kn =
        let both = and_parts (reads m e) (stmt_reads own m a && stmt_reads own m b) r in
        let sides = and_parts (stmt_reads own m a) (stmt_reads own m b) both.1 in
        let v = value s e made in
        let one = stmt s a v.made in
        let other = stmt s b one.made in
        leads s m k (v.code ++ IfStmt p v.value (code_of one.code) (code_of other.code) ∷ []) kn
        (branch_reads s m p v k kn (value_reads s fits m e both.0 made k kn) one other
        (λ l kn_l. leads_more s (behind m a) l one.code (stmt_read s fits m a sides.0 v.made l kn_l))
        (λ l kn_l. leads_more s (behind m b) l other.code (stmt_read s fits m b sides.1 one.made l kn_l)))
    stmt_read s fits m (WhileOf p e is a) r made k kn =
        let both = and_parts (reads m e) (list_all (reads m) is && stmt_reads own m a) r in
        let rest = and_parts (list_all (reads m) is) (stmt_reads own m a) both.1 in
        leads s m k (loop_while s p is (Some e) (stmt s a) made).code kn
        (loop_reads s fits m p is rest.0 (Some e) both.0 (stmt s a) (λ n l kn_l. leads_more s (behind m a) l (stmt s a n).code (stmt_read s fits m a rest.1 n l kn_l)) made k kn)
    stmt_read s fits m (ForOf p i e x is a) r made k kn =
        let g = with_begun m i in
        let one = and_parts (begin_reads own m i) (may_read g e && (step_reads g x && (list_all (reads g) is && stmt_reads own g a))) r in
        let two = and_parts (may_read g e) (step_reads g x && (list_all (reads g) is && stmt_reads own g a)) one.1 in
        let three = and_parts (step_reads g x) (list_all (reads g) is && stmt_reads own g a) two.1 in
        let four = and_parts (list_all (reads g) is) (stmt_reads own g a) three.1 in
        let turn = λ (n : List Ty). then_code (stmt s a n) (if can_end a then advance s x else nothing) in
        let first = begin s i made in
        let again = loop_while s p is e turn first.made in
        leads s m k (first.code ++ again.code) kn
        (join y k (Leads s g k) (More k) first.code again.code (begin_read s fits m i one.0 made k kn)
        (λ c j.
        weaken y c (More c) (More k) again.code (λ d n. further k c d j.more n)
        (loop_reads s fits g p is four.0 e two.0 turn
        (λ n l kn_l. then_more s g (stmt s a n) (can_end a) (advance s x) l
        (leads s g l (stmt s a n).code kn_l (leads_more s (behind g a) l (stmt s a n).code (stmt_read s fits g a four.1 n l kn_l))) (advance_reads s fits g x three.0))
        first.made c j.knows)))
    stmt_read s fits m (ReturnOf p e) r made k kn = leads s m k (leave s p e made).code kn (leave_reads s fits m p e r made k kn)
    stmt_read s fits m (AssertOf p e) r made k kn =
        leads s m k (AssertStmt p (plain s.numbers e) ∷ []) kn (more_step y k (AssertStmt p (plain s.numbers e)) refl (and_from _ _ (plain_reads k s.numbers fits s.body.flags.ctor m s.exposes kn e r) refl))
    stmt_read s fits m (AssumeOf p e) r made k kn =
        leads s m k (AssumeStmt p (plain s.numbers e) ∷ []) kn (more_step y k (AssumeStmt p (plain s.numbers e)) refl (and_from _ _ (plain_reads k s.numbers fits s.body.flags.ctor m s.exposes kn e r) refl))
    stmt_read s fits m (ExposeOf p e t b) r made k kn =
        let both = and_parts (reads m e) (block_reads own m b) r in
        let l = right_side s e made in
        leads s m k (expose_lifted s p e (exposed_class e t) (block_can_end b) (λ z n. block z b n) l).code kn
        (expose_reads s m p e (exposed_class e t) (block_can_end b) (λ z n. block z b n) (λ o. block_read (within s o) fits m b both.1) k kn l (right_reads s fits m e both.0 made k kn))
    stmt_read s fits m (EmptyOf p) r made k kn = empty y k (Leads s m k) (record { more = same k; knows = kn })

    pub block_read : (s : ElaborationContext) → Fits s.numbers → (m : May) (b : BlockTree) → block_reads own m b ≡ true → Codes s m (block s b)
    block_read s fits m (BlockOf p ss end) r made k kn = stmts_read s fits m ss r made k kn

    pub stmts_read : (s : ElaborationContext) → Fits s.numbers → (m : May) (ss : StmtTrees) → all_read own m ss ≡ true → Codes s m (stmts s ss)
    stmts_read s fits m typed.NoMore r made k kn = empty y k (More k) (same k)
    stmts_read s fits m (Before x xs) r made k kn =
        let both = and_parts (stmt_reads own m x) (all_read own (behind m x) xs) r in
        then_more s (behind m x) (stmt s x made) (can_end x) (stmts s xs) k (stmt_read s fits m x both.0 made k kn) (stmts_read s fits (behind m x) xs both.1)
