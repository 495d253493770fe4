-- Where a statement `base(..)` stands in a resolved body.
use Rattle.std.proofs.Common.{◌≡◌, ℕ, List, [], ◌∷◌, ◌++◌, Bool, true, false, Option, Some, None, refl, sym, ◌∙◌, ap, subst, inl, inr, ◌⊎◌, ⊎_elim}
use Rattle.std.specs.Prelude.{◌&&◌, map, option_map, if◌then◌else◌}
use Rattle.std.proofs.lemmas.Bool.{cases_Bool, or_right, false≢true}
use Rattle.ss_core.specs.declared.names.Place.{Place}
use Rattle.ss_ast.specs.Expressions as text
use Rattle.ss_ast.specs.Statements as written
use Rattle.ss_tables.specs.Scopes.{Scope, enter, behind, after_init}
use Rattle.ss_tables.specs.Statics.{Receiver, TheConsole, TheOwner, TheBase, AClass, AValue, receiver, static, count}
use Rattle.ss_typed.specs.Tree.{ExprTree, Arguments, SimpleTree, BaseCallOf, StmtTree, SimpleOf, StmtTrees, NoMore, Before}
use Rattle.ss_typed.specs.Shapes.{has_base, is_base}
use Rattle.ss_delayed_rules.specs.Opening.{before_base, base_in}
use Rattle.ss_resolver_rules.specs.Names.{Env}
use Rattle.ss_resolver_rules.specs.Names as names
use Rattle.ss_resolver_rules.specs.Expressions.{expr, args}
use Rattle.ss_resolver_rules.specs.Statements as rules
use Rattle.ss_resolver_rules.specs.Statements.{printed, print, is_line, call_alone, alone, simple, first, behind_first, block, stmt, stmts}
use Rattle.ss_resolver_types_heads.specs.Faults.{bad_type, fault_where}
use Rattle.ss_resolver_types_heads.specs.Calls.{ExprContext, called, argument_wants, whole_call}
use Rattle.ss_resolver_types_heads.specs.Wants.{place_of}
use Rattle.ss_resolver_types_heads.specs.Expressions.{AsValue, condition_faults, faults, faults_as, argument_faults}
use Rattle.ss_resolver_types_expressions.specs.Statements.{Body, in_code, simple_faults, init_faults, test_faults, step_faults, conditions, test, exposed_want, stmt_faults, block_faults, stmts_faults}
use Rattle.ss_resolver_types_expressions.specs.Members.{constructor_body, base_call, is_first_assignment, base_faults, outermost_faults, constructor_stmts}
use Rattle.ss_expand_rules.specs.Constructors.{before_all}
use Rattle.ss_expand_formed.proofs.Facts.{none_left}
use Rattle.ss_expand_formed.proofs.ConstructionStatements.{AtFirst, AtStep, At, InAll, Along}
use Rattle.ss_expand_formed.proofs.Free.{Anything, is_free, any_printed, any_declared, any_all}

abbrev pub Free : SimpleTree → Type 0
Free x = is_free x ≡ true

-- ---- what isn't `base(..)`

printed_free : (e : Env) (p : Place) (line : Bool) (a : text.ExprTree) → Free (printed e p line a)
printed_free e p line (text.ParenOf q a) = printed_free e p line a
printed_free e p line (text.TextOf q x) = refl
printed_free e p line a = refl

print_free : (e : Env) (p : Place) (line : Bool) (es : text.Arguments) → Free (print e p line es)
print_free e p line text.NoMore = refl
print_free e p line (text.Argument a es) = printed_free e p line a

after_free : (e : Env) (p : Place) (n : List ℕ) (es : text.Arguments) (r : Receiver) (whole : ExprTree) → Free (call_alone e p n es r whole)
after_free e p n es TheConsole whole = print_free e p (is_line n) es
after_free e p n es TheOwner whole = refl
after_free e p n es TheBase whole = refl
after_free e p n es (AClass k) whole = refl
after_free e p n es (AValue t) whole = refl

-- `base(..)` in its place is no call of another kind
refused : (a : ExprContext) (p q : Place) (es : text.Arguments) → faults a AsValue (text.CallOf p (text.BaseOf q) es) ≡ [] → ⊥
refused a p q es h =
    let f = text.BaseOf q in
    let front = (none_left (condition_faults a p true ++ whole_call p (count es) (called a (count es) f)) (argument_faults a (argument_wants (count es) (called a (count es) f)) es) h).0 in
    let whole : bad_type p ∷ [] ≡ [] = (none_left (condition_faults a p true) (whole_call p (count es) (called a (count es) f)) front).1 in
    cc

alone_free : (a : ExprContext) (e : Env) (x : text.ExprTree) → faults a AsValue x ≡ [] → Free (alone e x)
alone_free a e (text.CallOf p (text.BaseOf q) es) h = absurd (refused a p q es h)
alone_free a e (text.CallOf p (text.MemberOf q c n) es) h = after_free e p n.text es (receiver e.scope c (static e.scope c)) (expr e (text.CallOf p (text.MemberOf q c n) es))
alone_free a e x h = refl

simple_free : (a : ExprContext) (e : Env) (x : written.SimpleTree) → simple_faults a x ≡ [] → Free (simple e x)
simple_free a e (written.AssignOf l o r) h = refl
simple_free a e (written.StepOf l o) h = refl
simple_free a e (written.AloneOf x) h = alone_free a e x (none_left (faults a AsValue x) (fault_where _ (bad_type (place_of x))) h).0

first_free : (b : Body) (s : Scope) (e : Env) (i : Option written.ForInitTree) → init_faults b s i ≡ [] → AtFirst Free Anything (first e i)
first_free b s e None h = tt
first_free b s e (Some (written.DeclareFirst d)) h = any_declared (rules.declaration e d)
first_free b s e (Some (written.SimpleFirst x)) h = simple_free (in_code b s) e x h

step_free : (b : Body) (s : Scope) (e : Env) (x : Option written.SimpleTree) → step_faults b s x ≡ [] → AtStep Free (option_map (simple e) x)
step_free b s e None h = tt
step_free b s e (Some x) h = simple_free (in_code b s) e x h

-- ---- statements without one

mutual
  pub stmt_free : (b : Body) (s : Scope) (e : Env) (x : written.StmtTree) → stmt_faults b s x ≡ [] → At Free Anything (stmt e x)
  stmt_free b s e (written.InBlock c) h = block_free b s e c h
  stmt_free b s e (written.DeclareOf d) h = any_declared (rules.declaration e d)
  stmt_free b s e (written.SimpleOf x) h = simple_free (in_code b s) e x h
  stmt_free b s e (written.IfOf p c x) h = (tt, stmt_free b (enter s) (names.enter e) x (none_left (test b s c) (stmt_faults b (enter s) x) h).1)
  stmt_free b s e (written.IfElseOf p c x y) h =
      let both = none_left (test b s c ++ stmt_faults b (enter s) x) (stmt_faults b (enter s) y) h in
      let one = none_left (test b s c) (stmt_faults b (enter s) x) both.0 in
      (tt, stmt_free b (enter s) (names.enter e) x one.1, stmt_free b (enter s) (names.enter (rules.past e (rules.declared_in x))) y both.1)
  stmt_free b s e (written.WhileOf p c es x) h =
      (tt, any_all (map (expr e) es), stmt_free b (enter s) (names.enter e) x (none_left (test b s c ++ conditions b s es) (stmt_faults b (enter s) x) h).1)
  stmt_free b s e (written.ForOf p i c x es y) h =
      let t = after_init (enter s) i in
      let inner = behind_first (names.enter e) i in
      let last = none_left (init_faults b (enter s) i ++ test_faults b t c ++ step_faults b t x ++ conditions b t es) (stmt_faults b (enter t) y) h in
      let three = none_left (init_faults b (enter s) i ++ test_faults b t c ++ step_faults b t x) (conditions b t es) last.0 in
      let two = none_left (init_faults b (enter s) i ++ test_faults b t c) (step_faults b t x) three.0 in
      let one = none_left (init_faults b (enter s) i) (test_faults b t c) two.0 in
      (first_free b (enter s) (names.enter e) i one.0, any_printed (option_map (expr inner) c), step_free b t inner x two.1, any_all (map (expr inner) es), stmt_free b (enter t) (names.enter inner) y last.1)
  stmt_free b s e (written.ReturnOf p c) h = any_printed (option_map (expr e) c)
  stmt_free b s e (written.AssertOf p c) h = tt
  stmt_free b s e (written.AssumeOf p c) h = tt
  stmt_free b s e (written.ExposeOf p c n x) h = (tt, block_free b s e x (none_left (faults_as (in_code b s) (exposed_want s.classes n) c) (block_faults b s x) h).1)
  stmt_free b s e (written.EmptyOf p) h = tt

  pub block_free : (b : Body) (s : Scope) (e : Env) (c : written.BlockTree) → block_faults b s c ≡ [] → InAll Free Anything (block e c)
  block_free b s e (written.BlockOf p ss q) h = stmts_free b (enter s) (names.enter e) ss h

  pub stmts_free : (b : Body) (s : Scope) (e : Env) (ss : written.StmtTrees) → stmts_faults b s ss ≡ [] → Along Free Anything (stmts e ss)
  stmts_free b s e written.NoMore h = tt
  stmts_free b s e (written.Before x xs) h =
      let both = none_left (stmt_faults b s x) (stmts_faults b (behind s x) xs) h in
      (stmt_free b s e x both.0, stmts_free b (behind s x) (rules.behind e x) xs both.1)

-- ---- the block of a constructor

-- simple statements without one
abbrev pub OnlySimple : StmtTrees → Type 0
OnlySimple NoMore = Unit {0}
OnlySimple (Before (SimpleOf x) ss) = Free x × OnlySimple ss
OnlySimple (Before s ss) = ⊥

-- one `base(..)` among the outermost statements, with only simple ones before it and none after
pub record Splits (ss : StmtTrees) : Type 0 where
  pub front : StmtTrees
  pub place : Place
  pub given : Arguments
  pub rest : StmtTrees
  pub is : ss ≡ before_all front (Before (SimpleOf (BaseCallOf place given)) rest)
  pub simple : OnlySimple front
  pub free : Along Free Anything rest
  -- as the phase of construction takes them apart
  pub before : before_base ss ≡ front
  pub base : base_in ss ≡ Some (record { place = place; arguments = given })

pub no_more_first : (k : ℕ) (s : Scope) (e : Env) (xs : written.StmtTrees) → constructor_stmts k s false xs ≡ [] → Along Free Anything (stmts e xs)
no_more_first k s e written.NoMore h = tt
no_more_first k s e (written.Before x xs) h =
    let both = none_left (outermost_faults k s x false (base_call x)) (constructor_stmts k (behind s x) false xs) h in
    (stmt_free constructor_body s e x both.0, no_more_first k (behind s x) (rules.behind e x) xs both.1)

free_no_base : (x : SimpleTree) → Free x → is_base (SimpleOf x) ≡ false
free_no_base (BaseCallOf p es) h = absurd (false≢true h)
free_no_base x h = refl

pub behind_other : (x : SimpleTree) (ss : StmtTrees) → Free x → base_in (Before (SimpleOf x) ss) ≡ base_in ss
behind_other (BaseCallOf p es) ss h = absurd (false≢true h)
behind_other x ss h = refl

longer : (x : SimpleTree) (ss : StmtTrees) → Free x → Splits ss → Splits (Before (SimpleOf x) ss)
longer x ss h r = record {
  front = Before (SimpleOf x) r.front;
  place = r.place;
  given = r.given;
  rest = r.rest;
  is = ap (Before (SimpleOf x)) r.is;
  simple = (h, r.simple);
  free = r.free;
  before = ap (λ b. if b then NoMore else Before (SimpleOf x) (before_base ss)) (free_no_base x h) ∙ ap (Before (SimpleOf x)) r.before;
  base = behind_other x ss h ∙ r.base;
}

abbrev Either : StmtTrees → Type 0
Either ss = Along Free Anything ss ⊎ Splits ss

is_simple : (k : ℕ) (s : Scope) (e : Env) (x : written.StmtTree) → is_first_assignment k s x ≡ true → (y : SimpleTree) × (stmt e x ≡ SimpleOf y)
is_simple k s e (written.SimpleOf x) h = (simple e x, refl)
is_simple k s e x h = absurd (false≢true h)

further : (k : ℕ) (s : Scope) (e : Env) (x : written.StmtTree) (xs : written.StmtTrees) → base_call x ≡ None → constructor_stmts k s true (written.Before x xs) ≡ [] →
    (constructor_stmts k (behind s x) true xs ≡ [] → Either (stmts (rules.behind e x) xs)) → Either (stmts e (written.Before x xs))
further k s e x xs none h go_on =
    let both = none_left (outermost_faults k s x true (base_call x)) (constructor_stmts k (behind s x) (true && is_first_assignment k s x) xs) h in
    let faultless : stmt_faults constructor_body s x ≡ [] = rw none at both.0 in
    let here = stmt_free constructor_body s e x faultless in
    ⊎_elim
    (λ yes.
    let y = is_simple k s e x yes in
    let rest : constructor_stmts k (behind s x) true xs ≡ [] = rw yes at both.1 in
    ⊎_elim
    (λ free. inl (here, free))
    (λ splits.
    let own : Free y.0 = subst (At Free Anything) y.1 here in
    inr (subst (λ z. Splits (Before z (stmts (rules.behind e x) xs))) (sym y.1) (longer y.0 (stmts (rules.behind e x) xs) own splits)))
    (go_on rest))
    (λ other.
    let rest : constructor_stmts k (behind s x) false xs ≡ [] = rw other at both.1 in
    inl (here, no_more_first k (behind s x) (rules.behind e x) xs rest))
    (cases_Bool (is_first_assignment k s x))

-- either there is none, or one, after simple statements
pub none_or_one : (k : ℕ) (s : Scope) (e : Env) (xs : written.StmtTrees) → constructor_stmts k s true xs ≡ [] → Either (stmts e xs)
none_or_one k s e written.NoMore h = inl tt
none_or_one k s e (written.Before (written.SimpleOf (written.AloneOf (text.CallOf p (text.BaseOf q) es))) xs) h =
    let t = written.SimpleOf (written.AloneOf (text.CallOf p (text.BaseOf q) es)) in
    let rest = (none_left (base_faults k s p es) (constructor_stmts k (behind s t) false xs) h).1 in
    inr (record {
      front = NoMore;
      place = p;
      given = args e es;
      rest = stmts e xs;
      is = refl;
      simple = tt;
      free = no_more_first k s e xs rest;
      before = refl;
      base = refl;
    })
none_or_one k s e (written.Before x xs) h = further k s e x xs refl h (λ i. none_or_one k (behind s x) (rules.behind e x) xs i)

-- ---- whether one is found

pub at_no_base : (s : StmtTree) → At Free Anything s → is_base s ≡ false
at_no_base (SimpleOf (BaseCallOf p es)) h = absurd (false≢true h)
at_no_base s h = refl

pub none_found : (ss : StmtTrees) → Along Free Anything ss → has_base ss ≡ false
none_found NoMore h = refl
none_found (Before s ss) h = rw (at_no_base s h.0) (none_found ss h.1)

pub one_found : (front : StmtTrees) (p : Place) (es : Arguments) (rest : StmtTrees) → has_base (before_all front (Before (SimpleOf (BaseCallOf p es)) rest)) ≡ true
one_found NoMore p es rest = refl
one_found (Before s front) p es rest = or_right (is_base s) _ (one_found front p es rest)
