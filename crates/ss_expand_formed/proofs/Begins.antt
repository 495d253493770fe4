-- The statements of a constructor: simple ones, one `base(..)`, and the rest.
use Rattle.std.proofs.Common.{◌≡◌, ℕ, ◌+◌, List, [], ◌∷◌, true, false, Option, Some, None, refl, sym, ◌∙◌, ap, subst, inl, inr, ◌⊎◌, ⊎_elim}
use Rattle.std.specs.Prelude.{◌&&◌, not, if◌then◌else◌}
use Rattle.std.proofs.lemmas.Bool.{and_parts, and_from, false≢true}
use Rattle.ss_core.specs.declared.names.Place.{Place}
use Rattle.ss_core.specs.Chain.{DeclaredField}
use Rattle.ss_ast.specs.declared.stmt.AssignOperator.TheVariants as operator
use Rattle.ss_typed.specs.Tree.{ExprTree, FieldOf, Arguments, SimpleTree, AssignOf, BaseCallOf, StmtTree, InBlock, DeclareOf, SimpleOf, IfOf, IfElseOf, WhileOf, ForOf, ReturnOf, AssertOf, AssumeOf, ExposeOf, EmptyOf, StmtTrees, NoMore, Before, BaseTree, FieldTree, MembersTree, BodyTree, TypedTree}
use Rattle.ss_typed.specs.Tree as typed
use Rattle.ss_paths.specs.Fields.{field_numbers, is_among}
use Rattle.ss_delayed_rules.specs.Opening.{is_first, first_run, before_base, opening_of, opening, base_in, written_base}
use Rattle.ss_delayed_rules.specs.Constructors.{arguments_of}
use Rattle.ss_expand_rules.specs.Program.{field_at}
use Rattle.ss_typed.specs.Lookups.{members_of}
use Rattle.ss_typed.specs.Shapes.{is_this, mentions_this, has_base, in_block}
use Rattle.ss_expand_rules.specs.Constructors.{before_all, initialize, initializers_from, initializers_in, initializers, after_initial, base_alone, with_base, constructor_stmts}
use Rattle.ss_expand_formed.proofs.Choices.{where_chosen}
use Rattle.ss_expand_formed.proofs.ConstructionStatements.{Along}
use Rattle.ss_expand_formed.proofs.Free.{Anything}
use Rattle.ss_expand_formed.proofs.Bases.{Free, OnlySimple, Splits, behind_other, none_found, one_found}
use Rattle.ss_expand_formed.proofs.Numbering.{is_declared_in}
use Rattle.ss_expand_formed.proofs.OwnFields.{is_own, OnlyOwn}

-- The statements have only simple ones before one `base(..)`, and none after it. In a constructor that isn't delayed those before it are these.
-- In a delayed one these stand before the block's own, which are none or begin the block.
pub record Begins (p : TypedTree) (b : BodyTree) (early : StmtTrees) (args : Arguments) (outset inner ss : StmtTrees) : Type 0 where
  pub front : StmtTrees
  pub place : Place
  pub given : Arguments
  pub rest : StmtTrees
  pub is : ss ≡ before_all front (Before (SimpleOf (BaseCallOf place given)) rest)
  pub simple : OnlySimple front
  pub free : Along Free Anything rest
  pub own : OnlyOwn p b.class front
  pub as_early : b.flags.delayed ≡ false → front ≡ early
  pub as_given : given ≡ args
  pub as_late : b.flags.delayed ≡ true → (mine : StmtTrees) × (front ≡ before_all outset mine) × (((mine ≡ NoMore) × (rest ≡ inner)) ⊎ (inner ≡ before_all mine (Before (SimpleOf (BaseCallOf place given)) rest)))

-- of the whole constructor, as the phase of construction takes it apart
abbrev pub BeginsWhole : TypedTree → BodyTree → Type 0
BeginsWhole p b = Begins p b (before_all (initializers p b.class) (opening p b)) (arguments_of (written_base b)) (initializers p b.class) (in_block b.block) (constructor_stmts p b)

-- ---- lists of statements

pub before_all_assoc : (xs ys zs : StmtTrees) → before_all (before_all xs ys) zs ≡ before_all xs (before_all ys zs)
before_all_assoc NoMore ys zs = refl
before_all_assoc (Before x xs) ys zs = ap (Before x) (before_all_assoc xs ys zs)

pub simple_before : (xs ys : StmtTrees) → OnlySimple xs → OnlySimple ys → OnlySimple (before_all xs ys)
simple_before NoMore ys h g = g
simple_before (Before (SimpleOf x) xs) ys h g = (h.0, simple_before xs ys h.1 g)
simple_before (Before x xs) ys h g = absurd h

pub free_before : (xs ys : StmtTrees) → Along Free Anything xs → Along Free Anything ys → Along Free Anything (before_all xs ys)
free_before NoMore ys h g = g
free_before (Before x xs) ys h g = (h.0, free_before xs ys h.1 g)

-- ---- where `base(..)` is implied

-- the fields whose numbers are those of the class are the ones that it declares
abbrev pub Owned : TypedTree → ℕ → Type 0
Owned p t = (f : ℕ) → is_among (field_numbers p t) f ≡ true → is_declared_in t (field_at p f) ≡ true

initial_simple : (p : TypedTree) (t : ℕ) → Owned p t → (s : StmtTree) → is_first p t s ≡ true → (x : SimpleTree) × (s ≡ SimpleOf x) × Free x × (is_own p t x ≡ true)
initial_simple p t own (SimpleOf (AssignOf (FieldOf q o f u) operator.Set e)) h =
    let target = (and_parts (is_this o && is_among (field_numbers p t) f) (not (mentions_this e)) h).0 in
    let both = and_parts (is_this o) (is_among (field_numbers p t) f) target in
    (AssignOf (FieldOf q o f u) operator.Set e, refl, refl, and_from (is_this o) (is_declared_in t (field_at p f)) both.0 (own f both.1))
initial_simple p t own (SimpleOf (AssignOf l operator.Set e)) h = absurd (false≢true h)
initial_simple p t own s h = absurd (false≢true h)

-- after the statements with which the block begins
after_run : (p : TypedTree) (b : BodyTree) → b.flags.delayed ≡ false → Owned p b.class → (q : Place) (es : Arguments) (ss : StmtTrees) → Along Free Anything ss → (inner : StmtTrees) → Begins p b (first_run p b.class ss) es NoMore inner (after_initial p b.class (SimpleOf (BaseCallOf q es)) ss)
after_run p b early owned q es NoMore h inner = record { front = NoMore; place = q; given = es; rest = NoMore; is = refl; simple = tt; free = tt; own = tt; as_early = λ d. refl; as_given = refl; as_late = λ d. absurd (false≢true (sym early ∙ d)) }
after_run p b early owned q es (Before x xs) h inner =
    let s = SimpleOf (BaseCallOf q es) in
    let t = b.class in
    where_chosen (Begins p b (first_run p t (Before x xs)) es NoMore inner) (is_first p t x) (Before x (after_initial p t s xs)) (Before s (Before x xs))
    (λ yes.
    let y = initial_simple p t owned x yes in
    let r = after_run p b early owned q es xs h.1 inner in
    record {
      front = Before (SimpleOf y.0) r.front;
      place = r.place;
      given = r.given;
      rest = r.rest;
      is = ap (λ z. Before z (after_initial p t s xs)) y.1 ∙ ap (Before (SimpleOf y.0)) r.is;
      simple = (y.2, r.simple);
      free = r.free;
      own = (y.3, r.own);
      as_early = λ d. ap (Before (SimpleOf y.0)) (r.as_early d) ∙ ap (λ z. Before z (first_run p t xs)) (sym y.1) ∙ sym (ap (λ z. if z then Before x (first_run p t xs) else NoMore) yes);
      as_given = r.as_given;
      as_late = λ d. absurd (false≢true (sym early ∙ d));
    })
    (λ other. record { front = NoMore; place = q; given = es; rest = Before x xs; is = refl; simple = tt; free = h; own = tt; as_early = λ d. sym (ap (λ z. if z then Before x (first_run p t xs) else NoMore) other); as_given = refl; as_late = λ d. absurd (false≢true (sym early ∙ d)) })

-- the `base(..)` of the heading, else the one in the block
abbrev pub base_or : Option BaseTree → StmtTrees → Option BaseTree
base_or (Some base) ss = Some base
base_or None ss = base_in ss

not_in : (ss : StmtTrees) → Along Free Anything ss → base_in ss ≡ None
not_in NoMore h = refl
not_in (Before (SimpleOf x) ss) h = behind_other x ss h.0 ∙ not_in ss h.1
not_in (Before (InBlock x) ss) h = not_in ss h.1
not_in (Before (DeclareOf x) ss) h = not_in ss h.1
not_in (Before (IfOf p e x) ss) h = not_in ss h.1
not_in (Before (IfElseOf p e x y) ss) h = not_in ss h.1
not_in (Before (WhileOf p e is x) ss) h = not_in ss h.1
not_in (Before (ForOf p i e x is y) ss) h = not_in ss h.1
not_in (Before (ReturnOf p e) ss) h = not_in ss h.1
not_in (Before (AssertOf p e) ss) h = not_in ss h.1
not_in (Before (AssumeOf p e) ss) h = not_in ss h.1
not_in (Before (ExposeOf p e t x) ss) h = not_in ss h.1
not_in (Before (EmptyOf p) ss) h = not_in ss h.1

-- what is made of the block
pub with_base_begins : (p : TypedTree) (b : BodyTree) → Owned p b.class → (base : Option BaseTree) (ss : StmtTrees) → (base ≡ None → Along Free Anything ss ⊎ Splits ss) → (base ≡ None → has_base ss ≡ true → OnlyOwn p b.class (before_base ss)) → ((o : BaseTree) → base ≡ Some o → Along Free Anything ss) →
    Begins p b (opening_of p b.class base ss) (arguments_of (base_or base ss)) NoMore ss (with_base p b base ss)
with_base_begins p b owned (Some base) ss split owns whole = record { front = NoMore; place = base.place; given = base.arguments; rest = ss; is = refl; simple = tt; free = whole base refl; own = tt; as_early = λ d. refl; as_given = refl; as_late = λ d. (NoMore, refl, inl (refl, refl)) }
with_base_begins p b owned None ss split owns whole =
    ⊎_elim
    (λ free.
    let chosen : Begins p b (first_run p b.class ss) typed.Arguments.NoMore NoMore ss (if b.flags.delayed then Before (base_alone b) ss else after_initial p b.class (base_alone b) ss) =
    where_chosen (Begins p b (first_run p b.class ss) typed.Arguments.NoMore NoMore ss) b.flags.delayed (Before (base_alone b) ss) (after_initial p b.class (base_alone b) ss)
    (λ yes. record { front = NoMore; place = b.place; given = typed.Arguments.NoMore; rest = ss; is = refl; simple = tt; free = free; own = tt; as_early = λ d. absurd (false≢true (sym d ∙ yes)); as_given = refl; as_late = λ d. (NoMore, refl, inl (refl, refl)) })
    (λ other. after_run p b other owned b.place typed.Arguments.NoMore ss free ss) in
    let none = none_found ss free in
    rw (none, not_in ss free) chosen)
    (λ r.
    let found : has_base ss ≡ true = ap has_base r.is ∙ one_found r.front r.place r.given r.rest in
    let whole_of : Begins p b (before_base ss) r.given NoMore ss ss =
    record { front = r.front; place = r.place; given = r.given; rest = r.rest; is = r.is; simple = r.simple; free = r.free; own = subst (OnlyOwn p b.class) r.before (owns refl found); as_early = λ d. sym r.before; as_given = refl; as_late = λ d. (r.front, refl, inr r.is) } in
    rw (found, r.base) whole_of)
    (split refl)

-- ---- the beginnings of fields

initialize_simple : (t f : ℕ) (m : FieldTree) (e : Option ExprTree) (d : Option DeclaredField) (more : StmtTrees) → OnlySimple more → OnlySimple (initialize t f m e d more)
initialize_simple t f m None d more h = h
initialize_simple t f m (Some e) None more h = h
initialize_simple t f m (Some e) (Some d) more h = (refl, h)

from_simple : (p : TypedTree) (t f : ℕ) (ms : List FieldTree) → OnlySimple (initializers_from p t f ms)
from_simple p t f [] = tt
from_simple p t f (m ∷ ms) = initialize_simple t f m m.initial (field_at p f) (initializers_from p t (f + 1) ms) (from_simple p t (f + 1) ms)

pub initializers_simple : (p : TypedTree) (t : ℕ) → OnlySimple (initializers p t)
initializers_simple p t = in_members (members_of p t)
  where
    in_members : (m : Option MembersTree) → OnlySimple (initializers_in p t m)
    in_members None = tt
    in_members (Some m) = from_simple p t _ m.fields

-- ---- the whole

own_before : (p : TypedTree) (t : ℕ) (xs ys : StmtTrees) → OnlyOwn p t xs → OnlyOwn p t ys → OnlyOwn p t (before_all xs ys)
own_before p t NoMore ys h g = g
own_before p t (Before (SimpleOf x) xs) ys h g = (h.0, own_before p t xs ys h.1 g)
own_before p t (Before x xs) ys h g = absurd h

pub written_is : (b : BodyTree) (o : Option BaseTree) → written_base (record b { base = o }) ≡ base_or o (in_block b.block)
written_is b None = refl
written_is b (Some o) = refl

pub constructor_begins : (p : TypedTree) (b : BodyTree) → OnlyOwn p b.class (initializers p b.class) → Begins p b (opening_of p b.class b.base (in_block b.block)) (arguments_of (base_or b.base (in_block b.block))) NoMore (in_block b.block) (with_base p b b.base (in_block b.block)) → BeginsWhole p b
constructor_begins p b own r = record {
  front = before_all (initializers p b.class) r.front;
  place = r.place;
  given = r.given;
  rest = r.rest;
  is = ap (before_all (initializers p b.class)) r.is ∙ sym (before_all_assoc (initializers p b.class) r.front (Before (SimpleOf (BaseCallOf r.place r.given)) r.rest));
  simple = simple_before (initializers p b.class) r.front (initializers_simple p b.class) r.simple;
  free = r.free;
  own = own_before p b.class (initializers p b.class) r.front own r.own;
  as_early = λ d. ap (before_all (initializers p b.class)) (r.as_early d);
  as_given = r.as_given ∙ sym (ap arguments_of (written_is b b.base));
  as_late = λ d. let m = r.as_late d in (m.0, ap (before_all (initializers p b.class)) m.1, m.2);
}
