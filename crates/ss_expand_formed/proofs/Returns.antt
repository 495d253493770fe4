-- A delayed constructor has given the fields of its class and of those above it their values on every path to each return.
use Rattle.std.proofs.Common.{◌≡◌, ℕ, zero, suc, ◌+◌, ◌-◌, ◌*◌, ◌≤◌, List, [], ◌∷◌, ◌++◌, length, Bool, true, false, Option, Some, None, refl, sym, ◌∙◌, ap, subst, arith, append_assoc, inl, inr, ◌⊎◌, ⊎_elim}
use Rattle.std.specs.Prelude.{◌&&◌, ◌||◌, ◌==◌, not, slice_get, is_some, option_and_then, if◌then◌else◌}
use Rattle.std.specs.List.{list_any}
use Rattle.std.proofs.lemmas.Bool.{cases_Bool, and_parts, and_from, or_left, or_right, or_cases, eq-eqb, eqb-true, false≢true}
use Rattle.std.proofs.lemmas.Option.{same_Some, slice_get_cases, slice_get_within}
use Rattle.ss_core.specs.declared.names.Place.{Place}
use Rattle.ss_core.specs.declared.names.Ty.{Ty}
use Rattle.ss_core.specs.Tree as core
use Rattle.ss_core.specs.Tree.{ReturnStmt}
use Rattle.ss_core.specs.Chain as chain
use Rattle.ss_core.specs.Chain.{declared, below, levels, levels_from, most_levels, DeclaredField, fields_from, all_fields}
use Rattle.ss_core.specs.View.{code_of}
use Rattle.ss_core.proofs.Fields.{first_class, later_class}
use Rattle.ss_ast.specs.Programs.{ClassTree, ProgramTree}
use Rattle.ss_tables.specs.Members.{ConstructorTree, constructors_in}
use Rattle.ss_typed.specs.Tree.{BaseCallOf, BlockTree, BlockOf, SimpleOf, ReturnOf, StmtTrees, NoMore, Before, MembersTree, BodyTree, TypedTree}
use Rattle.ss_paths.specs.Fields.{Numbers, field_numbers, is_among, own_fields}
use Rattle.ss_paths.specs.Assigned.{Assigned, assigned_by, assigned_by_initializers, assigned_first, assigned_flow}
use Rattle.ss_paths.specs.Paths as source
use Rattle.ss_delayed_rules.specs.Escapes.{ForFields, NotAtAll, uses_each, uses_in, uses_in_all}
use Rattle.ss_delayed_rules.specs.Constructors.{escapes, are_assigned_from, are_assigned, unassigned_faults, end_check, end_faults, base_faults, arguments_of, delayed_faults, undelayed_faults}
use Rattle.ss_typed.specs.Shapes.{closing_brace, in_block}
use Rattle.ss_delayed_rules.specs.Constructors as delayed
use Rattle.ss_delayed_rules.specs.Constructors.{unassigned}
use Rattle.ss_delayed_rules.specs.Program.{initializers_faults, implied_faults, classes_faults, body_faults, bodies_faults, construction_faults}
use Rattle.ss_resolver_names_rules.specs.Programs.{program_faults}
use Rattle.ss_resolver_rules.specs.Programs.{constructor_body, members, resolved}
use Rattle.ss_resolver_rules.specs.Programs as resolver
use Rattle.ss_resolver_types_expressions.specs.Programs.{type_faults}
use Rattle.ss_expand_rules.specs.Program.{field_at, table, Origin, above_of}
use Rattle.ss_typed.specs.Lookups.{body_at, constructor_in, constructor_of}
use Rattle.ss_expand_rules.specs.Contracts.{declarations}
use Rattle.ss_expand_rules.specs.Constructors.{before_all, initializers, implicit_constructor}
use Rattle.ss_typed.specs.Shapes as shapes
use Rattle.ss_expand_rules.specs.Lifting.{ElaborationContext}
use Rattle.ss_expand_rules.specs.Simple.{simple}
use Rattle.ss_expand_rules.specs.Statements.{stmts}
use Rattle.ss_expand_rules.specs.Bodies.{copying, code, written_body}
use Rattle.ss_store_rules.specs.Changes.{class_of_field, field_class}
use Rattle.ss_store_rules.specs.Paths.{at_end, holds_along}
use Rattle.ss_store_rules.specs.NonNull.{known_at_entry, is_field_above}
use Rattle.ss_store_rules.specs.Construction.{is_return, if_delayed, returns_with_fields}
use Rattle.ss_expand_formed.specs.Laws.{core_of}
use Rattle.ss_expand_formed.proofs.Facts.{none_left, not_true, not_false}
use Rattle.ss_expand_formed.proofs.Bodies.{IsMade, WrittenConstructor, ImplicitConstructor, WrittenMethod, Wrapper, origin_of}
use Rattle.ss_expand_formed.proofs.Resolved.{method_is, number_declared}
use Rattle.ss_expand_formed.proofs.ChainLaw.{size}
use Rattle.ss_expand_formed.proofs.Places.{source_of, each_at, members_at, constructor_at}
use Rattle.ss_expand_formed.proofs.Along.{at_none, holds_none, holds-append}
use Rattle.ss_expand_formed.proofs.Shape.{Code, each-append}
use Rattle.ss_expand_formed.proofs.Choices.{where_chosen}
use Rattle.ss_expand_formed.proofs.Bases.{OnlySimple}
use Rattle.ss_expand_formed.proofs.Begins.{before_all_assoc}
use Rattle.ss_expand_formed.proofs.Openings.{base_where, ready_where}
use Rattle.ss_expand_formed.proofs.ConstructionWritten.{s, above, before, front, number, values, ending, rest, given, lifted_given, calls, readies, code_is}
use Rattle.ss_expand_formed.proofs.Builds.{Builds, constructor_built, implicit_built}
use Rattle.ss_expand_formed.proofs.Sources.{of_each}
use Rattle.ss_expand_formed.proofs.Delayed.{is_above}
use Rattle.ss_expand_formed.proofs.Keeping.{body_none}
use Rattle.ss_expand_formed.specs.Fields.{ReturnWithFields}
use Rattle.ss_expand_formed.proofs.Mild.{Fields, fields_flow, fields_check, complete, at_return, is_mild, IsOfReturns, mild_holds, along_same}
use Rattle.ss_expand_formed.proofs.MildCode.{IsMild, simple_is_mild, given_is_mild}
use Rattle.ss_expand_formed.proofs.Simulation.{Knows, KnowsAt, stmts_go}
use Rattle.ss_expand_formed.proofs.Starts.{fields_from as has_fields, no_unassigned, own_complete, is_known}
use Rattle.ss_expand_formed.proofs.Ready.{nothing_first, copies_mild, simple_after, front_knows}

-- ---- the source

module _ (f : source.Flow Assigned) (c : source.Check Assigned) where
  ended : (ss : StmtTrees) → source.at_end f ss None ≡ None
  ended NoMore = refl
  ended (Before x ss) = refl

  pub faults_before : (xs ys : StmtTrees) (a : Option Assigned) → source.faults_along f c (before_all xs ys) a ≡ source.faults_along f c xs a ++ source.faults_along f c ys (source.at_end f xs a)
  faults_before NoMore ys a = refl
  faults_before (Before x xs) ys None =
      ap (λ r. source.faults_at f c x None ++ r) (faults_before xs ys None ∙ ap (λ d. source.faults_along f c xs None ++ source.faults_along f c ys d) (ended xs))
      ∙ sym (append_assoc (source.faults_at f c x None) (source.faults_along f c xs None) (source.faults_along f c ys None))
  faults_before (Before x xs) ys (Some a) =
      ap (λ r. source.faults_at f c x (Some a) ++ r) (faults_before xs ys (source.behind f x a))
      ∙ sym (append_assoc (source.faults_at f c x (Some a)) (source.faults_along f c xs (source.behind f x a)) (source.faults_along f c ys (source.at_end f xs (source.behind f x a))))

  in_block_faults : (b : BlockTree) (a : Option Assigned) → source.faults_in f c b a ≡ source.faults_along f c (in_block b) a
  in_block_faults (BlockOf q ss end) a = refl

  in_block_end : (b : BlockTree) (a : Assigned) → source.after_block f b a ≡ source.at_end f (in_block b) (Some a)
  in_block_end (BlockOf q ss end) a = refl

-- after simple statements something is known
simple_state : (n : Numbers) (ss : StmtTrees) (a : Assigned) → OnlySimple ss → (d : Assigned) × (source.at_end (assigned_flow n) ss (Some a) ≡ Some d)
simple_state n NoMore a h = (a, refl)
simple_state n (Before (SimpleOf x) ss) a h = simple_state n ss (assigned_by n x a) h.1
simple_state n (Before x ss) a h = absurd h

-- what the phase of construction says of the statements after `base(..)`
record Rests (q : TypedTree) (b : BodyTree) (n : Numbers) (r : Builds q b) (mine : StmtTrees) : Type 0 where
  before : Assigned
  is : source.at_end (assigned_flow n) mine (Some (assigned_first q b)) ≡ Some before
  behind : Assigned
  fewer : (i : ℕ) → behind.own i ≡ true → before.own i ≡ true
  faultless : source.faults_along (assigned_flow n) (end_check q b.class (closing_brace b.block)) (ending q b r.begins) (Some behind) ≡ []

module _ (q : TypedTree) (b : BodyTree) (r : Builds q b) (none : end_faults q b ≡ []) where
  abbrev flow : source.Flow Assigned
  flow = assigned_flow (field_numbers q b.class)

  abbrev check : source.Check Assigned
  check = end_check q b.class (closing_brace b.block)

  abbrev last : StmtTrees
  last = Before (ReturnOf (shapes.closing_brace b.block) None) NoMore

  whole_none : source.faults_along flow check (before_all (in_block b.block) last) (Some (assigned_first q b)) ≡ []
  whole_none =
      let both = none_left (source.faults_in flow check b.block (Some (assigned_first q b))) (unassigned_faults q b.class (closing_brace b.block) (source.after_block flow b.block (assigned_first q b))) none in
      let one : source.faults_along flow check (in_block b.block) (Some (assigned_first q b)) ≡ [] = sym (in_block_faults flow check b.block (Some (assigned_first q b))) ∙ both.0 in
      let two : unassigned_faults q b.class (closing_brace b.block) (source.at_end flow (in_block b.block) (Some (assigned_first q b))) ≡ [] = ap (unassigned_faults q b.class (closing_brace b.block)) (sym (in_block_end flow check b.block (assigned_first q b))) ∙ both.1 in
      faults_before flow check (in_block b.block) last (Some (assigned_first q b)) ∙ rw (one, two) refl

  rests : (mine : StmtTrees) → OnlySimple mine → ((mine ≡ NoMore) × (r.begins.rest ≡ in_block b.block)) ⊎ (in_block b.block ≡ before_all mine (Before (SimpleOf (BaseCallOf r.begins.place r.begins.given)) r.begins.rest)) → Rests q b (field_numbers q b.class) r mine
  rests mine only h = ⊎_elim whole begins h
    where
      whole : (mine ≡ NoMore) × (r.begins.rest ≡ in_block b.block) → Rests q b (field_numbers q b.class) r mine
      whole w = record {
        before = assigned_first q b;
        is = ap (λ ss. source.at_end flow ss (Some (assigned_first q b))) w.0;
        behind = assigned_first q b;
        fewer = λ i e. e;
        faultless = ap (λ ss. source.faults_along flow check (before_all ss last) (Some (assigned_first q b))) w.1 ∙ whole_none;
      }

      begins : in_block b.block ≡ before_all mine (Before (SimpleOf (BaseCallOf r.begins.place r.begins.given)) r.begins.rest) → Rests q b (field_numbers q b.class) r mine
      begins w =
          let base = SimpleOf (BaseCallOf r.begins.place r.begins.given) in
          let d = simple_state (field_numbers q b.class) mine (assigned_first q b) only in
          let parts : before_all (in_block b.block) last ≡ before_all mine (Before base (ending q b r.begins)) = ap (λ ss. before_all ss last) w ∙ before_all_assoc mine (Before base r.begins.rest) last in
          let faultless : source.faults_along flow check (before_all mine (Before base (ending q b r.begins))) (Some (assigned_first q b)) ≡ [] = subst (λ ss. source.faults_along flow check ss (Some (assigned_first q b)) ≡ []) parts whole_none in
          let split = none_left (source.faults_along flow check mine (Some (assigned_first q b))) (source.faults_along flow check (Before base (ending q b r.begins)) (source.at_end flow mine (Some (assigned_first q b)))) (sym (faults_before flow check mine (Before base (ending q b r.begins)) (Some (assigned_first q b))) ∙ faultless) in
          record {
            before = d.0;
            is = d.1;
            behind = record (d.0) { above = true };
            fewer = λ i e. e;
            faultless = subst (λ a. source.faults_along flow check (Before base (ending q b r.begins)) a ≡ []) d.1 split.1;
          }

-- ---- fields of the classes above

least_class : (m : ℕ) (cs : List core.ClassTree) (f : ℕ) (d : DeclaredField) → slice_get (fields_from m cs) f ≡ Some d → m ≤ d.class
least_class m [] f d h = absurd (let z : ⊥ = cc in z)
least_class m (c ∷ cs) f d h =
    ⊎_elim
    (λ here. let same : m ≡ d.class = ap class_of_field (sym (first_class m c cs f here.0 here.2) ∙ h) in omega arith)
    (λ past. let l = least_class (m + 2) cs (f - length c.fields) d (sym (later_class m c cs f past.0) ∙ h) in omega arith)
    (slice_get_cases c.fields f).1

-- the class above `object` alone is `object`
below_alone : (cs : List core.ClassTree) (t u : ℕ) → chain.above cs t ≡ 0 → below cs t u ≡ true → ((t == u) || (0 == u)) ≡ true
unfolding below levels most_levels
below_alone cs t u top h = by (t == 0) (rw top at h)
  where
    by : (v : Bool) → ((t == u) || list_any (λ level. level == u) (if v then [] else 0 ∷ [])) ≡ true → ((t == u) || (0 == u)) ≡ true
    by true h = or_first (t == u) h
      where
        or_first : (a : Bool) → (a || false) ≡ true → (a || (0 == u)) ≡ true
        or_first true e = refl
        or_first false e = absurd (false≢true e)
    by false h = or_last (t == u) (0 == u) h
      where
        or_last : (a b : Bool) → (a || (b || false)) ≡ true → (a || b) ≡ true
        or_last true b e = refl
        or_last false true e = refl
        or_last false false e = absurd (false≢true e)

-- a field of the program that a class above declares
abbrev above_first : core.CoreTree → core.BodyTree → Fields
above_first c y f = is_field_above c y f && is_some (slice_get (all_fields c.classes) f)

none_above : (c : core.CoreTree) (y : core.BodyTree) → chain.above c.classes y.class ≡ 0 → (f : ℕ) → above_first c y f ≡ true → ⊥
none_above c y top f h = by (slice_get (all_fields c.classes) f) refl
  where
    by : (o : Option DeclaredField) → slice_get (all_fields c.classes) f ≡ o → ⊥
    by None is = false≢true (sym (ap is_some is) ∙ (and_parts (is_field_above c y f) (is_some (slice_get (all_fields c.classes) f)) h).1)
    by (Some d) is =
        let both = and_parts (below c.classes y.class (field_class c.classes f)) (not (field_class c.classes f == y.class)) (and_parts (is_field_above c y f) (is_some (slice_get (all_fields c.classes) f)) h).0 in
        let class : field_class c.classes f ≡ d.class = ap class_of_field is in
        let high = least_class 4 c.classes f d is in
        let one = below_alone c.classes y.class d.class top (subst (λ u. below c.classes y.class u ≡ true) class both.0) in
        let differs : (d.class == y.class) ≡ false = not_true (d.class == y.class) (subst (λ u. not (u == y.class) ≡ true) class both.1) in
        ⊎_elim
        (λ same. false≢true (sym differs ∙ eq-eqb d.class y.class (sym (eqb-true y.class d.class same))))
        (λ zero. let z = eqb-true 0 d.class zero in let y : ⊥ = omega arith in y)
        (or_cases (y.class == d.class) (0 == d.class) one)

-- ---- the core

-- where the fields of the class and of those above it have their values
module _ (p : ProgramTree) (k : ℕ) (c : ClassTree) (at : slice_get p.classes k ≡ Some c) (y : core.BodyTree) (is : y.class ≡ 4 + 2 * k) where
  all_complete : (a : Assigned) (l : Fields) → are_assigned_from a.own 0 (own_fields (resolved p) (4 + 2 * k)) ≡ true → Knows (core_of p) y (field_numbers (resolved p) (4 + 2 * k)) (above_first (core_of p) y) a l → complete (core_of p) y l ≡ true
  all_complete a l h g =
      has_fields (below (core_of p).classes y.class) l 0 (all_fields (core_of p).classes)
      (λ i d there under wanted.
      let z : 0 + i ≡ i = omega arith in
      ap l z ∙
      ⊎_elim
      (λ mine. own_complete p k c at a l h g.own i d there (ap (λ u. d.class == u) (sym is) ∙ mine) wanted)
      (λ other.
      let class : field_class (core_of p).classes i ≡ d.class = ap class_of_field there in
      let over : is_field_above (core_of p) y i ≡ true = and_from _ _ (subst (λ u. below (core_of p).classes y.class u ≡ true) (sym class) under) (subst (λ u. not (u == y.class) ≡ true) (sym class) (ap not other)) in
      g.given i (and_from _ _ over (ap is_some there)))
      (cases_Bool (d.class == y.class)))

check_of_returns : (c : core.CoreTree) (y : core.BodyTree) → IsOfReturns c y (fields_check c y)
check_of_returns c y = record { others = others; tests = λ e k. refl }
  where
    others : (x : core.StmtTree) (k : Fields) → is_return x ≡ false → at_return c y x k ≡ true
    others (ReturnStmt p e) k h = absurd (false≢true (sym h))
    others x k h = refl

-- simple statements add fields alone
simples_mild : (z : ElaborationContext) (ss : StmtTrees) (made : List Ty) → OnlySimple ss → IsMild (stmts z ss made).code
simples_mild z NoMore made h = refl
simples_mild z (Before (SimpleOf x) ss) made h = let one = simple z x made in each-append is_mild one.code (stmts z ss one.made).code (simple_is_mild z x made) (simples_mild z ss one.made h.1)
simples_mild z (Before x ss) made h = absurd h

-- after `base(..)` the fields above have their values
base_gives : (c : core.CoreTree) (y : core.BodyTree) (n : Numbers) (base ready : Bool) (q : Place) (m : ℕ) (vs : List core.ExprTree) (a d : Assigned) → (base ≡ false → chain.above c.classes y.class ≡ 0) → ((i : ℕ) → d.own i ≡ true → a.own i ≡ true) → (l : Option Fields) → KnowsAt c y n nothing_first (Some a) l →
    KnowsAt c y n (above_first c y) (Some d) (at_end (fields_flow c y) (code_of (base_where base q m vs ++ ready_where ready q)) l)
base_gives c y n base ready q m vs a d top less None h = subst (KnowsAt c y n (above_first c y) (Some d)) (sym (at_none (fields_flow c y) (code_of (base_where base q m vs ++ ready_where ready q)))) tt
base_gives c y n true true q m vs a d top less (Some l) h = record { own = λ i e. refl; given = λ f e. refl }
base_gives c y n true false q m vs a d top less (Some l) h = record {
  own = λ i e. or_left (l (n.first + i) || not y.flags.delayed) _ (or_left (l (n.first + i)) _ (h.own i (less i e)));
  given = λ f e. or_right (l f || not y.flags.delayed) _ (and_parts (is_field_above c y f) (is_some (slice_get (all_fields c.classes) f)) e).0;
}
base_gives c y n false true q m vs a d top less (Some l) h = record { own = λ i e. refl; given = λ f e. refl }
base_gives c y n false false q m vs a d top less (Some l) h = record { own = λ i e. h.own i (less i e); given = λ f e. absurd (none_above c y (top refl) f e) }

final_from : (c : core.CoreTree) (y : core.BodyTree) (xs : core.CodeTree) → y.code ≡ xs → y.flags.ctor ≡ true → holds_along (fields_flow c y) (fields_check c y) xs (Some nothing_first) ≡ true → returns_with_fields c y ≡ true
final_from c y xs e ctor h =
    along_same c y y.code (Some (known_at_entry y))
    ∙ ap (λ code. holds_along (fields_flow c y) (fields_check c y) code (Some (λ f. not y.flags.ctor))) e
    ∙ ap (λ (v : Bool). holds_along (fields_flow c y) (fields_check c y) xs (Some (λ f. not v))) ctor
    ∙ h

module _ (p : ProgramTree) (faultless : program_faults p ≡ []) (k : ℕ) (c : ClassTree) (at : slice_get p.classes k ≡ Some c) (b : BodyTree) (is : b.class ≡ 4 + 2 * k) (bs : List BodyTree) (r : Builds (resolved p) b) (late : b.flags.delayed ≡ true) (none : end_faults (resolved p) b ≡ []) where
  abbrev q : TypedTree
  q = resolved p

  abbrev y : core.BodyTree
  y = written_body q b bs

  abbrev n : Numbers
  n = field_numbers q b.class

  abbrev z : ElaborationContext
  z = s q b r.begins

  abbrev Ends : Code → Option Fields → Option Fields
  Ends xs l = at_end (fields_flow (core_of p) y) (code_of xs) l

  abbrev Passes : Code → Option Fields → Type 0
  Passes xs l = holds_along (fields_flow (core_of p) y) (fields_check (core_of p) y) (code_of xs) l ≡ true

  abbrev calls_base : Bool
  calls_base = calls z (above q b r.begins)

  abbrev calls_ready : Bool
  calls_ready = readies z (above q b r.begins)

  abbrev between : Code
  between = base_where calls_base r.begins.place (number q b r.begins) (values q b r.begins) ++ ready_where calls_ready r.begins.place

  -- where no constructor is called the class stands below `object`
  top : calls_base ≡ false → chain.above (core_of p).classes b.class ≡ 0
  top e =
      let l = slice_get_within p.classes k c at in
      let all = size p in
      let there : chain.is_declared (core_of p).classes b.class ≡ true = subst (λ t. chain.is_declared (core_of p).classes t ≡ true) (sym is) (number_declared (core_of p).classes k (omega arith)) in
      (is_above p faultless b.class there).above ∙ eqb-true (above_of q b.class) 0 (not_false (above_of q b.class == 0) e)

  front_mild : IsMild (front q b r.begins)
  front_mild =
      let lifts = lifted_given z (above q b r.begins) r.begins.given (before q b r.begins).made in
      let lifts_mild : IsMild lifts = where_chosen IsMild (above q b r.begins == 0) [] (given z (above q b r.begins) r.begins.given (before q b r.begins).made).code (λ yes. refl) (λ other. given_is_mild z _ r.begins.given (before q b r.begins).made) in
      each-append is_mild (copying b) ((before q b r.begins).code ++ lifts) (copies_mild b) (each-append is_mild (before q b r.begins).code lifts (simples_mild z r.begins.front [] r.begins.simple) lifts_mild)

  between_mild : IsMild between
  between_mild = by calls_base calls_ready
    where
      by : (v w : Bool) → IsMild (base_where v r.begins.place (number q b r.begins) (values q b r.begins) ++ ready_where w r.begins.place)
      by true true = refl
      by true false = refl
      by false true = refl
      by false false = refl

  rest_passes : (a : Assigned) (l : Option Fields) → source.faults_along (assigned_flow n) (end_check q b.class (closing_brace b.block)) (ending q b r.begins) (Some a) ≡ [] → KnowsAt (core_of p) y n (above_first (core_of p) y) (Some a) l → Passes (rest q b r.begins) l
  rest_passes a None h g = holds_none (fields_flow (core_of p) y) (fields_check (core_of p) y) (code_of (rest q b r.begins))
  rest_passes a (Some l) h g =
      let known : (f : ℕ) → is_among n f ≡ true → is_some (field_at z.program f) ≡ true = λ f i. is_known p k c at f (subst (λ t. is_among (field_numbers q t) f ≡ true) is i) in
      let fault = λ (d : Option Assigned). unassigned_faults q b.class (closing_brace b.block) d in
      let returns : (d : Assigned) (m : Fields) → Knows (core_of p) y n (above_first (core_of p) y) d m → fault (Some d) ≡ [] → (w : Place) (e : Option core.ExprTree) → complete (core_of p) y m ≡ true =
      λ d m i e w x. all_complete p k c at y is d m (subst (λ t. are_assigned_from d.own 0 (own_fields q t) ≡ true) is (no_unassigned q b.class (closing_brace b.block) (Some d) e)) (subst (λ t. Knows (core_of p) y (field_numbers q t) (above_first (core_of p) y) d m) is i) in
      (stmts_go (core_of p) y n (above_first (core_of p) y) z known (fields_check (core_of p) y) (check_of_returns (core_of p) y) fault returns [] (ending q b r.begins) _ a l g h).0

  pub returns_complete : returns_with_fields (core_of p) y ≡ true
  returns_complete =
      let mine = r.begins.as_late late in
      let only : OnlySimple mine.0 = simple_after (initializers q b.class) mine.0 (subst OnlySimple mine.1 r.begins.simple) in
      let source_rest = rests q b r none mine.0 only mine.2 in
      let parts : r.begins.front ≡ before_all (initializers q (4 + 2 * k)) mine.0 = mine.1 ∙ ap (λ t. before_all (initializers q t) mine.0) is in
      let start : Assigned = assigned_first q b in
      let less : (i : ℕ) → start.own i ≡ true → (assigned_by_initializers q (4 + 2 * k)).own i ≡ true = λ i e. subst (λ t. (assigned_by_initializers q t).own i ≡ true) is e in
      let one : KnowsAt (core_of p) y (field_numbers q (4 + 2 * k)) nothing_first (source.at_end (assigned_flow (field_numbers q (4 + 2 * k))) mine.0 (Some start)) (Ends (front q b r.begins) (Some nothing_first)) = front_knows p k c at b is y r mine.0 parts start less in
      let two : KnowsAt (core_of p) y n nothing_first (source.at_end (assigned_flow n) mine.0 (Some start)) (Ends (front q b r.begins) (Some nothing_first)) = subst (λ t. KnowsAt (core_of p) y (field_numbers q t) nothing_first (source.at_end (assigned_flow (field_numbers q t)) mine.0 (Some start)) (Ends (front q b r.begins) (Some nothing_first))) (sym is) one in
      let three = subst (λ d. KnowsAt (core_of p) y n nothing_first d (Ends (front q b r.begins) (Some nothing_first))) source_rest.is two in
      let four = base_gives (core_of p) y n calls_base calls_ready r.begins.place (number q b r.begins) (values q b r.begins) source_rest.before source_rest.behind top source_rest.fewer (Ends (front q b r.begins) (Some nothing_first)) three in
      let last = rest_passes source_rest.behind (Ends between (Ends (front q b r.begins) (Some nothing_first))) source_rest.faultless four in
      let asked = check_of_returns (core_of p) y in
      let inner : Passes (between ++ rest q b r.begins) (Ends (front q b r.begins) (Some nothing_first)) = holds-append (fields_flow (core_of p) y) (fields_check (core_of p) y) between (rest q b r.begins) (Ends (front q b r.begins) (Some nothing_first)) (mild_holds (core_of p) y (fields_check (core_of p) y) asked (code_of between) (Ends (front q b r.begins) (Some nothing_first)) between_mild) last in
      let all : Passes (front q b r.begins ++ (between ++ rest q b r.begins)) (Some nothing_first) = holds-append (fields_flow (core_of p) y) (fields_check (core_of p) y) (front q b r.begins) (between ++ rest q b r.begins) (Some nothing_first) (mild_holds (core_of p) y (fields_check (core_of p) y) asked (code_of (front q b r.begins)) (Some nothing_first) front_mild) inner in
      let whole : code q b ≡ front q b r.begins ++ (between ++ rest q b r.begins) = code_is q b r.begins r.ctor r.result ∙ ap (λ xs. front q b r.begins ++ xs) (sym (append_assoc (base_where calls_base r.begins.place (number q b r.begins) (values q b r.begins)) (ready_where calls_ready r.begins.place) (rest q b r.begins))) in
      final_from (core_of p) y (code_of (front q b r.begins ++ (between ++ rest q b r.begins))) (ap code_of whole) r.ctor all

-- ---- all bodies

abbrev Returns : ProgramTree → BodyTree → Type 0
Returns p b = body_faults (resolved p) b ≡ [] → (bs : List BodyTree) → (b.flags.delayed ≡ false) ⊎ (returns_with_fields (core_of p) (written_body (resolved p) b bs) ≡ true)

module _ (p : ProgramTree) (faultless : program_faults p ≡ []) (types : type_faults p ≡ []) where
  constructor_returns : (k : ℕ) (c : ClassTree) → slice_get p.classes k ≡ Some c → (n : ℕ) (d : ConstructorTree) → slice_get (constructors_in c.members) n ≡ Some d → Returns p (constructor_body p.classes k d)
  constructor_returns k c at i d e h bs =
      let q = resolved p in
      let b = constructor_body p.classes k d in
      let half = (none_left (escapes (uses_in_all NotAtAll b.entry)) (if b.flags.delayed then delayed_faults q b else undelayed_faults q b) h).1 in
      ⊎_elim
      (λ (late : b.flags.delayed ≡ true).
      let mine : delayed_faults q b ≡ [] = rw late at half in
      let ends = (none_left (escapes (uses_each ForFields (arguments_of b.base) ++ uses_in ForFields b.block)) (end_faults q b) (none_left (escapes (uses_each ForFields (arguments_of b.base) ++ uses_in ForFields b.block) ++ end_faults q b) (base_faults q b.class b.place) mine).0).1 in
      inr (⊎_elim (λ n. absurd (false≢true (sym n.ctor))) (λ r. returns_complete p faultless k c at b refl bs r late ends) (constructor_built p types k c at i d e)))
      (λ (early : b.flags.delayed ≡ false). inl early)
      (cases_Bool b.flags.delayed)

  all_return : (n : ℕ) (b : BodyTree) → body_at (resolved p) n ≡ Some b → Returns p b
  all_return = of_each p (Returns p) constructor_returns (λ k c at n m e h bs. inl refl)

  if_returns : (b : BodyTree) (bs : List BodyTree) → (b.flags.delayed ≡ false) ⊎ (returns_with_fields (core_of p) (written_body (resolved p) b bs) ≡ true) → if_delayed (written_body (resolved p) b bs) (returns_with_fields (core_of p) (written_body (resolved p) b bs)) ≡ true
  if_returns b bs h = ⊎_elim (λ early. or_left (not b.flags.delayed) _ (ap not early)) (λ yes. or_right (not b.flags.delayed) _ yes) h

  -- a constructor that isn't written
  implied_none : (j : ℕ) (cs : List MembersTree) (i : ℕ) (m : MembersTree) → classes_faults (resolved p) j cs ≡ [] → slice_get cs i ≡ Some m → implied_faults (resolved p) (4 + 2 * (j + i)) m ≡ []
  implied_none j [] i m h e = absurd (let z : ⊥ = cc in z)
  implied_none j (x ∷ cs) zero m h e =
      let here : j + 0 ≡ j = omega arith in
      let both = none_left (initializers_faults x.fields ++ implied_faults (resolved p) (4 + 2 * j) x) (classes_faults (resolved p) (j + 1) cs) h in
      rw here (ap (implied_faults (resolved p) (4 + 2 * j)) (sym (same_Some _ _ e)) ∙ (none_left (initializers_faults x.fields) (implied_faults (resolved p) (4 + 2 * j) x) both.0).1)
  implied_none j (x ∷ cs) (suc i) m h e =
      let next : j + suc i ≡ j + 1 + i = omega arith in
      let both = none_left (initializers_faults x.fields ++ implied_faults (resolved p) (4 + 2 * j) x) (classes_faults (resolved p) (j + 1) cs) h in
      rw next (implied_none (j + 1) cs i m both.1 e)

  implicit_ends : (t : ℕ) (m : MembersTree) (name : List ℕ) (w : Place) → m.constructor ≡ None → implied_faults (resolved p) t m ≡ [] → end_faults (resolved p) (implicit_constructor t name w) ≡ []
  implicit_ends t m name w empty h =
      let both : unassigned_faults (resolved p) t m.place (Some (assigned_by_initializers (resolved p) t)) ++ base_faults (resolved p) t m.place ≡ [] = rw empty at h in
      let assigned = no_unassigned (resolved p) t m.place (Some (assigned_by_initializers (resolved p) t)) (none_left (unassigned_faults (resolved p) t m.place (Some (assigned_by_initializers (resolved p) t))) (base_faults (resolved p) t m.place) both).0 in
      ap (λ (v : Bool). if v then [] else delayed.at unassigned w ∷ []) assigned

  written_none : (k : ℕ) (c : ClassTree) → slice_get p.classes k ≡ Some c → (ds : List ConstructorTree) → constructors_in c.members ≡ ds → constructor_of (resolved p) (4 + 2 * k) ≡ None → resolver.written_constructor p.classes k ds ≡ None
  written_none k c at [] is h = refl
  written_none k c at (d ∷ ds) is h =
      let some = ap (constructor_in (resolved p)) (members_at p k c at) ∙ ap (λ xs. option_and_then (body_at (resolved p)) (resolver.written_constructor p.classes k xs)) is ∙ constructor_at p k c at d ds is in
      absurd (let bad : None ≡ Some (constructor_body p.classes k d) = sym h ∙ some in let z : ⊥ = cc in z)

  implicit_returns : classes_faults (resolved p) 0 (resolved p).members ≡ [] → (t : ℕ) (x : core.ClassTree) (w : Place) → declared (resolved p).classes t ≡ Some x → constructor_of (resolved p) t ≡ None → (bs : List BodyTree) → returns_with_fields (core_of p) (written_body (resolved p) (implicit_constructor t x.name w) bs) ≡ true
  implicit_returns classes t x w there empty bs =
      let o = source_of p t x there in
      let z : 0 + o.place ≡ o.place = omega arith in
      let members_there : slice_get (resolved p).members o.place ≡ Some (members p.classes o.place o.tree) = each_at (members p.classes) 0 p.classes o.place o.tree o.there ∙ ap (λ i. Some (members p.classes i o.tree)) z in
      let implied : implied_faults (resolved p) (4 + 2 * o.place) (members p.classes o.place o.tree) ≡ [] = subst (λ i. implied_faults (resolved p) (4 + 2 * i) (members p.classes o.place o.tree) ≡ []) z (implied_none 0 (resolved p).members o.place (members p.classes o.place o.tree) classes members_there) in
      let unwritten = written_none o.place o.tree o.there (constructors_in o.tree.members) refl (subst (λ u. constructor_of (resolved p) u ≡ None) o.number empty) in
      let ends = implicit_ends t (members p.classes o.place o.tree) x.name w unwritten (subst (λ u. implied_faults (resolved p) u (members p.classes o.place o.tree) ≡ []) (sym o.number) implied) in
      returns_complete p faultless o.place o.tree o.there (implicit_constructor t x.name w) o.number bs (implicit_built p t x there w) refl ends

  made_returns : classes_faults (resolved p) 0 (resolved p).members ≡ [] → bodies_faults (resolved p) (resolved p).bodies ≡ [] → (o : Origin) (x : core.BodyTree) → IsMade (resolved p) o x → if_delayed x (returns_with_fields (core_of p) x) ≡ true
  made_returns classes none o x (WrittenConstructor {n = n} {b = b} is em en eb) = if_returns b (b ∷ []) (all_return n b eb (body_none (resolved p) (resolved p).bodies n b none eb) (b ∷ []))
  made_returns classes none o x (ImplicitConstructor {t = t} {c = c} {m = m} is ec em empty) = let b = implicit_constructor t c.name m.place in if_returns b (b ∷ []) (inr (implicit_returns classes t c m.place ec empty (b ∷ [])))
  made_returns classes none o x (WrittenMethod {t = t} {m = m} {b = b} is eb own) =
      let at = method_is (resolved p) (slice_get (table (resolved p) t) m) b eb in
      if_returns b (declarations (resolved p) t m) (all_return at.0 b at.1 (body_none (resolved p) (resolved p).bodies at.0 b none at.1) (declarations (resolved p) t m))
  made_returns classes none o x (Wrapper is eb own em) = refl

pub return_with_fields : (p : ProgramTree) → program_faults p ≡ [] → type_faults p ≡ [] → construction_faults (resolved p) ≡ [] → ReturnWithFields (core_of p)
unfolding construction_faults
return_with_fields p faultless types construction n x at =
    let both = none_left (classes_faults (resolved p) 0 (resolved p).members) (bodies_faults (resolved p) (resolved p).bodies) construction in
    let from = origin_of (resolved p) n x at in
    made_returns p faultless types both.0 both.1 from.origin x from.made
