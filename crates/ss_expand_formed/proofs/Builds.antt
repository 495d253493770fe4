-- Each body of a resolved program without faults of types has no `base(..)`, or is a constructor that begins with one.
use Rattle.std.proofs.Common.{◌≡◌, ◌∙◌, ℕ, ◌+◌, ◌*◌, List, [], ◌++◌, true, false, Some, None, Option, refl, sym, subst, inl, inr, ◌⊎◌}
use Rattle.std.specs.Prelude.{◌||◌, slice_get, option_map, is_some, is_none}
use Rattle.ss_core.specs.declared.names.Place.{Place}
use Rattle.ss_ast.specs.Statements as written
use Rattle.ss_ast.specs.Programs.{ParamTree, BaseCallTree, ClassTree, ProgramTree}
use Rattle.ss_tables.specs.Members.{MethodTree, ConstructorTree, methods_in, constructors_in}
use Rattle.ss_tables.specs.Scopes.{Scope, param_scope}
use Rattle.ss_tables.specs.Scopes as scopes
use Rattle.ss_typed.specs.Tree.{NoMore, BodyTree, TypedTree}
use Rattle.ss_resolver_rules.specs.Names.{Env}
use Rattle.ss_resolver_rules.specs.Names as names
use Rattle.ss_resolver_rules.specs.Statements.{block, stmts}
use Rattle.ss_resolver_rules.specs.Programs.{base_of, param_env, method_env, resolved}
use Rattle.ss_resolver_rules.specs.Programs as resolver
use Rattle.ss_resolver_types_expressions.specs.Statements.{block_faults}
use Rattle.ss_resolver_types_expressions.specs.Members.{title_faults, params_faults, written_base, implied_base, block_calls_base, clauses_faults, constructor_body, constructor_block, result_faults, method_body, method_scope, end_faults}
use Rattle.ss_resolver_types_expressions.specs.Programs.{type_faults}
use Rattle.ss_typed.specs.Lookups.{body_at}
use Rattle.ss_expand_rules.specs.Constructors.{initializers, with_base, implicit_constructor}
use Rattle.ss_typed.specs.Shapes.{in_block}
use Rattle.ss_expand_formed.proofs.Facts.{none_left}
use Rattle.ss_expand_formed.proofs.ConstructionStatements.{InAll}
use Rattle.ss_expand_formed.proofs.Free.{Anything}
use Rattle.ss_expand_formed.proofs.Bases.{Free, block_free, no_more_first, none_or_one}
use Rattle.ss_expand_formed.proofs.Begins.{Begins, BeginsWhole, Owned, base_or, with_base_begins, constructor_begins}
use Rattle.ss_expand_formed.proofs.OwnFields.{OnlyOwn, initializers_own}
use Rattle.ss_expand_formed.proofs.FirstFields.{in_constructor, before_own}
use Rattle.ss_expand_formed.proofs.Numbering.{same_fields}
use Rattle.ss_expand_formed.proofs.Places.{source_of}
use Rattle.ss_core.specs.Tree as core
use Rattle.ss_core.specs.Chain.{declared}
use Rattle.ss_delayed_rules.specs.Opening.{before_base, opening_of}
use Rattle.ss_delayed_rules.specs.Constructors.{arguments_of}
use Rattle.ss_expand_formed.proofs.Sources.{of_each, constructor_none, method_none}

pub record BuildsNothing (b : BodyTree) : Type 0 where
  pub ctor : b.flags.ctor ≡ false
  pub free : InAll Free Anything b.block

pub record Builds (p : TypedTree) (b : BodyTree) : Type 0 where
  pub ctor : b.flags.ctor ≡ true
  pub static : b.flags.is_static ≡ false
  pub result : b.result ≡ None
  pub begins : BeginsWhole p b

abbrev pub IsBuilt : TypedTree → BodyTree → Type 0
IsBuilt p b = BuildsNothing b ⊎ Builds p b

number_owned : (q : TypedTree) (k : ℕ) → Owned q (4 + 2 * k)
number_owned q k f h = same_fields q k f ∙ h

block_begins : (p : ProgramTree) (k : ℕ) (c : ClassTree) → slice_get p.classes k ≡ Some c → (ps : List ParamTree) (base : Option BaseCallTree) (x : written.BlockTree) (b : BodyTree) → b.class ≡ 4 + 2 * k → constructor_block k (param_scope p.classes k ps) (is_none base) x ≡ [] →
    Begins (resolved p) b (opening_of (resolved p) b.class (option_map (base_of (param_env p.classes k false ps)) base) (in_block (block (param_env p.classes k false ps) x))) (arguments_of (base_or (option_map (base_of (param_env p.classes k false ps)) base) (in_block (block (param_env p.classes k false ps) x)))) NoMore (in_block (block (param_env p.classes k false ps) x)) (with_base (resolved p) b (option_map (base_of (param_env p.classes k false ps)) base) (in_block (block (param_env p.classes k false ps) x)))
block_begins p k c at ps None (written.BlockOf q xs z) b is h =
    let s = scopes.enter (param_scope p.classes k ps) in
    let e = names.enter (param_env p.classes k false ps) in
    with_base_begins (resolved p) b (subst (Owned (resolved p)) (sym is) (number_owned (resolved p) k)) None (stmts e xs) (λ n. none_or_one k s e xs h)
    (λ n found. subst (λ t. OnlyOwn (resolved p) t (before_base (stmts e xs))) (sym is) (before_own p k c at e s (in_constructor p k ps) xs h found)) (λ o i. absurd (let y : ⊥ = cc in y))
block_begins p k c at ps (Some base) (written.BlockOf q xs z) b is h =
    let s = scopes.enter (param_scope p.classes k ps) in
    let e = names.enter (param_env p.classes k false ps) in
    with_base_begins (resolved p) b (subst (Owned (resolved p)) (sym is) (number_owned (resolved p) k)) (Some (base_of (param_env p.classes k false ps) base)) (stmts e xs) (λ n. absurd (let y : ⊥ = cc in y))
    (λ n. absurd (let y : ⊥ = cc in y)) (λ o i. no_more_first k s e xs h)

module _ (p : ProgramTree) (none : type_faults p ≡ []) where
  pub constructor_built : (k : ℕ) (c : ClassTree) → slice_get p.classes k ≡ Some c → (n : ℕ) (d : ConstructorTree) → slice_get (constructors_in c.members) n ≡ Some d → IsBuilt (resolved p) (resolver.constructor_body p.classes k d)
  constructor_built k c at n d e =
      let s = param_scope p.classes k d.params in
      let front = title_faults c d.name ++ params_faults d.params ++ written_base k s d.base ++ implied_base p.classes k (is_some d.base || block_calls_base d.body) d.name.place ++ clauses_faults constructor_body s d.clauses in
      let last = (none_left front (constructor_block k s (is_none d.base) d.body) (constructor_none p none k c at n d e)).1 in
      let b = resolver.constructor_body p.classes k d in
      inr (record { ctor = refl; static = refl; result = refl; begins = constructor_begins (resolved p) b (initializers_own p k c at) (block_begins p k c at d.params d.base d.body b refl last) })

  method_built : (k : ℕ) (c : ClassTree) → slice_get p.classes k ≡ Some c → (n : ℕ) (m : MethodTree) → slice_get (methods_in c.members) n ≡ Some m → IsBuilt (resolved p) (resolver.method_body p.classes k m)
  method_built k c at n m e =
      let b = method_body p.classes m.modifiers m.result in
      let s = method_scope p.classes k b m.params in
      let front = result_faults m.result ++ params_faults m.params ++ clauses_faults b s m.clauses in
      let all = none_left (front ++ block_faults b s m.body) (end_faults m.result m.body) (method_none p none k c at n m e) in
      inl (record { ctor = refl; free = block_free b s (method_env p.classes k m) m.body (none_left front (block_faults b s m.body) all.0).1 })

  pub all_built : (n : ℕ) (b : BodyTree) → body_at (resolved p) n ≡ Some b → IsBuilt (resolved p) b
  all_built n b h = of_each p (IsBuilt (resolved p)) constructor_built method_built n b h

pub implicit_built : (p : ProgramTree) (t : ℕ) (y : core.ClassTree) → declared (resolved p).classes t ≡ Some y → (q : Place) → Builds (resolved p) (implicit_constructor t y.name q)
implicit_built p t y there q =
    let s = source_of p t y there in
    let b = implicit_constructor t y.name q in
    let own : OnlyOwn (resolved p) t (initializers (resolved p) t) = subst (λ u. OnlyOwn (resolved p) u (initializers (resolved p) u)) (sym s.number) (initializers_own p s.place s.tree s.there) in
    record {
      ctor = refl;
      static = refl;
      result = refl;
      begins = constructor_begins (resolved p) b own
          (with_base_begins (resolved p) b (subst (Owned (resolved p)) (sym s.number) (number_owned (resolved p) s.place)) None (in_block b.block) (λ n. inl tt) (λ n found. tt) (λ o i. absurd (let z : ⊥ = cc in z)));
    }
