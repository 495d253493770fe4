-- The `this` of a delayed constructor doesn't get out of its code.
use Rattle.std.proofs.Common.{◌≡◌, ℕ, zero, suc, ◌+◌, ◌*◌, ◌<◌, List, [], ◌∷◌, ◌++◌, map, true, false, Option, Some, None, refl, sym, ◌∙◌, ap, subst, arith, inl, inr, ◌⊎◌, ⊎_elim}
use Rattle.std.specs.Prelude.{not, slice_get, option_map, if◌then◌else◌}
use Rattle.std.proofs.lemmas.Bool.{cases_Bool, and_from, or_left, or_right}
use Rattle.std.proofs.lemmas.Option.{same_Some}
use Rattle.ss_core.specs.declared.names.Place.{Place}
use Rattle.ss_core.specs.Tree as core
use Rattle.ss_core.specs.Chain.{declared, DeclaredField}
use Rattle.ss_core.specs.View.{code_of}
use Rattle.ss_ast.specs.Expressions as text
use Rattle.ss_ast.specs.Programs.{ParamTree, BaseCallTree, ClassTree, ProgramTree}
use Rattle.ss_tables.specs.Members.{FieldTree, ConstructorTree, fields_in}
use Rattle.ss_typed.specs.Tree.{ExprTree, ThisOf, FieldOf, Arguments, arguments, AssignOf, BaseCallOf, BlockTree, BlockOf, StmtTree, SimpleOf, ReturnOf, StmtTrees, NoMore, Before, BaseTree, MembersTree, BodyTree, TypedTree}
use Rattle.ss_typed.specs.Tree as typed
use Rattle.ss_delayed_rules.specs.Escapes.{Use, ForFields, NotAtAll, uses, uses_each, uses_in, uses_in_all, uses_if}
use Rattle.ss_delayed_rules.specs.Constructors as delayed
use Rattle.ss_delayed_rules.specs.Constructors.{escapes, end_faults, base_faults, delayed_faults, undelayed_faults, constructor_faults}
use Rattle.ss_delayed_rules.specs.Program.{initializers_faults, implied_faults, classes_faults, body_faults, bodies_faults, construction_faults}
use Rattle.ss_resolver_rules.specs.Names.{Env, class_env}
use Rattle.ss_resolver_rules.specs.Expressions.{expr}
use Rattle.ss_resolver_rules.specs.Programs.{base_of, param_env, constructor_body, field_member, members, resolved}
use Rattle.ss_expand_rules.specs.Program.{field_at, above_of, table, Origin}
use Rattle.ss_typed.specs.Lookups.{body_at}
use Rattle.ss_expand_rules.specs.Statements.{stmts}
use Rattle.ss_expand_rules.specs.Contracts.{first_param, declarations}
use Rattle.ss_paths.specs.Fields.{field_numbers}
use Rattle.ss_paths.specs.Opening.{is_first}
use Rattle.ss_expand_rules.specs.Constructors.{before_all, initialize, initializers_from, initializers_in, initializers, after_initial, base_alone, with_base, implicit_constructor}
use Rattle.ss_typed.specs.Shapes.{closing_brace, in_block, has_base}
use Rattle.ss_expand_rules.specs.Bodies.{first_copy, copying_from, copying, statements, elaboration_context, temporary_count, code, written_body}
use Rattle.ss_store_rules.specs.Locals.{each}
use Rattle.ss_store_rules.specs.Construction.{if_delayed, keeps_this_in}
use Rattle.ss_expand_formed.specs.Laws.{core_of}
use Rattle.ss_expand_formed.proofs.Facts.{none_left}
use Rattle.ss_expand_formed.proofs.Bodies.{IsMade, WrittenConstructor, ImplicitConstructor, WrittenMethod, Wrapper, origin_of}
use Rattle.ss_expand_formed.proofs.Places.{source_of, each_at, members_at}
use Rattle.ss_expand_formed.proofs.Resolved.{method_is}
use Rattle.ss_expand_formed.proofs.Shape.{each-append}
use Rattle.ss_expand_formed.proofs.Resolving.{params_numbered}
use Rattle.ss_expand_formed.specs.Construction.{KeepThisIn}
use Rattle.ss_expand_formed.proofs.Choices.{where_chosen}
use Rattle.ss_expand_formed.proofs.Simple.{simple_runs, base_runs}
use Rattle.ss_expand_formed.proofs.ConstructionStatements.{At, InAll, Along, stmts_run}
use Rattle.ss_expand_formed.proofs.Sources.{of_each}
use Rattle.ss_expand_formed.proofs.ConstructionWritten.{copies_pass}
use Rattle.ss_expand_formed.proofs.Uses.{other, Fine, AreFine, fine, stays, behaves, fine_keeps}
use Rattle.ss_expand_formed.proofs.ReadLocals.{Others, IsInside, expr_other, block_other}
use Rattle.ss_expand_formed.proofs.Fine.{less, FineSimple, block_fine, simple_keeps, statements_keep, after_this}

-- ---- lists of statements

module _ (G : typed.SimpleTree → Type 0) (F : ExprTree → Type 0) where
  pub along_before : (xs ys : StmtTrees) → Along G F xs → Along G F ys → Along G F (before_all xs ys)
  along_before NoMore ys h g = g
  along_before (Before x xs) ys h g = (h.0, along_before xs ys h.1 g)

  pub along_block : (b : BlockTree) → InAll G F b → Along G F (in_block b)
  along_block (BlockOf q ss end) h = h

  along_run : (p : TypedTree) (t : ℕ) (s : StmtTree) (ss : StmtTrees) → At G F s → Along G F ss → Along G F (after_initial p t s ss)
  along_run p t s NoMore h g = (h, tt)
  along_run p t s (Before x xs) h g = where_chosen (Along G F) (is_first p t x) (Before x (after_initial p t s xs)) (Before s (Before x xs)) (λ yes. (g.0, along_run p t s xs h g.1)) (λ no. (h, g))

  pub along_base : (p : TypedTree) (b : BodyTree) (base : Option BaseTree) (ss : StmtTrees) → ((q : Place) → G (BaseCallOf q (delayed.arguments_of base))) → ((q : Place) → G (BaseCallOf q typed.Arguments.NoMore)) → Along G F ss → Along G F (with_base p b base ss)
  along_base p b (Some base) ss given none h = (given base.place, h)
  along_base p b None ss given none h =
      where_chosen (Along G F) (has_base ss) ss (if b.flags.delayed then Before (base_alone b) ss else after_initial p b.class (base_alone b) ss) (λ yes. h)
      (λ no. where_chosen (Along G F) b.flags.delayed (Before (base_alone b) ss) (after_initial p b.class (base_alone b) ss) (λ late. (none b.place, h)) (λ early. along_run p b.class (base_alone b) ss (none b.place) h))

pub no_escapes : (ps : List Place) → escapes ps ≡ [] → ps ≡ []
no_escapes [] h = refl
no_escapes (q ∷ ps) h = absurd (let z : ⊥ = cc in z)

pub body_none : (p : TypedTree) (bs : List BodyTree) (n : ℕ) (b : BodyTree) → bodies_faults p bs ≡ [] → slice_get bs n ≡ Some b → body_faults p b ≡ []
body_none p [] n b h e = absurd (let z : ⊥ = cc in z)
body_none p (x ∷ bs) zero b h e = ap (body_faults p) (sym (same_Some _ _ e)) ∙ (none_left (body_faults p x) (bodies_faults p bs) h).0
body_none p (x ∷ bs) (suc n) b h e = body_none p bs n b (none_left (body_faults p x) (bodies_faults p bs) h).1 e

class_none : (p : TypedTree) (k : ℕ) (cs : List MembersTree) (i : ℕ) (m : MembersTree) → classes_faults p k cs ≡ [] → slice_get cs i ≡ Some m → initializers_faults m.fields ≡ []
class_none p k [] i m h e = absurd (let z : ⊥ = cc in z)
class_none p k (x ∷ cs) zero m h e =
    let both = none_left (initializers_faults x.fields ++ implied_faults p (4 + 2 * k) x) (classes_faults p (k + 1) cs) h in
    ap (λ (z : MembersTree). initializers_faults z.fields) (sym (same_Some _ _ e)) ∙ (none_left (initializers_faults x.fields) (implied_faults p (4 + 2 * k) x) both.0).0
class_none p k (x ∷ cs) (suc i) m h e =
    class_none p (k + 1) cs i m (none_left (initializers_faults x.fields ++ implied_faults p (4 + 2 * k) x) (classes_faults p (k + 1) cs) h).1 e

-- ---- the beginnings of fields

at_all : (u : Use) (e : ExprTree) → uses NotAtAll e ≡ [] → uses u e ≡ []
at_all ForFields e h = less e h
at_all NotAtAll e h = h

module _ (p : ProgramTree) (none : classes_faults (resolved p) 0 (resolved p).members ≡ []) (u : Use) (k : ℕ) (c : ClassTree) (at : slice_get p.classes k ≡ Some c) where
  abbrev q : TypedTree
  q = resolved p

  abbrev made : FieldTree → typed.FieldTree
  made f = field_member (class_env p.classes k) f

  class_inside : IsInside (class_env p.classes k)
  class_inside = record { names = refl; next = omega arith }

  initialize_fine : (f : ℕ) (m : typed.FieldTree) (e : Option ExprTree) (d : Option DeclaredField) (more : StmtTrees) → ((x : ExprTree) → e ≡ Some x → Fine u x) → Along (FineSimple u) (Fine u) more → Along (FineSimple u) (Fine u) (initialize (4 + 2 * k) f m e d more)
  initialize_fine f m None d more i h = h
  initialize_fine f m (Some e) None more i h = h
  initialize_fine f m (Some e) (Some d) more i h = ((inl refl, i e refl), h)

  initial_fine : (g : Option text.ExprTree) → uses_if NotAtAll (option_map (expr (class_env p.classes k)) g) ≡ [] → (x : ExprTree) → option_map (expr (class_env p.classes k)) g ≡ Some x → Fine u x
  initial_fine None h x e = absurd (let z : ⊥ = cc in z)
  initial_fine (Some a) h x e = subst (Fine u) (same_Some _ _ e) (fine u (expr (class_env p.classes k) a) (at_all u (expr (class_env p.classes k) a) h) (expr_other (class_env p.classes k) class_inside a))

  from_fine : (f : ℕ) (gs : List FieldTree) → initializers_faults (map made gs) ≡ [] → Along (FineSimple u) (Fine u) (initializers_from q (4 + 2 * k) f (map made gs))
  from_fine f [] h = tt
  from_fine f (g ∷ gs) h =
      let both = none_left (escapes (uses_if NotAtAll (made g).initial)) (initializers_faults (map made gs)) h in
      initialize_fine f (made g) (made g).initial (field_at q f) (initializers_from q (4 + 2 * k) (f + 1) (map made gs)) (initial_fine g.initial (no_escapes (uses_if NotAtAll (made g).initial) both.0)) (from_fine (f + 1) gs both.1)

  pub initializers_fine : Along (FineSimple u) (Fine u) (initializers q (4 + 2 * k))
  initializers_fine =
      let z : 0 + k ≡ k = omega arith in
      let there : slice_get q.members k ≡ Some (members p.classes k c) = each_at (members p.classes) 0 p.classes k c at ∙ ap (λ n. Some (members p.classes n c)) z in
      let faultless = class_none q 0 q.members k (members p.classes k c) none there in
      subst (λ m. Along (FineSimple u) (Fine u) (initializers_in q (4 + 2 * k) m)) (sym (members_at p k c at)) (from_fine (field_numbers q (4 + 2 * k)).first (fields_in c.members) faultless)

-- ---- the code of a delayed constructor

module _ (p : TypedTree) (b : BodyTree) (static : b.flags.is_static ≡ false) where
  pub copies_behave : (u : Use) → each (behaves u b.class) (code_of (copying b)) ≡ true
  copies_behave u =
      let z : first_param b + 0 ≡ first_param b = omega arith in
      let one : first_param b ≡ 1 = rw static refl in
      subst (λ x. each (behaves u b.class) (code_of (copying_from b.block (first_copy b) x b.params)) ≡ true) z
      (copies_pass (behaves u b.class) b.block (first_param b) (λ q x y. copy_behaves u q x (first_param b + y) (omega arith)) (first_copy b) 0 b.params)
    where
      copy_behaves : (v : Use) (q : Place) (x y : ℕ) → 0 < y → behaves v b.class (core.AssignStmt q x (core.LocalExpr q y)) ≡ true
      copy_behaves ForFields q x y l = and_from _ _ (and_from _ _ (other y l) refl) refl
      copy_behaves NotAtAll q x y l = and_from _ _ (and_from _ _ (other y l) refl) refl

  pub keeps_this : Along (FineSimple ForFields) (Fine ForFields) (statements p b) → each keeps_this_in (code_of (code p b)) ≡ true
  keeps_this h =
      let z = elaboration_context p b (temporary_count p b) in
      let n = after_this b static (temporary_count p b) in
      let keeps = fine_keeps ForFields b.class z.numbers n in
      let more = simple_keeps z.numbers n b.class in
      each-append keeps_this_in (copying b) (stmts z (statements p b) []).code (copies_behave ForFields)
      (stmts_run (Fine ForFields) (AreFine ForFields) (stays ForFields) (behaves ForFields b.class) (FineSimple ForFields) z keeps more (statements_keep z.numbers n b.class)
      (λ os x made f. simple_runs (Fine ForFields) (AreFine ForFields) (stays ForFields) (behaves ForFields b.class) (record z { exposes = os }) keeps more (AreFine ForFields) (λ q es m g. base_runs (Fine ForFields) (AreFine ForFields) (stays ForFields) (behaves ForFields b.class) (record z { exposes = os }) keeps more q es (above_of p b.class) m refl (λ k vs i. and_from _ _ i refl) g) x made f)
      [] (statements p b) [] refl h)

-- ---- bodies

args_of : (e : Env) → IsInside e → (es : List text.ExprTree) → Others (arguments (map (expr e) es))
args_of e i [] = refl
args_of e i (a ∷ es) = and_from _ _ (expr_other e i a) (args_of e i es)

pub base_other : (e : Env) → IsInside e → (base : Option BaseCallTree) → Others (delayed.arguments_of (option_map (base_of e) base))
base_other e i None = refl
base_other e i (Some b) = args_of e i b.arguments

pub params_inside : (p : ProgramTree) (k : ℕ) (ps : List ParamTree) → IsInside (param_env p.classes k false ps)
params_inside p k ps =
    let start : Env = record (class_env p.classes k) { next = 1 } in
    let r = params_numbered 1 start ps refl (omega arith) in
    let n = r.next in
    record { names = r.names; next = omega arith }

-- the statements of a constructor whose parts are so
pub constructor_fine : (p : TypedTree) (u : Use) (b : BodyTree) → b.flags.ctor ≡ true → b.result ≡ None → Along (FineSimple u) (Fine u) (initializers p b.class) → AreFine u (delayed.arguments_of b.base) → InAll (FineSimple u) (Fine u) b.block → Along (FineSimple u) (Fine u) (statements p b)
constructor_fine p u b ctor none first given block =
    let G = FineSimple u in
    let F = Fine u in
    let last = Before (ReturnOf (closing_brace b.block) None) NoMore in
    let empty : AreFine u typed.Arguments.NoMore = record { unused = refl; locals = refl } in
    let inner = along_base G F p b b.base (in_block b.block) (λ q. given) (λ q. empty) (along_block G F b.block block) in
    let whole = along_before G F (before_all (initializers p b.class) (with_base p b b.base (in_block b.block))) last (along_before G F (initializers p b.class) (with_base p b b.base (in_block b.block)) first inner) (tt, tt) in
    rw (ctor, none) whole

abbrev Keeps : TypedTree → BodyTree → Type 0
Keeps p b = (b.flags.delayed ≡ false) ⊎ (each keeps_this_in (code_of (code p b)) ≡ true)

module _ (p : ProgramTree) (none : classes_faults (resolved p) 0 (resolved p).members ≡ []) where
  delayed_keeps : (k : ℕ) (c : ClassTree) → slice_get p.classes k ≡ Some c → (d : ConstructorTree) → delayed_faults (resolved p) (constructor_body p.classes k d) ≡ [] → each keeps_this_in (code_of (code (resolved p) (constructor_body p.classes k d))) ≡ true
  delayed_keeps k c at d h =
      let b = constructor_body p.classes k d in
      let e = param_env p.classes k false d.params in
      let i = params_inside p k d.params in
      let front = (none_left (escapes (uses_each ForFields (delayed.arguments_of b.base) ++ uses_in ForFields b.block) ++ end_faults (resolved p) b) (base_faults (resolved p) b.class b.place) h).0 in
      let first = (none_left (escapes (uses_each ForFields (delayed.arguments_of b.base) ++ uses_in ForFields b.block)) (end_faults (resolved p) b) front).0 in
      let both = none_left (uses_each ForFields (delayed.arguments_of b.base)) (uses_in ForFields b.block) (no_escapes (uses_each ForFields (delayed.arguments_of b.base) ++ uses_in ForFields b.block) first) in
      let given : AreFine ForFields (delayed.arguments_of b.base) = record { unused = both.0; locals = base_other e i d.base } in
      keeps_this (resolved p) b refl (constructor_fine (resolved p) ForFields b refl refl (initializers_fine p none ForFields k c at) given (block_fine ForFields b.block both.1 (block_other e i d.body)))

  written_keeps : (n : ℕ) (b : BodyTree) → body_at (resolved p) n ≡ Some b → body_faults (resolved p) b ≡ [] → Keeps (resolved p) b
  written_keeps = of_each p (λ b. body_faults (resolved p) b ≡ [] → Keeps (resolved p) b)
      (λ k c at n d e h.
      let b = constructor_body p.classes k d in
      let half = (none_left (escapes (uses_in_all NotAtAll b.entry)) (if b.flags.delayed then delayed_faults (resolved p) b else undelayed_faults (resolved p) b) h).1 in
      ⊎_elim
      (λ late. inr (delayed_keeps k c at d (rw late at half)))
      (λ early. inl early)
      (cases_Bool b.flags.delayed))
      (λ k c at n m e h. inl refl)

  implicit_keeps : (t : ℕ) (y : core.ClassTree) (q : Place) → declared (resolved p).classes t ≡ Some y → each keeps_this_in (code_of (code (resolved p) (implicit_constructor t y.name q))) ≡ true
  implicit_keeps t y q there =
      let s = source_of p t y there in
      let first : Along (FineSimple ForFields) (Fine ForFields) (initializers (resolved p) t) = subst (λ u. Along (FineSimple ForFields) (Fine ForFields) (initializers (resolved p) u)) (sym s.number) (initializers_fine p none ForFields s.place s.tree s.there) in
      keeps_this (resolved p) (implicit_constructor t y.name q) refl (constructor_fine (resolved p) ForFields (implicit_constructor t y.name q) refl refl first (record { unused = refl; locals = refl }) tt)

  if_keeps : (b : BodyTree) (bs : List BodyTree) → Keeps (resolved p) b → if_delayed (written_body (resolved p) b bs) (each keeps_this_in (written_body (resolved p) b bs).code) ≡ true
  if_keeps b bs h = ⊎_elim (λ early. or_left (not b.flags.delayed) _ (ap not early)) (λ keeps. or_right (not b.flags.delayed) _ keeps) h

  made_keeps : bodies_faults (resolved p) (resolved p).bodies ≡ [] → (o : Origin) (y : core.BodyTree) → IsMade (resolved p) o y → if_delayed y (each keeps_this_in y.code) ≡ true
  made_keeps faultless o y (WrittenConstructor {n = n} {b = b} is em en eb) = if_keeps b (b ∷ []) (written_keeps n b eb (body_none (resolved p) (resolved p).bodies n b faultless eb))
  made_keeps faultless o y (ImplicitConstructor {t = t} {c = c} {m = m} is ec em empty) = let b = implicit_constructor t c.name m.place in if_keeps b (b ∷ []) (inr (implicit_keeps t c m.place ec))
  made_keeps faultless o y (WrittenMethod {t = t} {m = m} {b = b} is eb own) =
      let at = method_is (resolved p) (slice_get (table (resolved p) t) m) b eb in
      if_keeps b (declarations (resolved p) t m) (written_keeps at.0 b at.1 (body_none (resolved p) (resolved p).bodies at.0 b faultless at.1))
  made_keeps faultless o y (Wrapper is eb own em) = refl

pub keep_this_in : (p : ProgramTree) → construction_faults (resolved p) ≡ [] → KeepThisIn (core_of p)
unfolding construction_faults
keep_this_in p construction n y at =
    let both = none_left (classes_faults (resolved p) 0 (resolved p).members) (bodies_faults (resolved p) (resolved p).bodies) construction in
    let from = origin_of (resolved p) n y at in
    made_keeps p both.0 both.1 from.origin y from.made
