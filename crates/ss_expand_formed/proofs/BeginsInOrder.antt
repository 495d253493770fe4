-- The code of each body begins in order.
use Rattle.std.proofs.Common.{◌≡◌, ℕ, ◌+◌, List, [], ◌∷◌, ◌++◌, Bool, true, false, Option, Some, None, refl, sym, ap, subst, arith, inr, ⊎_elim}
use Rattle.std.specs.Prelude.{◌&&◌, ◌==◌, not, slice_get, if◌then◌else◌}
use Rattle.ss_core.specs.declared.names.Ty.{Ty}
use Rattle.ss_core.specs.Tree as core
use Rattle.ss_core.specs.Chain as chain
use Rattle.ss_core.specs.View.{code_of}
use Rattle.ss_ast.specs.Programs.{ProgramTree}
use Rattle.ss_typed.specs.Tree.{Arguments, SimpleTree, SimpleOf, ReturnOf, StmtTrees, NoMore, Before, BlockTree, BlockOf, BodyTree, TypedTree}
use Rattle.ss_resolver_rules.specs.Programs.{resolved}
use Rattle.ss_resolver_names_rules.specs.Programs.{program_faults}
use Rattle.ss_resolver_types_expressions.specs.Programs.{type_faults}
use Rattle.ss_expand_rules.specs.Numbers.{Numbers}
use Rattle.ss_expand_rules.specs.Program.{table, Origin}
use Rattle.ss_expand_rules.specs.Lifting.{ElaborationContext}
use Rattle.ss_expand_rules.specs.Simple.{simple}
use Rattle.ss_expand_rules.specs.Statements.{stmts}
use Rattle.ss_expand_rules.specs.Contracts.{first_param, declarations}
use Rattle.ss_expand_rules.specs.Constructors.{constructor_stmts, implicit_constructor}
use Rattle.ss_typed.specs.Shapes.{closing_brace, in_block}
use Rattle.ss_expand_rules.specs.Bodies.{first_copy, copying_from, copying, with_return, statements, elaboration_context, temporary_count, code, written_body}
use Rattle.ss_store_rules.specs.Construction.{is_base_or_ready, wants_base, wants_ready, starts_in_order}
use Rattle.ss_expand_formed.specs.Laws.{core_of}
use Rattle.ss_expand_formed.proofs.Bodies.{IsMade, WrittenConstructor, ImplicitConstructor, WrittenMethod, Wrapper, origin_of}
use Rattle.ss_expand_formed.proofs.Heads.{have_classes}
use Rattle.ss_expand_formed.proofs.Resolved.{method_is}
use Rattle.ss_expand_formed.proofs.Shape.{Code, each-append}
use Rattle.ss_expand_formed.specs.Construction.{StartInOrder}
use Rattle.ss_expand_formed.proofs.Choices.{where_chosen}
use Rattle.ss_expand_formed.proofs.Lifts.{arguments_fit}
use Rattle.ss_expand_formed.proofs.Simple.{KeepsSimple, simple_runs}
use Rattle.ss_expand_formed.proofs.ConstructionStatements.{InAll, Along, KeepsStatements, stmts_run}
use Rattle.ss_expand_formed.proofs.Free.{Anything, AnyGiven, any_passes, KeepsFree, free_keeps, any_simple}
use Rattle.ss_expand_formed.proofs.Bases.{Free, OnlySimple}
use Rattle.ss_expand_formed.proofs.Begins.{BeginsWhole, free_before}
use Rattle.ss_expand_formed.proofs.Openings.{has_none, base_where, ready_where, IsInOrder, none_in_order, in_order}
use Rattle.ss_expand_formed.proofs.ConstructionWritten.{copies_pass, calls, readies, given, lifted_given, s, above, before, front, number, values, ending, rest, code_is}
use Rattle.ss_expand_formed.proofs.Builds.{BuildsNothing, Builds, IsBuilt, all_built, implicit_built}
use Rattle.ss_expand_formed.proofs.Delayed.{is_above}

-- ---- code without the two

abbrev pub no_base_or_ready : core.StmtTree → Bool
no_base_or_ready s = not (is_base_or_ready s)

lifts_neither : KeepsFree no_base_or_ready
lifts_neither = record {
  assign = λ p x e. refl;
  new = λ p x t es. refl;
  array = λ p x t e. refl;
  call = λ p x e t m es. refl;
  static = λ p x n es. refl;
  base = λ p x n es. refl;
  branch = λ p e a b. refl;
}

simple_neither : (ns : Numbers) → KeepsSimple ns Anything any_passes no_base_or_ready
simple_neither ns = record {
  field_fine = λ p f t q n u. tt;
  local_fine = λ q n u. tt;
  element_fine = λ p a i h g. tt;
  binary_fine = λ p o a b h g. tt;
  number_fine = λ p n. tt;
  default_passes = λ p t. refl;
  write_passes = λ p o f m t e h g. refl;
  element_passes = λ p a i e h g j. refl;
  print_passes = λ p e line h. refl;
  line_passes = λ p line. refl;
  text_passes = λ p text line. refl;
}

statements_neither : (ns : Numbers) → KeepsStatements ns any_passes no_base_or_ready
statements_neither ns = record {
  true_passes = λ p. refl;
  loop_passes = λ p is prelude e turn xs h g. refl;
  unpack_passes = λ p n t. refl;
  pack_passes = λ p n t. refl;
  this_passes = λ p t. refl;
  assert_passes = λ p e h. refl;
  assume_passes = λ p e h. refl;
  return_passes = λ p e h. refl;
  end_passes = λ p. refl;
}

never : Arguments → Type 0
never es = ⊥

simple_has_none : (z : ElaborationContext) (x : SimpleTree) (made : List Ty) → Free x → has_none (simple z x made).code ≡ true
unfolding never
simple_has_none z x made h =
    simple_runs Anything AnyGiven any_passes no_base_or_ready z (free_keeps z.numbers no_base_or_ready lifts_neither) (simple_neither z.numbers) never (λ p es m b. absurd b) x made (any_simple never x h)

pub free_has_none : (z : ElaborationContext) (ss : StmtTrees) (made : List Ty) → z.exposes ≡ [] → Along Free Anything ss → has_none (stmts z ss made).code ≡ true
free_has_none z ss made none h =
    subst (λ os. has_none (stmts (record z { exposes = os }) ss made).code ≡ true) (sym none)
    (stmts_run Anything AnyGiven any_passes no_base_or_ready Free z (free_keeps z.numbers no_base_or_ready lifts_neither) (simple_neither z.numbers) (statements_neither z.numbers) (λ os x m f. simple_has_none (record z { exposes = os }) x m f) [] ss made refl h)

pub simple_free : (ss : StmtTrees) → OnlySimple ss → Along Free Anything ss
simple_free NoMore h = tt
simple_free (Before (SimpleOf x) ss) h = (h.0, simple_free ss h.1)
simple_free (Before x ss) h = absurd h

pub copying_has_none : (b : BodyTree) → has_none (copying b) ≡ true
copying_has_none b =
    let z : first_param b + 0 ≡ first_param b = omega arith in
    subst (λ x. has_none (copying_from b.block (first_copy b) x b.params) ≡ true) z (copies_pass no_base_or_ready b.block (first_param b) (λ p x y. refl) (first_copy b) 0 b.params)

-- ---- bodies

module _ (p : TypedTree) (b : BodyTree) (r : BeginsWhole p b) where
  lifted_has_none : (z : ElaborationContext) (t : ℕ) (es : Arguments) (made : List Ty) → has_none (lifted_given z t es made) ≡ true
  lifted_has_none z t es made =
      where_chosen (λ (c : Code). has_none c ≡ true) (t == 0) [] (given z t es made).code (λ yes. refl)
      (λ other. (arguments_fit Anything AnyGiven any_passes no_base_or_ready z (free_keeps z.numbers no_base_or_ready lifts_neither) _ es made tt).0)

  pub front_has_none : has_none (front p b r) ≡ true
  front_has_none =
      each-append no_base_or_ready (copying b) ((before p b r).code ++ lifted_given (s p b r) (above p b r) r.given (before p b r).made) (copying_has_none b)
      (each-append no_base_or_ready (before p b r).code (lifted_given (s p b r) (above p b r) r.given (before p b r).made) (free_has_none (s p b r) r.front [] refl (simple_free r.front r.simple)) (lifted_has_none (s p b r) (above p b r) r.given (before p b r).made))

  pub rest_has_none : has_none (rest p b r) ≡ true
  rest_has_none = free_has_none (s p b r) (ending p b r) _ refl (free_before r.rest (Before (ReturnOf (closing_brace b.block) None) NoMore) r.free (tt, tt))

order_from : (c : core.CoreTree) (y : core.BodyTree) (xs : core.CodeTree) (base ready : Bool) → y.code ≡ xs → wants_base c y ≡ base → wants_ready c y ≡ ready → IsInOrder xs base ready → starts_in_order c y ≡ true
order_from c y xs base ready e f g h = rw (e, f, g) h

free_statements : (p : TypedTree) (b : BodyTree) → BuildsNothing b → Along Free Anything (statements p b)
free_statements p b n = with_end b.result (if b.flags.ctor then constructor_stmts p b else in_block b.block) (rw n.ctor (inside b.block n.free))
  where
    inside : (x : BlockTree) → InAll Free Anything x → Along Free Anything (in_block x)
    inside (BlockOf q ss end) h = h

    with_end : (t : Option Ty) (ss : StmtTrees) → Along Free Anything ss → Along Free Anything (with_return b t ss)
    with_end None ss h = free_before ss (Before (ReturnOf (closing_brace b.block) None) NoMore) h (tt, tt)
    with_end (Some t) ss h = h

module _ (p : ProgramTree) (faultless : program_faults p ≡ []) where
  -- what is wanted of a constructor is what its code has
  pub wanted : (b : BodyTree) (bs : List BodyTree) → chain.is_declared (core_of p).classes b.class ≡ true → b.flags.ctor ≡ true → (x : BeginsWhole (resolved p) b) →
      (wants_base (core_of p) (written_body (resolved p) b bs) ≡ calls (s (resolved p) b x) (above (resolved p) b x)) × (wants_ready (core_of p) (written_body (resolved p) b bs) ≡ readies (s (resolved p) b x) (above (resolved p) b x))
  wanted b bs there ctor x =
      let i = is_above p faultless b.class there in
      (rw (ctor, i.above) refl, rw (ctor, i.above) (ap (λ d. not b.flags.delayed && d) i.delayed))

  free_in_order : (b : BodyTree) (bs : List BodyTree) → BuildsNothing b → starts_in_order (core_of p) (written_body (resolved p) b bs) ≡ true
  free_in_order b bs n =
      let none : has_none (code (resolved p) b) ≡ true = each-append no_base_or_ready (copying b) _ (copying_has_none b) (free_has_none (elaboration_context (resolved p) b (temporary_count (resolved p) b)) (statements (resolved p) b) [] refl (free_statements (resolved p) b n)) in
      let no_base : wants_base (core_of p) (written_body (resolved p) b bs) ≡ false = rw n.ctor refl in
      let no_ready : wants_ready (core_of p) (written_body (resolved p) b bs) ≡ false = rw n.ctor refl in
      order_from (core_of p) (written_body (resolved p) b bs) (code_of (code (resolved p) b)) false false refl no_base no_ready (none_in_order (code (resolved p) b) none)

  built_in_order : (b : BodyTree) (bs : List BodyTree) → chain.is_declared (core_of p).classes b.class ≡ true → Builds (resolved p) b → starts_in_order (core_of p) (written_body (resolved p) b bs) ≡ true
  built_in_order b bs there c =
      let r = c.begins in
      let w = wanted b bs there c.ctor r in
      let xs = front (resolved p) b r in
      let ys = rest (resolved p) b r in
      let n = number (resolved p) b r in
      let vs = values (resolved p) b r in
      let base = calls (s (resolved p) b r) (above (resolved p) b r) in
      let ready = readies (s (resolved p) b r) (above (resolved p) b r) in
      order_from (core_of p) (written_body (resolved p) b bs) (code_of (xs ++ (base_where base r.place n vs ++ (ready_where ready r.place ++ ys)))) base ready (ap code_of (code_is (resolved p) b r c.ctor c.result)) w.0 w.1
      (in_order xs ys r.place n vs (front_has_none (resolved p) b r) (rest_has_none (resolved p) b r) base ready)

  written_in_order : (b : BodyTree) (bs : List BodyTree) → chain.is_declared (core_of p).classes b.class ≡ true → IsBuilt (resolved p) b → starts_in_order (core_of p) (written_body (resolved p) b bs) ≡ true
  written_in_order b bs there built = ⊎_elim (free_in_order b bs) (built_in_order b bs there) built

  made_in_order : type_faults p ≡ [] → (o : Origin) (y : core.BodyTree) → IsMade (resolved p) o y → chain.is_declared (core_of p).classes y.class ≡ true → starts_in_order (core_of p) y ≡ true
  made_in_order none o y (WrittenConstructor {n = n} {b = b} is em en eb) there = written_in_order b (b ∷ []) there (all_built p none n b eb)
  made_in_order none o y (ImplicitConstructor {t = t} {c = c} {m = m} is ec em empty) there = let b = implicit_constructor t c.name m.place in written_in_order b (b ∷ []) there (inr (implicit_built p t c ec m.place))
  made_in_order none o y (WrittenMethod {t = t} {m = m} {b = b} is eb own) there =
      let at = method_is (resolved p) (slice_get (table (resolved p) t) m) b eb in
      written_in_order b (declarations (resolved p) t m) there (all_built p none at.0 b at.1)
  made_in_order none o y (Wrapper is eb own em) there = refl

pub start_in_order : (p : ProgramTree) → program_faults p ≡ [] → type_faults p ≡ [] → StartInOrder (core_of p)
start_in_order p faultless none n y at =
    let from = origin_of (resolved p) n y at in
    made_in_order p faultless none from.origin y from.made (have_classes p n y at)
