-- A constructor that isn't delayed first only writes fields of its `this`.
use Rattle.std.proofs.Common.{◌≡◌, ℕ, List, [], ◌∷◌, ◌++◌, true, false, Option, Some, None, refl, sym, ◌∙◌, ap, subst, inl, inr, ◌⊎◌, ⊎_elim}
use Rattle.std.specs.Prelude.{◌||◌, ◌==◌, not, slice_get, if◌then◌else◌}
use Rattle.std.specs.List.{list_all}
use Rattle.std.proofs.lemmas.Bool.{cases_Bool, and_from, or_left, or_right, eq-eqb, eqb-true, false≢true}
use Rattle.ss_core.specs.declared.names.Place.{Place}
use Rattle.ss_core.specs.Tree as core
use Rattle.ss_core.specs.View.{code_of}
use Rattle.ss_ast.specs.Programs.{ClassTree, ProgramTree}
use Rattle.ss_ast.specs.declared.stmt.AssignOperator.TheVariants as operator
use Rattle.ss_tables.specs.Members.{ConstructorTree}
use Rattle.ss_typed.specs.Tree.{ExprTree, ThisOf, FieldOf, SimpleTree, AssignOf, StepOf, BaseCallOf, BlockTree, BlockOf, InBlock, DeclareOf, SimpleOf, IfOf, IfElseOf, WhileOf, ForOf, ReturnOf, AssertOf, AssumeOf, ExposeOf, EmptyOf, StmtTrees, NoMore, Before, BaseTree, BodyTree, TypedTree}
use Rattle.ss_paths.specs.Assigned.{assigned_by_initializers, assigned_flow}
use Rattle.ss_typed.specs.Shapes.{has_base, in_block, is_base}
use Rattle.ss_paths.specs.Fields.{field_numbers}
use Rattle.ss_paths.specs.Paths.{at_end}
use Rattle.ss_delayed_rules.specs.Escapes.{NotAtAll, uses_each, uses_in_all, uses_along}
use Rattle.ss_delayed_rules.specs.Opening.{is_first, first_run, before_base, opening_of, opening, base_in, written_base}
use Rattle.ss_delayed_rules.specs.Constructors.{escapes, unassigned_faults, arguments_of, place_of_base, delayed_faults, undelayed_faults}
use Rattle.ss_delayed_rules.specs.Program.{classes_faults, body_faults, bodies_faults, construction_faults}
use Rattle.ss_resolver_rules.specs.Programs.{param_env, constructor_body, resolved}
use Rattle.ss_resolver_types_expressions.specs.Programs.{type_faults}
use Rattle.ss_expand_rules.specs.Program.{table, Origin}
use Rattle.ss_typed.specs.Lookups.{body_at}
use Rattle.ss_expand_rules.specs.Contracts.{declarations}
use Rattle.ss_expand_rules.specs.Constructors.{before_all, initializers}
use Rattle.ss_expand_rules.specs.Simple.{has_delayed_constructor}
use Rattle.ss_expand_rules.specs.Bodies.{copying, temporary_count, written_body}
use Rattle.ss_store_rules.specs.Locals.{each}
use Rattle.ss_store_rules.specs.Construction as store
use Rattle.ss_store_rules.specs.Construction.{only_writes_this, after_opening, has_base_without_this, if_undelayed, writes_this_first}
use Rattle.ss_expand_formed.specs.Laws.{core_of}
use Rattle.ss_expand_formed.proofs.Facts.{none_left}
use Rattle.ss_expand_formed.proofs.Bodies.{IsMade, WrittenConstructor, ImplicitConstructor, WrittenMethod, Wrapper, origin_of}
use Rattle.ss_expand_formed.proofs.Resolved.{method_is}
use Rattle.ss_expand_formed.proofs.Shape.{Code, each-append}
use Rattle.ss_expand_formed.specs.Construction.{WriteThisFirst}
use Rattle.ss_expand_formed.proofs.Choices.{where_chosen}
use Rattle.ss_expand_formed.proofs.Lifts.{arguments_fit}
use Rattle.ss_expand_formed.proofs.ConstructionStatements.{InAll, Along}
use Rattle.ss_expand_formed.proofs.Begins.{BeginsWhole, base_or, written_is}
use Rattle.ss_expand_formed.proofs.Openings.{base_where, ready_where, arguments_are_without}
use Rattle.ss_expand_formed.proofs.OwnFields.{is_own, OnlyOwn}
use Rattle.ss_expand_formed.proofs.OwnWrites.{Assigns, AllAssign, all_own_run}
use Rattle.ss_expand_formed.proofs.Sources.{of_each}
use Rattle.ss_expand_formed.proofs.ConstructionWritten.{calls, readies, given, lifted_given, s, above, before, front, number, values, rest, code_is}
use Rattle.ss_expand_formed.proofs.Builds.{BuildsNothing, Builds, IsBuilt, all_built}
use Rattle.ss_expand_formed.proofs.Delayed.{ready_below_object}
use Rattle.ss_expand_formed.proofs.BeginsInOrder.{front_has_none, rest_has_none}
use Rattle.ss_expand_formed.proofs.Beginnings.{opening_is}
use Rattle.ss_expand_formed.proofs.Uses.{Fine, AreFine, stays, fine_keeps}
use Rattle.ss_expand_formed.proofs.ReadLocals.{Other, Others, OtherSimple, block_other}
use Rattle.ss_expand_formed.proofs.Fine.{FineSimple, stmts_fine, after_this}
use Rattle.ss_expand_formed.proofs.Keeping.{along_before, no_escapes, body_none, initializers_fine, copies_behave, params_inside, base_other}

-- ---- the beginning of a block

module _ (G : SimpleTree → Type 0) (F : ExprTree → Type 0) where
  front_along : (ss : StmtTrees) → Along G F ss → Along G F (before_base ss)
  front_along NoMore h = tt
  front_along (Before x ss) h = where_chosen (Along G F) (is_base x) NoMore (Before x (before_base ss)) (λ yes. tt) (λ no. (h.0, front_along ss h.1))

  run_along : (p : TypedTree) (t : ℕ) (ss : StmtTrees) → Along G F ss → Along G F (first_run p t ss)
  run_along p t NoMore h = tt
  run_along p t (Before x ss) h = where_chosen (Along G F) (is_first p t x) (Before x (first_run p t ss)) NoMore (λ yes. (h.0, run_along p t ss h.1)) (λ no. tt)

  opening_along : (p : TypedTree) (t : ℕ) (base : Option BaseTree) (ss : StmtTrees) → Along G F ss → Along G F (opening_of p t base ss)
  opening_along p t (Some base) ss h = tt
  opening_along p t None ss h = where_chosen (Along G F) (has_base ss) (before_base ss) (first_run p t ss) (λ yes. front_along ss h) (λ no. run_along p t ss h)

statements_along : (b : BlockTree) → InAll OtherSimple Other b → Along OtherSimple Other (in_block b)
statements_along (BlockOf q ss end) h = h

base_others : (base : Option BaseTree) (ss : StmtTrees) → Others (arguments_of base) → Along OtherSimple Other ss → Others (arguments_of (base_or base ss))
base_others (Some base) ss given h = given
base_others None ss given h = in_statements ss h
  where
    in_statements : (ss : StmtTrees) → Along OtherSimple Other ss → Others (arguments_of (base_in ss))
    in_statements NoMore h = refl
    in_statements (Before (SimpleOf x) ss) h = simple_case x ss h.0 (in_statements ss h.1)
      where
        simple_case : (x : SimpleTree) (ss : StmtTrees) → OtherSimple x → Others (arguments_of (base_in ss)) → Others (arguments_of (base_in (Before (SimpleOf x) ss)))
        simple_case (BaseCallOf p es) ss h more = h
        simple_case x ss h more = more
    in_statements (Before (InBlock x) ss) h = in_statements ss h.1
    in_statements (Before (DeclareOf x) ss) h = in_statements ss h.1
    in_statements (Before (IfOf p e x) ss) h = in_statements ss h.1
    in_statements (Before (IfElseOf p e x y) ss) h = in_statements ss h.1
    in_statements (Before (WhileOf p e is x) ss) h = in_statements ss h.1
    in_statements (Before (ForOf p i e x is y) ss) h = in_statements ss h.1
    in_statements (Before (ReturnOf p e) ss) h = in_statements ss h.1
    in_statements (Before (AssertOf p e) ss) h = in_statements ss h.1
    in_statements (Before (AssumeOf p e) ss) h = in_statements ss h.1
    in_statements (Before (ExposeOf p e t x) ss) h = in_statements ss h.1
    in_statements (Before (EmptyOf p) ss) h = in_statements ss h.1

-- ---- assignments without `this`

this_is_used : (q r : Place) (v f : ℕ) (u : _) → Fine NotAtAll (FieldOf q (ThisOf r v) f u) → ⊥
this_is_used q r v f u h = let e : r ∷ [] ≡ [] = h.unused in let z : ⊥ = cc in z

fine_assigns : (p : TypedTree) (t : ℕ) (x : SimpleTree) → is_own p t x ≡ true → FineSimple NotAtAll x → Assigns (Fine NotAtAll) x
fine_assigns p t (AssignOf (FieldOf q (ThisOf r v) f u) operator.Set e) own h = h.1
fine_assigns p t (AssignOf (FieldOf q (ThisOf r v) f u) operator.Add e) own h = absurd (this_is_used q r v f u h.1)
fine_assigns p t (AssignOf (FieldOf q (ThisOf r v) f u) operator.Subtract e) own h = absurd (this_is_used q r v f u h.1)
fine_assigns p t (AssignOf (FieldOf q (ThisOf r v) f u) operator.Multiply e) own h = absurd (this_is_used q r v f u h.1)
fine_assigns p t (StepOf (FieldOf q (ThisOf r v) f u) o) own h = absurd (this_is_used q r v f u h.1)
fine_assigns p t x own h = absurd (false≢true own)

fine_assign : (p : TypedTree) (t : ℕ) (ss : StmtTrees) → OnlyOwn p t ss → Along (FineSimple NotAtAll) (Fine NotAtAll) ss → AllAssign (Fine NotAtAll) ss
fine_assign p t NoMore own h = tt
fine_assign p t (Before (SimpleOf x) ss) own h = (fine_assigns p t x own.0 h.0, fine_assign p t ss own.1 h.1)
fine_assign p t (Before x ss) own h = absurd own

-- ---- the code

module _ (p : TypedTree) (b : BodyTree) (static : b.flags.is_static ≡ false) (r : BeginsWhole p b) (fine : Along (FineSimple NotAtAll) (Fine NotAtAll) r.front) (args : AreFine NotAtAll r.given) where
  front_only_writes : each (only_writes_this b.class) (code_of (front p b r)) ≡ true
  front_only_writes =
      let t = b.class in
      let z = s p b r in
      let keeps = fine_keeps NotAtAll t z.numbers (after_this b static (temporary_count p b)) in
      let writes = all_own_run (Fine NotAtAll) (AreFine NotAtAll) (stays NotAtAll) (only_writes_this t) z keeps t (λ q v f m e h. and_from _ _ (or_left (t == t) _ (eq-eqb t t refl)) h) r.front [] r.own (fine_assign p t r.front r.own fine) in
      let lifts = where_chosen (λ (xs : Code). each (only_writes_this t) (code_of xs) ≡ true) (above p b r == 0) [] (given z (above p b r) r.given (before p b r).made).code (λ yes. refl) (λ other. (arguments_fit (Fine NotAtAll) (AreFine NotAtAll) (stays NotAtAll) (only_writes_this t) z keeps _ r.given (before p b r).made args).0) in
      each-append (only_writes_this t) (copying b) ((before p b r).code ++ lifted_given z (above p b r) r.given (before p b r).made) (copies_behave p b static NotAtAll)
      (each-append (only_writes_this t) (before p b r).code (lifted_given z (above p b r) r.given (before p b r).made) writes lifts)

  values_without : list_all store.is_without_this (values p b r) ≡ true
  values_without =
      let z = s p b r in
      let keeps = fine_keeps NotAtAll b.class z.numbers (after_this b static (temporary_count p b)) in
      (arguments_fit (Fine NotAtAll) (AreFine NotAtAll) (stays NotAtAll) (only_writes_this b.class) z keeps _ r.given (before p b r).made args).1

first_from : (y : core.BodyTree) (xs ys : core.CodeTree) → store.opening y.code ≡ xs → after_opening y.code ≡ ys → each (only_writes_this y.class) xs ≡ true → has_base_without_this ys ≡ true → writes_this_first y ≡ true
first_from y xs ys e f h g = rw (e, f) (and_from _ _ h g)

-- one of the two is wanted
pub one_wanted : (p : TypedTree) (b : BodyTree) (r : BeginsWhole p b) → b.flags.delayed ≡ false → has_delayed_constructor p 0 ≡ true → (calls (s p b r) (above p b r) ≡ true) ⊎ (readies (s p b r) (above p b r) ≡ true)
one_wanted p b r early object =
    ⊎_elim
    (λ yes. let zero : above p b r ≡ 0 = eqb-true (above p b r) 0 yes in inr (and_from _ _ (ap not early) (ap (has_delayed_constructor p) zero ∙ object)))
    (λ no. inl (ap not no))
    (cases_Bool (above p b r == 0))

written_first : (p : TypedTree) (b : BodyTree) (bs : List BodyTree) (c : Builds p b) → b.flags.delayed ≡ false → has_delayed_constructor p 0 ≡ true → Along (FineSimple NotAtAll) (Fine NotAtAll) c.begins.front → AreFine NotAtAll c.begins.given → writes_this_first (written_body p b bs) ≡ true
written_first p b bs c early object fine args =
    let r = c.begins in
    let w = one_wanted p b r early object in
    let xs = front p b r in
    let base = calls (s p b r) (above p b r) in
    let ready = readies (s p b r) (above p b r) in
    let whole = xs ++ (base_where base r.place (number p b r) (values p b r) ++ (ready_where ready r.place ++ rest p b r)) in
    first_from (written_body p b bs) (code_of xs) (after_opening (code_of whole)) (opening_is p b c w) (ap (λ (ys : Code). after_opening (code_of ys)) (code_is p b r c.ctor c.result)) (front_only_writes p b c.static r fine args)
    (arguments_are_without xs (rest p b r) r.place (number p b r) (values p b r) (front_has_none p b r) (rest_has_none p b r) base ready (values_without p b c.static r fine args))

-- ---- bodies

record IsFirstFine (p : TypedTree) (b : BodyTree) : Type 0 where
  front : Along (FineSimple NotAtAll) (Fine NotAtAll) (before_all (initializers p b.class) (opening p b))
  args : AreFine NotAtAll (arguments_of (written_base b))

abbrev FirstFine : TypedTree → BodyTree → Type 0
FirstFine p b = body_faults p b ≡ [] → b.flags.ctor ≡ true → b.flags.delayed ≡ false → IsFirstFine p b

module _ (p : ProgramTree) (none : classes_faults (resolved p) 0 (resolved p).members ≡ []) where
  constructor_first : (k : ℕ) (c : ClassTree) → slice_get p.classes k ≡ Some c → (d : ConstructorTree) → FirstFine (resolved p) (constructor_body p.classes k d)
  constructor_first k c at d h ctor early =
      let q = resolved p in
      let b = constructor_body p.classes k d in
      let e = param_env p.classes k false d.params in
      let i = params_inside p k d.params in
      let half = (none_left (escapes (uses_in_all NotAtAll b.entry)) (if b.flags.delayed then delayed_faults q b else undelayed_faults q b) h).1 in
      let mine : undelayed_faults q b ≡ [] = rw early at half in
      let first = (none_left (escapes (uses_along NotAtAll (opening q b) ++ uses_each NotAtAll (arguments_of (written_base b)))) (unassigned_faults q b.class (place_of_base b (written_base b)) (at_end (assigned_flow (field_numbers q b.class)) (opening q b) (Some (assigned_by_initializers q b.class)))) mine).0 in
      let both = none_left (uses_along NotAtAll (opening q b)) (uses_each NotAtAll (arguments_of (written_base b))) (no_escapes (uses_along NotAtAll (opening q b) ++ uses_each NotAtAll (arguments_of (written_base b))) first) in
      let others = statements_along b.block (block_other e i d.body) in
      let open_others = opening_along OtherSimple Other q b.class b.base (in_block b.block) others in
      let given : Others (arguments_of (written_base b)) = subst (λ o. Others (arguments_of o)) (sym (written_is b b.base)) (base_others b.base (in_block b.block) (base_other e i d.base) others) in
      record {
        front = along_before (FineSimple NotAtAll) (Fine NotAtAll) (initializers q b.class) (opening q b) (initializers_fine p none NotAtAll k c at) (stmts_fine NotAtAll (opening q b) both.0 open_others);
        args = record { unused = both.1; locals = given };
      }

  all_first : (n : ℕ) (b : BodyTree) → body_at (resolved p) n ≡ Some b → FirstFine (resolved p) b
  all_first = of_each p (FirstFine (resolved p)) (λ k c at n d e. constructor_first k c at d) (λ k c at n m e h ctor early. absurd (false≢true ctor))

  written_if : (b : BodyTree) (bs : List BodyTree) → IsBuilt (resolved p) b → FirstFine (resolved p) b → body_faults (resolved p) b ≡ [] → if_undelayed (written_body (resolved p) b bs) (writes_this_first (written_body (resolved p) b bs)) ≡ true
  written_if b bs built first h = ⊎_elim nothing (λ c. ⊎_elim late (early c) (cases_Bool b.flags.delayed)) built
    where
      nothing : BuildsNothing b → if_undelayed (written_body (resolved p) b bs) (writes_this_first (written_body (resolved p) b bs)) ≡ true
      nothing n = or_left (not b.flags.ctor || b.flags.delayed) _ (or_left (not b.flags.ctor) _ (ap not n.ctor))

      late : b.flags.delayed ≡ true → if_undelayed (written_body (resolved p) b bs) (writes_this_first (written_body (resolved p) b bs)) ≡ true
      late e = or_left (not b.flags.ctor || b.flags.delayed) _ (or_right (not b.flags.ctor) _ e)

      early : Builds (resolved p) b → b.flags.delayed ≡ false → if_undelayed (written_body (resolved p) b bs) (writes_this_first (written_body (resolved p) b bs)) ≡ true
      early c e =
          let f = first h c.ctor e in
          let front = subst (Along (FineSimple NotAtAll) (Fine NotAtAll)) (sym (c.begins.as_early e)) f.front in
          let args = subst (AreFine NotAtAll) (sym c.begins.as_given) f.args in
          or_right (not b.flags.ctor || b.flags.delayed) _ (written_first (resolved p) b bs c e (ready_below_object p) front args)

  made_first : type_faults p ≡ [] → bodies_faults (resolved p) (resolved p).bodies ≡ [] → (o : Origin) (y : core.BodyTree) → IsMade (resolved p) o y → if_undelayed y (writes_this_first y) ≡ true
  made_first types faultless o y (WrittenConstructor {n = n} {b = b} is em en eb) = written_if b (b ∷ []) (all_built p types n b eb) (all_first n b eb) (body_none (resolved p) (resolved p).bodies n b faultless eb)
  made_first types faultless o y (ImplicitConstructor is ec em empty) = refl
  made_first types faultless o y (WrittenMethod {t = t} {m = m} {b = b} is eb own) =
      let at = method_is (resolved p) (slice_get (table (resolved p) t) m) b eb in
      written_if b (declarations (resolved p) t m) (all_built p types at.0 b at.1) (all_first at.0 b at.1) (body_none (resolved p) (resolved p).bodies at.0 b faultless at.1)
  made_first types faultless o y (Wrapper is eb own em) = refl

pub write_this_first : (p : ProgramTree) → type_faults p ≡ [] → construction_faults (resolved p) ≡ [] → WriteThisFirst (core_of p)
unfolding construction_faults
write_this_first p types construction n y at =
    let both = none_left (classes_faults (resolved p) 0 (resolved p).members) (bodies_faults (resolved p) (resolved p).bodies) construction in
    let from = origin_of (resolved p) n y at in
    made_first p both.0 types both.1 from.origin y from.made
