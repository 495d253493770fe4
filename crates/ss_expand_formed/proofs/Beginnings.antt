-- What stands before `base(..)` and `ready this` in the code of each constructor.
use Rattle.std.proofs.Common.{◌≡◌, ℕ, ◌+◌, List, [], ◌∷◌, ◌++◌, Bool, true, false, refl, sym, ◌∙◌, ap, subst, arith, inl, inr, ◌⊎◌, ⊎_elim}
use Rattle.std.specs.Prelude.{◌&&◌, ◌||◌, ◌==◌, not, slice_get}
use Rattle.std.proofs.lemmas.Bool.{or_right, eq-eqb, false≢true}
use Rattle.ss_core.specs.Tree as core
use Rattle.ss_core.specs.Chain as chain
use Rattle.ss_core.specs.View.{code_of}
use Rattle.ss_ast.specs.Programs.{ProgramTree}
use Rattle.ss_ast.specs.declared.stmt.AssignOperator.TheVariants as operator
use Rattle.ss_typed.specs.Tree.{SimpleTree, AssignOf, StepOf, SimpleOf, StmtTrees, NoMore, Before, BodyTree, TypedTree}
use Rattle.ss_resolver_rules.specs.Programs.{resolved}
use Rattle.ss_resolver_names_rules.specs.Programs.{program_faults}
use Rattle.ss_resolver_types_expressions.specs.Programs.{type_faults}
use Rattle.ss_expand_rules.specs.Program.{table, Origin}
use Rattle.ss_expand_rules.specs.Contracts.{first_param, declarations}
use Rattle.ss_expand_rules.specs.Constructors.{implicit_constructor}
use Rattle.ss_expand_rules.specs.Bodies.{first_copy, copying_from, copying, code, written_body}
use Rattle.ss_store_rules.specs.Locals.{each}
use Rattle.ss_store_rules.specs.Construction.{is_return, writes_own, opening, wants_base, wants_ready, has_opening}
use Rattle.ss_expand_formed.specs.Laws.{core_of}
use Rattle.ss_expand_formed.proofs.Bodies.{IsMade, WrittenConstructor, ImplicitConstructor, WrittenMethod, Wrapper, origin_of}
use Rattle.ss_expand_formed.proofs.Heads.{have_classes}
use Rattle.ss_expand_formed.proofs.Resolved.{method_is}
use Rattle.ss_expand_formed.proofs.Shape.{Code, each-append}
use Rattle.ss_expand_formed.specs.Construction.{HaveOpening}
use Rattle.ss_expand_formed.proofs.Choices.{where_chosen}
use Rattle.ss_expand_formed.proofs.Lifts.{arguments_fit}
use Rattle.ss_expand_formed.proofs.Free.{Anything, AnyGiven, any_passes, KeepsFree, free_keeps}
use Rattle.ss_expand_formed.proofs.Begins.{BeginsWhole}
use Rattle.ss_expand_formed.proofs.Openings.{front_is_opening}
use Rattle.ss_expand_formed.proofs.OwnFields.{OnlyOwn}
use Rattle.ss_expand_formed.proofs.OwnWrites.{Assigns, AllAssign, all_own_run}
use Rattle.ss_expand_formed.proofs.ConstructionWritten.{copies_pass, calls, readies, given, lifted_given, s, above, before, front, number, values, rest, code_is}
use Rattle.ss_expand_formed.proofs.Builds.{BuildsNothing, Builds, IsBuilt, all_built, implicit_built}
use Rattle.ss_expand_formed.proofs.BeginsInOrder.{front_has_none, rest_has_none, wanted}

abbrev pub opens : ℕ → core.StmtTree → Bool
opens t x = not (is_return x) && writes_own t x

lifts_open : (t : ℕ) → KeepsFree (opens t)
lifts_open t = record {
  assign = λ p x e. refl;
  new = λ p x k es. refl;
  array = λ p x k e. refl;
  call = λ p x e k m es. refl;
  static = λ p x n es. refl;
  base = λ p x n es. refl;
  branch = λ p e a b. refl;
}

any_assigns : (x : SimpleTree) → Assigns Anything x
any_assigns (AssignOf l operator.Set e) = tt
any_assigns (AssignOf l operator.Add e) = tt
any_assigns (AssignOf l operator.Subtract e) = tt
any_assigns (AssignOf l operator.Multiply e) = tt
any_assigns (StepOf l o) = tt
any_assigns x = tt

any_assign : (p : TypedTree) (t : ℕ) (ss : StmtTrees) → OnlyOwn p t ss → AllAssign Anything ss
any_assign p t NoMore h = tt
any_assign p t (Before (SimpleOf x) ss) h = (any_assigns x, any_assign p t ss h.1)
any_assign p t (Before x ss) h = absurd h

module _ (p : TypedTree) (b : BodyTree) (r : BeginsWhole p b) where
  front_opens : each (opens b.class) (code_of (front p b r)) ≡ true
  front_opens =
      let t = b.class in
      let z = s p b r in
      let keeps = free_keeps z.numbers (opens t) (lifts_open t) in
      let first : first_param b + 0 ≡ first_param b = omega arith in
      let copies = subst (λ x. each (opens t) (code_of (copying_from b.block (first_copy b) x b.params)) ≡ true) first (copies_pass (opens t) b.block (first_param b) (λ q x y. refl) (first_copy b) 0 b.params) in
      let writes = all_own_run Anything AnyGiven any_passes (opens t) z keeps t (λ q v f m e h. eq-eqb t t refl) r.front [] r.own (any_assign p t r.front r.own) in
      let args = where_chosen (λ (xs : Code). each (opens t) (code_of xs) ≡ true) (above p b r == 0) [] (given z (above p b r) r.given (before p b r).made).code (λ yes. refl) (λ other. (arguments_fit Anything AnyGiven any_passes (opens t) z keeps _ r.given (before p b r).made tt).0) in
      each-append (opens t) (copying b) ((before p b r).code ++ lifted_given z (above p b r) r.given (before p b r).made) copies
      (each-append (opens t) (before p b r).code (lifted_given z (above p b r) r.given (before p b r).made) writes args)

opening_from : (c : core.CoreTree) (y : core.BodyTree) (base ready : Bool) → wants_base c y ≡ base → wants_ready c y ≡ ready → ((base ≡ true) ⊎ (ready ≡ true) → each (opens y.class) (opening y.code) ≡ true) → has_opening c y ≡ true
opening_from c y false false e f h = rw (e, f) refl
opening_from c y true ready e f h = or_right (not (wants_base c y || wants_ready c y)) _ (h (inl refl))
opening_from c y false true e f h = or_right (not (wants_base c y || wants_ready c y)) _ (h (inr refl))

-- what stands before the two in the code of a constructor
pub opening_is : (p : TypedTree) (b : BodyTree) (c : Builds p b) → (calls (s p b c.begins) (above p b c.begins) ≡ true) ⊎ (readies (s p b c.begins) (above p b c.begins) ≡ true) → opening (code_of (code p b)) ≡ code_of (front p b c.begins)
opening_is p b c w =
    let r = c.begins in
    ap (λ xs. opening (code_of xs)) (code_is p b r c.ctor c.result)
    ∙ front_is_opening (front p b r) (rest p b r) r.place (number p b r) (values p b r) (front_has_none p b r) (rest_has_none p b r) (calls (s p b r) (above p b r)) (readies (s p b r) (above p b r)) w

module _ (p : ProgramTree) (faultless : program_faults p ≡ []) where
  written_opens : (b : BodyTree) (bs : List BodyTree) → chain.is_declared (core_of p).classes b.class ≡ true → IsBuilt (resolved p) b → has_opening (core_of p) (written_body (resolved p) b bs) ≡ true
  written_opens b bs there built = ⊎_elim nothing some built
    where
      nothing : BuildsNothing b → has_opening (core_of p) (written_body (resolved p) b bs) ≡ true
      nothing n = opening_from (core_of p) (written_body (resolved p) b bs) false false (rw n.ctor refl) (rw n.ctor refl) (λ w. absurd (⊎_elim false≢true false≢true w))

      some : Builds (resolved p) b → has_opening (core_of p) (written_body (resolved p) b bs) ≡ true
      some c =
          let r = c.begins in
          let w = wanted p faultless b bs there c.ctor r in
          opening_from (core_of p) (written_body (resolved p) b bs) (calls (s (resolved p) b r) (above (resolved p) b r)) (readies (s (resolved p) b r) (above (resolved p) b r)) w.0 w.1
          (λ one. subst (λ xs. each (opens b.class) xs ≡ true) (sym (opening_is (resolved p) b c one)) (front_opens (resolved p) b r))

  made_opens : type_faults p ≡ [] → (o : Origin) (y : core.BodyTree) → IsMade (resolved p) o y → chain.is_declared (core_of p).classes y.class ≡ true → has_opening (core_of p) y ≡ true
  made_opens none o y (WrittenConstructor {n = n} {b = b} is em en eb) there = written_opens b (b ∷ []) there (all_built p none n b eb)
  made_opens none o y (ImplicitConstructor {t = t} {c = c} {m = m} is ec em empty) there = let b = implicit_constructor t c.name m.place in written_opens b (b ∷ []) there (inr (implicit_built p t c ec m.place))
  made_opens none o y (WrittenMethod {t = t} {m = m} {b = b} is eb own) there =
      let at = method_is (resolved p) (slice_get (table (resolved p) t) m) b eb in
      written_opens b (declarations (resolved p) t m) there (all_built p none at.0 b at.1)
  made_opens none o y (Wrapper is eb own em) there = refl

pub have_opening : (p : ProgramTree) → program_faults p ≡ [] → type_faults p ≡ [] → HaveOpening (core_of p)
have_opening p faultless none n y at =
    let from = origin_of (resolved p) n y at in
    made_opens p faultless none from.origin y from.made (have_classes p n y at)
