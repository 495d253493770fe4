-- The code of a written constructor: what stands before `base(..)`, the call, `ready this`, and the rest.
use Rattle.std.proofs.Common.{◌≡◌, ℕ, ◌+◌, List, [], ◌∷◌, ◌++◌, Bool, true, false, None, refl, sym, ◌∙◌, ap, subst, arith, append_assoc}
use Rattle.std.specs.Prelude.{◌&&◌, ◌==◌, not, if◌then◌else◌}
use Rattle.std.proofs.lemmas.Bool.{and_from}
use Rattle.ss_core.specs.declared.names.Place.{Place}
use Rattle.ss_core.specs.declared.names.Ty.{Ty}
use Rattle.ss_core.specs.Tree as core
use Rattle.ss_core.specs.Tree.{LocalExpr, AssignStmt, CallStmt, BaseConstructor, ReadyStmt}
use Rattle.ss_core.specs.View.{code_of}
use Rattle.ss_typed.specs.Tree.{Arguments, BaseCallOf, SimpleOf, ReturnOf, StmtTrees, NoMore, Before, BlockTree, ParamTree, BodyTree, TypedTree}
use Rattle.ss_expand_rules.specs.Program.{above_of, Constructor, number_of}
use Rattle.ss_typed.specs.Lookups.{constructor_of, param_types_in}
use Rattle.ss_expand_rules.specs.Lifting.{ElaborationContext, Listed, arguments_of}
use Rattle.ss_expand_rules.specs.Code.{Coded}
use Rattle.ss_expand_rules.specs.Simple.{has_delayed_constructor, ready_after, base_with, base_of, simple}
use Rattle.ss_expand_rules.specs.Statements.{stmts}
use Rattle.ss_expand_rules.specs.Constructors.{before_all}
use Rattle.ss_typed.specs.Shapes.{closing_brace}
use Rattle.ss_expand_rules.specs.Bodies.{block_assigns, copying_from, copying, statements, elaboration_context, temporary_count, code}
use Rattle.ss_store_rules.specs.Locals.{each}
use Rattle.ss_expand_formed.proofs.Shape.{Code}
use Rattle.ss_expand_formed.proofs.Choices.{where_chosen}
use Rattle.ss_expand_formed.proofs.Bases.{OnlySimple}
use Rattle.ss_expand_formed.proofs.Begins.{BeginsWhole, before_all_assoc}
use Rattle.ss_expand_formed.proofs.Openings.{base_where, ready_where}

-- ---- copies of parameters

pub copies_pass : (test : core.StmtTree → Bool) → (block : BlockTree) (low : ℕ) → ((p : Place) (x y : ℕ) → test (AssignStmt p x (LocalExpr p (low + y))) ≡ true) → (copy x : ℕ) (qs : List ParamTree) → each test (code_of (copying_from block copy (low + x) qs)) ≡ true
copies_pass test block low h copy x [] = refl
copies_pass test block low h copy x (q ∷ qs) =
    let next : low + x + 1 ≡ low + (x + 1) = omega arith in
    let rest = λ (c : ℕ). subst (λ y. each test (code_of (copying_from block c y qs)) ≡ true) (sym next) (copies_pass test block low h c (x + 1) qs) in
    where_chosen (λ (xs : Code). each test (code_of xs) ≡ true) (block_assigns (low + x) block) (AssignStmt q.place copy (LocalExpr q.place (low + x)) ∷ copying_from block (copy + 1) (low + x + 1) qs) (copying_from block copy (low + x + 1) qs)
    (λ yes. and_from _ _ (h q.place copy x) (rest (copy + 1)))
    (λ other. rest copy)

-- ---- statements one after the other

-- simple statements are passed
pub simple_first : (s : ElaborationContext) (front more : StmtTrees) (made : List Ty) → OnlySimple front → (stmts s (before_all front more) made).code ≡ (stmts s front made).code ++ (stmts s more (stmts s front made).made).code
simple_first s NoMore more made h = refl
simple_first s (Before (SimpleOf x) xs) more made h =
    let one = simple s x made in
    ap (λ c. one.code ++ c) (simple_first s xs more one.made h.1) ∙ sym (append_assoc one.code (stmts s xs one.made).code (stmts s more (stmts s xs one.made).made).code)
simple_first s (Before x xs) more made h = absurd h

-- ---- `base(..)`

-- the class above is a declared one
abbrev pub calls : ElaborationContext → ℕ → Bool
calls s t = not (t == 0)

abbrev pub readies : ElaborationContext → ℕ → Bool
readies s t = not s.body.flags.delayed && has_delayed_constructor s.program t

abbrev pub given : ElaborationContext → ℕ → Arguments → List Ty → Listed
given s t es made = arguments_of s (param_types_in (constructor_of s.program t)) es made

-- what is lifted out of the arguments
abbrev pub lifted_given : ElaborationContext → ℕ → Arguments → List Ty → Code
lifted_given s t es made = if t == 0 then [] else (given s t es made).code

ready_is : (s : ElaborationContext) (p : Place) (t : ℕ) → ready_after s p t ≡ ready_where (readies s t) p
ready_is s p t = by s.body.flags.delayed (has_delayed_constructor s.program t)
  where
    by : (a b : Bool) → (if a then [] else if b then ReadyStmt p ∷ [] else []) ≡ ready_where (not a && b) p
    by true b = refl
    by false true = refl
    by false false = refl

base_is : (s : ElaborationContext) (p : Place) (es : Arguments) (t : ℕ) (made : List Ty) →
    (base_of s p es t made).code ≡ lifted_given s t es made ++ (base_where (calls s t) p (number_of s.program (Constructor t)) (given s t es made).values ++ ready_where (readies s t) p)
base_is s p es t made = by (t == 0) ∙ ap (λ r. lifted_given s t es made ++ (base_where (calls s t) p (number_of s.program (Constructor t)) (given s t es made).values ++ r)) (ready_is s p t)
  where
    by : (b : Bool) → (if b then record { code = ready_after s p t; made = made } else base_with s p t (given s t es made)).code
        ≡ (if b then [] else (given s t es made).code) ++ (base_where (not b) p (number_of s.program (Constructor t)) (given s t es made).values ++ ready_after s p t)
    by true = refl
    by false = refl

-- ---- the whole

module _ (p : TypedTree) (b : BodyTree) (r : BeginsWhole p b) where
  abbrev pub s : ElaborationContext
  s = elaboration_context p b (temporary_count p b)

  abbrev pub above : ℕ
  above = above_of p b.class

  abbrev pub before : Coded
  before = stmts s r.front []

  abbrev pub front : Code
  front = copying b ++ (before.code ++ lifted_given s above r.given before.made)

  abbrev pub number : ℕ
  number = number_of p (Constructor above)

  abbrev pub values : List core.ExprTree
  values = (given s above r.given before.made).values

  abbrev pub ending : StmtTrees
  ending = before_all r.rest (Before (ReturnOf (closing_brace b.block) None) NoMore)

  abbrev pub rest : Code
  rest = (stmts s ending (base_of s r.place r.given above before.made).made).code

  statements_are : b.flags.ctor ≡ true → b.result ≡ None → statements p b ≡ before_all r.front (Before (SimpleOf (BaseCallOf r.place r.given)) ending)
  statements_are ctor none =
      let last = Before (ReturnOf (closing_brace b.block) None) NoMore in
      rw (ctor, none) (ap (λ z. before_all z last) r.is ∙ before_all_assoc r.front (Before (SimpleOf (BaseCallOf r.place r.given)) r.rest) last)

  pub code_is : b.flags.ctor ≡ true → b.result ≡ None → code p b ≡ front ++ (base_where (calls s above) r.place number values ++ (ready_where (readies s above) r.place ++ rest))
  code_is ctor none =
      let base = base_of s r.place r.given above before.made in
      let lifts = lifted_given s above r.given before.made in
      let call = base_where (calls s above) r.place number values in
      let ready = ready_where (readies s above) r.place in
      let inner : (stmts s (statements p b) []).code ≡ before.code ++ (base.code ++ rest) =
      ap (λ z. (stmts s z []).code) (statements_are ctor none) ∙ simple_first s r.front (Before (SimpleOf (BaseCallOf r.place r.given)) ending) [] r.simple in
      let regroup : before.code ++ ((lifts ++ (call ++ ready)) ++ rest) ≡ (before.code ++ lifts) ++ (call ++ (ready ++ rest)) =
      ap (λ z. before.code ++ z) (append_assoc lifts (call ++ ready) rest ∙ ap (λ z. lifts ++ z) (append_assoc call ready rest)) ∙ sym (append_assoc before.code lifts (call ++ (ready ++ rest))) in
      ap (λ z. copying b ++ z) (inner ∙ ap (λ z. before.code ++ (z ++ rest)) (base_is s r.place r.given above before.made) ∙ regroup)
      ∙ sym (append_assoc (copying b) (before.code ++ lifts) (call ++ (ready ++ rest)))
