-- What holds of the code that assigns fields of `this` which a class declares.
use Rattle.std.proofs.Common.{◌≡◌, ℕ, List, [], ◌∷◌, Bool, true, Option, Some, None, refl, sym, subst}
use Rattle.std.specs.Prelude.{◌||◌, pos}
use Rattle.std.proofs.lemmas.Bool.{and_from, eqb-true, false≢true}
use Rattle.ss_core.specs.declared.names.Place.{Place}
use Rattle.ss_core.specs.declared.names.Mark.{Mark}
use Rattle.ss_core.specs.declared.names.Ty.{Ty}
use Rattle.ss_core.specs.declared.expr.Operator.TheVariants as op
use Rattle.ss_core.specs.Tree as core
use Rattle.ss_core.specs.Tree.{LocalExpr, WriteStmt}
use Rattle.ss_core.specs.Chain.{DeclaredField}
use Rattle.ss_ast.specs.declared.stmt.AssignOperator.TheVariants as operator
use Rattle.ss_typed.specs.Tree.{ExprTree, ThisOf, IntOf, FieldOf, BinaryOf, Arguments, SimpleTree, AssignOf, StepOf, SimpleOf, StmtTrees, NoMore, Before}
use Rattle.ss_expand_rules.specs.Program.{field_at}
use Rattle.ss_expand_rules.specs.Calls.{has_call}
use Rattle.ss_typed.specs.Shapes.{place_of}
use Rattle.ss_expand_rules.specs.Lifting.{ElaborationContext, value}
use Rattle.ss_expand_rules.specs.Code.{Coded}
use Rattle.ss_expand_rules.specs.Simple.{write_of, assign_settled, settle, assign_after, step_operator, simple}
use Rattle.ss_expand_rules.specs.Statements.{stmts}
use Rattle.ss_expand_formed.proofs.Shape.{Code, each-append}
use Rattle.ss_expand_formed.proofs.Choices.{where_chosen}
use Rattle.ss_expand_formed.proofs.Lifts.{Keeps, Runs, value_fits}
use Rattle.ss_expand_formed.proofs.Numbering.{is_declared_in}
use Rattle.ss_expand_formed.proofs.OwnFields.{is_own, OnlyOwn}

-- the property holds of what is assigned
abbrev pub Assigns : (ExprTree → Type 0) → SimpleTree → Type 0
Assigns F (AssignOf l operator.Set e) = F e
Assigns F (AssignOf l operator.Add e) = F (BinaryOf (place_of l) op.Add l e)
Assigns F (AssignOf l operator.Subtract e) = F (BinaryOf (place_of l) op.Subtract l e)
Assigns F (AssignOf l operator.Multiply e) = F (BinaryOf (place_of l) op.Multiply l e)
Assigns F (StepOf l o) = F (BinaryOf (place_of l) (step_operator o) l (IntOf (place_of l) (pos 1)))
Assigns F x = Unit {0}

abbrev pub AllAssign : (ExprTree → Type 0) → StmtTrees → Type 0
AllAssign F NoMore = Unit {0}
AllAssign F (Before (SimpleOf x) ss) = Assigns F x × AllAssign F ss
AllAssign F (Before s ss) = ⊥

module _ (F : ExprTree → Type 0) (A : Arguments → Type 0) (P : core.ExprTree → Bool) (test : core.StmtTree → Bool) (s : ElaborationContext) (k : Keeps s.numbers F A P test) (t : ℕ)
    (writes : (p q : Place) (f : ℕ) (m : Mark) (e : core.ExprTree) → P e ≡ true → test (WriteStmt p (LocalExpr q 0) f m t e) ≡ true) where
  abbrev Passing : Code → Type 0
  Passing xs = Runs F A P test xs

  write_runs : (q r : Place) (f : ℕ) (d : Option DeclaredField) (v : core.ExprTree) → is_declared_in t d ≡ true → P v ≡ true → Passing (write_of q (LocalExpr r 0) f d v)
  write_runs q r f None v own h = absurd (false≢true own)
  write_runs q r f (Some d) v own h =
      let same = eqb-true d.class t own in
      subst (λ u. Passing (WriteStmt q (LocalExpr r 0) f d.field.mark u v ∷ [])) (sym same) (and_from _ _ (writes q r f d.field.mark v h) refl)

  settled_runs : (q r : Place) (v f : ℕ) (u : Ty) (e : ExprTree) (made : List Ty) → is_declared_in t (field_at s.program f) ≡ true → F e → Passing (assign_settled s (FieldOf q (ThisOf r v) f u) e made).code
  settled_runs q r v f u e made own h =
      let x = value s e made in
      let fit = value_fits F A P test s k e made h in
      each-append test x.code (write_of q (LocalExpr r 0) f (field_at s.program f) x.value) fit.0 (write_runs q r f (field_at s.program f) x.value own fit.1)

  pub own_runs : (x : SimpleTree) (made : List Ty) → is_own s.program t x ≡ true → Assigns F x → Passing (simple s x made).code
  own_runs (AssignOf (FieldOf q (ThisOf r v) f u) operator.Set e) made own h =
      let l = FieldOf q (ThisOf r v) f u in
      where_chosen (λ (c : Coded). Passing c.code) (has_call l || has_call e) (assign_after s e (settle s l made)) (assign_settled s l e made) (λ yes. settled_runs q r v f u e made own h) (λ other. settled_runs q r v f u e made own h)
  own_runs (AssignOf (FieldOf q (ThisOf r v) f u) operator.Add e) made own h = settled_runs q r v f u (BinaryOf q op.Add (FieldOf q (ThisOf r v) f u) e) made own h
  own_runs (AssignOf (FieldOf q (ThisOf r v) f u) operator.Subtract e) made own h = settled_runs q r v f u (BinaryOf q op.Subtract (FieldOf q (ThisOf r v) f u) e) made own h
  own_runs (AssignOf (FieldOf q (ThisOf r v) f u) operator.Multiply e) made own h = settled_runs q r v f u (BinaryOf q op.Multiply (FieldOf q (ThisOf r v) f u) e) made own h
  own_runs (StepOf (FieldOf q (ThisOf r v) f u) o) made own h = settled_runs q r v f u (BinaryOf q (step_operator o) (FieldOf q (ThisOf r v) f u) (IntOf q (pos 1))) made own h
  own_runs x made own h = absurd (false≢true own)

  pub all_own_run : (ss : StmtTrees) (made : List Ty) → OnlyOwn s.program t ss → AllAssign F ss → Passing (stmts s ss made).code
  all_own_run NoMore made own h = refl
  all_own_run (Before (SimpleOf x) ss) made own h =
      let one = simple s x made in
      each-append test one.code (stmts s ss one.made).code (own_runs x made own.0 h.0) (all_own_run ss one.made own.1 h.1)
  all_own_run (Before x ss) made own h = absurd own
