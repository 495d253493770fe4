-- Where nothing is asked of expressions.
use Rattle.std.proofs.Common.{◌≡◌, ℕ, List, [], ◌∷◌, Bool, true, false, Option, Some, None, refl, inr}
use Rattle.std.proofs.lemmas.Bool.{false≢true}
use Rattle.ss_core.specs.declared.names.Place.{Place}
use Rattle.ss_core.specs.Tree as core
use Rattle.ss_core.specs.Tree.{CalleeTree, Dispatched, Static, Base, AssignStmt, NewStmt, NewArrayStmt, CallStmt, IfStmt, CodeTree}
use Rattle.ss_ast.specs.declared.stmt.AssignOperator.{AssignOperator}
use Rattle.ss_ast.specs.declared.stmt.AssignOperator.TheVariants as operator
use Rattle.ss_typed.specs.Tree.{ExprTree, FieldOf, ElementOf, Arguments, DeclaratorTree, SimpleTree, AssignOf, StepOf, AloneOf, PrintOf, PrintTextOf, BaseCallOf}
use Rattle.ss_expand_rules.specs.Numbers.{Numbers}
use Rattle.ss_expand_formed.proofs.Lifts.{Keeps}
use Rattle.ss_expand_formed.proofs.Simple.{Left, Assigning, PrintsOnly, InSimple, InDeclared}
use Rattle.ss_expand_formed.proofs.ConstructionStatements.{AllOf}

abbrev pub Anything : ExprTree → Type 0
Anything e = Unit {0}

abbrev pub AnyGiven : Arguments → Type 0
AnyGiven es = Unit {0}

abbrev pub any_passes : core.ExprTree → Bool
any_passes e = true

-- a test that the statements pass which are lifted out of expressions
pub record KeepsFree (test : core.StmtTree → Bool) : Type 0 where
  pub assign : (p : Place) (x : ℕ) (e : core.ExprTree) → test (AssignStmt p x e) ≡ true
  pub new : (p : Place) (x : Option ℕ) (t : ℕ) (es : List core.ExprTree) → test (NewStmt p x t es) ≡ true
  pub array : (p : Place) (x : Option ℕ) (t : ℕ) (e : core.ExprTree) → test (NewArrayStmt p x t e) ≡ true
  pub call : (p : Place) (x : Option ℕ) (e : core.ExprTree) (t m : ℕ) (es : List core.ExprTree) → test (CallStmt p x (Dispatched e t m) es) ≡ true
  pub static : (p : Place) (x : Option ℕ) (n : ℕ) (es : List core.ExprTree) → test (CallStmt p x (Static n) es) ≡ true
  pub base : (p : Place) (x : Option ℕ) (n : ℕ) (es : List core.ExprTree) → test (CallStmt p x (Base n) es) ≡ true
  pub branch : (p : Place) (e : core.ExprTree) (a b : CodeTree) → test (IfStmt p e a b) ≡ true

pub free_keeps : (ns : Numbers) (test : core.StmtTree → Bool) → KeepsFree test → Keeps ns Anything AnyGiven any_passes test
free_keeps ns test k = record {
  iff_parts = λ p a b h. (tt, tt);
  implies_parts = λ p a b h. (tt, tt);
  binary_parts = λ p o a b h. (tt, tt);
  element_parts = λ p a b h. (tt, tt);
  is_part = λ p e t h. tt;
  as_part = λ p e t h. tt;
  negate_part = λ p e h. tt;
  not_part = λ p e h. tt;
  cast_part = λ p t non_null e h. tt;
  length_part = λ p e h. tt;
  field_part = λ p e f t c h. tt;
  new_parts = λ p t es h. tt;
  array_part = λ p t e h. tt;
  call_parts = λ p e m t es h. (tt, tt);
  static_parts = λ p n t es h. tt;
  base_parts = λ p m t es h. tt;
  argument_parts = λ e es h. (tt, tt);
  plain_passes = λ e h. refl;
  temporary_passes = λ p n. refl;
  null_passes = λ p. refl;
  iff_passes = λ p a b h g. refl;
  binary_passes = λ p o a b h g. refl;
  element_passes = λ p a b h g. refl;
  is_passes = λ p e t h. refl;
  as_passes = λ p e t h. refl;
  negate_passes = λ p e h. refl;
  not_passes = λ p e h. refl;
  cast_passes = λ p t non_null e h. refl;
  field_passes = λ p e f h. refl;
  length_passes = λ p e h. refl;
  assign_passes = λ p x e h. k.assign p x e;
  new_passes = λ p x t es h. k.new p x t es;
  array_passes = λ p x t e h. k.array p x t e;
  call_passes = λ p x e t m es h g. k.call p x e t m es;
  static_passes = λ p x n es h. k.static p x n es;
  base_passes = λ p q m t given h x n es g. k.base q x n es;
  if_passes = λ p e a b h. k.branch p e a b;
}

-- ---- simple statements

abbrev pub is_free : SimpleTree → Bool
is_free (BaseCallOf p es) = false
is_free x = true

any_left : (l : ExprTree) → Left Anything l
any_left (FieldOf p o f t) = inr tt
any_left (ElementOf p a i) = (tt, tt)
any_left l = tt

any_assigning : (o : AssignOperator) (l e : ExprTree) → Assigning Anything o l e
any_assigning operator.Set l e = (any_left l, tt)
any_assigning operator.Add l e = (any_left l, tt, tt)
any_assigning operator.Subtract l e = (any_left l, tt, tt)
any_assigning operator.Multiply l e = (any_left l, tt, tt)

pub any_printed : (e : Option ExprTree) → PrintsOnly Anything e
any_printed None = tt
any_printed (Some e) = tt

pub any_simple : (B : Arguments → Type 0) (x : SimpleTree) → is_free x ≡ true → InSimple Anything B x
any_simple B (AssignOf l o e) h = any_assigning o l e
any_simple B (StepOf l o) h = (any_left l, tt)
any_simple B (AloneOf e) h = tt
any_simple B (PrintOf p e line) h = any_printed e
any_simple B (PrintTextOf p text line) h = tt
any_simple B (BaseCallOf p es) h = absurd (false≢true h)

pub any_declared : (ds : List DeclaratorTree) → InDeclared Anything ds
any_declared [] = tt
any_declared (d ∷ ds) = (any_printed d.initial, any_declared ds)

pub any_all : (es : List ExprTree) → AllOf Anything es
any_all [] = tt
any_all (e ∷ es) = (tt, any_all es)
