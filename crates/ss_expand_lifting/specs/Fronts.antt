-- The parts of chains and paths before the first call, and after it.
use Rattle.std.specs.Prelude.{◌≡◌, ℕ, ◌+◌, ◌<◌, List, [], ◌∷◌, length, take, drop, true}
use Rattle.std.specs.Global.{Vec}
use Rattle.ss_core.specs.declared.names.Place.{Place}
use Rattle.ss_core.specs.declared.names.Ty.{Ty}
use Rattle.ss_core.specs.declared.stmt.Stmt.{Stmt}
use Rattle.ss_core.specs.Tree as core
use Rattle.ss_typed.specs.declared.expr.TypedLink.{TypedLink}
use Rattle.ss_typed.specs.declared.expr.TypedStep.{TypedStep}
use Rattle.ss_typed.specs.Tree.{ExprTree}
use Rattle.ss_expand_rules.specs.Calls.{has_call}
use Rattle.ss_expand_rules.specs.Lifting.{ElaborationContext}
use Rattle.ss_typed.specs.Parts.{link_after, linked, step_after, stepped}
use Rattle.ss_expand_expressions.specs.Operands.{IsOperand}
use Rattle.ss_expand_lifting.specs.declared.fronts.Front.{Front}

-- the first of these links has a call, or the operand before it
abbrev pub link_begins : Place → ExprTree → List TypedLink → Type 0
link_begins p e [] = Unit {0}
link_begins p e (l ∷ ls) = has_call (link_after l p e) ≡ true

abbrev pub step_begins : Place → ExprTree → List TypedStep → Type 0
step_begins p e [] = Unit {0}
step_begins p e (l ∷ ls) = has_call (step_after l p e) ≡ true

-- up to each of these links there is a call
pub record LinksGoOn (p : Place) (e : ExprTree) (ls : List TypedLink) : Type 0 where
  pub each : (k : ℕ) → k < length ls → has_call (linked p e (take (k + 1) ls)) ≡ true

pub record StepsGoOn (p : Place) (e : ExprTree) (ls : List TypedStep) : Type 0 where
  pub each : (k : ℕ) → k < length ls → has_call (stepped p e (take (k + 1) ls)) ≡ true

-- the operand e has the first links after it, and up to each of the others there is a call
pub record IsLinkFront (s : ElaborationContext) (p : Place) (e : ExprTree) (ls : List TypedLink) (before : List core.StmtTree) (types : List Ty) (code : Vec Stmt) (made : Vec Ty) (f : Front) : Type 0 where
  pub operand : IsOperand s (linked p e (take f.length ls)) before types code made f.operand
  pub go_on : LinksGoOn p (linked p e (take f.length ls)) (drop f.length ls)

pub record IsStepFront (s : ElaborationContext) (p : Place) (e : ExprTree) (ls : List TypedStep) (before : List core.StmtTree) (types : List Ty) (code : Vec Stmt) (made : Vec Ty) (f : Front) : Type 0 where
  pub operand : IsOperand s (stepped p e (take f.length ls)) before types code made f.operand
  pub go_on : StepsGoOn p (stepped p e (take f.length ls)) (drop f.length ls)
