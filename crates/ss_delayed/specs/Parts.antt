-- Where `this` stands in the parts of chains and paths.
use Rattle.std.specs.Prelude.{List, [], ◌∷◌, ◌++◌, Bool, true, false, ◌&&◌, if◌then◌else◌}
use Rattle.ss_core.specs.declared.names.Place.{Place}
pub use Rattle.ss_core.specs.Parts.{no_place}
use Rattle.ss_ast.specs.declared.stmt.AssignOperator.{AssignOperator}
use Rattle.ss_ast.specs.declared.stmt.AssignOperator.TheVariants as assign
use Rattle.ss_typed.specs.declared.expr.TypedLink.{TypedLink}
use Rattle.ss_typed.specs.declared.expr.TypedStep.{TypedStep}
use Rattle.ss_typed.specs.Tree.{ExprTree, FieldOf}
use Rattle.ss_typed.specs.Shapes.{is_this}
use Rattle.ss_delayed_rules.specs.Escapes as escapes
use Rattle.ss_delayed_rules.specs.Escapes.{may_read, uses, uses_left}
use Rattle.ss_typed.specs.Parts.{link_after, step_after}
pub use Rattle.ss_typed.specs.Parts.{nothing}
use Rattle.ss_delayed.specs.declared.escapes.Use.{Use}
use Rattle.ss_delayed.specs.declared.escapes.Use.TheVariants as allowed

abbrev pub use_of : Use → escapes.Use
use_of allowed.ForFields = escapes.ForFields
use_of allowed.NotAtAll = escapes.NotAtAll

-- what a link or a step adds to the places in what stands before it
abbrev pub link_uses : escapes.Use → TypedLink → List Place
link_uses u l = uses u (link_after l no_place nothing)

abbrev pub step_uses : escapes.Use → TypedStep → List Place
step_uses u s = uses u (step_after s no_place nothing)

abbrev pub links_uses : escapes.Use → List TypedLink → List Place
links_uses u [] = []
links_uses u (l ∷ ls) = link_uses u l ++ links_uses u ls

abbrev pub steps_uses : escapes.Use → List TypedStep → List Place
steps_uses u [] = []
steps_uses u (s ∷ ss) = step_uses u s ++ steps_uses u ss

-- ---- a field of `this` that is read

abbrev pub is_field : ExprTree → Bool
is_field (FieldOf p e f t) = true
is_field e = false

abbrev pub starts_with_field : List TypedStep → Bool
starts_with_field [] = false
starts_with_field (s ∷ ss) = is_field (step_after s no_place nothing)

-- what a path begins with is `this`, of which it reads a field where that is allowed
abbrev pub is_allowed_read : escapes.Use → ExprTree → List TypedStep → Bool
is_allowed_read u e ss = starts_with_field ss && (may_read u && is_this e)

abbrev pub unless : Bool → List Place → List Place
unless b ps = if b then [] else ps

-- ---- the left side of an assignment

abbrev pub target_uses : escapes.Use → AssignOperator → ExprTree → List Place
target_uses u assign.Set l = uses_left u l
target_uses u assign.Add l = uses u l
target_uses u assign.Subtract l = uses u l
target_uses u assign.Multiply l = uses u l
