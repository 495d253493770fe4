-- Left sides of assignments.
use Rattle.std.specs.Prelude.{◌≡◌, Bool, true, false}
use Rattle.ss_typed.specs.Tree.{ExprTree, LocalOf, FieldOf, ElementOf}
use Rattle.ss_typed.specs.View.{expr}
use Rattle.ss_typed.specs.Parts.{stepped}
use Rattle.ss_expand_lifting.specs.declared.lefts.Part.{Part}
use Rattle.ss_expand_lifting.specs.declared.lefts.Left.{Left}
use Rattle.ss_expand_lifting.specs.declared.lefts.Left.TheVariants as left

abbrev pub part_tree : Part → ExprTree
part_tree part = stepped part.place (expr part.first.now) part.steps.now

abbrev pub may_be_left : ExprTree → Bool
may_be_left (LocalOf p x t) = true
may_be_left (FieldOf p o f t) = true
may_be_left (ElementOf p a i) = true
may_be_left e = false

-- the expression is this left side, or none
abbrev pub IsLeft : ExprTree → Left → Type 0
IsLeft e (left.Local p x t) = e ≡ LocalOf p x t
IsLeft e (left.Field p part f t) = e ≡ FieldOf p (part_tree part) f.0 t
IsLeft e (left.Element p part i) = e ≡ ElementOf p (part_tree part) (expr i.now)
IsLeft e left.Other = may_be_left e ≡ false
