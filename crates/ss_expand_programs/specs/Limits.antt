-- What a resolved program keeps to.
use Rattle.std.specs.Prelude.{◌≤◌, length}
use Rattle.ss_core.specs.Chain.{most_classes}
use Rattle.ss_typed.specs.Tree.{TypedTree}

-- the numbers of its classes fit
abbrev pub HasFewClasses : TypedTree → Type 0
HasFewClasses p = length p.classes ≤ most_classes
