-- Which of some fields begin with a value.
use Rattle.std.specs.Prelude.{List, slice_get}
use Rattle.ss_typed.specs.Tree.{FieldTree}
use Rattle.ss_paths.specs.Sets.{Set}
use Rattle.ss_paths.specs.Assigned.{starts_with_value}

unfoldable pub started : List FieldTree → Set
started fs i = starts_with_value (slice_get fs i)
