-- What the phases of names and types make sure of, so that each number fits its type.
use Rattle.std.specs.Prelude.{ℕ, ◌≤◌, ◌<◌, ◌^◌, List, length, sum_by}
use Rattle.ss_ast.specs.Programs.{ClassTree}
use Rattle.ss_core.specs.Chain.{most_classes}
use Rattle.ss_resolver_rules.specs.Numbers.{field_count, body_count}

abbrev pub HasFewClasses : List ClassTree → Type 0
HasFewClasses cs = length cs ≤ most_classes

-- there are not too many classes, nor fields or bodies in the whole program
pub record IsWithinLimits (cs : List ClassTree) : Type 0 where
  pub classes : HasFewClasses cs
  pub fields : sum_by field_count cs < 2 ^ 32
  pub bodies : sum_by body_count cs < 2 ^ 32
