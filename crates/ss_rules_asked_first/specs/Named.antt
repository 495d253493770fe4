-- Arguments that a bank has, and what they stand for.
use Rattle.std.specs.Prelude.{◌≡◌, List}
use Rattle.ss_logic.specs.Terms.{Term}
use Rattle.ss_terms.specs.Forms.{Forms}
use Rattle.ss_rules_asked.specs.declared.asked.Argument.{Argument}
use Rattle.ss_rules_asked.specs.Numbers.{arguments_at, HasArguments}

pub record AreArguments (b : Forms) (xs : List Argument) (these : List Term) : Type 0 where
  pub has : HasArguments b xs
  pub are : arguments_at b xs ≡ these
