-- The locals that code assigns.
use Rattle.std.specs.Prelude.{not}
use Rattle.ss_core.specs.Tree.{CodeTree}
pub use Rattle.ss_core.specs.Parts.{loop_of}
use Rattle.ss_store_rules.specs.Locals.{is_target, each}
use Rattle.ss_store_rules.specs.NonNull.{Facts}

-- a statement of the code, or one inside it, assigns the local
abbrev pub assigns_in : CodeTree → Facts
assigns_in code y = not (each (λ u. not (is_target u y)) code)
