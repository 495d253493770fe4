-- Conditions as a caller sees them.
use Rattle.std.specs.Prelude.{Bool, if◌then◌else◌}
use Rattle.ss_core.specs.Tree.{ExprTree}
pub use Rattle.ss_store_rules.specs.Tables.{is_level, is_at_level}
use Rattle.ss_vcgen_heaps.specs.Contracts.{seen_condition}

abbrev pub condition_of : Bool → ExprTree → ExprTree
condition_of seen e = if seen then seen_condition e else e
