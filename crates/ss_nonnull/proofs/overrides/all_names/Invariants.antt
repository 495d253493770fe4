use Rattle.std.proofs.Common.{◌≡◌, ◌++◌, map, drop}
use Rattle.ss_core.specs.View.{class_of}
use Rattle.ss_nonnull.specs.Names.{table_names}
use Rattle.ss_nonnull.proofs.overrides.all_names.Given as goal

abbrev pub invariant-loop-class : goal.invariant-loop-class
invariant-loop-class l = l.tables.items ++ map table_names (map class_of (drop l.class-index l.list)) ≡ map table_names (map class_of l.list)
