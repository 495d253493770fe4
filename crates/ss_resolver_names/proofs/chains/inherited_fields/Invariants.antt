use Rattle.std.proofs.Common.{◌≡◌, ◌+◌, length}
use Rattle.std.specs.List.{fold}
use Rattle.ss_tables.specs.Members.{fields_in}
use Rattle.ss_tables.specs.Classes.{members_at, chain_from}
use Rattle.ss_tables_lookup.specs.Classes.{trees}
use Rattle.ss_resolver_names_rules.specs.Programs.{inherited_fields}
use Rattle.ss_resolver_names.proofs.chains.inherited_fields.Given as goal

abbrev pub invariant-loop-left : goal.invariant-loop-left
invariant-loop-left l =
    fold (λ a j. a + length (fields_in (members_at (trees l.tables) j))) l.count (chain_from (trees l.tables) l.left l.at) ≡ inherited_fields (trees l.tables) l.fn.class

abbrev pub decreases-loop-left : goal.decreases-loop-left
decreases-loop-left l = l.left
