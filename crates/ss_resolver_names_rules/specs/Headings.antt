-- The faults of a class beside those of its members' expressions and of its bodies.
use Rattle.std.specs.Prelude.{ℕ, List, [], ◌++◌}
use Rattle.ss_ast.specs.Programs.{ClassTree}
use Rattle.ss_tables.specs.Members.{methods_in, constructors_in}
use Rattle.ss_resolver_names_rules.specs.Faults.{Faults, twice_among}
use Rattle.ss_resolver_names_rules.specs.Members.{member_names, constructor_faults, override_faults}
use Rattle.ss_resolver_names_rules.specs.Programs.{depth_faults, above_faults, fields_faults, methods_faults}

abbrev pub heading_faults : List ClassTree → ℕ → ClassTree → Faults
heading_faults cs k c =
    depth_faults cs k c ++ above_faults cs k c.above ++ twice_among [] (member_names c.members)
    ++ constructor_faults (constructors_in c.members) ++ fields_faults cs k c ++ methods_faults (methods_in c.members)
    ++ override_faults cs k (methods_in c.members)
