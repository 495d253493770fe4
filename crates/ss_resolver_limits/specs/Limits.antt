-- Bodies of the core program with too many locals, temporaries among them.
use Rattle.std.specs.Prelude.{List, [], ◌∷◌, ◌++◌, length, nat_le, Option, if◌then◌else◌}
use Rattle.ss_core.specs.Tree.{BodyTree}
use Rattle.ss_faults.specs.declared.Fault.{Fault}
use Rattle.ss_faults.specs.First.{first_fault}
use Rattle.ss_core.specs.declared.rules.Rule.TheVariants as rule
use Rattle.ss_resolver_names_rules.specs.Faults.{Faults, fault}
use Rattle.ss_resolver_names_rules.specs.Programs.{most_locals}
use Rattle.ss_typed.specs.Tree.{TypedTree}
use Rattle.ss_expand_rules.specs.Elaborated.{elaborated}

-- a body with too many locals, at its place: its name, or that of its class where no source writes it
abbrev pub body_faults : BodyTree → Faults
body_faults b = if nat_le (length b.locals) most_locals then [] else fault rule.Limit b.place

abbrev pub bodies_faults : List BodyTree → Faults
bodies_faults [] = []
bodies_faults (b ∷ bs) = body_faults b ++ bodies_faults bs

-- the bodies of the elaborated program with too many locals
abbrev pub limit_faults : TypedTree → Faults
limit_faults p = bodies_faults (elaborated p).bodies

abbrev pub first_limit_fault : TypedTree → Option Fault
first_limit_fault p = first_fault (limit_faults p)
