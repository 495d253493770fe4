-- The first fault of a program by names, types and the limit on the locals of elaborated bodies, and what it means without one.
use Rattle.std.specs.Prelude.{◌≡◌, Option, Some, None, Result, Ok, Err}
use Rattle.std.specs.Option.{option_or}
use Rattle.ss_core.specs.declared.names.FrontStop.{FrontStop}
use Rattle.ss_core.specs.declared.names.FrontStop.TheVariants as stop
use Rattle.ss_ast.specs.Programs.{ProgramTree}
use Rattle.ss_faults.specs.declared.Fault.{Fault}
use Rattle.ss_resolver_names_rules.specs.Programs.{first_name_fault}
use Rattle.ss_resolver_types_expressions.specs.Programs.{first_type_fault}
use Rattle.ss_typed.specs.declared.program.Typed.{Typed}
use Rattle.ss_typed.specs.Tree.{TypedTree}
use Rattle.ss_typed.specs.View.{typed}
use Rattle.ss_resolver_rules.specs.Programs.{resolved}
use Rattle.ss_resolver_limits.specs.Limits.{first_limit_fault}

-- the first fault of names, else the first fault of types
abbrev pub source_fault : ProgramTree → Option Fault
source_fault p = option_or (first_name_fault p) (first_type_fault p)

-- .., else the first body past the limit
abbrev pub resolve_fault : ProgramTree → Option Fault
resolve_fault p = option_or (source_fault p) (first_limit_fault (resolved p))

-- the program has no such fault, and this is what it means
abbrev pub ResolvesTo : ProgramTree → TypedTree → Type 0
ResolvesTo p t = (resolve_fault p ≡ None) × (resolved p ≡ t)

-- what is answered: what the program means, or its first fault
abbrev pub Resolves : ProgramTree → Result Typed FrontStop → Type 0
Resolves p (Ok t) = ResolvesTo p (typed t)
Resolves p (Err (stop.Refused rule at)) = resolve_fault p ≡ Some (record { rule = rule; place = at })
Resolves p (Err stop.Memory) = Unit {0}
