-- The phases after the grammar, each with its first fault.
use Rattle.std.specs.Prelude.{List, [], ◌∷◌, Option, Some, None}
use Rattle.std.specs.Option.{option_or}
use Rattle.ss_ast.specs.Programs.{ProgramTree}
use Rattle.ss_faults.specs.declared.Fault.{Fault}
use Rattle.ss_faults.specs.First.{first_fault}
use Rattle.ss_typed.specs.Tree.{TypedTree}
use Rattle.ss_resolver_rules.specs.Programs.{resolved}
use Rattle.ss_nonnull_rules.specs.Program.{null_faults}
use Rattle.ss_delayed_rules.specs.Program.{construction_faults}
use Rattle.ss_owners_rules.specs.Program.{ownership_faults}
use Rattle.ss_resolver.specs.Phases.{resolve_fault}

-- the fault of the first of these phases that has one
abbrev pub of_first : List (Option Fault) → Option Fault
of_first [] = None
of_first (o ∷ os) = option_or o (of_first os)

-- the phases of a resolved program: null, then construction, then ownership
abbrev pub phases_of : TypedTree → List (Option Fault)
phases_of t =
    first_fault (null_faults t)
    ∷ first_fault (construction_faults t)
    ∷ first_fault (ownership_faults t)
    ∷ []

abbrev pub typed_fault : TypedTree → Option Fault
typed_fault t = of_first (phases_of t)

-- of a program names and types come first
abbrev pub program_fault : ProgramTree → Option Fault
program_fault p = option_or (resolve_fault p) (typed_fault (resolved p))
