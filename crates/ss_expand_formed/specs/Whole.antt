-- Programs in which no phase finds a fault.
use Rattle.std.specs.Prelude.{◌≡◌, []}
use Rattle.ss_ast.specs.Programs.{ProgramTree}
use Rattle.ss_resolver_names_rules.specs.Programs.{program_faults}
use Rattle.ss_resolver_rules.specs.Programs.{resolved}
use Rattle.ss_resolver_types_expressions.specs.Programs.{type_faults}
use Rattle.ss_nonnull_rules.specs.Program.{null_faults}
use Rattle.ss_delayed_rules.specs.Program.{construction_faults}
use Rattle.ss_owners_rules.specs.Program.{ownership_faults}

-- no phase finds a fault in the program, whatever the limit on its locals says
pub record HasNoFault (p : ProgramTree) : Type 0 where
  pub names : program_faults p ≡ []
  pub types : type_faults p ≡ []
  pub nulls : null_faults (resolved p) ≡ []
  pub construction : construction_faults (resolved p) ≡ []
  pub ownership : ownership_faults (resolved p) ≡ []
