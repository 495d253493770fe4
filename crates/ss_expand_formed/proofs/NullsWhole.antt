-- Each body of the elaboration of a source without faults keeps nulls out.
use Rattle.std.proofs.Common.{◌≡◌, []}
use Rattle.ss_ast.specs.Programs.{ProgramTree}
use Rattle.ss_resolver_names_rules.specs.Programs.{program_faults}
use Rattle.ss_resolver_types_expressions.specs.Programs.{type_faults}
use Rattle.ss_resolver_rules.specs.Programs.{resolved}
use Rattle.ss_nonnull_rules.specs.Program.{null_faults}
use Rattle.ss_delayed_rules.specs.Program.{construction_faults}
use Rattle.ss_owners_rules.specs.Program.{ownership_faults}
use Rattle.ss_expand_formed.specs.Laws.{core_of}
use Rattle.ss_expand_formed.proofs.FitsBodies.{none_written, implicit_fits, each_fits}
use Rattle.ss_expand_formed.specs.Nulls.{KeepNullsOut}
use Rattle.ss_expand_formed.proofs.NullsLaw as fitting

pub keep_nulls_out : (p : ProgramTree) → program_faults p ≡ [] → type_faults p ≡ [] → null_faults (resolved p) ≡ [] → construction_faults (resolved p) ≡ [] → ownership_faults (resolved p) ≡ [] → KeepNullsOut (core_of p)
keep_nulls_out p faultless types pure built owned =
    fitting.keep_nulls_out p faultless types (each_fits p faultless types owned)
    (λ k c at none name w. implicit_fits p faultless types owned k c at (none_written p faultless types owned k c at none) name w) pure built
