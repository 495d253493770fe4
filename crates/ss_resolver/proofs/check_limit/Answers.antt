use Rattle.std.proofs.Common.{sym, subst}
use Rattle.ss_ast.specs.Programs.{program_tree}
use Rattle.ss_expand_programs.specs.Limits.{HasFewClasses}
use Rattle.ss_resolver.proofs.Limits.{faultless_few}
use Rattle.ss_resolver.proofs.check_limit.Goals as goal

pub first_limit_fault-requires : goal.first_limit_fault-requires
first_limit_fault-requires c = record {
  few_classes = subst HasFewClasses (sym c.requires.resolves) (faultless_few (program_tree c.args.program.now) c.requires.faultless);
}
