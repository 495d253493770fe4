use Rattle.std.proofs.Common.{◌≡◌, ◌++◌, map, drop}
use Rattle.ss_typed.specs.View.{declarator}
use Rattle.ss_nonnull_seen.specs.Codes.{path_of, context_of}
use Rattle.ss_nonnull.specs.Walks.{known_after_all, all_faults}
use Rattle.ss_nonnull.proofs.simple.check_declarators.Given as goal

abbrev pub invariant-loop-declared : goal.invariant-loop-declared
invariant-loop-declared l = record {
  known : known_after_all (context_of l.context) (map declarator (drop l.declared-index l.declarators)) (path_of l.reached) ≡ known_after_all (context_of l.context) (map declarator l.declarators) (path_of l.fn.known);
  noted : l.found.items ++ all_faults (context_of l.context) (map declarator (drop l.declared-index l.declarators)) (path_of l.reached)
      ≡ l.fn.found.items ++ all_faults (context_of l.context) (map declarator l.declarators) (path_of l.fn.known);
}
