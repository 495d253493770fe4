use Rattle.std.proofs.Common.{◌≡◌, map, drop}
use Rattle.ss_ast.specs.Programs.{clause_tree}
use Rattle.ss_resolver_names_rules.specs.Members.{only_ensures}
use Rattle.ss_resolver_names.proofs.overrides.only_ensures.Given as goal

abbrev pub invariant-loop-clause : goal.invariant-loop-clause
invariant-loop-clause l =
    only_ensures (map clause_tree (drop l.clause-index l.clauses)) ≡ only_ensures (map clause_tree l.clauses)
