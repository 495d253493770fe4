use Rattle.std.proofs.Common.{◌≡◌, ◌++◌, List, map, drop}
use Rattle.ss_ast.specs.Expressions.{NameTree}
use Rattle.ss_ast.specs.Statements.{declarator_tree}
use Rattle.ss_resolver_names_rules.specs.Faults.{twice_among}
use Rattle.ss_resolver_names_rules.specs.Members.{declarator_names}
use Rattle.ss_resolver_scoping.specs.Views.{names_of}
use Rattle.ss_resolver_names.proofs.classes.check_declarators.Given as goal

abbrev pub invariant-loop-declarator : goal.invariant-loop-declarator
invariant-loop-declarator l =
    (rest : List NameTree) → l.faults.items ++ twice_among (names_of l.names.keys) (declarator_names (map declarator_tree (drop l.declarator-index l.declarators)) ++ rest)
    ≡ l.fn.faults.items ++ twice_among (names_of l.fn.names.keys) (declarator_names (map declarator_tree l.declarators) ++ rest)
