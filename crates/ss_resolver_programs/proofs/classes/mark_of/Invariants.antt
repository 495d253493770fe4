use Rattle.std.proofs.Common.{◌≡◌, map, drop}
use Rattle.ss_ast.specs.Expressions.{name_tree}
use Rattle.ss_resolver_rules.specs.Programs.{mark_of}
use Rattle.ss_resolver_programs.proofs.classes.mark_of.Given as goal

abbrev pub invariant-loop-attribute : goal.invariant-loop-attribute
invariant-loop-attribute l = mark_of (map name_tree (drop l.attribute-index l.attributes)) ≡ mark_of (map name_tree l.attributes)
