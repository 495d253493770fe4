use Rattle.std.proofs.Common.{◌≡◌, map, drop}
use Rattle.ss_typed.specs.Tree.{StmtTrees}
use Rattle.ss_typed.specs.View as typed
use Rattle.ss_expand_rules.specs.Code.{after}
use Rattle.ss_expand_rules.specs.Constructors.{before_all, initializers_from}
use Rattle.ss_expand_rules.specs.Statements.{stmts}
use Rattle.ss_expand_expressions.specs.Sources.{stmts_of}
use Rattle.ss_expand_lifting.specs.Contexts.{context_of}
use Rattle.ss_expand_programs.proofs.initializers.add_fields.Given as goal

abbrev pub invariant-loop-field : goal.invariant-loop-field
invariant-loop-field l =
    let s = context_of l.context in
    (more : StmtTrees) → after (stmts_of l.code.statements) (stmts s (before_all (initializers_from s.program s.body.class l.number (map typed.field (drop l.field-index l.fields))) more) l.made.items)
    ≡ after (stmts_of l.fn.code.statements) (stmts s (before_all (initializers_from s.program s.body.class l.first (map typed.field l.fields)) more) l.fn.made.items)
