use Rattle.std.proofs.Common.{suc, ◌+◌, map, drop, sym, ap, ◌∙◌, add-one}
use Rattle.std.specs.Prelude.{List}
use Rattle.ss_typed.specs.Tree.{StmtTrees, FieldTree}
use Rattle.ss_typed.specs.View as typed
use Rattle.ss_expand_rules.specs.Program.{field_at}
use Rattle.ss_expand_rules.specs.Code.{after}
use Rattle.ss_expand_rules.specs.Constructors.{before_all, initializers_from}
use Rattle.ss_expand_rules.specs.Statements.{stmts}
use Rattle.ss_expand_expressions.specs.Sources.{stmts_of}
use Rattle.ss_ast.proofs.Loops.{drop_item}
use Rattle.ss_expand_lifting.specs.Contexts.{context_of}
use Rattle.ss_expand_programs.proofs.Lists.{initialize_all}
use Rattle.ss_expand_programs.proofs.initializers.add_fields.Goals as goal

pub loop-field-preserved : goal.loop-field-preserved
loop-field-preserved c = λ more.
    let s = context_of c.args.context.now in
    let t = s.body.class in
    let fields = c.args.fields.now in
    let i = c.loop-field.field-index in
    let n = c.loop-field.number in
    let m = typed.field c.field-item.result in
    let rest = initializers_from s.program t (n + 1) (map typed.field (drop (suc i) fields)) in
    let code = stmts_of c.loop-field.code.statements in
    let made = c.loop-field.made.items in
    let code' = stmts_of c.add_initial.new.code.statements in
    let made' = c.add_initial.new.made.items in
    ap (λ k. after code' (stmts s (before_all (initializers_from s.program t c.in_ok-number.number (map typed.field (drop k fields))) more) made')) (add-one i)
    ∙ ap (λ k. after code' (stmts s (before_all (initializers_from s.program t k (map typed.field (drop (suc i) fields))) more) made')) c.in_ok-number.ensures
    ∙ c.in_ok-add_initial.ensures (before_all rest more)
    ∙ ap (λ (ss : StmtTrees). after code (stmts s ss made)) (sym (initialize_all t n m m.initial (field_at s.program n) rest more))
    ∙ ap (λ (fs : List FieldTree). after code (stmts s (before_all (initializers_from s.program t n fs) more) made)) (sym (ap (map typed.field) (drop_item fields i c.field-item.result c.loop-field-test.true c.field-item.is)))
    ∙ c.loop-field.invariant more
