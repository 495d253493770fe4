use Rattle.std.proofs.Common.{◌≡◌, sym, ap, ◌∙◌}
use Rattle.std.specs.Prelude.{option_map}
use Rattle.ss_typed.specs.View.{expr}
use Rattle.ss_expand_rules.specs.Code.{after}
use Rattle.ss_expand_rules.specs.Lifting as lifting
use Rattle.ss_expand_rules.specs.Simple as simple
use Rattle.ss_expand_expressions.specs.Sources.{stmts_of}
use Rattle.ss_expand_lifting.specs.Contexts.{context_of}
use Rattle.ss_expand_lifting.proofs.Codes.{coded_as}
use Rattle.ss_expand_lifting.proofs.Statements.{printed_after}
use Rattle.ss_expand_lifting.proofs.simple.print.Goals as goal

pub returns-in_ok-add_print-in-Some : goal.returns-in_ok-add_print-in-Some
returns-in_ok-add_print-in-Some c =
    let a = c.in-Some in
    let s = context_of c.args.context.now in
    let before = stmts_of c.args.code.now.statements in
    let kinds = c.args.made.now.items in
    printed_after c.args.place c.args.line before _ _ _ _ (lifting.value s (expr a.e) kinds) c.in_ok-value-in-Some.ensures c.in_ok-add_print-in-Some.ensures
    ∙ ap (λ x. after before (simple.print s c.args.place (option_map expr x) c.args.line kinds)) (sym a.is)

pub returns-in_ok-add_print-in-None : goal.returns-in_ok-add_print-in-None
returns-in_ok-add_print-in-None c =
    let s = context_of c.args.context.now in
    let before = stmts_of c.args.code.now.statements in
    let kinds = c.args.made.now.items in
    ap (λ code. coded_as code kinds) c.in_ok-add_print-in-None.ensures
    ∙ ap (λ x. after before (simple.print s c.args.place (option_map expr x) c.args.line kinds)) (sym c.in-None.is)
