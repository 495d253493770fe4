use Rattle.std.proofs.Common.{◌≡◌, length, refl, sym, ap, ◌∙◌}
use Rattle.ss_core.specs.View as core
use Rattle.ss_typed.specs.View.{expr}
use Rattle.ss_expand_rules.specs.Numbers.{plain}
use Rattle.ss_expand_expressions.specs.Views.{numbers_of, path_of}
use Rattle.ss_typed.proofs.Grouping.{path_alone}
use Rattle.ss_expand_lifting.proofs.lefts.plain_part.Goals as goal

pub returns-then-is_empty : goal.returns-then-is_empty
returns-then-is_empty c =
    let part = c.args.part in
    let same = path_alone part.place (expr part.first.now) part.steps.now (length part.steps.now) refl c.if-is_empty.ensures in
    c.in_ok-first.ensures ∙ ap (plain (numbers_of c.args.numbers.now)) (sym same)

pub returns : goal.returns
returns c =
    let part = c.args.part in
    c.in_ok-path.ensures
    ∙ ap (λ e. path_of part.place (core.expr e) c.in_ok-steps.steps) c.in_ok-boxed.ensures.ok
    ∙ ap (λ e. path_of part.place e c.in_ok-steps.steps) c.in_ok-first.ensures
    ∙ c.in_ok-steps.ensures part.place (expr part.first.now)
