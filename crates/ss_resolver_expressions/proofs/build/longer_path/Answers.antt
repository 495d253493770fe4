use Rattle.std.proofs.Common.{◌≡◌, sym, ap, ◌∙◌, map, rules}
use Rattle.ss_typed.specs.View.{expr, grouped}
use Rattle.ss_typed.specs.Parts.{step_after as typed_step}
use Rattle.ss_typed.proofs.Grouping.{path_is, stepped_push}
use Rattle.ss_resolver_expressions.proofs.build.longer_path.Goals as goal

pub returns : goal.returns
returns c =
    let p : c.args.at ≡ c.args.place = search rules in
    let first = expr c.args.first.value in
    c.in_ok-boxed.ensures ∙ path_is c.args.at c.args.first c.push.new.self
    ∙ ap (λ xs. grouped c.args.at first (map typed_step xs)) c.in_ok-push.ensures.items
    ∙ stepped_push c.args.at first c.args.steps.items c.args.step
    ∙ ap (λ at. typed_step c.args.step at (grouped c.args.at first (map typed_step c.args.steps.items))) p
