use Rattle.std.proofs.Common.{sym, ap, ◌∙◌}
use Rattle.ss_typed.specs.Tree.{AllOf}
use Rattle.ss_typed.specs.View.{expr}
use Rattle.ss_resolver_rules.specs.Programs.{one_of}
use Rattle.ss_typed.proofs.Grouping.{chain_is}
use Rattle.ss_resolver_programs.proofs.Steps.{other_some}
use Rattle.ss_resolver_programs.proofs.fields.+one_of.Goals as goal

pub returns-else-is_empty-2 : goal.returns-else-is_empty-2
returns-else-is_empty-2 t c =
    let a = c.in-Chain in
    let e = chain_is a.place a.first a.links in
    sym (ap (λ v. one_of (expr v)) a.is ∙ ap one_of e ∙ other_some a.place (expr a.first.value) a.links.items a.links.len a.links.ok.0 c.if-is_empty-2.ensures ∙ ap (λ x. AllOf x) (sym e))
