use Rattle.std.proofs.Common.{◌≡◌, ◌++◌, ap, ◌∙◌}
use Rattle.ss_ast.specs.Expressions.{name_tree}
use Rattle.ss_tables_scopes.specs.Views.{scope_of}
use Rattle.ss_resolver_names_rules.specs.Prefixes.{dotted}
use Rattle.ss_resolver_scoping.specs.Views.{prefix_view}
use Rattle.ss_resolver_names_members.proofs.Walks.{member_noted}
use Rattle.ss_resolver_names_members.proofs.walk.walk_member.Goals as goal

pub returns-clause-noted : goal.returns-clause-noted
returns-clause-noted c = λ e found o b.
    let s = scope_of c.args.context c.args.locals.now in
    let x = prefix_view c.args.before in
    let n = name_tree c.args.name.now in
    let old = c.args.faults.now.items in
    member_noted s c.args.place e n found old _ x o b (c.in_ok-add_dotted.ensures ∙ ap (λ r. old ++ dotted s x n r) c.prefix_receiver-receiver.ensures)
