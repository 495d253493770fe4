use Rattle.std.proofs.Common.{◌++◌, map, ap, ◌∙◌}
use Rattle.std.proofs.lemmas.Result.{on_ok_weaker}
use Rattle.ss_ast.specs.Programs.{class_tree, member_tree}
use Rattle.ss_tables.specs.Scopes.{class_scope}
use Rattle.ss_tables_lookup.specs.Classes.{trees}
use Rattle.ss_resolver_names_rules.specs.Members.{members_faults}
use Rattle.ss_resolver_names_rules.specs.Headings.{heading_faults}
use Rattle.ss_resolver_names_rules.specs.Programs.{bodies_faults}
use Rattle.ss_resolver_names_members.proofs.Appending.{two_more}
use Rattle.ss_resolver_names.proofs.Kept.{shelf_bodies}
use Rattle.ss_resolver_names.proofs.program.check_shelf.Goals as goal

pub returns : goal.returns
returns c =
    let cs = trees c.args.tables.now in
    let k = c.args.class in
    let t = class_tree c.args.declaration.now in
    on_ok_weaker c.check_bodies.result (λ h. two_more c.args.faults.now.items c.check_heading.new.faults.items c.check_members.new.faults.items c.check_bodies.new.faults.items (heading_faults cs k t) (members_faults (class_scope cs k) t.members) (bodies_faults cs k t)
    c.in_ok-check_heading.ensures (c.in_ok-check_members.ensures ∙ ap (λ ms. c.check_heading.new.faults.items ++ members_faults (class_scope cs k) (map member_tree ms)) c.deref.ensures.value)
    (h ∙ ap (λ x. c.check_members.new.faults.items ++ shelf_bodies cs k x) c.requires.shelved)) c.check_bodies.ensures
