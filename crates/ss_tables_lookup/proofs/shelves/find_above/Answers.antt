use Rattle.std.proofs.Common.{◌∙◌, map, ap}
use Rattle.ss_ast.specs.Programs.{ClassTree, class_tree}
use Rattle.ss_tables.specs.Classes.{class_named}
use Rattle.ss_tables.specs.Named.{named_in}
use Rattle.ss_tables_lookup.proofs.Noted.{first_place}
use Rattle.ss_tables_lookup.proofs.shelves.find_above.Goals as goal

pub returns-in-Some : goal.returns-in-Some
returns-in-Some c =
    let cs = map class_tree c.args.classes.now in
    rw c.in-Some.is
    (c.find.ensures ∙ ap (λ p. named_in p c.as_str.result.now) c.requires
    ∙ first_place (λ (t : ClassTree). t.name.text) c.as_str.result.now cs
    ∙ ap (class_named cs) c.as_str.ensures.value)
