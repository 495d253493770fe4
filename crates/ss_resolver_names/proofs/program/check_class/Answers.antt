use Rattle.std.proofs.Common.{length, option_map, sym, ap, ◌∙◌}
use Rattle.std.specs.Prelude.{slice_get}
use Rattle.std.proofs.lemmas.Option.{slice_get_within}
use Rattle.ss_ast.specs.Programs.{class_tree}
use Rattle.ss_tables_lookup.specs.Classes.{trees}
use Rattle.ss_tables_lookup.specs.Shelved.{shelf_of}
use Rattle.ss_resolver_names.proofs.Kept.{shelf_at, no_shelf_at}
use Rattle.ss_resolver_names.proofs.program.check_class.Goals as goal

pub check_shelf-requires-clause-within : goal.check_shelf-requires-clause-within
check_shelf-requires-clause-within c = slice_get_within (trees c.args.tables.now) c.args.class (class_tree c.args.declaration.now) c.requires

pub check_shelf-requires-clause-shelved : goal.check_shelf-requires-clause-shelved
check_shelf-requires-clause-shelved c =
    shelf_at (trees c.args.tables.now) c.args.class (class_tree c.args.declaration.now) (shelf_of c.in-Some.shelf.now) c.requires (sym (ap (option_map (λ s. shelf_of s.now)) c.in-Some.is) ∙ c.shelf.ensures)

pub unreachable-requires : goal.unreachable-requires
unreachable-requires c =
    no_shelf_at (trees c.args.tables.now) c.args.class (class_tree c.args.declaration.now) c.requires (sym (ap (option_map (λ s. shelf_of s.now)) c.in-None.is) ∙ c.shelf.ensures)
