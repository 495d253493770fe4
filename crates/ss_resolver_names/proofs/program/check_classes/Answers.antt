use Rattle.std.proofs.Common.{map, option_map, refl, ap, ◌∙◌, arith}
use Rattle.std.specs.Prelude.{slice_get}
use Rattle.std.proofs.lemmas.Option.{slice_get-map, slice_get_read}
use Rattle.ss_ast.specs.Programs.{class_tree}
use Rattle.ss_tables_lookup.specs.Classes.{trees}
use Rattle.ss_resolver_names.proofs.program.check_classes.Goals as goal

pub check_class-requires : goal.check_class-requires
check_class-requires c =
    let classes = c.args.classes.now in
    let i = c.loop-class.class in
    ap (λ cs. slice_get (trees cs) i) c.requires ∙ slice_get-map class_tree classes i
    ∙ ap (option_map class_tree) (slice_get_read classes _ i c.index-classes-class.result refl c.loop-class-test.true c.index-classes-class.is)
