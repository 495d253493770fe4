use Rattle.std.proofs.Common.{◌<◌, length, option_map, sym, ap, ◌∙◌, arith}
use Rattle.ss_tables_lookup.specs.Classes.{trees}
use Rattle.ss_tables_lookup.specs.Views.{method_tree}
use Rattle.ss_resolver_programs.proofs.Beginnings.{main_found, main_next}
use Rattle.ss_resolver_programs.proofs.mains.main_body.Goals as goal

pub returns-in-Some : goal.returns-in-Some
returns-in-Some c =
    let cs = trees c.args.whole.now.tables.now in
    let l : c.loop-class.class < length cs = omega arith in
    main_found cs c.loop-class.class _ (method_tree c.in-Some.method) c.as_str.result.now _ l c.loop-class.invariant c.in-Some.ensures c.as_str.ensures.value c.method_id.ensures

pub loop-class-preserved : goal.loop-class-preserved
loop-class-preserved c =
    let cs = trees c.args.whole.now.tables.now in
    let l : c.loop-class.class < length cs = omega arith in
    main_next cs c.loop-class.class _ l c.loop-class.invariant (sym (ap (option_map method_tree) c.in_default.is) ∙ c.main_of.ensures)
