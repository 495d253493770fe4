use Rattle.std.proofs.Common.{◌≡◌, ap, sym, ◌∙◌, map, length, arith}
use Rattle.ss_core.specs.View as view
use Rattle.ss_core.specs.Tree.{CoreTree}
use Rattle.ss_report_core.proofs.BodyGroups.{groups_of}
use Rattle.ss_report_core.proofs.whole.core_text.Goals as goal

pub push_classes-requires-clause-classes : goal.push_classes-requires-clause-classes
push_classes-requires-clause-classes c = ap (map view.class_of) c.deref-2.ensures.value ∙ sym (ap (λ (k : CoreTree). k.classes) c.in_ok-program.ensures)

pub push_classes-requires-clause-table : goal.push_classes-requires-clause-table
push_classes-requires-clause-table c =
    let counted : c.len.result ≡ length c.args.whole.now.classes.list.items = omega (arith, c.args.whole.now.classes.list.ok.0) in
    groups_of c.len.result (length c.deref-2.result.now) (map view.body c.deref.result.now) _ c.in_ok-table.table.items c.deref-3.result.now (ap length c.deref-2.ensures.value ∙ sym counted)
    (ap (λ (k : CoreTree). k.bodies) c.in_ok-program.ensures ∙ sym (ap (map view.body) c.deref.ensures.value)) c.deref-3.ensures.value c.in_ok-table.ensures
