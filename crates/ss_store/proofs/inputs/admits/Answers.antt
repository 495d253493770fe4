use Rattle.std.proofs.Common.{◌∙◌, map, ap}
use Rattle.ss_core.specs.View.{local_of, classes}
use Rattle.ss_store_rules.specs.Admitted.{takes_input}
use Rattle.ss_store.proofs.FirstLocals.{met_at_entry}
use Rattle.ss_store.proofs.inputs.admits.Goals as goal

pub returns : goal.returns
returns c =
    met_at_entry (classes c.args.c.now.classes) c.args.input.now c.args.main.now c.takes_input.result c.all_hold.result c.in_ok-store.store.objects c.deref-3.result.now c.deref-2.result.now
    c.if-not-takes_input.false
    (c.takes_input.ensures ∙ ap (λ ps. takes_input (map local_of ps) c.args.input.now) c.deref.ensures.value)
    c.in_ok-store.ensures
    (c.deref-3.ensures.value ∙ c.in_ok-locals.ensures)
    c.deref-2.ensures.value
    c.all_hold.ensures
