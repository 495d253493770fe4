use Rattle.ss_core.specs.View.{body}
use Rattle.ss_machine.proofs.Starts.{started}
use Rattle.ss_machine.proofs.run.start.Goals as goal

pub returns : goal.returns
returns c = started (body c.args.main.now) c.args.input.now c.in_ok-locals.locals.items c.in_ok-arguments.field-0.items (record { top = c.at_entry.result; below = c.new.result; stores = c.in_ok-stores.stores }) c.at_entry.ensures c.in_ok-locals.ensures c.in_ok-arguments.ensures c.new.ensures.items c.in_ok-stores.ensures
