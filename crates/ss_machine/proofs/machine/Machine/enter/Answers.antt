use Rattle.std.proofs.Common.{◌≡◌, List, Option, option_map, sym, ap, ◌∙◌, subst}
use Rattle.std.specs.Borrow.{Bor}
use Rattle.ss_core.specs.declared.body.Body.{Body}
use Rattle.ss_core.specs.declared.expr.Expr.{Expr}
use Rattle.ss_core.specs.declared.names.Kind.TheVariants as kind
use Rattle.ss_core.specs.View as view
use Rattle.ss_store_rules.specs.declared.Value.{Value}
use Rattle.ss_store_rules.specs.Values.{setting}
use Rattle.ss_machine_rules.specs.States.{locals_at_entry}
use Rattle.ss_machine_rules.specs.Steps as steps
use Rattle.ss_machine.specs.Frames.{running, waiting, target_of}
use Rattle.ss_machine.specs.Moves.{Does}
use Rattle.ss_machine.proofs.Entering.{entered}
use Rattle.ss_machine.proofs.Halts.{ensured}
use Rattle.ss_machine.proofs.machine.Machine.enter.Goals as goal

pub returns : goal.returns
returns c =
    let program = view.core c.args.core.now in
    let body = view.body c.in-Some.body.now in
    let m = c.args.self.now in
    let s = m.stores.now in
    let locals = c.in_ok-locals.locals.items in
    let made : locals ≡ locals_at_entry body c.args.arguments.items = c.in_ok-locals.ensures in
    let holds = ensured c.all_hold_at_entry-holds.result kind.Precondition c.args.entrance.place c.ensure.result c.in_ok-ensure.field-0 c.ensure.ensures c.in_ok-ensure.was in
    let asked : steps.all_hold body.entry (setting program.classes s s locals) ≡ c.all_hold_at_entry-holds.result =
    ap (λ (es : List Expr). steps.all_hold (view.exprs es) (setting program.classes s s locals)) (sym c.deref.ensures.value)
    ∙ ap (λ (ls : List Value). steps.all_hold (view.exprs c.deref.result.now) (setting program.classes s s ls)) (sym c.deref-2.ensures.value)
    ∙ sym c.all_hold_at_entry-holds.ensures in
    subst (λ (o : Option (Bor Body)). Does c.push.result (steps.enter program (option_map (λ b. view.body b.now) o) c.args.entrance.place (target_of c.args.entrance.into) c.args.arguments.items (running m) (waiting m) s) c.push.new.self) (sym c.in-Some.is)
    (entered program body c.args.entrance.place (target_of c.args.entrance.into) c.args.arguments.items locals c.at_entry.result m c.push.new.self c.push.result made (asked ∙ holds) c.at_entry.ensures c.push.ensures)
