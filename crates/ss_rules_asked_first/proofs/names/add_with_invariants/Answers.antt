use Rattle.std.proofs.Common.{sym, ◌∙◌, ap}
use Rattle.ss_core.specs.View as view
use Rattle.ss_logic.specs.Asked.{is_empty}
use Rattle.ss_rules_asked_first.proofs.Declaring.{class_pushed}
use Rattle.ss_rules_asked_first.proofs.names.add_with_invariants.Goals as goal

pub returns : goal.returns
returns c =
    class_pushed c.args.bank.now c.args.names.now.items c.push.new.self.items c.args.t _ c.requires (sym (c.if-is_empty.ensures ∙ ap (λ es. is_empty (view.exprs es)) c.deref.ensures.value)) c.in_ok-push.ensures.items
