use Rattle.std.proofs.Common.{◌≡◌, ◌∷◌, refl, sym, ap, ◌∙◌}
use Rattle.ss_core.specs.View as view
use Rattle.ss_store_rules.specs.Values.{value_of}
use Rattle.ss_machine_rules.specs.States.{Goes}
use Rattle.ss_machine_rules.specs.Steps.{line, text_of, with_value}
use Rattle.ss_machine.specs.Frames.{running, waiting}
use Rattle.ss_machine.specs.Moves.{here, piece_of}
use Rattle.ss_machine.proofs.Quiet.{value_printed}
use Rattle.ss_machine.proofs.Written.{written_piece}
use Rattle.ss_machine.proofs.machine.Machine.print_value.Goals as goal

pub returns-clause-step : goal.returns-clause-step
returns-clause-step g c =
    let m = c.args.self.now in
    let piece = line (text_of c.in_ok-value.value) c.args.newline in
    value_printed c.write.result (value_of (view.expr c.args.e.now) (here c.args.core.now m)) c.in_ok-value.value (λ v. Goes (running m ∷ waiting m) m.stores.now (line (text_of v) c.args.newline)) m piece c.deref.result.now (g.S.Sink.taken c.args.out.now) (g.S.Sink.taken c.write.new.out)
    c.in_ok-value.ensures refl (c.deref.ensures.value ∙ c.in_ok-piece.ensures) c.write.ensures.step

pub returns-clause-pieces : goal.returns-clause-pieces
returns-clause-pieces g c =
    let m = c.args.self.now in
    let is = ap (λ x. with_value x (λ v. Goes (running m ∷ waiting m) m.stores.now (line (text_of v) c.args.newline))) c.in_ok-value.ensures in
    written_piece c.write.result (with_value (value_of (view.expr c.args.e.now) (here c.args.core.now m)) (λ v. Goes (running m ∷ waiting m) m.stores.now (line (text_of v) c.args.newline))) c.deref.result.now (g.S.Sink.pieces c.args.out.now) (g.S.Sink.pieces c.write.new.out)
    (ap piece_of is ∙ sym (c.deref.ensures.value ∙ c.in_ok-piece.ensures)) c.write.ensures.pieces
