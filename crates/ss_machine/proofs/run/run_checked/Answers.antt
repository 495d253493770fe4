use Rattle.std.proofs.Common.{◌≡◌, ◌+◌, suc, option_map, sym, ap, ◌∙◌, subst, arith}
use Rattle.ss_core.specs.View as view
use Rattle.ss_io.specs.Outside.{Grew, Wrote}
use Rattle.ss_machine_rules.specs.Runs.{start_with, printed}
use Rattle.ss_machine_rules.specs.Ends.{IsDoneAt, HasFailed, HasStopped}
use Rattle.ss_machine.specs.Ends.{IfDone, IfFailed, IfStopped, OnWhole}
use Rattle.ss_machine.specs.Pieces.{pieces}
use Rattle.ss_machine.specs.declared.run.CheckedEnd.{CheckedEnd}
use Rattle.ss_machine.proofs.Runs.{Stands, stands_first, stands_more, halt_done, halt_failed, halt_stopped, halt_printed, halt_front, running_took, nothing_done, nothing_took}
use Rattle.ss_machine.proofs.Written.{wrote_nothing, wrote_one_more, halt_pieces, halt_first, running_pieces, wrote_all, nothing_written}
use Rattle.ss_machine.proofs.Taken.{front_whole}
use Rattle.ss_machine.proofs.run.run_checked.Goals as goal

pub returns-in_default-clause-done : goal.returns-in_default-clause-done
returns-in_default-clause-done g c = nothing_done (view.core c.args.core.now) c.args.input.now c.args.steps (sym c.body_at.ensures ∙ ap (option_map (λ b. view.body b.now)) c.in_default.is)

pub returns-in_default-clause-printed : goal.returns-in_default-clause-printed
returns-in_default-clause-printed g c = nothing_took (view.core c.args.core.now) c.args.input.now c.args.steps (g.S.Sink.taken c.args.out.now) (sym c.body_at.ensures ∙ ap (option_map (λ b. view.body b.now)) c.in_default.is)

pub loop-count-init : goal.loop-count-init
loop-count-init g c = record {
  stands = stands_first (view.core c.args.core.now) c.args.input.now c.in-Ok.machine (g.S.Sink.taken c.args.out.now) (ap (start_with c.args.input.now) (sym c.body_at.ensures ∙ ap (option_map (λ b. view.body b.now)) c.in-Some.is) ∙ c.in-Ok.ensures);
  wrote = wrote_nothing (g.S.Sink.pieces c.args.out.now);
  later = omega arith;
}

pub loop-count-preserved : goal.loop-count-preserved
loop-count-preserved g c =
    let program = view.core c.args.core.now in
    let l = c.loop-count in
    let told = g.S.Sink.taken in
    let wrote = g.S.Sink.pieces in
    let n : suc l.count ≡ l.count + 1 = omega arith in
    record {
      stands = subst (λ i. Stands program c.args.input.now i c.step.new.self (told c.args.out.now) (told c.step.new.out)) n (stands_more program c.args.input.now l.count l.machine c.step.new.self (told c.args.out.now) (told l.out) (told c.step.new.out) l.invariant.stands c.in_default-step.ensures.step);
      wrote = subst (λ i. Wrote (wrote c.args.out.now) (wrote c.step.new.out) (pieces program c.args.input.now i)) n (wrote_one_more program c.args.input.now l.count l.machine (told c.args.out.now) (told l.out) (wrote c.args.out.now) (wrote l.out) (wrote c.step.new.out) l.invariant.stands l.invariant.wrote c.in_default-step.ensures.pieces);
      later = omega (arith, l.invariant.later, c.in_default-step.ensures.cause.later);
    }

pub returns-in-Err-clause-done : goal.returns-in-Err-clause-done
returns-in-Err-clause-done g c =
    let program = view.core c.args.core.now in
    let l = c.loop-count in
    let told = g.S.Sink.taken in
    subst (λ (e : CheckedEnd). IfDone e (λ k. IsDoneAt program c.args.input.now k c.args.steps)) (sym c.end_of.ensures)
    (halt_done program c.args.input.now l.count c.args.steps l.machine c.step.new.self (told c.args.out.now) (told l.out) (told c.step.new.out) l.invariant.stands c.loop-count-test.true c.in-Err.halt c.in-Err.ensures.step)

pub returns-in-Err-clause-failed : goal.returns-in-Err-clause-failed
returns-in-Err-clause-failed g c =
    let program = view.core c.args.core.now in
    let l = c.loop-count in
    let told = g.S.Sink.taken in
    subst (λ (e : CheckedEnd). IfFailed e (λ k at. HasFailed program c.args.input.now k at c.args.steps)) (sym c.end_of.ensures)
    (halt_failed program c.args.input.now l.count c.args.steps l.machine c.step.new.self (told c.args.out.now) (told l.out) (told c.step.new.out) l.invariant.stands c.loop-count-test.true c.in-Err.halt c.in-Err.ensures.step)

pub returns-in-Err-clause-stopped : goal.returns-in-Err-clause-stopped
returns-in-Err-clause-stopped g c =
    let program = view.core c.args.core.now in
    let l = c.loop-count in
    let told = g.S.Sink.taken in
    subst (λ (e : CheckedEnd). IfStopped e (λ at. HasStopped program c.args.input.now at c.args.steps)) (sym c.end_of.ensures)
    (halt_stopped program c.args.input.now l.count c.args.steps l.machine c.step.new.self (told c.args.out.now) (told l.out) (told c.step.new.out) l.invariant.stands c.loop-count-test.true c.in-Err.halt c.in-Err.ensures.step)

pub returns-in-Err-clause-printed : goal.returns-in-Err-clause-printed
returns-in-Err-clause-printed g c =
    let program = view.core c.args.core.now in
    let l = c.loop-count in
    let told = g.S.Sink.taken in
    subst (λ (e : CheckedEnd). OnWhole e (Grew (told c.args.out.now) (told c.step.new.out) (printed program c.args.input.now c.args.steps))) (sym c.end_of.ensures)
    (halt_printed program c.args.input.now l.count c.args.steps l.machine c.step.new.self (told c.args.out.now) (told l.out) (told c.step.new.out) l.invariant.stands c.loop-count-test.true c.in-Err.halt c.in-Err.ensures.step)

pub returns-in-Err-clause-front : goal.returns-in-Err-clause-front
returns-in-Err-clause-front g c =
    let program = view.core c.args.core.now in
    let l = c.loop-count in
    let told = g.S.Sink.taken in
    halt_front program c.args.input.now l.count c.args.steps l.machine c.step.new.self (told c.args.out.now) (told l.out) (told c.step.new.out) l.invariant.stands c.loop-count-test.true c.in-Err.halt c.in-Err.ensures.step

pub returns-clause-front : goal.returns-clause-front
returns-clause-front g c =
    let program = view.core c.args.core.now in
    let l = c.loop-count in
    let told = g.S.Sink.taken in
    front_whole (told c.args.out.now) (told l.out) (printed program c.args.input.now c.args.steps)
    (running_took program c.args.input.now l.count c.args.steps l.machine (told c.args.out.now) (told l.out) l.invariant.stands c.loop-count-test.false l.auto.count-end)

pub returns-in_default-clause-pieces : goal.returns-in_default-clause-pieces
returns-in_default-clause-pieces g c = nothing_written (view.core c.args.core.now) c.args.input.now c.args.steps (g.S.Sink.pieces c.args.out.now) (sym c.body_at.ensures ∙ ap (option_map (λ b. view.body b.now)) c.in_default.is)

pub returns-in_default-clause-first_pieces : goal.returns-in_default-clause-first_pieces
returns-in_default-clause-first_pieces g c =
    let out = g.S.Sink.pieces c.args.out.now in
    wrote_all out out (pieces (view.core c.args.core.now) c.args.input.now c.args.steps) (nothing_written (view.core c.args.core.now) c.args.input.now c.args.steps out (sym c.body_at.ensures ∙ ap (option_map (λ b. view.body b.now)) c.in_default.is))

pub returns-in-Err-clause-pieces : goal.returns-in-Err-clause-pieces
returns-in-Err-clause-pieces g c =
    let program = view.core c.args.core.now in
    let l = c.loop-count in
    let told = g.S.Sink.taken in
    let wrote = g.S.Sink.pieces in
    subst (λ (e : CheckedEnd). OnWhole e (Wrote (wrote c.args.out.now) (wrote c.step.new.out) (pieces program c.args.input.now c.args.steps))) (sym c.end_of.ensures)
    (halt_pieces program c.args.input.now l.count l.machine (told c.args.out.now) (told l.out) (wrote c.args.out.now) (wrote l.out) (wrote c.step.new.out) l.invariant.stands l.invariant.wrote c.args.steps c.step.new.self (told l.out) (told c.step.new.out) c.in-Err.halt c.loop-count-test.true c.in-Err.ensures.step c.in-Err.ensures.pieces)

pub returns-in-Err-clause-first_pieces : goal.returns-in-Err-clause-first_pieces
returns-in-Err-clause-first_pieces g c =
    let program = view.core c.args.core.now in
    let l = c.loop-count in
    let told = g.S.Sink.taken in
    let wrote = g.S.Sink.pieces in
    halt_first program c.args.input.now l.count l.machine (told c.args.out.now) (told l.out) (wrote c.args.out.now) (wrote l.out) (wrote c.step.new.out) l.invariant.stands l.invariant.wrote c.args.steps c.loop-count-test.true c.in-Err.ensures.pieces

pub returns-clause-first_pieces : goal.returns-clause-first_pieces
returns-clause-first_pieces g c =
    let program = view.core c.args.core.now in
    let l = c.loop-count in
    let wrote = g.S.Sink.pieces in
    wrote_all (wrote c.args.out.now) (wrote l.out) (pieces program c.args.input.now c.args.steps)
    (running_pieces program c.args.input.now l.count c.args.steps (wrote c.args.out.now) (wrote l.out) l.invariant.wrote c.loop-count-test.false l.auto.count-end)
