use Rattle.std.proofs.Common.{Err, subst, sym, ◌∙◌}
use Rattle.ss_io.specs.declared.outside.WriteStop.{WriteStop}
use Rattle.ss_io.specs.Outside.{Grew, GrewByFront, Takes}
use Rattle.ss_core.specs.View.{core}
use Rattle.ss_vcgen_builder.specs.Built.{trees}
use Rattle.ss_report.specs.declared.status.Status.{Status}
use Rattle.ss_top.specs.Answers.{Says, command_of_goal}
use Rattle.ss_top.proofs.Says.{told_in_part, verdict_in_part, countered_rise, undecided_rise, answer_says, answer_no_fault}
use Rattle.ss_top.proofs.source.tell_verdict.Goals as goal

pub verdict_text-requires-clause-countered : goal.verdict_text-requires-clause-countered
verdict_text-requires-clause-countered g c = countered_rise c.args.asked.now.limits (core c.args.meant.now.program.now) c.args.verdict c.requires.listed

pub verdict_text-requires-clause-undecided : goal.verdict_text-requires-clause-undecided
verdict_text-requires-clause-undecided g c = undecided_rise c.args.asked.now.limits (core c.args.meant.now.program.now) c.args.verdict c.requires.listed

pub returns-in-Err-Failed-clause-says : goal.returns-in-Err-Failed-clause-says
returns-in-Err-Failed-clause-says g c = λ wanted.
    let a = c.args.asked.now in
    let old = g.S.Sink.taken c.args.out.now in
    let new = g.S.Sink.taken c.write.new.self in
    let taken = subst (λ (e : WriteStop). Takes old new c.deref.result.now (Err e)) c.in-Err-Failed.field-0-is c.in-Err-Failed.ensures.taken in
    verdict_in_part a.limits wanted a.steps a.input.items old new c.args.meant.now.source.now
    (told_in_part a.limits (core c.args.meant.now.program.now) (trees c.args.obligations.now) c.args.verdict old new c.args.meant.now.source.now c.in-Ok.lines.items c.requires.means c.requires.obligations c.requires.listed c.in-Ok.ensures (subst (λ t. GrewByFront old new t) c.deref.ensures.value taken))

pub returns-in-Ok-write-clause-says : goal.returns-in-Ok-write-clause-says
returns-in-Ok-write-clause-says g c = λ wanted.
    let a = c.args.asked.now in
    let old = g.S.Sink.taken c.args.out.now in
    let new = g.S.Sink.taken c.write.new.self in
    subst (λ (st : Status). Says a.limits a.steps a.input.items old new st (command_of_goal wanted) c.args.meant.now.source.now) (sym c.answer_of.ensures)
    (answer_says a.limits wanted a.steps a.input.items (core c.args.meant.now.program.now) (trees c.args.obligations.now) c.args.verdict old new c.args.meant.now.source.now c.in-Ok.lines.items c.requires.means c.requires.obligations c.requires.listed c.in-Ok.ensures (subst (λ t. Grew old new t) c.deref.ensures.value c.in-Ok-write.ensures.taken))

pub returns-in-Ok-write-clause-cause : goal.returns-in-Ok-write-clause-cause
returns-in-Ok-write-clause-cause g c = λ e. absurd (answer_no_fault c.args.verdict (sym c.answer_of.ensures ∙ e))
