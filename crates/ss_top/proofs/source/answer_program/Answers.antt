use Rattle.ss_core.specs.View.{core}
use Rattle.ss_top.proofs.Says.{is_listed}
use Rattle.ss_top.proofs.source.answer_program.Goals as goal

pub tell_verdict-requires-clause-listed : goal.tell_verdict-requires-clause-listed
tell_verdict-requires-clause-listed g c =
    is_listed c.args.asked.now.limits (core c.args.program.now) c.verify.result c.in_default-verify.not-Verified c.in_default-verify.not-Memory c.verify.ensures.unproved c.verify.ensures.undecided
