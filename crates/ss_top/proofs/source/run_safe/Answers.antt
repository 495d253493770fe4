use Rattle.ss_core.specs.View.{core}
use Rattle.ss_top.proofs.Says.{safe_says}
use Rattle.ss_top.proofs.source.run_safe.Goals as goal

pub returns-clause-says : goal.returns-clause-says
returns-clause-says g c =
    safe_says c.args.asked.now.limits (core c.args.program.now) c.args.asked.now.steps c.args.asked.now.input.items (g.S.Sink.taken c.args.out.now) (g.S.Sink.taken c.run_whole.new.out) c.args.source.now c.run_whole.result c.requires.means c.requires.safe c.requires.input c.run_whole.ensures.says
