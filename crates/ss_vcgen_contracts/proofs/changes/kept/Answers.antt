use Rattle.std.proofs.Common.{ap}
use Rattle.ss_core.specs.View as view
use Rattle.ss_logic.specs.Frames as logic
use Rattle.ss_frames.specs.Calls.{call_at}
use Rattle.ss_frames.proofs.Growing.{call_at-grown}
use Rattle.ss_vcgen_express.proofs.Grown.{is_formula}
use Rattle.ss_vcgen_contracts.proofs.changes.kept.Goals as goal

pub returns-clause-at : goal.returns-clause-at
returns-clause-at c =
    is_formula c.kept.result c.args.bank.now c.kept.new.b (λ b. logic.kept (view.classes c.args.core.now.classes) (call_at b c.args.m.now)) c.kept.ensures.grown
    (λ b g. ap (logic.kept (view.classes c.args.core.now.classes)) (call_at-grown c.args.bank.now b g c.args.m.now c.requires.call)) c.kept.ensures.at
