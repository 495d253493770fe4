use Rattle.std.proofs.Common.{◌∙◌}
use Rattle.ss_core.specs.View.{expr}
use Rattle.ss_vcgen_known.specs.Views.{known_of}
use Rattle.ss_vcgen_types.proofs.Telling.{told_of_front}
use Rattle.ss_vcgen_known.proofs.known.Known.test.Goals as goal

pub returns : goal.returns
returns c =
    c.in_ok-learn.ensures
    ∙ told_of_front c.deref.result.now (expr c.args.e.now) c.args.outcome (known_of c.args.self.now) (c.deref.ensures.value ∙ c.in_ok-list.ensures)
