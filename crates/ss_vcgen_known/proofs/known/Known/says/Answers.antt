use Rattle.std.proofs.Common.{ap, ◌∙◌}
use Rattle.ss_core.specs.View.{expr}
use Rattle.ss_vcgen_types.specs.Told.{all_facts}
use Rattle.ss_vcgen_known.specs.Views.{known_of}
use Rattle.ss_vcgen_types.proofs.Telling.{learned_is}
use Rattle.ss_vcgen_known.proofs.known.Known.says.Goals as goal

pub returns : goal.returns
returns c =
    let k = known_of c.args.self.now in
    c.in_ok-set.ensures
    ∙ ap (all_facts k) (c.deref.ensures.value ∙ c.in_ok-list.ensures)
    ∙ learned_is k (expr c.args.e.now) c.args.outcome
