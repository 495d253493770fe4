use Rattle.std.proofs.Common.{ap, ◌∙◌}
use Rattle.ss_core.specs.Kinds.{place_of}
use Rattle.ss_core.proofs.ByNumber.{its_place}
use Rattle.ss_core.proofs.class_kind.declared_place.Goals as goal

pub returns : goal.returns
returns c = c.place.ensures ∙ ap place_of c.of.ensures ∙ its_place c.args.number
