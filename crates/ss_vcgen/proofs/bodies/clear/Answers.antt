use Rattle.std.proofs.Common.{◌∙◌}
use Rattle.ss_core.specs.View as view
use Rattle.ss_vcgen.proofs.Building.{cleared}
use Rattle.ss_vcgen.proofs.bodies.clear.Goals as goal

pub returns : goal.returns
returns c = cleared c.args.builder.now c.len-builder.result c.new.result c.new-2.result c.at_entry.result (view.body c.args.body.now) c.requires (c.len-builder.ensures ∙ c.args.builder.now.trail.ok.0) c.new.ensures.items c.new-2.ensures.items c.at_entry.ensures
