use Rattle.std.proofs.Common.{refl, ◌∙◌}
use Rattle.ss_vcgen_builder.proofs.Builds.{becomes_listed}
use Rattle.ss_vcgen_builder.proofs.builder.Builder.list_goal.Goals as goal

pub returns : goal.returns
returns c =
    let s = c.args.self.now in
    becomes_listed s c.requires.fine (record { first = s.first; end = c.len.result; goal = c.args.goal; kind = c.args.kind; place = c.args.place; body = c.args.walk.now.number }) c.push.new.self c.in_ok-push.ensures.items c.requires.goal refl (c.len.ensures ∙ s.trail.ok.0)
