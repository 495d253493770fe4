use Rattle.ss_typed.specs.View.{typed}
use Rattle.ss_top_sources.proofs.Limits.{accepted_few}
use Rattle.ss_top_sources.proofs.source.elaborate.Goals as goal

pub expand-requires : goal.expand-requires
expand-requires c =
    let a = c.requires.accepted in
    record { few_classes = accepted_few a.0 a.1 (typed c.args.accepted.now.program) a.2 }
