use Rattle.std.proofs.Common.{ap, sym, ◌∙◌}
use Rattle.std.specs.Prelude.{option_map}
use Rattle.ss_typed.specs.View.{expr}
use Rattle.ss_nonnull_seen.specs.Codes.{path_of, context_of}
use Rattle.ss_nonnull_seen.specs.Paths.{starts_never}
use Rattle.ss_nonnull_seen.specs.Seen.{Seen}
use Rattle.ss_nonnull.proofs.simple.check_start.Goals as goal

pub returns-in_ok-head-in-Some-clause-never : goal.returns-in_ok-head-in-Some-clause-never
returns-in_ok-head-in-Some-clause-never c =
    ap (λ (v : Seen). v.never_null) c.in_ok-head-in-Some.ensures.seen
    ∙ sym (ap (λ o. starts_never (context_of c.args.context.now) (path_of c.args.known.now) (option_map expr o)) c.in-Some.is)
