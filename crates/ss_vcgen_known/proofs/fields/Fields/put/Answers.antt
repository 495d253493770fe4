use Rattle.std.proofs.Common.{ℕ, Bool, true, ap, ◌∙◌}
use Rattle.std.specs.Prelude.{◌==◌, if◌then◌else◌}
use Rattle.ss_vcgen_known.proofs.Listing.{at_set}
use Rattle.ss_vcgen_known.proofs.fields.Fields.put.Goals as goal

pub returns : goal.returns
returns c =
    let r = c.reach.new.self in
    at_set r.list.items r.beyond c.args.field true c.in_ok-reach.ensures.long
    ∙ ap {B = ℕ → Bool} (λ (fs : ℕ → Bool) g. if c.args.field == g then true else fs g) c.in_ok-reach.ensures.same
