use Rattle.std.proofs.Common.{ℕ, Bool, ap, ◌∙◌}
use Rattle.ss_vcgen_known.specs.Steps.{with_fields}
use Rattle.ss_vcgen_known.specs.Views.{known_of}
use Rattle.ss_vcgen_known.proofs.Giving.{put_field}
use Rattle.ss_vcgen_known.proofs.known.Known.give.Goals as goal

pub returns : goal.returns
returns c =
    let k = known_of c.args.self.now in
    ap (λ (fs : ℕ → Bool). with_fields fs k) (c.in_ok-put.ensures ∙ put_field k.fields c.args.field)
