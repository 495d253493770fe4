use Rattle.std.proofs.Common.{ℕ, Bool, ap, ◌∙◌}
use Rattle.std.specs.Prelude.{◌||◌}
use Rattle.ss_vcgen_known.specs.Steps.{with_fields}
use Rattle.ss_vcgen_known.specs.Views.{known_of}
use Rattle.ss_vcgen_known.proofs.known.Known.give_above.Goals as goal

pub returns : goal.returns
returns c =
    let k = known_of c.args.self.now in
    ap (λ (fs : ℕ → Bool). with_fields fs k) (c.in_ok-all.ensures ∙ ap {B = ℕ → Bool} (λ (above : ℕ → Bool) f. k.fields f || above f) c.in_ok-above.ensures)
