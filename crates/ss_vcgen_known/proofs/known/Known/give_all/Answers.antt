use Rattle.std.proofs.Common.{ℕ, Bool, ap}
use Rattle.ss_vcgen_known.specs.Steps.{with_fields}
use Rattle.ss_vcgen_known.specs.Views.{known_of}
use Rattle.ss_vcgen_known.proofs.known.Known.give_all.Goals as goal

pub returns : goal.returns
returns c = ap (λ (fs : ℕ → Bool). with_fields fs (known_of c.args.self.now)) c.new.ensures
