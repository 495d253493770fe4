use Rattle.std.proofs.Common.{sym, ap}
use Rattle.std.proofs.lemmas.Result.{IfOk-equal}
use Rattle.ss_store_rules.specs.NonNull.{with_kept}
use Rattle.ss_vcgen_known.specs.Views.{known_of}
use Rattle.ss_vcgen_known.proofs.known.Known.keep.Goals as goal

pub returns-in-Some : goal.returns-in-Some
returns-in-Some c =
    IfOk-equal c.set_silent.result _ _ _ c.set_silent.ensures
    (ap (λ o. with_kept o c.args.non_null (known_of c.args.self.now)) (sym c.in-Some.is))
