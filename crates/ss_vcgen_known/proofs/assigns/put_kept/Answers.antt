use Rattle.std.proofs.Common.{◌∙◌, sym, ap}
use Rattle.std.proofs.lemmas.Result.{IfOk-equal}
use Rattle.ss_bit_set.specs.Marked.{marked}
use Rattle.ss_store_rules.specs.Locals.{is_kept_in}
use Rattle.ss_store_rules.specs.NonNull.{both}
use Rattle.ss_vcgen_known.proofs.Listing.{put_one}
use Rattle.ss_vcgen_known.proofs.assigns.put_kept.Goals as goal

pub returns-in-Some : goal.returns-in-Some
returns-in-Some c =
    IfOk-equal c.put.result _ _ _ c.put.ensures
    (put_one c.in-Some.local (marked c.args.set.now) ∙ ap (λ l. both (marked c.args.set.now) (is_kept_in l)) (sym c.in-Some.is))
