use Rattle.std.proofs.Common.{ap, sym, ◌∙◌}
use Rattle.std.proofs.lemmas.Result.{IfOk-equal}
use Rattle.ss_bit_set.specs.Marked.{marked}
use Rattle.ss_store_rules.specs.NonNull.{both}
use Rattle.ss_vcgen_types.specs.Told.{facts_of}
use Rattle.ss_vcgen_known.specs.Views.{known_of}
use Rattle.ss_vcgen_known.proofs.Listing.{put_one}
use Rattle.ss_vcgen_known.proofs.known.Known.add_fact.Goals as goal

pub returns-in-NotNull : goal.returns-in-NotNull
returns-in-NotNull c =
    let f = marked c.args.set.now in
    IfOk-equal c.put.result _ _ _ c.put.ensures
    (put_one c.in-NotNull.x f ∙ ap (λ t. both f (facts_of (known_of c.args.self.now) t)) (sym c.in-NotNull.is))
