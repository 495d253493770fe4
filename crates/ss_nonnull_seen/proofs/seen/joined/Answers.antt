use Rattle.std.proofs.Common.{◌≡◌, ◌∙◌, drop}
use Rattle.std.proofs.lemmas.List.{drop_more}
use Rattle.std.proofs.Math.ListN.{drop_of_length-le}
use Rattle.ss_paths.specs.Sets.{either, among}
use Rattle.ss_nonnull_seen.proofs.Listing.{one_moved, all_moved}
use Rattle.ss_nonnull_seen.proofs.seen.joined.Goals as goal

pub loop-local-preserved : goal.loop-local-preserved
loop-local-preserved c =
    one_moved _ _ _ _ _ c.in_ok-list_once.ensures (drop_more c.args.other.now c.loop-local.local-index 0 c.loop-local-test.true) ∙ c.loop-local.invariant

pub returns : goal.returns
returns c = all_moved _ _ _ (drop_of_length-le c.args.other.now c.loop-local-test.false) c.loop-local.invariant
