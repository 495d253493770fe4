use Rattle.std.proofs.Common.{◌≡◌, ◌∙◌, drop}
use Rattle.std.proofs.lemmas.List.{drop_more}
use Rattle.std.proofs.Math.ListN.{drop_of_length-le}
use Rattle.ss_nonnull_seen.proofs.Listing.{first_is, first_is_not, none_is}
use Rattle.ss_nonnull_seen.proofs.seen.is_listed.Goals as goal

pub returns-then-other-local : goal.returns-then-other-local
returns-then-other-local c =
    first_is c.args.local _ _ _ (drop_more c.args.list.now c.loop-other.other-index 0 c.loop-other-test.true) c.if-other-local.true ∙ c.loop-other.invariant

pub loop-other-preserved : goal.loop-other-preserved
loop-other-preserved c =
    first_is_not c.args.local _ _ _ (drop_more c.args.list.now c.loop-other.other-index 0 c.loop-other-test.true) c.if-other-local.false ∙ c.loop-other.invariant

pub returns : goal.returns
returns c = none_is c.args.local _ (drop_of_length-le c.args.list.now c.loop-other-test.false) ∙ c.loop-other.invariant
