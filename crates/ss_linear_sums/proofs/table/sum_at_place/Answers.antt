use Rattle.std.proofs.Common.{sym}
use Rattle.std.proofs.lemmas.Bool.{ltb-true}
use Rattle.ss_linear_sums.proofs.Summing.{kept_at}
use Rattle.ss_linear_sums.proofs.table.sum_at_place.Goals as goal

pub copied_where-requires : goal.copied_where-requires
copied_where-requires c = kept_at c.args.bank.now c.args.kept.now c.args.place c.in-Some.found.now c.requires (ltb-true _ _ (sym c.in-Some.ensures.lookup.0)) c.in-Some.ensures.lookup.1
