use Rattle.ss_terms.proofs.Longer.{HasFormulas-push}
use Rattle.ss_vcgen_express.proofs.chains.all_with.Goals as goal

pub all-requires : goal.all-requires
all-requires c = rw (c.deref.ensures.value, c.in_ok-parts.ensures) (HasFormulas-push c.args.bank.now c.args.fs.now c.args.last c.requires.parts c.requires.last)
