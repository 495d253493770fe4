use Rattle.ss_terms.proofs.Longer.{HasFormulas-push}
use Rattle.ss_vcgen_express.proofs.chains.any_with.Goals as goal

pub any-requires : goal.any-requires
any-requires c = rw (c.deref.ensures.value, c.in_ok-parts.ensures) (HasFormulas-push c.args.bank.now c.args.fs.now c.args.last c.requires.parts c.requires.last)
