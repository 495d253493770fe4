use Rattle.std.proofs.Common.{sym, subst}
use Rattle.ss_store.specs.Listed.{IsMoved}
use Rattle.ss_store.proofs.Filed.{regrouped_moved}
use Rattle.ss_store.proofs.owners.regroup.Goals as goal

pub refile-requires : goal.refile-requires
refile-requires c = subst (λ s. IsMoved s c.args.lists.now c.args.g) (sym c.undergo.ensures) (regrouped_moved c.args.g c.args.owner c.args.objects.now c.args.lists.now c.requires.listed)
