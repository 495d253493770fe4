use Rattle.std.proofs.Common.{sym, subst}
use Rattle.ss_core.specs.View.{classes}
use Rattle.ss_store.specs.Listed.{AreListed}
use Rattle.ss_store.proofs.Filed.{unpacked_listed}
use Rattle.ss_store.proofs.levels.unpack.Goals as goal

pub returns-clause-listed : goal.returns-clause-listed
returns-clause-listed c = subst (λ s. AreListed s c.args.lists.now) (sym c.unpack_all.ensures) (unpacked_listed (classes c.args.k.now) c.in-Obj.o c.args.t.0 c.args.objects.now c.args.lists.now c.requires.listed)
