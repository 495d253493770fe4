use Rattle.std.proofs.Common.{drop}
use Rattle.ss_store.specs.Listed.{AreFiledBut}
use Rattle.ss_store.proofs.listed.file_all.Given as goal

abbrev pub invariant-loop-q : goal.invariant-loop-q
invariant-loop-q l = AreFiledBut l.objects l.lists (drop l.q-index l.positions)
