use Rattle.std.proofs.Common.{◌≡◌, drop}
use Rattle.ss_vcgen_types.specs.Told.{all_tell}
use Rattle.ss_vcgen_known.proofs.tests.all_tell.Given as goal

abbrev pub invariant-loop-told : goal.invariant-loop-told
invariant-loop-told l = all_tell (drop l.told-index l.list) l.local l.outcome ≡ all_tell l.list l.local l.outcome
