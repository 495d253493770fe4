use Rattle.std.proofs.Common.{◌≡◌, drop}
use Rattle.ss_vcgen_types.specs.Told.{all_facts}
use Rattle.ss_vcgen_known.specs.Views.{known_of, tested}
use Rattle.ss_vcgen_known.proofs.tests.any_fact.Given as goal

abbrev pub invariant-loop-told : goal.invariant-loop-told
invariant-loop-told l = all_facts (tested l.tests (known_of l.known)) (drop l.told-index l.list) l.local ≡ all_facts (tested l.tests (known_of l.known)) l.list l.local
