use Rattle.std.proofs.Common.{◌≡◌, drop}
use Rattle.ss_bit_set.specs.Marked.{marked}
use Rattle.ss_store_rules.specs.NonNull.{both}
use Rattle.ss_vcgen_types.specs.Told.{all_facts}
use Rattle.ss_vcgen_known.specs.Views.{known_of}
use Rattle.ss_vcgen_known.proofs.known.Known.facts_told.Given as goal

abbrev pub invariant-loop-told : goal.invariant-loop-told
invariant-loop-told l = both (marked l.set) (all_facts (known_of l.self) (drop l.told-index l.list)) ≡ all_facts (known_of l.self) l.list
