use Rattle.ss_vcgen_heaps.specs.Obligations.{obligations}
use Rattle.ss_sound_runs.proofs.Runs.{never_fails}
use Rattle.ss_vcgen_safe.proofs.Safe.{all_run}
use Rattle.ss_vcgen_safe.proofs.Derived.{all_valid}
use Rattle.ss_vcgen_safe.proofs.laws.derived_obligations_never_fail.Goals as goal

pub returns : goal.returns
returns c = λ program formed ds derived input is allowed n. never_fails program formed (all_run program formed (all_valid program.classes formed.chain formed.beside (record { typed = formed.invariants; admissible = formed.admissible }) (obligations program) ds derived)) input is allowed n
