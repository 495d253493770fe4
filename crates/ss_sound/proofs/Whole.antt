-- Programs all of whose obligations are derived.
use Rattle.std.proofs.Common.{◌≡◌, List, [], subst}
use Rattle.ss_core.specs.Tree.{CoreTree}
use Rattle.ss_store_rules.specs.Formed.{IsFormed}
use Rattle.ss_logic_means.specs.Steps.{Line}
use Rattle.ss_machine_good.proofs.Runs.{run_good}
use Rattle.ss_sound_runs.proofs.Runs.{never_fails}
use Rattle.ss_vcgen_heaps.specs.Positions.{Obligation}
use Rattle.ss_vcgen_heaps.specs.Obligations.{obligations}
use Rattle.ss_vcgen_safe.proofs.Safe.{all_run}
use Rattle.ss_vcgen_safe.proofs.Derived.{all_valid}
use Rattle.ss_vcgen_safe.specs.Derived.{AreDerived}
use Rattle.ss_deriv.specs.declared.line.Line as code
use Rattle.ss_sound.specs.Safe.{IsSafe}
use Rattle.ss_sound.specs.Verdicts.{IfVerified}
use Rattle.ss_search_answers.specs.declared.answers.Verdict.{Verdict}
use Rattle.ss_search_answers.specs.declared.answers.Verdict.TheVariants as verdict

is_safe : (c : CoreTree) → IsFormed c → (os : List Obligation) (ds : List (List Line)) → os ≡ obligations c → AreDerived c.classes os ds → IsSafe c
is_safe c formed os ds e h =
    let derived : AreDerived c.classes (obligations c) ds = subst (λ os. AreDerived c.classes os ds) e h in record {
      unfailed = λ input given allowed n.
          never_fails c formed (all_run c formed (all_valid c.classes formed.chain formed.beside (record { typed = formed.invariants; admissible = formed.admissible }) (obligations c) ds derived)) input given allowed n;
      good = λ input given n. run_good c formed input given n;
    }

-- the verdict that a program is verified, where nothing is listed, and then each obligation is derived
pub verified_safe : {A B : Type 0} (v : Verdict) (c : CoreTree) (xs : List A) (ys : List B) (ds : List (List code.Line)) → IsFormed c → (os : List Obligation) (lines : List (List Line)) → os ≡ obligations c
    → (xs ≡ [] → ys ≡ [] → AreDerived c.classes os lines) → IfVerified v (λ es. (es ≡ ds) × (xs ≡ []) × (ys ≡ [])) → IfVerified v (λ es. IsSafe c)
verified_safe (verdict.Verified es) c xs ys ds formed os lines e h found = is_safe c formed os lines e (h found.1 found.2)
verified_safe (verdict.Unproved ms us) c xs ys ds formed os lines e h found = tt
verified_safe (verdict.Undecided us) c xs ys ds formed os lines e h found = tt
verified_safe verdict.Memory c xs ys ds formed os lines e h found = tt
