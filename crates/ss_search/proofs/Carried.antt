-- What holds of what an answer carries, by what is known of it.
use Rattle.std.proofs.Common.{◌≡◌, ℕ, List, Option, Some, None, subst}
use Rattle.ss_core.specs.Tree.{ClassTree}
use Rattle.ss_logic.specs.Formulas.{Formula}
use Rattle.ss_logic_countermodels.specs.declared.Countermodel.{Countermodel}
use Rattle.ss_logic_countermodels.specs.Refuting.{Refutes, model_of}
use Rattle.ss_search_procedure_rules.specs.Closed.{AreEnough}
use Rattle.ss_search_answers.specs.declared.answers.Options.{Options}
use Rattle.ss_search_answers.specs.declared.answers.Found.{Found}
use Rattle.ss_search_answers.specs.declared.answers.Found.TheVariants as found
use Rattle.ss_search_answers.specs.Found.{IfCountered, IfSpent, IfTooMany, IsRefutedBy, IsShort, IsOver, HasNoModelWithin, IsProvedOrMemory}

pub countered_with : (r : Found) (P Q : Countermodel → Type 0) → ((m : Countermodel) → P m → Q m) → IfCountered r P → IfCountered r Q
countered_with (found.Proved d) P Q f h = tt
countered_with (found.Countered m) P Q f h = f m h
countered_with (found.Spent splits) P Q f h = tt
countered_with (found.TooMany limit) P Q f h = tt
countered_with found.Memory P Q f h = tt

pub spent_with : (r : Found) (P Q : ℕ → Type 0) → ((splits : ℕ) → P splits → Q splits) → IfSpent r P → IfSpent r Q
spent_with (found.Proved d) P Q f h = tt
spent_with (found.Countered m) P Q f h = tt
spent_with (found.Spent splits) P Q f h = f splits h
spent_with (found.TooMany limit) P Q f h = tt
spent_with found.Memory P Q f h = tt

-- ---- completeness

same_list : (o : Option (List Formula)) (fs gs : List Formula) → o ≡ Some fs → o ≡ Some gs → fs ≡ gs
same_list o fs gs a b = cc

not_both : (o : Option (List Formula)) (fs : List Formula) → o ≡ None → o ≡ Some fs → ⊥
not_both o fs a b = cc

-- Each answer but want of memory has its cause. So where no model refutes the ground form, and the budgets are enough, there is a derivation.
pub proved_or_memory : (r : Found) (cs : List ClassTree) (p : Options) (premises : List Formula) (goal : Formula) →
    IfCountered r (IsRefutedBy cs p premises goal) → IfSpent r (IsShort cs p premises goal) → IfTooMany r (IsOver cs p premises goal) → HasNoModelWithin cs p premises goal → IsProvedOrMemory r
proved_or_memory (found.Proved d) cs p premises goal countered spent over h = tt
proved_or_memory (found.Countered m) cs p premises goal countered spent over h =
    let model = model_of countered.formulas m.classes.items m.truth.items in
    h.none model (subst (Refutes cs model) (same_list _ countered.formulas h.formulas countered.ground h.ground) countered.refutes.refutes)
proved_or_memory (found.Spent splits) cs p premises goal countered spent over h =
    spent.short (subst (λ fs. AreEnough cs fs p.splits) (same_list _ h.formulas spent.formulas h.ground spent.ground) h.enough)
proved_or_memory (found.TooMany limit) cs p premises goal countered spent over h = not_both _ h.formulas over.1 h.ground
proved_or_memory found.Memory cs p premises goal countered spent over h = tt
