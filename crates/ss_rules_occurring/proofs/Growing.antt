-- Lists without repetition, as the bank grows.
use Rattle.std.proofs.Common.{◌≡◌, refl, ◌∙◌, List}
use Rattle.ss_logic.specs.Formulas.{Formula}
use Rattle.ss_terms.specs.Forms.{Forms, IsGrown}
use Rattle.ss_terms.proofs.Grown.{HasFormulas-grown, formulas_at-grown}
use Rattle.ss_rules_occurring.specs.declared.found.FormulaList.{FormulaList}
use Rattle.ss_rules_occurring.specs.Found.{formulas_of, Holds, HasFound}

pub Holds-grown : (a b : Forms) (s : FormulaList) (fs : List Formula) → IsGrown a b → Holds a s fs → Holds b s fs
Holds-grown a b s fs g h = record { marked = h.marked; has = HasFormulas-grown a b g s.list.items h.has; are = formulas_at-grown a b g s.list.items h.has ∙ h.are }

pub HasFound-grown : (a b : Forms) (s : FormulaList) → IsGrown a b → HasFound a s → HasFound b s
HasFound-grown a b s g h = record { marked = h.marked; has = HasFormulas-grown a b g s.list.items h.has; are = refl }

pub formulas_of-grown : (a b : Forms) (s : FormulaList) → IsGrown a b → HasFound a s → formulas_of b s ≡ formulas_of a s
formulas_of-grown a b s g h = formulas_at-grown a b g s.list.items h.has

-- the list holds what is said in other words
pub Holds-same : (b : Forms) (s : FormulaList) (fs gs : List Formula) → fs ≡ gs → Holds b s fs → Holds b s gs
Holds-same b s fs gs e h = record { marked = h.marked; has = h.has; are = h.are ∙ e }
