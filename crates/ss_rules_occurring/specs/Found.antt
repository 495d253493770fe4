-- What lists without repetition stand for.
use Rattle.std.specs.Prelude.{◌≡◌, ℕ, ◌==◌, List, map}
use Rattle.std.specs.List.{list_any}
use Rattle.ss_bit_set.specs.declared.bit_set.BitSet.{BitSet}
use Rattle.ss_bit_set.specs.Marked.{marked}
use Rattle.ss_logic.specs.Terms.{Term}
use Rattle.ss_logic.specs.Formulas.{Formula}
use Rattle.ss_terms.specs.declared.forms.TermId.{TermId}
use Rattle.ss_terms.specs.declared.forms.FormulaId.{FormulaId}
use Rattle.ss_terms.specs.Forms.{Forms, terms_at, formulas_at, HasTerms, HasFormulas}
use Rattle.ss_rules_occurring.specs.declared.found.FormulaList.{FormulaList}
use Rattle.ss_rules_occurring.specs.declared.found.TermList.{TermList}

-- the set has the numbers of the list
abbrev pub AreMarked : BitSet → List ℕ → Type 0
AreMarked set ns = (k : ℕ) → marked set k ≡ list_any (λ n. k == n) ns

abbrev pub formula_number : FormulaId → ℕ
formula_number f = f.0

abbrev pub term_number : TermId → ℕ
term_number t = t.0

abbrev pub formulas_of : Forms → FormulaList → List Formula
formulas_of b found = formulas_at b found.list.items

abbrev pub terms_of : Forms → TermList → List Term
terms_of b found = terms_at b found.list.items

-- the list stands for these in the bank
pub record Holds (b : Forms) (found : FormulaList) (fs : List Formula) : Type 0 where
  pub marked : AreMarked found.numbers (map formula_number found.list.items)
  pub has : HasFormulas b found.list.items
  pub are : formulas_at b found.list.items ≡ fs

pub record HoldsTerms (b : Forms) (found : TermList) (ts : List Term) : Type 0 where
  pub marked : AreMarked found.numbers (map term_number found.list.items)
  pub has : HasTerms b found.list.items
  pub are : terms_at b found.list.items ≡ ts

abbrev pub HasFound : Forms → FormulaList → Type 0
HasFound b found = Holds b found (formulas_of b found)

abbrev pub HasFoundTerms : Forms → TermList → Type 0
HasFoundTerms b found = HoldsTerms b found (terms_of b found)
