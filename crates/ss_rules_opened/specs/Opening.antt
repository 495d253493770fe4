-- What the list and the terms are after an `exists` was opened.
use Rattle.std.specs.Prelude.{◌≡◌, List, ◌++◌, map}
use Rattle.ss_logic.specs.declared.Sort.{Sort}
use Rattle.ss_logic.specs.Terms.{Term}
use Rattle.ss_logic.specs.Formulas.{Formula, Exists, put}
use Rattle.ss_logic.specs.Opened.{fresh_constants, replaced, opened_from}
use Rattle.ss_terms.specs.declared.forms.TermId.{TermId}
use Rattle.ss_terms.specs.declared.forms.FormulaId.{FormulaId}
use Rattle.ss_terms.specs.Forms.{Forms, term_at, terms_at, formula_at, formulas_at, HasTerms, HasFormulas, HasFormula}
use Rattle.ss_rules_opened.specs.declared.opening.Opening.{Opening}
use Rattle.ss_rules_opened.specs.declared.opening.Opened.{Opened}

abbrev pub used_after : Formula → List Term → List Term
used_after (Exists ss f) used = fresh_constants ss used ++ used
used_after g used = used

abbrev pub list_after : Formula → List Term → List Formula → List Formula
list_after (Exists ss f) used fs = map (replaced (Exists ss f) (put (fresh_constants ss used) f)) fs
list_after g used fs = fs

-- fresh constants, and the body at them
pub record IsOpened (b : Forms) (r : Opened) (ts : List Term) (f : Formula) : Type 0 where
  pub has_constants : HasTerms b r.constants.items
  pub constants : terms_at b r.constants.items ≡ ts
  pub has_body : HasFormula b r.body
  pub body : formula_at b r.body ≡ f

-- the bank has the terms and the list, and they stand for these
pub record IsOpening (b : Forms) (r : Opening) (ts : List Term) (fs : List Formula) : Type 0 where
  pub has_used : HasTerms b r.used.items
  pub used : terms_at b r.used.items ≡ ts
  pub has_list : HasFormulas b r.list.items
  pub list : formulas_at b r.list.items ≡ fs

abbrev pub HasOpening : Forms → Opening → Type 0
HasOpening b r = IsOpening b r (terms_at b r.used.items) (formulas_at b r.list.items)
