-- The lines that are written, over formulas.
use Rattle.std.proofs.Common.{◌≡◌, ℕ, ◌*◌, List, [], ◌∷◌, ◌++◌, length, cond, ◌∙◌, ap, ltb}
use Rattle.std.specs.Prelude.{Vec}
use Rattle.std.specs.declared.alloc.Global.{Global}
use Rattle.std.proofs.lemmas.Bool.{and_from, lt-ltb}
use Rattle.std.proofs.lemmas.List.{map_push}
use Rattle.ss_logic_means.specs.Steps as tree
use Rattle.ss_terms.specs.declared.forms.TermId.{TermId}
use Rattle.ss_terms.specs.declared.forms.FormulaId.{FormulaId}
use Rattle.ss_terms.specs.Forms.{Forms, term_at, formula_at, HasTerm, HasFormula}
use Rattle.ss_deriv.specs.declared.line.Line.{Line}
use Rattle.ss_deriv.specs.declared.line.Line.TheVariants.{Chain, Cong, Swap}
use Rattle.ss_deriv.specs.Lines.{line_in, line_of, lines_of}

module _ (b : Forms) where
  pub chain_line : (x y : TermId) (path : Vec ℕ Global) (is : List ℕ) → HasTerm b x → HasTerm b y → path.items ≡ is → line_of b (Chain x y path) ≡ tree.Chain (term_at b x) (term_at b y) is
  chain_line x y path is h g e =
      ap (λ t. cond t (line_in b (Chain x y path)) tree.Nowhere) (and_from (ltb x.0 (length b.terms)) (ltb y.0 (length b.terms)) (lt-ltb x.0 (length b.terms) h) (lt-ltb y.0 (length b.terms) g))
      ∙ ap (tree.Chain (term_at b x) (term_at b y)) e

  pub cong_line : (x y : TermId) (js : Vec ℕ Global) (is : List ℕ) → HasTerm b x → HasTerm b y → js.items ≡ is → line_of b (Cong x y js) ≡ tree.Cong (term_at b x) (term_at b y) is
  cong_line x y js is h g e =
      ap (λ t. cond t (line_in b (Cong x y js)) tree.Nowhere) (and_from (ltb x.0 (length b.terms)) (ltb y.0 (length b.terms)) (lt-ltb x.0 (length b.terms) h) (lt-ltb y.0 (length b.terms) g))
      ∙ ap (tree.Cong (term_at b x) (term_at b y)) e

  pub swap_line : (i : ℕ) (f : FormulaId) (js : Vec ℕ Global) → HasFormula b f → line_of b (Swap i f js) ≡ tree.Swap i (formula_at b f) js.items
  swap_line i f js h = ap (λ t. cond t (line_in b (Swap i f js)) tree.Nowhere) (lt-ltb f.0 (length b.formulas * 2) h)

  pub line_pushed : (old new : List Line) (line : Line) (said : tree.Line) → new ≡ old ++ line ∷ [] → line_of b line ≡ said → lines_of b new ≡ lines_of b old ++ said ∷ []
  line_pushed old new line said e h = ap (lines_of b) e ∙ map_push (line_of b) old line ∙ ap (λ l. lines_of b old ++ l ∷ []) h
