-- Lines of a bank, and lists of them.
use Rattle.std.proofs.Common.{◌≡◌, ℕ, ◌*◌, ◌≤◌, List, [], ◌∷◌, ◌++◌, length, take, drop, reverse, true, cond, refl, sym, ◌∙◌, ap, ltb, inl, inr, ◌⊎◌, ⊎_elim, append_assoc, arith}
use Rattle.std.specs.Prelude.{Vec}
use Rattle.std.specs.declared.alloc.Global.{Global}
use Rattle.std.proofs.lemmas.Bool.{and_from, lt-ltb}
use Rattle.std.proofs.lemmas.List.{append-nil, map-append, reverse-append, reverse-reverse, take_all, drop_all, take_at, drop_at}
use Rattle.ss_logic.specs.declared.RuleName.{RuleName}
use Rattle.ss_logic.specs.declared.GoodRule.{GoodRule}
use Rattle.ss_logic_means.specs.Steps as tree
use Rattle.ss_terms.specs.declared.forms.TermId.{TermId}
use Rattle.ss_terms.specs.declared.forms.FormulaId.{FormulaId}
use Rattle.ss_terms.specs.Forms.{Forms, terms_at, formula_at, HasTerms, HasFormula}
use Rattle.ss_deriv.specs.declared.line.Line.{Line}
use Rattle.ss_deriv.specs.declared.line.Line.TheVariants.{Cut, Inst, Choose, Rule, Good, Invariants}
use Rattle.ss_deriv.specs.Lines.{all_below, line_in, line_of, lines_of}

-- ---- lines that name terms and formulas of the bank

module _ (b : Forms) where
  below : (ts : List TermId) → HasTerms b ts → all_below (length b.terms) ts ≡ true
  below [] h = refl
  below (t ∷ ts) h = and_from (ltb t.0 (length b.terms)) (all_below (length b.terms) ts) (lt-ltb t.0 (length b.terms) h.0) (below ts h.1)

  pub cut_line : (f : FormulaId) → HasFormula b f → line_of b (Cut f) ≡ tree.Cut (formula_at b f)
  cut_line f h = ap (λ t. cond t (line_in b (Cut f)) tree.Nowhere) (lt-ltb f.0 (length b.formulas * 2) h)

  pub instance_line : (of : ℕ) (ts : Vec TermId Global) → HasTerms b ts.items → line_of b (Inst of ts) ≡ tree.Inst of (terms_at b ts.items)
  instance_line of ts h = ap (λ t. cond t (line_in b (Inst of ts)) tree.Nowhere) (below ts.items h)

  pub choice_line : (f : FormulaId) (ts : Vec TermId Global) → HasFormula b f → HasTerms b ts.items → line_of b (Choose f ts) ≡ tree.Choose (formula_at b f) (terms_at b ts.items)
  choice_line f ts g h = ap (λ t. cond t (line_in b (Choose f ts)) tree.Nowhere) (and_from (ltb f.0 (length b.formulas * 2)) (all_below (length b.terms) ts.items) (lt-ltb f.0 (length b.formulas * 2) g) (below ts.items h))

  pub rule_line : (name : RuleName) (ts : Vec TermId Global) → HasTerms b ts.items → line_of b (Rule name ts) ≡ tree.Rule name (terms_at b ts.items)
  rule_line name ts h = ap (λ t. cond t (line_in b (Rule name ts)) tree.Nowhere) (below ts.items h)

  pub good_line : (name : GoodRule) (i : ℕ) (ts : Vec TermId Global) → HasTerms b ts.items → line_of b (Good name i ts) ≡ tree.GoodLine name i (terms_at b ts.items)
  good_line name i ts h = ap (λ t. cond t (line_in b (Good name i ts)) tree.Nowhere) (below ts.items h)

  pub invariants_line : (i : ℕ) (ts : Vec TermId Global) → HasTerms b ts.items → line_of b (Invariants i ts) ≡ tree.InvariantsLine i (terms_at b ts.items)
  invariants_line i ts h = ap (λ t. cond t (line_in b (Invariants i ts)) tree.Nowhere) (below ts.items h)

  -- ---- lists of lines

  pub lines_append : (xs ys : List Line) → lines_of b (xs ++ ys) ≡ lines_of b xs ++ lines_of b ys
  lines_append xs ys = map-append (line_of b) xs ys

  pub lines_back : (xs : List Line) → lines_of b (reverse (reverse xs)) ≡ lines_of b xs
  lines_back xs = ap (lines_of b) (reverse-reverse xs)

  pub lines_turned : (xs ys : List Line) → lines_of b (reverse (xs ++ ys)) ≡ lines_of b (reverse ys) ++ lines_of b (reverse xs)
  lines_turned xs ys = ap (lines_of b) (reverse-append xs ys) ∙ lines_append (reverse ys) (reverse xs)

pub front_first : {A : Type 0} (front lines : List A) → reverse (reverse lines ++ reverse front) ≡ front ++ lines
front_first front lines = reverse-append (reverse lines) (reverse front) ∙ ap (λ xs. xs ++ reverse (reverse lines)) (reverse-reverse front) ∙ ap (λ xs. front ++ xs) (reverse-reverse lines)

-- ---- all but the first elements

module _ {A : Type 0} where
  -- the elements that aren't first any more, and were moved in turn
  pub record ArePoured (first onto : List A) (to : ℕ) (from now : List A) : Type 0 where
    pub rest : List A
    pub whole : first ≡ from ++ rest
    pub moved : now ≡ onto ++ reverse rest
    pub enough : (rest ≡ []) ⊎ (to ≤ length from)

  pub none_poured : (first onto : List A) (to : ℕ) → ArePoured first onto to first onto
  none_poured first onto to = record { rest = []; whole = sym (append-nil first); moved = sym (append-nil onto); enough = inl refl }

  pub one_poured : (first onto : List A) (to : ℕ) (from now from' now' : List A) (x : A) → ArePoured first onto to from now → from ≡ from' ++ x ∷ [] → now' ≡ now ++ x ∷ [] → to ≤ length from' → ArePoured first onto to from' now'
  one_poured first onto to from now from' now' x p e g h = record {
    rest = x ∷ p.rest;
    whole = p.whole ∙ ap (λ ys. ys ++ p.rest) e ∙ append_assoc from' (x ∷ []) p.rest;
    moved = g ∙ ap (λ ys. ys ++ x ∷ []) p.moved ∙ append_assoc onto (reverse p.rest) (x ∷ []) ∙ ap (λ ys. onto ++ ys) (sym (reverse-append (x ∷ []) p.rest));
    enough = inr h;
  }

  pub all_poured : (first onto : List A) (to : ℕ) (from now : List A) → ArePoured first onto to from now → length from ≤ to → (from ≡ take to first) × (now ≡ onto ++ reverse (drop to first))
  all_poured first onto to from now p h = ⊎_elim short long p.enough
    where
      short : p.rest ≡ [] → (from ≡ take to first) × (now ≡ onto ++ reverse (drop to first))
      short e =
          let same : first ≡ from = p.whole ∙ ap (λ ys. from ++ ys) e ∙ append-nil from in
          let few : length first ≤ to = omega (arith, ap length same, h) in
          (sym same ∙ sym (take_all to first few), p.moved ∙ ap (λ ys. onto ++ reverse ys) (e ∙ sym (drop_all to first few)))

      long : to ≤ length from → (from ≡ take to first) × (now ≡ onto ++ reverse (drop to first))
      long k =
          let many : length from ≡ to = omega (arith, h, k) in
          (sym (ap (take to) p.whole ∙ take_at from p.rest to many), p.moved ∙ ap (λ ys. onto ++ reverse ys) (sym (ap (drop to) p.whole ∙ drop_at from p.rest to many)))
