-- What is looked for in formulas and in their parts.
use Rattle.std.proofs.Common.{◌≡◌, ℕ, ◌+◌, ◌<◌, List, [], ◌∷◌, ◌++◌, length, take, get_or, Bool, refl, sym, ◌∙◌, ap, subst, Result, Ok, Err, Vec, Global}
use Rattle.std.specs.Prelude.{OnOk, flat_map}
use Rattle.std.proofs.lemmas.List.{map_push, take_more, flat_map_more}
use Rattle.ss_logic.specs.declared.Sort.{Sort}
use Rattle.ss_logic.specs.Terms.{Terms}
use Rattle.ss_logic.specs.Formulas.{Predicate, Formula, Literal, formulas_from}
use Rattle.ss_logic.specs.Occurring.{with_formula, with_formulas, atoms_in, all_atoms_in, quantified_in, all_quantified_in, literals_in, all_literals_in}
use Rattle.ss_terms.specs.Lists.{SmallVec}
use Rattle.ss_terms.specs.declared.forms.FormulaId.{FormulaId}
use Rattle.ss_terms.specs.declared.forms.TermId.{TermId}
use Rattle.ss_terms.specs.declared.forms.Predicate as form
use Rattle.ss_terms.specs.declared.forms.Formula.TheVariants.{Literal as LiteralForm, And as AndForm, Or as OrForm, Forall as ForallForm, Exists as ExistsForm}
use Rattle.ss_terms.specs.Forms.{Forms, formula_at, formulas_at, IsFormulaForm}
use Rattle.ss_rules_occurring.specs.declared.found.FormulaList.{FormulaList}
use Rattle.ss_rules_occurring.specs.declared.seeking.Sought.{Sought}
use Rattle.ss_rules_occurring.specs.declared.seeking.Sought.TheVariants as sought
use Rattle.ss_rules_occurring.specs.Found.{formulas_of, Holds, HasFound}
use Rattle.ss_rules_occurring.specs.Sought.{found_in, with_literal, found_in_quantified}

pub holds_itself : (b : Forms) (s : FormulaList) (fs : List Formula) → Holds b s fs → HasFound b s
holds_itself b s fs h = record { marked = h.marked; has = h.has; are = refl }

pub ok_holds : {A E : Type 0} (r : Result A E) (b : Forms) (s : FormulaList) (fs gs : List Formula) → fs ≡ gs → OnOk r (Holds b s fs) → OnOk r (Holds b s gs)
ok_holds (Ok x) b s fs gs e h = subst (Holds b s) e h
ok_holds (Err z) b s fs gs e h = tt

pub with_formulas-append : (found xs ys : List Formula) → with_formulas found (xs ++ ys) ≡ with_formulas (with_formulas found xs) ys
with_formulas-append found [] ys = refl
with_formulas-append found (x ∷ xs) ys = with_formulas-append (with_formula found x) xs ys

-- ---- parts

all_atoms-map : (fs : List Formula) → all_atoms_in (formulas_from fs) ≡ flat_map atoms_in fs
all_atoms-map [] = refl
all_atoms-map (f ∷ fs) = ap (λ gs. atoms_in f ++ gs) (all_atoms-map fs)

all_quantified-map : (fs : List Formula) → all_quantified_in (formulas_from fs) ≡ flat_map quantified_in fs
all_quantified-map [] = refl
all_quantified-map (f ∷ fs) = ap (λ gs. quantified_in f ++ gs) (all_quantified-map fs)

all_literals-map : (fs : List Formula) → all_literals_in (formulas_from fs) ≡ flat_map literals_in fs
all_literals-map [] = refl
all_literals-map (f ∷ fs) = ap (λ gs. literals_in f ++ gs) (all_literals-map fs)

module _ (b : Forms) (f : FormulaId) where
  pub found_in_and : (w : Sought) (v : SmallVec FormulaId) → IsFormulaForm b f (AndForm v) → flat_map (found_in w) (formulas_at b v.items) ≡ found_in w (formula_at b f)
  found_in_and sought.Atoms v n = sym (all_atoms-map (formulas_at b v.items)) ∙ sym (ap atoms_in n.built)
  found_in_and sought.Quantified v n = sym (all_quantified-map (formulas_at b v.items)) ∙ sym (ap quantified_in n.built)
  found_in_and sought.Everywhere v n = sym (all_literals-map (formulas_at b v.items)) ∙ sym (ap literals_in n.built)

  pub found_in_or : (w : Sought) (v : SmallVec FormulaId) → IsFormulaForm b f (OrForm v) → flat_map (found_in w) (formulas_at b v.items) ≡ found_in w (formula_at b f)
  found_in_or sought.Atoms v n = sym (all_atoms-map (formulas_at b v.items)) ∙ sym (ap atoms_in n.built)
  found_in_or sought.Quantified v n = sym (all_quantified-map (formulas_at b v.items)) ∙ sym (ap quantified_in n.built)
  found_in_or sought.Everywhere v n = sym (all_literals-map (formulas_at b v.items)) ∙ sym (ap literals_in n.built)

  pub found_in_forall : (w : Sought) (ss : Vec Sort Global) (g : FormulaId) → IsFormulaForm b f (ForallForm ss g) → found_in_quantified w (formula_at b f) (formula_at b g) ≡ found_in w (formula_at b f)
  found_in_forall sought.Atoms ss g n = sym (ap atoms_in n.built)
  found_in_forall sought.Quantified ss g n = ap (λ x. x ∷ []) n.built ∙ sym (ap quantified_in n.built)
  found_in_forall sought.Everywhere ss g n = sym (ap literals_in n.built)

  pub found_in_exists : (w : Sought) (ss : Vec Sort Global) (g : FormulaId) → IsFormulaForm b f (ExistsForm ss g) → found_in_quantified w (formula_at b f) (formula_at b g) ≡ found_in w (formula_at b f)
  found_in_exists sought.Atoms ss g n = sym (ap atoms_in n.built)
  found_in_exists sought.Quantified ss g n = ap (λ x. x ∷ []) n.built ∙ sym (ap quantified_in n.built)
  found_in_exists sought.Everywhere ss g n = sym (ap literals_in n.built)

  literal_found : (w : Sought) (found : List Formula) (x : Formula) (h : Bool) (p : Predicate) (ts : Terms) → x ≡ Literal h p ts → with_literal w found x ≡ with_formulas found (found_in w x)
  literal_found sought.Atoms found x h p ts e = rw e refl
  literal_found sought.Quantified found x h p ts e = rw e refl
  literal_found sought.Everywhere found x h p ts e = rw e refl

  pub found_in_literal : (w : Sought) (found : List Formula) (h : Bool) (p : form.Predicate) (v : SmallVec TermId) → IsFormulaForm b f (LiteralForm h p v) → with_literal w found (formula_at b f) ≡ with_formulas found (found_in w (formula_at b f))
  found_in_literal w found h p v n = literal_found w found (formula_at b f) _ _ _ n.built

-- ---- one more of a list

pub found_next : (b : Forms) (w : Sought) (start : List Formula) (s after : FormulaList) (fs : List FormulaId) (i : ℕ) (d : FormulaId) → i < length fs →
    Holds b s (with_formulas start (flat_map (found_in w) (formulas_at b (take i fs)))) → Holds b after (with_formulas (formulas_of b s) (found_in w (formula_at b (get_or fs i d)))) →
    Holds b after (with_formulas start (flat_map (found_in w) (formulas_at b (take (i + 1) fs))))
found_next b w start s after fs i d at h next =
    subst (Holds b after)
    (ap (λ gs. with_formulas gs (found_in w (formula_at b (get_or fs i d)))) h.are
    ∙ sym (with_formulas-append start (flat_map (found_in w) (formulas_at b (take i fs))) (found_in w (formula_at b (get_or fs i d))))
    ∙ ap (with_formulas start) (flat_map_more (found_in w) [] (formulas_at b (take i fs)) (formula_at b (get_or fs i d)))
    ∙ ap (λ gs. with_formulas start (flat_map (found_in w) gs)) (sym (map_push (formula_at b) (take i fs) (get_or fs i d)))
    ∙ ap (λ gs. with_formulas start (flat_map (found_in w) (formulas_at b gs))) (sym (take_more fs i d at)))
    next
