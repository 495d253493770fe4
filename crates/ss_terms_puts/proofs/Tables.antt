-- Tables made upwards, number by number.
use Rattle.std.proofs.Common.{◌≡◌, ℕ, ◌*◌, ◌<◌, ◌≤◌, List, [], ◌∷◌, ◌++◌, length, Bool, false, ◌&&◌, not, refl, sym, ◌∙◌, ap, subst, ⊎_elim, arith, None, Vec, Global}
use Rattle.std.specs.List.{list_all}
use Rattle.std.proofs.lemmas.List.{length_push, get_or_push, get_or_append_left}
use Rattle.std.proofs.lemmas.Bool.{cases_eq}
use Rattle.ss_logic.specs.declared.Sort.{Sort}
use Rattle.ss_logic.specs.Terms.{Constant, App, terms_from}
use Rattle.ss_logic.specs.Formulas.{formulas_from, is_constant, term_avoids, terms_avoid, avoids, all_avoid}
use Rattle.ss_terms.specs.Lists.{SmallVec}
use Rattle.ss_terms.specs.declared.forms.TermId.{TermId}
use Rattle.ss_terms.specs.declared.forms.FormulaId.{FormulaId}
use Rattle.ss_terms.specs.declared.forms.Symbol.{Symbol}
use Rattle.ss_terms.specs.declared.forms.Predicate.{Predicate}
use Rattle.ss_terms.specs.declared.forms.Term.TheVariants.{App as AppForm}
use Rattle.ss_terms.specs.declared.forms.Formula.TheVariants.{Literal as LiteralForm, And as AndForm, Or as OrForm, Forall as ForallForm, Exists as ExistsForm}
use Rattle.ss_terms.specs.Forms.{Forms, symbol_of, term_at, terms_at, formula_at, formulas_at, IsTermForm, IsFormulaForm, AreTermsBelow, AreBelow, HasTerms, HasFormulas}
use Rattle.ss_terms.proofs.Trees.{AreTermsBelow-more, AreBelow-more}
use Rattle.ss_terms.proofs.Same.{term_id, formula_id}
use Rattle.ss_terms_puts.specs.Entries.{term_entry, formula_entry, AreTermEntries, AreFormulaEntries, constant_of}

module _ (b : Forms) (s : Sort) (k : ℕ) where
  -- ---- the terms that an argument list names

  pub terms_avoid-entries : (es : List Bool) → AreTermEntries b s k es → (ts : List TermId) → AreTermsBelow (length es) ts → list_all (term_entry es) ts ≡ terms_avoid s k (terms_from (terms_at b ts))
  terms_avoid-entries es h [] p = refl
  terms_avoid-entries es h (t ∷ ts) p = let e = h t p.0 in let r = terms_avoid-entries es h ts p.1 in cc

  pub terms-entries : (es : List Bool) → AreTermEntries b s k es → (ts : List TermId) → AreTermsBelow (length es) ts → list_all (term_entry es) ts ≡ list_all (term_avoids s k) (terms_at b ts)
  terms-entries es h [] p = refl
  terms-entries es h (t ∷ ts) p = let e = h t p.0 in let r = terms-entries es h ts p.1 in cc

  pub all_avoid-entries : (es : List Bool) → AreFormulaEntries b s k es → (fs : List FormulaId) → AreBelow (length es) fs → list_all (formula_entry es) fs ≡ all_avoid s k (formulas_from (formulas_at b fs))
  all_avoid-entries es h [] p = refl
  all_avoid-entries es h (f ∷ fs) p = let e = h f p.0 in let r = all_avoid-entries es h fs p.1 in cc

  pub formulas-entries : (es : List Bool) → AreFormulaEntries b s k es → (fs : List FormulaId) → AreBelow (length es) fs → list_all (formula_entry es) fs ≡ list_all (avoids s k) (formulas_at b fs)
  formulas-entries es h [] p = refl
  formulas-entries es h (f ∷ fs) p = let e = h f p.0 in let r = formulas-entries es h fs p.1 in cc

  -- ---- one more number

  pub term_entries-push : (es : List Bool) (e : Bool) (t : TermId) → t.0 ≡ length es → AreTermEntries b s k es → e ≡ term_avoids s k (term_at b t) → AreTermEntries b s k (es ++ e ∷ [])
  term_entries-push es e t here h is u l =
      let n = length_push es e in
      ⊎_elim
      (λ q. get_or_push es e false u.0 (sym here ∙ sym q) ∙ is ∙ ap (λ v. term_avoids s k (term_at b v)) (term_id t u (sym q)))
      (λ q. let small : u.0 < length es = omega (arith, l, n, q, here) in get_or_append_left es (e ∷ []) false u.0 small ∙ h u small)
      (cases_eq u.0 t.0)

  pub formula_entries-push : (es : List Bool) (e : Bool) (f : FormulaId) → f.0 ≡ length es → AreFormulaEntries b s k es → e ≡ avoids s k (formula_at b f) → AreFormulaEntries b s k (es ++ e ∷ [])
  formula_entries-push es e f here h is u l =
      let n = length_push es e in
      ⊎_elim
      (λ q. get_or_push es e false u.0 (sym here ∙ sym q) ∙ is ∙ ap (λ v. avoids s k (formula_at b v)) (formula_id f u (sym q)))
      (λ q. let small : u.0 < length es = omega (arith, l, n, q, here) in get_or_append_left es (e ∷ []) false u.0 small ∙ h u small)
      (cases_eq u.0 f.0)

  -- ---- a form, by the entries of its parts

  pub app_avoids : (es : List Bool) → AreTermEntries b s k es → (t : TermId) (f : Symbol) (v : SmallVec TermId) → IsTermForm b t (AppForm f v) → t.0 ≤ length es →
      (not (is_constant s k (symbol_of f)) && list_all (term_entry es) v.items) ≡ term_avoids s k (term_at b t)
  app_avoids es h t f v n l =
      ap (λ x. not (is_constant s k (symbol_of f)) && x) (terms_avoid-entries es h v.items (AreTermsBelow-more t.0 (length es) l v.items n.below))
      ∙ sym (ap (term_avoids s k) n.built)

  pub literal_avoids : (es : List Bool) → AreTermEntries b s k es → length es ≡ length b.terms → (f : FormulaId) (holds : Bool) (p : Predicate) (v : SmallVec TermId) → IsFormulaForm b f (LiteralForm holds p v) →
      list_all (term_entry es) v.items ≡ avoids s k (formula_at b f)
  literal_avoids es h l f holds p v n = terms_avoid-entries es h v.items (subst (λ m. AreTermsBelow m v.items) (sym l) n.below) ∙ sym (ap (avoids s k) n.built)

  pub and_avoids : (es : List Bool) → AreFormulaEntries b s k es → (f : FormulaId) (v : SmallVec FormulaId) → IsFormulaForm b f (AndForm v) → f.0 ≤ length es →
      list_all (formula_entry es) v.items ≡ avoids s k (formula_at b f)
  and_avoids es h f v n l = all_avoid-entries es h v.items (AreBelow-more f.0 (length es) l v.items n.below) ∙ sym (ap (avoids s k) n.built)

  pub or_avoids : (es : List Bool) → AreFormulaEntries b s k es → (f : FormulaId) (v : SmallVec FormulaId) → IsFormulaForm b f (OrForm v) → f.0 ≤ length es →
      list_all (formula_entry es) v.items ≡ avoids s k (formula_at b f)
  or_avoids es h f v n l = all_avoid-entries es h v.items (AreBelow-more f.0 (length es) l v.items n.below) ∙ sym (ap (avoids s k) n.built)

  pub forall_avoids : (es : List Bool) → AreFormulaEntries b s k es → (f : FormulaId) (ss : Vec Sort Global) (g : FormulaId) → IsFormulaForm b f (ForallForm ss g) → f.0 ≤ length es →
      formula_entry es g ≡ avoids s k (formula_at b f)
  forall_avoids es h f ss g n l = let small = n.below in h g (omega (arith, small, l)) ∙ sym (ap (avoids s k) n.built)

  pub exists_avoids : (es : List Bool) → AreFormulaEntries b s k es → (f : FormulaId) (ss : Vec Sort Global) (g : FormulaId) → IsFormulaForm b f (ExistsForm ss g) → f.0 ≤ length es →
      formula_entry es g ≡ avoids s k (formula_at b f)
  exists_avoids es h f ss g n l = let small = n.below in h g (omega (arith, small, l)) ∙ sym (ap (avoids s k) n.built)

  -- ---- whole tables

  pub formulas_tested : (es : List Bool) → AreFormulaEntries b s k es → length es ≡ length b.formulas * 2 → (fs : List FormulaId) → HasFormulas b fs → (now : List Bool) → now ≡ es → (r : Bool) →
      r ≡ list_all (formula_entry now) fs → r ≡ list_all (avoids s k) (formulas_at b fs)
  formulas_tested es h l fs p now e r is =
      is ∙ ap (λ v. list_all (formula_entry v) fs) e ∙ formulas-entries es h fs (subst (λ m. AreBelow m fs) (sym l) p)

  pub terms_tested : (es : List Bool) → AreTermEntries b s k es → length es ≡ length b.terms → (ts : List TermId) → HasTerms b ts → (now : List Bool) → now ≡ es → (r : Bool) →
      r ≡ list_all (term_entry now) ts → r ≡ list_all (term_avoids s k) (terms_at b ts)
  terms_tested es h l ts p now e r is =
      is ∙ ap (λ v. list_all (term_entry v) ts) e ∙ terms-entries es h ts (subst (λ m. AreTermsBelow m ts) (sym l) p)

pub no_constant : (b : Forms) (s : Sort) (k : ℕ) (ts : List TermId) → 1 ≤ length ts → None ≡ constant_of (App (Constant s k) (terms_from (terms_at b ts)))
no_constant b s k [] h = absurd (omega arith)
no_constant b s k (t ∷ ts) h = refl
