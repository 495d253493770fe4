-- Instances of a `forall`, made and added.
use Rattle.std.proofs.Common.{◌≡◌, ℕ, zero, suc, ◌+◌, ◌<◌, ◌≤◌, List, [], ◌∷◌, ◌++◌, length, map, take, get_or, Bool, true, false, refl, sym, ◌∙◌, ap, subst, arith, Option, Result, Ok, Err, Vec, Global, if◌then◌else◌}
use Rattle.std.specs.Prelude.{OnOk, filter, ◌&&◌}
use Rattle.std.proofs.lemmas.List.{map_push, take_more}
use Rattle.ss_logic.specs.declared.Sort.{Sort}
use Rattle.ss_logic.specs.Terms.{Term}
use Rattle.ss_logic.specs.Formulas.{Formula, Literal, And, Or, Forall, Exists}
use Rattle.ss_logic.specs.Asked.{is_empty}
use Rattle.ss_logic.specs.Matching.{is_one_whole, is_plain_whole, forall_instances, instances_at, term_triggers, atom_triggers}
use Rattle.ss_logic.specs.Occurring.{all_terms, with_formula, with_formulas}
use Rattle.ss_terms.specs.declared.forms.TermId.{TermId}
use Rattle.ss_terms.specs.declared.forms.FormulaId.{FormulaId}
use Rattle.ss_terms.specs.declared.forms.Formula.TheVariants.{Forall as ForallForm}
use Rattle.ss_terms.specs.Forms.{Forms, term_at, terms_at, formula_at, HasTerm, HasTerms, HasFormula, IsGrown, IsFormulaForm}
use Rattle.ss_terms.proofs.Grown.{HasTerms-grown, terms_at-grown}
use Rattle.ss_rules_occurring.specs.declared.found.FormulaList.{FormulaList}
use Rattle.ss_rules_occurring.specs.Found.{formulas_of, Holds, HasFound}
use Rattle.ss_rules_occurring.proofs.Growing.{formulas_of-grown}
use Rattle.ss_rules_occurring.proofs.Sought.{with_formulas-append}
use Rattle.ss_rules_opened.specs.declared.places.Tuple.{Tuple}
use Rattle.ss_rules_opened.specs.Matches.{tuple_at, tuples_at, HasTuples, places, number_places, match_places, instance_there}

pub HasTuples-get : (b : Forms) (ts : List Tuple) (i : ℕ) (d : Tuple) → HasTuples b ts → i < length ts → HasTerms b (get_or ts i d).terms.items
HasTuples-get b [] i d h at = absurd (omega arith)
HasTuples-get b (t ∷ ts) zero d h at = h.0
HasTuples-get b (t ∷ ts) (suc i) d h at = HasTuples-get b ts i d h.1 (omega arith)

-- one more of them
pub instance_next : (a b c : Forms) (whole body : Formula) (whole_now body_now : Formula) (start : List Formula) (s after : FormulaList) (ts : List Tuple) (i : ℕ) (d : Tuple) (us : List TermId) → us ≡ (get_or ts i d).terms.items → IsGrown a b → HasTuples a ts → i < length ts → whole_now ≡ whole → body_now ≡ body →
    Holds b s (with_formulas start (map (instance_there whole body) (tuples_at a (take i ts)))) → Holds c after (with_formula (formulas_of b s) (instance_there whole_now body_now (terms_at b us))) →
    Holds c after (with_formulas start (map (instance_there whole body) (tuples_at a (take (i + 1) ts))))
instance_next a b c whole body whole_now body_now start s after ts i d us at g h within e f before next = record {
  marked = next.marked;
  has = next.has;
  are =
      let here = terms_at a (get_or ts i d).terms.items in
      next.are
      ∙ ap (λ vs. with_formula (formulas_of b s) (instance_there whole_now body_now (terms_at b vs))) at
      ∙ ap (λ fs. with_formula fs (instance_there whole_now body_now (terms_at b (get_or ts i d).terms.items))) before.are
      ∙ ap (λ w. with_formula (with_formulas start (map (instance_there whole body) (tuples_at a (take i ts)))) (instance_there w body_now (terms_at b (get_or ts i d).terms.items))) e
      ∙ ap (λ w. with_formula (with_formulas start (map (instance_there whole body) (tuples_at a (take i ts)))) (instance_there whole w (terms_at b (get_or ts i d).terms.items))) f
      ∙ ap (λ us. with_formula (with_formulas start (map (instance_there whole body) (tuples_at a (take i ts)))) (instance_there whole body us)) (terms_at-grown a b g (get_or ts i d).terms.items (HasTuples-get a ts i d h within))
      ∙ sym (with_formulas-append start (map (instance_there whole body) (tuples_at a (take i ts))) (instance_there whole body here ∷ []))
      ∙ ap (with_formulas start) (sym (map_push (instance_there whole body) (tuples_at a (take i ts)) here))
      ∙ ap (λ us. with_formulas start (map (instance_there whole body) us)) (sym (map_push (tuple_at a) (take i ts) (get_or ts i d)) ∙ ap (tuples_at a) (sym (take_more ts i d within)));
}

-- ---- all instances

each_alone : (whole body : Formula) (ts : List Term) → map (instance_there whole body) (map (λ t. t ∷ []) ts) ≡ map (λ t. instance_there whole body (t ∷ [])) ts
each_alone whole body [] = refl
each_alone whole body (t ∷ ts) = ap (λ xs. instance_there whole body (t ∷ []) ∷ xs) (each_alone whole body ts)

by_cases : (r : Bool) (op : List (List Term) → List Formula) (xs ys : List (List Term)) (us : List Formula) → op xs ≡ us → op (if r then xs else ys) ≡ (if r then us else op ys)
by_cases true op xs ys us e = e
by_cases false op xs ys us e = refl

pub instances_there : (fs : List Formula) (whole : Formula) (ss : List Sort) (f : Formula) → map (instance_there whole f) (places fs ss f) ≡ instances_at fs whole ss f
instances_there fs whole ss f =
    by_cases (is_empty (term_triggers (length ss) f) && is_empty (atom_triggers (length ss) f) && is_one_whole ss) (map (instance_there whole f)) (number_places fs) (match_places (length ss) (term_triggers (length ss) f) (atom_triggers (length ss) f) fs) _
    (each_alone whole f (filter is_plain_whole (all_terms fs)))

pub ok_added : {A E : Type 0} (r : Result A E) (b : Forms) (s : FormulaList) (fs gs : List Formula) → fs ≡ gs → OnOk r (Holds b s fs) → OnOk r (Holds b s gs)
ok_added (Ok x) b s fs gs e h = record { marked = h.marked; has = h.has; are = h.are ∙ e }
ok_added (Err z) b s fs gs e h = tt

pub instances_of : (fs : List Formula) (x : Formula) (ss : List Sort) (f : Formula) → x ≡ Forall ss f → map (instance_there x f) (places fs ss f) ≡ forall_instances fs x
instances_of fs x ss f e = instances_there fs x ss f ∙ ap (λ w. instances_at fs w ss f) e ∙ sym (ap (forall_instances fs) e)

-- one made after the bank grew
pub ok_added_in : {A E : Type 0} (r : Result A E) (a b : Forms) (s after : FormulaList) (f : FormulaId) (x : Formula) → IsGrown a b → HasFound a s → formula_at b f ≡ x → OnOk r (Holds b after (with_formula (formulas_of b s) (formula_at b f))) →
    OnOk r (Holds b after (with_formula (formulas_of a s) x))
ok_added_in (Ok u) a b s after f x g h e k = record { marked = k.marked; has = k.has; are = k.are ∙ ap (λ fs. with_formula fs (formula_at b f)) (formulas_of-grown a b s g h) ∙ ap (with_formula (formulas_of a s)) e }
ok_added_in (Err z) a b s after f x g h e k = tt

pub instances_of_forall : (b : Forms) (f : FormulaId) (ss : Vec Sort Global) (body : FormulaId) (rs : List Sort) (fs : List Formula) → rs ≡ ss.items → IsFormulaForm b f (ForallForm ss body) →
    map (instance_there (formula_at b f) (formula_at b body)) (places fs rs (formula_at b body)) ≡ forall_instances fs (formula_at b f)
instances_of_forall b f ss body rs fs e n =
    ap (λ qs. map (instance_there (formula_at b f) (formula_at b body)) (places fs qs (formula_at b body))) e ∙ instances_of fs (formula_at b f) ss.items (formula_at b body) n.built
