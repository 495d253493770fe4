-- Lists in which all that is told in a formula is found.
use Rattle.std.proofs.Common.{◌≡◌, ℕ, ◌+◌, ◌<◌, List, [], ◌∷◌, ◌++◌, length, take, get_or, Bool, true, false, ◌||◌, ◌&&◌, refl, sym, ◌∙◌, ap, subst, ⊎_elim, ◌⊎◌, inl, inr, ◌≢◌, Result, Ok, Err, Vec, Global, if◌then◌else◌}
use Rattle.std.specs.Prelude.{OnOk, flat_map}
use Rattle.std.specs.List.{list_any}
use Rattle.std.proofs.lemmas.Bool.{and_parts, cases_eq, ne_eqb}
use Rattle.std.proofs.lemmas.List.{map_push, take_more, flat_map_more}
use Rattle.std.proofs.lemmas.List.Folds.{list_any-append}
use Rattle.ss_bit_set.specs.declared.bit_set.BitSet.{BitSet}
use Rattle.ss_bit_set.specs.Marked.{marked}
use Rattle.ss_paths.specs.Sets.{put, none}
use Rattle.ss_logic.specs.declared.Sort.{Sort}
use Rattle.ss_logic.specs.Formulas.{Formula, formulas_from}
use Rattle.ss_logic.specs.Equal.{same_formula, same_formula_equal}
use Rattle.ss_logic.specs.Occurring.{with_formula, with_formulas}
use Rattle.ss_logic_countermodels.specs.Refuting.{told_in, all_told_in}
use Rattle.ss_terms.specs.Lists.{SmallVec}
use Rattle.ss_terms.specs.declared.forms.TermId.{TermId}
use Rattle.ss_terms.specs.declared.forms.FormulaId.{FormulaId}
use Rattle.ss_terms.specs.declared.forms.Predicate as form
use Rattle.ss_terms.specs.declared.forms.Formula.TheVariants.{Literal as LiteralForm, And as AndForm, Or as OrForm, Forall as ForallForm, Exists as ExistsForm}
use Rattle.ss_terms.specs.Forms.{Forms, formula_at, formulas_at, IsFormulaForm}
use Rattle.ss_terms.proofs.Same.{formula_id}
use Rattle.ss_rules_occurring.specs.declared.found.FormulaList.{FormulaList}
use Rattle.ss_rules_occurring.specs.Found.{formulas_of, Holds}
use Rattle.ss_search_models.specs.declared.telling.Telling.{Telling}
use Rattle.ss_search_models.specs.Tellings.{told_of, are_among, Tells, IsTelling}

-- ---- what is there stays

there_more : (found : List Formula) (g f : Formula) → list_any (same_formula g) found ≡ true → list_any (same_formula g) (with_formula found f) ≡ true
there_more found g f h = by (list_any (same_formula f) found)
  where
    by : (v : Bool) → list_any (same_formula g) (if v then found else found ++ f ∷ []) ≡ true
    by true = h
    by false = list_any-append (same_formula g) found (f ∷ []) ∙ ap (λ v. v || list_any (same_formula g) (f ∷ [])) h

there_now : (found : List Formula) (f : Formula) → list_any (same_formula f) (with_formula found f) ≡ true
there_now found f = by (list_any (same_formula f) found) refl
  where
    by : (v : Bool) → list_any (same_formula f) found ≡ v → list_any (same_formula f) (if v then found else found ++ f ∷ []) ≡ true
    by true e = e
    by false e =
        list_any-append (same_formula f) found (f ∷ []) ∙ ap (λ v. v || (same_formula f f || false)) e ∙ ap (λ v. v || false) (same_formula_equal f f refl)

there_all : (found : List Formula) (g : Formula) (fs : List Formula) → list_any (same_formula g) found ≡ true → list_any (same_formula g) (with_formulas found fs) ≡ true
there_all found g [] h = h
there_all found g (f ∷ fs) h = there_all (with_formula found f) g fs (there_more found g f h)

among_more : (found gs : List Formula) (f : Formula) → are_among found gs ≡ true → are_among (with_formula found f) gs ≡ true
among_more found [] f h = refl
among_more found (g ∷ gs) f h =
    let p = and_parts (list_any (same_formula g) found) (are_among found gs) h in
    ap (λ v. v && are_among (with_formula found f) gs) (there_more found g f p.0) ∙ among_more found gs f p.1

all_among : (found gs : List Formula) → are_among (with_formulas found gs) gs ≡ true
all_among found [] = refl
all_among found (g ∷ gs) =
    ap (λ v. v && are_among (with_formulas (with_formula found g) gs) gs) (there_all (with_formula found g) g gs (there_now found g)) ∙ all_among (with_formula found g) gs

among_same : (found gs : List Formula) → are_among found gs ≡ true → with_formulas found gs ≡ found
among_same found [] h = refl
among_same found (g ∷ gs) h =
    let p = and_parts (list_any (same_formula g) found) (are_among found gs) h in
    ap (λ v. with_formulas (if v then found else found ++ g ∷ []) gs) p.0 ∙ among_same found gs p.1

with_formulas-append : (found xs ys : List Formula) → with_formulas found (xs ++ ys) ≡ with_formulas (with_formulas found xs) ys
with_formulas-append found [] ys = refl
with_formulas-append found (x ∷ xs) ys = with_formulas-append (with_formula found x) xs ys

-- ---- what was seen

pub tells_itself : (b : Forms) (t : Telling) (fs : List Formula) → Tells b t fs → IsTelling b t
tells_itself b t fs h = subst (Tells b t) (sym h.found.are) h

pub ok_tells : {A E : Type 0} (r : Result A E) (b : Forms) (t : Telling) (fs gs : List Formula) → fs ≡ gs → OnOk r (Tells b t fs) → OnOk r (Tells b t gs)
ok_tells (Ok x) b t fs gs e h = subst (Tells b t) e h
ok_tells (Err z) b t fs gs e h = tt

pub nothing_told : (b : Forms) (t : Telling) → Holds b t.found [] → marked t.seen ≡ none → Tells b t []
unfolding none
nothing_told b t h e = record { found = h; seen = λ f m. absurd (off (sym (ap (λ s. s f.0) e) ∙ m)) }
  where
    off : false ≡ true → ⊥
    off x = cc

pub told_there : (b : Forms) (t : Telling) (f : FormulaId) → IsTelling b t → true ≡ marked t.seen f.0 → Tells b t (with_formulas (formulas_of b t.found) (told_in (formula_at b f)))
told_there b t f h m = subst (Tells b t) (sym (among_same (formulas_of b t.found) (told_in (formula_at b f)) (h.seen f (sym m)))) h

seen_more : (seen after : BitSet) (n k : ℕ) → marked after ≡ put n true (marked seen) → marked after k ≡ true → (n ≡ k) ⊎ (marked seen k ≡ true)
unfolding put
seen_more seen after n k e m =
    ⊎_elim
    (λ (same : n ≡ k). inl same)
    (λ (other : n ≢ k). inr (sym (ap (λ v. if v then true else marked seen k) (ne_eqb n k other)) ∙ sym (ap (λ s. s k) e) ∙ m))
    (cases_eq n k)

pub told_added : (b : Forms) (t : Telling) (seen : BitSet) (fs : List Formula) (f : FormulaId) → Tells b t (with_formulas fs (told_in (formula_at b f))) → marked seen ≡ put f.0 true (marked t.seen) →
    Tells b (record { found = t.found; seen = seen }) (with_formulas fs (told_in (formula_at b f)))
told_added b t seen fs f h e = record {
  found = h.found;
  seen = λ g m.
      ⊎_elim
      (λ (same : f.0 ≡ g.0). ap (λ k. are_among (with_formulas fs (told_in (formula_at b f))) (told_in (formula_at b k))) (sym (formula_id f g same)) ∙ all_among fs (told_in (formula_at b f)))
      (λ (old : marked t.seen g.0 ≡ true). h.seen g old)
      (seen_more t.seen seen f.0 g.0 e m);
}

pub told_more : {A E : Type 0} (r : Result A E) (b : Forms) (t : Telling) (found : FormulaList) (f g : Formula) → IsTelling b t → g ≡ f → OnOk r (Holds b found (with_formula (formulas_of b t.found) g)) →
    OnOk r (Tells b (record { found = found; seen = t.seen }) (with_formula (formulas_of b t.found) f))
told_more (Ok x) b t found f g h e k = record {
  found = subst (λ x. Holds b found (with_formula (formulas_of b t.found) x)) e k;
  seen = λ i m. among_more (formulas_of b t.found) (told_in (formula_at b i)) f (h.seen i m);
}
told_more (Err z) b t found f g h e k = tt

-- ---- parts

all_told-map : (fs : List Formula) → all_told_in (formulas_from fs) ≡ flat_map told_in fs
all_told-map [] = refl
all_told-map (f ∷ fs) = ap (λ gs. told_in f ++ gs) (all_told-map fs)

module _ (b : Forms) (f : FormulaId) where
  pub told_in_and : (v : SmallVec FormulaId) → IsFormulaForm b f (AndForm v) → flat_map told_in (formulas_at b v.items) ≡ told_in (formula_at b f)
  told_in_and v n = sym (all_told-map (formulas_at b v.items)) ∙ sym (ap told_in n.built)

  pub told_in_or : (v : SmallVec FormulaId) → IsFormulaForm b f (OrForm v) → flat_map told_in (formulas_at b v.items) ≡ told_in (formula_at b f)
  told_in_or v n = sym (all_told-map (formulas_at b v.items)) ∙ sym (ap told_in n.built)

  pub told_in_literal : (h : Bool) (p : form.Predicate) (v : SmallVec TermId) → IsFormulaForm b f (LiteralForm h p v) → told_of (formula_at b f) ∷ [] ≡ told_in (formula_at b f)
  told_in_literal h p v n = ap (λ x. told_of x ∷ []) n.built ∙ sym (ap told_in n.built)

  pub told_in_forall : (ss : Vec Sort Global) (g : FormulaId) → IsFormulaForm b f (ForallForm ss g) → told_of (formula_at b f) ∷ [] ≡ told_in (formula_at b f)
  told_in_forall ss g n = ap (λ x. told_of x ∷ []) n.built ∙ sym (ap told_in n.built)

  pub told_in_exists : (ss : Vec Sort Global) (g : FormulaId) → IsFormulaForm b f (ExistsForm ss g) → told_of (formula_at b f) ∷ [] ≡ told_in (formula_at b f)
  told_in_exists ss g n = ap (λ x. told_of x ∷ []) n.built ∙ sym (ap told_in n.built)

-- ---- one more of a list

pub told_next : (b : Forms) (start : List Formula) (t after : Telling) (fs : List FormulaId) (i : ℕ) (d : FormulaId) → i < length fs →
    Tells b t (with_formulas start (flat_map told_in (formulas_at b (take i fs)))) → Tells b after (with_formulas (formulas_of b t.found) (told_in (formula_at b (get_or fs i d)))) →
    Tells b after (with_formulas start (flat_map told_in (formulas_at b (take (i + 1) fs))))
told_next b start t after fs i d at h next =
    subst (Tells b after)
    (ap (λ gs. with_formulas gs (told_in (formula_at b (get_or fs i d)))) h.found.are
    ∙ sym (with_formulas-append start (flat_map told_in (formulas_at b (take i fs))) (told_in (formula_at b (get_or fs i d))))
    ∙ ap (with_formulas start) (flat_map_more told_in [] (formulas_at b (take i fs)) (formula_at b (get_or fs i d)))
    ∙ ap (λ gs. with_formulas start (flat_map told_in gs)) (sym (map_push (formula_at b) (take i fs) (get_or fs i d)))
    ∙ ap (λ gs. with_formulas start (flat_map told_in (formulas_at b gs))) (sym (take_more fs i d at)))
    next
