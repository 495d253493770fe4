-- The instances of a `forall` of a list come from it. Where the list is well formed, they are at terms of the sorts of its bound names.
use Rattle.std.proofs.Common.{◌≡◌, ℕ, ◌<◌, List, [], ◌∷◌, length, get_or, filter, Bool, true, false, ◌&&◌, refl, sym, ◌∙◌, ap, subst, ⊎_elim, Result, Ok, Err, Vec, Global}
use Rattle.std.specs.Prelude.{filter_map, flat_map, OnOk, if◌then◌else◌}
use Rattle.std.specs.List.{Contains}
use Rattle.std.proofs.lemmas.Bool.{and_parts}
use Rattle.std.proofs.lemmas.List.Elements.{Contains-append_cases, Contains-get_or}
use Rattle.ss_core.specs.Tree.{ClassTree}
use Rattle.ss_logic.specs.declared.Sort.{Sort}
use Rattle.ss_logic.specs.Terms.{Term, have_sorts}
use Rattle.ss_logic.specs.Formulas.{Formula, Forall, are_bound_sorts, is_well_formed}
use Rattle.ss_logic.specs.Asked.{is_empty}
use Rattle.ss_logic.specs.Matching.{is_trigger, is_trigger_atom, is_plain_whole, is_one_whole, term_triggers, atom_triggers, match_term, match_atom}
use Rattle.ss_logic.specs.Occurring.{quantified_in, quantified, atoms, terms, all_atoms, all_terms, with_formulas}
use Rattle.ss_logic.specs.Includes.{Includes}
use Rattle.ss_logic.proofs.Lists.{contains_split, contains_none, map_from, map_to, from_filter, from_filter_map, flat_from}
use Rattle.ss_logic.proofs.Occurring.{from_collected}
use Rattle.ss_logic_means.specs.Origins.{Instance, IsInstance}
use Rattle.ss_logic_means.proofs.Formed.{EachFormed, each_formed, quantified_formed, atoms_formed, terms_sorted, literals_formed, all_terms_sorted}
use Rattle.ss_logic_means.proofs.Sorted.{term_match_sorted, atom_match_sorted, whole_sorted}
use Rattle.ss_logic_means.proofs.ListedOrigins.{with_includes, instance_in_more}
use Rattle.ss_terms.specs.declared.forms.TermId.{TermId}
use Rattle.ss_terms.specs.declared.forms.FormulaId.{FormulaId}
use Rattle.ss_terms.specs.declared.forms.Formula.TheVariants.{Forall as ForallForm}
use Rattle.ss_terms.specs.Forms.{Forms, terms_at, formula_at, HasTerms, HasFormula, IsGrown, IsFormulaForm}
use Rattle.ss_terms.proofs.Grown.{terms_at-grown}
use Rattle.ss_rules_occurring.specs.declared.found.FormulaList.{FormulaList}
use Rattle.ss_rules_occurring.specs.Found.{formulas_of, Holds, HasFound}
use Rattle.ss_rules_occurring.proofs.Growing.{formulas_of-grown}
use Rattle.ss_rules_opened.specs.declared.origins.Origin.{Origin}
use Rattle.ss_rules_opened.specs.Views.{ComeFrom, StillCome, StillComeWith}
use Rattle.ss_rules_opened.proofs.Noting.{ComeFrom-grown}
use Rattle.ss_rules_opened.specs.declared.places.Tuple.{Tuple}
use Rattle.ss_rules_opened.specs.Matches.{tuple_at, tuples_at, HasTuples, number_places, match_places, places, instance_there, AreInstances}
use Rattle.ss_rules_opened.proofs.Adding.{HasTuples-get}

-- ---- places

module _ (cs : List ClassTree) (fs : List Formula) (formed : EachFormed cs [] fs) (ss : List Sort) (f : Formula) (body : is_well_formed cs ss f ≡ true) where
  alone : EachFormed cs ss (f ∷ [])
  alone g c = ⊎_elim (λ e. subst (λ x. is_well_formed cs ss x ≡ true) e body) (λ n. absurd (contains_none g n)) (contains_split f [] g c)

  number_sorted : is_one_whole ss ≡ true → (ts : List Term) → Contains (number_places fs) ts → have_sorts cs ss ts ≡ true
  number_sorted one ts c =
      let r = map_from (λ (t : Term). t ∷ []) (filter is_plain_whole (all_terms fs)) ts c in
      let k = from_filter is_plain_whole (all_terms fs) r.0 r.1 in
      let s = all_terms_sorted cs [] fs formed r.0 k.0 in
      subst (λ us. have_sorts cs ss us ≡ true) r.2 (whole_sorted cs s.0 ss r.0 one k.1 s.1)

  at_term : (ts : List Term) → Contains (flat_map (λ t. filter_map (λ p. match_term (length ss) p t) (term_triggers (length ss) f)) (terms fs)) ts → have_sorts cs ss ts ≡ true
  at_term ts c =
      let r = flat_from (λ t. filter_map (λ p. match_term (length ss) p t) (term_triggers (length ss) f)) (terms fs) ts c in
      let m = from_filter_map (λ p. match_term (length ss) p r.0) (term_triggers (length ss) f) ts r.2 in
      let k = from_filter (is_trigger (length ss)) (all_terms (f ∷ [])) m.0 m.1 in
      let s = all_terms_sorted cs ss (f ∷ []) alone m.0 k.0 in
      term_match_sorted cs ss s.0 m.0 r.0 ts k.1 s.1 (terms_sorted cs fs formed r.0 r.1) m.2

  at_atom : (ts : List Term) → Contains (flat_map (λ a. filter_map (λ p. match_atom (length ss) p a) (atom_triggers (length ss) f)) (atoms fs)) ts → have_sorts cs ss ts ≡ true
  at_atom ts c =
      let r = flat_from (λ a. filter_map (λ p. match_atom (length ss) p a) (atom_triggers (length ss) f)) (atoms fs) ts c in
      let m = from_filter_map (λ p. match_atom (length ss) p r.0) (atom_triggers (length ss) f) ts r.2 in
      let k = from_filter (is_trigger_atom (length ss)) (all_atoms (f ∷ [])) m.0 m.1 in
      let s = literals_formed cs ss (f ∷ []) alone m.0 k.0 in
      atom_match_sorted cs ss s.0 m.0 r.0 ts k.1 s.1 (atoms_formed cs fs formed r.0 r.1) m.2

  places_sorted : (ts : List Term) → Contains (places fs ss f) ts → have_sorts cs ss ts ≡ true
  places_sorted ts c = by (is_empty (term_triggers (length ss) f) && is_empty (atom_triggers (length ss) f) && is_one_whole ss) refl c
    where
      by : (b : Bool) → (is_empty (term_triggers (length ss) f) && is_empty (atom_triggers (length ss) f) && is_one_whole ss) ≡ b →
          Contains (if b then number_places fs else match_places (length ss) (term_triggers (length ss) f) (atom_triggers (length ss) f) fs) ts → have_sorts cs ss ts ≡ true
      by true e c = number_sorted (and_parts (is_empty (term_triggers (length ss) f) && is_empty (atom_triggers (length ss) f)) (is_one_whole ss) e).1 ts c
      by false e c = ⊎_elim (λ a. at_term ts a) (λ b. at_atom ts b)
          (Contains-append_cases
          (flat_map (λ t. filter_map (λ p. match_term (length ss) p t) (term_triggers (length ss) f)) (terms fs))
          (flat_map (λ a. filter_map (λ p. match_atom (length ss) p a) (atom_triggers (length ss) f)) (atoms fs))
          ts c)

of_forall : (cs : List ClassTree) (fs : List Formula) (ss : List Sort) (f : Formula) → Contains (quantified fs) (Forall ss f) → AreInstances cs fs (Forall ss f) f (places fs ss f)
of_forall cs fs ss f o ts c = (
  o,
  refl,
  λ formed.
      let each = each_formed cs [] fs formed in
      let from = from_collected quantified_in fs (Forall ss f) o in
      let whole = quantified_formed cs [] from.0 (Forall ss f) from.2 (each from.0 from.1) in
      places_sorted cs fs each ss f (and_parts (are_bound_sorts ss) (is_well_formed cs ss f) whole).1 ts c,
)

-- the same, as the bank has it
pub are_instances : (cs : List ClassTree) (b : Forms) (f : FormulaId) (ss : Vec Sort Global) (body : FormulaId) (rs : List Sort) (fs : List Formula) → rs ≡ ss.items → IsFormulaForm b f (ForallForm ss body) → Contains (quantified fs) (formula_at b f) →
    AreInstances cs fs (formula_at b f) (formula_at b body) (places fs rs (formula_at b body))
are_instances cs b f ss body rs fs e n o =
    subst (λ qs. AreInstances cs fs (formula_at b f) (formula_at b body) (places fs qs (formula_at b body))) (sym e)
    (subst (λ w. AreInstances cs fs w (formula_at b body) (places fs ss.items (formula_at b body))) (sym n.built)
    (of_forall cs fs ss.items (formula_at b body) (subst (Contains (quantified fs)) n.built o)))

-- ---- one after the other

-- the next one is an instance for the list that has grown meanwhile
pub next_is_instance : (cs : List ClassTree) (a b : Forms) (whole body whole_now body_now : Formula) (start more : List Formula) (s : FormulaList) (ts : List Tuple) (i : ℕ) (d : Tuple) (us : List TermId) →
    us ≡ (get_or ts i d).terms.items → IsGrown a b → HasTuples a ts → i < length ts → whole_now ≡ whole → body_now ≡ body → Holds b s (with_formulas start more) → AreInstances cs start whole body (tuples_at a ts) →
    IsInstance cs (formulas_of b s) whole_now (terms_at b us) (instance_there whole_now body_now (terms_at b us))
next_is_instance cs a b whole body whole_now body_now start more s ts i d us at g h within e f added are =
    let here = get_or ts i d in
    let there : IsInstance cs start whole (tuple_at a (get_or ts i d)) (instance_there whole body (tuple_at a (get_or ts i d))) = are (tuple_at a here) (map_to (tuple_at a) ts here (Contains-get_or ts i d within)) in
    let grown : Includes (formulas_of b s) start = subst (λ xs. Includes xs start) (sym added.are) (with_includes start more) in
    let same : terms_at b us ≡ tuple_at a (get_or ts i d) = ap (terms_at b) at ∙ terms_at-grown a b g here.terms.items (HasTuples-get a ts i d h within) in
    subst (λ w. IsInstance cs (formulas_of b s) w (terms_at b us) (instance_there w body_now (terms_at b us))) (sym e)
    (subst (λ x. IsInstance cs (formulas_of b s) whole (terms_at b us) (instance_there whole x (terms_at b us))) (sym f)
    (subst (λ vs. IsInstance cs (formulas_of b s) whole vs (instance_there whole body vs)) (sym same)
    (instance_in_more cs start (formulas_of b s) whole (tuple_at a here) (instance_there whole body (tuple_at a here)) grown there)))

-- one made after the bank grew
pub instance_noted : {A E : Type 0} (r : Result A E) (cs : List ClassTree) (a b : Forms) → IsGrown a b → (s : FormulaList) → HasFound a s → (w : FormulaId) → HasFormula a w → (ts : List TermId) → HasTerms a ts → (f : FormulaId) (x : Formula) → formula_at b f ≡ x →
    (os : List Origin) (gs : List Formula) (ps : List Origin) → OnOk r (StillComeWith b (formulas_of b s) os (Instance (formula_at b w) (terms_at b ts)) (formula_at b f) gs ps) →
    OnOk r (IsInstance cs (formulas_of a s) (formula_at a w) (terms_at a ts) x → StillCome cs a (formulas_of a s) os b gs ps)
instance_noted (Ok y) cs a b g s has w hw ts ht f x at os gs ps h = λ is premises goal choices come.
    let listed = formulas_of-grown a b s g has in
    h cs premises goal choices
    (subst (λ fs. IsInstance cs fs (formula_at b w) (terms_at b ts) (formula_at b f)) (sym listed)
    (subst (λ v. IsInstance cs (formulas_of a s) v (terms_at b ts) (formula_at b f)) (sym (g.same_formulas w hw))
    (subst (λ us. IsInstance cs (formulas_of a s) (formula_at a w) us (formula_at b f)) (sym (terms_at-grown a b g ts ht))
    (subst (λ y. IsInstance cs (formulas_of a s) (formula_at a w) (terms_at a ts) y) (sym at) is))))
    (ComeFrom-grown a b g cs premises goal choices (formulas_of b s) os (subst (λ fs. ComeFrom cs premises goal choices a fs os) (sym listed) come))
instance_noted (Err z) cs a b g s has w hw ts ht f x at os gs ps h = tt

pub ok_given : {A E P Q : Type 0} (r : Result A E) (cs : List ClassTree) (a b : Forms) (fs gs : List Formula) (os ps : List Origin) → (Q → P) → OnOk r (P → StillCome cs a fs os b gs ps) → OnOk r (Q → StillCome cs a fs os b gs ps)
ok_given (Ok x) cs a b fs gs os ps k h = λ q. h (k q)
ok_given (Err z) cs a b fs gs os ps k h = tt
