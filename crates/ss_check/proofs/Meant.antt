-- What known formulas stand for, and that lines do the same to both.
use Rattle.std.proofs.Common.{◌≡◌, ℕ, zero, suc, ◌+◌, ◌*◌, ◌<◌, ◌≤◌, List, [], ◌∷◌, ◌++◌, map, Bool, true, false, ◌&&◌, Option, Some, None, option_and_then, refl, sym, ◌∙◌, ap, subst, get_or, length, take, reverse, arith, Vec, Global, Result, Ok, Err}
use Rattle.std.specs.Prelude.{ℤ, pos, not, ◌||◌, ◌==◌, option_map, slice_get, if◌then◌else◌, IfOk, IfSome}
use Rattle.std.specs.Bool.{beq}
use Rattle.std.specs.Int.{is_positive}
use Rattle.std.proofs.lemmas.List.{map_push, take_more, reverse-reverse}
use Rattle.std.proofs.lemmas.Option.{slice_get-map, same_Some}
use Rattle.std.proofs.lemmas.Bool.{and_parts}
use Rattle.ss_core.specs.Tree.{ClassTree}
use Rattle.ss_logic.specs.Terms.{Term, Bound, App, no_terms, term_then, term_list, have_sorts}
use Rattle.ss_logic.specs.Formulas.{Good as GoodStore, Formula, Formulas, Literal, And, Or, Forall, Exists, no_formulas, formula_then, formulas_from, formula_list, is_well_formed, are_well_formed, neg, put, put_all}
use Rattle.ss_logic.specs.Equal.{same_term, same_symbol, same_predicate, same_formula, equal_formulas}
use Rattle.ss_logic.specs.Shapes.{when, equal}
use Rattle.ss_logic.specs.GoodRules.{good_instance_of}
use Rattle.ss_logic.proofs.Options.{when_some}
use Rattle.ss_logic.specs.Invariants.{invariants_of}
use Rattle.ss_logic.specs.Sums.{LinearSum, SumFact, number_sum, sum_fact_of, add_weighted, weighted, bounded}
use Rattle.ss_logic_means.specs.Steps.{Line as TreeLine, State, Open, Between, part_at, part_of, count_of, cases_of, is_cut, other_side, walk, joins, is_joined, are_exchanged, is_congruent, is_swapped, body_at, choice, good_store, fact_of, is_absurd, is_opposed, is_clash, open_cases, add_fact, split_case, cut_case, close_case, step_open, step_between, step, at_end}
use Rattle.ss_logic_means.proofs.Putting.{forall_formed}
use Rattle.ss_deriv.specs.declared.line.Line.{Line}
use Rattle.ss_deriv.specs.declared.line.Line.TheVariants.{Premise, Denied, Part, Split, Cut, Inst, Choose, Rule, Good, Invariants, Chain, Cong, Swap, Sum, Clash, Case}
use Rattle.ss_deriv.specs.Lines.{line_in}
use Rattle.ss_terms.specs.Lists.{SmallVec}
use Rattle.ss_terms.specs.declared.forms.TermId.{TermId}
use Rattle.ss_terms.specs.declared.forms.FormulaId.{FormulaId}
use Rattle.ss_terms.specs.declared.forms.Formula.{Formula as Form}
use Rattle.ss_terms.specs.declared.forms.Formula.TheVariants.{Literal as LiteralForm, And as AndForm, Or as OrForm, Forall as ForallForm, Exists as ExistsForm}
use Rattle.ss_terms.specs.Forms.{Forms, formula_at, formulas_at, term_at, terms_at, HasFormula, HasFormulas, HasTerms, AreTermsBelow, AreBelow, IsFormulaForm, IsGrown}
use Rattle.ss_terms.proofs.Grown.{terms_at-grown, formulas_at-grown}
use Rattle.ss_terms_puts.proofs.Putting.{put_all-map}
use Rattle.ss_terms.proofs.Tested.{AreBelow-get}
use Rattle.ss_check_steps.specs.Numbered.{IsStepped}
use Rattle.ss_terms.specs.Numbered.{IsNumberOf, one_of}
use Rattle.ss_check_steps.specs.Stack.{cases_from, state_of, waiting_of, AreCases}
use Rattle.ss_check_steps.proofs.Stacks.{cases_from-grown, state_of-grown}
use Rattle.ss_check.specs.Within.{LineWithin}
use Rattle.ss_check.specs.declared.told.Told.{Told}
use Rattle.ss_check.specs.Delayed.{is_and, parts_of, delayed_pair, delayed_of, delayed_in, IsDelayed, both_of, meant_parts, meant, all_meant, meant_alone, meant_state, formed_fact, is_plain, AddsFact, IsTold}
use Rattle.ss_check.proofs.Runs.{line_in-grown}

-- ---- options

then_same : {A B : Type 0} (g h : A → Option B) → ((x : A) → g x ≡ h x) → (o : Option A) → option_and_then g o ≡ option_and_then h o
then_same g h same None = refl
then_same g h same (Some x) = same x

when_mapped : {A B : Type 0} (g : A → B) (v : Bool) (x : A) → when v (g x) ≡ option_map g (when v x)
when_mapped g true x = refl
when_mapped g false x = refl

differ : (f g : Formula) → ((f ≡ g) → ⊥) → same_formula f g ≡ false
differ f g apart = by_answer (same_formula f g) refl
  where
    by_answer : (v : Bool) → same_formula f g ≡ v → same_formula f g ≡ false
    by_answer true e = absurd (apart (equal_formulas f g e))
    by_answer false e = e

module _ (cs : List ClassTree) where
  -- ---- what is well formed stands for itself

  delayed_formed : (fs : Formulas) → are_well_formed cs [] fs ≡ true → delayed_of cs fs ≡ None
  delayed_formed no_formulas h = refl
  delayed_formed (formula_then p no_formulas) h = refl
  delayed_formed (formula_then p (formula_then q no_formulas)) h =
      let rest = and_parts (is_well_formed cs [] p) (is_well_formed cs [] q && true) h in
      let second = and_parts (is_well_formed cs [] q) true rest.1 in
      rw second.0 refl
  delayed_formed (formula_then p (formula_then q (formula_then r fs))) h = refl

  parts_formed : (fs : Formulas) → are_well_formed cs [] fs ≡ true → meant_parts cs fs ≡ fs
  parts_formed fs h = rw (delayed_formed fs h) refl

  mutual
    pub meant_formed : (f : Formula) → is_well_formed cs [] f ≡ true → meant cs f ≡ f
    meant_formed (Literal s p ts) h = refl
    meant_formed (And fs) h = ap And (parts_formed fs h)
    meant_formed (Or fs) h = ap Or (all_meant_formed fs h)
    meant_formed (Forall ss f) h = refl
    meant_formed (Exists ss f) h = refl

    pub all_meant_formed : (fs : Formulas) → are_well_formed cs [] fs ≡ true → all_meant cs fs ≡ fs
    all_meant_formed no_formulas h = refl
    all_meant_formed (formula_then f fs) h =
        let p = and_parts (is_well_formed cs [] f) (are_well_formed cs [] fs) h in
        ap (λ g. formula_then g (all_meant cs fs)) (meant_formed f p.0) ∙ ap (formula_then f) (all_meant_formed fs p.1)

  pub known_formed : (fs : List Formula) → are_well_formed cs [] (formulas_from fs) ≡ true → map (meant cs) fs ≡ fs
  known_formed [] h = refl
  known_formed (f ∷ fs) h =
      let p = and_parts (is_well_formed cs [] f) (are_well_formed cs [] (formulas_from fs)) h in
      ap (λ g. g ∷ map (meant cs) fs) (meant_formed f p.0) ∙ ap (λ gs. f ∷ gs) (known_formed fs p.1)

  pub all_meant-map : (fs : List Formula) → all_meant cs (formulas_from fs) ≡ formulas_from (map (meant cs) fs)
  all_meant-map [] = refl
  all_meant-map (f ∷ fs) = ap (formula_then (meant cs f)) (all_meant-map fs)

  -- ---- what is read of a formula is read of what it stands for

  alike : {A : Type 0} (look : Formula → A) → ((fs gs : Formulas) → look (And fs) ≡ look (And gs)) → ((fs gs : Formulas) → look (Or fs) ≡ look (Or gs)) → (f : Formula) → look (meant cs f) ≡ look f
  alike look ands ors (Literal s p ts) = refl
  alike look ands ors (And fs) = ands (meant_parts cs fs) fs
  alike look ands ors (Or fs) = ors (all_meant cs fs) fs
  alike look ands ors (Forall ss f) = refl
  alike look ands ors (Exists ss f) = refl

  at_option : {A : Type 0} (look : Formula → Option A) → ((f : Formula) → look (meant cs f) ≡ look f) → (o : Option Formula) → option_and_then look (option_map (meant cs) o) ≡ option_and_then look o
  at_option look same None = refl
  at_option look same (Some f) = same f

  known_same : {A : Type 0} (look : Formula → Option A) → ((f : Formula) → look (meant cs f) ≡ look f) → (known : List Formula) (i : ℕ) →
      option_and_then look (slice_get (map (meant cs) known) i) ≡ option_and_then look (slice_get known i)
  known_same look same known i = ap (option_and_then look) (slice_get-map (meant cs) known i) ∙ at_option look same (slice_get known i)

  pub instance_same : (ts : List Term) (known : List Formula) (i : ℕ) → option_and_then (body_at cs ts) (slice_get (map (meant cs) known) i) ≡ option_and_then (body_at cs ts) (slice_get known i)
  instance_same ts known i = known_same (body_at cs ts) (alike (body_at cs ts) (λ fs gs. refl) (λ fs gs. refl)) known i

  store_same : (known : List Formula) (i : ℕ) → option_and_then good_store (slice_get (map (meant cs) known) i) ≡ option_and_then good_store (slice_get known i)
  store_same known i = known_same good_store (alike good_store (λ fs gs. refl) (λ fs gs. refl)) known i

  walk_same : (known : List Formula) (x : Term) (path : List ℕ) → walk (map (meant cs) known) x path ≡ walk known x path
  walk_same known x [] = refl
  walk_same known x (i ∷ is) =
      known_same (λ (f : Formula). option_and_then (λ (y : Term). walk (map (meant cs) known) y is) (other_side x f))
      (λ f. ap (option_and_then (λ (y : Term). walk (map (meant cs) known) y is)) (alike (other_side x) (λ fs gs. refl) (λ fs gs. refl) f)) known i
      ∙ then_same (λ (f : Formula). option_and_then (λ (y : Term). walk (map (meant cs) known) y is) (other_side x f)) (λ (f : Formula). option_and_then (λ (y : Term). walk known y is) (other_side x f))
      (λ f. then_same (λ (y : Term). walk (map (meant cs) known) y is) (λ (y : Term). walk known y is) (λ y. walk_same known y is) (other_side x f)) (slice_get known i)

  joined_option : (a b : Term) (o : Option Formula) → is_joined a b (option_map (meant cs) o) ≡ is_joined a b o
  joined_option a b None = refl
  joined_option a b (Some f) = alike (joins a b) (λ fs gs. refl) (λ fs gs. refl) f

  joined_same : (a b : Term) (known : List Formula) (j : ℕ) → is_joined a b (slice_get (map (meant cs) known) j) ≡ is_joined a b (slice_get known j)
  joined_same a b known j = ap (is_joined a b) (slice_get-map (meant cs) known j) ∙ joined_option a b (slice_get known j)

  exchanged_same : (known : List Formula) (xs ys : List Term) (js : List ℕ) → are_exchanged (map (meant cs) known) xs ys js ≡ are_exchanged known xs ys js
  exchanged_same known [] [] [] = refl
  exchanged_same known [] [] (j ∷ js) = refl
  exchanged_same known [] (b ∷ ys) [] = refl
  exchanged_same known [] (b ∷ ys) (j ∷ js) = refl
  exchanged_same known (a ∷ xs) [] [] = refl
  exchanged_same known (a ∷ xs) [] (j ∷ js) = refl
  exchanged_same known (a ∷ xs) (b ∷ ys) [] = ap (λ r. same_term a b && r) (exchanged_same known xs ys [])
  exchanged_same known (a ∷ xs) (b ∷ ys) (j ∷ js) =
      ap (λ r. if same_term a b then r else (is_joined a b (slice_get (map (meant cs) known) j) && are_exchanged (map (meant cs) known) xs ys js)) (exchanged_same known xs ys (j ∷ js))
      ∙ ap (λ r. if same_term a b then are_exchanged known xs ys (j ∷ js) else (r && are_exchanged (map (meant cs) known) xs ys js)) (joined_same a b known j)
      ∙ ap (λ r. if same_term a b then are_exchanged known xs ys (j ∷ js) else (is_joined a b (slice_get known j) && r)) (exchanged_same known xs ys js)

  congruent_same : (known : List Formula) (js : List ℕ) (x y : Term) → is_congruent (map (meant cs) known) js x y ≡ is_congruent known js x y
  congruent_same known js (Bound k) y = refl
  congruent_same known js (App f no_terms) y = refl
  congruent_same known js (App f (term_then x xs)) (Bound k) = refl
  congruent_same known js (App f (term_then x xs)) (App g ys) = ap (λ r. same_symbol f g && r) (exchanged_same known (x ∷ term_list xs) (term_list ys) js)

  swapped_known : (known : List Formula) (js : List ℕ) (g f : Formula) → is_swapped (map (meant cs) known) js g f ≡ is_swapped known js g f
  swapped_known known js (Literal s p ts) (Literal r q us) = ap (λ e. beq s r && same_predicate p q && e) (exchanged_same known (term_list ts) (term_list us) js)
  swapped_known known js (Literal s p ts) (And fs) = refl
  swapped_known known js (Literal s p ts) (Or fs) = refl
  swapped_known known js (Literal s p ts) (Forall ss f) = refl
  swapped_known known js (Literal s p ts) (Exists ss f) = refl
  swapped_known known js (And gs) f = refl
  swapped_known known js (Or gs) f = refl
  swapped_known known js (Forall ss g) f = refl
  swapped_known known js (Exists ss g) f = refl

  swap_same : (known : List Formula) (i : ℕ) (f : Formula) (js : List ℕ) →
      option_and_then (λ (g : Formula). when (is_swapped (map (meant cs) known) js g f) f) (slice_get (map (meant cs) known) i) ≡ option_and_then (λ (g : Formula). when (is_swapped known js g f) f) (slice_get known i)
  swap_same known i f js =
      known_same (λ (g : Formula). when (is_swapped (map (meant cs) known) js g f) f)
      (λ g. ap (λ v. when v f) (alike (λ (h : Formula). is_swapped (map (meant cs) known) js h f) (λ fs gs. refl) (λ fs gs. refl) g)) known i
      ∙ then_same (λ (g : Formula). when (is_swapped (map (meant cs) known) js g f) f) (λ (g : Formula). when (is_swapped known js g f) f) (λ g. ap (λ v. when v f) (swapped_known known js g f)) (slice_get known i)

  weighted_same : (known : List Formula) (a : LinearSum) (ps : List (ℕ × ℤ)) → weighted cs (map (meant cs) known) a ps ≡ weighted cs known a ps
  weighted_same known a [] = refl
  weighted_same known a (p ∷ ps) =
      ap (option_and_then (λ (fact : SumFact). option_and_then (λ (b : LinearSum). weighted cs (map (meant cs) known) b ps) (add_weighted p.1 a fact)))
      (known_same (sum_fact_of cs) (alike (sum_fact_of cs) (λ fs gs. refl) (λ fs gs. refl)) known p.0)
      ∙ then_same (λ (fact : SumFact). option_and_then (λ (b : LinearSum). weighted cs (map (meant cs) known) b ps) (add_weighted p.1 a fact)) (λ (fact : SumFact). option_and_then (λ (b : LinearSum). weighted cs known b ps) (add_weighted p.1 a fact))
      (λ fact. then_same (λ (b : LinearSum). weighted cs (map (meant cs) known) b ps) (λ (b : LinearSum). weighted cs known b ps) (λ b. weighted_same known b ps) (add_weighted p.1 a fact)) (option_and_then (sum_fact_of cs) (slice_get known p.0))

  -- ---- facts

  pub facts_same : (b : Forms) (premises : List Formula) (goal : Formula) (known : List Formula) (line : Line) →
      ((i j : ℕ) → line ≡ Part i j → ⊥) → ((f : FormulaId) (ts : Vec TermId Global) → line ≡ Choose f ts → ⊥) →
      fact_of cs premises goal (map (meant cs) known) (line_in b line) ≡ fact_of cs premises goal known (line_in b line)
  facts_same b ps goal known (Premise i) p c = refl
  facts_same b ps goal known Denied p c = refl
  facts_same b ps goal known (Part i j) p c = absurd (p i j refl)
  facts_same b ps goal known (Split i k) p c = refl
  facts_same b ps goal known (Cut f) p c = refl
  facts_same b ps goal known (Inst i ts) p c = instance_same (terms_at b ts.items) known i
  facts_same b ps goal known (Choose f ts) p c = absurd (c f ts refl)
  facts_same b ps goal known (Rule name ts) p c = refl
  facts_same b ps goal known (Good name i ts) p c = ap (option_and_then (λ (s : Term). good_instance_of cs name s (terms_at b ts.items))) (store_same known i)
  facts_same b ps goal known (Invariants i ts) p c = ap (option_and_then (λ (s : Term). invariants_of cs s (terms_at b ts.items))) (store_same known i)
  facts_same b ps goal known (Chain x y path) p c = ap (option_and_then (λ (z : Term). when (same_term z (term_at b y)) (equal (term_at b x) (term_at b y)))) (walk_same known (term_at b x) path.items)
  facts_same b ps goal known (Cong x y js) p c = ap (λ v. when v (equal (term_at b x) (term_at b y))) (congruent_same known js.items (term_at b x) (term_at b y))
  facts_same b ps goal known (Swap i f js) p c = swap_same known i (formula_at b f) js.items
  facts_same b ps goal known (Sum s) p c = ap (λ (o : Option LinearSum). if is_positive s.divisor then option_and_then (bounded s.divisor) o else None) (weighted_same known (number_sum (pos 0)) s.parts.items)
  facts_same b ps goal known (Clash i j) p c = refl
  facts_same b ps goal known Case p c = refl

  -- the parts of an `and` that isn't delayed
  pub part_plain : (j : ℕ) (f : Formula) → delayed_in cs f ≡ None → part_of j (meant cs f) ≡ part_of j f
  part_plain j (Literal s p ts) e = refl
  part_plain j (And fs) e = rw e refl
  part_plain j (Or fs) e = refl
  part_plain j (Forall ss f) e = refl
  part_plain j (Exists ss f) e = refl

  pub none_same : {A : Type 0} (look : Formula → Option A) (known : List Formula) (i : ℕ) → slice_get known i ≡ None → option_and_then look (slice_get (map (meant cs) known) i) ≡ option_and_then look (slice_get known i)
  none_same look known i at =
      ap (option_and_then look) (slice_get-map (meant cs) known i) ∙ ap (λ (o : Option Formula). option_and_then look (option_map (meant cs) o)) at
      ∙ sym (ap (option_and_then look) at)

  -- the parts of one that is
  part_put : (ts : List Term) (fs : Formulas) (j : ℕ) → part_at (put_all ts fs) j ≡ option_map (put ts) (part_at fs j)
  part_put ts no_formulas j = refl
  part_put ts (formula_then f fs) zero = refl
  part_put ts (formula_then f fs) (suc j) = part_put ts fs j

  delayed_pair_and : (p q : Formula) (d : Formula × Term) → delayed_of cs (formula_then p (formula_then q no_formulas)) ≡ Some d → is_and d.0 ≡ true
  delayed_pair_and p q d e = by_formed (is_well_formed cs [] q) e
    where
      by_store : (o : Option Term) → is_and p ≡ true → option_map (λ t. (p, t)) o ≡ Some d → is_and d.0 ≡ true
      by_store None a h = let no : ⊥ = cc in absurd no
      by_store (Some t) a h = sym (ap (λ (c : Formula × Term). is_and c.0) (same_Some (p, t) d h)) ∙ a

      by_and : (v : Bool) → is_and p ≡ v → (if v then option_map (λ t. (p, t)) (good_store q) else None) ≡ Some d → is_and d.0 ≡ true
      by_and true a h = by_store (good_store q) a h
      by_and false a h = let no : ⊥ = cc in absurd no

      by_formed : (w : Bool) → (if w then None else if is_and p then option_map (λ t. (p, t)) (good_store q) else None) ≡ Some d → is_and d.0 ≡ true
      by_formed true h = let no : ⊥ = cc in absurd no
      by_formed false h = by_and (is_and p) refl h

  delayed_and : (fs : Formulas) (d : Formula × Term) → delayed_of cs fs ≡ Some d → is_and d.0 ≡ true
  delayed_and no_formulas d e = let no : ⊥ = cc in absurd no
  delayed_and (formula_then p no_formulas) d e = let no : ⊥ = cc in absurd no
  delayed_and (formula_then p (formula_then q no_formulas)) d e = delayed_pair_and p q d e
  delayed_and (formula_then p (formula_then q (formula_then r fs))) d e = let no : ⊥ = cc in absurd no

  and_put : (ts : List Term) (p : Formula) → is_and p ≡ true → And (put_all ts (parts_of p)) ≡ put ts p
  and_put ts (Literal s q xs) a = let no : ⊥ = cc in absurd no
  and_put ts (And fs) a = refl
  and_put ts (Or fs) a = let no : ⊥ = cc in absurd no
  and_put ts (Forall ss f) a = let no : ⊥ = cc in absurd no
  and_put ts (Exists ss f) a = let no : ⊥ = cc in absurd no

  pub whole_and : (fs : Formulas) → meant_alone cs (And fs) ≡ meant cs (And fs)
  whole_and fs = by_delayed (delayed_of cs fs) refl
    where
      by_delayed : (o : Option (Formula × Term)) → delayed_of cs fs ≡ o → meant_alone cs (And fs) ≡ meant cs (And fs)
      by_delayed None e = rw e refl
      by_delayed (Some d) e = rw e (sym (and_put (d.1 ∷ []) d.0 (delayed_and fs d e)))

  part_and_put : (j : ℕ) (ts : List Term) (p : Formula) → is_and p ≡ true → part_of j (put ts p) ≡ option_map (put ts) (part_of j p)
  part_and_put j ts (Literal s q xs) a = let no : ⊥ = cc in absurd no
  part_and_put j ts (And fs) a = part_put ts fs j
  part_and_put j ts (Or fs) a = let no : ⊥ = cc in absurd no
  part_and_put j ts (Forall ss f) a = let no : ⊥ = cc in absurd no
  part_and_put j ts (Exists ss f) a = let no : ⊥ = cc in absurd no

  pub part_delayed : (j : ℕ) (f : Formula) (d : Formula × Term) → delayed_in cs f ≡ Some d → part_of j (meant cs f) ≡ option_map (put (d.1 ∷ [])) (part_of j d.0)
  part_delayed j (Literal s p ts) d e = let no : ⊥ = cc in absurd no
  part_delayed j (And fs) d e =
      let whole : meant cs (And fs) ≡ put (d.1 ∷ []) d.0 = sym (whole_and fs) ∙ rw e refl in
      ap (part_of j) whole ∙ part_and_put j (d.1 ∷ []) d.0 (delayed_and fs d e)
  part_delayed j (Or fs) d e = let no : ⊥ = cc in absurd no
  part_delayed j (Forall ss f) d e = let no : ⊥ = cc in absurd no
  part_delayed j (Exists ss f) d e = let no : ⊥ = cc in absurd no

  -- an `and` beside a literal that names a term
  pub delayed_means : (p name : Formula) (t : Term) → is_and p ≡ true → name ≡ Literal true GoodStore (term_then t no_terms) → is_well_formed cs [] name ≡ false →
      meant cs (And (formula_then p (formula_then name no_formulas))) ≡ put (t ∷ []) p
  delayed_means p name t a e w =
      let named : good_store name ≡ Some t = ap good_store e in
      sym (whole_and (formula_then p (formula_then name no_formulas))) ∙ rw (w, a, named) refl

  -- ---- cases

  count_meant : (fs : Formulas) → count_of (all_meant cs fs) ≡ count_of fs
  count_meant no_formulas = refl
  count_meant (formula_then f fs) = ap suc (count_meant fs)

  list_meant : (fs : Formulas) → formula_list (all_meant cs fs) ≡ map (meant cs) (formula_list fs)
  list_meant no_formulas = refl
  list_meant (formula_then f fs) = ap (λ gs. meant cs f ∷ gs) (list_meant fs)

  cases_same : (k : ℕ) (f : Formula) → cases_of k (meant cs f) ≡ option_map (map (meant cs)) (cases_of k f)
  cases_same k (Literal s p ts) = refl
  cases_same k (And fs) = refl
  cases_same k (Or fs) =
      ap (λ n. when (n == k) (formula_list (all_meant cs fs))) (count_meant fs)
      ∙ ap (λ (gs : List Formula). when (count_of fs == k) gs) (list_meant fs)
      ∙ when_mapped (map (meant cs)) (count_of fs == k) (formula_list fs)
  cases_same k (Forall ss f) = refl
  cases_same k (Exists ss f) = refl

  opened_list : (known : List Formula) (waiting : List (List Formula)) (fs : List Formula) →
      map (λ f. map (meant cs) known ++ f ∷ []) (map (meant cs) fs) ++ map (map (meant cs)) waiting ≡ map (map (meant cs)) (map (λ f. known ++ f ∷ []) fs ++ waiting)
  opened_list known waiting [] = refl
  opened_list known waiting (f ∷ fs) =
      ap (λ c. c ∷ (map (λ g. map (meant cs) known ++ g ∷ []) (map (meant cs) fs) ++ map (map (meant cs)) waiting)) (sym (map_push (meant cs) known f))
      ∙ ap (λ rest. map (meant cs) (known ++ f ∷ []) ∷ rest) (opened_list known waiting fs)

  opened_same : (known : List Formula) (waiting : List (List Formula)) (fs : List Formula) → open_cases (map (meant cs) known) (map (map (meant cs)) waiting) (map (meant cs) fs) ≡ meant_state cs (open_cases known waiting fs)
  opened_same known waiting fs = ap Between (opened_list known waiting fs)

  split_same : (known : List Formula) (waiting : List (List Formula)) (k i : ℕ) →
      split_case (map (meant cs) known) (map (map (meant cs)) waiting) k (slice_get (map (meant cs) known) i) ≡ option_map (meant_state cs) (split_case known waiting k (slice_get known i))
  split_same known waiting k i = ap (split_case (map (meant cs) known) (map (map (meant cs)) waiting) k) (slice_get-map (meant cs) known i) ∙ by_known (slice_get known i)
    where
      by_cases : (o : Option (List Formula)) →
          option_and_then (λ (fs : List Formula). Some (open_cases (map (meant cs) known) (map (map (meant cs)) waiting) fs)) (option_map (map (meant cs)) o) ≡ option_map (meant_state cs) (option_and_then (λ (fs : List Formula). Some (open_cases known waiting fs)) o)
      by_cases None = refl
      by_cases (Some fs) = ap Some (opened_same known waiting fs)

      by_known : (o : Option Formula) → split_case (map (meant cs) known) (map (map (meant cs)) waiting) k (option_map (meant cs) o) ≡ option_map (meant_state cs) (split_case known waiting k o)
      by_known None = refl
      by_known (Some f) = ap (option_and_then (λ (fs : List Formula). Some (open_cases (map (meant cs) known) (map (map (meant cs)) waiting) fs))) (cases_same k f) ∙ by_cases (cases_of k f)

  both_ways : (known : List Formula) (waiting : List (List Formula)) (f : Formula) → meant cs f ≡ f → meant cs (neg f) ≡ neg f →
      cut_case cs (map (meant cs) known) (map (map (meant cs)) waiting) f ≡ option_map (meant_state cs) (cut_case cs known waiting f)
  both_ways known waiting f e n =
      let opened : open_cases (map (meant cs) known) (map (map (meant cs)) waiting) (f ∷ neg f ∷ []) ≡ meant_state cs (open_cases known waiting (f ∷ neg f ∷ [])) =
      ap (λ (g : Formula). open_cases (map (meant cs) known) (map (map (meant cs)) waiting) (g ∷ neg f ∷ [])) (sym e)
      ∙ ap (λ (g : Formula). open_cases (map (meant cs) known) (map (map (meant cs)) waiting) (meant cs f ∷ g ∷ [])) (sym n)
      ∙ opened_same known waiting (f ∷ neg f ∷ []) in
      ap (λ (s : State). when (is_cut f && is_well_formed cs [] f) s) opened ∙ when_mapped (meant_state cs) (is_cut f && is_well_formed cs [] f) (open_cases known waiting (f ∷ neg f ∷ []))

  cut_same : (known : List Formula) (waiting : List (List Formula)) (f : Formula) → cut_case cs (map (meant cs) known) (map (map (meant cs)) waiting) f ≡ option_map (meant_state cs) (cut_case cs known waiting f)
  cut_same known waiting (Literal s p ts) = both_ways known waiting (Literal s p ts) refl refl
  cut_same known waiting (And fs) = refl
  cut_same known waiting (Or fs) = refl
  cut_same known waiting (Forall ss f) = both_ways known waiting (Forall ss f) refl refl
  cut_same known waiting (Exists ss f) = both_ways known waiting (Exists ss f) refl refl

  opposed_same : (f g : Formula) → is_opposed (meant cs f) (meant cs g) ≡ is_opposed f g
  opposed_same (Literal s p ts) g =
      alike (λ (h : Formula). is_opposed (Literal s p ts) h)
      (λ fs gs. differ (Literal (not s) p ts) (And fs) (λ e. let no : ⊥ = cc in no) ∙ sym (differ (Literal (not s) p ts) (And gs) (λ e. let no : ⊥ = cc in no)))
      (λ fs gs. differ (Literal (not s) p ts) (Or fs) (λ e. let no : ⊥ = cc in no) ∙ sym (differ (Literal (not s) p ts) (Or gs) (λ e. let no : ⊥ = cc in no))) g
  opposed_same (And fs) g = refl
  opposed_same (Or fs) g = refl
  opposed_same (Forall ss f) g =
      alike (λ (h : Formula). is_opposed (Forall ss f) h)
      (λ fs gs. differ (Exists ss (neg f)) (And fs) (λ e. let no : ⊥ = cc in no) ∙ sym (differ (Exists ss (neg f)) (And gs) (λ e. let no : ⊥ = cc in no)))
      (λ fs gs. differ (Exists ss (neg f)) (Or fs) (λ e. let no : ⊥ = cc in no) ∙ sym (differ (Exists ss (neg f)) (Or gs) (λ e. let no : ⊥ = cc in no))) g
  opposed_same (Exists ss f) g =
      alike (λ (h : Formula). is_opposed (Exists ss f) h)
      (λ fs gs. differ (Forall ss (neg f)) (And fs) (λ e. let no : ⊥ = cc in no) ∙ sym (differ (Forall ss (neg f)) (And gs) (λ e. let no : ⊥ = cc in no)))
      (λ fs gs. differ (Forall ss (neg f)) (Or fs) (λ e. let no : ⊥ = cc in no) ∙ sym (differ (Forall ss (neg f)) (Or gs) (λ e. let no : ⊥ = cc in no))) g

  clash_options : (i j : ℕ) (o r : Option Formula) → is_clash i j (option_map (meant cs) o) (option_map (meant cs) r) ≡ is_clash i j o r
  clash_options i j None r = refl
  clash_options i j (Some f) None = refl
  clash_options i j (Some f) (Some g) =
      ap (λ v. v || i == j && is_absurd (meant cs f)) (opposed_same f g) ∙ ap (λ v. is_opposed f g || i == j && v) (alike is_absurd (λ fs gs. refl) (λ fs gs. refl) f)

  close_same : (known : List Formula) (waiting : List (List Formula)) (i j : ℕ) → close_case (map (meant cs) known) (map (map (meant cs)) waiting) i j ≡ option_map (meant_state cs) (close_case known waiting i j)
  close_same known waiting i j =
      let same : is_clash i j (slice_get (map (meant cs) known) i) (slice_get (map (meant cs) known) j) ≡ is_clash i j (slice_get known i) (slice_get known j) =
      ap (λ o. is_clash i j o (slice_get (map (meant cs) known) j)) (slice_get-map (meant cs) known i)
      ∙ ap (is_clash i j (option_map (meant cs) (slice_get known i))) (slice_get-map (meant cs) known j)
      ∙ clash_options i j (slice_get known i) (slice_get known j) in
      ap (λ v. when v (Between (map (map (meant cs)) waiting))) same ∙ when_mapped (meant_state cs) (is_clash i j (slice_get known i) (slice_get known j)) (Between waiting)

  -- ---- lines

  added_plain : (known : List Formula) (waiting : List (List Formula)) (o : Option Formula) → add_fact cs (map (meant cs) known) (map (map (meant cs)) waiting) o ≡ option_map (meant_state cs) (add_fact cs known waiting o)
  added_plain known waiting None = refl
  added_plain known waiting (Some f) = by_formed (is_well_formed cs [] f) refl
    where
      by_formed : (v : Bool) → is_well_formed cs [] f ≡ v → add_fact cs (map (meant cs) known) (map (map (meant cs)) waiting) (Some f) ≡ option_map (meant_state cs) (add_fact cs known waiting (Some f))
      by_formed true e =
          let pushed : map (meant cs) known ++ f ∷ [] ≡ map (meant cs) (known ++ f ∷ []) = ap (λ g. map (meant cs) known ++ g ∷ []) (sym (meant_formed f e)) ∙ sym (map_push (meant cs) known f) in
          rw e (ap (λ (ks : List Formula). Some (Open ks (map (map (meant cs)) waiting))) pushed)
      by_formed false e = rw e refl

  added_same : (known : List Formula) (waiting : List (List Formula)) (fact plain : Option Formula) → fact ≡ plain →
      add_fact cs (map (meant cs) known) (map (map (meant cs)) waiting) fact ≡ option_map (meant_state cs) (add_fact cs known waiting plain)
  added_same known waiting fact plain e = ap (add_fact cs (map (meant cs) known) (map (map (meant cs)) waiting)) e ∙ added_plain known waiting plain

  module _ (b : Forms) (premises : List Formula) (goal : Formula) where
    pub open_same : (known : List Formula) (waiting : List (List Formula)) (line : Line) →
        fact_of cs premises goal (map (meant cs) known) (line_in b line) ≡ fact_of cs premises goal known (line_in b line) →
        step_open cs premises goal (map (meant cs) known) (map (map (meant cs)) waiting) (line_in b line) ≡ option_map (meant_state cs) (step_open cs premises goal known waiting (line_in b line))
    open_same known w (Premise i) e = added_same known w _ _ e
    open_same known w Denied e = added_same known w _ _ e
    open_same known w (Part i j) e = added_same known w _ _ e
    open_same known w (Split i k) e = split_same known w k i
    open_same known w (Cut f) e = cut_same known w (formula_at b f)
    open_same known w (Inst i ts) e = added_same known w _ _ e
    open_same known w (Choose f ts) e = added_same known w _ _ e
    open_same known w (Rule name ts) e = added_same known w _ _ e
    open_same known w (Good name i ts) e = added_same known w _ _ e
    open_same known w (Invariants i ts) e = added_same known w _ _ e
    open_same known w (Chain x y path) e = added_same known w _ _ e
    open_same known w (Cong x y js) e = added_same known w _ _ e
    open_same known w (Swap i f js) e = added_same known w _ _ e
    open_same known w (Sum s) e = added_same known w _ _ e
    open_same known w (Clash i j) e = close_same known w i j
    open_same known w Case e = refl

    between_same : (waiting : List (List Formula)) (line : Line) →
        step_between cs premises goal (map (map (meant cs)) waiting) (line_in b line) ≡ option_map (meant_state cs) (step_between cs premises goal waiting (line_in b line))
    between_same [] line = refl
    between_same (k ∷ w) (Premise i) = refl
    between_same (k ∷ w) Denied = refl
    between_same (k ∷ w) (Part i j) = refl
    between_same (k ∷ w) (Split i n) = refl
    between_same (k ∷ w) (Cut f) = refl
    between_same (k ∷ w) (Inst i ts) = refl
    between_same (k ∷ w) (Choose f ts) = refl
    between_same (k ∷ w) (Rule name ts) = refl
    between_same (k ∷ w) (Good name i ts) = refl
    between_same (k ∷ w) (Invariants i ts) = refl
    between_same (k ∷ w) (Chain x y path) = refl
    between_same (k ∷ w) (Cong x y js) = refl
    between_same (k ∷ w) (Swap i f js) = refl
    between_same (k ∷ w) (Sum s) = refl
    between_same (k ∷ w) (Clash i j) = refl
    between_same (k ∷ w) Case = refl

    pub closed_same : (o : Bool) (known : List FormulaId) (waiting : List (ℕ × FormulaId)) (line : Line) → o ≡ false →
        step cs premises goal (meant_state cs (state_of b o known waiting)) (line_in b line) ≡ option_map (meant_state cs) (step cs premises goal (state_of b o known waiting) (line_in b line))
    closed_same false known waiting line e = between_same (waiting_of b known waiting) line
    closed_same true known waiting line e = let no : ⊥ = cc in absurd no

  pub stepped : (yes : Bool) (o p : Option State) (s : State) → p ≡ option_map (meant_state cs) o → IsStepped yes o s → IsStepped yes p (meant_state cs s)
  stepped true o p s e h = e ∙ ap (option_map (meant_state cs)) h
  stepped false o p s e h = e ∙ ap (option_map (meant_state cs)) h

  -- what is told is added

  none_added : (known : List Formula) (waiting : List (List Formula)) (fact : Option Formula) → formed_fact cs fact ≡ None → add_fact cs known waiting fact ≡ None
  none_added known waiting None e = refl
  none_added known waiting (Some f) e = by_formed (is_well_formed cs [] f) refl
    where
      by_formed : (v : Bool) → is_well_formed cs [] f ≡ v → add_fact cs known waiting (Some f) ≡ None
      by_formed true h = let none : Some f ≡ None = sym (ap (λ v. when v f) h) ∙ e in let no : ⊥ = cc in absurd no
      by_formed false h = rw h refl

  fact_added : (known : List Formula) (waiting : List (List Formula)) (fact : Option Formula) (x : Formula) → formed_fact cs fact ≡ Some x → add_fact cs known waiting fact ≡ Some (Open (known ++ x ∷ []) waiting)
  fact_added known waiting None x e = let no : ⊥ = cc in absurd no
  fact_added known waiting (Some f) x e =
      let p = when_some (is_well_formed cs [] f) f x e in
      rw p.0 (ap (λ (g : Formula). Some (Open (known ++ g ∷ []) waiting)) p.1)

  pub formed_some : (f : Formula) → is_well_formed cs [] f ≡ true → formed_fact cs (Some f) ≡ Some (meant cs f)
  formed_some f h = rw h (ap Some (sym (meant_formed f h)))

  pub formed_none : (f : Formula) → is_well_formed cs [] f ≡ false → formed_fact cs (Some f) ≡ None
  formed_none f h = rw h refl

  pub none_put : (ts : List Term) (o : Option Formula) → o ≡ None → formed_fact cs (option_map (put ts) o) ≡ None
  none_put ts o e = ap (λ (x : Option Formula). formed_fact cs (option_map (put ts) x)) e

  pub formed_told : (fact : Option Formula) (x : Formula) → fact ≡ Some x → is_well_formed cs [] x ≡ true → formed_fact cs fact ≡ Some x
  formed_told fact x e h = rw (e, h) refl

  module _ (a b : Forms) (grown : IsGrown a b) (premises : List FormulaId) (below : HasFormulas a premises) (goal : FormulaId) (in_bank : HasFormula a goal)
      (known : List FormulaId) (waiting : List (ℕ × FormulaId)) (fine : AreCases a known waiting) (line : Line) where
    moved : (within : LineWithin a line) (o : Bool) → step cs (formulas_at b premises) (formula_at b goal) (state_of b o known waiting) (line_in b line) ≡ step cs (formulas_at a premises) (formula_at a goal) (state_of a o known waiting) (line_in a line)
    moved within o =
        ap (λ ps. step cs ps (formula_at b goal) (state_of b o known waiting) (line_in b line)) (formulas_at-grown a b grown premises below)
        ∙ ap (λ g. step cs (formulas_at a premises) g (state_of b o known waiting) (line_in b line)) (grown.same_formulas goal in_bank)
        ∙ ap (λ s. step cs (formulas_at a premises) (formula_at a goal) s (line_in b line)) (state_of-grown a b grown o known waiting fine)
        ∙ ap (λ l. step cs (formulas_at a premises) (formula_at a goal) (state_of a o known waiting) l) (line_in-grown a b grown line within)

    -- the line does the same whether formulas stand for others or not
    pub plain_same : LineWithin a line → (o : Bool) → o ≡ true →
        fact_of cs (formulas_at a premises) (formula_at a goal) (map (meant cs) (formulas_at a known)) (line_in a line) ≡ fact_of cs (formulas_at a premises) (formula_at a goal) (formulas_at a known) (line_in a line) →
        step cs (formulas_at a premises) (formula_at a goal) (meant_state cs (state_of a o known waiting)) (line_in a line)
        ≡ option_map (meant_state cs) (step cs (formulas_at b premises) (formula_at b goal) (state_of b o known waiting) (line_in b line))
    plain_same within true is e =
        open_same a (formulas_at a premises) (formula_at a goal) (formulas_at a known) (waiting_of a known waiting) line e ∙ ap (option_map (meant_state cs)) (sym (moved within true))
    plain_same within false is e = let no : ⊥ = cc in absurd no

    module _ (adds : AddsFact cs (formulas_at a premises) (formula_at a goal) (line_in a line)) where
      pub nothing_told : (o : Bool) → o ≡ true → formed_fact cs (fact_of cs (formulas_at a premises) (formula_at a goal) (map (meant cs) (formulas_at a known)) (line_in a line)) ≡ None →
          step cs (formulas_at a premises) (formula_at a goal) (meant_state cs (state_of a o known waiting)) (line_in a line) ≡ None
      nothing_told true is e =
          adds (map (meant cs) (formulas_at a known)) (map (map (meant cs)) (waiting_of a known waiting))
          ∙ none_added (map (meant cs) (formulas_at a known)) (map (map (meant cs)) (waiting_of a known waiting)) (fact_of cs (formulas_at a premises) (formula_at a goal) (map (meant cs) (formulas_at a known)) (line_in a line)) e
      nothing_told false is e = let no : ⊥ = cc in absurd no

      pub fact_told : (f : FormulaId) (s : State) (o : Bool) → o ≡ true →
          formed_fact cs (fact_of cs (formulas_at a premises) (formula_at a goal) (map (meant cs) (formulas_at a known)) (line_in a line)) ≡ Some (meant cs (formula_at b f)) →
          Open (formulas_at b known ++ formula_at b f ∷ []) (waiting_of b known waiting) ≡ s →
          step cs (formulas_at a premises) (formula_at a goal) (meant_state cs (state_of a o known waiting)) (line_in a line) ≡ Some (meant_state cs s)
      fact_told f s true is e learnt =
          let ks = formulas_at-grown a b grown known fine.known in
          let ws : waiting_of b known waiting ≡ waiting_of a known waiting = cases_from-grown a b grown known fine.known (length known) (reverse waiting) fine.waiting in
          let pushed : map (meant cs) (formulas_at a known) ++ meant cs (formula_at b f) ∷ [] ≡ map (meant cs) (formulas_at b known ++ formula_at b f ∷ []) =
          ap (λ (xs : List Formula). map (meant cs) xs ++ meant cs (formula_at b f) ∷ []) (sym ks) ∙ sym (map_push (meant cs) (formulas_at b known) (formula_at b f)) in
          adds (map (meant cs) (formulas_at a known)) (map (map (meant cs)) (waiting_of a known waiting))
          ∙ fact_added (map (meant cs) (formulas_at a known)) (map (map (meant cs)) (waiting_of a known waiting)) (fact_of cs (formulas_at a premises) (formula_at a goal) (map (meant cs) (formulas_at a known)) (line_in a line)) (meant cs (formula_at b f)) e
          ∙ ap (λ (xs : List Formula). Some (Open xs (map (map (meant cs)) (waiting_of a known waiting)))) pushed
          ∙ ap (λ (xs : List (List Formula)). Some (Open (map (meant cs) (formulas_at b known ++ formula_at b f ∷ [])) (map (map (meant cs)) xs))) (sym ws)
          ∙ ap (λ (t : State). Some (meant_state cs t)) learnt
      fact_told f s false is e learnt = let no : ⊥ = cc in absurd no

  -- ---- numbers of a bank

  pub both_some : (b : Forms) (fs : List FormulaId) (p q : FormulaId) → both_of fs ≡ Some (p, q) → delayed_of cs (formulas_from (formulas_at b fs)) ≡ delayed_pair cs (formula_at b p) (formula_at b q)
  both_some b [] p q e = let no : ⊥ = cc in absurd no
  both_some b (x ∷ []) p q e = let no : ⊥ = cc in absurd no
  both_some b (x ∷ y ∷ []) p q e = ap (λ (d : FormulaId × FormulaId). delayed_pair cs (formula_at b d.0) (formula_at b d.1)) (same_Some (x, y) (p, q) e)
  both_some b (x ∷ y ∷ z ∷ fs) p q e = let no : ⊥ = cc in absurd no

  pub both_none : (b : Forms) (fs : List FormulaId) → both_of fs ≡ None → delayed_of cs (formulas_from (formulas_at b fs)) ≡ None
  both_none b [] e = refl
  both_none b (x ∷ []) e = refl
  both_none b (x ∷ y ∷ []) e = let no : ⊥ = cc in absurd no
  both_none b (x ∷ y ∷ z ∷ fs) e = refl

  pub delayed_form : (b : Forms) (f : FormulaId) (v : SmallVec FormulaId) (r : Option (FormulaId × TermId)) → IsFormulaForm b f (AndForm v) →
      IsDelayed b r (delayed_of cs (formulas_from (formulas_at b v.items))) → IsDelayed b r (delayed_in cs (formula_at b f))
  delayed_form b f v r n h = rw n.built h

  pub other_meant : (b : Forms) (f : FormulaId) (n : Form) → IsFormulaForm b f n → ((v : SmallVec FormulaId) → n ≡ OrForm v → ⊥) → meant_alone cs (formula_at b f) ≡ meant cs (formula_at b f)
  other_meant b f (LiteralForm s p ts) i not_or = rw i.built refl
  other_meant b f (AndForm v) i not_or = rw i.built (whole_and (formulas_from (formulas_at b v.items)))
  other_meant b f (OrForm v) i not_or = absurd (not_or v refl)
  other_meant b f (ForallForm ss g) i not_or = rw i.built refl
  other_meant b f (ExistsForm ss g) i not_or = rw i.built refl

  pub meant_or : (a b : Forms) (f : FormulaId) (v : SmallVec FormulaId) (made : List FormulaId) → IsFormulaForm a f (OrForm v) → formulas_at b made ≡ map (meant cs) (formulas_at a v.items) →
      Or (formulas_from (formulas_at b made)) ≡ meant cs (formula_at a f)
  meant_or a b f v made n e = ap (λ xs. Or (formulas_from xs)) e ∙ sym (ap Or (all_meant-map (formulas_at a v.items))) ∙ sym (ap (meant cs) n.built)

  pub or_listed : (b : Forms) (made : List FormulaId) (fs : List Formula) → map (meant cs) (formulas_at b made) ≡ fs → meant cs (Or (formulas_from (formulas_at b made))) ≡ Or (formulas_from fs)
  or_listed b made fs e = ap Or (all_meant-map (formulas_at b made)) ∙ ap (λ xs. Or (formulas_from xs)) e

  pub or_is_put : (a : Forms) (f : FormulaId) (v : SmallVec FormulaId) (fs : List FormulaId) (ts : List Term) → IsFormulaForm a f (OrForm v) → fs ≡ v.items → Or (formulas_from (map (put ts) (formulas_at a fs))) ≡ put ts (formula_at a f)
  or_is_put a f v fs ts n e = ap (λ xs. Or (formulas_from (map (put ts) (formulas_at a xs)))) e ∙ sym (ap Or (put_all-map ts (formulas_at a v.items))) ∙ sym (ap (put ts) n.built)

  pub option_equal : {E : Type 0} (r : Result (Option FormulaId) E) (b : Forms) (x y : Formula) → x ≡ y →
      IfOk r (λ o. IfSome o (λ g. HasFormula b g × (meant cs (formula_at b g) ≡ x))) → IfOk r (λ o. IfSome o (λ g. HasFormula b g × (meant cs (formula_at b g) ≡ y)))
  option_equal (Ok None) b x y e h = tt
  option_equal (Ok (Some g)) b x y e h = (h.0, h.1 ∙ e)
  option_equal (Err z) b x y e h = tt

  pub look_meant : {A : Type 0} (look : Formula → Option A) (f : Formula) (known : List Formula) (i : ℕ) → slice_get known i ≡ Some f → option_and_then look (slice_get (map (meant cs) known) i) ≡ look (meant cs f)
  look_meant look f known i at = ap (option_and_then look) (slice_get-map (meant cs) known i) ∙ ap (λ (o : Option Formula). option_and_then look (option_map (meant cs) o)) at

  -- one more is done
  pub meant_more : (op : Formula → Formula) (a b c : Forms) (fs made : List FormulaId) (bound k : ℕ) (d g : FormulaId) → IsGrown a b → IsGrown b c →
      AreBelow bound fs → bound ≤ length a.formulas * 2 → k < length fs → HasFormulas b made →
      map (meant cs) (formulas_at b made) ≡ map op (formulas_at a (take k fs)) → meant cs (formula_at c g) ≡ op (formula_at b (get_or fs k d)) →
      map (meant cs) (formulas_at c (made ++ g ∷ [])) ≡ map op (formulas_at a (take (k + 1) fs))
  meant_more op a b c fs made bound k d g ab bc h l in_fs low e n =
      let f = get_or fs k d in
      let small = AreBelow-get bound fs k d h in_fs in
      let same : formula_at b f ≡ formula_at a f = ab.same_formulas f (omega (arith, small)) in
      ap (map (meant cs)) (map_push (formula_at c) made g)
      ∙ map_push (meant cs) (formulas_at c made) (formula_at c g)
      ∙ ap (λ zs. map (meant cs) zs ++ meant cs (formula_at c g) ∷ []) (formulas_at-grown b c bc made low)
      ∙ ap (λ zs. zs ++ meant cs (formula_at c g) ∷ []) e
      ∙ ap (λ z. map op (formulas_at a (take k fs)) ++ z ∷ []) (n ∙ ap op same)
      ∙ sym (map_push op (formulas_at a (take k fs)) (formula_at a f))
      ∙ ap (map op) (sym (map_push (formula_at a) (take k fs) f))
      ∙ ap (λ zs. map op (formulas_at a zs)) (sym (take_more fs k d in_fs))

  pub instance_formed : (ts : List Term) (f x : Formula) → is_well_formed cs [] f ≡ true → body_at cs ts f ≡ Some x → is_well_formed cs [] x ≡ true
  instance_formed ts (Literal s p xs) x h e = let no : ⊥ = cc in absurd no
  instance_formed ts (And fs) x h e = let no : ⊥ = cc in absurd no
  instance_formed ts (Or fs) x h e = let no : ⊥ = cc in absurd no
  instance_formed ts (Forall ss g) x h e =
      let p = when_some (have_sorts cs ss ts) (put ts g) x e in
      subst (λ (y : Formula). is_well_formed cs [] y ≡ true) p.1 (forall_formed cs ss g ts h p.0)
  instance_formed ts (Exists ss g) x h e = let no : ⊥ = cc in absurd no

pub both_there : (n : ℕ) (fs : List FormulaId) (p q : FormulaId) → AreBelow n fs → both_of fs ≡ Some (p, q) → (p.0 < n) × (q.0 < n)
both_there n [] p q h e = let no : ⊥ = cc in absurd no
both_there n (x ∷ []) p q h e = let no : ⊥ = cc in absurd no
both_there n (x ∷ y ∷ []) p q h e = subst (λ (d : FormulaId × FormulaId). (d.0.0 < n) × (d.1.0 < n)) (same_Some (x, y) (p, q) e) (h.0, h.1.0)
both_there n (x ∷ y ∷ z ∷ fs) p q h e = let no : ⊥ = cc in absurd no

-- the line is told of where it makes its fact known alone
pub adds_any : {E : Type 0} (r : Result Told E) (cs : List ClassTree) (premises : List Formula) (goal : Formula) (line : TreeLine) → AddsFact cs premises goal line → IfOk r (λ x. is_plain x ≡ false → AddsFact cs premises goal line)
adds_any (Ok x) cs ps goal line adds = λ h. adds
adds_any (Err e) cs ps goal line adds = tt

pub told_equal : {E : Type 0} (r : Result Told E) (cs : List ClassTree) (b : Forms) (x y plain fact : Option Formula) → x ≡ y → plain ≡ fact → IfOk r (λ o. IsTold cs b o x plain) → IfOk r (λ o. IsTold cs b o y fact)
told_equal (Ok o) cs b x y plain fact e d h = subst (λ z. IsTold cs b o y z) d (subst (λ z. IsTold cs b o z plain) e h)
told_equal (Err z) cs b x y plain fact e d h = tt

pub number_there : (b : Forms) (o : Option FormulaId) (fact : Option Formula) → IsNumberOf b o fact → IfSome o (λ f. HasFormula b f)
number_there b None fact n = tt
number_there b (Some f) fact n = n.0

pub choice_moved : (a b : Forms) → IsGrown a b → (premises : List FormulaId) → HasFormulas a premises → (goal : FormulaId) → HasFormula a goal → (f : FormulaId) → HasFormula a f → (ts : List TermId) → HasTerms a ts →
    (all : List FormulaId) (known : List Formula) → formulas_at b all ≡ known →
    choice (formula_at b goal ∷ formulas_at b premises ++ formulas_at b all) (formula_at b f) (terms_at b ts) ≡ choice (formula_at a goal ∷ formulas_at a premises ++ known) (formula_at a f) (terms_at a ts)
choice_moved a b g premises ps goal in_bank f there ts terms all known e =
    ap (λ x. choice (x ∷ formulas_at b premises ++ formulas_at b all) (formula_at b f) (terms_at b ts)) (g.same_formulas goal in_bank)
    ∙ ap (λ xs. choice (formula_at a goal ∷ xs ++ formulas_at b all) (formula_at b f) (terms_at b ts)) (formulas_at-grown a b g premises ps)
    ∙ ap (λ xs. choice (formula_at a goal ∷ formulas_at a premises ++ xs) (formula_at b f) (terms_at b ts)) e
    ∙ ap (λ x. choice (formula_at a goal ∷ formulas_at a premises ++ known) x (terms_at b ts)) (g.same_formulas f there)
    ∙ ap (λ us. choice (formula_at a goal ∷ formulas_at a premises ++ known) (formula_at a f) us) (terms_at-grown a b g ts terms)

-- the end of the lines
pub done_meant : (cs : List ClassTree) (b : Forms) (o : Bool) (known : List FormulaId) (w : List (ℕ × FormulaId)) (n : ℕ) → o ≡ false → w ≡ [] → at_end (meant_state cs (state_of b o known w)) n ≡ None
done_meant cs b o known w n e f = rw (e, f) refl

pub not_done_meant : (cs : List ClassTree) (b : Forms) (o : Bool) (known : List FormulaId) (w : List (ℕ × FormulaId)) (n : ℕ) → ((o ≡ false) × (w ≡ []) → ⊥) → at_end (meant_state cs (state_of b o known w)) n ≡ Some n
not_done_meant cs b true known w n h = refl
not_done_meant cs b false known w n h = by_stack (reverse w) refl
  where
    by_stack : (s : List (ℕ × FormulaId)) → reverse w ≡ s → at_end (Between (map (map (meant cs)) (cases_from b known s))) n ≡ Some n
    by_stack [] e = absurd (h (refl, sym (reverse-reverse w) ∙ ap reverse e))
    by_stack (c ∷ s) e = refl

pub one_term : (b : Forms) (ts : List TermId) (t : TermId) → one_of ts ≡ Some t → terms_at b ts ≡ term_at b t ∷ []
one_term b [] t e = let no : ⊥ = cc in absurd no
one_term b (x ∷ []) t e = ap (λ u. term_at b u ∷ []) (same_Some x t e)
one_term b (x ∷ y ∷ ts) t e = let no : ⊥ = cc in absurd no

pub one_there : (n : ℕ) (ts : List TermId) (t : TermId) → AreTermsBelow n ts → one_of ts ≡ Some t → t.0 < n
one_there n [] t h e = let no : ⊥ = cc in absurd no
one_there n (x ∷ []) t h e = subst (λ (u : TermId). u.0 < n) (same_Some x t e) h.0
one_there n (x ∷ y ∷ ts) t h e = let no : ⊥ = cc in absurd no
