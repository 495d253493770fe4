-- What is derived is valid, where the rules are true.
use Rattle.std.proofs.Common.{◌≡◌, ℕ, ℤ, pos, negsuc, zero, suc, List, [], ◌∷◌, ◌++◌, Bool, true, false, not, ◌&&◌, ◌||◌, Option, Some, None, map, refl, sym, ◌∙◌, ap, subst, inl, inr, ◌⊎◌, ⊎_elim, eqb}
use Rattle.std.proofs.lemmas.Bool.{false≢true, and_parts, or_cases}
use Rattle.std.specs.Prelude.{option_and_then, if◌then◌else◌, slice_get}
use Rattle.std.specs.Bool.{beq}
use Rattle.ss_core.specs.Tree.{ClassTree}
use Rattle.ss_logic.specs.Values.{Value, Structure}
use Rattle.ss_logic.specs.Terms.{Number, Fixed, Null, ClassName, Term, App, Terms, no_terms, term_then, term_list, have_sorts, applied, value_of, values_of}
use Rattle.ss_logic.specs.Formulas.{Equal, AtMost, Good, Formula, Formulas, Literal, And, Or, Forall, no_formulas, formula_then, formula_list, Holds, Signed, True, AllTrue, NoneTrue, Hold, IsValid, neg, put, is_well_formed}
use Rattle.ss_logic.specs.Equal.{same_term, same_symbol, same_predicate, same_formula, equal_terms, equal_symbols, equal_predicates, equal_formulas, same_term_equal}
use Rattle.ss_logic.proofs.Truth.{not_both, neg_true, not_neg_true, instance_true}
use Rattle.ss_logic.specs.declared.RuleName.{RuleName}
use Rattle.ss_logic.specs.declared.GoodRule.{GoodRule}
use Rattle.ss_logic.specs.Shapes.{when, equal}
use Rattle.ss_logic.specs.Rules.{instance_of}
use Rattle.ss_logic.specs.GoodRules.{good_instance_of}
use Rattle.ss_logic.specs.Invariants.{invariants_of}
use Rattle.ss_logic.proofs.Summed.{sum_true}
use Rattle.ss_logic_means.specs.Steps.{Line, Premise, Denied, Part, Split, Cut, Inst, Choose, Rule, GoodLine, InvariantsLine, Chain, Cong, Swap, Sum, Clash, Case, part_at, count_of, part_of, cases_of, is_literal, is_quantified, is_cut, other_side, walk, joins, is_joined, are_exchanged, is_congruent, is_swapped, body_at, good_store, fact_of, is_value, is_false_bound, is_absurd, is_opposed, is_clash, State, Open, Between, open_cases, add_fact, step_open, step_between, step, run, Derives}
use Rattle.ss_logic_means.proofs.Chosen.{IsChoice, is_choice, choice_refutes}

pub and_then_some : {A B : Type 0} (k : A → Option B) (o : Option A) (y : B) → option_and_then k o ≡ Some y → (x : A) × (o ≡ Some x) × (k x ≡ Some y)
and_then_some k None y h = cc
and_then_some k (Some x) y h = (x, refl, h)

pub when_some : {A : Type 0} (b : Bool) (a y : A) → when b a ≡ Some y → (b ≡ true) × (a ≡ y)
when_some true a y h = (refl, cc)
when_some false a y h = cc

-- the rules are true
pub record AreRules (cs : List ClassTree) : Type 0 where
  pub every : (m : Structure) (name : RuleName) (ts : List Term) (f : Formula) → instance_of cs name ts ≡ Some f → True cs m [] f
  pub good : (m : Structure) (name : GoodRule) (s : Term) (ts : List Term) (f : Formula) → good_instance_of cs name s ts ≡ Some f → True cs m [] (Literal true Good (term_then s no_terms)) → True cs m [] f
  pub invariants : (m : Structure) (s : Term) (ts : List Term) (f : Formula) → invariants_of cs s ts ≡ Some f → True cs m [] (Literal true Good (term_then s no_terms)) → True cs m [] f

module _ (cs : List ClassTree) (m : Structure) where
  Hold-get : (fs : List Formula) (i : ℕ) (f : Formula) → Hold cs m fs → slice_get fs i ≡ Some f → True cs m [] f
  Hold-get [] i f h e = cc
  Hold-get (g ∷ fs) zero f h e = let same : g ≡ f = cc in subst (λ x. True cs m [] x) same h.0
  Hold-get (g ∷ fs) (suc i) f h e = Hold-get fs i f h.1 e

  Hold-push : (fs : List Formula) (f : Formula) → Hold cs m fs → True cs m [] f → Hold cs m (fs ++ f ∷ [])
  Hold-push [] f h t = (t, tt)
  Hold-push (g ∷ fs) f h t = (h.0, Hold-push fs f h.1 t)

  part_true : (fs : Formulas) (j : ℕ) (f : Formula) → AllTrue cs m [] fs → part_at fs j ≡ Some f → True cs m [] f
  part_true no_formulas j f h e = cc
  part_true (formula_then g fs) zero f h e = let same : g ≡ f = cc in subst (λ x. True cs m [] x) same h.0
  part_true (formula_then g fs) (suc j) f h e = part_true fs j f h.1 e

  part_of_true : (j : ℕ) (g f : Formula) → True cs m [] g → part_of j g ≡ Some f → True cs m [] f
  part_of_true j (And fs) f t e = part_true fs j f t e
  part_of_true j g f t e = cc

  -- ---- equalities

  abbrev Means : Term → Value
  Means t = value_of cs m [] t

  side_equal : (x a b y : Term) → Means a ≡ Means b → (p q : Bool) → (p ≡ true → x ≡ a) → (q ≡ true → x ≡ b) →
      (if p then Some b else when q a) ≡ Some y → Means x ≡ Means y
  side_equal x a b y t true q f g e = let w : b ≡ y = cc in ap (value_of cs m []) (f refl) ∙ t ∙ ap (value_of cs m []) w
  side_equal x a b y t false true f g e = let w : a ≡ y = cc in ap (value_of cs m []) (g refl) ∙ sym t ∙ ap (value_of cs m []) w
  side_equal x a b y t false false f g e = cc

  other_side_equal : (x : Term) (g : Formula) (y : Term) → True cs m [] g → other_side x g ≡ Some y → Means x ≡ Means y
  other_side_equal x (Literal true Equal (term_then a (term_then b no_terms))) y t e =
      side_equal x a b y t (same_term x a) (same_term x b) (equal_terms x a) (equal_terms x b) e
  other_side_equal x g y t e = cc

  walk_equal : (known : List Formula) → Hold cs m known → (x : Term) (is : List ℕ) (z : Term) → walk known x is ≡ Some z → Means x ≡ Means z
  walk_equal known h x [] z e = let same : x ≡ z = cc in ap (value_of cs m []) same
  walk_equal known h x (i ∷ is) z e =
      let p = and_then_some _ (slice_get known i) z e in
      let q = and_then_some _ (other_side x p.0) z p.2 in
      other_side_equal x p.0 q.0 (Hold-get known i p.0 h p.1) q.1 ∙ walk_equal known h q.0 is z q.2

  pair_equal : (x y a b : Term) → Means x ≡ Means y → (same_term a x && same_term b y) ≡ true → Means a ≡ Means b
  pair_equal x y a b t h =
      let p = and_parts (same_term a x) (same_term b y) h in
      ap (value_of cs m []) (equal_terms a x p.0) ∙ t ∙ sym (ap (value_of cs m []) (equal_terms b y p.1))

  joins_equal : (a b : Term) (g : Formula) → True cs m [] g → joins a b g ≡ true → Means a ≡ Means b
  joins_equal a b (Literal true Equal (term_then x (term_then y no_terms))) t h =
      ⊎_elim (λ k. pair_equal x y a b t k) (λ k. pair_equal y x a b (sym t) k)
      (or_cases (same_term a x && same_term b y) (same_term a y && same_term b x) h)
  joins_equal a b g t h = absurd (false≢true h)

  joined_equal : (known : List Formula) → Hold cs m known → (a b : Term) (j : ℕ) (o : Option Formula) → slice_get known j ≡ o → is_joined a b o ≡ true → Means a ≡ Means b
  joined_equal known h a b j (Some g) e k = joins_equal a b g (Hold-get known j g h e) k
  joined_equal known h a b j None e k = absurd (false≢true k)

  abbrev Meant : List Term → List Value
  Meant ts = map (value_of cs m []) ts

  both_equal : (a b : Term) (xs ys : List Term) → Means a ≡ Means b → Meant xs ≡ Meant ys → Meant (a ∷ xs) ≡ Meant (b ∷ ys)
  both_equal a b xs ys e es = ap (λ v. v ∷ Meant xs) e ∙ ap (λ vs. Means b ∷ vs) es

  exchanged_here : (known : List Formula) → Hold cs m known → (a b : Term) (xs ys : List Term) (j : ℕ) (js : List ℕ) (same : Bool) → (same ≡ true → a ≡ b) →
      (are_exchanged known xs ys (j ∷ js) ≡ true → Meant xs ≡ Meant ys) → (are_exchanged known xs ys js ≡ true → Meant xs ≡ Meant ys) →
      (if same then are_exchanged known xs ys (j ∷ js) else is_joined a b (slice_get known j) && are_exchanged known xs ys js) ≡ true → Meant (a ∷ xs) ≡ Meant (b ∷ ys)
  exchanged_here known h a b xs ys j js true equal_ here there e = both_equal a b xs ys (ap (value_of cs m []) (equal_ refl)) (here e)
  exchanged_here known h a b xs ys j js false equal_ here there e =
      let p = and_parts (is_joined a b (slice_get known j)) (are_exchanged known xs ys js) e in
      both_equal a b xs ys (joined_equal known h a b j (slice_get known j) refl p.0) (there p.1)

  exchanged_equal : (known : List Formula) → Hold cs m known → (xs ys : List Term) (js : List ℕ) → are_exchanged known xs ys js ≡ true → Meant xs ≡ Meant ys
  exchanged_equal known h [] [] js e = refl
  exchanged_equal known h [] (b ∷ ys) js e = absurd (false≢true e)
  exchanged_equal known h (a ∷ xs) [] js e = absurd (false≢true e)
  exchanged_equal known h (a ∷ xs) (b ∷ ys) [] e =
      let p = and_parts (same_term a b) (are_exchanged known xs ys []) e in
      both_equal a b xs ys (ap (value_of cs m []) (equal_terms a b p.0)) (exchanged_equal known h xs ys [] p.1)
  exchanged_equal known h (a ∷ xs) (b ∷ ys) (j ∷ js) e =
      exchanged_here known h a b xs ys j js (same_term a b) (equal_terms a b) (exchanged_equal known h xs ys (j ∷ js)) (exchanged_equal known h xs ys js) e

  meant_list : (ts : Terms) → values_of cs m [] ts ≡ Meant (term_list ts)
  meant_list no_terms = refl
  meant_list (term_then t ts) = ap (λ vs. Means t ∷ vs) (meant_list ts)

  lists_equal : (known : List Formula) → Hold cs m known → (ts us : Terms) (js : List ℕ) → are_exchanged known (term_list ts) (term_list us) js ≡ true → values_of cs m [] ts ≡ values_of cs m [] us
  lists_equal known h ts us js e = meant_list ts ∙ exchanged_equal known h (term_list ts) (term_list us) js e ∙ sym (meant_list us)

  congruent_equal : (known : List Formula) → Hold cs m known → (js : List ℕ) (x y : Term) → is_congruent known js x y ≡ true → Means x ≡ Means y
  congruent_equal known h js (App f (term_then x xs)) (App g ys) e =
      let p = and_parts (same_symbol f g) (are_exchanged known (x ∷ term_list xs) (term_list ys) js) e in
      ap (applied cs m f) (lists_equal known h (term_then x xs) ys js p.1) ∙ ap (λ k. applied cs m k (values_of cs m [] ys)) (equal_symbols f g p.0)
  congruent_equal known h js x y e = absurd (false≢true e)

  equal_truths : (a b : Bool) → beq a b ≡ true → a ≡ b
  equal_truths true true h = refl
  equal_truths true false h = absurd (false≢true h)
  equal_truths false true h = absurd (false≢true h)
  equal_truths false false h = refl

  swap_true : (known : List Formula) → Hold cs m known → (js : List ℕ) (g f : Formula) → True cs m [] g → is_swapped known js g f ≡ true → True cs m [] f
  swap_true known h js (Literal s p ts) (Literal r q us) t e =
      let a = and_parts (beq s r && same_predicate p q) (are_exchanged known (term_list ts) (term_list us) js) e in
      let b = and_parts (beq s r) (same_predicate p q) a.0 in
      let equal_all : Signed s (Holds cs m p (values_of cs m [] ts)) ≡ Signed r (Holds cs m q (values_of cs m [] us)) =
      ap (λ vs. Signed s (Holds cs m p vs)) (lists_equal known h ts us js a.1)
      ∙ ap (λ k. Signed s (Holds cs m k (values_of cs m [] us))) (equal_predicates p q b.1)
      ∙ ap (λ k. Signed k (Holds cs m q (values_of cs m [] us))) (equal_truths s r b.0) in
      subst (λ (X : Type 0). X) equal_all t
  swap_true known h js g f t e = absurd (false≢true e)

  -- ---- quantified formulas

  body_true : (ts : List Term) (g f : Formula) → True cs m [] g → body_at cs ts g ≡ Some f → True cs m [] f
  body_true ts (Forall ss g) f t e =
      let w = when_some (have_sorts cs ss ts) (put ts g) f e in
      subst (λ x. True cs m [] x) w.1 (instance_true cs m ss g ts w.0 t)
  body_true ts g f t e = cc

  -- ---- good stores

  good_of : (g : Formula) (s : Term) → True cs m [] g → good_store g ≡ Some s → True cs m [] (Literal true Good (term_then s no_terms))
  good_of (Literal true Good (term_then r no_terms)) s t e = let same : r ≡ s = cc in subst (λ x. True cs m [] (Literal true Good (term_then x no_terms))) same t
  good_of g s t e = cc

  -- ---- what is false

  differs : (b : Bool) → not b ≡ true → b ≡ true → ⊥
  differs true k e = false≢true k
  differs false k e = false≢true e

  -- a literal
  data IsLiteralTerm : Term → Type 0 where
    of_number : (n : ℤ) → IsLiteralTerm (App (Number n) no_terms)
    of_truth : (b : Bool) → IsLiteralTerm (App (Fixed b) no_terms)
    of_null : IsLiteralTerm (App Null no_terms)
    of_class : (t : ℕ) → IsLiteralTerm (App (ClassName t) no_terms)

  literal_term : (x : Term) → is_value x ≡ true → IsLiteralTerm x
  literal_term (App (Number n) no_terms) h = of_number n
  literal_term (App (Fixed b) no_terms) h = of_truth b
  literal_term (App Null no_terms) h = of_null
  literal_term (App (ClassName t) no_terms) h = of_class t
  literal_term x h = absurd (false≢true h)

  equal_literals : (x y : Term) → IsLiteralTerm x → IsLiteralTerm y → Means x ≡ Means y → x ≡ y
  equal_literals x y (of_number a) (of_number b) e = let same : a ≡ b = cc in ap (λ n. App (Number n) no_terms) same
  equal_literals x y (of_truth a) (of_truth b) e = let same : a ≡ b = cc in ap (λ n. App (Fixed n) no_terms) same
  equal_literals x y of_null of_null e = refl
  equal_literals x y (of_class a) (of_class b) e = let same : a ≡ b = cc in ap (λ n. App (ClassName n) no_terms) same
  equal_literals x y (of_number a) (of_truth b) e = absurd (let no : ⊥ = cc in no)
  equal_literals x y (of_number a) of_null e = absurd (let no : ⊥ = cc in no)
  equal_literals x y (of_number a) (of_class b) e = absurd (let no : ⊥ = cc in no)
  equal_literals x y (of_truth a) (of_number b) e = absurd (let no : ⊥ = cc in no)
  equal_literals x y (of_truth a) of_null e = absurd (let no : ⊥ = cc in no)
  equal_literals x y (of_truth a) (of_class b) e = absurd (let no : ⊥ = cc in no)
  equal_literals x y of_null (of_number b) e = absurd (let no : ⊥ = cc in no)
  equal_literals x y of_null (of_truth b) e = absurd (let no : ⊥ = cc in no)
  equal_literals x y of_null (of_class b) e = absurd (let no : ⊥ = cc in no)
  equal_literals x y (of_class a) (of_number b) e = absurd (let no : ⊥ = cc in no)
  equal_literals x y (of_class a) (of_truth b) e = absurd (let no : ⊥ = cc in no)
  equal_literals x y (of_class a) of_null e = absurd (let no : ⊥ = cc in no)

  values_differ : (x y : Term) → is_value x ≡ true → is_value y ≡ true → not (same_term x y) ≡ true → Means x ≡ Means y → ⊥
  values_differ x y v w n e = differs (same_term x y) n (same_term_equal x y (equal_literals x y (literal_term x v) (literal_term y w) e))

  bound_false : (x y : Term) → is_false_bound x y ≡ true → True cs m [] (Literal true AtMost (term_then x (term_then y no_terms))) → ⊥
  bound_false (App (Number (pos zero)) no_terms) (App (Number (negsuc b)) no_terms) k t = false≢true t
  bound_false x y k t = false≢true k

  absurd_false : (f : Formula) → is_absurd f ≡ true → True cs m [] f → ⊥
  absurd_false (Literal false Equal (term_then x (term_then y no_terms))) k t = t (ap (value_of cs m []) (equal_terms x y k))
  absurd_false (Literal true Equal (term_then x (term_then y no_terms))) k t =
      let p = and_parts (is_value x && is_value y) (not (same_term x y)) k in
      let q = and_parts (is_value x) (is_value y) p.0 in
      values_differ x y q.0 q.1 p.1 t
  absurd_false (Literal true AtMost (term_then x (term_then y no_terms))) k t = bound_false x y k t
  absurd_false f k t = false≢true k

  clash_refutes : (known : List Formula) (i j : ℕ) (o p : Option Formula) → slice_get known i ≡ o → slice_get known j ≡ p → is_clash i j o p ≡ true → Hold cs m known → ⊥
  clash_refutes known i j (Some f) (Some g) e d k h =
      ⊎_elim
      (λ c. let same = equal_formulas (neg f) g (and_parts (is_literal f || is_quantified f) (same_formula (neg f) g) c).1 in not_both cs m [] f (Hold-get known i f h e) (subst (λ x. True cs m [] x) (sym same) (Hold-get known j g h d)))
      (λ c. absurd_false f (and_parts (eqb i j) (is_absurd f) c).1 (Hold-get known i f h e))
      (or_cases (is_opposed f g) (eqb i j && is_absurd f) k)
  clash_refutes known i j f g e d k h = false≢true k

module _ (cs : List ClassTree) (rules : AreRules cs) (premises : List Formula) (goal : Formula) where
  -- what a line makes known, but for a choice, is true where the premises, the denied goal and what is known are
  fact_true : (m : Structure) → Hold cs m premises → (True cs m [] goal → ⊥) → (known : List Formula) (line : Line) (f : Formula) → Hold cs m known → fact_of cs premises goal known line ≡ Some f → True cs m [] f ⊎ IsChoice (goal ∷ premises ++ known) f
  fact_true m given denied known (Premise i) f h e = inl (Hold-get cs m premises i f given e)
  fact_true m given denied known Denied f h e = let same : neg goal ≡ f = cc in inl (subst (λ x. True cs m [] x) same (neg_true cs m [] goal denied))
  fact_true m given denied known (Part i j) f h e =
      let p = and_then_some (part_of j) (slice_get known i) f e in
      inl (part_of_true cs m j p.0 f (Hold-get cs m known i p.0 h p.1) p.2)
  fact_true m given denied known (Inst i ts) f h e =
      let p = and_then_some (body_at cs ts) (slice_get known i) f e in
      inl (body_true cs m ts p.0 f (Hold-get cs m known i p.0 h p.1) p.2)
  fact_true m given denied known (Choose g ts) f h e = inr (is_choice (goal ∷ premises ++ known) g ts f e)
  fact_true m given denied known (Rule name ts) f h e = inl (rules.every m name ts f e)
  fact_true m given denied known (GoodLine name i ts) f h e =
      let p = and_then_some _ (option_and_then good_store (slice_get known i)) f e in
      let q = and_then_some good_store (slice_get known i) p.0 p.1 in
      inl (rules.good m name p.0 ts f p.2 (good_of cs m q.0 p.0 (Hold-get cs m known i q.0 h q.1) q.2))
  fact_true m given denied known (InvariantsLine i ts) f h e =
      let p = and_then_some _ (option_and_then good_store (slice_get known i)) f e in
      let q = and_then_some good_store (slice_get known i) p.0 p.1 in
      inl (rules.invariants m p.0 ts f p.2 (good_of cs m q.0 p.0 (Hold-get cs m known i q.0 h q.1) q.2))
  fact_true m given denied known (Chain x y is) f h e =
      let p = and_then_some _ (walk known x is) f e in
      let w = when_some (same_term p.0 y) (equal x y) f p.2 in
      let t : True cs m [] (equal x y) = walk_equal cs m known h x is p.0 p.1 ∙ ap (value_of cs m []) (equal_terms p.0 y w.0) in
      inl (subst (λ g. True cs m [] g) w.1 t)
  fact_true m given denied known (Cong x y is) f h e =
      let w = when_some (is_congruent known is x y) (equal x y) f e in
      let t : True cs m [] (equal x y) = congruent_equal cs m known h is x y w.0 in
      inl (subst (λ g. True cs m [] g) w.1 t)
  fact_true m given denied known (Swap i g js) f h e =
      let p = and_then_some _ (slice_get known i) f e in
      let w = when_some (is_swapped known js p.0 g) g f p.2 in
      inl (subst (λ x. True cs m [] x) w.1 (swap_true cs m known h js p.0 g (Hold-get cs m known i p.0 h p.1) w.0))
  fact_true m given denied known (Sum d ps) f h e = inl (sum_true cs m known d ps f h e)
  fact_true m given denied known line f h e = cc

  -- In no structure are the premises, the denied goal and all of these true. Of all structures, since a line may choose another
  -- structure.
  abbrev pub Refuted : List Formula → Type 0
  Refuted fs = (m : Structure) → Hold cs m premises → (True cs m [] goal → ⊥) → Hold cs m fs → ⊥

  abbrev pub AllRefuted : List (List Formula) → Type 0
  AllRefuted [] = Unit {0}
  AllRefuted (fs ∷ others) = Refuted fs × AllRefuted others

  -- each case of the state is refuted
  abbrev pub IsRefuted : State → Type 0
  IsRefuted (Open known waiting) = Refuted known × AllRefuted waiting
  IsRefuted (Between waiting) = AllRefuted waiting

  AllRefuted-append : (xs ys : List (List Formula)) → AllRefuted (xs ++ ys) → AllRefuted xs × AllRefuted ys
  AllRefuted-append [] ys r = (tt, r)
  AllRefuted-append (x ∷ xs) ys r = let p = AllRefuted-append xs ys r.1 in ((r.0, p.0), p.1)

  back : (state next : State) → state ≡ next → IsRefuted next → IsRefuted state
  back state next e r = subst (λ s. IsRefuted s) (sym e) r

  none_open : (m : Structure) → Hold cs m premises → (True cs m [] goal → ⊥) → (known : List Formula) (fs : Formulas) → Hold cs m known →
      AllRefuted (map (λ f. known ++ f ∷ []) (formula_list fs)) → NoneTrue cs m [] fs
  none_open m given denied known no_formulas h r = tt
  none_open m given denied known (formula_then f fs) h r = (λ t. r.0 m given denied (Hold-push cs m known f h t), none_open m given denied known fs h r.1)

  cases_refute : (k : ℕ) (known : List Formula) (i : ℕ) (g : Formula) (fs : List Formula) → slice_get known i ≡ Some g → cases_of k g ≡ Some fs →
      AllRefuted (map (λ f. known ++ f ∷ []) fs) → Refuted known
  cases_refute k known i (Or gs) fs at e r = λ m given denied h.
      let w = when_some (eqb (count_of gs) k) (formula_list gs) fs e in
      let r' : AllRefuted (map (λ f. known ++ f ∷ []) (formula_list gs)) = rw w.1 r in
      Hold-get cs m known i (Or gs) h at (none_open m given denied known gs h r')
  cases_refute k known i g fs at e r = cc

  add_sound : (known : List Formula) (waiting : List (List Formula)) (line : Line) (next : State) →
      add_fact cs known waiting (fact_of cs premises goal known line) ≡ Some next → IsRefuted next → IsRefuted (Open known waiting)
  add_sound known waiting line next e r =
      let p = and_then_some _ (fact_of cs premises goal known line) next e in
      let w = when_some (is_well_formed cs [] p.0) (Open (known ++ p.0 ∷ []) waiting) next p.2 in
      let r' = back _ next w.1 r in (
        λ m given denied h. ⊎_elim
            (λ t. r'.0 m given denied (Hold-push cs m known p.0 h t))
            (λ c. choice_refutes cs premises goal known p.0 c (λ n. λ g d k t. r'.0 n g d (Hold-push cs n known p.0 k t)) m given denied h)
            (fact_true m given denied known line p.0 h p.1),
        r'.1,
      )

  step_open_sound : (known : List Formula) (waiting : List (List Formula)) (line : Line) (next : State) →
      step_open cs premises goal known waiting line ≡ Some next → IsRefuted next → IsRefuted (Open known waiting)
  step_open_sound known waiting (Split i k) next e r =
      let p = and_then_some _ (option_and_then (cases_of k) (slice_get known i)) next e in
      let q = and_then_some (cases_of k) (slice_get known i) p.0 p.1 in
      let same : open_cases known waiting p.0 ≡ next = cc in
      let r' = back _ next same r in
      let w = AllRefuted-append (map (λ f. known ++ f ∷ []) p.0) waiting r' in
      (cases_refute k known i q.0 p.0 q.1 q.2 w.0, w.1)
  step_open_sound known waiting (Cut f) next e r =
      let w = when_some (is_cut f && is_well_formed cs [] f) (open_cases known waiting (f ∷ neg f ∷ [])) next e in
      let r' = back _ next w.1 r in
      (λ m given denied h. r'.1.0 m given denied (Hold-push cs m known (neg f) h (neg_true cs m [] f (λ t. r'.0 m given denied (Hold-push cs m known f h t)))), r'.1.1)
  step_open_sound known waiting (Clash i j) next e r =
      let w = when_some (is_clash i j (slice_get known i) (slice_get known j)) (Between waiting) next e in
      let r' = back _ next w.1 r in
      (λ m given denied h. clash_refutes cs m known i j (slice_get known i) (slice_get known j) refl refl w.0 h, r')
  step_open_sound known waiting line next e r = add_sound known waiting line next e r

  step_between_sound : (waiting : List (List Formula)) (line : Line) (next : State) → step_between cs premises goal waiting line ≡ Some next → IsRefuted next → AllRefuted waiting
  step_between_sound [] line next e r = tt
  step_between_sound (known ∷ waiting) Case next e r = let same : Open known waiting ≡ next = cc in back (Open known waiting) next same r
  step_between_sound (known ∷ waiting) line next e r = cc

  -- a step from a state to one that is refuted was made from one that is
  pub step_sound : (state : State) (line : Line) (next : State) → step cs premises goal state line ≡ Some next → IsRefuted next → IsRefuted state
  step_sound (Open known waiting) line next e r = step_open_sound known waiting line next e r
  step_sound (Between waiting) line next e r = step_between_sound waiting line next e r

  pub run_sound : (lines : List Line) (state : State) → run cs premises goal state lines ≡ Some (Between []) → IsRefuted state
  run_sound [] state e = let same : state ≡ Between [] = cc in back state (Between []) same tt
  run_sound (line ∷ lines) state e =
      let p = and_then_some _ (step cs premises goal state line) (Between []) e in
      step_sound state line p.0 p.1 (run_sound lines p.0 p.2)

  -- the goal of what is derived is true wherever the premises are
  pub IsValid-Derives : (lines : List Line) → Derives cs premises goal lines → IsValid cs premises goal
  IsValid-Derives lines d m given =
      not_neg_true cs m [] goal (λ t. (run_sound lines (Open [] []) d).0 m given (λ g. not_both cs m [] goal g t) tt)
