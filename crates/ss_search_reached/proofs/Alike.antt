-- A model is known by what it gives to what occurs.
use Rattle.std.proofs.Common.{◌≡◌, ℕ, List, [], ◌∷◌, ◌++◌, map, filter, Bool, true, not, cond, ◌&&◌, ◌||◌, refl, sym, ◌∙◌, ap, subst}
use Rattle.std.specs.Prelude.{◌==◌, if◌then◌else◌}
use Rattle.std.specs.Bool.{beq}
use Rattle.std.specs.List.{Contains, list_all}
use Rattle.std.proofs.lemmas.List.Elements.{Contains-append_left, Contains-append_right}
use Rattle.ss_core.specs.Tree.{ClassTree}
use Rattle.ss_logic.specs.Terms.{Symbol, Term, Bound, App, Terms, no_terms, term_then, term_list}
use Rattle.ss_logic.specs.Formulas.{Predicate, Equal, Formula, Formulas, Literal, And, Or, Forall, Exists, no_formulas, formula_then, neg}
use Rattle.ss_logic.specs.Equal.{same_term, same_symbol, same_predicate}
use Rattle.ss_logic.specs.Shapes.{equal}
use Rattle.ss_logic_means.specs.Steps.{is_value}
use Rattle.ss_linear_rules.specs.Two.{Two}
use Rattle.ss_logic.specs.Occurring.{terms}
use Rattle.ss_logic_countermodels.specs.Refuting.{Model, Refutes, comes_out, all_come_true, some_comes_true, told_in, all_told_in, told, classes_of, same_classes, are_congruent, are_alike, are_apart, is_equal_inside, implies, as_told, is_whole, equalities_of, equalities, facts_of}
use Rattle.ss_logic.proofs.Lists.{contains_head, contains_cons, from_filter, all_at, all_from}
use Rattle.ss_search_procedure_rules.proofs.Occurring.{from_collected, to_collected}
use Rattle.ss_search_procedure_rules.proofs.Told.{is_told}
use Rattle.ss_search_reached.proofs.Lists.{single}

map_alike : {A B : Type 0} (g h : A → B) (xs : List A) → ((x : A) → Contains xs x → g x ≡ h x) → map g xs ≡ map h xs
map_alike g h [] e = refl
map_alike g h (x ∷ xs) e = ap (λ y. y ∷ map g xs) (e x (contains_head x xs)) ∙ ap (λ ys. h x ∷ ys) (map_alike g h xs (λ y c. e y (contains_cons x xs y c)))

filter_alike : {A : Type 0} (p q : A → Bool) (xs : List A) → ((x : A) → Contains xs x → p x ≡ q x) → filter p xs ≡ filter q xs
filter_alike p q [] e = refl
filter_alike p q (x ∷ xs) e =
    let rest = filter_alike p q xs (λ y c. e y (contains_cons x xs y c)) in
    ap (λ b. cond b (x ∷ filter p xs) (filter p xs)) (e x (contains_head x xs)) ∙ ap (λ ys. cond (q x) (x ∷ ys) ys) rest

map_moved : {A : Type 0} (h k : A → ℕ) (moved : ℕ → ℕ) (xs : List A) → ((x : A) → Contains xs x → h x ≡ moved (k x)) → map h xs ≡ map moved (map k xs)
map_moved h k moved [] e = refl
map_moved h k moved (x ∷ xs) e = ap (λ y. y ∷ map h xs) (e x (contains_head x xs)) ∙ ap (λ ys. moved (k x) ∷ ys) (map_moved h k moved xs (λ y c. e y (contains_cons x xs y c)))

-- numbers that are the same only where they were are the same in lists, too
same_moved : (moved : ℕ → ℕ) → ((a b : ℕ) → (moved a == moved b) ≡ (a == b)) → (ks ns : List ℕ) → same_classes (map moved ks) (map moved ns) ≡ same_classes ks ns
same_moved moved once [] [] = refl
same_moved moved once [] (n ∷ ns) = refl
same_moved moved once (k ∷ ks) [] = refl
same_moved moved once (k ∷ ks) (n ∷ ns) = ap (λ b. b && same_classes (map moved ks) (map moved ns)) (once k n) ∙ ap (λ b. k == n && b) (same_moved moved once ks ns)

-- every two are as they were
pairs_alike : {A : Type 0} (p q : A → A → Bool) (xs : List A) → ((x y : A) → Contains xs x → Contains xs y → p x y ≡ q x y) → list_all (λ x. list_all (q x) xs) xs ≡ true → list_all (λ x. list_all (p x) xs) xs ≡ true
pairs_alike p q xs e h = all_from (λ x. list_all (p x) xs) xs (λ x c. all_from (p x) xs (λ y d. e x y c d ∙ all_at (q x) xs y (all_at (λ z. list_all (q z) xs) xs x h c) d))

-- also where the classes have other numbers
module _ (m n : Model) (moved : ℕ → ℕ) (once : (a b : ℕ) → (moved a == moved b) ≡ (a == b)) (fs : List Formula) (truths : (p : Formula) → Contains (told fs) p → n.truth p ≡ m.truth p)
    (classes : (t : Term) → Contains (terms fs) t → n.class t ≡ moved (m.class t))
    (inner : (f : Symbol) (ts : Terms) → Contains (terms fs) (App f ts) → (x : Term) → Contains (term_list ts) x → n.class x ≡ moved (m.class x))
    (outer : (sign : Bool) (p : Predicate) (ts : Terms) → Contains (told fs) (Literal sign p ts) → (x : Term) → Contains (term_list ts) x → n.class x ≡ moved (m.class x)) where
  mutual
    out_alike : (f : Formula) → ((p : Formula) → Contains (told_in f) p → n.truth p ≡ m.truth p) → comes_out n f ≡ comes_out m f
    out_alike (Literal sign p ts) h = ap (λ b. beq b sign) (h (Literal true p ts) (contains_head (Literal true p ts) []))
    out_alike (And gs) h = all_out_alike gs h
    out_alike (Or gs) h = some_out_alike gs h
    out_alike (Forall ss f) h = h (Forall ss f) (contains_head (Forall ss f) [])
    out_alike (Exists ss f) h = ap not (h (Forall ss (neg f)) (contains_head (Forall ss (neg f)) []))

    all_out_alike : (gs : Formulas) → ((p : Formula) → Contains (all_told_in gs) p → n.truth p ≡ m.truth p) → all_come_true n gs ≡ all_come_true m gs
    all_out_alike no_formulas h = refl
    all_out_alike (formula_then g gs) h =
        ap (λ b. b && all_come_true n gs) (out_alike g (λ p c. h p (Contains-append_left (told_in g) (all_told_in gs) p c)))
        ∙ ap (λ b. comes_out m g && b) (all_out_alike gs (λ p c. h p (Contains-append_right (told_in g) (all_told_in gs) p c)))

    some_out_alike : (gs : Formulas) → ((p : Formula) → Contains (all_told_in gs) p → n.truth p ≡ m.truth p) → some_comes_true n gs ≡ some_comes_true m gs
    some_out_alike no_formulas h = refl
    some_out_alike (formula_then g gs) h =
        ap (λ b. b || some_comes_true n gs) (out_alike g (λ p c. h p (Contains-append_left (told_in g) (all_told_in gs) p c)))
        ∙ ap (λ b. comes_out m g || b) (some_out_alike gs (λ p c. h p (Contains-append_right (told_in g) (all_told_in gs) p c)))

  one_class : (s t : Term) → Contains (terms fs) s → Contains (terms fs) t → (n.class s == n.class t) ≡ (m.class s == m.class t)
  one_class s t c d = ap (λ k. k == n.class t) (classes s c) ∙ ap (λ k. moved (m.class s) == k) (classes t d) ∙ once (m.class s) (m.class t)

  inner_classes : (f : Symbol) (ts : Terms) → Contains (terms fs) (App f ts) → classes_of n ts ≡ map moved (classes_of m ts)
  inner_classes f ts c = map_moved n.class m.class moved (term_list ts) (inner f ts c)

  outer_classes : (sign : Bool) (p : Predicate) (ts : Terms) → Contains (told fs) (Literal sign p ts) → classes_of n ts ≡ map moved (classes_of m ts)
  outer_classes sign p ts c = map_moved n.class m.class moved (term_list ts) (outer sign p ts c)

  congruent_alike : (s t : Term) → Contains (terms fs) s → Contains (terms fs) t → are_congruent n s t ≡ are_congruent m s t
  congruent_alike (Bound j) t c d = refl
  congruent_alike (App f ts) (Bound k) c d = refl
  congruent_alike (App f ts) (App g us) c d =
      ap (λ ns. same_symbol f g && same_classes ns (classes_of n us)) (inner_classes f ts c)
      ∙ ap (λ ns. same_symbol f g && same_classes (map moved (classes_of m ts)) ns) (inner_classes g us d)
      ∙ ap (λ b. same_symbol f g && b) (same_moved moved once (classes_of m ts) (classes_of m us))

  alike_alike : (f g : Formula) → Contains (told fs) f → Contains (told fs) g → are_alike n f g ≡ are_alike m f g
  alike_alike (Literal r p ts) (Literal s q us) c d =
      ap (λ ns. same_predicate p q && same_classes ns (classes_of n us)) (outer_classes r p ts c)
      ∙ ap (λ ns. same_predicate p q && same_classes (map moved (classes_of m ts)) ns) (outer_classes s q us d)
      ∙ ap (λ b. same_predicate p q && b) (same_moved moved once (classes_of m ts) (classes_of m us))
  alike_alike f g c d = refl

  -- what is told is told without a sign
  told_plain : (sign : Bool) (p : Predicate) (ts : Terms) → Contains (told fs) (Literal sign p ts) → Literal true p ts ≡ Literal sign p ts
  told_plain sign p ts c = let r = from_collected told_in fs (Literal sign p ts) c in single (Literal true p ts) (Literal sign p ts) (is_told r.0 (Literal sign p ts) r.2).in_itself

  inside_alike : (f : Formula) → Contains (told fs) f → is_equal_inside n f ≡ is_equal_inside m f
  inside_alike (Literal sign Equal (term_then x (term_then y no_terms))) c =
      let ts : Terms = term_then x (term_then y no_terms) in
      ap (λ b. beq b (n.class x == n.class y)) (truths (Literal true Equal ts) (subst (Contains (told fs)) (sym (told_plain sign Equal ts c)) c))
      ∙ ap (λ k. beq (m.truth (Literal true Equal ts)) (k == n.class y)) (outer sign Equal ts c x (contains_head x (y ∷ [])))
      ∙ ap (λ k. beq (m.truth (Literal true Equal ts)) (moved (m.class x) == k)) (outer sign Equal ts c y (contains_cons x (y ∷ []) y (contains_head y [])))
      ∙ ap (beq (m.truth (Literal true Equal ts))) (once (m.class x) (m.class y))
  inside_alike f c = refl

  told_alike : (p : Formula) → Contains (told fs) p → as_told n p ≡ as_told m p
  told_alike p c = ap (λ b. if b then p else neg p) (truths p c)

  equalities_alike : (ts : List Term) → ((t : Term) → Contains ts t → Contains (terms fs) t) → equalities n ts ≡ equalities m ts
  equalities_alike [] i = refl
  equalities_alike (t ∷ ts) i =
      ap (λ us. map (equal t) us ++ equalities n ts) (filter_alike (λ u. n.class t == n.class u) (λ u. m.class t == m.class u) ts (λ u c. one_class t u (i t (contains_head t ts)) (i u (contains_cons t ts u c))))
      ∙ ap (λ gs. equalities_of m t ts ++ gs) (equalities_alike ts (λ u c. i u (contains_cons t ts u c)))

  facts_alike : (cs : List ClassTree) → facts_of cs n fs ≡ facts_of cs m fs
  facts_alike cs =
      ap (λ gs. gs ++ equalities n (filter (is_whole cs) (terms fs))) (map_alike (as_told n) (as_told m) (told fs) told_alike)
      ∙ ap (λ gs. map (as_told m) (told fs) ++ gs) (equalities_alike (filter (is_whole cs) (terms fs)) (λ t c. (from_filter (is_whole cs) (terms fs) t c).0))

  pub refutes_alike : (cs : List ClassTree) → Refutes cs m fs → Refutes cs n fs
  refutes_alike cs r = record {
    agrees = record {
      true_ones = all_from (comes_out n) fs (λ f c. out_alike f (λ p k. truths p (to_collected told_in fs f p c k)) ∙ all_at (comes_out m) fs f r.agrees.true_ones c);
      congruent = pairs_alike (λ s t. implies (are_congruent n s t) (n.class s == n.class t)) (λ s t. implies (are_congruent m s t) (m.class s == m.class t)) (terms fs)
          (λ s t c d. ap (λ b. implies b (n.class s == n.class t)) (congruent_alike s t c d) ∙ ap (implies (are_congruent m s t)) (one_class s t c d)) r.agrees.congruent;
      alike = pairs_alike (λ f g. implies (are_alike n f g) (beq (n.truth f) (n.truth g))) (λ f g. implies (are_alike m f g) (beq (m.truth f) (m.truth g))) (told fs)
          (λ f g c d. ap (λ b. implies b (beq (n.truth f) (n.truth g))) (alike_alike f g c d) ∙ ap (λ b. implies (are_alike m f g) (beq b (n.truth g))) (truths f c) ∙ ap (λ b. implies (are_alike m f g) (beq (m.truth f) b)) (truths g d))
          r.agrees.alike;
      inside = all_from (is_equal_inside n) (told fs) (λ f c. inside_alike f c ∙ all_at (is_equal_inside m) (told fs) f r.agrees.inside c);
      apart = pairs_alike (are_apart n) (are_apart m) (terms fs) (λ s t c d. ap (λ b. not (is_value s && is_value t && not (same_term s t) && b)) (one_class s t c d)) r.agrees.apart;
    };
    numbers = λ t. r.numbers (subst (Two cs) (facts_alike cs) t);
  }
