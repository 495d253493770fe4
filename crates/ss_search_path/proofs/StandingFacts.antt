-- What stands as known formulas become more, and what a fact tells of the formula that it opens to.
use Rattle.std.proofs.Common.{◌≡◌, ℕ, zero, suc, ◌<◌, ◌≤◌, List, [], ◌∷◌, ◌++◌, length, map, take, drop, get_or, true, ◌||◌, Option, Some, refl, sym, ◌∙◌, ap, subst, ◌⊎◌, inl, inr, Result, arith}
use Rattle.std.specs.Prelude.{slice_get, option_map, IfOk}
use Rattle.std.proofs.lemmas.Bool.{false≢true, and_parts}
use Rattle.std.proofs.lemmas.List.{take-append-drop, take-take, take-map, length-take, length-map, drop_all}
use Rattle.std.proofs.lemmas.Option.{slice_get-map, slice_get_within, slice_get-get_or}
use Rattle.std.proofs.lemmas.Result.{MatchResult-weaker}
use Rattle.ss_core.specs.Tree.{ClassTree}
use Rattle.ss_logic.specs.Formulas.{Formula, Formulas, Literal, And, Or, Forall, Exists, no_formulas, formula_then, formula_list, is_well_formed, are_well_formed}
use Rattle.ss_logic.proofs.Options.{mapped_some}
use Rattle.ss_logic_means.specs.Steps.{is_literal, is_quantified}
use Rattle.ss_logic.specs.Opened.{is_exists}
use Rattle.ss_logic_means.proofs.Standing.{get_either}
use Rattle.ss_logic_means.specs.Origins.{opened_by, chosen_by}
use Rattle.ss_rules_opened.specs.Choices.{choice_at}
use Rattle.ss_terms.specs.Forms.{Forms, formula_at, formulas_at}
use Rattle.ss_search_clashes.proofs.Leading.{at_front}
use Rattle.ss_search_path.specs.declared.path.Path.{Path}
use Rattle.ss_search_path.specs.Paths.{known_on}
use Rattle.ss_search_path.specs.declared.standing.Given.{Given}
use Rattle.ss_search_path.specs.declared.standing.Standing.{Standing}
use Rattle.ss_search_path.specs.declared.standing.Standing.TheVariants.{Fact, Guarded}
use Rattle.ss_search_path.specs.Standing.{choices_in, AreChosen, IsFact, IsOpenedFact, IsGuardedAt, Stands, AreStanding}
use Rattle.ss_search_path.proofs.Forms.{each, each_listed, and_opened, or_opened, literal_opened, forall_opened}

-- ---- lists that become longer

pub stays_at : {A : Type 0} (old new : List A) → take (length old) new ≡ old → (i : ℕ) (x : A) → slice_get old i ≡ Some x → slice_get new i ≡ Some x
stays_at old new kept i x e =
    let whole : old ++ drop (length old) new ≡ new = ap (λ front. front ++ drop (length old) new) (sym kept) ∙ take-append-drop (length old) new in
    subst (λ xs. slice_get xs i ≡ Some x) whole (at_front old (drop (length old) new) i x e)

pub known_more : (b : Forms) (old new : Path) → take (length old.known.items) new.known.items ≡ old.known.items → take (length (known_on b old)) (known_on b new) ≡ known_on b old
known_more b old new kept =
    ap (λ n. take n (known_on b new)) (length-map old.known.items (formula_at b)) ∙ take-map (formula_at b) (length old.known.items) new.known.items ∙ ap (formulas_at b) kept

pub kept_through : {A : Type 0} (xs ys zs : List A) → take (length xs) ys ≡ xs → take (length ys) zs ≡ ys → take (length xs) zs ≡ xs
kept_through xs ys zs e f =
    let many : length xs ≤ length ys = omega (arith, sym (length-take (length xs) ys) ∙ ap length e) in
    sym (take-take (length xs) (length ys) zs many) ∙ ap (take (length xs)) f ∙ e

-- among the first n
taken_at : {A : Type 0} (xs : List A) (n i : ℕ) (x : A) → slice_get (take n xs) i ≡ Some x → slice_get xs i ≡ Some x
taken_at xs n i x e = subst (λ ys. slice_get ys i ≡ Some x) (take-append-drop n xs) (at_front (take n xs) (drop n xs) i x e)

pub some_same : {A : Type 0} (o : Option A) (x y : A) → o ≡ Some x → o ≡ Some y → x ≡ y
some_same o x y e f = let same : Some x ≡ Some y = sym e ∙ f in cc

-- what is read at a place where the list of what it stands for has something
pub read_there : {A B : Type 0} (h : A → B) (xs : List A) (i : ℕ) (d : A) (y : B) → slice_get (map h xs) i ≡ Some y → h (get_or xs i d) ≡ y
read_there h xs i d y e =
    let within : i < length xs = omega (arith, slice_get_within (map h xs) i y e, length-map xs h) in
    some_same (slice_get (map h xs) i) (h (get_or xs i d)) y (slice_get-map h xs i ∙ ap (option_map h) (slice_get-get_or xs i d within)) e

-- ---- forms

-- of an `and` the parts
and_same : (fs gs : Formulas) → And fs ≡ And gs → fs ≡ gs
and_same fs gs e = cc

or_same : (fs gs : Formulas) → Or fs ≡ Or gs → fs ≡ gs
or_same fs gs e = cc

module _ (cs : List ClassTree) (g : Given) where
  -- ---- more that is known

  module _ (old new : List Formula) (kept : take (length old) new ≡ old) where
    pub longer_fact : (place from : ℕ) (f : Formula) → IsFact cs g old place from f → IsFact cs g new place from f
    longer_fact place from f h = record { fact = h.fact; at = stays_at old new kept place h.fact h.at; formed = h.formed; opened = h.opened }

    pub longer_opened : (place from : ℕ) (f : Formula) → IsOpenedFact cs g old place from f → IsOpenedFact cs g new place from f
    unfolding longer_fact
    longer_opened place from f h = record { is = longer_fact place from f h.is; whole = h.whole }

    pub longer_chosen : AreChosen cs g old → AreChosen cs g new
    longer_chosen h = record { at = λ i c e. stays_at old new kept i (chosen_by c) (h.at i c e); formed = h.formed }

    pub longer_stands : (s : Standing) (f : Formula) → Stands cs g old s f → Stands cs g new s f
    longer_stands (Fact place from) f h = longer_opened place from f h
    longer_stands (Guarded number) f h = h

    pub longer_standing : (reached : List Formula) (standings : List Standing) → AreStanding cs g old reached standings → AreStanding cs g new reached standings
    longer_standing reached standings h = record { chosen = longer_chosen h.chosen; each = λ k f s e i. longer_stands s f (h.each k f s e i) }

  -- ---- more and less that is reached

  pub one_more_stands : (known reached : List Formula) (standings : List Standing) (f : Formula) (s : Standing) → length standings ≡ length reached → AreStanding cs g known reached standings → Stands cs g known s f →
      AreStanding cs g known (reached ++ f ∷ []) (standings ++ s ∷ [])
  one_more_stands known reached standings f s long h stands = record {
    chosen = h.chosen;
    each = λ k x t e i. by k x t (get_either reached f k x e) (get_either standings s k t i);
  }
    where
      by : (k : ℕ) (x : Formula) (t : Standing) → (slice_get reached k ≡ Some x) ⊎ ((k ≡ length reached) × (f ≡ x)) → (slice_get standings k ≡ Some t) ⊎ ((k ≡ length standings) × (s ≡ t)) → Stands cs g known t x
      by k x t (inl e) (inl i) = h.each k x t e i
      by k x t (inl e) (inr i) = let l = slice_get_within reached k x e in let at = i.0 in absurd (omega (arith, l, at, long))
      by k x t (inr e) (inl i) = let l = slice_get_within standings k t i in let at = e.0 in absurd (omega (arith, l, at, long))
      by k x t (inr e) (inr i) = subst (λ (u : Standing). Stands cs g known u x) i.1 (subst (λ (y : Formula). Stands cs g known s y) e.1 stands)

  pub fewer_stand : (known reached : List Formula) (standings : List Standing) (n : ℕ) → AreStanding cs g known reached standings → AreStanding cs g known (take n reached) (take n standings)
  fewer_stand known reached standings n h = record { chosen = h.chosen; each = λ k f s e i. h.each k f s (taken_at reached n k f e) (taken_at standings n k s i) }

  -- ---- a fact that is the formula itself

  pub whole_fact : (known : List Formula) (place from : ℕ) (f : Formula) → length g.choices.now ≤ from → slice_get known place ≡ Some f → is_well_formed cs [] f ≡ true → IsOpenedFact cs g known place from f
  whole_fact known place from f past at formed = record {
    is = record { fact = f; at = at; formed = formed; opened = ap (λ xs. opened_by xs f) (drop_all from (choices_in g) (omega (arith, past, length-map g.choices.now (choice_at g.bank.now)))) };
    whole = λ e. refl;
  }

  -- ---- forms of a fact

  module _ (known : List Formula) (place from : ℕ) where
    abbrev opens : Formula → Formula
    opens f = opened_by (drop from (choices_in g)) f

    -- The fact is this formula, or its parts are opened.
    basic_is : (fact f : Formula) → (is_literal f || is_quantified f) ≡ true → (is_exists fact ≡ true → fact ≡ f) → opens fact ≡ f → fact ≡ f
    basic_is (Literal s p ts) f basic whole e = sym (literal_opened (drop from (choices_in g)) s p ts) ∙ e
    basic_is (And fs) f basic whole e =
        absurd (false≢true (ap (λ x. is_literal x || is_quantified x) (sym (and_opened (drop from (choices_in g)) fs) ∙ e) ∙ basic))
    basic_is (Or fs) f basic whole e =
        absurd (false≢true (ap (λ x. is_literal x || is_quantified x) (sym (or_opened (drop from (choices_in g)) fs) ∙ e) ∙ basic))
    basic_is (Forall ss x) f basic whole e = sym (forall_opened (drop from (choices_in g)) ss x) ∙ e
    basic_is (Exists ss x) f basic whole e = whole refl

    pub basic_fact : (f : Formula) → (is_literal f || is_quantified f) ≡ true → IsOpenedFact cs g known place from f → (slice_get known place ≡ Some f) × (is_well_formed cs [] f ≡ true)
    basic_fact f basic h =
        let same = basic_is h.is.fact f basic h.whole h.is.opened in
        (h.is.at ∙ ap Some same, subst (λ x. is_well_formed cs [] x ≡ true) same h.is.formed)

    and_is : (fact : Formula) (gs : Formulas) → (is_exists fact ≡ true → fact ≡ And gs) → opens fact ≡ And gs → (fs : Formulas) × (fact ≡ And fs) × (map (opened_by (drop from (choices_in g))) (formula_list fs) ≡ formula_list gs)
    and_is (And fs) gs whole e =
        (fs, refl, sym (each_listed (opened_by (drop from (choices_in g))) fs) ∙ ap formula_list (and_same (each (opened_by (drop from (choices_in g))) fs) gs (sym (and_opened (drop from (choices_in g)) fs) ∙ e)))
    and_is (Literal s p ts) gs whole e = absurd (let no : Literal s p ts ≡ And gs = sym (literal_opened (drop from (choices_in g)) s p ts) ∙ e in let bad : ⊥ = cc in bad)
    and_is (Or fs) gs whole e = absurd (let no : Or (each (opened_by (drop from (choices_in g))) fs) ≡ And gs = sym (or_opened (drop from (choices_in g)) fs) ∙ e in let bad : ⊥ = cc in bad)
    and_is (Forall ss x) gs whole e = absurd (let no : Forall ss x ≡ And gs = sym (forall_opened (drop from (choices_in g)) ss x) ∙ e in let bad : ⊥ = cc in bad)
    and_is (Exists ss x) gs whole e = absurd (let no : Exists ss x ≡ And gs = whole refl in let bad : ⊥ = cc in bad)

    or_is : (fact : Formula) (gs : Formulas) → (is_exists fact ≡ true → fact ≡ Or gs) → opens fact ≡ Or gs → (fs : Formulas) × (fact ≡ Or fs) × (map (opened_by (drop from (choices_in g))) (formula_list fs) ≡ formula_list gs)
    or_is (Or fs) gs whole e =
        (fs, refl, sym (each_listed (opened_by (drop from (choices_in g))) fs) ∙ ap formula_list (or_same (each (opened_by (drop from (choices_in g))) fs) gs (sym (or_opened (drop from (choices_in g)) fs) ∙ e)))
    or_is (Literal s p ts) gs whole e = absurd (let no : Literal s p ts ≡ Or gs = sym (literal_opened (drop from (choices_in g)) s p ts) ∙ e in let bad : ⊥ = cc in bad)
    or_is (And fs) gs whole e = absurd (let no : And (each (opened_by (drop from (choices_in g))) fs) ≡ Or gs = sym (and_opened (drop from (choices_in g)) fs) ∙ e in let bad : ⊥ = cc in bad)
    or_is (Forall ss x) gs whole e = absurd (let no : Forall ss x ≡ Or gs = sym (forall_opened (drop from (choices_in g)) ss x) ∙ e in let bad : ⊥ = cc in bad)
    or_is (Exists ss x) gs whole e = absurd (let no : Exists ss x ≡ Or gs = whole refl in let bad : ⊥ = cc in bad)

    pub and_fact : (gs : Formulas) → IsOpenedFact cs g known place from (And gs) →
        (fs : Formulas) × (slice_get known place ≡ Some (And fs)) × (is_well_formed cs [] (And fs) ≡ true) × (map (opened_by (drop from (choices_in g))) (formula_list fs) ≡ formula_list gs)
    and_fact gs h =
        let r = and_is h.is.fact gs h.whole h.is.opened in
        (r.0, h.is.at ∙ ap Some r.1, subst (λ x. is_well_formed cs [] x ≡ true) r.1 h.is.formed, r.2)

    pub or_fact : (gs : Formulas) → IsOpenedFact cs g known place from (Or gs) →
        (fs : Formulas) × (slice_get known place ≡ Some (Or fs)) × (is_well_formed cs [] (Or fs) ≡ true) × (map (opened_by (drop from (choices_in g))) (formula_list fs) ≡ formula_list gs)
    or_fact gs h =
        let r = or_is h.is.fact gs h.whole h.is.opened in
        (r.0, h.is.at ∙ ap Some r.1, subst (λ x. is_well_formed cs [] x ≡ true) r.1 h.is.formed, r.2)

    pub part_fact : (fs gs : List Formula) → map (opened_by (drop from (choices_in g))) fs ≡ gs → (i : ℕ) (x : Formula) → slice_get gs i ≡ Some x → (f : Formula) × (slice_get fs i ≡ Some f) × (opened_by (drop from (choices_in g)) f ≡ x)
    part_fact fs gs same i x e = mapped_some (opened_by (drop from (choices_in g))) (slice_get fs i) x (sym (slice_get-map (opened_by (drop from (choices_in g))) fs i) ∙ ap (λ ys. slice_get ys i) same ∙ e)

-- ---- parts are well formed

pub listed_formed : (cs : List ClassTree) (fs : Formulas) (i : ℕ) (f : Formula) → are_well_formed cs [] fs ≡ true → slice_get (formula_list fs) i ≡ Some f → is_well_formed cs [] f ≡ true
listed_formed cs no_formulas i f h e = cc
listed_formed cs (formula_then x fs) zero f h e =
    let same : x ≡ f = cc in
    subst (λ y. is_well_formed cs [] y ≡ true) same (and_parts (is_well_formed cs [] x) (are_well_formed cs [] fs) h).0
listed_formed cs (formula_then x fs) (suc i) f h e = listed_formed cs fs i f (and_parts (is_well_formed cs [] x) (are_well_formed cs [] fs) h).1 e

pub body_formed : (cs : List ClassTree) (g : Given) (number : ℕ) (f : Formula) (is : IsGuardedAt cs g number f) → is_well_formed cs [] is.guarded.body ≡ true
body_formed cs g number f is = (is.guarded.makes [] is.guarded.guard (is.guarded.guard ∷ []) 0 refl).formed

-- ---- results

pub if_ok_then : {X Y : Type 0} (r : Result X Y) {P Q : X → Type 0} → IfOk r P → ((x : X) → P x → Q x) → IfOk r Q
if_ok_then r h follows = MatchResult-weaker r h follows (λ y k. k)
