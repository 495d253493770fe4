-- What is closed has no model: what a model makes true of formulas is saturated and total.
use Rattle.std.proofs.Common.{◌≡◌, ℕ, List, [], ◌∷◌, ◌++◌, map, filter, Bool, true, false, not, refl, sym, ◌∙◌, ap, subst, inl, inr, ◌⊎◌, ⊎_elim, append_assoc}
use Rattle.std.specs.Prelude.{flat_map, if◌then◌else◌}
use Rattle.std.specs.List.{Contains}
use Rattle.std.proofs.lemmas.Bool.{false≢true, and_parts, or_cases}
use Rattle.std.proofs.lemmas.List.Concat.{flat_map-append}
use Rattle.std.proofs.lemmas.List.Elements.{Contains-append_left, Contains-append_right, Contains-append_cases, filter-append}
use Rattle.ss_core.specs.Tree.{ClassTree}
use Rattle.ss_logic.specs.Formulas.{Formula, Formulas, Literal, And, Or, Forall, Exists, no_formulas, formula_then, formula_list, neg, neg_all}
use Rattle.ss_logic.specs.Equal.{same_formula, same_formula_equal}
use Rattle.ss_logic.proofs.Truth.{neg_neg}
use Rattle.ss_logic.specs.Occurring.{with_formula, with_formulas, with_terms_of_all, atoms_in, all_atoms_in, atoms, terms}
use Rattle.ss_logic_countermodels.specs.Refuting.{Model, Refutes, comes_out, all_come_true, some_comes_true, told_in, all_told_in, told, as_told, is_whole, equalities, facts_of}
use Rattle.ss_logic.specs.Includes.{Includes}
use Rattle.ss_search_procedure_rules.specs.Closed.{is_basic, basics, IsSaturated, IsTotal, Closed}
use Rattle.ss_logic.proofs.Lists.{contains_head, contains_cons, contains_split, contains_none, contains_filter, from_filter, map_from, map_to, map_of_fewer, all_at, all_from, any_from, flat_from, flat_to}
use Rattle.ss_search_procedure_rules.proofs.Occurring.{from_collected, to_collected}
use Rattle.ss_search_procedure_rules.proofs.Told.{is_told, agrees_by}
use Rattle.ss_search_procedure_rules.proofs.Sums.{two_of_more}
use Rattle.ss_search_procedure_rules.proofs.Models.{negated}
use Rattle.ss_search_procedure_rules.proofs.Open.{open_isn't_closed, total_stays_open}

-- ---- parts

abbrev mutual
  parts_in : Formula → List Formula
  parts_in (Literal sign p ts) = Literal sign p ts ∷ []
  parts_in (And fs) = And fs ∷ all_parts_in fs
  parts_in (Or fs) = Or fs ∷ all_parts_in fs
  parts_in (Forall ss f) = Forall ss f ∷ []
  parts_in (Exists ss f) = Exists ss f ∷ []

  all_parts_in : Formulas → List Formula
  all_parts_in no_formulas = []
  all_parts_in (formula_then f fs) = parts_in f ++ all_parts_in fs

part_itself : (f : Formula) → Contains (parts_in f) f
part_itself (Literal sign p ts) = contains_head (Literal sign p ts) []
part_itself (And fs) = contains_head (And fs) (all_parts_in fs)
part_itself (Or fs) = contains_head (Or fs) (all_parts_in fs)
part_itself (Forall ss f) = contains_head (Forall ss f) []
part_itself (Exists ss f) = contains_head (Exists ss f) []

part_of_list : (fs : Formulas) (f : Formula) → Contains (formula_list fs) f → Contains (all_parts_in fs) f
part_of_list no_formulas f h = h
part_of_list (formula_then g fs) f h = ⊎_elim
    (λ e. Contains-append_left (parts_in g) (all_parts_in fs) f (subst (λ x. Contains (parts_in x) f) (sym e) (part_itself f)))
    (λ k. Contains-append_right (parts_in g) (all_parts_in fs) f (part_of_list fs f k))
    (contains_split g (formula_list fs) f h)

one_part : (f g : Formula) (P : Formula → Type 0) → Contains (f ∷ []) g → P g → P f
one_part f g P h k = ⊎_elim (λ e. subst P (sym e) k) (λ n. absurd (contains_none g n)) (contains_split f [] g h)

-- what holds of each part that has it
abbrev Spreads : (Formula → List Formula) → Type 0
Spreads what = (f g x : Formula) → Contains (parts_in f) g → Contains (what g) x → Contains (what f) x

mutual
  parts_through : (f g x : Formula) → Contains (parts_in f) g → Contains (parts_in g) x → Contains (parts_in f) x
  parts_through (Literal sign p ts) g x h k = one_part (Literal sign p ts) g (λ y. Contains (parts_in y) x) h k
  parts_through (And fs) g x h k = ⊎_elim
      (λ e. subst (λ y. Contains (parts_in y) x) (sym e) k)
      (λ l. contains_cons (And fs) (all_parts_in fs) x (all_through fs g x l k))
      (contains_split (And fs) (all_parts_in fs) g h)
  parts_through (Or fs) g x h k = ⊎_elim
      (λ e. subst (λ y. Contains (parts_in y) x) (sym e) k)
      (λ l. contains_cons (Or fs) (all_parts_in fs) x (all_through fs g x l k))
      (contains_split (Or fs) (all_parts_in fs) g h)
  parts_through (Forall ss f) g x h k = one_part (Forall ss f) g (λ y. Contains (parts_in y) x) h k
  parts_through (Exists ss f) g x h k = one_part (Exists ss f) g (λ y. Contains (parts_in y) x) h k

  all_through : (fs : Formulas) (g x : Formula) → Contains (all_parts_in fs) g → Contains (parts_in g) x → Contains (all_parts_in fs) x
  all_through no_formulas g x h k = absurd (contains_none g h)
  all_through (formula_then f fs) g x h k = ⊎_elim
      (λ l. Contains-append_left (parts_in f) (all_parts_in fs) x (parts_through f g x l k))
      (λ l. Contains-append_right (parts_in f) (all_parts_in fs) x (all_through fs g x l k))
      (Contains-append_cases (parts_in f) (all_parts_in fs) g h)

mutual
  told_of_part : (f g x : Formula) → Contains (parts_in f) g → Contains (told_in g) x → Contains (told_in f) x
  told_of_part (Literal sign p ts) g x h k = one_part (Literal sign p ts) g (λ y. Contains (told_in y) x) h k
  told_of_part (And fs) g x h k = ⊎_elim (λ e. subst (λ y. Contains (told_in y) x) (sym e) k) (λ l. told_of_parts fs g x l k) (contains_split (And fs) (all_parts_in fs) g h)
  told_of_part (Or fs) g x h k = ⊎_elim (λ e. subst (λ y. Contains (told_in y) x) (sym e) k) (λ l. told_of_parts fs g x l k) (contains_split (Or fs) (all_parts_in fs) g h)
  told_of_part (Forall ss f) g x h k = one_part (Forall ss f) g (λ y. Contains (told_in y) x) h k
  told_of_part (Exists ss f) g x h k = one_part (Exists ss f) g (λ y. Contains (told_in y) x) h k

  told_of_parts : (fs : Formulas) (g x : Formula) → Contains (all_parts_in fs) g → Contains (told_in g) x → Contains (all_told_in fs) x
  told_of_parts no_formulas g x h k = absurd (contains_none g h)
  told_of_parts (formula_then f fs) g x h k = ⊎_elim
      (λ l. Contains-append_left (told_in f) (all_told_in fs) x (told_of_part f g x l k))
      (λ l. Contains-append_right (told_in f) (all_told_in fs) x (told_of_parts fs g x l k))
      (Contains-append_cases (parts_in f) (all_parts_in fs) g h)

mutual
  atoms_of_part : (f g x : Formula) → Contains (parts_in f) g → Contains (atoms_in g) x → Contains (atoms_in f) x
  atoms_of_part (Literal sign p ts) g x h k = one_part (Literal sign p ts) g (λ y. Contains (atoms_in y) x) h k
  atoms_of_part (And fs) g x h k = ⊎_elim (λ e. subst (λ y. Contains (atoms_in y) x) (sym e) k) (λ l. atoms_of_parts fs g x l k) (contains_split (And fs) (all_parts_in fs) g h)
  atoms_of_part (Or fs) g x h k = ⊎_elim (λ e. subst (λ y. Contains (atoms_in y) x) (sym e) k) (λ l. atoms_of_parts fs g x l k) (contains_split (Or fs) (all_parts_in fs) g h)
  atoms_of_part (Forall ss f) g x h k = one_part (Forall ss f) g (λ y. Contains (atoms_in y) x) h k
  atoms_of_part (Exists ss f) g x h k = one_part (Exists ss f) g (λ y. Contains (atoms_in y) x) h k

  atoms_of_parts : (fs : Formulas) (g x : Formula) → Contains (all_parts_in fs) g → Contains (atoms_in g) x → Contains (all_atoms_in fs) x
  atoms_of_parts no_formulas g x h k = absurd (contains_none g h)
  atoms_of_parts (formula_then f fs) g x h k = ⊎_elim
      (λ l. Contains-append_left (atoms_in f) (all_atoms_in fs) x (atoms_of_part f g x l k))
      (λ l. Contains-append_right (atoms_in f) (all_atoms_in fs) x (atoms_of_parts fs g x l k))
      (Contains-append_cases (parts_in f) (all_parts_in fs) g h)

-- ---- choices

-- what is told in what is told is told
mutual
  told_told : (f p x : Formula) → Contains (told_in f) p → Contains (told_in p) x → Contains (told_in f) x
  told_told (Literal sign q ts) p x h k = one_part (Literal true q ts) p (λ y. Contains (told_in y) x) h k
  told_told (And fs) p x h k = all_told_told fs p x h k
  told_told (Or fs) p x h k = all_told_told fs p x h k
  told_told (Forall ss f) p x h k = one_part (Forall ss f) p (λ y. Contains (told_in y) x) h k
  told_told (Exists ss f) p x h k = one_part (Forall ss (neg f)) p (λ y. Contains (told_in y) x) h k

  all_told_told : (fs : Formulas) (p x : Formula) → Contains (all_told_in fs) p → Contains (told_in p) x → Contains (all_told_in fs) x
  all_told_told no_formulas p x h k = absurd (contains_none p h)
  all_told_told (formula_then f fs) p x h k = ⊎_elim
      (λ l. Contains-append_left (told_in f) (all_told_in fs) x (told_told f p x l k))
      (λ l. Contains-append_right (told_in f) (all_told_in fs) x (all_told_told fs p x l k))
      (Contains-append_cases (told_in f) (all_told_in fs) p h)

-- a formula and its negation tell the same, and have the same atoms
mutual
  told_neg : (f : Formula) → told_in (neg f) ≡ told_in f
  told_neg (Literal sign p ts) = refl
  told_neg (And fs) = all_told_neg fs
  told_neg (Or fs) = all_told_neg fs
  told_neg (Forall ss f) = ap (λ g. Forall ss g ∷ []) (neg_neg f)
  told_neg (Exists ss f) = refl

  all_told_neg : (fs : Formulas) → all_told_in (neg_all fs) ≡ all_told_in fs
  all_told_neg no_formulas = refl
  all_told_neg (formula_then f fs) = ap (λ gs. gs ++ all_told_in (neg_all fs)) (told_neg f) ∙ ap (λ gs. told_in f ++ gs) (all_told_neg fs)

mutual
  atoms_neg : (f : Formula) → atoms_in (neg f) ≡ atoms_in f
  atoms_neg (Literal sign p ts) = refl
  atoms_neg (And fs) = all_atoms_neg fs
  atoms_neg (Or fs) = all_atoms_neg fs
  atoms_neg (Forall ss f) = refl
  atoms_neg (Exists ss f) = refl

  all_atoms_neg : (fs : Formulas) → all_atoms_in (neg_all fs) ≡ all_atoms_in fs
  all_atoms_neg no_formulas = refl
  all_atoms_neg (formula_then f fs) = ap (λ gs. gs ++ all_atoms_in (neg_all fs)) (atoms_neg f) ∙ ap (λ gs. atoms_in f ++ gs) (all_atoms_neg fs)

all_true_at : (m : Model) (fs : Formulas) (f : Formula) → all_come_true m fs ≡ true → Contains (formula_list fs) f → comes_out m f ≡ true
all_true_at m no_formulas f t h = absurd (contains_none f h)
all_true_at m (formula_then g fs) f t h =
    let r = and_parts (comes_out m g) (all_come_true m fs) t in
    ⊎_elim (λ e. ap (comes_out m) (sym e) ∙ r.0) (λ k. all_true_at m fs f r.1 k) (contains_split g (formula_list fs) f h)

some_true_at : (m : Model) (fs : Formulas) → some_comes_true m fs ≡ true → (f : Formula) × Contains (formula_list fs) f × (comes_out m f ≡ true)
some_true_at m no_formulas t = absurd (false≢true t)
some_true_at m (formula_then g fs) t = ⊎_elim
    (λ e. (g, contains_head g (formula_list fs), e))
    (λ k. let r = some_true_at m fs k in (r.0, contains_cons g (formula_list fs) r.0 r.1, r.2))
    (or_cases (comes_out m g) (some_comes_true m fs) t)

-- ---- what has a truth value, as the model has it

either : (b : Bool) (p : Formula) (P : Formula → Type 0) → P p → P (neg p) → P (if b then p else neg p)
either true p P h k = h
either false p P h k = k

told_as : (m : Model) (p : Formula) → told_in (as_told m p) ≡ told_in p
told_as m p = either (m.truth p) p (λ g. told_in g ≡ told_in p) refl (told_neg p)

atoms_as : (m : Model) (p : Formula) → atoms_in (as_told m p) ≡ atoms_in p
atoms_as m p = either (m.truth p) p (λ g. atoms_in g ≡ atoms_in p) refl (atoms_neg p)

true_as : (m : Model) (p : Formula) → comes_out m p ≡ m.truth p → comes_out m (as_told m p) ≡ true
true_as m p e = by (m.truth p) e
  where
    by : (b : Bool) → comes_out m p ≡ b → comes_out m (if b then p else neg p) ≡ true
    by true h = h
    by false h = negated m p ∙ ap not h

one_of : (m : Model) (p : Formula) → (as_told m p ≡ p) ⊎ (as_told m p ≡ neg p)
one_of m p = by (m.truth p)
  where
    by : (b : Bool) → ((if b then p else neg p) ≡ p) ⊎ ((if b then p else neg p) ≡ neg p)
    by true = inl refl
    by false = inr refl

module _ (m : Model) where
  abbrev atoms_of_told : List Formula → List Formula
  atoms_of_told ps = flat_map atoms_in (map (as_told m) ps)

  atoms_of_append : (ps qs : List Formula) → atoms_of_told (ps ++ qs) ≡ atoms_of_told ps ++ atoms_of_told qs
  atoms_of_append [] qs = refl
  atoms_of_append (p ∷ ps) qs = ap (λ gs. atoms_in (as_told m p) ++ gs) (atoms_of_append ps qs) ∙ sym (append_assoc (atoms_in (as_told m p)) (atoms_of_told ps) (atoms_of_told qs))

  -- what is told has the atoms of the formula, in its order
  mutual
    atoms_stay : (f : Formula) → atoms_of_told (told_in f) ≡ atoms_in f
    atoms_stay (Literal sign p ts) = ap (λ gs. gs ++ []) (atoms_as m (Literal true p ts))
    atoms_stay (And fs) = all_atoms_stay fs
    atoms_stay (Or fs) = all_atoms_stay fs
    atoms_stay (Forall ss f) = ap (λ gs. gs ++ []) (atoms_as m (Forall ss f))
    atoms_stay (Exists ss f) = ap (λ gs. gs ++ []) (atoms_as m (Forall ss (neg f)))

    all_atoms_stay : (fs : Formulas) → atoms_of_told (all_told_in fs) ≡ all_atoms_in fs
    all_atoms_stay no_formulas = refl
    all_atoms_stay (formula_then f fs) = atoms_of_append (told_in f) (all_told_in fs) ∙ ap (λ gs. gs ++ atoms_of_told (all_told_in fs)) (atoms_stay f) ∙ ap (λ gs. atoms_in f ++ gs) (all_atoms_stay fs)

  list_stays : (fs : List Formula) → atoms_of_told (flat_map told_in fs) ≡ flat_map atoms_in fs
  list_stays [] = refl
  list_stays (f ∷ fs) = atoms_of_append (told_in f) (flat_map told_in fs) ∙ ap (λ gs. gs ++ atoms_of_told (flat_map told_in fs)) (atoms_stay f) ∙ ap (λ gs. atoms_in f ++ gs) (list_stays fs)

-- formulas that were found add nothing
nothing_new : (found fs : List Formula) → Includes found fs → with_formulas found fs ≡ found
nothing_new found [] i = refl
nothing_new found (f ∷ fs) i =
    ap (λ gs. with_formulas gs fs) (ap (λ b. if b then found else found ++ f ∷ []) (any_from (same_formula f) found f (i f (contains_head f fs)) (same_formula_equal f f refl)))
    ∙ nothing_new found fs (λ g h. i g (contains_cons f fs g h))

with_append : (found fs gs : List Formula) → with_formulas found (fs ++ gs) ≡ with_formulas (with_formulas found fs) gs
with_append found [] gs = refl
with_append found (f ∷ fs) gs = with_append (with_formula found f) fs gs

all_pass : (p : Formula → Bool) (fs : List Formula) → ((f : Formula) → Contains fs f → p f ≡ true) → filter p fs ≡ fs
all_pass p [] h = refl
all_pass p (f ∷ fs) h =
    ap (λ b. if b then f ∷ filter p fs else filter p fs) (h f (contains_head f fs)) ∙ ap (λ gs. f ∷ gs) (all_pass p fs (λ g k. h g (contains_cons f fs g k)))

module _ (cs : List ClassTree) (m : Model) (fs : List Formula) (r : Refutes cs m fs) where
  -- what is told, as the model has it, and the parts that it makes true
  abbrev said : List Formula
  said = map (as_told m) (flat_map told_in fs)

  abbrev held : List Formula
  held = filter (comes_out m) (flat_map parts_in fs)

  abbrev reached : List Formula
  reached = said ++ held

  record IsSaid (g : Formula) : Type 0 where
    formula : Formula
    is_in : Contains fs formula
    what : Formula
    is_told_in : Contains (told_in formula) what
    is : as_told m what ≡ g

  said_from : (g : Formula) → Contains said g → IsSaid g
  said_from g h =
      let p = map_from (as_told m) (flat_map told_in fs) g h in
      let q = flat_from told_in fs p.0 p.1 in
      record { formula = q.0; is_in = q.1; what = p.0; is_told_in = q.2; is = p.2 }

  said_basic : (g : Formula) → Contains said g → is_basic g ≡ true
  said_basic g h =
      let s = said_from g h in
      let t = is_told s.formula s.what s.is_told_in in
      subst (λ x. is_basic x ≡ true) s.is (either (m.truth s.what) s.what (λ x. is_basic x ≡ true) t.basic t.negation_basic)

  said_true : (g : Formula) → Contains said g → comes_out m g ≡ true
  said_true g h =
      let s = said_from g h in
      subst (λ x. comes_out m x ≡ true) s.is (true_as m s.what ((is_told s.formula s.what s.is_told_in).out m))

  held_to : (f g : Formula) → Contains fs f → Contains (parts_in f) g → comes_out m g ≡ true → Contains held g
  held_to f g h k t = contains_filter (comes_out m) (flat_map parts_in fs) g (flat_to parts_in fs f g h k) t

  held_from : (g : Formula) → Contains held g → (f : Formula) × Contains fs f × Contains (parts_in f) g
  held_from g h = flat_from parts_in fs g (from_filter (comes_out m) (flat_map parts_in fs) g h).0

  held_true : (g : Formula) → Contains held g → comes_out m g ≡ true
  held_true g h = (from_filter (comes_out m) (flat_map parts_in fs) g h).1

  reached_cases : (g : Formula) → Contains reached g → Contains said g ⊎ Contains held g
  reached_cases g h = Contains-append_cases said held g h

  reached_held : (g : Formula) → Contains held g → Contains reached g
  reached_held g h = Contains-append_right said held g h

  -- what isn't basic is a part
  reached_part : (g : Formula) → is_basic g ≡ false → Contains reached g → Contains held g
  reached_part g e h = ⊎_elim (λ k. absurd (false≢true (sym e ∙ said_basic g k))) (λ k. k) (reached_cases g h)

  reached_all : Includes reached fs
  reached_all f h = reached_held f (held_to f f h (part_itself f) (all_at (comes_out m) fs f r.agrees.true_ones h))

  reached_tells : (g x : Formula) → Contains reached g → Contains (told_in g) x → (f : Formula) × Contains fs f × Contains (told_in f) x
  reached_tells g x h k = ⊎_elim
      (λ l.
      let s = said_from g l in
      (s.formula, s.is_in, told_told s.formula s.what x s.is_told_in (subst (λ gs. Contains gs x) (told_as m s.what) (subst (λ y. Contains (told_in y) x) (sym s.is) k))))
      (λ l. let from = held_from g l in (from.0, from.1, told_of_part from.0 g x from.2 k))
      (reached_cases g h)

  reached_total : IsTotal reached
  reached_total p (g, h, k) =
      let s = reached_tells g p h k in
      let there : Contains reached (as_told m p) = Contains-append_left said held (as_told m p) (map_to (as_told m) (flat_map told_in fs) p (flat_to told_in fs s.0 p s.1 s.2)) in
      ⊎_elim (λ e. inl (subst (Contains reached) e there)) (λ e. inr (subst (Contains reached) e there)) (one_of m p)

  -- ---- the literals that are reached have the terms of the formulas, in the same order

  basics_are : basics reached ≡ said ++ basics held
  basics_are = filter-append is_basic said held ∙ ap (λ gs. gs ++ basics held) (all_pass is_basic said said_basic)

  held_atoms : Includes (atoms fs) (flat_map atoms_in (basics held))
  held_atoms a h =
      let s = flat_from atoms_in (basics held) a h in
      let from = held_from s.0 (from_filter is_basic held s.0 s.1).0 in
      to_collected atoms_in fs from.0 a from.1 (atoms_of_part from.0 s.0 a from.2 s.2)

  atoms_same : atoms (basics reached) ≡ atoms fs
  atoms_same =
      ap atoms basics_are
      ∙ ap (with_formulas []) (flat_map-append atoms_in said (basics held) ∙ ap (λ gs. gs ++ flat_map atoms_in (basics held)) (list_stays m fs))
      ∙ with_append [] (flat_map atoms_in fs) (flat_map atoms_in (basics held))
      ∙ nothing_new (atoms fs) (flat_map atoms_in (basics held)) held_atoms

  terms_same : terms (basics reached) ≡ terms fs
  terms_same = ap (with_terms_of_all []) atoms_same

  reached_told : Includes (told fs) (told (basics reached))
  reached_told p h =
      let s = from_collected told_in (basics reached) p h in
      let t = reached_tells s.0 p (from_filter is_basic reached s.0 s.1).0 s.2 in
      to_collected told_in fs t.0 p t.1 t.2

  fewer_facts : Includes (facts_of cs m fs) (facts_of cs m (basics reached))
  fewer_facts f h = ⊎_elim
      (λ k. Contains-append_left (map (as_told m) (told fs)) (equalities m (filter (is_whole cs) (terms fs))) f (map_of_fewer (as_told m) (told fs) (told (basics reached)) reached_told f k))
      (λ k. Contains-append_right (map (as_told m) (told fs)) (equalities m (filter (is_whole cs) (terms fs))) f (subst (λ ts. Contains (equalities m (filter (is_whole cs) ts)) f) terms_same k))
      (Contains-append_cases (map (as_told m) (told (basics reached))) (equalities m (filter (is_whole cs) (terms (basics reached)))) f h)

  reached_true : (g : Formula) → Contains reached g → comes_out m g ≡ true
  reached_true g h = ⊎_elim (λ k. said_true g k) (λ k. held_true g k) (reached_cases g h)

  reached_saturated : IsSaturated cs reached
  reached_saturated = record {
    parts = λ gs h g k.
        let from = held_from (And gs) (reached_part (And gs) refl h) in
        reached_held g (held_to from.0 g from.1
        (parts_through from.0 (And gs) g from.2 (contains_cons (And gs) (all_parts_in gs) g (part_of_list gs g k)))
        (all_true_at m gs g (reached_true (And gs) h) k));
    branches = λ gs h.
        let from = held_from (Or gs) (reached_part (Or gs) refl h) in
        let one = some_true_at m gs (reached_true (Or gs) h) in
        inl (one.0, one.1, reached_held one.0 (held_to from.0 one.0 from.1 (parts_through from.0 (Or gs) one.0 from.2 (contains_cons (Or gs) (all_parts_in gs) one.0 (part_of_list gs one.0 one.1))) one.2));
    model = m;
    refutes = record {
      agrees = agrees_by m fs (basics reached) reached_told (λ t h. subst (λ ts. Contains ts t) terms_same h) (all_from (comes_out m) (basics reached) (λ g h. reached_true g (from_filter is_basic reached g h).0)) r.agrees;
      numbers = λ t. r.numbers (two_of_more cs (facts_of cs m (basics reached)) (facts_of cs m fs) fewer_facts t);
    };
  }

pub closed_has_no_model : (cs : List ClassTree) (depth : ℕ) (fs : List Formula) → Closed cs depth fs → (m : Model) → Refutes cs m fs → ⊥
closed_has_no_model cs depth fs c m r =
    open_isn't_closed cs depth (reached cs m fs r) (total_stays_open cs depth (reached cs m fs r) (reached_saturated cs m fs r) (reached_total cs m fs r)) fs (reached_all cs m fs r) c
