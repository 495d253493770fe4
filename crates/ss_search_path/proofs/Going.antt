-- How a case goes on along a path: by facts, by parts, by choices, and after trials.
use Rattle.std.proofs.Common.{◌≡◌, ℕ, List, [], ◌∷◌, ◌++◌, length, take, drop, reverse, Bool, true, false, ◌||◌, Some, refl, sym, ◌∙◌, ap, subst, ⊎_elim, append_assoc}
use Rattle.std.specs.Prelude.{slice_get}
use Rattle.std.proofs.lemmas.Bool.{cases_Bool, true≢false}
use Rattle.std.proofs.lemmas.List.{append-nil, map_push, length-map, take-map, take_at, drop_at, reverse-append, reverse-reverse}
use Rattle.ss_core.specs.Tree.{ClassTree}
use Rattle.ss_logic.specs.declared.Sort.{Sort}
use Rattle.ss_logic.specs.Terms.{Term}
use Rattle.ss_logic.specs.Formulas.{Formula, Formulas, Literal, And, Or, Forall, Exists, formula_list, is_well_formed, neg, put}
use Rattle.ss_logic.proofs.Truth.{neg_neg}
use Rattle.ss_logic_means.specs.Steps as tree
use Rattle.ss_logic_means.specs.Steps.{count_of, chosen, is_literal, is_quantified, is_cut}
use Rattle.ss_terms.specs.declared.forms.FormulaId.{FormulaId}
use Rattle.ss_terms.specs.Forms.{Forms, formula_at, formulas_at, HasFormula}
use Rattle.ss_terms.proofs.Tested.{neg_formed}
use Rattle.ss_deriv.specs.declared.line.Line.{Line}
use Rattle.ss_deriv.specs.declared.line.Line.TheVariants.{Split, Cut, Clash, Case}
use Rattle.ss_deriv.specs.Lines.{line_of, lines_of}
use Rattle.ss_search_clashes.specs.Closing.{Closes, CloseEach, cases_in_turn}
use Rattle.ss_search_clashes.specs.Leading.{Leads}
use Rattle.ss_search_clashes.proofs.Leading.{stays, goes_on, by_fact, by_part, by_cut, by_denial, by_choice}
use Rattle.ss_search_path.specs.declared.path.Path.{Path}
use Rattle.ss_search_path.specs.declared.path.Mark.{Mark}
use Rattle.ss_search_path.specs.Paths.{known_on, IsPath, GoesOn, Makes, AreCases, IsMark, IsBack, IsSame, EndsWith, opening, BeginsCase, IsTrial, IsTurned}
use Rattle.ss_search_path.proofs.Lines.{cut_line, lines_append, lines_back, lines_turned}

-- ---- lists

regroup_front : {A : Type 0} (a o d c r z : List A) → ((((a ++ o) ++ d) ++ c) ++ r) ++ z ≡ a ++ (o ++ ((d ++ (c ++ r)) ++ z))
regroup_front a o d c r z = simp append_assoc

regroup_back : {A : Type 0} (a e c d z : List A) → (((a ++ e) ++ c) ++ d) ++ z ≡ a ++ (((e ++ c) ++ d) ++ z)
regroup_back a e c d z = simp append_assoc

turned_back : {A : Type 0} (e c d z : List A) → reverse (((e ++ reverse c) ++ reverse d) ++ z) ≡ reverse z ++ (d ++ (c ++ reverse e))
turned_back e c d z =
    reverse-append ((e ++ reverse c) ++ reverse d) z
    ∙ ap (λ r. reverse z ++ r) (reverse-append (e ++ reverse c) (reverse d)
    ∙ ap (λ r. r ++ reverse (e ++ reverse c)) (reverse-reverse d)
    ∙ ap (λ r. d ++ r) (reverse-append e (reverse c) ∙ ap (λ r. r ++ reverse e) (reverse-reverse c)))

-- a literal or quantified formula that may not be cut is the negation of one that may
other_cut : (f : Formula) → (is_literal f || is_quantified f) ≡ true → is_cut f ≡ false → is_cut (neg f) ≡ true
other_cut (Literal true p ts) h c = absurd (true≢false c)
other_cut (Literal false p ts) h c = refl
other_cut (And fs) h c = absurd (true≢false (sym h))
other_cut (Or fs) h c = absurd (true≢false (sym h))
other_cut (Forall ss f) h c = absurd (true≢false c)
other_cut (Exists ss f) h c = absurd (true≢false c)

module _ (cs : List ClassTree) (premises : List Formula) (goal : Formula) (b : Forms) where
  leads_as : (start : List Formula) (before before' : List tree.Line) (known known' : List Formula) (behind after' : List tree.Line) → before ≡ before' → known ≡ known' → behind ≡ after' →
      Leads cs premises goal start before known behind → Leads cs premises goal start before' known' after'
  leads_as start before before' known known' behind after' e f g l =
      subst (λ ls. Leads cs premises goal start ls known' after') e
      (subst (λ fs. Leads cs premises goal start before fs after') f
      (subst (λ ls. Leads cs premises goal start before known ls) g l))

  known_more : (p q : Path) (f : FormulaId) → q.known.items ≡ p.known.items ++ f ∷ [] → known_on b q ≡ known_on b p ++ formula_at b f ∷ []
  known_more p q f e = ap (formulas_at b) e ∙ map_push (formula_at b) p.known.items f

  -- ---- paths after one another

  pub path_starts : (p : Path) → p.before.items ≡ [] → p.behind.items ≡ [] → p.known.items ≡ [] → IsPath cs premises goal b [] p
  path_starts p before behind known = leads_as [] [] (lines_of b p.before.items) [] (known_on b p) [] (lines_of b (reverse p.behind.items))
      (sym (ap (lines_of b) before)) (sym (ap (formulas_at b) known)) (sym (ap (λ xs. lines_of b (reverse xs)) behind)) (stays cs premises goal [])

  pub goes_nowhere : (p q : Path) → IsSame p q → GoesOn cs premises goal b p q
  goes_nowhere p q same = record {
    added = [];
    ending = [];
    before = same.before ∙ sym (append-nil p.before.items);
    behind = same.behind ∙ sym (append-nil p.behind.items);
    leads = leads_as (known_on b p) [] [] (known_on b p) (known_on b q) [] [] refl (ap (formulas_at b) (sym same.known)) refl (stays cs premises goal (known_on b p));
  }

  pub goes_through : (p q r : Path) → GoesOn cs premises goal b p q → GoesOn cs premises goal b q r → GoesOn cs premises goal b p r
  goes_through p q r one two = record {
    added = one.added ++ two.added;
    ending = one.ending ++ two.ending;
    before = two.before ∙ ap (λ xs. xs ++ two.added) one.before ∙ append_assoc p.before.items one.added two.added;
    behind = two.behind ∙ ap (λ xs. xs ++ two.ending) one.behind ∙ append_assoc p.behind.items one.ending two.ending;
    leads = leads_as (known_on b p) (lines_of b one.added ++ lines_of b two.added) (lines_of b (one.added ++ two.added)) (known_on b r) (known_on b r)
        (lines_of b (reverse two.ending) ++ lines_of b (reverse one.ending)) (lines_of b (reverse (one.ending ++ two.ending)))
        (sym (lines_append b one.added two.added)) refl (sym (lines_turned b one.ending two.ending))
        (goes_on cs premises goal (known_on b p) (known_on b q) (known_on b r) (lines_of b one.added) (lines_of b two.added) (lines_of b (reverse one.ending)) (lines_of b (reverse two.ending)) one.leads two.leads);
  }

  pub path_goes : (start : List Formula) (p q : Path) → IsPath cs premises goal b start p → GoesOn cs premises goal b p q → IsPath cs premises goal b start q
  path_goes start p q one two =
      leads_as start (lines_of b p.before.items ++ lines_of b two.added) (lines_of b q.before.items) (known_on b q) (known_on b q)
      (lines_of b (reverse two.ending) ++ lines_of b (reverse p.behind.items)) (lines_of b (reverse q.behind.items))
      (sym (ap (lines_of b) two.before ∙ lines_append b p.before.items two.added)) refl (sym (ap (λ xs. lines_of b (reverse xs)) two.behind ∙ lines_turned b p.behind.items two.ending))
      (goes_on cs premises goal start (known_on b p) (known_on b q) (lines_of b p.before.items) (lines_of b two.added) (lines_of b (reverse p.behind.items)) (lines_of b (reverse two.ending)) one two.leads)

  -- ---- facts, parts and choices

  pub goes_by_fact : (p q : Path) (line : Line) (f : FormulaId) → q.before.items ≡ p.before.items ++ line ∷ [] → q.behind.items ≡ p.behind.items → q.known.items ≡ p.known.items ++ f ∷ [] →
      Makes cs premises goal (known_on b p) (line_of b line) (formula_at b f) → GoesOn cs premises goal b p q
  goes_by_fact p q line f before behind known makes = record {
    added = line ∷ [];
    ending = [];
    before = before;
    behind = behind ∙ sym (append-nil p.behind.items);
    leads = leads_as (known_on b p) (line_of b line ∷ []) (line_of b line ∷ []) (known_on b p ++ formula_at b f ∷ []) (known_on b q) [] [] refl (sym (known_more p q f known)) refl
        (by_fact cs premises goal (known_on b p) (line_of b line) (formula_at b f) makes.fact makes.formed);
  }

  pub goes_by_part : (p q : Path) (of cases : ℕ) (front back : List Line) (f : FormulaId) → q.before.items ≡ (p.before.items ++ Split of cases ∷ []) ++ (front ++ Case ∷ []) → q.behind.items ≡ p.behind.items ++ reverse back →
      q.known.items ≡ p.known.items ++ f ∷ [] → (fs : Formulas) (one two : List Formula) → slice_get (known_on b p) of ≡ Some (Or fs) → count_of fs ≡ cases → formula_list fs ≡ one ++ formula_at b f ∷ two →
      AreCases cs premises goal (known_on b p) one (lines_of b front) → AreCases cs premises goal (known_on b p) two (lines_of b back) → GoesOn cs premises goal b p q
  goes_by_part p q of cases front back f before behind known fs one two is many parts in_front in_back = record {
    added = Split of cases ∷ (front ++ Case ∷ []);
    ending = reverse back;
    before = before ∙ append_assoc p.before.items (Split of cases ∷ []) (front ++ Case ∷ []);
    behind = behind;
    leads = leads_as (known_on b p) (tree.Split of (count_of fs) ∷ (cases_in_turn in_front.cases ++ (tree.Case ∷ []))) (lines_of b (Split of cases ∷ (front ++ Case ∷ [])))
        (known_on b p ++ formula_at b f ∷ []) (known_on b q) (cases_in_turn in_back.cases) (lines_of b (reverse (reverse back)))
        (ap (λ k. tree.Split of k ∷ (cases_in_turn in_front.cases ++ (tree.Case ∷ []))) many ∙ ap (λ ls. tree.Split of cases ∷ (ls ++ (tree.Case ∷ []))) (sym in_front.in_turn)
        ∙ ap (λ ls. tree.Split of cases ∷ ls) (sym (lines_append b front (Case ∷ []))))
        (sym (known_more p q f known)) (sym in_back.in_turn ∙ sym (lines_back b back))
        (by_part cs premises goal (known_on b p) of fs one (formula_at b f) two in_front.cases in_back.cases is parts in_front.closed in_back.closed);
  }

  pub goes_by_choice : (p q : Path) (exists choice : ℕ) (f : FormulaId) →
      q.before.items ≡ (p.before.items ++ Split choice 2 ∷ Case ∷ []) ++ Clash exists (length p.known.items) ∷ Case ∷ [] → q.behind.items ≡ p.behind.items → q.known.items ≡ p.known.items ++ f ∷ [] →
      (ss : List Sort) (body : Formula) (ts : List Term) → slice_get (known_on b p) exists ≡ Some (Exists ss body) → slice_get (known_on b p) choice ≡ Some (chosen ss body ts) → formula_at b f ≡ put ts body → GoesOn cs premises goal b p q
  goes_by_choice p q exists choice f before behind known ss body ts is chose says = record {
    added = Split choice 2 ∷ Case ∷ Clash exists (length p.known.items) ∷ Case ∷ [];
    ending = [];
    before = before ∙ append_assoc p.before.items (Split choice 2 ∷ Case ∷ []) (Clash exists (length p.known.items) ∷ Case ∷ []);
    behind = behind ∙ sym (append-nil p.behind.items);
    leads = leads_as (known_on b p) (tree.Split choice 2 ∷ tree.Case ∷ tree.Clash exists (length (known_on b p)) ∷ tree.Case ∷ []) (lines_of b (Split choice 2 ∷ Case ∷ Clash exists (length p.known.items) ∷ Case ∷ []))
        (known_on b p ++ put ts body ∷ []) (known_on b q) [] []
        (ap (λ n. tree.Split choice 2 ∷ tree.Case ∷ tree.Clash exists n ∷ tree.Case ∷ []) (length-map p.known.items (formula_at b)))
        (ap (λ g. known_on b p ++ g ∷ []) (sym says) ∙ sym (known_more p q f known)) refl
        (by_choice cs premises goal (known_on b p) exists choice ss body ts is chose);
  }

  -- ---- closed cases

  pub case_more : (known fs : List Formula) (f : Formula) (old closing : List Line) → AreCases cs premises goal known fs (lines_of b old) → Closes cs premises goal (known ++ f ∷ []) (lines_of b closing) →
      AreCases cs premises goal known (fs ++ f ∷ []) (lines_of b ((old ++ Case ∷ []) ++ closing))
  case_more known fs f old closing are closes = record {
    cases = are.cases ++ lines_of b closing ∷ [];
    in_turn = lines_append b (old ++ Case ∷ []) closing ∙ ap (λ ls. ls ++ lines_of b closing) (lines_append b old (Case ∷ []) ∙ ap (λ ls. ls ++ tree.Case ∷ []) are.in_turn) ∙ one_more are.cases (lines_of b closing);
    closed = close_more fs are.cases are.closed;
  }
    where
      one_more : (cases : List (List tree.Line)) (lines : List tree.Line) → (cases_in_turn cases ++ tree.Case ∷ []) ++ lines ≡ cases_in_turn (cases ++ lines ∷ [])
      one_more [] lines = ap (λ ls. tree.Case ∷ ls) (sym (append-nil lines))
      one_more (c ∷ cases) lines =
          ap (λ ls. tree.Case ∷ ls) (ap (λ ls. ls ++ lines) (append_assoc c (cases_in_turn cases) (tree.Case ∷ [])) ∙ append_assoc c (cases_in_turn cases ++ tree.Case ∷ []) lines ∙ ap (λ ls. c ++ ls) (one_more cases lines))

      close_more : (gs : List Formula) (cases : List (List tree.Line)) → CloseEach cs premises goal known gs cases → CloseEach cs premises goal known (gs ++ f ∷ []) (cases ++ lines_of b closing ∷ [])
      close_more [] [] h = (closes, tt)
      close_more [] (c ∷ cases) h = absurd h
      close_more (g ∷ gs) [] h = absurd h
      close_more (g ∷ gs) (c ∷ cases) h = (h.0, close_more gs cases h.1)

  -- ---- trials

  module _ (m : Mark) (front : List Line) (f : FormulaId) (at trial now : Path) (t : IsTrial cs premises goal b m front f at trial now) where
    before_is : now.before.items ≡ (at.before.items ++ front) ++ t.since.added
    before_is = t.since.before ∙ ap (λ xs. xs ++ t.since.added) t.begun.before

    behind_is : now.behind.items ≡ at.behind.items ++ t.since.ending
    behind_is = t.since.behind ∙ ap (λ xs. xs ++ t.since.ending) t.begun.behind

    -- a path that is taken back from a trial that stays open is the one before it
    pub trial_undone : (new : Path) → IsBack m now new → IsSame at new
    trial_undone new back = record {
      before = back.before ∙ ap (take m.before) (before_is ∙ append_assoc at.before.items front t.since.added) ∙ take_at at.before.items (front ++ t.since.added) m.before (sym t.mark.before);
      behind = back.behind ∙ ap (take m.behind) behind_is ∙ take_at at.behind.items t.since.ending m.behind (sym t.mark.behind);
      known = back.known ∙ ap (λ n. take n now.known.items) t.mark.known ∙ t.kept;
    }

    -- a trial goes on with its path
    pub trial_goes : (next : Path) → GoesOn cs premises goal b now next → take (length at.known.items) next.known.items ≡ at.known.items → IsTrial cs premises goal b m front f at trial next
    trial_goes next goes kept = record { mark = t.mark; begun = t.begun; since = goes_through trial now next t.since goes; kept = kept }

    ending_is : drop m.behind now.behind.items ≡ t.since.ending
    ending_is = ap (drop m.behind) behind_is ∙ drop_at at.behind.items t.since.ending m.behind (sym t.mark.behind)

    known_back : take m.known (known_on b now) ≡ known_on b at
    known_back = take-map (formula_at b) m.known now.known.items ∙ ap (λ n. formulas_at b (take n now.known.items)) t.mark.known ∙ ap (formulas_at b) t.kept

    -- all lines of the trial, with some at its end
    text_closes : (closing : List Line) → Closes cs premises goal (known_on b now) (lines_of b closing) → Closes cs premises goal (known_on b at ++ formula_at b f ∷ []) (lines_of b (t.since.added ++ (closing ++ reverse t.since.ending)))
    text_closes closing closes =
        subst (Closes cs premises goal (known_on b at ++ formula_at b f ∷ []))
        (ap (λ ls. lines_of b t.since.added ++ ls) (sym (lines_append b closing (reverse t.since.ending))) ∙ sym (lines_append b t.since.added (closing ++ reverse t.since.ending)))
        (subst (λ fs. Closes cs premises goal fs (lines_of b t.since.added ++ (lines_of b closing ++ lines_of b (reverse t.since.ending)))) (known_more at trial f t.begun.known)
        (t.since.leads.closes (lines_of b closing) closes))

  -- the lines of a trial without a cut
  module _ (m : Mark) (f : FormulaId) (closing : List Line) (at trial now : Path) (t : IsTrial cs premises goal b m [] f at trial now) where
    added_is : drop m.before now.before.items ≡ t.since.added
    added_is =
        ap (drop m.before) (before_is m [] f at trial now t ∙ ap (λ xs. xs ++ t.since.added) (append-nil at.before.items)) ∙ drop_at at.before.items t.since.added m.before (sym t.mark.before)

    pub out_closes : (lines : List Line) → lines ≡ drop m.before now.before.items ++ (closing ++ reverse (drop m.behind now.behind.items)) → Closes cs premises goal (known_on b now) (lines_of b closing) →
        Closes cs premises goal (known_on b at ++ formula_at b f ∷ []) (lines_of b lines)
    out_closes lines is closes =
        subst (λ ls. Closes cs premises goal (known_on b at ++ formula_at b f ∷ []) (lines_of b ls))
        (sym (is ∙ ap (λ xs. xs ++ (closing ++ reverse (drop m.behind now.behind.items))) added_is ∙ ap (λ xs. t.since.added ++ (closing ++ reverse xs)) (ending_is m [] f at trial now t)))
        (text_closes m [] f at trial now t closing closes)

  -- a supposed formula is denied
  module _ (m : Mark) (f g : FormulaId) (closing : List Line) (at trial now mid new : Path) (t : IsTrial cs premises goal b m (opening (is_cut (formula_at b f)) f) f at trial now)
      (closes : Closes cs premises goal (known_on b now) (lines_of b closing)) (has : HasFormula b f) (other : HasFormula b g) (is : formula_at b g ≡ neg (formula_at b f)) (formed : is_well_formed cs [] (formula_at b f) ≡ true)
      (turned : IsTurned b m f g closing now mid) (before : new.before.items ≡ mid.before.items) (behind : new.behind.items ≡ mid.behind.items) (known : known_on b new ≡ take m.known (known_on b now) ++ neg (formula_at b f) ∷ []) where
    abbrev lines : List Line
    lines = t.since.added ++ (closing ++ reverse t.since.ending)

    lines_close : Closes cs premises goal (known_on b at ++ formula_at b f ∷ []) (lines_of b lines)
    lines_close = text_closes m (opening (is_cut (formula_at b f)) f) f at trial now t closing closes

    known_is : known_on b at ++ neg (formula_at b f) ∷ [] ≡ known_on b new
    known_is = sym (known ∙ ap (λ fs. fs ++ neg (formula_at b f) ∷ []) (known_back m (opening (is_cut (formula_at b f)) f) f at trial now t))

    now_before : (cut : Bool) → is_cut (formula_at b f) ≡ cut → now.before.items ≡ (at.before.items ++ opening cut f) ++ t.since.added
    now_before cut e = before_is m (opening (is_cut (formula_at b f)) f) f at trial now t ∙ ap (λ c. (at.before.items ++ opening c f) ++ t.since.added) e

    now_after : now.behind.items ≡ at.behind.items ++ t.since.ending
    now_after = behind_is m (opening (is_cut (formula_at b f)) f) f at trial now t

    in_front : is_cut (formula_at b f) ≡ true → GoesOn cs premises goal b at new
    in_front cut = record {
      added = Cut f ∷ Case ∷ (lines ++ Case ∷ []);
      ending = [];
      before = before ∙ (turned.front cut).0
          ∙ ap (λ xs. ((xs ++ closing) ++ reverse (drop m.behind now.behind.items)) ++ Case ∷ []) (now_before true cut)
          ∙ ap (λ xs. ((((at.before.items ++ Cut f ∷ Case ∷ []) ++ t.since.added) ++ closing) ++ reverse xs) ++ Case ∷ []) (ending_is m (opening (is_cut (formula_at b f)) f) f at trial now t)
          ∙ regroup_front at.before.items (Cut f ∷ Case ∷ []) t.since.added closing (reverse t.since.ending) (Case ∷ []);
      behind = behind ∙ (turned.front cut).1 ∙ ap (take m.behind) now_after ∙ take_at at.behind.items t.since.ending m.behind (sym t.mark.behind) ∙ sym (append-nil at.behind.items);
      leads = leads_as (known_on b at) (tree.Cut (formula_at b f) ∷ tree.Case ∷ (lines_of b lines ++ (tree.Case ∷ []))) (lines_of b (Cut f ∷ Case ∷ (lines ++ Case ∷ [])))
          (known_on b at ++ neg (formula_at b f) ∷ []) (known_on b new) [] []
          (ap (λ l. l ∷ tree.Case ∷ (lines_of b lines ++ (tree.Case ∷ []))) (sym (cut_line b f has)) ∙ ap (λ ls. line_of b (Cut f) ∷ tree.Case ∷ ls) (sym (lines_append b lines (Case ∷ []))))
          known_is refl
          (by_denial cs premises goal (known_on b at) (formula_at b f) (lines_of b lines) cut formed lines_close);
    }

    module _ (basic : (is_literal (formula_at b f) || is_quantified (formula_at b f)) ≡ true) (cut : is_cut (formula_at b f) ≡ false) where
      before_there : now.before.items ≡ at.before.items ++ t.since.added
      before_there = now_before false cut ∙ ap (λ xs. xs ++ t.since.added) (append-nil at.before.items)

      in_back : GoesOn cs premises goal b at new
      in_back = record {
        added = Cut g ∷ Case ∷ [];
        ending = ((t.since.ending ++ reverse closing) ++ reverse t.since.added) ++ Case ∷ [];
        before = before ∙ (turned.back cut).0 ∙ ap (λ xs. xs ++ Cut g ∷ Case ∷ []) (ap (take m.before) before_there ∙ take_at at.before.items t.since.added m.before (sym t.mark.before));
        behind = behind ∙ (turned.back cut).1
            ∙ ap (λ xs. ((xs ++ reverse closing) ++ reverse (drop m.before now.before.items)) ++ Case ∷ []) now_after
            ∙ ap (λ xs. (((at.behind.items ++ t.since.ending) ++ reverse closing) ++ reverse xs) ++ Case ∷ []) (ap (drop m.before) before_there ∙ drop_at at.before.items t.since.added m.before (sym t.mark.before))
            ∙ regroup_back at.behind.items t.since.ending (reverse closing) (reverse t.since.added) (Case ∷ []);
        leads = leads_as (known_on b at) (tree.Cut (neg (formula_at b f)) ∷ tree.Case ∷ []) (lines_of b (Cut g ∷ Case ∷ []))
            (known_on b at ++ neg (formula_at b f) ∷ []) (known_on b new) (tree.Case ∷ lines_of b lines) (lines_of b (reverse (((t.since.ending ++ reverse closing) ++ reverse t.since.added) ++ Case ∷ [])))
            (ap (λ h. tree.Cut h ∷ tree.Case ∷ []) (sym is) ∙ ap (λ l. l ∷ tree.Case ∷ []) (sym (cut_line b g other)))
            known_is (sym (ap (lines_of b) (turned_back t.since.ending closing t.since.added (Case ∷ []))))
            (by_cut cs premises goal (known_on b at) (neg (formula_at b f)) (lines_of b lines) (other_cut (formula_at b f) basic cut) (neg_formed cs [] (formula_at b f) ∙ formed)
            (subst (λ h. Closes cs premises goal (known_on b at ++ h ∷ []) (lines_of b lines)) (sym (neg_neg (formula_at b f))) lines_close));
      }

    pub trial_denied : (is_literal (formula_at b f) || is_quantified (formula_at b f)) ≡ true → GoesOn cs premises goal b at new
    trial_denied basic = ⊎_elim in_front (in_back basic) (cases_Bool (is_cut (formula_at b f)))

  -- ---- the begin of a trial

  pub trial_begins : (m : Mark) (front : List Line) (f : FormulaId) (at trial : Path) → IsMark m at → BeginsCase front f at trial → IsTrial cs premises goal b m front f at trial trial
  trial_begins m front f at trial mark begun = record {
    mark = mark;
    begun = begun;
    since = goes_nowhere trial trial (record { before = refl; behind = refl; known = refl });
    kept = ap (take (length at.known.items)) begun.known ∙ take_at at.known.items (f ∷ []) (length at.known.items) refl;
  }

  pub begun_closes : (front : List Line) (f : FormulaId) (at trial : Path) (lines : List tree.Line) → BeginsCase front f at trial → Closes cs premises goal (known_on b at ++ formula_at b f ∷ []) lines → Closes cs premises goal (known_on b trial) lines
  begun_closes front f at trial lines begun closes = subst (λ fs. Closes cs premises goal fs lines) (sym (known_more at trial f begun.known)) closes

-- ---- what is known after a trial

pub known_denied : (b : Forms) (n : ℕ) (old mid new : List FormulaId) (f g : FormulaId) → mid ≡ old → new ≡ take n mid ++ g ∷ [] → formula_at b g ≡ neg (formula_at b f) → formulas_at b new ≡ take n (formulas_at b old) ++ neg (formula_at b f) ∷ []
known_denied b n old mid new f g same is other =
    ap (formulas_at b) (is ∙ ap (λ fs. take n fs ++ g ∷ []) same) ∙ map_push (formula_at b) (take n old) g
    ∙ ap (λ fs. fs ++ formula_at b g ∷ []) (sym (take-map (formula_at b) n old)) ∙ ap (λ h. take n (formulas_at b old) ++ h ∷ []) other

pub numbers_begun : (m : Mark) (front : List Line) (f : FormulaId) (at trial : Path) → IsMark m at → BeginsCase front f at trial → take m.known trial.known.items ≡ at.known.items
numbers_begun m front f at trial mark begun = ap (take m.known) begun.known ∙ take_at at.known.items (f ∷ []) m.known (sym mark.known)

pub known_begun : (b : Forms) (m : Mark) (front : List Line) (f : FormulaId) (at trial : Path) → IsMark m at → BeginsCase front f at trial → take m.known (known_on b trial) ≡ known_on b at
known_begun b m front f at trial mark begun = take-map (formula_at b) m.known trial.known.items ∙ ap (formulas_at b) (numbers_begun m front f at trial mark begun)

pub ends_as : (b : Forms) (front front' : List FormulaId) (f : Formula) (known : List FormulaId) → front ≡ front' → EndsWith b front f known → EndsWith b front' f known
ends_as b front front' f known same e = record { number = e.number; in_bank = e.in_bank; is = e.is; numbers = e.numbers ∙ ap (λ fs. fs ++ e.number ∷ []) same }
