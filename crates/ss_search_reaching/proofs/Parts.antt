-- The parts of a fact.
use Rattle.std.proofs.Common.{◌≡◌, ℕ, zero, suc, ◌+◌, ◌<◌, ◌≤◌, List, [], ◌∷◌, ◌++◌, length, take, drop, Some, refl, sym, ◌∙◌, ap, subst, arith}
use Rattle.std.specs.Prelude.{slice_get}
use Rattle.std.proofs.lemmas.List.{map_push, length-map, take_all}
use Rattle.ss_core.specs.Tree.{ClassTree}
use Rattle.ss_logic.specs.Formulas.{Formula, Formulas, And, Or, no_formulas, formula_then, formula_list, formulas_from, is_well_formed}
use Rattle.ss_logic_means.specs.Steps as tree
use Rattle.ss_logic_means.specs.Steps.{count_of}
use Rattle.ss_terms.specs.declared.forms.FormulaId.{FormulaId}
use Rattle.ss_terms.specs.Forms.{Forms, formula_at, formulas_at}
use Rattle.ss_deriv.specs.declared.line.Line.{Line}
use Rattle.ss_deriv.specs.declared.line.Line.TheVariants as line
use Rattle.ss_deriv.specs.Lines.{lines_of}
use Rattle.ss_equality_rules.specs.declared.Merge.{Merge}
use Rattle.ss_equality_rules.proofs.Lists.{there}
use Rattle.ss_search_reached.proofs.Lists.{list_back}
use Rattle.ss_search_reached.proofs.Fronts.{front_push, front_trans}
use Rattle.ss_search_clashes.specs.Closing.{Closes, cases_in_turn, CloseEach}
use Rattle.ss_search_clashes.proofs.Closing.{closes_split}
use Rattle.ss_search_clashes.proofs.Leading.{at_end}
use Rattle.ss_search_path.specs.declared.path.Path.{Path}
use Rattle.ss_search_path.specs.declared.path.Mark.{Mark}
use Rattle.ss_search_path.specs.Paths.{known_on, GoesOn, AreCases, IsMark, IsBack, BeginsCase, IsTrial}
use Rattle.ss_search_path.proofs.Going.{goes_through, goes_nowhere, trial_undone}
use Rattle.ss_logic_means.specs.Origins.{opened_by}
use Rattle.ss_search_path.specs.Standing.{choices_in, parts_of, AreChosen, IsFact, IsOpenedFact}
use Rattle.ss_search_path.proofs.StandingFacts.{known_more, or_fact, part_fact, listed_formed, some_same}
use Rattle.ss_search_reaching.specs.declared.basic.Refuting.{Refuting}
use Rattle.ss_search_reaching.specs.Refuting.{bank_of, and_of, or_of, AreShown, IsShown, GoesOnFrom, StaysFrom, ClosesFrom, ClosesPart, between, AreCasesFrom}
use Rattle.ss_search_reaching.proofs.Shown.{part_there, shown_longer, back_known, back_same}

or_parts : (fs gs : Formulas) → Or fs ≡ Or gs → fs ≡ gs
or_parts fs gs e = cc

-- ---- elements between two places

none_between : {A : Type 0} (n : ℕ) (xs : List A) → between n n xs ≡ []
none_between zero xs = refl
none_between (suc n) [] = refl
none_between (suc n) (x ∷ xs) = none_between n xs

next_between : {A : Type 0} (start i : ℕ) (xs : List A) (x : A) → start ≤ i → slice_get xs i ≡ Some x → between start (suc i) xs ≡ between start i xs ++ x ∷ []
next_between start i [] x l at = cc
next_between zero zero (y ∷ xs) x l at = let same : y ≡ x = cc in ap (λ z. z ∷ []) same
next_between zero (suc i) (y ∷ xs) x l at = ap (λ zs. y ∷ zs) (next_between zero i xs x (omega arith) at)
next_between (suc start) zero (y ∷ xs) x l at = absurd (omega (arith, l))
next_between (suc start) (suc i) (y ∷ xs) x l at = next_between start i xs x (omega (arith, l)) at

-- ---- what is opened

-- a part of the `and` that is the fact at a place is known, and opened
pub record OpensPart (s : Refuting) (old opened : Path) (place from at later part : ℕ) : Type 0 where
  pub kept : take (length old.known.items) opened.known.items ≡ old.known.items
  pub goes_on : (cs : List ClassTree) (premises : List Formula) (goal : Formula) (fs : Formulas) (g : Formula) → AreChosen cs s.given (known_on (bank_of s) old) → IsOpenedFact cs s.given (known_on (bank_of s) old) place from (And fs) →
      slice_get (formula_list fs) part ≡ Some g → GoesOn cs premises goal (bank_of s) old opened
  pub opened_is : (cs : List ClassTree) (fs : Formulas) (g : Formula) → AreChosen cs s.given (known_on (bank_of s) old) → IsOpenedFact cs s.given (known_on (bank_of s) old) place from (And fs) → slice_get (formula_list fs) part ≡ Some g →
      IsOpenedFact cs s.given (known_on (bank_of s) opened) at later g

-- a part of the `or` that is the fact at a place is assumed, and opened
pub record OpensCase (s : Refuting) (m : Mark) (old begun opened : Path) (place from at later part : ℕ) (g : FormulaId) : Type 0 where
  pub part_is : (fact h : Formula) → slice_get (known_on (bank_of s) old) place ≡ Some fact → slice_get (parts_of fact) part ≡ Some h → formula_at (bank_of s) g ≡ h
  pub mark : IsMark m old
  pub begun_is : BeginsCase [] g old begun
  pub kept : take (length begun.known.items) opened.known.items ≡ begun.known.items
  pub goes_on : (cs : List ClassTree) (premises : List Formula) (goal : Formula) → AreChosen cs s.given (known_on (bank_of s) begun) → GoesOn cs premises goal (bank_of s) begun opened
  pub opened_is : (cs : List ClassTree) (h : Formula) → AreChosen cs s.given (known_on (bank_of s) begun) → IsFact cs s.given (known_on (bank_of s) begun) (length old.known.items) from h → IsOpenedFact cs s.given (known_on (bank_of s) opened) at later h

module _ (s : Refuting) (ms : List Merge) where
  -- ---- a part of an `and`

  module _ (old opened : Path) (place from at later part : ℕ) (o : OpensPart s old opened place from at later part) (parts : List FormulaId) (f : FormulaId) (f_at : slice_get parts part ≡ Some f) (new : Path)
      (kept : take (length opened.known.items) new.known.items ≡ opened.known.items) where
    pub part_kept : take (length old.known.items) new.known.items ≡ old.known.items
    part_kept = front_trans old.known.items opened.known.items new.known.items o.kept kept

    part_shown : (cs : List ClassTree) → IsShown cs s ms (known_on (bank_of s) old) place from (and_of (bank_of s) parts) → IsShown cs s ms (known_on (bank_of s) opened) at later (formula_at (bank_of s) f)
    part_shown cs h = record {
      shown = shown_longer cs s ms (known_on (bank_of s) old) (known_on (bank_of s) opened) (known_more (bank_of s) old opened o.kept) h.shown;
      fact = o.opened_is cs (formulas_from (formulas_at (bank_of s) parts)) (formula_at (bank_of s) f) h.shown.chosen h.fact (part_there (bank_of s) parts part f f_at);
    }

    pub part_closes : (lines : List Line) → ClosesFrom s ms opened at later (formula_at (bank_of s) f) new lines → ClosesFrom s ms old place from (and_of (bank_of s) parts) new lines
    part_closes lines closes cs premises goal h = closes cs premises goal (part_shown cs h)

    module _ (goes_on : GoesOnFrom s ms opened at later (formula_at (bank_of s) f) new) where
      pub part_goes_on : GoesOnFrom s ms old place from (and_of (bank_of s) parts) new
      part_goes_on cs premises goal h = goes_through cs premises goal (bank_of s) old opened new
          (o.goes_on cs premises goal (formulas_from (formulas_at (bank_of s) parts)) (formula_at (bank_of s) f) h.shown.chosen h.fact (part_there (bank_of s) parts part f f_at))
          (goes_on cs premises goal (part_shown cs h))

      -- where it is taken back
      pub part_stays : (m : Mark) → IsMark m old → (last : Path) → IsBack m new last → StaysFrom s ms old place from (and_of (bank_of s) parts) last
      part_stays m mark last back cs premises goal h = back_same m old new last mark part_kept back cs premises goal (bank_of s) (part_goes_on cs premises goal h)

  -- ---- the same path

  pub stays_on : (old new : Path) (place from : ℕ) (f : Formula) → StaysFrom s ms old place from f new → GoesOnFrom s ms old place from f new
  stays_on old new place from f h cs premises goal shown = goes_nowhere cs premises goal (bank_of s) old new (h cs premises goal shown)

  pub stays_there : (p : Path) (place from : ℕ) (f : Formula) → StaysFrom s ms p place from f p
  stays_there p place from f cs premises goal shown = record { before = refl; behind = refl; known = refl }

  pub stays_still : (x y z : Path) (place from : ℕ) (f : Formula) → y.known.items ≡ x.known.items → StaysFrom s ms x place from f y → StaysFrom s ms y place from f z → StaysFrom s ms x place from f z
  stays_still x y z place from f same one two cs premises goal shown =
      let p = one cs premises goal shown in
      let q = two cs premises goal (subst (λ (gs : List Formula). IsShown cs s ms gs place from f) (sym (ap (formulas_at (bank_of s)) same)) shown) in
      record { before = q.before ∙ p.before; behind = q.behind ∙ p.behind; known = q.known ∙ p.known }

  -- what is said from a path holds from one at the same place
  pub goes_on_still : (x y z : Path) (place from : ℕ) (f : Formula) → y.known.items ≡ x.known.items → StaysFrom s ms x place from f y → GoesOnFrom s ms y place from f z → GoesOnFrom s ms x place from f z
  goes_on_still x y z place from f same one two cs premises goal shown = goes_through cs premises goal (bank_of s) x y z
      (goes_nowhere cs premises goal (bank_of s) x y (one cs premises goal shown))
      (two cs premises goal (subst (λ (gs : List Formula). IsShown cs s ms gs place from f) (sym (ap (formulas_at (bank_of s)) same)) shown))

  pub closes_still : (x y z : Path) (place from : ℕ) (f : Formula) (lines : List Line) → y.known.items ≡ x.known.items → ClosesFrom s ms y place from f z lines → ClosesFrom s ms x place from f z lines
  closes_still x y z place from f lines same h cs premises goal shown = h cs premises goal (subst (λ (gs : List Formula). IsShown cs s ms gs place from f) (sym (ap (formulas_at (bank_of s)) same)) shown)

  -- ---- a part of an `or`

  -- the part of the fact, at the end of the facts, is that of the formula
  pub part_stands : (cs : List ClassTree) (old new : Path) (place from : ℕ) (parts : List FormulaId) (part : ℕ) (f g : FormulaId) → slice_get parts part ≡ Some f →
      ((fact h : Formula) → slice_get (known_on (bank_of s) old) place ≡ Some fact → slice_get (parts_of fact) part ≡ Some h → formula_at (bank_of s) g ≡ h) → new.known.items ≡ old.known.items ++ g ∷ [] →
      IsShown cs s ms (known_on (bank_of s) old) place from (or_of (bank_of s) parts) → IsFact cs s.given (known_on (bank_of s) new) (length old.known.items) from (formula_at (bank_of s) f)
  part_stands cs old new place from parts part f g f_at part_is known h =
      let b : Forms = bank_of s in
      let w = or_fact cs s.given (known_on b old) place from (formulas_from (formulas_at b parts)) h.fact in
      let p = part_fact cs s.given (known_on b old) place from (formula_list w.0) (formula_list (formulas_from (formulas_at b parts))) w.3 part (formula_at b f) (part_there b parts part f f_at) in
      let same : formula_at b g ≡ p.0 = part_is (Or w.0) p.0 w.1 p.1 in
      let new_is : known_on b new ≡ known_on b old ++ formula_at b g ∷ [] = ap (formulas_at b) known ∙ map_push (formula_at b) old.known.items g in
      record {
        fact = formula_at b g;
        at = ap (λ (fs : List Formula). slice_get fs (length old.known.items)) new_is
            ∙ ap (λ (n : ℕ). slice_get (known_on b old ++ formula_at b g ∷ []) n) (sym (length-map old.known.items (formula_at b))) ∙ at_end (known_on b old) (formula_at b g);
        formed = ap (is_well_formed cs []) same ∙ listed_formed cs w.0 part p.0 w.2 p.1;
        opened = ap (opened_by (drop from (choices_in s.given))) same ∙ p.2;
      }

  module _ (m : Mark) (old begun opened : Path) (place from at later part : ℕ) (g : FormulaId) (o : OpensCase s m old begun opened place from at later part g) (parts : List FormulaId) (f : FormulaId) (f_at : slice_get parts part ≡ Some f) (new : Path)
      (kept : take (length opened.known.items) new.known.items ≡ opened.known.items) (goes_on : GoesOnFrom s ms opened at later (formula_at (bank_of s) f) new) where
    begun_kept : take (length old.known.items) begun.known.items ≡ old.known.items
    begun_kept = front_push old.known.items begun.known.items (g ∷ []) o.begun_is.known

    case_kept : take (length old.known.items) new.known.items ≡ old.known.items
    case_kept = front_trans old.known.items begun.known.items new.known.items begun_kept (front_trans begun.known.items opened.known.items new.known.items o.kept kept)

    module _ (cs : List ClassTree) (h : IsShown cs s ms (known_on (bank_of s) old) place from (or_of (bank_of s) parts)) where
      begun_shown : AreShown cs s ms (known_on (bank_of s) begun)
      begun_shown = shown_longer cs s ms (known_on (bank_of s) old) (known_on (bank_of s) begun) (known_more (bank_of s) old begun begun_kept) h.shown

      begun_fact : IsFact cs s.given (known_on (bank_of s) begun) (length old.known.items) from (formula_at (bank_of s) f)
      begun_fact = part_stands cs old begun place from parts part f g f_at o.part_is o.begun_is.known h

      case_shown : IsShown cs s ms (known_on (bank_of s) opened) at later (formula_at (bank_of s) f)
      case_shown = record {
        shown = shown_longer cs s ms (known_on (bank_of s) begun) (known_on (bank_of s) opened) (known_more (bank_of s) begun opened o.kept) begun_shown;
        fact = o.opened_is cs (formula_at (bank_of s) f) begun_shown.chosen begun_fact;
      }

      case_trial : (premises : List Formula) (goal : Formula) → IsTrial cs premises goal (bank_of s) m [] g old begun new
      case_trial premises goal = record {
        mark = o.mark;
        begun = o.begun_is;
        since = goes_through cs premises goal (bank_of s) begun opened new (o.goes_on cs premises goal begun_shown.chosen) (goes_on cs premises goal case_shown);
        kept = case_kept;
      }

    -- what its lines close
    pub case_closes : (closing lines : List Line) → ClosesFrom s ms opened at later (formula_at (bank_of s) f) new closing →
        ((cs : List ClassTree) (premises : List Formula) (goal : Formula) (b : Forms) (h : FormulaId) (start trial : Path) → IsTrial cs premises goal b m [] h start trial new → Closes cs premises goal (known_on b new) (lines_of b closing) →
        Closes cs premises goal (known_on b start ++ formula_at b h ∷ []) (lines_of b lines)) →
        ClosesPart s ms old place from (or_of (bank_of s) parts) part lines
    case_closes closing lines closes out cs premises goal h fs x is_or is_x =
        subst (λ (y : Formula). Closes cs premises goal (known_on (bank_of s) old ++ y ∷ []) (lines_of (bank_of s) lines)) (o.part_is (Or fs) x is_or is_x)
        (out cs premises goal (bank_of s) g old begun (case_trial cs h premises goal) (closes cs premises goal (case_shown cs h)))

    pub case_back : (last : Path) → IsBack m new last → last.known.items ≡ old.known.items
    case_back last back = back_known m old new last o.mark case_kept back

    pub case_stays : (last : Path) → IsBack m new last → StaysFrom s ms old place from (or_of (bank_of s) parts) last
    case_stays last back cs premises goal h = trial_undone cs premises goal (bank_of s) m [] g old begun new (case_trial cs h premises goal) last back

  -- ---- cases in turn

  module _ (old : Path) (place from : ℕ) (parts : List FormulaId) where
    abbrev whole : Formula
    whole = or_of (bank_of s) parts

    pub no_cases : (start : ℕ) (lines : List Line) → lines ≡ [] → AreCasesFrom s ms old place from whole start start lines
    no_cases start lines e cs premises goal h fs is = record {
      cases = [];
      in_turn = ap (lines_of (bank_of s)) e;
      closed = subst (λ (gs : List Formula). CloseEach cs premises goal (known_on (bank_of s) old) gs []) (sym (none_between start (formula_list fs))) tt;
    }

    -- the parts of the fact are as many
    pub as_many : (cs : List ClassTree) → IsShown cs s ms (known_on (bank_of s) old) place from whole → (fs : Formulas) → slice_get (known_on (bank_of s) old) place ≡ Some (Or fs) → length (formula_list fs) ≡ length parts
    as_many cs h fs is =
        let b : Forms = bank_of s in
        let o = or_fact cs s.given (known_on b old) place from (formulas_from (formulas_at b parts)) h.fact in
        let same : o.0 ≡ fs = or_parts o.0 fs (some_same (slice_get (known_on b old) place) (Or o.0) (Or fs) o.1 is) in
        ap (λ (gs : Formulas). length (formula_list gs)) (sym same)
        ∙ sym (length-map (formula_list o.0) (opened_by (drop from (choices_in s.given)))) ∙ ap length o.3 ∙ ap length (list_back (formulas_at b parts)) ∙ length-map parts (formula_at b)

    pub next_case : (now : Path) (start i : ℕ) (cases closing more : List Line) → now.known.items ≡ old.known.items → start ≤ i → i < length parts → AreCasesFrom s ms old place from whole start i cases → ClosesPart s ms now place from whole i closing →
        ((cs : List ClassTree) (premises : List Formula) (goal : Formula) (b : Forms) (known fs : List Formula) (f : Formula) → AreCases cs premises goal known fs (lines_of b cases) → Closes cs premises goal (known ++ f ∷ []) (lines_of b closing) →
        AreCases cs premises goal known (fs ++ f ∷ []) (lines_of b more)) →
        AreCasesFrom s ms old place from whole start (i + 1) more
    next_case now start i cases closing more same early l before here add cs premises goal h fs is =
        let b : Forms = bank_of s in
        let known_is : known_on b now ≡ known_on b old = ap (formulas_at b) same in
        let f = there (formula_list fs) i (subst (λ (n : ℕ). i < n) (sym (as_many cs h fs is)) l) in
        let now_is : slice_get (known_on b now) place ≡ Some (Or fs) = ap (λ (gs : List Formula). slice_get gs place) known_is ∙ is in
        let closes : Closes cs premises goal (known_on b old ++ f.0 ∷ []) (lines_of b closing) =
        subst (λ (gs : List Formula). Closes cs premises goal (gs ++ f.0 ∷ []) (lines_of b closing)) known_is
        (here cs premises goal (subst (λ (gs : List Formula). IsShown cs s ms gs place from whole) (sym known_is) h) fs f.0 now_is f.1) in
        let next : i + 1 ≡ suc i = omega arith in
        subst (λ (gs : List Formula). AreCases cs premises goal (known_on b old) gs (lines_of b more)) (sym (ap (λ (n : ℕ). between start n (formula_list fs)) next ∙ next_between start i (formula_list fs) f.0 early f.1))
        (add cs premises goal b (known_on b old) (between start i (formula_list fs)) f.0 (before cs premises goal h fs is) closes)

    pub count_is : (fs : Formulas) → count_of fs ≡ length (formula_list fs)
    count_is no_formulas = refl
    count_is (formula_then f fs) = ap suc (count_is fs)

    pub cases_close : (new : Path) (stop : ℕ) (cases lines : List Line) → new.known.items ≡ old.known.items → length parts ≤ stop → lines ≡ line.Split place (length parts) ∷ cases → AreCasesFrom s ms old place from whole 0 stop cases →
        ClosesFrom s ms old place from whole new lines
    cases_close new stop cases lines same all_there e are cs premises goal h =
        let b : Forms = bank_of s in
        let o = or_fact cs s.given (known_on b old) place from (formulas_from (formulas_at b parts)) h.fact in
        let many : length (formula_list o.0) ≡ length parts = as_many cs h o.0 o.1 in
        let all : take stop (formula_list o.0) ≡ formula_list o.0 = take_all stop (formula_list o.0) (omega (arith, many, all_there)) in
        let a : AreCases cs premises goal (known_on b old) (formula_list o.0) (lines_of b cases) = subst (λ (gs : List Formula). AreCases cs premises goal (known_on b old) gs (lines_of b cases)) all (are cs premises goal h o.0 o.1) in
        let text : tree.Split place (count_of o.0) ∷ cases_in_turn a.cases ≡ lines_of b lines =
        ap (λ (n : ℕ). tree.Split place n ∷ cases_in_turn a.cases) (count_is o.0 ∙ many) ∙ ap (λ (ls : List tree.Line). tree.Split place (length parts) ∷ ls) (sym a.in_turn) ∙ sym (ap (lines_of b) e) in
        subst (λ (gs : List Formula). Closes cs premises goal gs (lines_of b lines)) (sym (ap (formulas_at b) same))
        (subst (λ (ls : List tree.Line). Closes cs premises goal (known_on b old) ls) text (closes_split cs premises goal (known_on b old) place o.0 a.cases o.1 a.closed))
