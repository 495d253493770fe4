-- Guarded formulas: the negation of a guard, or a body.
use Rattle.std.proofs.Common.{◌≡◌, ℕ, ◌+◌, ◌≤◌, ◌||◌, List, [], ◌∷◌, ◌++◌, length, take, get_or, true, false, Some, None, refl, sym, ◌∙◌, ap, subst, arith}
use Rattle.std.specs.Prelude.{slice_get}
use Rattle.std.proofs.lemmas.Bool.{false≢true}
use Rattle.std.proofs.lemmas.List.{length_push}
use Rattle.ss_core.specs.Tree.{ClassTree}
use Rattle.ss_logic.specs.Formulas.{Formula, Literal, And, Or, Forall, Exists, no_formulas, formula_then, formulas_from, is_well_formed, neg}
use Rattle.ss_logic.proofs.Truth.{neg_neg}
use Rattle.ss_logic_means.specs.Steps.{is_cut, is_literal, is_quantified}
use Rattle.ss_terms.specs.declared.forms.FormulaId.{FormulaId}
use Rattle.ss_terms.specs.Forms.{Forms, formula_at, formulas_at}
use Rattle.ss_terms.proofs.Tested.{neg_formed}
use Rattle.ss_deriv.specs.declared.line.Line.{Line}
use Rattle.ss_deriv.specs.Lines.{lines_of}
use Rattle.ss_equality_rules.specs.declared.Merge.{Merge}
use Rattle.ss_search_procedure_rules.specs.Closed.{is_basic}
use Rattle.ss_search_clashes.specs.Closing.{Closes}
use Rattle.ss_search_path.specs.declared.path.Path.{Path}
use Rattle.ss_search_path.specs.declared.path.Mark.{Mark}
use Rattle.ss_search_path.specs.Paths.{known_on, GoesOn, IsMark, IsBack, IsSame, opening, BeginsCase, IsTrial, EndsWith}
use Rattle.ss_search_path.proofs.Going.{goes_through, goes_nowhere, trial_undone}
use Rattle.ss_search_reached.proofs.Fronts.{front_trans}
use Rattle.ss_search_path.specs.declared.standing.Given.{Given}
use Rattle.ss_search_path.specs.declared.standing.Standing.{Standing}
use Rattle.ss_search_path.specs.Standing.{IsGuardedAt, Stands}
use Rattle.ss_search_path.proofs.StandingFacts.{known_more, whole_fact, body_formed}
use Rattle.ss_search_path.proofs.Steps.{kept_one_more, last_known}
use Rattle.ss_search_reaching.specs.declared.basic.Refuting.{Refuting}
use Rattle.ss_search_reaching.specs.Refuting.{bank_of, IsHolding, or_of, AreShown, IsShown, GoesOnFrom, ClosesFrom}
use Rattle.ss_search_reaching.proofs.Shown.{shown_longer, back_known}
use Rattle.ss_search_reaching.specs.declared.branches.Beside.{Beside}
use Rattle.ss_search_reaching.specs.declared.branches.Resolved.{Resolved}
use Rattle.ss_search_reaching.specs.declared.branches.Resolved.TheVariants as resolved
use Rattle.ss_search_reaching.specs.Units.{LeadsToOne, UnitGuarded}

pub some_none : {A : Type 0} (x : A) → Some x ≡ None → ⊥
some_none x e = cc

-- ---- a formula that is assumed

module _ (s : Refuting) (ms : List Merge) (m : Mark) (f : FormulaId) (last from : ℕ) (old begun new : Path) (mark : IsMark m old) (is_begun : BeginsCase [] f old begun) (last_is : last ≡ length old.known.items)
    (past : length s.given.choices.now ≤ from) (kept : take (length begun.known.items) new.known.items ≡ begun.known.items) (goes_on : GoesOnFrom s ms begun last from (formula_at (bank_of s) f) new) where
  assumed_kept : take (length old.known.items) new.known.items ≡ old.known.items
  assumed_kept = front_trans old.known.items begun.known.items new.known.items (kept_one_more old begun f is_begun.known) kept

  module _ (cs : List ClassTree) (premises : List Formula) (goal : Formula) (h : AreShown cs s ms (known_on (bank_of s) old)) (formed : is_well_formed cs [] (formula_at (bank_of s) f) ≡ true) where
    assumed_shown : IsShown cs s ms (known_on (bank_of s) begun) last from (formula_at (bank_of s) f)
    assumed_shown = record {
      shown = shown_longer cs s ms (known_on (bank_of s) old) (known_on (bank_of s) begun) (known_more (bank_of s) old begun (kept_one_more old begun f is_begun.known)) h;
      fact = whole_fact cs s.given (known_on (bank_of s) begun) last from (formula_at (bank_of s) f) past (last_known (bank_of s) old begun f last is_begun.known last_is) formed;
    }

    assumed_trial : IsTrial cs premises goal (bank_of s) m [] f old begun new
    assumed_trial = record { mark = mark; begun = is_begun; since = goes_on cs premises goal assumed_shown; kept = assumed_kept }

    pub assumed_closes : (closing lines : List Line) → ClosesFrom s ms begun last from (formula_at (bank_of s) f) new closing →
        ((ds : List ClassTree) (ps : List Formula) (p : Formula) (b : Forms) (g : FormulaId) (start trial : Path) → IsTrial ds ps p b m [] g start trial new → Closes ds ps p (known_on b new) (lines_of b closing) → Closes ds ps p (known_on b start ++ formula_at b g ∷ []) (lines_of b lines)) →
        Closes cs premises goal (known_on (bank_of s) old ++ formula_at (bank_of s) f ∷ []) (lines_of (bank_of s) lines)
    assumed_closes closing lines closes out = out cs premises goal (bank_of s) f old begun assumed_trial (closes cs premises goal assumed_shown)

    pub assumed_stays : (final : Path) → IsBack m new final → IsSame old final
    assumed_stays final back = trial_undone cs premises goal (bank_of s) m [] f old begun new assumed_trial final back

  pub assumed_back : (final : Path) → IsBack m new final → final.known.items ≡ old.known.items
  assumed_back final back = back_known m old new final mark assumed_kept back

-- ---- its parts

pub first_part : (b : Forms) (p q : FormulaId) (guard body : Formula) → or_of b (p ∷ q ∷ []) ≡ Or (formulas_from (neg guard ∷ body ∷ [])) → formula_at b p ≡ neg guard
first_part b p q guard body e =
    let both : Or (formula_then (formula_at b p) (formula_then (formula_at b q) no_formulas)) ≡ Or (formula_then (neg guard) (formula_then body no_formulas)) = e in
    cc

pub second_part : (b : Forms) (p q : FormulaId) (guard body : Formula) → or_of b (p ∷ q ∷ []) ≡ Or (formulas_from (neg guard ∷ body ∷ [])) → formula_at b q ≡ body
second_part b p q guard body e =
    let both : Or (formula_then (formula_at b p) (formula_then (formula_at b q) no_formulas)) ≡ Or (formula_then (neg guard) (formula_then body no_formulas)) = e in
    cc

module _ (cs : List ClassTree) (g : Given) (origin : ℕ) (p q : FormulaId) (is : IsGuardedAt cs g origin (or_of g.bank.now (p ∷ q ∷ []))) where
  pub denies_guard : formula_at g.bank.now p ≡ neg is.guarded.guard
  denies_guard = first_part g.bank.now p q is.guarded.guard is.guarded.body is.guarded.is

  pub is_body : formula_at g.bank.now q ≡ is.guarded.body
  is_body = second_part g.bank.now p q is.guarded.guard is.guarded.body is.guarded.is

  pub is_guard : neg (formula_at g.bank.now p) ≡ is.guarded.guard
  is_guard = ap neg denies_guard ∙ neg_neg is.guarded.guard

  pub denial_formed : is_well_formed cs [] (formula_at g.bank.now p) ≡ true
  denial_formed = ap (is_well_formed cs []) denies_guard ∙ neg_formed cs [] is.guarded.guard ∙ is.guarded.formed

  pub body_is_formed : is_well_formed cs [] (formula_at g.bank.now q) ≡ true
  body_is_formed = ap (is_well_formed cs []) is_body ∙ body_formed cs g origin (or_of g.bank.now (p ∷ q ∷ [])) is

-- ---- the case of the negation is closed: the guard is known, and then the body

module _ (s : Beside) (ms : List Merge) (old looked denied new : Path) (origin place : ℕ) (p q : FormulaId) (lines : List Line) (u : Resolved) (known : looked.known.items ≡ old.known.items) (place_is : place ≡ length looked.known.items)
    (stays : (cs : List ClassTree) (premises : List Formula) (goal : Formula) → AreShown cs s.refuting ms (known_on (bank_of s.refuting) old) → is_well_formed cs [] (formula_at (bank_of s.refuting) p) ≡ true → IsSame old looked)
    (closes : (cs : List ClassTree) (premises : List Formula) (goal : Formula) → AreShown cs s.refuting ms (known_on (bank_of s.refuting) old) → is_well_formed cs [] (formula_at (bank_of s.refuting) p) ≡ true →
    Closes cs premises goal (known_on (bank_of s.refuting) old ++ formula_at (bank_of s.refuting) p ∷ []) (lines_of (bank_of s.refuting) lines))
    (denies : (cs : List ClassTree) (premises : List Formula) (goal : Formula) → Closes cs premises goal (known_on (bank_of s.refuting) looked ++ formula_at (bank_of s.refuting) p ∷ []) (lines_of (bank_of s.refuting) lines) →
    is_well_formed cs [] (formula_at (bank_of s.refuting) p) ≡ true → GoesOn cs premises goal (bank_of s.refuting) looked denied)
    (ends : EndsWith (bank_of s.refuting) looked.known.items (neg (formula_at (bank_of s.refuting) p)) denied.known.items)
    (leads : (cs : List ClassTree) (premises : List Formula) (goal : Formula) (f : Formula) (is : IsGuardedAt cs s.refuting.given origin f) → slice_get (known_on (bank_of s.refuting) denied) place ≡ Some is.guarded.guard →
    formula_at (bank_of s.refuting) q ≡ is.guarded.body → LeadsToOne cs premises goal s.refuting.given denied new u) where
  pub guard_known : UnitGuarded s ms old origin (p ∷ q ∷ []) new u
  guard_known cs premises goal shown is =
      let b : Forms = bank_of s.refuting in
      let g : Given = s.refuting.given in
      let formed = denial_formed cs g origin p q is in
      let same = stays cs premises goal shown formed in
      let closed : Closes cs premises goal (known_on b looked ++ formula_at b p ∷ []) (lines_of b lines) =
      subst (λ (xs : List FormulaId). Closes cs premises goal (formulas_at b xs ++ formula_at b p ∷ []) (lines_of b lines)) (sym known) (closes cs premises goal shown formed) in
      let there : slice_get (known_on b denied) place ≡ Some is.guarded.guard =
      last_known b looked denied ends.number place ends.numbers place_is ∙ ap (λ (x : Formula). Some x) (ends.is ∙ is_guard cs g origin p q is) in
      let two = leads cs premises goal (or_of b (p ∷ q ∷ [])) is there (is_body cs g origin p q is) in
      record {
        goes_on = goes_through cs premises goal b old denied new
            (goes_through cs premises goal b old looked denied (goes_nowhere cs premises goal b old looked same) (denies cs premises goal closed formed)) two.goes_on;
        grounded = two.grounded;
      }

-- ---- the guard is supposed, and then the body is known

module _ (s : Refuting) (ms : List Merge) (m : Mark) (old begun bodied new : Path) (origin place from : ℕ) (guard p q : FormulaId) (guard_is : formula_at (bank_of s) guard ≡ neg (formula_at (bank_of s) p)) (place_is : place ≡ length old.known.items)
    (past : length s.given.choices.now ≤ from) (mark : IsMark m old) (is_begun : BeginsCase (opening (is_cut (formula_at (bank_of s) guard)) guard) guard old begun) (body_known : bodied.known.items ≡ begun.known.items ++ q ∷ [])
    (body_goes : (cs : List ClassTree) (premises : List Formula) (goal : Formula) (f : Formula) (is : IsGuardedAt cs s.given origin f) → slice_get (known_on (bank_of s) begun) place ≡ Some is.guarded.guard → formula_at (bank_of s) q ≡ is.guarded.body →
    GoesOn cs premises goal (bank_of s) begun bodied)
    (kept : take (length bodied.known.items) new.known.items ≡ bodied.known.items) (goes_on : GoesOnFrom s ms bodied (place + 1) from (formula_at (bank_of s) q) new) where
  bodied_kept : take (length old.known.items) bodied.known.items ≡ old.known.items
  bodied_kept = front_trans old.known.items begun.known.items bodied.known.items (kept_one_more old begun guard is_begun.known) (kept_one_more begun bodied q body_known)

  pub guarded_kept : take (length old.known.items) new.known.items ≡ old.known.items
  guarded_kept = front_trans old.known.items bodied.known.items new.known.items bodied_kept kept

  next_is : place + 1 ≡ length begun.known.items
  next_is = let many = ap length is_begun.known in omega (arith, place_is, many, length_push old.known.items guard)

  module _ (cs : List ClassTree) (premises : List Formula) (goal : Formula) (h : AreShown cs s ms (known_on (bank_of s) old)) (is : IsGuardedAt cs s.given origin (or_of (bank_of s) (p ∷ q ∷ []))) where
    guard_there : slice_get (known_on (bank_of s) begun) place ≡ Some is.guarded.guard
    guard_there = last_known (bank_of s) old begun guard place is_begun.known place_is ∙ ap (λ (x : Formula). Some x) (guard_is ∙ is_guard cs s.given origin p q is)

    body_shown : IsShown cs s ms (known_on (bank_of s) bodied) (place + 1) from (formula_at (bank_of s) q)
    body_shown = record {
      shown = shown_longer cs s ms (known_on (bank_of s) old) (known_on (bank_of s) bodied) (known_more (bank_of s) old bodied bodied_kept) h;
      fact = whole_fact cs s.given (known_on (bank_of s) bodied) (place + 1) from (formula_at (bank_of s) q) past (last_known (bank_of s) begun bodied q (place + 1) body_known next_is) (body_is_formed cs s.given origin p q is);
    }

    pub guard_trial : IsTrial cs premises goal (bank_of s) m (opening (is_cut (formula_at (bank_of s) guard)) guard) guard old begun new
    guard_trial = record {
      mark = mark;
      begun = is_begun;
      since = goes_through cs premises goal (bank_of s) begun bodied new (body_goes cs premises goal (or_of (bank_of s) (p ∷ q ∷ [])) is guard_there (is_body cs s.given origin p q is)) (goes_on cs premises goal body_shown);
      kept = guarded_kept;
    }

    pub body_closed : (closing : List Line) → ClosesFrom s ms bodied (place + 1) from (formula_at (bank_of s) q) new closing → Closes cs premises goal (known_on (bank_of s) new) (lines_of (bank_of s) closing)
    body_closed closing closes = closes cs premises goal body_shown

    pub guard_undone : (final : Path) → IsBack m new final → IsSame old final
    guard_undone final back = trial_undone cs premises goal (bank_of s) m (opening (is_cut (formula_at (bank_of s) guard)) guard) guard old begun new guard_trial final back

  pub guard_back : (final : Path) → IsBack m new final → final.known.items ≡ old.known.items
  guard_back final back = back_known m old new final mark guarded_kept back

  -- where the case of the body is closed, the negation of the guard is known
  module _ (closing : List Line) (closes : ClosesFrom s ms bodied (place + 1) from (formula_at (bank_of s) q) new closing) (final : Path)
      (refutes : (cs : List ClassTree) (premises : List Formula) (goal : Formula) (start trial : Path) → IsTrial cs premises goal (bank_of s) m (opening (is_cut (formula_at (bank_of s) guard)) guard) guard start trial new →
      Closes cs premises goal (known_on (bank_of s) new) (lines_of (bank_of s) closing) → is_well_formed cs [] (formula_at (bank_of s) guard) ≡ true → GoesOn cs premises goal (bank_of s) start final)
      (ends : EndsWith (bank_of s) (take m.known new.known.items) (neg (formula_at (bank_of s) guard)) final.known.items) where
    end_is : final.known.items ≡ old.known.items ++ ends.number ∷ []
    end_is = ends.numbers ∙ ap (λ (xs : List FormulaId). xs ++ ends.number ∷ []) (ap (λ (n : ℕ). take n new.known.items) mark.known ∙ guarded_kept)

    pub end_kept : take (length old.known.items) final.known.items ≡ old.known.items
    end_kept = kept_one_more old final ends.number end_is

    -- it stands at the end
    pub guard_denied : (stands : Standing) →
        ((cs : List ClassTree) (known : List Formula) (f : Formula) → slice_get known place ≡ Some f → is_well_formed cs [] f ≡ true → Stands cs s.given known stands f) →
        (cs : List ClassTree) (premises : List Formula) (goal : Formula) → AreShown cs s ms (known_on (bank_of s) old) → IsGuardedAt cs s.given origin (or_of (bank_of s) (p ∷ q ∷ [])) → LeadsToOne cs premises goal s.given old final (resolved.One p stands)
    guard_denied stands itself cs premises goal h is =
        let formed = denial_formed cs s.given origin p q is in
        let guard_formed : is_well_formed cs [] (formula_at (bank_of s) guard) ≡ true = ap (is_well_formed cs []) guard_is ∙ neg_formed cs [] (formula_at (bank_of s) p) ∙ formed in
        record {
          goes_on = refutes cs premises goal old begun (guard_trial cs premises goal h is) (body_closed cs premises goal h is closing closes) guard_formed;
          grounded = itself cs (known_on (bank_of s) final) (formula_at (bank_of s) p)
              (last_known (bank_of s) old final ends.number place end_is place_is ∙ ap (λ (x : Formula). Some x) (ends.is ∙ ap neg guard_is ∙ neg_neg (formula_at (bank_of s) p))) formed;
        }

-- ---- nothing follows, and the path stays

pub guarded_open : (s : Beside) (ms : List Merge) (old : Path) (origin : ℕ) (ps : List FormulaId) → UnitGuarded s ms old origin ps old resolved.Open
guarded_open s ms old origin ps cs premises goal shown is = record {
  goes_on = goes_nowhere cs premises goal (bank_of s.refuting) old old (record { before = refl; behind = refl; known = refl });
  grounded = tt;
}

-- ---- a look that left the path as it was

pub guarded_after : (s : Beside) (ms : List Merge) (old looked new : Path) (origin : ℕ) (p q : FormulaId) (u : Resolved) → looked.known.items ≡ old.known.items →
    ((cs : List ClassTree) (premises : List Formula) (goal : Formula) → AreShown cs s.refuting ms (known_on (bank_of s.refuting) old) → is_well_formed cs [] (formula_at (bank_of s.refuting) p) ≡ true → IsSame old looked) →
    UnitGuarded s ms looked origin (p ∷ q ∷ []) new u → UnitGuarded s ms old origin (p ∷ q ∷ []) new u
guarded_after s ms old looked new origin p q u known stays leads cs premises goal shown is =
    let b : Forms = bank_of s.refuting in
    let two = leads cs premises goal (subst (λ (xs : List FormulaId). AreShown cs s.refuting ms (formulas_at b xs)) (sym known) shown) is in
    record {
      goes_on = goes_through cs premises goal b old looked new (goes_nowhere cs premises goal b old looked (stays cs premises goal shown (denial_formed cs s.refuting.given origin p q is))) two.goes_on;
      grounded = two.grounded;
    }

-- ---- forms of guards

pub denial_basic : (f g : Formula) → g ≡ neg f → is_basic f ≡ true → (is_literal g || is_quantified g) ≡ true
denial_basic (Literal sign r ts) g e basic = ap is_basic e
denial_basic (Forall ss f) g e basic = ap is_basic e
denial_basic (Exists ss f) g e basic = ap is_basic e
denial_basic (And fs) g e basic = absurd (false≢true basic)
denial_basic (Or fs) g e basic = absurd (false≢true basic)

-- what may be cut is a literal or quantified, and so is its negation
pub cut_basic : (f : Formula) → is_cut f ≡ true → is_basic (neg f) ≡ true
cut_basic (Literal sign r ts) cut = refl
cut_basic (Forall ss f) cut = refl
cut_basic (Exists ss f) cut = refl
cut_basic (And fs) cut = absurd (false≢true cut)
cut_basic (Or fs) cut = absurd (false≢true cut)

pub hold_first : (s : Refuting) (p q : FormulaId) → IsHolding s p → (f : FormulaId) → slice_get (p ∷ q ∷ []) 0 ≡ Some f → IsHolding s f
hold_first s p q h f at = let same : p ≡ f = cc in subst (IsHolding s) same h

pub hold_second : (s : Refuting) (p q : FormulaId) → IsHolding s q → (f : FormulaId) → slice_get (p ∷ q ∷ []) 1 ≡ Some f → IsHolding s f
hold_second s p q h f at = let same : q ≡ f = cc in subst (IsHolding s) same h

-- ---- no guarded formula

-- an `or` of parts of another number
pub no_guarded : (b : Forms) (ps : List FormulaId) (g h : Formula) → (length ps ≡ 2 → ⊥) → or_of b ps ≡ Or (formulas_from (neg g ∷ h ∷ [])) → ⊥
no_guarded b [] g h n e = cc
no_guarded b (p ∷ []) g h n e =
    let both : Or (formula_then (formula_at b p) no_formulas) ≡ Or (formula_then (neg g) (formula_then h no_formulas)) = e in
    cc
no_guarded b (p ∷ q ∷ []) g h n e = n refl
no_guarded b (p ∷ q ∷ r ∷ ps) g h n e =
    let both : Or (formula_then (formula_at b p) (formula_then (formula_at b q) (formula_then (formula_at b r) (formulas_from (formulas_at b ps))))) ≡ Or (formula_then (neg g) (formula_then h no_formulas)) = e in
    cc

pub not_denied : (b : Forms) (p q : FormulaId) (g h : Formula) → is_cut g ≡ true → is_basic (formula_at b p) ≡ false → or_of b (p ∷ q ∷ []) ≡ Or (formulas_from (neg g ∷ h ∷ [])) → ⊥
not_denied b p q g h cut basic e = false≢true (sym basic ∙ ap is_basic (first_part b p q g h e) ∙ cut_basic g cut)

pub two_there : (xs : List FormulaId) (d : FormulaId) → length xs ≡ 2 → get_or xs 0 d ∷ get_or xs 1 d ∷ [] ≡ xs
two_there [] d e = absurd (omega (arith, e))
two_there (x ∷ []) d e = absurd (omega (arith, e))
two_there (x ∷ y ∷ []) d e = refl
two_there (x ∷ y ∷ z ∷ xs) d e = absurd (omega (arith, e))
