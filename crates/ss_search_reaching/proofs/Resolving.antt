-- Reached `or`s that are facts.
use Rattle.std.proofs.Common.{◌≡◌, ℕ, zero, suc, ◌+◌, ◌<◌, List, [], ◌∷◌, ◌++◌, length, take, drop, Some, refl, sym, ◌∙◌, ap, subst, Vec, Global, arith}
use Rattle.std.specs.Prelude.{slice_get}
use Rattle.std.proofs.lemmas.Option.{slice_get_within}
use Rattle.ss_core.specs.Tree.{ClassTree}
use Rattle.ss_logic.specs.Formulas.{Formula, Formulas, Or, formula_list, formulas_from}
use Rattle.ss_logic_means.specs.Steps.{count_of}
use Rattle.ss_terms.specs.declared.forms.FormulaId.{FormulaId}
use Rattle.ss_terms.specs.Forms.{Forms, formula_at, formulas_at}
use Rattle.ss_deriv.specs.declared.line.Line.{Line}
use Rattle.ss_deriv.specs.Lines.{lines_of}
use Rattle.ss_equality_rules.specs.declared.Merge.{Merge}
use Rattle.ss_equality_rules.specs.Equal.{Equations}
use Rattle.ss_equality_rules.proofs.Lists.{there}
use Rattle.ss_search_procedure_rules.specs.Closed.{basics, MayHold}
use Rattle.ss_search_reached.specs.Looks as looks
use Rattle.ss_search_reached.specs.Looks.{IsPartOf}
use Rattle.ss_search_reached.specs.declared.looking.Looking.{Looking}
use Rattle.ss_search_reached.proofs.Branches.{open_branch}
use Rattle.ss_search_reached.proofs.Fronts.{front_push}
use Rattle.ss_search_path.specs.declared.path.Path.{Path}
use Rattle.ss_search_path.specs.Paths.{known_on, GoesOn, AreCases}
use Rattle.ss_search_path.proofs.Going.{goes_through, goes_nowhere}
use Rattle.ss_search_path.specs.declared.standing.Standing.TheVariants.{Fact}
use Rattle.ss_search_path.specs.Standing.{parts_of, AreChosen, IsFact, IsOpenedFact}
use Rattle.ss_search_path.proofs.StandingFacts.{known_more, longer_chosen, or_fact}
use Rattle.ss_search_reaching.specs.Refuting.{bank_of, IsHolding, or_of, IsShown, StaysFrom, ClosesFrom, between, AreCasesFrom}
use Rattle.ss_search_reaching.proofs.Parts.{part_stands, as_many, count_is}
use Rattle.ss_search_reaching.specs.declared.branches.Beside.{Beside}
use Rattle.ss_search_reaching.specs.declared.branches.Resolved.{Resolved}
use Rattle.ss_search_reaching.specs.declared.branches.Resolved.TheVariants as resolved
use Rattle.ss_search_reaching.specs.Units.{IsBeside, IsResolved, part_of, UnitFrom}

-- the elements before one, it, and those after it
split_at : {A : Type 0} (xs : List A) (i : ℕ) (x : A) → slice_get xs i ≡ Some x → xs ≡ take i xs ++ x ∷ drop (suc i) xs
split_at [] i x e = cc
split_at (y ∷ xs) zero x e = let same : y ≡ x = cc in ap (λ z. z ∷ xs) same
split_at (y ∷ xs) (suc i) x e = ap (λ zs. y ∷ zs) (split_at xs i x e)

all_taken : {A : Type 0} (xs : List A) (n : ℕ) → length xs ≡ n → take n xs ≡ xs
all_taken [] zero e = refl
all_taken [] (suc n) e = absurd (omega (arith, e))
all_taken (x ∷ xs) zero e = absurd (omega (arith, e))
all_taken (x ∷ xs) (suc n) e = ap (λ zs. x ∷ zs) (all_taken xs n (omega (arith, e)))

module _ (p : Beside) (ms : List Merge) (old split new : Path) (place from at opened : ℕ) (parts : List FormulaId) (part : ℕ) (g : FormulaId) (front back : List Line)
    (part_is : (fact h : Formula) → slice_get (known_on (bank_of p.refuting) old) place ≡ Some fact → slice_get (parts_of fact) part ≡ Some h → formula_at (bank_of p.refuting) g ≡ h)
    (known : split.known.items ≡ old.known.items ++ g ∷ [])
    (splits : (cs : List ClassTree) (premises : List Formula) (goal : Formula) (fs : Formulas) (one two : List Formula) → slice_get (known_on (bank_of p.refuting) old) place ≡ Some (Or fs) → count_of fs ≡ length parts →
    formula_list fs ≡ one ++ formula_at (bank_of p.refuting) g ∷ two → AreCases cs premises goal (known_on (bank_of p.refuting) old) one (lines_of (bank_of p.refuting) front) →
    AreCases cs premises goal (known_on (bank_of p.refuting) old) two (lines_of (bank_of p.refuting) back) → GoesOn cs premises goal (bank_of p.refuting) old split)
    (opens : (cs : List ClassTree) (premises : List Formula) (goal : Formula) → AreChosen cs p.refuting.given (known_on (bank_of p.refuting) split) → GoesOn cs premises goal (bank_of p.refuting) split new)
    (is_opened : (cs : List ClassTree) (f : Formula) → AreChosen cs p.refuting.given (known_on (bank_of p.refuting) split) → IsFact cs p.refuting.given (known_on (bank_of p.refuting) split) (length old.known.items) from f →
    IsOpenedFact cs p.refuting.given (known_on (bank_of p.refuting) new) at opened f) where
  -- the one part stands at the end
  pub one_part : (f : FormulaId) → slice_get parts part ≡ Some f → AreCasesFrom p.refuting ms old place from (or_of (bank_of p.refuting) parts) 0 part front →
      AreCasesFrom p.refuting ms old place from (or_of (bank_of p.refuting) parts) (part + 1) (length parts) back → UnitFrom p ms old place from parts new (resolved.One f (Fact at opened))
  one_part f f_at in_front in_back cs premises goal h =
      let b : Forms = bank_of p.refuting in
      let w = or_fact cs p.refuting.given (known_on b old) place from (formulas_from (formulas_at b parts)) h.fact in
      let fs : Formulas = w.0 in
      let many : length (formula_list fs) ≡ length parts = as_many p.refuting ms old place from parts cs h fs w.1 in
      let within : part < length (formula_list fs) = omega (arith, many, slice_get_within parts part f f_at) in
      let x = there (formula_list fs) part within in
      let same : formula_at b g ≡ x.0 = part_is (Or fs) x.0 w.1 x.1 in
      let next : part + 1 ≡ suc part = omega arith in
      let list_is : formula_list fs ≡ take part (formula_list fs) ++ formula_at b g ∷ drop (suc part) (formula_list fs) =
      split_at (formula_list fs) part x.0 x.1 ∙ ap (λ (y : Formula). take part (formula_list fs) ++ y ∷ drop (suc part) (formula_list fs)) (sym same) in
      let behind : AreCases cs premises goal (known_on b old) (drop (suc part) (formula_list fs)) (lines_of b back) =
      subst (λ (n : ℕ). AreCases cs premises goal (known_on b old) (drop n (formula_list fs)) (lines_of b back)) next
      (subst (λ (gs : List Formula). AreCases cs premises goal (known_on b old) (drop (part + 1) gs) (lines_of b back)) (all_taken (formula_list fs) (length parts) many) (in_back cs premises goal h fs w.1)) in
      let chosen = longer_chosen cs p.refuting.given (known_on b old) (known_on b split) (known_more b old split (front_push old.known.items split.known.items (g ∷ []) known)) h.shown.chosen in
      record {
        goes_on = goes_through cs premises goal b old split new
            (splits cs premises goal fs (take part (formula_list fs)) (drop (suc part) (formula_list fs)) w.1 (count_is p.refuting ms old place from parts fs ∙ many) list_is (in_front cs premises goal h fs w.1) behind)
            (opens cs premises goal chosen);
        grounded = is_opened cs (formula_at b f) chosen (part_stands p.refuting ms cs old split place from parts part f g f_at part_is known h);
      }

-- where nothing follows the path may have stayed
pub stays_open : (p : Beside) (ms : List Merge) (old new : Path) (place from : ℕ) (parts : List FormulaId) → StaysFrom p.refuting ms old place from (or_of (bank_of p.refuting) parts) new → UnitFrom p ms old place from parts new resolved.Open
stays_open p ms old new place from parts h cs premises goal shown = record { goes_on = goes_nowhere cs premises goal (bank_of p.refuting) old new (h cs premises goal shown); grounded = tt }

pub stays_closed : (p : Beside) (ms : List Merge) (old new : Path) (place from : ℕ) (parts : List FormulaId) (lines : Vec Line Global) → StaysFrom p.refuting ms old place from (or_of (bank_of p.refuting) parts) new →
    ClosesFrom p.refuting ms old place from (or_of (bank_of p.refuting) parts) new lines.items → UnitFrom p ms old place from parts new (resolved.Closed lines)
stays_closed p ms old new place from parts lines h closes cs premises goal shown = record { goes_on = goes_nowhere cs premises goal (bank_of p.refuting) old new (h cs premises goal shown); grounded = closes cs premises goal shown }

-- ---- what may hold

-- the same where one looks and where one writes lines
module _ (p : Beside) (c : Equations) (h : IsBeside p c) (parts : List FormulaId) where
  pub holds_there : (f : FormulaId) → IsHolding p.refuting f → looks.IsHolding p.looking f
  holds_there f held =
      subst (λ (b : Forms). MayHold (basics (formulas_at b p.looking.known.now)) (formula_at b f)) (sym h.bank)
      (subst (λ (fs : List FormulaId). MayHold (basics (formulas_at (bank_of p.refuting) fs)) (formula_at (bank_of p.refuting) f)) (sym h.known) held)

  pub holds_here : (f : FormulaId) → looks.IsHolding p.looking f → IsHolding p.refuting f
  holds_here f held =
      subst (λ (fs : List FormulaId). MayHold (basics (formulas_at (bank_of p.refuting) fs)) (formula_at (bank_of p.refuting) f)) h.known
      (subst (λ (b : Forms). MayHold (basics (formulas_at b p.looking.known.now)) (formula_at b f)) h.bank held)

  -- two that may hold
  pub two_open : (i j : ℕ) → i < j → j < length parts → ((f : FormulaId) → slice_get parts i ≡ Some f → IsHolding p.refuting f) → ((f : FormulaId) → slice_get parts j ≡ Some f → IsHolding p.refuting f) →
      IsResolved p.looking (or_of p.looking.bank.now parts) resolved.Open
  two_open i j less within first other = open_branch p.looking parts i j
      (record { later = omega arith; within = omega (arith, less, within); holds = λ f at. holds_there f (first f at) })
      (record { later = omega (arith, less); within = within; holds = λ f at. holds_there f (other f at) })

-- ---- a path that stayed

module _ (p : Beside) (ms : List Merge) (old now : Path) (place from : ℕ) (parts : List FormulaId) (same : now.known.items ≡ old.known.items) where
  same_facts : known_on (bank_of p.refuting) old ≡ known_on (bank_of p.refuting) now
  same_facts = ap (formulas_at (bank_of p.refuting)) (sym same)

  pub after_stay : (new : Path) (u : Resolved) → StaysFrom p.refuting ms old place from (or_of (bank_of p.refuting) parts) now → UnitFrom p ms now place from parts new u → UnitFrom p ms old place from parts new u
  after_stay new u stays leads cs premises goal shown =
      let l = leads cs premises goal (subst (λ (fs : List Formula). IsShown cs p.refuting ms fs place from (or_of (bank_of p.refuting) parts)) same_facts shown) in
      record { goes_on = goes_through cs premises goal (bank_of p.refuting) old now new (goes_nowhere cs premises goal (bank_of p.refuting) old now (stays cs premises goal shown)) l.goes_on; grounded = l.grounded }

  -- cases that were closed are closed there
  pub cases_there : (start stop : ℕ) (lines : List Line) → AreCasesFrom p.refuting ms old place from (or_of (bank_of p.refuting) parts) start stop lines → AreCasesFrom p.refuting ms now place from (or_of (bank_of p.refuting) parts) start stop lines
  cases_there start stop lines are cs premises goal shown fs at =
      subst (λ (gs : List Formula). AreCases cs premises goal gs (between start stop (formula_list fs)) (lines_of (bank_of p.refuting) lines)) same_facts
      (are cs premises goal (subst (λ (gs : List Formula). IsShown cs p.refuting ms gs place from (or_of (bank_of p.refuting) parts)) (sym same_facts) shown) fs (ap (λ (gs : List Formula). slice_get gs place) same_facts ∙ at))

-- beside the same congruence
pub beside_again : (p : Beside) (old new : Equations) → new ≡ old → IsBeside p old → IsBeside p new
beside_again p old new e h = subst (IsBeside p) (sym e) h

-- a part that follows is what it is
pub one_resolved : (s : Looking) (f : Formula) (q : FormulaId) (u : Resolved) → part_of u ≡ Some q → IsPartOf s f q → IsResolved s f u
one_resolved s f q (resolved.Closed lines) e h = tt
one_resolved s f q (resolved.One part standing) e h = let same : part ≡ q = cc in subst (IsPartOf s f) (sym same) h
one_resolved s f q resolved.Open e h = cc
