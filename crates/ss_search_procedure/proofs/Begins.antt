-- The begin of a path: the choices, and then each formula.
use Rattle.std.proofs.Common.{◌≡◌, ℕ, zero, suc, ◌+◌, ◌<◌, List, [], ◌∷◌, ◌++◌, length, map, take, get_or, true, Some, sym, ◌∙◌, ap, subst, arith}
use Rattle.std.specs.Prelude.{slice_get, option_map}
use Rattle.std.proofs.lemmas.List.{map_push, length-map, length-take-le}
use Rattle.std.proofs.lemmas.Option.{slice_get-map, slice_get-get_or}
use Rattle.ss_core.specs.Tree.{ClassTree}
use Rattle.ss_logic.specs.Formulas.{Formula, is_well_formed}
use Rattle.ss_logic_means.specs.Sorts.{AreWellFormed}
use Rattle.ss_logic_means.specs.Steps.{Open, choice}
use Rattle.ss_logic_means.specs.Origins as words
use Rattle.ss_logic_means.specs.Origins.{chosen_by, AreAccepted}
use Rattle.ss_logic_means.proofs.Whole.{listed_formed}
use Rattle.ss_terms.specs.declared.forms.FormulaId.{FormulaId}
use Rattle.ss_terms.specs.Forms.{Forms, formula_at, formulas_at}
use Rattle.ss_rules_opened.specs.Choices.{choice_at}
use Rattle.ss_rules_opened.specs.declared.origins.Origin.{Origin}
use Rattle.ss_rules_opened.specs.Views.{origin_at, origins_at}
use Rattle.ss_search_path.specs.declared.path.Path.{Path}
use Rattle.ss_search_path.specs.Paths.{known_on}
use Rattle.ss_search_path.specs.declared.standing.Given.{Given}
use Rattle.ss_search_path.specs.declared.standing.Standing.{Standing}
use Rattle.ss_search_path.specs.Standing.{choices_in, AreChosen, Stands, AreStanding}
use Rattle.ss_search_path.proofs.StandingFacts.{read_there, known_more, longer_standing, one_more_stands}
use Rattle.ss_search_path.proofs.Steps.{known_one_more}
use Rattle.ss_search_procedure.specs.Starting.{IsGround, ComesFrom}
use Rattle.ss_search_procedure.proofs.Accepting.{IsStep, steps, whole_formed}
use Rattle.ss_search_procedure.proofs.Sources.{at_formed}
use Rattle.ss_search_procedure.proofs.Saying.{take_found}

-- ---- choices

pub chosen_read : (g : Given) (chosen : List FormulaId) → formulas_at g.bank.now chosen ≡ map chosen_by (choices_in g) → (i : ℕ) (c : words.Choice) (d : FormulaId) → slice_get (choices_in g) i ≡ Some c → formula_at g.bank.now (get_or chosen i d) ≡ chosen_by c
chosen_read g chosen are i c d at = read_there (formula_at g.bank.now) chosen i d (chosen_by c) (ap (λ xs. slice_get xs i) are ∙ slice_get-map chosen_by (choices_in g) i ∙ ap (option_map chosen_by) at)

pub chosen_within : (g : Given) (chosen : List FormulaId) → formulas_at g.bank.now chosen ≡ map chosen_by (choices_in g) → (i : ℕ) → i < length g.choices.now → i < length chosen
chosen_within g chosen are i within =
    let same : length chosen ≡ length (choices_in g) = sym (length-map chosen (formula_at g.bank.now)) ∙ ap length are ∙ length-map (choices_in g) chosen_by in
    omega (arith, within, same, length-map g.choices.now (choice_at g.bank.now))

pub chosen_known : (b : Forms) (choices : List words.Choice) (old new : Path) (i : ℕ) (c : words.Choice) (f : FormulaId) → slice_get choices i ≡ Some c → known_on b old ≡ map chosen_by (take i choices) → new.known.items ≡ old.known.items ++ f ∷ [] → formula_at b f ≡ chosen_by c →
    known_on b new ≡ map chosen_by (take (i + 1) choices)
chosen_known b choices old new i c f at known more is =
    known_one_more b old new f more ∙ ap (λ xs. xs ++ formula_at b f ∷ []) known ∙ ap (λ x. map chosen_by (take i choices) ++ x ∷ []) is
    ∙ sym (ap (map chosen_by) (take_found choices i c at) ∙ map_push chosen_by (take i choices) c)

module _ (cs : List ClassTree) (premises : List Formula) (goal : Formula) (choices : List words.Choice) (accepted : AreAccepted cs premises goal choices) where
  step_there : (i : ℕ) (c : words.Choice) → slice_get choices i ≡ Some c → IsStep cs premises goal (map chosen_by (take i choices)) c
  step_there i c at = steps cs premises goal choices [] (Open (map chosen_by choices) []) accepted i c at

  -- what the line of the next choice asks for
  pub choice_goes : (known : List Formula) (i : ℕ) (c : words.Choice) (w f : Formula) → slice_get choices i ≡ Some c → known ≡ map chosen_by (take i choices) → w ≡ c.whole → f ≡ chosen_by c →
      (choice (goal ∷ premises ++ known) w c.constants ≡ Some f) × (is_well_formed cs [] w ≡ true)
  choice_goes known i c w f at is whole says =
      let s = step_there i c at in
      let fact : choice (goal ∷ premises ++ known) w c.constants ≡ Some f = ap (λ k. choice (goal ∷ premises ++ k) w c.constants) is ∙ ap (λ x. choice (goal ∷ premises ++ map chosen_by (take i choices)) x c.constants) whole ∙ s.fact ∙ ap Some (sym says) in (
        fact,
        subst (λ x. is_well_formed cs [] x ≡ true) (sym whole) (whole_formed cs (goal ∷ premises ++ map chosen_by (take i choices)) c.whole c.constants (chosen_by c) s.fact s.formed),
      )

  pub all_chosen : (i : ℕ) (c : words.Choice) → slice_get choices i ≡ Some c → is_well_formed cs [] (chosen_by c) ≡ true
  all_chosen i c at = (step_there i c at).formed

pub are_chosen : (cs : List ClassTree) (premises : List Formula) (goal : Formula) (g : Given) (known : List Formula) → AreAccepted cs premises goal (choices_in g) → known ≡ map chosen_by (choices_in g) → AreChosen cs g known
are_chosen cs premises goal g known accepted is = record {
  at = λ i c e. ap (λ xs. slice_get xs i) is ∙ slice_get-map chosen_by (choices_in g) i ∙ ap (option_map chosen_by) e;
  formed = all_chosen cs premises goal (choices_in g) accepted;
}

-- ---- formulas

few_formed : (cs : List ClassTree) (fs : List Formula) (k : ℕ) → AreWellFormed cs [] fs → AreWellFormed cs [] (take k fs)
few_formed cs fs zero h = tt
few_formed cs [] (suc k) h = tt
few_formed cs (f ∷ fs) (suc k) h = (h.0, few_formed cs fs k h.1)

pub comes_from : (cs : List ClassTree) (premises : List Formula) (goal : Formula) (g : Given) (fs : List Formula) → IsGround cs premises goal g fs → (k : ℕ) (f : Formula) (o : Origin) → slice_get fs k ≡ Some f → slice_get g.origins.now k ≡ Some o →
    ComesFrom cs premises goal (choices_in g) (origin_at g.bank.now o) f
comes_from cs premises goal g fs ground k f o at origin =
    let all = listed_formed cs premises goal (choices_in g) ground.formed ground.accepted ground.invariants fs (origins_at g.bank.now g.origins.now) ground.origins in
    record {
      given = ground.formed;
      invariants = ground.invariants;
      before = take k fs;
      before_formed = few_formed cs fs k all;
      formed = at_formed cs fs all k f at;
      origin = ground.origins.each k f (origin_at g.bank.now o) at (slice_get-map (origin_at g.bank.now) g.origins.now k ∙ ap (option_map (origin_at g.bank.now)) origin);
    }

-- one more stands
pub next_stands : (cs : List ClassTree) (g : Given) (b : Forms) (old new : Path) (fs : List FormulaId) (k : ℕ) (d : FormulaId) (standings more : List Standing) (s : Standing) → k < length fs → length standings ≡ k → more ≡ standings ++ s ∷ [] →
    take (length old.known.items) new.known.items ≡ old.known.items → AreStanding cs g (known_on b old) (take k (formulas_at b fs)) standings → Stands cs g (known_on b new) s (formula_at b (get_or fs k d)) →
    AreStanding cs g (known_on b new) (take (k + 1) (formulas_at b fs)) more
next_stands cs g b old new fs k d standings more s within long is kept standing stands =
    let at : slice_get (formulas_at b fs) k ≡ Some (formula_at b (get_or fs k d)) = slice_get-map (formula_at b) fs k ∙ ap (option_map (formula_at b)) (slice_get-get_or fs k d within) in
    let count : length standings ≡ length (take k (formulas_at b fs)) = omega (arith, long, within, length-take-le k (formulas_at b fs) (omega (arith, within, length-map fs (formula_at b)))) in
    subst (λ (xs : List Formula). AreStanding cs g (known_on b new) xs more) (sym (take_found (formulas_at b fs) k (formula_at b (get_or fs k d)) at))
    (subst (λ (ys : List Standing). AreStanding cs g (known_on b new) (take k (formulas_at b fs) ++ formula_at b (get_or fs k d) ∷ []) ys) (sym is)
    (one_more_stands cs g (known_on b new) (take k (formulas_at b fs)) standings (formula_at b (get_or fs k d)) s count
    (longer_standing cs g (known_on b old) (known_on b new) (known_more b old new kept) (take k (formulas_at b fs)) standings standing) stands))

pub none_standing : (cs : List ClassTree) (g : Given) (known : List Formula) (standings : List Standing) → AreChosen cs g known → standings ≡ [] → AreStanding cs g known [] standings
none_standing cs g known standings chose none = subst (λ (ss : List Standing). AreStanding cs g known [] ss) (sym none) (record { chosen = chose; each = λ k f s e i. absurd (let no : ⊥ = cc in no) })
