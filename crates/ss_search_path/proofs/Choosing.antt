-- The first choice that opens an `exists`.
use Rattle.std.proofs.Common.{◌≡◌, ℕ, zero, suc, ◌+◌, ◌≤◌, List, [], ◌∷◌, length, drop, true, false, Some, sym, ◌∙◌, ap, subst, arith}
use Rattle.std.specs.Prelude.{slice_get, option_map}
use Rattle.std.proofs.lemmas.List.{drop_more, drop_all, length-map}
use Rattle.std.proofs.lemmas.Option.{slice_get-map, slice_get_within, get_or_from_slice_get}
use Rattle.ss_logic.specs.Formulas.{Formula}
use Rattle.ss_logic.specs.Equal.{same_formula, equal_formulas}
use Rattle.ss_logic.specs.Opened.{is_exists}
use Rattle.ss_logic_means.specs.Origins as words
use Rattle.ss_logic_means.specs.Origins.{opened_at, opened_by}
use Rattle.ss_logic_means.proofs.Matched.{none_is}
use Rattle.ss_terms.specs.Forms.{Forms, formula_at, HasFormula}
use Rattle.ss_rules_opened.specs.declared.opening.Choice.{Choice}
use Rattle.ss_rules_opened.specs.Choices.{choice_at, choices_at, HasChoices}
use Rattle.ss_search_path.specs.declared.standing.Given.{Given}
use Rattle.ss_search_path.specs.Standing.{choices_in, body_of, OpensAt}
use Rattle.ss_search_path.proofs.Forms.{opened_there}

pub drop_found : {A : Type 0} (xs : List A) (i : ℕ) (x : A) → slice_get xs i ≡ Some x → drop i xs ≡ x ∷ drop (i + 1) xs
drop_found xs i x e = drop_more xs i x (slice_get_within xs i x e) ∙ ap (λ y. y ∷ drop (i + 1) xs) (get_or_from_slice_get xs i x x e)

pub choice_there : (b : Forms) (xs : List Choice) (i : ℕ) (c : Choice) → slice_get xs i ≡ Some c → slice_get (choices_at b xs) i ≡ Some (choice_at b c)
choice_there b xs i c e = slice_get-map (choice_at b) xs i ∙ ap (option_map (choice_at b)) e

pub has_whole : (b : Forms) (xs : List Choice) (i : ℕ) (c : Choice) → slice_get xs i ≡ Some c → HasChoices b xs → HasFormula b c.whole
has_whole b [] i c e h = none_is c e
has_whole b (x ∷ xs) zero c e h = let same : x ≡ c = cc in subst (λ (y : Choice). HasFormula b y.whole) same h.0
has_whole b (x ∷ xs) (suc i) c e h = has_whole b xs i c e h.2

-- a choice of another formula leaves the `exists` as it is
pub not_here : (choices : List words.Choice) (i : ℕ) (c : words.Choice) (f : Formula) → slice_get choices i ≡ Some c → is_exists f ≡ true → same_formula c.whole f ≡ false →
    opened_by (drop i choices) f ≡ opened_by (drop (i + 1) choices) f
not_here choices i c f at exists differ = ap (λ xs. opened_by xs f) (drop_found choices i c at) ∙ ap (opened_by (drop (i + 1) choices)) (opened_there c.whole c.constants f exists differ)

here : (choices : List words.Choice) (i : ℕ) (c : words.Choice) (f : Formula) → slice_get choices i ≡ Some c → c.whole ≡ f → opened_by (drop i choices) f ≡ opened_by (drop (i + 1) choices) (body_of c)
here choices i c f at whole = ap (λ xs. opened_by xs f) (drop_found choices i c at) ∙ ap (λ x. opened_by (drop (i + 1) choices) (opened_at c.whole c.constants x)) (sym whole)

module _ (g : Given) (from i : ℕ) (f : Formula) (until : opened_by (drop from (choices_in g)) f ≡ opened_by (drop i (choices_in g)) f) where
  pub opens_here : (c : Choice) → slice_get g.choices.now i ≡ Some c → from ≤ i → same_formula (formula_at g.bank.now c.whole) f ≡ true → OpensAt g from i f
  opens_here c at later same =
      let there = choice_there g.bank.now g.choices.now i c at in
      let whole = equal_formulas (formula_at g.bank.now c.whole) f same in
      record { choice = choice_at g.bank.now c; at = there; whole = whole; later = later; opened = until ∙ here (choices_in g) i (choice_at g.bank.now c) f there whole }

  pub opens_later : (c : Choice) → slice_get g.choices.now i ≡ Some c → is_exists f ≡ true → same_formula (formula_at g.bank.now c.whole) f ≡ false → opened_by (drop from (choices_in g)) f ≡ opened_by (drop (i + 1) (choices_in g)) f
  opens_later c at exists differ = until ∙ not_here (choices_in g) i (choice_at g.bank.now c) f (choice_there g.bank.now g.choices.now i c at) exists differ

  pub opens_nowhere : length g.choices.now ≤ i → opened_by (drop from (choices_in g)) f ≡ f
  opens_nowhere past = until ∙ ap (λ xs. opened_by xs f) (drop_all i (choices_in g) (omega (arith, past, length-map g.choices.now (choice_at g.bank.now))))
