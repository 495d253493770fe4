-- Where reached formulas stand among the facts of a path.
use Rattle.std.specs.Prelude.{◌≡◌, ℕ, ◌+◌, ◌≤◌, List, [], ◌∷◌, map, drop, true, Some, slice_get}
use Rattle.ss_core.specs.Tree.{ClassTree}
use Rattle.ss_logic.specs.Formulas.{Formula, And, Or, formulas_from, formula_list, is_well_formed, neg}
use Rattle.ss_logic_means.specs.Steps as tree
use Rattle.ss_logic_means.specs.Steps.{is_cut}
use Rattle.ss_logic.specs.Asked.{Asked, Rule, OfGood, OfInvariants}
use Rattle.ss_logic.specs.Opened.{is_exists}
use Rattle.ss_logic_means.specs.Origins as words
use Rattle.ss_logic_means.specs.Origins.{Premise, Denied, Said, Instance, opened_at, opened_by, chosen_by}
use Rattle.ss_terms.specs.Forms.{formulas_at}
use Rattle.ss_rules_opened.specs.Choices.{choices_at, HasChoices}
use Rattle.ss_rules_opened.specs.declared.origins.Origin.{Origin}
use Rattle.ss_rules_opened.specs.Views.{origin_at, HasOrigins}
use Rattle.ss_search_path.specs.Paths.{Makes}
use Rattle.ss_search_path.specs.declared.standing.Given.{Given}
use Rattle.ss_search_path.specs.declared.standing.Standing.{Standing}
use Rattle.ss_search_path.specs.declared.standing.Standing.TheVariants.{Fact, Guarded}

-- ---- what is given

abbrev pub choices_in : Given → List words.Choice
choices_in g = choices_at g.bank.now g.choices.now

-- what a choice makes of the formula that it opens: its body at the constants
abbrev pub body_of : words.Choice → Formula
body_of c = opened_at c.whole c.constants c.whole

-- the bank has the choices, the body of each, and the origins
pub record IsGiven (g : Given) : Type 0 where
  pub choices : HasChoices g.bank.now g.choices.now
  pub bodies : formulas_at g.bank.now g.bodies.now ≡ map body_of (choices_in g)
  pub origins : HasOrigins g.bank.now g.origins.now

-- What the choices make known is known before all else, in their order.
pub record AreChosen (cs : List ClassTree) (g : Given) (known : List Formula) : Type 0 where
  pub at : (i : ℕ) (c : words.Choice) → slice_get (choices_in g) i ≡ Some c → slice_get known i ≡ Some (chosen_by c)
  pub formed : (i : ℕ) (c : words.Choice) → slice_get (choices_in g) i ≡ Some c → is_well_formed cs [] (chosen_by c) ≡ true

-- ---- facts

-- Opened by the choices from one on, the known formula at the place is this one.
pub record IsFact (cs : List ClassTree) (g : Given) (known : List Formula) (place from : ℕ) (f : Formula) : Type 0 where
  pub fact : Formula
  pub at : slice_get known place ≡ Some fact
  pub formed : is_well_formed cs [] fact ≡ true
  pub opened : opened_by (drop from (choices_in g)) fact ≡ f

-- Where the known formula is an `exists`, no choice opens it. So the two have one form.
pub record IsOpenedFact (cs : List ClassTree) (g : Given) (known : List Formula) (place from : ℕ) (f : Formula) : Type 0 where
  pub is : IsFact cs g known place from f
  pub whole : is_exists is.fact ≡ true → is.fact ≡ f

-- the parts of an `and` or of an `or`
abbrev pub parts_of : Formula → List Formula
parts_of (And fs) = formula_list fs
parts_of (Or fs) = formula_list fs
parts_of f = []

-- ---- opening

-- From one choice on, this is the first that opens the formula: its body is opened by those after it.
pub record OpensAt (g : Given) (from i : ℕ) (f : Formula) : Type 0 where
  pub choice : words.Choice
  pub at : slice_get (choices_in g) i ≡ Some choice
  pub whole : choice.whole ≡ f
  pub later : from ≤ i
  pub opened : opened_by (drop from (choices_in g)) f ≡ opened_by (drop (i + 1) (choices_in g)) (body_of choice)

-- the same of the known formula at a place, which is an `exists`
pub record OpensFact (g : Given) (known : List Formula) (place from i : ℕ) : Type 0 where
  pub fact : Formula
  pub at : slice_get known place ≡ Some fact
  pub exists : is_exists fact ≡ true
  pub opens : OpensAt g from i fact

-- ---- guarded formulas

abbrev pub line_of_rule : Asked → ℕ → tree.Line
line_of_rule (Rule name ts) place = tree.Rule name ts
line_of_rule (OfGood name s ts) place = tree.GoodLine name place ts
line_of_rule (OfInvariants s ts) place = tree.InvariantsLine place ts

-- the line that makes known what an origin says, where what guards it is known at the place
abbrev pub line_from : words.Origin → ℕ → tree.Line
line_from (Premise i) place = tree.Premise i
line_from Denied place = tree.Denied
line_from (Said asked) place = line_of_rule asked place
line_from (Instance f ts) place = tree.Inst place ts

-- The formula says something where a guard holds. Where the guard is known at a place, the line of the origin makes the body known.
pub record IsGuarded (cs : List ClassTree) (o : words.Origin) (f : Formula) : Type 0 where
  pub guard : Formula
  pub body : Formula
  pub is : f ≡ Or (formulas_from (neg guard ∷ body ∷ []))
  pub cut : is_cut guard ≡ true
  pub formed : is_well_formed cs [] guard ≡ true
  pub makes : (premises : List Formula) (goal : Formula) (known : List Formula) (place : ℕ) → slice_get known place ≡ Some guard → Makes cs premises goal known (line_from o place) body

-- the same by the origin with this number
pub record IsGuardedAt (cs : List ClassTree) (g : Given) (number : ℕ) (f : Formula) : Type 0 where
  pub origin : Origin
  pub at : slice_get g.origins.now number ≡ Some origin
  pub guarded : IsGuarded cs (origin_at g.bank.now origin) f

-- ---- standings

abbrev pub Stands : List ClassTree → Given → List Formula → Standing → Formula → Type 0
Stands cs g known (Fact place from) f = IsOpenedFact cs g known place from f
Stands cs g known (Guarded number) f = IsGuardedAt cs g number f

-- each reached formula stands among the known ones
pub record AreStanding (cs : List ClassTree) (g : Given) (known reached : List Formula) (standings : List Standing) : Type 0 where
  pub chosen : AreChosen cs g known
  pub each : (k : ℕ) (f : Formula) (s : Standing) → slice_get reached k ≡ Some f → slice_get standings k ≡ Some s → Stands cs g known s f
