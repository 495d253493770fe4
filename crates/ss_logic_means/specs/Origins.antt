-- Where each formula of a ground form comes from, and the choices with which it starts.
use Rattle.std.specs.Prelude.{◌≡◌, ℕ, List, [], ◌∷◌, map, length, take, true, Some, option_map, slice_get, Contains}
use Rattle.ss_core.specs.Tree.{ClassTree}
use Rattle.ss_logic.specs.Terms.{Term, have_sorts}
use Rattle.ss_logic.specs.Formulas.{Formula, Forall, Exists, neg, put}
use Rattle.ss_logic_means.specs.Sorts.{AreWellFormed}
use Rattle.ss_logic_means.specs.Steps.{Line, Choose, Open, chosen, run}
use Rattle.ss_logic.specs.Occurring.{quantified}
use Rattle.ss_logic.specs.Opened.{replaced}
use Rattle.ss_logic.specs.Asked.{Asked, said}
use Rattle.ss_logic.specs.Matching.{instance_at}

-- ---- choices

-- an `exists`, and the constants at which it is opened
pub record Choice : Type 0 where
  pub whole : Formula
  pub constants : List Term

-- its body at the constants stands for the `exists`
abbrev pub opened_at : Formula → List Term → Formula → Formula
opened_at (Exists ss g) ts f = replaced (Exists ss g) (put ts g) f
opened_at g ts f = f

-- the formula opened by each choice, one after the other
abbrev pub opened_by : List Choice → Formula → Formula
opened_by [] f = f
opened_by (c ∷ choices) f = opened_by choices (opened_at c.whole c.constants f)

-- what a choice makes known
abbrev pub chosen_at : Formula → List Term → Formula
chosen_at (Exists ss f) ts = chosen ss f ts
chosen_at f ts = f

abbrev pub chosen_by : Choice → Formula
chosen_by c = chosen_at c.whole c.constants

abbrev pub choose : Choice → Line
choose c = Choose c.whole c.constants

-- The lines `choose`, before all others, make known what was chosen.
abbrev pub AreAccepted : List ClassTree → List Formula → Formula → List Choice → Type 0
AreAccepted cs premises goal choices = run cs premises goal (Open [] []) (map choose choices) ≡ Some (Open (map chosen_by choices) [])

-- ---- origins

-- a premise or the denied goal, opened; what an instance of a rule says; an instance of a `forall` at terms
pub data Origin : Type 0 where
  Premise : ℕ → Origin
  Denied : Origin
  Said : Asked → Origin
  Instance : Formula → List Term → Origin

-- It is the instance of a `forall` that occurs in the list. Where the list is well formed, the terms have the sorts of the bound names.
abbrev pub IsInstance : List ClassTree → List Formula → Formula → List Term → Formula → Type 0
IsInstance cs fs (Forall ss g) ts f = Contains (quantified fs) (Forall ss g) × (instance_at (Forall ss g) ss g ts ≡ f) × (AreWellFormed cs [] fs → have_sorts cs ss ts ≡ true)
IsInstance cs fs g ts f = ⊥

-- the formula comes from there, where these stand before it
abbrev pub IsOrigin : List ClassTree → List Formula → Formula → List Choice → List Formula → Origin → Formula → Type 0
IsOrigin cs premises goal choices before (Premise i) f = option_map (opened_by choices) (slice_get premises i) ≡ Some f
IsOrigin cs premises goal choices before Denied f = opened_by choices (neg goal) ≡ f
IsOrigin cs premises goal choices before (Said asked) f = said cs asked ≡ Some f
IsOrigin cs premises goal choices before (Instance g ts) f = IsInstance cs before g ts f

-- each formula of the list comes from where it is said, by those before it
pub record AreOrigins (cs : List ClassTree) (premises : List Formula) (goal : Formula) (choices : List Choice) (fs : List Formula) (origins : List Origin) : Type 0 where
  pub count : length origins ≡ length fs
  pub each : (k : ℕ) (f : Formula) (o : Origin) → slice_get fs k ≡ Some f → slice_get origins k ≡ Some o → IsOrigin cs premises goal choices (take k fs) o f
