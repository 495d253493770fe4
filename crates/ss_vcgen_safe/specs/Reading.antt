-- Where expressions of code are read: the formulas of their parts, and what is known there.
use Rattle.std.specs.Prelude.{◌≡◌, ℕ, List, [], ◌∷◌, map, length, Bool, ◌||◌}
use Rattle.ss_core.specs.Tree.{ClassTree, ExprTree, BodyTree}
use Rattle.ss_store_rules.specs.declared.Value.{Value as ObjectValue}
use Rattle.ss_store_rules.specs.Locals.{local_types, is_bound}
use Rattle.ss_store_rules.specs.NonNull.{Known, Site}
use Rattle.ss_machine_typed.specs.Settings.{IsGoodSetting}
use Rattle.ss_machine_good.specs.Known.{IsTrueOf, AreAssigned, WasReady}
use Rattle.ss_logic.specs.Values.{Heap, Value, Structure}
use Rattle.ss_logic.specs.Formulas.{Formula, AllTrue, formulas_from}
use Rattle.ss_logic.specs.Express.{Meant, Context}
use Rattle.ss_logic_means.specs.Means.{standing, Denotes}
use Rattle.ss_logic_means.specs.Scenes.{setting_of, StandsAmong}
use Rattle.ss_vcgen_heaps.specs.Parts.{Part, parts}

abbrev pub formulas_of : List Part → List Formula
formulas_of ps = map (λ p. p.formula) ps

-- where the expressions of the body stand
abbrev pub site_in : List ClassTree → BodyTree → Site
site_in cs b = record { classes = cs; locals = local_types b; constructs = b.flags.ctor }

-- the parts of the expression that are checked are true
abbrev pub HasTrueParts : BodyTree → Known → Structure → List Value → Context → ExprTree → Type 0
HasTrueParts b k m e c x = AllTrue c.classes m e (formulas_from (formulas_of (parts x (site_in c.classes b) k c)))

-- What holds where expressions of the body are read, whose assigned locals are these. What is known of null is so, and the assigned
-- locals have their values in the context.
pub record IsRead (b : BodyTree) (assigned : ℕ → Bool) (k : Known) (m : Structure) (c : Context) (now entry : Heap) (locals : List ObjectValue) (e : List Value) : Type 0 where
  pub types : c.types ≡ local_types b
  pub good : IsGoodSetting (setting_of m c now entry locals) c.types b.flags.ctor
  pub was_ready : WasReady b.flags.ctor (setting_of m c now entry locals)
  pub assigned_so : AreAssigned b assigned (setting_of m c now entry locals)
  pub known_so : IsTrueOf b.flags.ctor k (setting_of m c now entry locals)
  pub stands : StandsAmong (λ x. assigned x || is_bound b x) m c now entry locals e
  pub bound : length e ≡ c.bound

-- each of these means the value beside it
abbrev pub AllDenote : List ClassTree → Structure → List Value → List Meant → List ObjectValue → Type 0
AllDenote cs m e [] [] = Unit {0}
AllDenote cs m e [] (v ∷ vs) = ⊥
AllDenote cs m e (x ∷ xs) [] = ⊥
AllDenote cs m e (x ∷ xs) (v ∷ vs) = Denotes cs m e x (standing v) × AllDenote cs m e xs vs

-- the parts of each of these expressions that are checked are true
abbrev pub AllHaveTrueParts : BodyTree → Known → Structure → List Value → Context → List ExprTree → Type 0
AllHaveTrueParts b k m e c [] = Unit {0}
AllHaveTrueParts b k m e c (x ∷ xs) = HasTrueParts b k m e c x × AllHaveTrueParts b k m e c xs
