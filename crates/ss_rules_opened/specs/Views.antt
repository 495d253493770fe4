-- The origins that a bank's numbers stand for.
use Rattle.std.specs.Prelude.{List, [], ◌∷◌, map}
use Rattle.ss_core.specs.Tree.{ClassTree}
use Rattle.ss_logic.specs.Terms.{Term}
use Rattle.ss_logic.specs.Formulas.{Formula}
use Rattle.ss_logic_means.specs.Origins as spec
use Rattle.ss_logic_means.specs.Origins.{Choice, Premise, Denied, Said, Instance, IsOrigin, AreOrigins}
use Rattle.ss_terms.specs.Forms.{Forms, terms_at, formula_at, HasTerms, HasFormula}
use Rattle.ss_rules_asked.specs.Numbers.{rule_at, asked_with, HasRule}
use Rattle.ss_rules_opened.specs.declared.origins.Source.{Source}
use Rattle.ss_rules_opened.specs.declared.origins.Source.TheVariants as source
use Rattle.ss_rules_opened.specs.declared.origins.Origin.{Origin}

abbrev pub origin_with : Forms → Source → List Term → spec.Origin
origin_with b (source.Premise i) ts = Premise i
origin_with b source.Denied ts = Denied
origin_with b (source.Rule r) ts = Said (asked_with (rule_at b r) ts)
origin_with b (source.Forall f) ts = Instance (formula_at b f) ts

abbrev pub origin_at : Forms → Origin → spec.Origin
origin_at b o = origin_with b o.source (terms_at b o.terms.items)

abbrev pub origins_at : Forms → List Origin → List spec.Origin
origins_at b os = map (origin_at b) os

-- ---- the bank has them

abbrev pub HasSource : Forms → Source → Type 0
HasSource b (source.Premise i) = Unit {0}
HasSource b source.Denied = Unit {0}
HasSource b (source.Rule r) = HasRule b r
HasSource b (source.Forall f) = HasFormula b f

abbrev pub HasOrigins : Forms → List Origin → Type 0
HasOrigins b [] = Unit {0}
HasOrigins b (o ∷ os) = HasSource b o.source × HasTerms b o.terms.items × HasOrigins b os

-- ---- origins of a list

-- each formula comes from what its origin stands for
pub record ComeFrom (cs : List ClassTree) (premises : List Formula) (goal : Formula) (choices : List Choice) (b : Forms) (fs : List Formula) (os : List Origin) : Type 0 where
  pub has : HasOrigins b os
  pub are : AreOrigins cs premises goal choices fs (origins_at b os)

-- where each formula of the one list comes from there, each of the other does too
abbrev pub StillCome : List ClassTree → Forms → List Formula → List Origin → Forms → List Formula → List Origin → Type 0
StillCome cs a fs os b gs ps = (premises : List Formula) (goal : Formula) (choices : List Choice) → ComeFrom cs premises goal choices a fs os → ComeFrom cs premises goal choices b gs ps

-- the same, where one formula more comes from this origin
abbrev pub StillComeWith : Forms → List Formula → List Origin → spec.Origin → Formula → List Formula → List Origin → Type 0
StillComeWith b fs os o f gs ps = (cs : List ClassTree) (premises : List Formula) (goal : Formula) (choices : List Choice) →
    IsOrigin cs premises goal choices fs o f → ComeFrom cs premises goal choices b fs os → ComeFrom cs premises goal choices b gs ps
