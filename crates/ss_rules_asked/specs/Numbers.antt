-- What instances that are asked for stand for in a bank.
use Rattle.std.specs.Prelude.{◌≡◌, List, [], ◌∷◌, map}
use Rattle.ss_logic.specs.Terms.{Term}
use Rattle.ss_logic.specs.declared.RuleName.{RuleName}
use Rattle.ss_logic.specs.declared.GoodRule.{GoodRule}
use Rattle.ss_logic.specs.Shapes.{class_term}
use Rattle.ss_logic.specs.Asked as spec
use Rattle.ss_logic.specs.Asked.{numeral}
use Rattle.ss_terms.specs.declared.forms.TermId.{TermId}
use Rattle.ss_terms.specs.Forms.{Forms, term_at, HasTerm}
use Rattle.ss_rules_asked.specs.declared.asked.Argument.{Argument}
use Rattle.ss_rules_asked.specs.declared.asked.Argument.TheVariants as argument
use Rattle.ss_rules_asked.specs.declared.asked.Rule.{Rule}
use Rattle.ss_rules_asked.specs.declared.asked.Rule.TheVariants as rule
use Rattle.ss_rules_asked.specs.declared.asked.Asked.{Asked}

-- ---- what they stand for

abbrev pub argument_at : Forms → Argument → Term
argument_at b (argument.Term t) = term_at b t
argument_at b (argument.Number n) = numeral n
argument_at b (argument.Class t) = class_term t

abbrev pub arguments_at : Forms → List Argument → List Term
arguments_at b xs = map (argument_at b) xs

-- a rule, with its store where it speaks of one
pub data AtStore : Type 0 where
  EveryStore : RuleName → AtStore
  GoodStore : GoodRule → Term → AtStore
  Invariants : Term → AtStore

abbrev pub rule_at : Forms → Rule → AtStore
rule_at b (rule.True name) = EveryStore name
rule_at b (rule.Good name s) = GoodStore name (term_at b s)
rule_at b (rule.Invariants s) = Invariants (term_at b s)

abbrev pub asked_with : AtStore → List Term → spec.Asked
asked_with (EveryStore name) ts = spec.Rule name ts
asked_with (GoodStore name s) ts = spec.OfGood name s ts
asked_with (Invariants s) ts = spec.OfInvariants s ts

abbrev pub asked_at : Forms → Asked → spec.Asked
asked_at b a = asked_with (rule_at b a.rule) (arguments_at b a.arguments.items)

abbrev pub asked_in : Forms → List Asked → List spec.Asked
asked_in b xs = map (asked_at b) xs

-- ---- the bank has them

abbrev pub HasArgument : Forms → Argument → Type 0
HasArgument b (argument.Term t) = HasTerm b t
HasArgument b (argument.Number n) = Unit {0}
HasArgument b (argument.Class t) = Unit {0}

abbrev pub HasArguments : Forms → List Argument → Type 0
HasArguments b [] = Unit {0}
HasArguments b (x ∷ xs) = HasArgument b x × HasArguments b xs

abbrev pub HasRule : Forms → Rule → Type 0
HasRule b (rule.True name) = Unit {0}
HasRule b (rule.Good name s) = HasTerm b s
HasRule b (rule.Invariants s) = HasTerm b s

abbrev pub HasAsked : Forms → List Asked → Type 0
HasAsked b [] = Unit {0}
HasAsked b (a ∷ xs) = HasRule b a.rule × HasArguments b a.arguments.items × HasAsked b xs

-- the bank has them, and they stand for these
pub record Asks (b : Forms) (xs : List Asked) (these : List spec.Asked) : Type 0 where
  pub has : HasAsked b xs
  pub are : asked_in b xs ≡ these
