-- Instances that are asked for stay so as the bank grows.
use Rattle.std.proofs.Common.{◌≡◌, ℕ, zero, suc, ◌<◌, List, [], ◌∷◌, ◌++◌, length, map, get_or, refl, ap, ◌∙◌, arith}
use Rattle.ss_logic.specs.Terms.{Term}
use Rattle.ss_terms.specs.Forms.{Forms, IsGrown}
use Rattle.ss_terms.proofs.Grown.{HasTerm-grown}
use Rattle.ss_rules_asked.specs.declared.asked.Argument.{Argument}
use Rattle.ss_rules_asked.specs.declared.asked.Argument.TheVariants as argument
use Rattle.ss_rules_asked.specs.declared.asked.Rule.{Rule}
use Rattle.ss_rules_asked.specs.declared.asked.Rule.TheVariants as rule
use Rattle.ss_rules_asked.specs.declared.asked.Asked.{Asked}
use Rattle.ss_rules_asked.specs.Numbers.{argument_at, arguments_at, rule_at, GoodStore, Invariants, asked_with, asked_at, asked_in, HasArgument, HasArguments, HasRule, HasAsked}

module _ (a b : Forms) (g : IsGrown a b) where
  pub HasArgument-grown : (x : Argument) → HasArgument a x → HasArgument b x
  HasArgument-grown (argument.Term t) h = HasTerm-grown a b g t h
  HasArgument-grown (argument.Number n) h = tt
  HasArgument-grown (argument.Class t) h = tt

  pub argument_at-grown : (x : Argument) → HasArgument a x → argument_at b x ≡ argument_at a x
  argument_at-grown (argument.Term t) h = g.same_terms t h
  argument_at-grown (argument.Number n) h = refl
  argument_at-grown (argument.Class t) h = refl

  pub HasArguments-grown : (xs : List Argument) → HasArguments a xs → HasArguments b xs
  HasArguments-grown [] h = tt
  HasArguments-grown (x ∷ xs) h = (HasArgument-grown x h.0, HasArguments-grown xs h.1)

  pub arguments_at-grown : (xs : List Argument) → HasArguments a xs → arguments_at b xs ≡ arguments_at a xs
  arguments_at-grown [] h = refl
  arguments_at-grown (x ∷ xs) h = let e = argument_at-grown x h.0 in let r = arguments_at-grown xs h.1 in cc

  pub HasRule-grown : (r : Rule) → HasRule a r → HasRule b r
  HasRule-grown (rule.True name) h = tt
  HasRule-grown (rule.Good name s) h = HasTerm-grown a b g s h
  HasRule-grown (rule.Invariants s) h = HasTerm-grown a b g s h

  pub rule_at-grown : (r : Rule) → HasRule a r → rule_at b r ≡ rule_at a r
  rule_at-grown (rule.True name) h = refl
  rule_at-grown (rule.Good name s) h = ap (GoodStore name) (g.same_terms s h)
  rule_at-grown (rule.Invariants s) h = ap Invariants (g.same_terms s h)

  pub asked_at-grown : (x : Asked) → HasRule a x.rule → HasArguments a x.arguments.items → asked_at b x ≡ asked_at a x
  asked_at-grown x h k = ap (λ r. asked_with r (arguments_at b x.arguments.items)) (rule_at-grown x.rule h) ∙ ap (asked_with (rule_at a x.rule)) (arguments_at-grown x.arguments.items k)

pub HasArguments-push : (b : Forms) (xs : List Argument) (x : Argument) → HasArguments b xs → HasArgument b x → HasArguments b (xs ++ x ∷ [])
HasArguments-push b [] x h k = (k, tt)
HasArguments-push b (y ∷ xs) x h k = (h.0, HasArguments-push b xs x h.1 k)

pub HasArguments-get : (b : Forms) (xs : List Argument) (i : ℕ) (d : Argument) → HasArguments b xs → i < length xs → HasArgument b (get_or xs i d)
HasArguments-get b [] i d h at = absurd (omega arith)
HasArguments-get b (x ∷ xs) zero d h at = h.0
HasArguments-get b (x ∷ xs) (suc i) d h at = HasArguments-get b xs i d h.1 (omega arith)

pub HasAsked-get : (b : Forms) (xs : List Asked) (i : ℕ) (d : Asked) → HasAsked b xs → i < length xs → HasRule b (get_or xs i d).rule × HasArguments b (get_or xs i d).arguments.items
HasAsked-get b [] i d h at = absurd (omega arith)
HasAsked-get b (x ∷ xs) zero d h at = (h.0, h.1)
HasAsked-get b (x ∷ xs) (suc i) d h at = HasAsked-get b xs i d h.2 (omega arith)
