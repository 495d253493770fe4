-- What a bare name is as a target.
use Rattle.std.proofs.Common.{◌≡◌, ℕ, List, Option, Some, None, refl, ap}
use Rattle.std.proofs.lemmas.Option.{same_Some}
use Rattle.ss_ast.specs.Expressions.{ExprTree, NameOf}
use Rattle.ss_tables.specs.Scopes.{Scope, local_named}
use Rattle.ss_resolver_names_rules.specs.Locals.{if_param, target_param}
use Rattle.ss_resolver_names_rules.specs.Bare.{bare_name}

pub target_of_name : (s : Scope) (ns : List (List ℕ)) (e : ExprTree) (n : List ℕ) → bare_name e ≡ Some n → target_param s ns e ≡ if_param ns n (local_named s n)
target_of_name s ns (NameOf p m) n h = ap (λ k. if_param ns k (local_named s k)) (same_Some m n h)
target_of_name s ns e n h = absurd cc

pub target_of_other : (s : Scope) (ns : List (List ℕ)) (e : ExprTree) → bare_name e ≡ None → target_param s ns e ≡ ns
target_of_other s ns (NameOf p m) h = absurd cc
target_of_other s ns e h = refl
