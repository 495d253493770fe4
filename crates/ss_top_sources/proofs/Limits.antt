-- An accepted program has few classes.
use Rattle.std.proofs.Common.{ℕ, List, subst}
use Rattle.ss_ast.specs.Tokens.{Tok}
use Rattle.ss_typed.specs.Tree.{TypedTree}
use Rattle.ss_expand_programs.specs.Limits.{HasFewClasses}
use Rattle.ss_resolver_rules.specs.Programs.{resolved}
use Rattle.ss_resolver.specs.Phases.{resolve_fault}
use Rattle.ss_resolver.proofs.Limits.{first_none, resolved_few}
use Rattle.ss_top_sources.specs.Phases.{typed_fault}
use Rattle.ss_top_sources.specs.Sources.{IsAccepted}

pub accepted_few : (source : List ℕ) (ts : List Tok) (p : TypedTree) → IsAccepted source ts p → HasFewClasses p
accepted_few source ts p a =
    subst HasFewClasses a.resolves (resolved_few a.tree (first_none (resolve_fault a.tree) (typed_fault (resolved a.tree)) a.faultless))
