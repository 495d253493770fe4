-- An accepted source means its elaboration.
use Rattle.std.proofs.Common.{◌≡◌, List, ℕ, sym, subst}
use Rattle.ss_core.specs.Tree.{CoreTree}
use Rattle.ss_ast.specs.Tokens.{Tok}
use Rattle.ss_typed.specs.Tree.{TypedTree}
use Rattle.ss_expand_rules.specs.Elaborated.{elaborated}
use Rattle.ss_store_rules.specs.Formed.{IsFormed}
use Rattle.ss_top_sources.specs.Sources.{IsAccepted}
use Rattle.ss_top_sources.specs.CoreSources.{Means}
use Rattle.ss_top_sources.proofs.CoreLimits.{accepted_formed}

pub means : (source : List ℕ) (ts : List Tok) (p : TypedTree) (c : CoreTree) → IsAccepted source ts p → c ≡ elaborated p → Means source c
means source ts p c a e = record { tokens = ts; program = p; accepted = a; core = sym e; formed = subst IsFormed (sym e) (accepted_formed source ts p a) }
