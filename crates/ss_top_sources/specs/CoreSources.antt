-- What a source means.
use Rattle.std.specs.Prelude.{ℕ, ◌≡◌, List, Result, Ok, Err}
use Rattle.ss_core.specs.declared.names.FrontStop.{FrontStop}
use Rattle.ss_core.specs.declared.names.FrontStop.TheVariants as front
use Rattle.ss_core.specs.declared.body.Core.{Core}
use Rattle.ss_core.specs.Tree.{CoreTree}
use Rattle.ss_core.specs.View.{core}
use Rattle.ss_ast.specs.Tokens.{Tok}
use Rattle.ss_typed.specs.Tree.{TypedTree}
use Rattle.ss_expand_rules.specs.Elaborated.{elaborated}
use Rattle.ss_store_rules.specs.Formed.{IsFormed}
use Rattle.ss_top_sources.specs.Sources.{IsAccepted, IsRefused}

-- the source is accepted, and this is its core program, which is formed
pub record Means (source : List ℕ) (c : CoreTree) : Type 0 where
  pub tokens : List Tok
  pub program : TypedTree
  pub accepted : IsAccepted source tokens program
  pub core : elaborated program ≡ c
  pub formed : IsFormed c

-- what is answered to a source: the program that it means, or its first fault
abbrev pub Gives : List ℕ → Result Core FrontStop → Type 0
Gives source (Ok c) = Means source (core c)
Gives source (Err (front.Refused rule at)) = IsRefused source rule at
Gives source (Err front.Memory) = Unit {0}
