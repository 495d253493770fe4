-- That a source is accepted or refused.
use Rattle.std.specs.Prelude.{ℕ, List, ◌⊎◌}
use Rattle.ss_core.specs.declared.names.Place.{Place}
use Rattle.ss_ast.specs.Tokens.{Tok}
use Rattle.ss_typed.specs.Tree.{TypedTree}
use Rattle.ss_top_sources.specs.Sources.{IsAccepted, IsRefused}

-- it means a program
abbrev pub HasMeaning : List ℕ → Type 0
HasMeaning source = (tokens : List Tok) × (program : TypedTree) × IsAccepted source tokens program

-- it breaks a rule at a place
abbrev pub HasFault : List ℕ → Type 0
HasFault source = (rule : ℕ) × (at : Place) × IsRefused source rule at

abbrev pub IsAnswered : List ℕ → Type 0
IsAnswered source = HasMeaning source ⊎ HasFault source
