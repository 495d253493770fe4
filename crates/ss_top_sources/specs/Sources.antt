-- What a source means, and where it is refused.
use Rattle.std.specs.Prelude.{ℕ, ◌≡◌, ◌⊎◌, List, map, Some, None, Result, Ok, Err}
use Rattle.ss_core.specs.declared.names.Place.{Place}
use Rattle.ss_core.specs.declared.names.FrontStop.{FrontStop}
use Rattle.ss_core.specs.declared.names.FrontStop.TheVariants as stop
use Rattle.ss_ast.specs.Tokens.{Tok, toks}
use Rattle.ss_ast.specs.Programs.{ProgramTree}
use Rattle.ss_lexer.specs.Reading.{HasTokens, FaultAt}
use Rattle.ss_grammar_expressions.specs.Heads.{Piece, AToken}
use Rattle.ss_parser_expressions.specs.Answer.{first_place, most_nested}
use Rattle.ss_decls.specs.Answer as grammar
use Rattle.ss_decls.specs.Answer.{Refusal}
use Rattle.ss_typed.specs.Tree.{TypedTree}
use Rattle.ss_typed.specs.View.{typed}
use Rattle.ss_resolver_rules.specs.Programs.{resolved}
use Rattle.ss_top_sources.specs.Phases.{program_fault}
use Rattle.ss_top_sources.specs.declared.source.Accepted.{Accepted}

-- the tokens are those of a program of this tree, nested no deeper than it may be
abbrev pub AreProgram : List Tok → ProgramTree → Type 0
AreProgram tokens tree = grammar.IsProgram most_nested (map AToken tokens) tree

-- they are those of no such program, by this rule of the grammar, and this is the place of the first that is refused
abbrev pub AreRefused : List Tok → ℕ → Place → Type 0
AreRefused tokens rule at = (rest : List Piece) × (first_place rest ≡ at) × Refusal rule (map AToken tokens) rest

-- ---- sources

-- the source is accepted: its tokens are a program's, in which no phase finds a fault; and this is its resolved program
pub record IsAccepted (source : List ℕ) (tokens : List Tok) (program : TypedTree) : Type 0 where
  pub tree : ProgramTree
  pub reads : HasTokens source tokens
  pub parses : AreProgram tokens tree
  pub faultless : program_fault tree ≡ None
  pub resolves : resolved tree ≡ program

-- its tokens are no program's
pub record IsNoProgram (source : List ℕ) (rule : ℕ) (at : Place) : Type 0 where
  pub tokens : List Tok
  pub reads : HasTokens source tokens
  pub refused : AreRefused tokens rule at

-- its tokens are a program's, and this is the first fault of its phases
pub record IsFaulty (source : List ℕ) (rule : ℕ) (at : Place) : Type 0 where
  pub tokens : List Tok
  pub tree : ProgramTree
  pub reads : HasTokens source tokens
  pub parses : AreProgram tokens tree
  pub faulty : program_fault tree ≡ Some (record { rule = rule; place = at })

-- the first fault of a source: of its bytes (rules 1 to 5), of its tokens (10 to 12), or of its program
abbrev pub IsRefused : List ℕ → ℕ → Place → Type 0
IsRefused source rule at = FaultAt rule at source ⊎ (IsNoProgram source rule at ⊎ IsFaulty source rule at)

-- what reading a source answers: its tokens and its resolved program, or its first fault
abbrev pub Gives : List ℕ → Result Accepted FrontStop → Type 0
Gives source (Ok a) = IsAccepted source (toks a.tokens.items) (typed a.program)
Gives source (Err (stop.Refused rule at)) = IsRefused source rule at
Gives source (Err stop.Memory) = Unit {0}
