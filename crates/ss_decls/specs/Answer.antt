-- What reading a program answers.
use Rattle.std.specs.Prelude.{◌≡◌, ℕ, true, List, ◌++◌, ◌⊎◌, Option, Some, None, Result, Ok, Err}
use Rattle.ss_core.specs.declared.names.Place.{Place}
use Rattle.ss_core.specs.declared.names.FrontStop.{FrontStop}
use Rattle.ss_core.specs.declared.names.FrontStop.TheVariants as front
use Rattle.ss_core.specs.declared.rules.Rule.{Rule}
use Rattle.ss_core.specs.declared.rules.Rule.TheVariants as rule
use Rattle.ss_core.specs.Rules.{rule_number}
use Rattle.ss_ast.specs.declared.token.Symbol.TheVariants as symbol
use Rattle.ss_ast.specs.declared.token.Token.{Token}
use Rattle.ss_ast.specs.declared.class.Program.{Program}
use Rattle.ss_ast.specs.Programs.{ClassTree, ProgramTree, program_tree}
use Rattle.ss_grammar.specs.Language.{Starts, Ends, IsDeep}
use Rattle.ss_grammar.specs.Reading.{ahead}
use Rattle.ss_grammar_expressions.specs.Heads.{Piece, is, the, pieces}
use Rattle.ss_parser_expressions.specs.Answer.{first_place, most_nested}
use Rattle.ss_grammar_programs.specs.Grammar as grammar

-- a whole program that nests at most d deep
abbrev pub IsProgram : ℕ → List Piece → ProgramTree → Type 0
IsProgram d ts p = grammar.Program d ts p

-- The tokens before `rest` are the start of a program. With the first of `rest` they are none, however deep it may be nested,
-- and ts isn't a program.
pub record Stopped (ts rest : List Piece) : Type 0 where
  pub front : List Piece
  pub parts : ts ≡ front ++ rest
  pub starts : Starts (IsProgram most_nested) front
  pub ends : (d : ℕ) → Ends (IsProgram d) front rest
  pub none : (d : ℕ) (p : ProgramTree) → IsProgram d ts p → ⊥

-- Before `rest` stand whole `using` lines and classes alone, so that a class could begin, and `rest` begins with a `}`.
pub record AfterEnd (ts rest : List Piece) : Type 0 where
  pub front : List Piece
  pub parts : ts ≡ front ++ rest
  pub level : ℕ
  pub classes : List ClassTree
  pub reads : grammar.Declarations level front classes
  pub brace : ahead (is (the symbol.CloseBrace)) rest ≡ true

-- Stray brace: a `}` where a class could begin. Unexpected: any other token with which no program goes on. Too deep: with the first
-- of `rest` only programs go on that nest deeper than they may.
abbrev pub Refusal : ℕ → List Piece → List Piece → Type 0
Refusal n ts rest =
    ((n ≡ rule_number rule.Unexpected) × Stopped ts rest × (AfterEnd ts rest → ⊥))
    ⊎ (((n ≡ rule_number rule.TooDeep) × IsDeep IsProgram most_nested ts rest) ⊎ ((n ≡ rule_number rule.StrayBrace) × Stopped ts rest × AfterEnd ts rest))

-- the program that all the tokens are, nested no deeper than it may be; or the place of the first token that is refused
abbrev pub ProgramAnswer : List Token → Result Program FrontStop → Type 0
ProgramAnswer tokens (Ok p) = IsProgram most_nested (pieces tokens) (program_tree p)
ProgramAnswer tokens (Err (front.Refused n place)) = (rest : List Piece) × (first_place rest ≡ place) × Refusal n (pieces tokens) rest
ProgramAnswer tokens (Err front.Memory) = Unit {0}

-- the rule that is broken where neither a class nor the end of the text stands: by a `}`, or by what else stands there
abbrev pub rule_at : Option (Place × List Piece) → Rule
rule_at (Some x) = rule.StrayBrace
rule_at None = rule.Unexpected
