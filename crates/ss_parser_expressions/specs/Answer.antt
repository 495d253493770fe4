-- What reading one part of a program from a list of tokens answers.
use Rattle.std.specs.Prelude.{◌≡◌, ℕ, List, [], ◌∷◌, ◌++◌, drop, ◌⊎◌, Result, Ok, Err}
use Rattle.ss_core.specs.declared.names.Place.{Place}
use Rattle.ss_core.specs.declared.names.FrontStop.{FrontStop}
use Rattle.ss_core.specs.declared.names.FrontStop.TheVariants as front
use Rattle.ss_core.specs.declared.rules.Rule.{Rule}
use Rattle.ss_core.specs.declared.rules.Rule.TheVariants as rule
use Rattle.ss_core.specs.Rules.{rule_number}
use Rattle.ss_ast.specs.declared.token.Token.{Token}
use Rattle.ss_ast.specs.declared.token.TokenKind.TheVariants as kind
use Rattle.ss_grammar.specs.declared.fault.Fault.{Fault}
use Rattle.ss_grammar.specs.declared.fault.Fault.TheVariants.{Expected, TooDeep}
use Rattle.ss_grammar.specs.Language.{Accepts, Refuses, IsDeep}
use Rattle.ss_grammar_expressions.specs.Heads.{Piece, pieces, place_at}
use Rattle.ss_grammar_expressions.specs.Grammar.{no_place}

-- the place of the first token
abbrev pub first_place : List Piece → Place
first_place [] = no_place
first_place (t ∷ ts) = place_at t

-- how deep brackets, statements and operands nest at most
abbrev pub most_nested : ℕ
most_nested = 64

-- Unexpected: nothing in L begins with the tokens before `rest` and the first of `rest`, and they aren't in L themselves.
-- Too deep: with the first of `rest` only lists of L go on that nest deeper.
abbrev pub Refusal : {A : Type 0} → (ℕ → List Piece → A → Type 0) → ℕ → List Piece → List Piece → Type 0
Refusal L n ts rest = ((n ≡ rule_number rule.Unexpected) × Refuses L most_nested ts rest) ⊎ ((n ≡ rule_number rule.TooDeep) × IsDeep L most_nested ts rest)

-- From the token `at` on: the longest front of the rest that is in L, the tree that `view` shows, and the number of the token
-- after it; or the place of the first fault.
abbrev pub PartAnswer : {X A : Type 0} → (ℕ → List Piece → A → Type 0) → (X → A) → List Token → ℕ → Result (X × ℕ) FrontStop → Type 0
PartAnswer L view tokens at (Ok x) = Accepts L most_nested (pieces (drop at tokens)) (view x.0) (pieces (drop x.1 tokens))
PartAnswer L view tokens at (Err (front.Refused n place)) = (rest : List Piece) × (first_place rest ≡ place) × Refusal L n (pieces (drop at tokens)) rest
PartAnswer L view tokens at (Err front.Memory) = Unit {0}

-- the last token is the end of the text
pub record EndsText (tokens : List Token) : Type 0 where
  pub front : List Token
  pub last : Token
  pub parts : tokens ≡ front ++ last ∷ []
  pub is_end : last.kind ≡ kind.TextEnd

-- the rule that a fault breaks
abbrev pub rule_of : Fault → Rule
rule_of Expected = rule.Unexpected
rule_of TooDeep = rule.TooDeep
