-- Every source is accepted or refused.
use Rattle.std.proofs.Common.{ℕ, ◌≡◌, inl, inr, ⊎_elim, List, map, Option, Some, None, Ok, Err, refl}
use Rattle.ss_ast.specs.Tokens.{Tok}
use Rattle.ss_ast.specs.Programs.{ProgramTree}
use Rattle.ss_lexer.specs.Reading.{Answer, HasTokens, IsReadAs}
use Rattle.ss_grammar_expressions.specs.Heads.{AToken}
use Rattle.ss_parser_expressions.specs.Answer.{first_place}
use Rattle.ss_faults.specs.declared.Fault.{Fault}
use Rattle.ss_resolver_rules.specs.Programs.{resolved}
use Rattle.ss_top_sources.specs.Phases.{program_fault}
use Rattle.ss_top_sources.specs.Sources.{AreProgram}
use Rattle.ss_top_sources.specs.Total.{IsAnswered}
use Rattle.ss_top_sources.proofs.Bytes.{read}
use Rattle.ss_top_sources.proofs.Parses.{parsed}

-- a program has a fault, or it is accepted
of_program : (source : List ℕ) (ts : List Tok) (tree : ProgramTree) → HasTokens source ts → AreProgram ts tree → (o : Option Fault) → program_fault tree ≡ o → IsAnswered source
of_program source ts tree reads parses None e = inl (ts, resolved tree, record { tree = tree; reads = reads; parses = parses; faultless = e; resolves = refl })
of_program source ts tree reads parses (Some f) e = inr (f.rule, f.place, inr (inr (record { tokens = ts; tree = tree; reads = reads; parses = parses; faulty = e })))

of_tokens : (source : List ℕ) (ts : List Tok) → HasTokens source ts → IsAnswered source
of_tokens source ts reads = ⊎_elim
    (λ p. of_program source ts p.0 reads p.1 (program_fault p.0) refl)
    (λ r. inr (r.0, first_place r.1, inr (inl (record { tokens = ts; reads = reads; refused = (r.1, refl, r.2) }))))
    (parsed (map AToken ts))

by_answer : (source : List ℕ) (a : Answer) → IsReadAs source a → IsAnswered source
by_answer source (Ok ts) h = of_tokens source ts h
by_answer source (Err f) h = inr (f.0, f.1, inl h)

pub accepted_or_refused : (source : List ℕ) → IsAnswered source
accepted_or_refused source = let r = read source in by_answer source r.0 r.1
