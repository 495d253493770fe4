-- Tokens as the parser and the lexer see them.
use Rattle.std.proofs.Common.{◌≡◌, inr, inl, ℕ, List, [], ◌∷◌, map, Option, Err, refl, ap, ◌∙◌, subst}
use Rattle.std.specs.Option.{option_or}
use Rattle.ss_core.specs.declared.names.FrontStop.{FrontStop}
use Rattle.ss_core.specs.declared.names.FrontStop.TheVariants as front
use Rattle.ss_ast.specs.declared.token.Token.{Token}
use Rattle.ss_ast.specs.Tokens.{toks}
use Rattle.ss_ast.specs.Programs.{ProgramTree}
use Rattle.ss_lexer.specs.Reading.{HasTokens}
use Rattle.ss_grammar_expressions.specs.Heads.{AToken, pieces}
use Rattle.ss_decls.specs.Answer.{IsProgram, Refusal, ProgramAnswer}
use Rattle.ss_faults.specs.declared.Fault.{Fault}
use Rattle.ss_faults.specs.First.{Answers}
use Rattle.ss_typed.specs.Tree.{TypedTree}
use Rattle.ss_resolver_rules.specs.Programs.{resolved}
use Rattle.ss_resolver.specs.Phases.{Resolves, ResolvesTo}
use Rattle.ss_top_sources.specs.Phases.{typed_fault, program_fault}
use Rattle.ss_top_sources.specs.Sources.{AreProgram, Gives}

pub pieces_are : (ts : List Token) → pieces ts ≡ map AToken (toks ts)
pieces_are [] = refl
pieces_are (t ∷ ts) = let rest = pieces_are ts in cc

pub are_program : (ts : List Token) (tree : ProgramTree) → IsProgram 64 (pieces ts) tree → AreProgram (toks ts) tree
are_program ts tree h = subst (λ ps. IsProgram 64 ps tree) (pieces_are ts) h

-- what the parser refuses has no program
pub refused_gives : (source : List ℕ) (ts : List Token) (stop : FrontStop) → HasTokens source (toks ts) → ProgramAnswer ts (Err stop) → Gives source (Err stop)
refused_gives source ts front.Memory reads h = tt
refused_gives source ts (front.Refused rule at) reads h = inr (inl (record {
  tokens = toks ts;
  reads = reads;
  refused = (h.0, h.1, subst (λ ps. Refusal rule ps h.0) (pieces_are ts) h.2);
}))

-- what the grammar reads, and names or types refuse, has that fault
pub resolve_gives : (source : List ℕ) (ts : List Token) (tree : ProgramTree) (stop : FrontStop) → HasTokens source (toks ts) → AreProgram (toks ts) tree → Resolves tree (Err stop) → Gives source (Err stop)
resolve_gives source ts tree front.Memory reads parses h = tt
resolve_gives source ts tree (front.Refused rule at) reads parses h = inr (inr (record {
  tokens = toks ts;
  tree = tree;
  reads = reads;
  parses = parses;
  faulty = ap (λ o. option_or o (typed_fault (resolved tree))) h;
}))

-- the first fault of a program that resolves is that of the phases after
pub after_resolve : (tree : ProgramTree) (p : TypedTree) {o : Option Fault} → ResolvesTo tree p → typed_fault p ≡ o → program_fault tree ≡ o
after_resolve tree p r h = ap (λ f. option_or f (typed_fault (resolved tree))) r.0 ∙ ap typed_fault r.1 ∙ h

-- what the phases after refuse has that fault
pub phases_give : (source : List ℕ) (ts : List Token) (tree : ProgramTree) (p : TypedTree) (stop : FrontStop) → HasTokens source (toks ts) → AreProgram (toks ts) tree → ResolvesTo tree p →
    Answers {A = Unit {0}} (typed_fault p) (Err stop) → Gives source (Err stop)
phases_give source ts tree p front.Memory reads parses r h = tt
phases_give source ts tree p (front.Refused rule at) reads parses r h = inr (inr (record {
  tokens = toks ts;
  tree = tree;
  reads = reads;
  parses = parses;
  faulty = after_resolve tree p r h;
}))
