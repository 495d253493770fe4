-- Every list of tokens is a program's, or is refused.
use Rattle.std.proofs.Common.{ℕ, ◌≡◌, ◌⊎◌, inl, inr, List, [], ◌∷◌, Option, Some, None, Result, Ok, Err, refl}
use Rattle.ss_core.specs.declared.names.Place.{Place}
use Rattle.ss_ast.specs.declared.token.Symbol.TheVariants as symbol
use Rattle.ss_ast.specs.Programs.{ClassTree, ProgramTree}
use Rattle.ss_grammar.specs.declared.fault.Fault.{Fault}
use Rattle.ss_grammar.specs.declared.fault.Fault.TheVariants.{Expected, TooDeep}
use Rattle.ss_grammar.specs.Reading.{seen}
use Rattle.ss_grammar_expressions.specs.Heads.{Piece, the}
use Rattle.ss_grammar_programs.specs.Heads.{the_end}
use Rattle.ss_grammar_programs.specs.Parser.{declarations}
use Rattle.ss_decls.specs.Answer.{IsProgram, Refusal}
use Rattle.ss_decls.proofs.Files.{program_of, whole_program, more_stopped, more_before, other_stopped, brace_after, no_brace, fault_stopped, fault_before, fault_deep}

-- the pieces are a program's, or are refused by a rule before the rest
abbrev pub Parsed : List Piece → Type 0
Parsed ts = ((tree : ProgramTree) × IsProgram 64 ts tree) ⊎ ((rule : ℕ) × (rest : List Piece) × Refusal rule ts rest)

module _ (ts : List Piece) where
  -- no end of the text stands after the classes
  no_end : (cs : List ClassTree) (rest : List Piece) → declarations 64 ts ≡ Ok (cs, rest) → seen the_end rest ≡ None → (o : Option (Place × List Piece)) → seen (the symbol.CloseBrace) rest ≡ o → Parsed ts
  no_end cs rest e s None b = inr (10, rest, inl (refl, other_stopped ts cs rest e s, no_brace ts cs rest e b))
  no_end cs rest e s (Some x) b = inr (12, rest, inr (inr (refl, other_stopped ts cs rest e s, brace_after ts cs rest e x b)))

  -- it stands there, before these pieces
  at_end : (cs : List ClassTree) (rest : List Piece) → declarations 64 ts ≡ Ok (cs, rest) → (p : Place) (behind : List Piece) → seen the_end rest ≡ Some (p, behind) → Parsed ts
  at_end cs rest e p [] s = inl (program_of cs p, whole_program ts cs rest e p s)
  at_end cs rest e p (t ∷ z) s = inr (10, t ∷ z, inl (refl, more_stopped ts cs rest e p t z s, more_before ts cs rest e p t z s))

  after_classes : (cs : List ClassTree) (rest : List Piece) → declarations 64 ts ≡ Ok (cs, rest) → (o : Option (Place × List Piece)) → seen the_end rest ≡ o → Parsed ts
  after_classes cs rest e None s = no_end cs rest e s (seen (the symbol.CloseBrace) rest) refl
  after_classes cs rest e (Some x) s = at_end cs rest e x.0 x.1 s

  in_class : (f : Fault) (rest : List Piece) → declarations 64 ts ≡ Err (f, rest) → Parsed ts
  in_class Expected rest e = inr (10, rest, inl (refl, fault_stopped ts rest e, fault_before ts rest e))
  in_class TooDeep rest e = inr (11, rest, inr (inl (refl, fault_deep ts rest e)))

  by_reading : (r : Result (List ClassTree × List Piece) (Fault × List Piece)) → declarations 64 ts ≡ r → Parsed ts
  by_reading (Ok x) e = after_classes x.0 x.1 e (seen the_end x.1) refl
  by_reading (Err x) e = in_class x.0 x.1 e

  pub parsed : Parsed ts
  parsed = by_reading (declarations 64 ts) refl
