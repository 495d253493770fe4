-- The loop that reads a term of a `modifies` clause.
use Rattle.std.proofs.Common.{◌≡◌, ℕ, ◌<◌, List, [], ◌∷◌, ◌++◌, length, map, Some, None, Ok, false, refl, sym, ap, subst, ◌∙◌}
use Rattle.std.proofs.lemmas.List.{map_push}
use Rattle.ss_core.specs.declared.names.Place.{Place}
use Rattle.ss_ast.specs.declared.token.Token.{Token}
use Rattle.ss_ast.specs.declared.expr.Postfix.{Postfix}
use Rattle.ss_ast.specs.Expressions.{ExprTree, grouped}
use Rattle.ss_ast.specs.Programs.{ModifiedTree, OneOf}
use Rattle.ss_grammar.specs.Reading.{◌>>=◌, ahead}
use Rattle.ss_grammar_expressions.specs.Heads.{Piece, is, pieces, postfix_head}
use Rattle.ss_ast.specs.Parts.{postfix_after}
use Rattle.ss_ast.proofs.Grouping.{grouped_push}
use Rattle.ss_parser_expressions.proofs.Loops.{pieces_less}
use Rattle.ss_grammar_programs.specs.Again.{another}
use Rattle.ss_grammar_programs.specs.Grammar.{Path, Whole, path_goes, stepped, modified}
use Rattle.ss_grammar_programs.specs.Parser.{step, steps, modified_from}
use Rattle.ss_grammar_programs.proofs.Rounds.{Rounds, rounds_on, rounds_end, rounds_last}
use Rattle.ss_decls.specs.declared.modified.TermStep.{TermStep}
use Rattle.ss_decls.specs.declared.modified.TermStep.TheVariants as term
use Rattle.ss_decls.specs.View.{step_of}
use Rattle.ss_decls.proofs.Readers.{modified_from_is}

module _ (p : Place) (d : ℕ) (a : ExprTree) (tokens : List Token) where
  abbrev pub Stands : Rattle.ss_grammar_programs.specs.Grammar.Reached → List Token → Type 0
  Stands r rest = Rounds path_goes (step d) (stepped p) r (pieces rest) (steps p d a (pieces tokens))

  pub stepped_on : (b : ExprTree) (rest after : List Token) (s : TermStep) → another (is postfix_head) (step d) (pieces rest) ≡ Some (Ok (step_of s, pieces after)) → length after < length rest → Stands (Path b) rest → Stands (step_of s p b) after
  stepped_on b rest after s e lt h = rounds_on path_goes (step d) (stepped p) (Path b) (pieces rest) (step_of s) (pieces after) (steps p d a (pieces tokens)) e (pieces_less after rest lt) h

  pub one_postfix : (b : ExprTree) (xs ys : List Postfix) (x : Postfix) (after : List Token) → ys ≡ xs ++ x ∷ [] → Stands (step_of (term.Postfix x) p (grouped p b (map postfix_after xs))) after → Stands (Path (grouped p b (map postfix_after ys))) after
  one_postfix b xs ys x after e h =
      let q : grouped p b (map postfix_after ys) ≡ postfix_after x p (grouped p b (map postfix_after xs)) = ap (λ l. grouped p b (map postfix_after l)) e ∙ ap (λ l. grouped p b l) (map_push postfix_after xs x) ∙ grouped_push p b (map postfix_after xs) (postfix_after x) in
      subst (λ (y : ExprTree). Stands (Path y) after) (sym q) h

  no_more : (m : ModifiedTree) (ts : List Piece) → ahead (path_goes (Whole m)) ts ≡ false
  no_more m [] = refl
  no_more m (t ∷ ts) = refl

  pub ends_whole : (m : ModifiedTree) (after : List Token) → Stands (Whole m) after → modified_from p d a (pieces tokens) ≡ Ok (m, pieces after)
  ends_whole m after h = modified_from_is p d a (pieces tokens) ∙ ap (λ q. q >>= λ r. Ok (modified r.0, r.1)) (rounds_end path_goes (step d) (stepped p) (Whole m) (pieces after) (steps p d a (pieces tokens)) (no_more m (pieces after)) h)

  pub ends_path : (b : ExprTree) (rest : List Token) → another (is postfix_head) (step d) (pieces rest) ≡ None → Stands (Path b) rest → modified_from p d a (pieces tokens) ≡ Ok (OneOf b, pieces rest)
  ends_path b rest e h = modified_from_is p d a (pieces tokens) ∙ ap (λ q. q >>= λ r. Ok (modified r.0, r.1)) (rounds_last path_goes (step d) (stepped p) (Path b) (pieces rest) (steps p d a (pieces tokens)) e h)
