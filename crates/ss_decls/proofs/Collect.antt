-- Loops that put one part after another at the end of a list.
use Rattle.std.proofs.Common.{◌≡◌, ◌<◌, List, [], ◌∷◌, ◌++◌, length, map, Option, Some, None, Result, Ok, Err, Bool, refl, sym, ap, subst, ◌∙◌}
use Rattle.std.proofs.lemmas.List.{map_push}
use Rattle.ss_ast.specs.declared.token.Token.{Token}
use Rattle.ss_grammar.specs.declared.fault.Fault.{Fault}
use Rattle.ss_grammar.specs.declared.fault.Stop.{Stop}
use Rattle.ss_grammar.specs.declared.fault.Stop.TheVariants as stop
use Rattle.ss_grammar.specs.Reading.{one_more}
use Rattle.ss_grammar.specs.Stops.{Fails, FailsIn}
use Rattle.ss_grammar.proofs.Turns.{Turns, more_on}
use Rattle.ss_grammar_expressions.specs.Heads.{Piece, pieces}
use Rattle.ss_grammar_expressions.specs.Parser.{Gets}
use Rattle.ss_parser_expressions.proofs.Loops.{pieces_less}
use Rattle.ss_grammar_programs.specs.Again.{another}
use Rattle.ss_grammar_programs.specs.Grammar.{push, push_after}
use Rattle.ss_grammar_programs.proofs.Rounds.{Rounds, rounds_on, rounds_err}

-- one more after a token that f knows
pub pushed : {X A B : Type 0} (f : Piece → Option B) (k : B → Gets A) (v : X → A) (xs ys : List X) (x : X) (rest after : List Token) (total : Result (List A × List Piece) (Fault × List Piece)) → one_more f k (pieces rest) ≡ Some (Ok (v x, pieces after)) → length after < length rest → ys ≡ xs ++ x ∷ [] → Turns f k push_after (map v xs) (pieces rest) total → Turns f k push_after (map v ys) (pieces after) total
pushed {X} {A} {B} f k v xs ys x rest after total g lt e h =
    let t = more_on f k push_after push (λ a b r. refl) (map v xs) (pieces rest) (v x) (pieces after) total g (pieces_less after rest lt) h in
    subst (λ (a : List A). Turns f k push_after a (pieces after) total) (sym (ap (λ l. map v l) e ∙ map_push v xs x)) t

-- one more where g knows the next token
pub pushed_again : {X A : Type 0} (g : Piece → Bool) (p : Gets A) (v : X → A) (xs ys : List X) (x : X) (rest after : List Token) (total : Result (List A × List Piece) (Fault × List Piece)) → another g p (pieces rest) ≡ Some (Ok (v x, pieces after)) → length after < length rest → ys ≡ xs ++ x ∷ [] → Rounds (λ (_ : List A). g) p push (map v xs) (pieces rest) total → Rounds (λ (_ : List A). g) p push (map v ys) (pieces after) total
pushed_again {X} {A} g p v xs ys x rest after total i lt e h =
    let t = rounds_on (λ (_ : List A). g) p push (map v xs) (pieces rest) (v x) (pieces after) total i (pieces_less after rest lt) h in
    subst (λ (a : List A). Rounds (λ (_ : List A). g) p push a (pieces after) total) (sym (ap (λ l. map v l) e ∙ map_push v xs x)) t

-- a fault in a part is one of the loop
pub fails_again : {X : Type 0} (g : Piece → Bool) (p : Gets X) (a : List X) (rest : List Token) (e : Stop) (total : Result (List X × List Piece) (Fault × List Piece)) → FailsIn e (another g p (pieces rest)) → Rounds (λ (_ : List X). g) p push a (pieces rest) total → Fails e total
fails_again g p a rest stop.Memory total i h = tt
fails_again {X} g p a rest (stop.Fault c n) total i h = at (another g p (pieces rest)) refl i
  where
    at : (o : Option (Result (X × List Piece) (Fault × List Piece))) → another g p (pieces rest) ≡ o → FailsIn (stop.Fault c n) o → Fails (stop.Fault c n) total
    at None e q = absurd q
    at (Some (Ok x)) e q = absurd q
    at (Some (Err d)) e q = subst (λ y. Fails (stop.Fault c n) y) (sym (rounds_err (λ (_ : List X). g) p push a (pieces rest) d total e h)) q
