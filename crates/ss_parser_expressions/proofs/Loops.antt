-- Loops, operators and postfixes one by one.
use Rattle.std.proofs.Common.{◌≡◌, ℕ, zero, suc, ◌+◌, ◌-◌, ◌<◌, ◌≤◌, List, [], ◌∷◌, length, Option, Some, Result, Ok, Err, refl, sym, ap, subst, arith}
use Rattle.ss_core.specs.declared.names.Place.{Place}
use Rattle.ss_ast.specs.declared.token.Token.{Token}
use Rattle.ss_ast.specs.Expressions.{ExprTree}
use Rattle.ss_grammar.specs.declared.fault.Fault.{Fault}
use Rattle.ss_grammar.specs.declared.fault.Stop.{Stop}
use Rattle.ss_grammar.specs.declared.fault.Stop.TheVariants as stop
use Rattle.ss_grammar.specs.Reading.{◌>>=◌, times, seen}
use Rattle.std.specs.Prelude.{IsErr, IsErrAnd}
use Rattle.ss_grammar.specs.Stops.{Fails, Gives}
use Rattle.ss_grammar.proofs.Turns.{Turns, turns_err}
use Rattle.ss_grammar_expressions.specs.Heads.{Piece, pieces, link_head, postfix_head}
use Rattle.ss_grammar_expressions.specs.First.{tokened}
use Rattle.ss_grammar_expressions.specs.Parser.{Inner, chain, operand, link_after, joins, postfix, postfixes}

pub fails_on : {T A B R : Type 0} (f : T → Option B) (k : B → List T → Result (R × List T) (Fault × List T)) (join : A → B → R → A) (a : A) (ts : List T) (b : B) (rest : List T) (e : Stop) (total : Result (A × List T) (Fault × List T)) → seen f ts ≡ Some (b, rest) → Fails e (k b rest) → Turns f k join a ts total → Fails e total
fails_on f k join a ts b rest stop.Memory total s g h = tt
fails_on {T} {A} {B} {R} f k join a ts b rest (stop.Fault c n) total s g h = at (k b rest) refl g
  where
    at : (r : Result (R × List T) (Fault × List T)) → k b rest ≡ r → Fails (stop.Fault c n) r → Fails (stop.Fault c n) total
    at (Ok x) e q = absurd q
    at (Err d) e q = subst (λ y. Fails (stop.Fault c n) y) (sym (turns_err f k join a ts b rest d total s e h)) q

-- an error that is handed on
pub err_gives : {T X A : Type 0} (view : X → A × List T) (r : Result X Stop) (e : Stop) (total : Result (A × List T) (Fault × List T)) → IsErr r → IsErrAnd r (λ y. y ≡ e) → Fails e total → Gives view r total
err_gives view (Ok x) e total i a f = absurd a
err_gives view (Err y) e total i a f = subst (λ z. Fails z total) (sym a) f

pub pieces_length : (ts : List Token) → length (pieces ts) ≡ length ts
pieces_length [] = refl
pieces_length (t ∷ ts) = ap suc (pieces_length ts)

pub pieces_fewer : (a b : List Token) → length a ≤ length b → length (pieces a) ≤ length (pieces b)
pieces_fewer a b le = omega (arith, pieces_length a, pieces_length b)

pub pieces_less : (a b : List Token) → length a < length b → length (pieces a) < length (pieces b)
pieces_less a b lt = omega (arith, pieces_length a, pieces_length b)

module _ (d : ℕ) (w : Inner) where
  operand_link : (k : ℕ) (p : Place) (a : ExprTree) (ts : List Piece) → chain d w (suc k) p a ts ≡ (chain d w k p a ts >>= λ x. times (link_head (suc k)) (link_after d w (operand d w k)) (joins d w p) (length x.1) x.0 x.1)
  unfolding chain operand
  operand_link k p a ts = refl

  pub chain_is : (k : ℕ) (p : Place) (a : ExprTree) (ts : List Piece) → 0 < k → chain d w k p a ts ≡ (chain d w (k - 1) p a ts >>= λ x. times (link_head (k - 1 + 1)) (link_after d w (operand d w (k - 1))) (joins d w p) (length x.1) x.0 x.1)
  chain_is zero p a ts lt = absurd (omega arith)
  chain_is (suc k) p a ts lt =
      let e : k ≡ suc k - 1 = omega arith in
      let f : suc k ≡ suc k - 1 + 1 = omega arith in
      subst (λ j. chain d w (suc k) p a ts ≡ (chain d w (suc k - 1) p a ts >>= λ x. times (link_head j) (link_after d w (operand d w (suc k - 1))) (joins d w p) (length x.1) x.0 x.1)) f
      (subst (λ j. chain d w (suc k) p a ts ≡ (chain d w j p a ts >>= λ x. times (link_head (suc k)) (link_after d w (operand d w j)) (joins d w p) (length x.1) x.0 x.1)) e (operand_link k p a ts))

pub postfixes_is : (d : ℕ) (w : Inner) (p : Place) (a : ExprTree) (ts : List Piece) → postfixes d w p a ts ≡ times (tokened postfix_head) (postfix d w) (joins d w p) (length ts) a ts
unfolding postfixes
postfixes_is d w p a ts = refl
