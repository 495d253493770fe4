-- The values of expressions, pushed from the left.
use Rattle.std.proofs.Common.{◌≡◌, ◌≤◌, ℕ, zero, suc, List, [], ◌∷◌, ◌++◌, map, drop, length, Result, Ok, Err, refl, sym, ap, ◌∙◌, arith, append_assoc}
use Rattle.std.proofs.lemmas.List.{append-nil}
use Rattle.ss_core.specs.declared.expr.Expr.{Expr}
use Rattle.ss_core.specs.Tree.{ExprTree}
use Rattle.ss_core.specs.View.{expr}
use Rattle.ss_store_rules.specs.declared.Value.{Value}
use Rattle.ss_store_rules.specs.declared.Undefined.{Undefined}
use Rattle.ss_store_rules.specs.Values.{Setting, value_of, and_then}
use Rattle.ss_machine_rules.specs.Steps.{values_of}

-- these values were pushed; those of all expressions are these and those of the rest, or the first cause in the rest
pub record GoesOn (old new : List Value) (rest all : Result (List Value) Undefined) : Type 0 where
  pub pushed : List Value
  pub there : new ≡ old ++ pushed
  pub values : (vs : List Value) → rest ≡ Ok vs → all ≡ Ok (pushed ++ vs)
  pub cause : (u : Undefined) → rest ≡ Err u → all ≡ Err u

pub goes_first : (old : List Value) (all : Result (List Value) Undefined) → GoesOn old old all all
goes_first old all = record { pushed = []; there = sym (append-nil old); values = λ vs e. e; cause = λ u e. e }

then_values : (e : ExprTree) (es : List ExprTree) (c : Setting) (v : Value) (vs : List Value) → value_of e c ≡ Ok v → values_of es c ≡ Ok vs → values_of (e ∷ es) c ≡ Ok (v ∷ vs)
then_values e es c v vs first rest =
    ap (λ (r : Result Value Undefined). and_then r (λ w. and_then (values_of es c) (λ ws. Ok (w ∷ ws)))) first
    ∙ ap (λ (r : Result (List Value) Undefined). and_then r (λ ws. Ok (v ∷ ws))) rest

then_cause : (e : ExprTree) (es : List ExprTree) (c : Setting) (v : Value) (u : Undefined) → value_of e c ≡ Ok v → values_of es c ≡ Err u → values_of (e ∷ es) c ≡ Err u
then_cause e es c v u first rest =
    ap (λ (r : Result Value Undefined). and_then r (λ w. and_then (values_of es c) (λ ws. Ok (w ∷ ws)))) first
    ∙ ap (λ (r : Result (List Value) Undefined). and_then r (λ ws. Ok (v ∷ ws))) rest

first_cause : (e : ExprTree) (es : List ExprTree) (c : Setting) (u : Undefined) → value_of e c ≡ Err u → values_of (e ∷ es) c ≡ Err u
first_cause e es c u first = ap (λ (r : Result Value Undefined). and_then r (λ w. and_then (values_of es c) (λ ws. Ok (w ∷ ws)))) first

module _ (old mid : List Value) (e : ExprTree) (es : List ExprTree) (c : Setting) (all : Result (List Value) Undefined) (g : GoesOn old mid (values_of (e ∷ es) c) all) where
  pub goes_more : (v : Value) → value_of e c ≡ Ok v → GoesOn old (mid ++ v ∷ []) (values_of es c) all
  goes_more v first = record {
    pushed = g.pushed ++ v ∷ [];
    there = ap (λ (l : List Value). l ++ v ∷ []) g.there ∙ append_assoc old g.pushed (v ∷ []);
    values = λ vs rest. g.values (v ∷ vs) (then_values e es c v vs first rest) ∙ ap (λ (l : List Value). Ok l) (sym (append_assoc g.pushed (v ∷ []) vs));
    cause = λ u rest. g.cause u (then_cause e es c v u first rest);
  }

  pub goes_wrong : (u : Undefined) → value_of e c ≡ Err u → all ≡ Err u
  goes_wrong u first = g.cause u (first_cause e es c u first)

-- after the last expression
pub goes_last : (old new : List Value) (es : List Expr) (i : ℕ) (c : Setting) (all : Result (List Value) Undefined) → GoesOn old new (values_of (map expr (drop i es)) c) all → length es ≤ i → (vs : List Value) × (all ≡ Ok vs) × (new ≡ old ++ vs)
goes_last old new [] zero c all g le = (g.pushed, g.values [] refl ∙ ap (λ (l : List Value). Ok l) (append-nil g.pushed), g.there)
goes_last old new [] (suc i) c all g le = (g.pushed, g.values [] refl ∙ ap (λ (l : List Value). Ok l) (append-nil g.pushed), g.there)
goes_last old new (e ∷ es) zero c all g le = absurd (omega (arith, le))
goes_last old new (e ∷ es) (suc i) c all g le = goes_last old new es i c all g (omega (arith, le))
