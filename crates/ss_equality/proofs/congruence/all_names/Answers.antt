use Rattle.std.proofs.Common.{◌≡◌, ℕ, ◌+◌, ◌<◌, List, [], ◌∷◌, ◌++◌, length, Some, sym, ◌∙◌, ap, ⊎_elim, arith}
use Rattle.std.specs.Prelude.{slice_get}
use Rattle.std.proofs.lemmas.Bool.{cases_lt}
use Rattle.std.proofs.lemmas.List.{length_push}
use Rattle.ss_equality_rules.specs.Names.{name}
use Rattle.ss_equality_rules.proofs.Lists.{at_left, at_last}
use Rattle.ss_equality.proofs.congruence.all_names.Goals as goal

-- one more
more : (f : ℕ → ℕ) (xs ys : List ℕ) (n y : ℕ) → ys ≡ xs ++ y ∷ [] → y ≡ f n → length xs ≡ n → ((k : ℕ) → k < n → slice_get xs k ≡ Some (f k)) →
    (length ys ≡ n + 1) × ((k : ℕ) → k < n + 1 → slice_get ys k ≡ Some (f k))
more f xs ys n y e is l at = (
  omega (arith, ap length e, length_push xs y, l),
  λ k h. ap (λ zs. slice_get zs k) e ∙ ⊎_elim
      (λ a. at_left xs (y ∷ []) k (f k) (at k a))
      (λ b. let last : k ≡ length xs = omega (arith, h, b, l) in ap (slice_get (xs ++ y ∷ [])) last ∙ at_last xs y ∙ ap Some (is ∙ ap f (sym l ∙ sym last)))
      (cases_lt k n),
)

pub loop-term-init : goal.loop-term-init
loop-term-init c = (ap length c.new-names.ensures.items, λ k h. absurd (omega (arith, h)))

pub loop-term-preserved : goal.loop-term-preserved
loop-term-preserved c =
    more (name c.args.classes.now.log) c.loop-term.names.items c.push.new.self.items c.loop-term.term c.name.result c.in_ok-push.ensures.items c.name.ensures c.loop-term.invariant.0 c.loop-term.invariant.1

pub returns-clause-long : goal.returns-clause-long
returns-clause-long c = omega (arith, c.loop-term.invariant.0, c.loop-term-test.false, c.loop-term.auto.term-end, c.term_count-term-end.ensures)

pub returns-clause-names : goal.returns-clause-names
returns-clause-names c = λ k h. c.loop-term.invariant.1 k (omega (arith, h, c.loop-term-test.false, c.term_count-term-end.ensures))
