-- One more formula is reached, that the negation of a closed decision is.
use Rattle.std.proofs.Common.{◌≡◌, ◌*◌, ◌-◌, ◌<◌, length, ap, subst, arith}
use Rattle.std.specs.List.{Contains}
use Rattle.std.proofs.lemmas.List.{length-map}
use Rattle.ss_logic.specs.Formulas.{neg}
use Rattle.ss_terms.specs.declared.forms.FormulaId.{FormulaId}
use Rattle.ss_terms.specs.Forms.{formula_at}
use Rattle.ss_search_reached.proofs.Marks.{few_known}
use Rattle.ss_search_reaching.specs.declared.reaching.Reaching.{Reaching}
use Rattle.ss_search_reaching.specs.Reaching.{ReachesFrom}
use Rattle.ss_search_reaching.specs.Reaching as reaching
use Rattle.ss_search_procedure.specs.declared.setting.Settling.{Settling}
use Rattle.ss_search_procedure.specs.Decisions.{bank_of, reached_in, IsOpenDecision, GoesOn, ReachesBy}
use Rattle.ss_search_procedure.proofs.Going.{longer, much_longer, on_and_on, on_grows, reaches_on, reaches_from}

-- r0 to r1: a decision was closed; to r2: its negation is reached; to r3: what follows is
module _ (s : Settling) (r0 r1 r2 r3 : Reaching) (p other : FormulaId) (first : GoesOn s r0 r1) (same : reached_in s r1 ≡ reached_in s r0) (choice : IsOpenDecision s r0 p) (negation : formula_at (bank_of s) other ≡ neg (formula_at (bank_of s) p))
    (learnt : GoesOn s r1 r2) (known : Contains (reached_in s r2) (formula_at (bank_of s) other)) (grows : reaching.Grows s.given r2 r3) where
  last : GoesOn s r2 r3
  last = on_grows s r2 r3 learnt.state grows

  pub step : GoesOn s r0 r3
  step = on_and_on s r0 r1 r3 first (on_and_on s r1 r2 r3 learnt last)

  pub less_room : length (bank_of s).formulas * 2 - length r3.reached.known.items < length (bank_of s).formulas * 2 - length r0.reached.known.items
  less_room =
      let few = few_known (bank_of s) r3.reached.known.items last.state.reaching.reached.has last.state.reaching.reached.once in
      let more = longer s r2 r3 last in
      let much = much_longer s r1 r2 (formula_at (bank_of s) other) learnt known (λ h. choice.unknown.negation (subst (Contains (reached_in s r0)) negation (subst (λ fs. Contains fs (formula_at (bank_of s) other)) same h))) in
      let p0 = length-map r0.reached.known.items (formula_at (bank_of s)) in
      let p1 = length-map r1.reached.known.items (formula_at (bank_of s)) in
      let e = ap length same in
      omega (arith, few, more, much, p0, p1, e)

  pub reaches_step : ReachesBy s r0 r1 → ReachesBy s r1 r2 → ReachesFrom s.given r2 r3 → ReachesBy s r0 r3
  reaches_step one two three = reaches_on s r0 r1 r3 one (reaches_on s r1 r2 r3 two (reaches_from s r2 r3 three))
