use Rattle.std.proofs.Common.{◌≡◌, ◌-◌, ◌+◌, ℕ, ap, subst, arith, length}
use Rattle.std.specs.Prelude.{nat_eq}
use Rattle.std.specs.Map.{lookup}
use Rattle.indexmap.specs.IndexMap.{get}
use Rattle.ss_report_values.specs.Index.{ArePlaces}
use Rattle.ss_report_values.proofs.Classes.{no_places}
use Rattle.ss_report_values.proofs.index.Places.new.Goals as goal

pub loop-i-init : goal.loop-i-init
loop-i-init c = record {
  within = omega arith;
  places = λ t h. no_places c.args.bank.now c.args.terms.now t (get nat_eq c.new-map.result t.0) (ap (lookup (nat_eq t.0)) c.new-map.ensures.empty);
}

pub put-requires-clause-places : goal.put-requires-clause-places
put-requires-clause-places c =
    let more = c.loop-i-test.true in
    let again : c.loop-i.i ≡ (c.loop-i.i - 1) + 1 = omega arith in
    subst (λ (k : ℕ). ArePlaces c.args.bank.now c.args.terms.now k c.loop-i.places) again c.loop-i.invariant.places
