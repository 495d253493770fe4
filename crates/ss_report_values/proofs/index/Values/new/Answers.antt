use Rattle.std.proofs.Common.{◌≡◌, ◌-◌, ◌+◌, ◌∙◌, ℕ, ap, subst, arith, length}
use Rattle.std.specs.Prelude.{nat_eq}
use Rattle.std.specs.Map.{lookup}
use Rattle.ss_report_values.specs.Index.{AreValues}
use Rattle.ss_report_values.proofs.Classes.{none_at_end}
use Rattle.ss_report_values.proofs.index.Values.new.Goals as goal

pub loop-i-init : goal.loop-i-init
loop-i-init c = record {
  within = omega arith;
  values = λ n. ap (lookup (nat_eq n)) c.new-map.ensures.empty ∙ none_at_end c.args.bank.now n c.args.reading.now.terms.now c.args.reading.now.classes.now (length c.args.reading.now.terms.now) (omega arith);
}

pub put-requires-clause-values : goal.put-requires-clause-values
put-requires-clause-values c =
    let more = c.loop-i-test.true in
    let again : c.loop-i.i ≡ (c.loop-i.i - 1) + 1 = omega arith in
    subst (λ (k : ℕ). AreValues c.args.bank.now c.args.reading.now k c.loop-i.values) again c.loop-i.invariant.values
