use Rattle.ss_linear.proofs.Glue.{has_formula_at}
use Rattle.ss_search_candidates.proofs.numbers.add_formulas.Goals as goal

pub sum_fact-requires : goal.sum_fact-requires
sum_fact-requires c = record {
  formula = has_formula_at c.args.bank.now c.args.facts.now c.loop-f.f-index (record { 0 = 0 }) c.requires c.loop-f-test.true;
  kept = c.loop-f.invariant;
}
