use Rattle.std.proofs.Common.{◌≡◌, [], drop, length}
use Rattle.ss_terms.specs.Forms.{term_at, terms_at, HasTerms, IsGrown}
use Rattle.ss_rules_basic.specs.Plans.{planned, HasPlans}
use Rattle.ss_rules_basic.proofs.plans.make_terms.Given as goal

abbrev pub invariant-loop-plan : goal.invariant-loop-plan
invariant-loop-plan l = record {
  grown : IsGrown l.initial.b l.b;
  there : HasTerms l.b l.made.items;
  has : HasPlans l.initial.b (length l.made.items) (drop l.plan-index l.plans);
  rest : planned (term_at l.initial.b) (terms_at l.b l.made.items) (drop l.plan-index l.plans) ≡ planned (term_at l.initial.b) [] l.plans;
}
