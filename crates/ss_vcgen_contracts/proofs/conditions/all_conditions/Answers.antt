use Rattle.std.proofs.Common.{subst}
use Rattle.ss_core.specs.View.{expr}
use Rattle.ss_logic.specs.Express.{holds_formula}
use Rattle.ss_terms.proofs.Grown.{IsGrown-then}
use Rattle.ss_vcgen_express.specs.Numbers.{IsFormula}
use Rattle.ss_vcgen_express.specs.Contexts.{context_at}
use Rattle.ss_vcgen_express.proofs.Contexts.{HasContext-grown}
use Rattle.ss_vcgen_contracts.specs.Seen.{condition_of}
use Rattle.ss_vcgen_contracts.proofs.Listing.{formulas_next}
use Rattle.ss_vcgen_contracts.proofs.conditions.all_conditions.Goals as goal

pub condition-requires : goal.condition-requires
condition-requires c = HasContext-grown c.loop-e.invariant.grown c.args.context.now c.requires

pub loop-e-preserved : goal.loop-e-preserved
loop-e-preserved c = record {
  grown = IsGrown-then c.args.bank.now c.loop-e.bank c.condition.new.bank c.loop-e.invariant.grown c.condition.ensures.grown;
  done = formulas_next expr (condition_of c.args.seen) (λ b t. holds_formula t (context_at b c.args.context.now)) c.loop-e.bank c.condition.new.bank c.args.es.now c.loop-e.e-index c.e-item.result c.loop-e.made.items c.push.new.self.items c.in_ok-f.f
      c.condition.ensures.grown c.loop-e-test.true c.in_ok-push.ensures.items c.loop-e.invariant.done
      (subst (λ e. IsFormula c.condition.new.bank c.in_ok-f.f (λ b. holds_formula (condition_of c.args.seen (expr e)) (context_at b c.args.context.now))) c.e-item.is c.in_ok-f.ensures.at);
}
