use Rattle.ss_vcgen_express.proofs.Grown.{HasFormulas-get, negated_next}
use Rattle.ss_terms.proofs.Longer.{HasFormulas-push}
use Rattle.ss_vcgen_express.proofs.quantifiers.negations.Goals as goal

pub negation-requires : goal.negation-requires
negation-requires c = HasFormulas-get c.args.bank.now c.args.fs.now c.loop-f.f-index (record { 0 = 0 }) c.requires c.loop-f-test.true

pub loop-f-preserved : goal.loop-f-preserved
loop-f-preserved c = record {
  in_bank = rw c.in_ok-push.ensures.items (HasFormulas-push c.args.bank.now c.loop-f.made.items c.negation.result c.loop-f.invariant.in_bank c.negation.ensures.in_bank);
  done = negated_next c.args.bank.now c.args.fs.now c.loop-f.f-index (record { 0 = 0 }) c.loop-f.made.items c.push.new.self.items c.negation.result c.loop-f-test.true c.in_ok-push.ensures.items c.negation.ensures.negation c.loop-f.invariant.done;
}
