use Rattle.ss_logic.specs.Express as spec
use Rattle.ss_terms.specs.Forms.{term_at}
use Rattle.ss_terms.proofs.Grown.{IsGrown-then}
use Rattle.ss_vcgen_express.specs.Numbers.{choice_at, choices_at}
use Rattle.ss_vcgen_express.specs.Functions.{applied_two}
use Rattle.ss_vcgen_express.proofs.Grown.{HasChoices-grown, HasChoices-get, no_choice}
use Rattle.ss_vcgen_express.proofs.Listing.{choices_more}
use Rattle.ss_vcgen_express.proofs.functions.add_pairs.Goals as goal

pub pair-requires-clause-second : goal.pair-requires-clause-second
pair-requires-clause-second c =
    HasChoices-get c.loop-y.bank c.args.list.now c.loop-y.y-index no_choice (HasChoices-grown c.loop-y.invariant.grown c.args.list.now c.requires.choices) c.loop-y-test.true

pub loop-y-preserved : goal.loop-y-preserved
loop-y-preserved c = record {
  grown = IsGrown-then c.args.bank.now c.loop-y.bank c.pair.new.bank c.loop-y.invariant.grown c.pair.ensures.grown;
  done = choices_more (λ b. choices_at b c.args.made.now.items) (λ b y. spec.both (applied_two (term_at b) c.args.function) (choice_at b c.args.x) y) c.loop-y.bank c.pair.new.bank c.args.list.now c.loop-y.y-index no_choice c.loop-y.made.items c.push.new.self.items
      c.in_ok-z.z c.pair.ensures.grown c.loop-y-test.true c.in_ok-push.ensures.items c.loop-y.invariant.done c.in_ok-z.ensures.at;
}
