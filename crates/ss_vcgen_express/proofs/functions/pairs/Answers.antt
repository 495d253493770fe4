use Rattle.std.proofs.Common.{map}
use Rattle.ss_logic.specs.Express as spec
use Rattle.ss_terms.specs.Forms.{term_at}
use Rattle.ss_terms.proofs.Grown.{IsGrown-then}
use Rattle.ss_vcgen_express.specs.Numbers.{choices_at}
use Rattle.ss_vcgen_express.specs.Functions.{applied_two}
use Rattle.ss_vcgen_express.proofs.Grown.{HasChoices-grown, HasChoices-get, no_choice}
use Rattle.ss_vcgen_express.proofs.Listing.{choices_flat}
use Rattle.ss_vcgen_express.proofs.functions.pairs.Goals as goal

pub add_pairs-requires-clause-first : goal.add_pairs-requires-clause-first
add_pairs-requires-clause-first c =
    HasChoices-get c.loop-x.bank c.args.xs.now c.loop-x.x-index no_choice (HasChoices-grown c.loop-x.invariant.grown c.args.xs.now c.requires.first) c.loop-x-test.true

pub add_pairs-requires-clause-choices : goal.add_pairs-requires-clause-choices
add_pairs-requires-clause-choices c = HasChoices-grown c.loop-x.invariant.grown c.args.ys.now c.requires.second

pub loop-x-preserved : goal.loop-x-preserved
loop-x-preserved c = record {
  grown = IsGrown-then c.args.bank.now c.loop-x.bank c.add_pairs.new.bank c.loop-x.invariant.grown c.add_pairs.ensures.grown;
  done = choices_flat (λ b x. map (spec.both (applied_two (term_at b) c.args.function) x) (choices_at b c.args.ys.now)) c.loop-x.bank c.add_pairs.new.bank c.args.xs.now c.loop-x.x-index no_choice c.loop-x.made.items c.add_pairs.new.made.items
      c.add_pairs.ensures.grown c.loop-x-test.true c.loop-x.invariant.done c.in_ok-add_pairs.ensures.at;
}
