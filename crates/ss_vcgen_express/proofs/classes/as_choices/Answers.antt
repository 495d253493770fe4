use Rattle.ss_logic.specs.Express as spec
use Rattle.ss_terms.proofs.Grown.{IsGrown-then}
use Rattle.ss_vcgen_express.proofs.Grown.{HasChoices-grown, HasChoices-get, no_choice}
use Rattle.ss_vcgen_express.proofs.Listing.{choices_flat}
use Rattle.ss_vcgen_express.proofs.classes.as_choices.Goals as goal

pub add_as-requires-clause-choice : goal.add_as-requires-clause-choice
add_as-requires-clause-choice c =
    HasChoices-get c.loop-c.bank c.args.list.now c.loop-c.c-index no_choice (HasChoices-grown c.loop-c.invariant.grown c.args.list.now c.requires) c.loop-c-test.true

pub loop-c-preserved : goal.loop-c-preserved
loop-c-preserved c = record {
  grown = IsGrown-then c.args.bank.now c.loop-c.bank c.add_as.new.bank c.loop-c.invariant.grown c.add_as.ensures.grown;
  done = choices_flat (λ b x. spec.as_class c.args.class x) c.loop-c.bank c.add_as.new.bank c.args.list.now c.loop-c.c-index no_choice c.loop-c.made.items c.add_as.new.made.items
      c.add_as.ensures.grown c.loop-c-test.true c.loop-c.invariant.done c.in_ok-add_as.ensures.at;
}
