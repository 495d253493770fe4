use Rattle.std.proofs.Common.{[], get_or}
use Rattle.ss_logic.specs.Express as spec
use Rattle.ss_terms.specs.Forms.{term_at}
use Rattle.ss_terms.proofs.Grown.{IsGrown-then}
use Rattle.ss_vcgen_express.specs.Functions.{applied}
use Rattle.ss_vcgen_express.proofs.Grown.{HasChoices-grown, HasChoices-get, no_choice}
use Rattle.ss_vcgen_express.proofs.Listing.{choices_more, choice_valued}
use Rattle.ss_vcgen_express.proofs.functions.mapped_choices.Goals as goal

pub applied-requires-clause-value : goal.applied-requires-clause-value
applied-requires-clause-value c =
    (HasChoices-get c.loop-c.bank c.args.list.now c.loop-c.c-index no_choice (HasChoices-grown c.loop-c.invariant.grown c.args.list.now c.requires.choices) c.loop-c-test.true).1

pub loop-c-preserved : goal.loop-c-preserved
loop-c-preserved c =
    let a = c.loop-c.bank in
    let x = get_or c.args.list.now c.loop-c.c-index no_choice in
    let here = HasChoices-get a c.args.list.now c.loop-c.c-index no_choice (HasChoices-grown c.loop-c.invariant.grown c.args.list.now c.requires.choices) c.loop-c-test.true in
    record {
      grown = IsGrown-then c.args.bank.now a c.applied.new.bank c.loop-c.invariant.grown c.applied.ensures.grown;
      done = choices_more (λ b. []) (λ b y. spec.choice y.condition (applied (term_at b) c.args.function y.value)) a c.applied.new.bank c.args.list.now c.loop-c.c-index no_choice c.loop-c.made.items c.push.new.self.items
          (record { condition = x.condition; value = c.in_ok-value.value }) c.applied.ensures.grown c.loop-c-test.true c.in_ok-push.ensures.items c.loop-c.invariant.done
          (choice_valued a c.applied.new.bank x c.in_ok-value.value (λ b. applied (term_at b) c.args.function (term_at b x.value)) c.applied.ensures.grown here c.in_ok-value.ensures.at);
    }
