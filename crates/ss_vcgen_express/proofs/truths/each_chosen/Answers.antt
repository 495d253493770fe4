use Rattle.std.proofs.Common.{◌∷◌, []}
use Rattle.ss_logic.specs.Express as spec
use Rattle.ss_terms.specs.Forms.{term_at}
use Rattle.ss_terms.proofs.Grown.{IsGrown-then}
use Rattle.ss_vcgen_express.specs.Sayings.{said_so}
use Rattle.ss_vcgen_express.proofs.Grown.{HasChoices-grown, HasChoices-get, formulas_next, no_choice}
use Rattle.ss_vcgen_express.proofs.truths.each_chosen.Goals as goal

pub chosen-requires-clause-choice : goal.chosen-requires-clause-choice
chosen-requires-clause-choice c =
    HasChoices-get c.loop-c.bank c.args.list.now c.loop-c.c-index no_choice (HasChoices-grown c.loop-c.invariant.grown c.args.list.now c.requires.choices) c.loop-c-test.true

pub loop-c-preserved : goal.loop-c-preserved
loop-c-preserved c = record {
  grown = IsGrown-then c.args.bank.now c.loop-c.bank c.chosen.new.bank c.loop-c.invariant.grown c.chosen.ensures.grown;
  done = formulas_next (λ b x. spec.and_of (x.condition ∷ said_so (term_at b) c.args.saying x.value ∷ [])) c.loop-c.bank c.chosen.new.bank c.args.list.now c.loop-c.c-index no_choice c.loop-c.made.items c.push.new.self.items
      c.in_ok-f.f c.chosen.ensures.grown c.loop-c-test.true c.in_ok-push.ensures.items c.loop-c.invariant.done c.in_ok-f.ensures.at;
}
