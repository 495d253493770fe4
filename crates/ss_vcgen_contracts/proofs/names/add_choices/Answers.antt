use Rattle.std.proofs.Common.{[], ◌∷◌, ◌++◌, map, subst}
use Rattle.std.proofs.lemmas.List.{take_all}
use Rattle.ss_logic.specs.Express.{and_of}
use Rattle.ss_terms.specs.Forms.{formulas_at}
use Rattle.ss_terms.proofs.Grown.{IsGrown-then, HasFormulas-grown}
use Rattle.ss_frames.specs.Calls.{named_at}
use Rattle.ss_vcgen_express.specs.Numbers.{choices_at}
use Rattle.ss_vcgen_express.proofs.Grown.{HasChoices-grown, HasChoices-get, no_choice}
use Rattle.ss_vcgen_contracts.specs.Names.{named_by}
use Rattle.ss_vcgen_contracts.specs.Views.{AreNames}
use Rattle.ss_vcgen_contracts.proofs.Listing.{names_next}
use Rattle.ss_vcgen_contracts.proofs.names.add_choices.Goals as goal

pub named_choice-requires-clause-guards : goal.named_choice-requires-clause-guards
named_choice-requires-clause-guards c = HasFormulas-grown c.args.bank.now c.loop-choice.bank c.loop-choice.invariant.grown c.args.guards.now c.requires.guards

pub named_choice-requires-clause-choice : goal.named_choice-requires-clause-choice
named_choice-requires-clause-choice c =
    HasChoices-get c.loop-choice.bank c.args.choices.now c.loop-choice.choice-index no_choice (HasChoices-grown c.loop-choice.invariant.grown c.args.choices.now c.requires.choices) c.loop-choice-test.true

pub loop-choice-preserved : goal.loop-choice-preserved
loop-choice-preserved c = record {
  grown = IsGrown-then c.args.bank.now c.loop-choice.bank c.named_choice.new.bank c.loop-choice.invariant.grown c.named_choice.ensures.grown;
  done = names_next (λ b. map (named_at b) c.args.names.now.items) (λ b x. named_by c.args.kind (and_of (formulas_at b c.args.guards.now ++ x.condition ∷ [])) x.value) c.loop-choice.bank c.named_choice.new.bank c.args.choices.now
      c.loop-choice.choice-index no_choice c.loop-choice.names.items c.push.new.self.items c.in_ok-name.name c.named_choice.ensures.grown c.loop-choice-test.true c.in_ok-push.ensures.items c.loop-choice.invariant.done c.in_ok-name.ensures.at;
}

pub returns-clause-at : goal.returns-clause-at
returns-clause-at c =
    subst
    (λ cs. AreNames c.loop-choice.bank c.loop-choice.names.items (λ b. map (named_at b) c.args.names.now.items ++ map (λ x. named_by c.args.kind (and_of (formulas_at b c.args.guards.now ++ x.condition ∷ [])) x.value) (choices_at b cs)))
    (take_all c.loop-choice.choice-index c.args.choices.now c.loop-choice-test.false) c.loop-choice.invariant.done
