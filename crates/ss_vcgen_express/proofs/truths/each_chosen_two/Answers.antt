use Rattle.std.proofs.Common.{◌∷◌, []}
use Rattle.ss_logic.specs.Express as spec
use Rattle.ss_terms.specs.Forms.{term_at}
use Rattle.ss_terms.proofs.Grown.{IsGrown-then}
use Rattle.ss_vcgen_express.specs.Numbers.{meant_at}
use Rattle.ss_vcgen_express.specs.Sayings.{related}
use Rattle.ss_vcgen_express.proofs.Grown.{HasChoices-grown, HasChoices-get, HasMeant-grown, HasRelation-grown, formulas_next, no_choice}
use Rattle.ss_vcgen_express.proofs.truths.each_chosen_two.Goals as goal

pub chosen_two-requires : goal.chosen_two-requires
chosen_two-requires c =
    let g = c.loop-c.invariant.grown in
    record {
      choice = HasChoices-get c.loop-c.bank c.args.list.now c.loop-c.c-index no_choice (HasChoices-grown g c.args.list.now c.requires.choices) c.loop-c-test.true;
      second = HasMeant-grown g c.args.y.now c.requires.second;
      relation = HasRelation-grown g c.args.relation c.requires.relation;
    }

pub loop-c-preserved : goal.loop-c-preserved
loop-c-preserved c = record {
  grown = IsGrown-then c.args.bank.now c.loop-c.bank c.chosen_two.new.bank c.loop-c.invariant.grown c.chosen_two.ensures.grown;
  done = formulas_next (λ b x. spec.and_of (x.condition ∷ spec.over (meant_at b c.args.y.now) (related (term_at b) c.args.relation x.value) ∷ [])) c.loop-c.bank c.chosen_two.new.bank c.args.list.now c.loop-c.c-index no_choice c.loop-c.made.items c.push.new.self.items
      c.in_ok-f.f c.chosen_two.ensures.grown c.loop-c-test.true c.in_ok-push.ensures.items c.loop-c.invariant.done c.in_ok-f.ensures.at;
}
