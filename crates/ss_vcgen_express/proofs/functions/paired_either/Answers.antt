use Rattle.std.proofs.Common.{map, ap, ◌∙◌}
use Rattle.std.specs.Prelude.{flat_map}
use Rattle.ss_logic.specs.Express as spec
use Rattle.ss_terms.specs.Forms.{Forms, term_at}
use Rattle.ss_terms.proofs.Grown.{IsGrown-then}
use Rattle.ss_vcgen_express.specs.Numbers.{choices_at, meant_at}
use Rattle.ss_vcgen_express.specs.Functions.{applied_two}
use Rattle.ss_vcgen_express.proofs.Grown.{HasMeant-grown, HasChoices-grown}
use Rattle.ss_vcgen_express.proofs.functions.paired_either.Goals as goal

pub choices-requires-2 : goal.choices-requires-2
choices-requires-2 c = HasMeant-grown c.in_ok-xs.ensures.grown c.args.y.now c.requires.second

pub pairs-requires-clause-first : goal.pairs-requires-clause-first
pairs-requires-clause-first c = rw c.deref.ensures.value (HasChoices-grown c.in_ok-ys.ensures.grown c.in_ok-xs.xs.items c.in_ok-xs.ensures.at.has)

pub returns-clause-at : goal.returns-clause-at
returns-clause-at c =
    let g = λ (b : Forms). spec.both (applied_two (term_at b) c.args.function) in
    record {
      has = c.in_ok-made.ensures.at.has;
      is = λ b k.
          let k3 = IsGrown-then c.choices-2.new.bank c.pairs.new.bank b c.in_ok-made.ensures.grown k in
          let k2 = IsGrown-then c.choices.new.bank c.choices-2.new.bank b c.in_ok-ys.ensures.grown k3 in
          ap spec.Either (c.in_ok-made.ensures.at.are b k
          ∙ ap (λ l. flat_map (λ x. map (g b x) (choices_at b c.deref-2.result.now)) (choices_at b l)) c.deref.ensures.value
          ∙ ap (λ l. flat_map (λ x. map (g b x) (choices_at b l)) (choices_at b c.in_ok-xs.xs.items)) c.deref-2.ensures.value
          ∙ ap (λ l. flat_map (λ x. map (g b x) (choices_at b c.in_ok-ys.ys.items)) l) (c.in_ok-xs.ensures.at.are b k2)
          ∙ ap (λ l. flat_map (λ x. map (g b x) l) (spec.choices (meant_at b c.args.x.now))) (c.in_ok-ys.ensures.at.are b k3));
    }
