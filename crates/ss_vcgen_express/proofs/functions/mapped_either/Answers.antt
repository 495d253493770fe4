use Rattle.std.proofs.Common.{map, ap, ◌∙◌}
use Rattle.ss_logic.specs.Express as spec
use Rattle.ss_terms.specs.Forms.{Forms, term_at}
use Rattle.ss_terms.proofs.Grown.{IsGrown-then}
use Rattle.ss_vcgen_express.specs.Numbers.{choice_at}
use Rattle.ss_vcgen_express.specs.Functions.{applied}
use Rattle.ss_vcgen_express.proofs.functions.mapped_either.Goals as goal

pub returns-clause-at : goal.returns-clause-at
returns-clause-at c =
    let one = λ (b : Forms) (x : spec.Choice). spec.choice x.condition (applied (term_at b) c.args.function x.value) in
    record {
      has = c.in_ok-made.ensures.at.has;
      is = λ b k.
          ap spec.Either (c.in_ok-made.ensures.at.are b k
          ∙ ap (λ cs. map (one b) (map (choice_at b) cs)) c.deref.ensures.value
          ∙ ap (map (one b)) (c.in_ok-list.ensures.at.are b (IsGrown-then c.choices.new.bank c.mapped_choices.new.bank b c.in_ok-made.ensures.grown k)));
    }
