use Rattle.std.proofs.Common.{map, ap, ◌∙◌}
use Rattle.std.specs.Prelude.{flat_map}
use Rattle.ss_logic.specs.Express as spec
use Rattle.ss_terms.proofs.Grown.{IsGrown-then}
use Rattle.ss_vcgen_express.specs.Numbers.{choice_at}
use Rattle.ss_vcgen_express.proofs.classes.as_class.Goals as goal

pub returns-clause-at : goal.returns-clause-at
returns-clause-at c =
    record {
      has = c.in_ok-made.ensures.at.has;
      is = λ b k.
          ap spec.Either (c.in_ok-made.ensures.at.are b k
          ∙ ap (λ cs. flat_map (spec.as_class c.args.class) (map (choice_at b) cs)) c.deref.ensures.value
          ∙ ap (flat_map (spec.as_class c.args.class)) (c.in_ok-list.ensures.at.are b (IsGrown-then c.choices.new.bank c.as_choices.new.bank b c.in_ok-made.ensures.grown k)));
    }
