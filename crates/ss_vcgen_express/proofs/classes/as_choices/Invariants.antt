use Rattle.std.proofs.Common.{take}
use Rattle.std.specs.Prelude.{flat_map}
use Rattle.ss_logic.specs.Express as spec
use Rattle.ss_terms.specs.Forms.{IsGrown}
use Rattle.ss_vcgen_express.specs.Numbers.{choices_at, AreChoices}
use Rattle.ss_vcgen_express.proofs.classes.as_choices.Given as goal

abbrev pub invariant-loop-c : goal.invariant-loop-c
invariant-loop-c l = record {
  grown : IsGrown l.initial.bank l.bank;
  done : AreChoices l.bank l.made.items (λ b. flat_map (spec.as_class l.class) (choices_at b (take l.c-index l.list)));
}
