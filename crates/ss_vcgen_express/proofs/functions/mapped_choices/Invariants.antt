use Rattle.std.proofs.Common.{take, map}
use Rattle.ss_logic.specs.Express as spec
use Rattle.ss_terms.specs.Forms.{term_at, IsGrown}
use Rattle.ss_vcgen_express.specs.Numbers.{choices_at, AreChoices}
use Rattle.ss_vcgen_express.specs.Functions.{applied}
use Rattle.ss_vcgen_express.proofs.functions.mapped_choices.Given as goal

abbrev pub invariant-loop-c : goal.invariant-loop-c
invariant-loop-c l = record {
  grown : IsGrown l.initial.bank l.bank;
  done : AreChoices l.bank l.made.items (λ b. map (λ c. spec.choice c.condition (applied (term_at b) l.function c.value)) (choices_at b (take l.c-index l.list)));
}
