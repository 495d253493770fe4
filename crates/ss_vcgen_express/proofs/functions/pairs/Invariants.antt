use Rattle.std.proofs.Common.{take, map}
use Rattle.std.specs.Prelude.{flat_map}
use Rattle.ss_logic.specs.Express as spec
use Rattle.ss_terms.specs.Forms.{term_at, IsGrown}
use Rattle.ss_vcgen_express.specs.Numbers.{choices_at, AreChoices}
use Rattle.ss_vcgen_express.specs.Functions.{applied_two}
use Rattle.ss_vcgen_express.proofs.functions.pairs.Given as goal

abbrev pub invariant-loop-x : goal.invariant-loop-x
invariant-loop-x l = record {
  grown : IsGrown l.initial.bank l.bank;
  done : AreChoices l.bank l.made.items (λ b. flat_map (λ x. map (spec.both (applied_two (term_at b) l.function) x) (choices_at b l.ys)) (choices_at b (take l.x-index l.xs)));
}
