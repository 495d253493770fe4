use Rattle.std.proofs.Common.{take, map, ◌++◌}
use Rattle.ss_logic.specs.Express as spec
use Rattle.ss_terms.specs.Forms.{term_at, IsGrown}
use Rattle.ss_vcgen_express.specs.Numbers.{choice_at, choices_at, AreChoices}
use Rattle.ss_vcgen_express.specs.Functions.{applied_two}
use Rattle.ss_vcgen_express.proofs.functions.add_pairs.Given as goal

abbrev pub invariant-loop-y : goal.invariant-loop-y
invariant-loop-y l = record {
  grown : IsGrown l.initial.bank l.bank;
  done : AreChoices l.bank l.made.items (λ b. choices_at b l.initial.made.items ++ map (spec.both (applied_two (term_at b) l.function) (choice_at b l.x)) (choices_at b (take l.y-index l.list)));
}
