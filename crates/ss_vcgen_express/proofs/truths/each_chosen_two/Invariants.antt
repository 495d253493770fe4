use Rattle.std.proofs.Common.{◌∷◌, [], take, map}
use Rattle.ss_logic.specs.Express as spec
use Rattle.ss_terms.specs.Forms.{term_at, IsGrown}
use Rattle.ss_vcgen_express.specs.Numbers.{choices_at, meant_at, AreFormulas}
use Rattle.ss_vcgen_express.specs.Sayings.{related}
use Rattle.ss_vcgen_express.proofs.truths.each_chosen_two.Given as goal

abbrev pub invariant-loop-c : goal.invariant-loop-c
invariant-loop-c l = record {
  grown : IsGrown l.initial.bank l.bank;
  done : AreFormulas l.bank l.made.items (λ b. map (λ c. spec.and_of (c.condition ∷ spec.over (meant_at b l.y) (related (term_at b) l.relation c.value) ∷ [])) (choices_at b (take l.c-index l.list)));
}
