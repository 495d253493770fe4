use Rattle.std.proofs.Common.{◌∷◌, [], take, map}
use Rattle.ss_logic.specs.Express as spec
use Rattle.ss_terms.specs.Forms.{term_at, IsGrown}
use Rattle.ss_vcgen_express.specs.Numbers.{choices_at, AreFormulas}
use Rattle.ss_vcgen_express.specs.Sayings.{said_so}
use Rattle.ss_vcgen_express.proofs.truths.each_chosen.Given as goal

abbrev pub invariant-loop-c : goal.invariant-loop-c
invariant-loop-c l = record {
  grown : IsGrown l.initial.bank l.bank;
  done : AreFormulas l.bank l.made.items (λ b. map (λ c. spec.and_of (c.condition ∷ said_so (term_at b) l.saying c.value ∷ [])) (choices_at b (take l.c-index l.list)));
}
