use Rattle.std.proofs.Common.{take, map}
use Rattle.ss_terms.specs.Forms.{term_at, IsGrown}
use Rattle.ss_vcgen_defaults.specs.Defaults.{slot_of, at_default}
use Rattle.ss_vcgen_express.specs.Numbers.{AreFormulas}
use Rattle.ss_vcgen_defaults.proofs.objects.are_default.Given as goal

abbrev pub invariant-loop-held : goal.invariant-loop-held
invariant-loop-held l = record {
  grown : IsGrown l.initial.bank l.bank;
  done : AreFormulas l.bank l.made.items (λ b. map (at_default (term_at b l.store) (term_at b l.x)) (map slot_of (take l.held-index l.list)));
}
