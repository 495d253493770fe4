use Rattle.std.proofs.Common.{take, map}
use Rattle.ss_terms.specs.Forms.{term_at, IsGrown}
use Rattle.ss_vcgen_defaults.specs.Defaults.{number_of, full_if_owned}
use Rattle.ss_vcgen_express.specs.Numbers.{AreFormulas}
use Rattle.ss_vcgen_defaults.proofs.objects.are_full_if_owned.Given as goal

abbrev pub invariant-loop-class : goal.invariant-loop-class
invariant-loop-class l = record {
  grown : IsGrown l.initial.bank l.bank;
  done : AreFormulas l.bank l.made.items (λ b. map (full_if_owned (term_at b l.store) (term_at b l.v) (term_at b l.x)) (map number_of (take l.class-index l.classes)));
}
