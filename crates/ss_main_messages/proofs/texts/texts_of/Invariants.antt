use Rattle.ss_core.specs.View as view
use Rattle.ss_terms.specs.Forms.{IsBankOf}
use Rattle.ss_vcgen_builder.specs.Built.{IsWithin}
use Rattle.ss_main_messages.proofs.texts.texts_of.Given as goal

abbrev pub invariant-loop-place : goal.invariant-loop-place
invariant-loop-place l = record {
  bank : IsBankOf (view.classes l.core.classes) l.obligations.bank;
  within : IsWithin l.obligations;
}
