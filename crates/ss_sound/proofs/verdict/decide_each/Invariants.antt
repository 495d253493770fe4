use Rattle.ss_core.specs.View.{classes}
use Rattle.ss_terms.specs.Forms.{IsGrown}
use Rattle.ss_vcgen_builder.specs.Builder.{obligations_at}
use Rattle.ss_sound.proofs.Lists.{IsDecidedTo}
use Rattle.ss_sound.proofs.verdict.decide_each.Given as goal

abbrev pub invariant-loop-number : goal.invariant-loop-number
invariant-loop-number l = record {
  grown : IsGrown l.initial.bank l.bank;
  decided : IsDecidedTo (classes l.context.program.now.classes) l.context.options.now (obligations_at l.initial.bank l.context.trail.now l.list) l.number l.bank l.decided.countered.items l.decided.undecided.items l.decided.derivations.items;
}
