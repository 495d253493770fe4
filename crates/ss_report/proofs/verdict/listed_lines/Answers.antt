use Rattle.std.proofs.Common.{refl, sym, string_bytes}
use Rattle.ss_core.specs.View.{core}
use Rattle.ss_vcgen_builder.specs.Builder.{obligation_at, obligations_at}
use Rattle.ss_report.specs.Verdict.{listed_text}
use Rattle.ss_report.proofs.Lines.{one_more}
use Rattle.ss_report.proofs.verdict.listed_lines.Goals as goal

pub loop-number-preserved : goal.loop-number-preserved
loop-number-preserved c = record {
  countered = c.next_countered-refuted.ensures.rising;
  undecided = c.next_undecided-over.ensures.rising;
  text = λ b trail. one_more (core c.args.program.now) (obligation_at b trail) c.args.list.now c.loop-number.number _ c.next_countered-refuted.result.0 c.next_undecided-over.result.0 c.loop-number-test.true
      c.loop-number.countered.now c.next_countered-refuted.result.1.now c.loop-number.undecided.now c.next_undecided-over.result.1.now
      (string_bytes c.loop-number.text) (string_bytes c.push_line.new.text) (listed_text (core c.args.program.now) (obligations_at b trail c.args.list.now) c.args.countered.now c.args.undecided.now) c.next_countered-refuted.ensures.same c.next_undecided-over.ensures.same
      c.next_countered-refuted.ensures.refuted c.next_undecided-over.ensures.over (c.in_ok-push_line.ensures b trail) (c.loop-number.invariant.text b trail);
}
