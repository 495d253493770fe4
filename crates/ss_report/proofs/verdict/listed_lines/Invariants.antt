use Rattle.std.proofs.Common.{◌≡◌, ◌++◌, List, drop, string_bytes}
use Rattle.ss_core.specs.View.{core}
use Rattle.ss_terms.specs.declared.forms.FormulaId.{FormulaId}
use Rattle.ss_terms.specs.Forms.{Forms}
use Rattle.ss_vcgen_builder.specs.Builder.{obligations_at}
use Rattle.ss_search_answers.specs.Listed.{countered_numbers, undecided_numbers, AreRisingFrom}
use Rattle.ss_report.specs.Verdict.{listed_text, lines_from}
use Rattle.ss_report.proofs.verdict.listed_lines.Given as goal

abbrev pub invariant-loop-number : goal.invariant-loop-number
invariant-loop-number l = record {
  countered : AreRisingFrom l.number (countered_numbers l.countered);
  undecided : AreRisingFrom l.number (undecided_numbers l.undecided);
  text : (b : Forms) (trail : List FormulaId) → string_bytes l.text ++ lines_from (core l.program) l.countered l.undecided l.number (drop l.number (obligations_at b trail l.list)) ≡ listed_text (core l.program) (obligations_at b trail l.list) l.fn.countered l.fn.undecided;
}
