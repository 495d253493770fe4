use Rattle.std.proofs.Common.{◌∙◌, string_bytes, codes}
use Rattle.ss_report.specs.Texts.{check_text, budget_text}
use Rattle.ss_report.proofs.Lines.{three_parts}
use Rattle.ss_report.proofs.texts.push_undecided.Goals as goal

pub returns : goal.returns
returns c =
    three_parts (string_bytes c.args.text.now) (string_bytes c.push_str.new.self) (string_bytes c.push_check.new.text) (string_bytes c.push_str-2.new.self) (codes "undecided: ")
    (check_text c.args.check.now.kind c.args.check.now.place c.args.check.now.class.now c.args.check.now.body.now) c.deref.result.now (budget_text c.args.over) c.in_ok-push_str.ensures.bytes c.in_ok-push_check.ensures c.in_ok-push_str-2.ensures.bytes (c.deref.ensures ∙ c.in_ok-budget_text.ensures)
