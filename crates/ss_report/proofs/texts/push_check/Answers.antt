use Rattle.std.proofs.Common.{◌++◌, ap, ◌∙◌, string_bytes}
use Rattle.std.specs.Prelude.{codes}
use Rattle.std.specs.Fmt.{decimal}
use Rattle.ss_report.specs.Texts.{place_text}
use Rattle.ss_report.proofs.Lines.{check_parts}
use Rattle.ss_report.proofs.texts.push_check.Goals as goal

pub returns : goal.returns
returns c =
    let at = c.args.check.now.place in
    let class = c.args.check.now.class.now in
    let body = c.args.check.now.body.now in
    c.in_ok-write.ensures.bytes
    ∙ ap (λ check. string_bytes c.args.text.now ++ check)
    (check_parts c.kind_name-kind.result.now (codes " at ") (decimal at.line) (codes ":") (decimal at.column) (codes " in ") class (codes ".") body
    ∙ ap (λ kind. kind ++ codes " at " ++ place_text at ++ codes " in " ++ class ++ codes "." ++ body) c.kind_name-kind.ensures)
