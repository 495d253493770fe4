use Rattle.std.proofs.Common.{ℕ, ◌++◌, ap, sym, append_assoc, ◌∙◌}
use Rattle.std.specs.Global.{Vec}
use Rattle.std.specs.Prelude.{codes}
use Rattle.std.specs.Fmt.{decimal}
use Rattle.ss_report.proofs.status.stopped_line.Goals as goal

pub returns : goal.returns
returns c =
    let at = c.args.place in
    ap (λ (v : Vec ℕ). v.items) c.into_bytes.ensures.value
    ∙ c.in_ok-text.ensures.ok
    ∙ ap (λ rest. codes "stopped at " ++ rest) (sym (append_assoc (decimal at.line) (codes ":") (decimal at.column)))
