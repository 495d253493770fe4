use Rattle.std.proofs.Common.{ℕ, ap, ◌∙◌}
use Rattle.std.specs.Global.{Vec}
use Rattle.ss_report.proofs.verdict.listed_text.Goals as goal

pub returns : goal.returns
returns c =
    let o = c.args.obligations.now in
    ap (λ (v : Vec ℕ). v.items) c.into_bytes.ensures.value ∙ (rw c.deref.ensures.value at (c.in_ok-text.ensures o.bank o.trail.items))
