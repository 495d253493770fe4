use Rattle.std.proofs.Common.{subst, arith}
use Rattle.std.specs.Prelude.{IfOk}
use Rattle.ss_terms.specs.declared.forms.FormulaId.{FormulaId}
use Rattle.ss_search_reaching.specs.Refuting.{or_of}
use Rattle.ss_search_reaching.specs.Units.{IsResolved}
use Rattle.ss_search_reaching.proofs.Guarding.{two_there}
use Rattle.ss_search_reaching.proofs.branches.Beside.by_lines.Goals as goal

pub returns-in-len2-clause-branch : goal.returns-in-len2-clause-branch
returns-in-len2-clause-branch c =
    let s = c.args.self.now.looking in
    let ps = c.args.parts.now in
    let d : FormulaId = record { 0 = 0 } in
    subst (λ qs. IfOk c.by_parts.result (IsResolved s (or_of s.bank.now qs))) (two_there ps d (omega (arith, c.in-len2.len_at_least, c.in-len2.len_below))) c.by_parts.ensures.branch

pub returns-in_default-clause-leads : goal.returns-in_default-clause-leads
returns-in_default-clause-leads c = λ cs premises goal shown is. c.not_two.ensures.leads c.args.congruence.now.merges cs premises goal shown is
