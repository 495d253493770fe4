use Rattle.std.proofs.Common.{sym, ◌∙◌}
use Rattle.std.proofs.lemmas.List.{length-map}
use Rattle.ss_terms.specs.Forms.{term_at, terms_at}
use Rattle.ss_linear_sums.proofs.Summing.{alone_read}
use Rattle.ss_linear_sums.proofs.summed.of_others.Goals as goal

pub returns-in_default : goal.returns-in_default
returns-in_default c =
    rw c.requires.term
    (alone_read c.args.symbol (terms_at c.args.bank.now c.args.ts.now) (λ n e. c.in_default.not-Number n (c.read_operator.ensures ∙ sym e))
    (λ e. c.requires.others (sym (length-map c.args.ts.now (term_at c.args.bank.now)) ∙ e)))
