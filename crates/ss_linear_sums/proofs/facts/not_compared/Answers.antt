use Rattle.std.proofs.Common.{sym, ◌∙◌}
use Rattle.std.proofs.lemmas.List.{length-map}
use Rattle.ss_terms.specs.Forms.{term_at, terms_at}
use Rattle.ss_linear_sums.proofs.Summing.{not_two}
use Rattle.ss_linear_sums.proofs.facts.not_compared.Goals as goal

pub returns-clause-fact : goal.returns-clause-fact
returns-clause-fact c = λ cs. not_two cs c.args.holds c.args.predicate (terms_at c.args.bank.now c.args.ts.now) (λ e. c.requires (sym (length-map c.args.ts.now (term_at c.args.bank.now)) ∙ e))
