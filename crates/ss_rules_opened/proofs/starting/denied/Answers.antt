use Rattle.std.proofs.Common.{[], ◌∷◌, ◌++◌, ◌*◌, length, subst, sym, ap, ◌∙◌}
use Rattle.ss_terms.specs.Forms.{HasFormulas}
use Rattle.ss_terms_puts.proofs.Putting.{AreBelow-push}
use Rattle.ss_rules_opened.proofs.starting.denied.Goals as goal

pub returns-clause-has : goal.returns-clause-has
returns-clause-has c =
    subst (HasFormulas c.args.bank.now) (sym (c.in_ok-push.ensures.items ∙ ap (λ xs. xs ++ c.negation-other.result ∷ []) c.in_ok-all.ensures.items))
    (AreBelow-push (length c.args.bank.now.formulas * 2) c.args.premises.now c.negation-other.result c.requires.premises c.negation-other.ensures.in_bank)
