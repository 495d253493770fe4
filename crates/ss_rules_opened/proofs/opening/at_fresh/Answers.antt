use Rattle.std.proofs.Common.{ap, ◌∙◌}
use Rattle.ss_logic.specs.Formulas.{put}
use Rattle.ss_logic.specs.Opened.{fresh_constants}
use Rattle.ss_terms.specs.Forms.{terms_at, formula_at}
use Rattle.ss_terms.proofs.Grown.{HasTerms-grown, terms_at-grown}
use Rattle.ss_rules_opened.proofs.opening.at_fresh.Goals as goal

pub returns-clause-at : goal.returns-clause-at
returns-clause-at c =
    let before = c.fresh_constants.new.bank in
    record {
      has_constants = HasTerms-grown before c.put.new.bank c.put.ensures.grown c.in_ok-constants.constants.items c.in_ok-constants.ensures.has;
      constants = terms_at-grown before c.put.new.bank c.put.ensures.grown c.in_ok-constants.constants.items c.in_ok-constants.ensures.has ∙ c.in_ok-constants.ensures.are;
      has_body = c.in_ok-body.ensures.at.0;
      body =
          c.in_ok-body.ensures.at.1
          ∙ ap (λ ts. put ts (formula_at before c.args.body)) (ap (terms_at before) c.deref.ensures.value ∙ c.in_ok-constants.ensures.are)
          ∙ ap (put (fresh_constants c.args.sorts.now (terms_at c.args.bank.now c.args.used.now))) (c.fresh_constants.ensures.grown.same_formulas c.args.body c.requires.body);
    }
