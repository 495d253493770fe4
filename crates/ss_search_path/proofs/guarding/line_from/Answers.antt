use Rattle.std.proofs.Common.{◌∙◌, sym, ap, subst}
use Rattle.ss_terms.specs.Forms.{terms_at, HasTerms}
use Rattle.ss_rules_opened.specs.Views.{origin_with}
use Rattle.ss_search_path.specs.Standing as spec
use Rattle.ss_search_path.proofs.guarding.line_from.Goals as goal

pub line_with-requires : goal.line_with-requires
line_with-requires c = subst (HasTerms c.args.bank.now) (sym (c.in_ok-terms.ensures.items ∙ c.deref.ensures.value)) c.requires

pub returns : goal.returns
returns c = c.line_with.ensures ∙ ap (λ ts. spec.line_from (origin_with c.args.bank.now c.args.origin.now.source (terms_at c.args.bank.now ts)) c.args.place) (c.in_ok-terms.ensures.items ∙ c.deref.ensures.value)
