use Rattle.std.proofs.Common.{◌∙◌, ap, sym, length}
use Rattle.ss_equality_rules.specs.Equal.{Equations}
use Rattle.ss_equality_rules.specs.Whole.{merges_of}
use Rattle.ss_equality.proofs.Keeping.{not_begun, is_begun}
use Rattle.ss_equality.proofs.congruence.Congruence.ready.Goals as goal

pub begin-requires : goal.begin-requires
begin-requires c = not_begun c.args.bank.now c.args.self.now c.requires
    (λ e. ap (λ (v : Equations). v.merges) (sym c.self.view_is) ∙ ap merges_of (c.self.invariant.empty (ap (λ (v : Equations). v.terms) c.self.view_is ∙ e)))
    (ap (λ (v : Equations). length v.terms) (sym c.self.view_is) ∙ sym c.term_count.ensures ∙ c.if-term_count-eq0.true)

pub returns-else-term_count-eq0-clause-terms : goal.returns-else-term_count-eq0-clause-terms
returns-else-term_count-eq0-clause-terms c = is_begun c.args.bank.now c.args.self.now c.requires (λ z. c.if-term_count-eq0.false (c.term_count.ensures ∙ ap (λ (v : Equations). length v.terms) c.self.view_is ∙ z))
