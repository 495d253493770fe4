use Rattle.std.proofs.Common.{subst, sym}
use Rattle.std.specs.Prelude.{IfOk}
use Rattle.ss_equality_rules.specs.Equal.{IsEqual, Equations, with_reasons}
use Rattle.ss_equality_rules.specs.Whole.{AreCaused, merges_of}
use Rattle.ss_equality.proofs.Keeping.{one_name, are_caused}
use Rattle.ss_equality.proofs.congruence.Congruence.explain.Goals as goal

pub reasons-requires-clause-same : goal.reasons-requires-clause-same
reasons-requires-clause-same c = one_name c.self.inside.classes.forms c.self.inside.stands.items c.self.inside.classes.log c.self.inside.signatures c.self.invariant c.join_count-joins.ensures.log c.len-signatures.ensures.apart
    c.args.x.0 c.args.y.0 (subst (λ (v : Equations). IsEqual v.terms v.merges c.args.x.0 c.args.y.0) (sym c.self.view_is) c.requires)

pub reasons-requires-clause-caused : goal.reasons-requires-clause-caused
reasons-requires-clause-caused c = subst (λ ss. AreCaused c.self.inside.classes.forms (merges_of ss) c.self.inside.classes.log) (sym c.deref.ensures.value)
    (are_caused c.self.inside.classes.forms c.self.inside.stands.items c.self.inside.classes.log c.self.inside.signatures c.self.invariant c.join_count-joins.ensures.log c.len-signatures.ensures.apart)

pub returns : goal.returns
returns c =
    subst (λ (v : Equations). IfOk c.reasons.result (λ r. IsEqual v.terms (with_reasons r.items v.merges) c.args.x.0 c.args.y.0)) c.self.view_is
    (subst (λ ss. IfOk c.reasons.result (λ r. IsEqual c.self.inside.classes.forms (with_reasons r.items (merges_of ss)) c.args.x.0 c.args.y.0)) c.deref.ensures.value c.reasons.ensures)
