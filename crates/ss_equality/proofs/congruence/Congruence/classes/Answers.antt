use Rattle.std.proofs.Common.{◌≡◌, ℕ, ◌<◌, length, Some, subst}
use Rattle.std.specs.Prelude.{slice_get, IfOk}
use Rattle.std.proofs.lemmas.Result.{IfOk-weaker}
use Rattle.ss_equality_rules.specs.Equal.{Equations, AreClassesOf}
use Rattle.ss_equality_rules.specs.Names.{name}
use Rattle.ss_equality.proofs.Keeping.{classes_told}
use Rattle.ss_equality.proofs.congruence.Congruence.classes.Goals as goal

pub returns-clause-long : goal.returns-clause-long
returns-clause-long c = subst (λ (v : Equations). IfOk c.all_names.result (λ r. length r.items ≡ length v.terms)) c.self.view_is c.all_names.ensures.long

pub returns-clause-same : goal.returns-clause-same
returns-clause-same c =
    let inside = c.self.inside in
    subst (λ (v : Equations). IfOk c.all_names.result (λ r. AreClassesOf v.terms v.merges r.items)) c.self.view_is
    (IfOk-weaker c.all_names.result (λ r. (k : ℕ) → k < length inside.classes.forms → slice_get r.items k ≡ Some (name inside.classes.log k)) (λ r. AreClassesOf inside.classes.forms _ r.items)
    (λ r h. classes_told inside.classes.forms inside.stands.items inside.classes.log inside.signatures c.self.invariant c.join_count-joins.ensures.log c.len-signatures.ensures.apart r.items h)
    c.all_names.ensures.names)
