use Rattle.std.proofs.Common.{subst, eqb}
use Rattle.std.specs.Prelude.{◌↔◌, IsTrue}
use Rattle.ss_equality_rules.specs.Equal.{IsEqual, Equations}
use Rattle.ss_equality.proofs.Keeping.{same_told}
use Rattle.ss_equality.proofs.congruence.Congruence.same.Goals as goal

pub returns : goal.returns
returns c =
    subst (λ (v : Equations). IsTrue (eqb c.name.result c.name-2.result) ↔ IsEqual v.terms v.merges c.args.x.0 c.args.y.0) c.self.view_is
    (same_told c.self.inside.classes.forms c.self.inside.stands.items c.self.inside.classes.log c.self.inside.signatures c.self.invariant c.join_count-joins.ensures.log c.len-signatures.ensures.apart
    c.name.result c.name-2.result c.args.x.0 c.args.y.0 c.name.ensures c.name-2.ensures)
