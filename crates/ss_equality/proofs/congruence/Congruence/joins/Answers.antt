use Rattle.std.proofs.Common.{◌≡◌, ℕ, List, length, subst, sym}
use Rattle.ss_equality_rules.specs.declared.Join.{Join}
use Rattle.ss_equality_rules.specs.Equal.{IsEqual, Equations}
use Rattle.ss_equality_rules.specs.Names.{name, IsLog}
use Rattle.ss_equality_rules.specs.Whole.{AreCaused, merges_of}
use Rattle.ss_equality.proofs.Keeping.{one_name, are_caused}
use Rattle.ss_equality.proofs.congruence.Congruence.joins.Goals as goal

pub returns-clause-caused : goal.returns-clause-caused
returns-clause-caused c =
    subst (λ (v : Equations). AreCaused v.terms v.merges c.joins.result.now) c.self.view_is
    (subst (λ (es : List Join). AreCaused c.self.inside.classes.forms (merges_of c.self.inside.stands.items) es) (sym c.joins.ensures)
    (are_caused c.self.inside.classes.forms c.self.inside.stands.items c.self.inside.classes.log c.self.inside.signatures c.self.invariant c.join_count-joins.ensures.log c.len-signatures.ensures.apart))

pub returns-clause-log : goal.returns-clause-log
returns-clause-log c =
    subst (λ (v : Equations). IsLog (length v.terms) c.joins.result.now) c.self.view_is
    (subst (λ (es : List Join). IsLog (length c.self.inside.classes.forms) es) (sym c.joins.ensures) c.join_count-joins.ensures.log)

pub returns-clause-same : goal.returns-clause-same
returns-clause-same c =
    subst (λ (v : Equations). (x y : ℕ) → IsEqual v.terms v.merges x y → name c.joins.result.now x ≡ name c.joins.result.now y) c.self.view_is
    (subst (λ (es : List Join). (x y : ℕ) → IsEqual c.self.inside.classes.forms (merges_of c.self.inside.stands.items) x y → name es x ≡ name es y) (sym c.joins.ensures)
    (one_name c.self.inside.classes.forms c.self.inside.stands.items c.self.inside.classes.log c.self.inside.signatures c.self.invariant c.join_count-joins.ensures.log c.len-signatures.ensures.apart))
