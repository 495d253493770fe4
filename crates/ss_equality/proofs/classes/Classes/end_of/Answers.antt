use Rattle.std.proofs.Common.{◌≡◌, ◌⊎◌, subst, Some, None}
use Rattle.std.specs.Prelude.{slice_get}
use Rattle.std.proofs.lemmas.Option.{IfSome_then}
use Rattle.ss_equality_rules.specs.Names.{IsEnd, HasNoEnd}
use Rattle.ss_equality.proofs.Steps.{end_told, no_end_told}
use Rattle.ss_equality.proofs.classes.Classes.end_of.Goals as goal

pub returns-clause-gone : goal.returns-clause-gone
returns-clause-gone c = IfSome_then c.end_at.result c.end_at.ensures.some (λ j p.
    subst (λ v. IsEnd v.log c.args.class j) c.self.view_is
    (end_told _ _ c.self.inside.ends.items c.self.inside.log.items c.self.invariant c.args.class j
    (subst (λ xs. slice_get xs c.args.class ≡ Some (Some j)) c.deref.ensures.value p)))

pub returns-clause-going : goal.returns-clause-going
returns-clause-going c = λ none.
    subst (λ v. HasNoEnd v.log c.args.class) c.self.view_is
    (no_end_told _ _ c.self.inside.ends.items c.self.inside.log.items c.self.invariant c.args.class
    (subst (λ xs. (slice_get xs c.args.class ≡ Some None) ⊎ (slice_get xs c.args.class ≡ None)) c.deref.ensures.value (c.end_at.ensures.none none)))
