use Rattle.std.proofs.Common.{◌≡◌, ◌∙◌, ap, sym, refl, length, take, arith, Some, None}
use Rattle.std.specs.Prelude.{slice_get}
use Rattle.std.proofs.lemmas.List.{take_all}
use Rattle.ss_equality_rules.specs.Equal.{Equations}
use Rattle.ss_equality_rules.specs.Whole.{merges_of}
use Rattle.ss_equality.proofs.Keeping.{taken_to, merges_long, merges_taken, same_standing, past_end}
use Rattle.ss_equality.proofs.congruence.Congruence.undo.Goals as goal

pub invariant_of-self : goal.invariant_of-self
invariant_of-self c =
    let there : slice_get c.self.inside.stands.items c.args.to ≡ Some c.in-Some.stand = ap (λ ss. slice_get ss c.args.to) (sym c.deref.ensures.value) ∙ sym c.stand_at.ensures ∙ c.in-Some.is in
    let many : length c.args.self.now.merges ≡ length c.self.inside.stands.items = ap (λ (v : Equations). length v.merges) (sym c.self.view_is) ∙ merges_long c.self.inside.stands.items in
    taken_to c.self.inside.classes.forms c.undo.new.self.forms c.self.inside.stands.items c.truncate-in-Some.new.self.items c.self.inside.classes.log c.undo.new.self.log c.self.inside.signatures c.truncate.new.self c.args.to c.in-Some.stand
    c.self.invariant there (omega (arith, many, c.requires)) c.undo.ensures.forms c.truncate-in-Some.ensures.items c.undo.ensures.log c.truncate.ensures

pub returns-in-Some : goal.returns-in-Some
returns-in-Some c = same_standing c.undo.new.self.forms c.args.self.now.terms (merges_of c.truncate-in-Some.new.self.items) (take c.args.to c.args.self.now.merges)
    (c.undo.ensures.forms ∙ ap (λ (v : Equations). v.terms) c.self.view_is)
    (merges_taken c.self.inside.stands.items c.truncate-in-Some.new.self.items c.args.to c.truncate-in-Some.ensures.items ∙ ap (λ (v : Equations). take c.args.to v.merges) c.self.view_is)

pub returns-in_default : goal.returns-in_default
returns-in_default c =
    let there : slice_get c.self.inside.stands.items c.args.to ≡ None = ap (λ ss. slice_get ss c.args.to) (sym c.deref.ensures.value) ∙ sym c.stand_at.ensures ∙ c.in_default.is in
    let many : length c.args.self.now.merges ≡ length c.self.inside.stands.items = ap (λ (v : Equations). length v.merges) (sym c.self.view_is) ∙ merges_long c.self.inside.stands.items in
    same_standing c.args.self.now.terms c.args.self.now.terms c.args.self.now.merges (take c.args.to c.args.self.now.merges) refl
    (sym (take_all c.args.to c.args.self.now.merges (omega (arith, many, past_end c.self.inside.stands.items c.args.to there))))
