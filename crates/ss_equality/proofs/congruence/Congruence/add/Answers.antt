use Rattle.std.proofs.Common.{◌∙◌, ◌<◌, [], ◌++◌, ◌∷◌, Some, length, ap, sym, subst, refl}
use Rattle.ss_equality_rules.specs.declared.Stand.{Stand}
use Rattle.ss_equality_rules.specs.declared.Pending.{Pending}
use Rattle.ss_equality_rules.specs.Equal.{Equations}
use Rattle.ss_equality_rules.specs.Whole.{IsKept}
use Rattle.ss_equality.proofs.Keeping.{added, failed, taken_back, settled_whole}
use Rattle.ss_equality.proofs.congruence.Congruence.add.Goals as goal

pub invariant_of-self-in-Ok : goal.invariant_of-self-in-Ok
invariant_of-self-in-Ok c =
    let s : Stand = record { merge = c.args.merge; joins = c.join_count-joins.result; signatures = c.len-signatures.result } in
    let p : Pending = record { left = c.args.merge.left.0; right = c.args.merge.right.0; why = Some c.len-number.result } in
    let in_left : c.args.merge.left.0 < length c.self.inside.classes.forms = subst (λ (v : Equations). c.args.merge.left.0 < length v.terms) (sym c.self.view_is) c.requires.left in
    let in_right : c.args.merge.right.0 < length c.self.inside.classes.forms = subst (λ (v : Equations). c.args.merge.right.0 < length v.terms) (sym c.self.view_is) c.requires.right in
    added c.self.inside.classes.forms c.settle.new.classes.forms c.self.inside.stands.items c.push_reserved.new.self.items c.self.inside.classes.log c.settle.new.classes.log c.self.inside.signatures c.settle.new.signatures s c.self.invariant
    c.settle.ensures.forms (c.push_reserved.ensures.items ∙ ap (λ l. l ++ s ∷ []) c.in_ok-reserve.ensures.items) in_left c.join_count-joins.ensures.count c.len-signatures.ensures.len c.settle.ensures.log c.settle.ensures.begins
    (settled_whole c.self.inside.classes c.settle.new.classes c.self.inside.stands.items c.self.inside.signatures c.settle.new.signatures c.push.new.self.items c.args.merge p c.self.invariant c.settle.ensures.forms
    (c.in_ok-push.ensures.items ∙ ap (λ l. l ++ p ∷ []) c.new-pending.ensures.items) refl refl (ap Some (c.len-number.ensures ∙ c.self.inside.stands.ok.0)) in_left in_right c.in-Ok.ensures.goes)

pub invariant_of-self-in-Err : goal.invariant_of-self-in-Err
invariant_of-self-in-Err c =
    subst (λ ss. IsKept c.undo.new.self.forms ss c.undo.new.self.log c.truncate.new.self) (sym c.in_ok-reserve.ensures.items)
    (failed c.self.inside.classes.forms c.undo.new.self.forms c.self.inside.stands.items c.self.inside.classes.log c.undo.new.self.log c.self.inside.signatures c.truncate.new.self c.self.invariant
    (c.undo.ensures.forms ∙ c.settle.ensures.forms)
    (c.undo.ensures.log ∙ taken_back c.self.inside.classes.log c.settle.new.classes.log c.join_count-joins.result c.settle.ensures.log c.join_count-joins.ensures.count)
    (c.truncate.ensures ∙ taken_back c.self.inside.signatures c.settle.new.signatures c.len-signatures.result c.settle.ensures.begins c.len-signatures.ensures.len))
