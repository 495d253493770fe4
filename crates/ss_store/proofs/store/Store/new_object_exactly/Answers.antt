use Rattle.std.proofs.Common.{◌≡◌, ◌+◌, ◌∙◌, length, ap, sym, subst, vec_len}
use Rattle.std.specs.Prelude.{MatchOption}
use Rattle.ss_core.specs.View.{classes}
use Rattle.ss_store_rules.specs.Changes.{new_fields}
use Rattle.ss_store.proofs.NewSlots.{new_few, on_err_any}
use Rattle.ss_store.proofs.Rooms.{not_spare, rest_is_all}
use Rattle.ss_store.proofs.store.Store.new_object_exactly.Goals as goal

pub returns-in_err-push_fields-clause-kept : goal.returns-in_err-push_fields-clause-kept
returns-in_err-push_fields-clause-kept c =
    let few = new_few (classes c.args.k.now) c.requires.limits c.args.c.0 in
    let none = not_spare c.self.inside.spare.items c.pop.new.self.items c.pop.result c.new.result c.unwrap_or-fields.result (length (new_fields (classes c.args.k.now) c.args.c.0)) c.self.invariant.room.for_fields c.pop.ensures.items c.unwrap_or-fields.ensures few c.in_err-push_fields.ensures.full in
    let e = rest_is_all c.self.inside.spare.items c.pop.new.self.items c.pop.result c.pop.ensures.items none in
    on_err_any c.from_residual.result (ap (λ xs. record { objects = c.self.inside.objects.items; spare = length xs }) e ∙ c.self.view_is)

pub returns-in_err-push_fields-clause-room : goal.returns-in_err-push_fields-clause-room
returns-in_err-push_fields-clause-room c =
    let few = new_few (classes c.args.k.now) c.requires.limits c.args.c.0 in
    let none = not_spare c.self.inside.spare.items c.pop.new.self.items c.pop.result c.new.result c.unwrap_or-fields.result (length (new_fields (classes c.args.k.now) c.args.c.0)) c.self.invariant.room.for_fields c.pop.ensures.items c.unwrap_or-fields.ensures few c.in_err-push_fields.ensures.full in
    let old = c.self.inside.spare in
    let empty = subst (λ o. MatchOption o ((vec_len old ≡ 0) × (vec_len c.pop.new.self ≡ 0)) (λ _. vec_len c.pop.new.self + 1 ≡ vec_len old)) none c.pop.ensures.cases in
    on_err_any c.from_residual.result (sym (ap (λ x. x.spare) c.self.view_is) ∙ sym old.ok.0 ∙ empty.0)
