use Rattle.std.proofs.Common.{◌∷◌, sym, subst, refl, None}
use Rattle.ss_equality_rules.specs.declared.Pending.{Pending}
use Rattle.ss_equality_rules.specs.Whole.{IsKeyOf, Goes}
use Rattle.ss_equality_rules.proofs.Way.{new_signature, signature_found}
use Rattle.ss_equality.proofs.Steps.{then_ok}
use Rattle.ss_equality.proofs.closing.sign.Goals as goal

pub returns-in_ok-push-in-Some-find-clause-goes : goal.returns-in_ok-push-in-Some-find-clause-goes
returns-in_ok-push-in-Some-find-clause-goes c = λ ws.
    let p : Pending = record { left = c.args.term; right = c.in-Some-find.other; why = None } in
    subst (λ qs. Goes c.args.classes.now c.args.classes.now c.args.signatures.now c.args.signatures.now c.args.pending.now.items qs (c.args.term ∷ ws) ws) (sym c.in_ok-push-in-Some-find.ensures.items)
    (signature_found c.args.classes.now c.join_count-joins.ensures.log c.args.signatures.now c.args.pending.now.items c.args.term ws c.in-Some.key (subst (IsKeyOf c.args.classes.now c.args.term) c.in-Some.is c.in_ok-key.ensures)
    c.in-Some-find.other c.in-Some-find.ensures.found p refl refl refl)

pub returns-in-None-clause-goes : goal.returns-in-None-clause-goes
returns-in-None-clause-goes c = then_ok c.add.result c.add.ensures.added (λ is ws.
    subst (λ t. Goes c.args.classes.now c.args.classes.now c.args.signatures.now t c.args.pending.now.items c.args.pending.now.items (c.args.term ∷ ws) ws) (sym is)
    (new_signature c.args.classes.now c.join_count-joins.ensures.log c.args.signatures.now c.args.pending.now.items c.args.term ws c.in-Some.key (subst (IsKeyOf c.args.classes.now c.args.term) c.in-Some.is c.in_ok-key.ensures)))
