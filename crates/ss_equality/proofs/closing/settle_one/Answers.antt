use Rattle.std.proofs.Common.{[], ◌++◌, ◌∷◌, sym, subst, Some}
use Rattle.ss_equality_rules.specs.Classes.{IsJoined}
use Rattle.ss_equality_rules.specs.Whole.{Goes}
use Rattle.ss_equality_rules.proofs.Way.{begins_itself, goes_on, one_class}
use Rattle.ss_equality.proofs.Steps.{joined_forms, joined_goes, then_ok}
use Rattle.ss_equality.proofs.closing.settle_one.Goals as goal

pub returns-in-Some-clause-forms : goal.returns-in-Some-clause-forms
returns-in-Some-clause-forms c = (joined_forms c.args.classes.now c.join.new.self c.args.pair.left c.args.pair.right c.args.pair.why c.in_ok-class.field-0 c.in_ok-class.ensures.joined).0

pub returns-in-Some-clause-log : goal.returns-in-Some-clause-log
returns-in-Some-clause-log c = (joined_forms c.args.classes.now c.join.new.self c.args.pair.left c.args.pair.right c.args.pair.why c.in_ok-class.field-0 c.in_ok-class.ensures.joined).1

pub returns-in-Some-clause-goes : goal.returns-in-Some-clause-goes
returns-in-Some-clause-goes c =
    let joined : IsJoined c.args.classes.now c.join.new.self c.args.pair.left c.args.pair.right c.args.pair.why (Some c.in-Some.class) = subst (IsJoined c.args.classes.now c.join.new.self c.args.pair.left c.args.pair.right c.args.pair.why) c.in-Some.is c.in_ok-class.ensures.joined in
    then_ok c.sign_all.result c.sign_all.ensures.goes (λ g.
    goes_on c.args.classes.now c.join.new.self c.join.new.self c.args.signatures.now c.args.signatures.now c.sign_all.new.signatures (c.args.pending.now.items ++ c.args.pair ∷ []) c.args.pending.now.items c.sign_all.new.pending.items
    [] c.users.result.now []
    (subst (λ us. Goes c.args.classes.now c.join.new.self c.args.signatures.now c.args.signatures.now (c.args.pending.now.items ++ c.args.pair ∷ []) c.args.pending.now.items [] us) (sym c.users.ensures)
    (joined_goes c.args.classes.now c.join.new.self c.args.signatures.now c.args.pending.now.items c.args.pair c.in-Some.class joined))
    g)

pub returns-in-None-clause-forms : goal.returns-in-None-clause-forms
returns-in-None-clause-forms c = (joined_forms c.args.classes.now c.join.new.self c.args.pair.left c.args.pair.right c.args.pair.why c.in_ok-class.field-0 c.in_ok-class.ensures.joined).0

pub returns-in-None-clause-log : goal.returns-in-None-clause-log
returns-in-None-clause-log c = (joined_forms c.args.classes.now c.join.new.self c.args.pair.left c.args.pair.right c.args.pair.why c.in_ok-class.field-0 c.in_ok-class.ensures.joined).1

pub returns-in-None-clause-begins : goal.returns-in-None-clause-begins
returns-in-None-clause-begins c = begins_itself c.args.signatures.now

pub returns-in-None-clause-goes : goal.returns-in-None-clause-goes
returns-in-None-clause-goes c = one_class c.args.classes.now c.join.new.self c.args.signatures.now c.args.pending.now.items c.args.pair
    (subst (IsJoined c.args.classes.now c.join.new.self c.args.pair.left c.args.pair.right c.args.pair.why) c.in-None.is c.in_ok-class.ensures.joined)
