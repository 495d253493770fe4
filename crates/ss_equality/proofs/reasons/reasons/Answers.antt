use Rattle.std.proofs.Common.{◌∙◌, sym, subst}
use Rattle.std.proofs.lemmas.List.{nil_from_length}
use Rattle.ss_equality_rules.specs.Whole.{merges_of}
use Rattle.ss_equality_rules.specs.Reasons.{Rests}
use Rattle.ss_equality_rules.proofs.Reasons.{all_told}
use Rattle.ss_equality.proofs.Telling.{last_first}
use Rattle.ss_equality.proofs.reasons.reasons.Goals as goal

pub returns-in_default : goal.returns-in_default
returns-in_default c =
    all_told c.args.classes.now.forms (merges_of c.args.merges.now) c.args.classes.now.log c.args.x c.args.y c.loop.told.items c.loop.reasons.items
    (subst (λ ps. Rests c.args.classes.now.forms (merges_of c.args.merges.now) c.args.classes.now.log c.args.x c.args.y ps c.loop.told.items c.loop.reasons.items)
    (nil_from_length c.loop.pending.items (sym c.loop.pending.ok.0 ∙ c.in_default.ensures.cases.0)) c.loop.invariant.1)
    c.requires.same

pub loop-preserved : goal.loop-preserved
loop-preserved c =
    let first = last_first c.args.classes.now.forms (merges_of c.args.merges.now) c.args.classes.now.log c.loop.told.items c.loop.reasons.items c.loop.pending.items c.pop.new.self.items c.in-Some.pair c.in-Some.ensures.items in (
      c.in_ok-tell.ensures.long ∙ c.loop.invariant.0,
      (c.in_ok-tell.ensures.tells c.requires.caused).tells c.args.x c.args.y (first.tells c.args.x c.args.y c.loop.invariant.1),
    )
