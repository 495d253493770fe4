use Rattle.std.proofs.Common.{reverse}
use Rattle.ss_core.specs.View as view
use Rattle.ss_logic.specs.Ground.{first_step, foralls_step}
use Rattle.ss_terms.specs.Forms.{formulas_at}
use Rattle.ss_terms.proofs.Grown.{HasFormulas-grown}
use Rattle.ss_rules.proofs.Coming.{stops, ok_comes, closed_now, same_foralls}
use Rattle.ss_terms.proofs.Grown.{formulas_at-grown}
use Rattle.ss_rules_occurring.specs.Found.{formulas_of}
use Rattle.ss_rules.proofs.GroundNoted.{ok_after_given, all_occur_later, comes_including}
use Rattle.ss_rules.proofs.rounds.round_with.Goals as goal

pub at_foralls-requires-clause-list : goal.at_foralls-requires-clause-list
at_foralls-requires-clause-list c = c.in_ok-few.ensures.closed.has

pub at_foralls-requires-clause-was_closed : goal.at_foralls-requires-clause-was_closed
at_foralls-requires-clause-was_closed c = closed_now (view.classes c.args.context.now.classes.now) c.args.context.now.limit c.first.new.bank c.first.new.listed.list c.in_ok-few.few _ c.in_ok-few.ensures.closed c.if-not-few.false

pub at_foralls-requires-clause-formulas : goal.at_foralls-requires-clause-formulas
at_foralls-requires-clause-formulas c = HasFormulas-grown c.args.bank.now c.first.new.bank c.first.ensures.grown c.args.fs.now c.requires.formulas

pub returns-then-not-few-clause-done : goal.returns-then-not-few-clause-done
returns-then-not-few-clause-done c = stops c.first.new.bank c.first.new.listed.list c.in_ok-few.few _ (foralls_step (view.classes c.args.context.now.classes.now) c.args.context.now.limit (reverse (formulas_at c.args.bank.now c.args.fs.now))) c.in_ok-few.ensures.closed c.if-not-few.true

pub returns-clause-done : goal.returns-clause-done
returns-clause-done c =
    ok_comes c.at_foralls.result c.at_foralls.new.bank c.at_foralls.new.listed.list _ _
    (same_foralls (view.classes c.args.context.now.classes.now) c.args.context.now.limit c.args.bank.now c.first.new.bank c.args.fs.now c.first.new.listed.list c.in_ok-few.few _ c.first.ensures.grown c.requires.formulas c.in_ok-few.ensures.closed c.if-not-few.false)
    c.at_foralls.ensures.closed

pub returns-then-not-few-clause-noted : goal.returns-then-not-few-clause-noted
returns-then-not-few-clause-noted c = λ all. c.in_ok-few.ensures.noted

pub returns-clause-noted : goal.returns-clause-noted
returns-clause-noted c =
    let a = c.args.bank.now in
    let b = c.first.new.bank in
    ok_after_given c.at_foralls.result (view.classes c.args.context.now.classes.now) a b c.at_foralls.new.bank (formulas_of a c.args.listed.now.list) (formulas_of b c.first.new.listed.list) _ c.args.listed.now.origins.items c.first.new.listed.origins.items c.at_foralls.new.listed.origins.items
    (λ all.
    all_occur_later (formulas_of a c.args.listed.now.list) (formulas_of b c.first.new.listed.list) (formulas_at a c.args.fs.now) (formulas_at b c.args.fs.now)
    (comes_including (view.classes c.args.context.now.classes.now) c.args.context.now.limit b c.first.new.listed.list c.in_ok-few.few (formulas_of a c.args.listed.now.list) (first_step (view.classes c.args.context.now.classes.now) (formulas_of a c.args.listed.now.list)) c.in_ok-few.ensures.closed c.if-not-few.false)
    (formulas_at-grown a b c.first.ensures.grown c.args.fs.now c.requires.formulas) all)
    c.in_ok-few.ensures.noted c.at_foralls.ensures.noted
