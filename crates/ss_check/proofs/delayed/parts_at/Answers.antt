use Rattle.std.proofs.Common.{◌*◌, length, sym, subst}
use Rattle.ss_core.specs.View as view
use Rattle.ss_check.specs.Delayed.{IsDelayed}
use Rattle.ss_check.proofs.Meant.{both_some, both_there}
use Rattle.ss_check.proofs.delayed.parts_at.Goals as goal

pub pair_at-requires-clause-first : goal.pair_at-requires-clause-first
pair_at-requires-clause-first c = (both_there (length c.args.bank.now.formulas * 2) c.args.fs.now c.in-Some.p c.in-Some.q c.requires.formulas (sym c.in-Some.ensures)).0

pub pair_at-requires-clause-second : goal.pair_at-requires-clause-second
pair_at-requires-clause-second c = (both_there (length c.args.bank.now.formulas * 2) c.args.fs.now c.in-Some.p c.in-Some.q c.requires.formulas (sym c.in-Some.ensures)).1

pub returns : goal.returns
returns c =
    subst (λ o. IsDelayed c.args.bank.now c.pair_at.result o) (sym (both_some (view.classes c.args.classes.now) c.args.bank.now c.args.fs.now c.in-Some.p c.in-Some.q (sym c.in-Some.ensures))) c.pair_at.ensures
