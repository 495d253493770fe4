use Rattle.std.proofs.Common.{sym}
use Rattle.ss_logic.specs.Opened.{is_exists}
use Rattle.ss_terms.proofs.Tested.{AreBelow-get}
use Rattle.ss_rules_opened.proofs.Going.{none_next, number_here}
use Rattle.ss_rules_opened.proofs.opening.found_exists.Goals as goal

pub is_exists-requires : goal.is_exists-requires
is_exists-requires c = AreBelow-get _ c.args.fs.now c.loop-f.f-index (record { 0 = 0 }) c.requires c.loop-f-test.true

pub loop-f-preserved : goal.loop-f-preserved
loop-f-preserved c = none_next c.args.bank.now is_exists c.args.fs.now c.loop-f.f-index (record { 0 = 0 }) c.loop-f-test.true c.loop-f.invariant (sym c.if-is_exists.ensures)

pub returns-then-is_exists : goal.returns-then-is_exists
returns-then-is_exists c =
    number_here c.args.bank.now is_exists c.args.fs.now c.loop-f.f-index (record { 0 = 0 }) c.loop-f-test.true (AreBelow-get _ c.args.fs.now c.loop-f.f-index (record { 0 = 0 }) c.requires c.loop-f-test.true) c.loop-f.invariant (sym c.if-is_exists.ensures)
