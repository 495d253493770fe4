use Rattle.std.proofs.Common.{sym}
use Rattle.ss_logic.specs.Opened.{is_numbered}
use Rattle.ss_terms.specs.Forms.{term_at}
use Rattle.ss_terms.proofs.Tested.{AreTermsBelow-get}
use Rattle.ss_rules_opened.proofs.Kept.{none_next, one_is}
use Rattle.ss_rules_opened.proofs.constants.is_taken.Goals as goal

pub is_numbered-requires : goal.is_numbered-requires
is_numbered-requires c = AreTermsBelow-get _ c.args.ts.now c.loop-t.t-index (record { 0 = 0 }) c.requires c.loop-t-test.true

pub loop-t-preserved : goal.loop-t-preserved
loop-t-preserved c = none_next (term_at c.args.bank.now) (is_numbered c.args.sort c.args.k) c.args.ts.now c.loop-t.t-index (record { 0 = 0 }) c.loop-t-test.true c.loop-t.invariant (sym c.if-is_numbered.ensures)

pub returns-then-is_numbered : goal.returns-then-is_numbered
returns-then-is_numbered c = sym (one_is (term_at c.args.bank.now) (is_numbered c.args.sort c.args.k) c.args.ts.now c.loop-t.t-index (record { 0 = 0 }) c.loop-t-test.true (sym c.if-is_numbered.ensures))
