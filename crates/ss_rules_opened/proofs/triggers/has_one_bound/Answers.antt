use Rattle.std.proofs.Common.{◌∙◌, sym}
use Rattle.ss_logic.specs.Matching.{is_bound}
use Rattle.ss_terms.specs.Forms.{term_at}
use Rattle.ss_terms.proofs.Tested.{AreTermsBelow-get}
use Rattle.ss_rules_opened.proofs.Kept.{none_next, one_is}
use Rattle.ss_rules_opened.proofs.triggers.has_one_bound.Goals as goal

pub is_bound-requires : goal.is_bound-requires
is_bound-requires c = AreTermsBelow-get _ c.args.ts.now c.loop-t.t-index (record { 0 = 0 }) c.requires c.loop-t-test.true

pub loop-t-preserved : goal.loop-t-preserved
loop-t-preserved c = none_next (term_at c.args.bank.now) (is_bound c.args.name) c.args.ts.now c.loop-t.t-index (record { 0 = 0 }) c.loop-t-test.true c.loop-t.invariant (sym c.if-is_bound.ensures)

pub returns-then-is_bound : goal.returns-then-is_bound
returns-then-is_bound c = sym (one_is (term_at c.args.bank.now) (is_bound c.args.name) c.args.ts.now c.loop-t.t-index (record { 0 = 0 }) c.loop-t-test.true (sym c.if-is_bound.ensures))
