use Rattle.std.proofs.Common.{◌≡◌, ◌<◌, length, refl, sym, arith, true, false, ◌∙◌}
use Rattle.ss_terms.specs.Forms.{terms_at}
use Rattle.ss_rules_opened.proofs.Fresh.{count-map, least_next, least_here, least_last}
use Rattle.ss_rules_opened.proofs.constants.least.Goals as goal

pub loop-k-preserved : goal.loop-k-preserved
loop-k-preserved c =
    let ts = terms_at c.args.bank.now c.args.ts.now in
    record {
      within = omega (arith, c.loop-k-test.true);
      left = least_next (length ts) c.loop-k.k c.args.sort ts true _ (omega (arith, c.loop-k-test.true, count-map c.args.bank.now c.args.ts.now)) c.if-not-is_taken.ensures refl c.loop-k.invariant.left;
    }

pub returns-then-not-is_taken : goal.returns-then-not-is_taken
returns-then-not-is_taken c =
    let ts = terms_at c.args.bank.now c.args.ts.now in
    least_here (length ts) c.loop-k.k c.args.sort ts false _ (omega (arith, c.loop-k-test.true, count-map c.args.bank.now c.args.ts.now)) c.if-not-is_taken.ensures refl c.loop-k.invariant.left

pub returns : goal.returns
returns c =
    let ts = terms_at c.args.bank.now c.args.ts.now in
    let same : length c.args.ts.now ≡ c.loop-k.k = omega (arith, c.loop-k-test.false, c.loop-k.invariant.within) in
    same ∙ least_last (length ts) c.loop-k.k c.args.sort ts _ (omega (arith, same, count-map c.args.bank.now c.args.ts.now)) c.loop-k.invariant.left
