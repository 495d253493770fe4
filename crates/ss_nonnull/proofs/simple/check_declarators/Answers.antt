use Rattle.ss_nonnull_seen.specs.Codes.{path_of, context_of}
use Rattle.ss_nonnull.proofs.Points.{one_known, one_noted, all_known, all_noted}
use Rattle.ss_nonnull.proofs.simple.check_declarators.Goals as goal

pub loop-declared-preserved : goal.loop-declared-preserved
loop-declared-preserved c =
    let s = context_of c.args.context.now in
    let l = c.loop-declared in
    record {
      known = one_known s c.args.declarators.now l.declared-index c.declared-item.result (path_of l.reached) _ _ c.loop-declared-test.true c.declared-item.is c.in_ok-reached.ensures.known l.invariant.known;
      noted =
          one_noted s c.args.declarators.now l.declared-index c.declared-item.result (path_of l.reached) _ l.found.items _ _ c.loop-declared-test.true c.declared-item.is
          c.in_ok-reached.ensures.known c.in_ok-reached.ensures.noted l.invariant.noted;
    }

pub returns : goal.returns
returns c =
    let s = context_of c.args.context.now in
    let l = c.loop-declared in
    record {
      known = all_known s c.args.declarators.now l.declared-index (path_of l.reached) _ c.loop-declared-test.false l.invariant.known;
      noted = all_noted s c.args.declarators.now l.declared-index (path_of l.reached) l.found.items _ c.loop-declared-test.false l.invariant.noted;
    }
