use Rattle.std.proofs.Common.{take}
use Rattle.ss_typed.specs.Parts.{linked}
use Rattle.ss_expand_lifting.proofs.Links.{link_adds_none, link_starts}
use Rattle.ss_expand_lifting.proofs.fronts.links_without_call.Goals as goal

pub loop-index-preserved : goal.loop-index-preserved
loop-index-preserved c = λ p e.
    link_adds_none p e c.args.links.now c.loop-index.index c.index-links-index.result c.link_has_call.result c.loop-index-test.true c.index-links-index.is
    (c.link_has_call.ensures p (linked p e (take c.loop-index.index c.args.links.now))) c.if-link_has_call.false (c.loop-index.invariant p e)

pub returns-then-link_has_call-clause-next : goal.returns-then-link_has_call-clause-next
returns-then-link_has_call-clause-next c = λ p e.
    link_starts p e c.args.links.now c.loop-index.index c.index-links-index.result c.link_has_call.result c.loop-index-test.true c.index-links-index.is
    (c.link_has_call.ensures p e) c.if-link_has_call.true
