use Rattle.ss_owners.specs.Bearers.{names_of}
use Rattle.ss_owners.proofs.Excluding.{bad_more}
use Rattle.ss_owners.proofs.attributes.find_bad.Goals as goal

pub loop-place-preserved : goal.loop-place-preserved
loop-place-preserved c =
    bad_more (names_of c.args.on) c.args.attributes.now c.loop-place.place c.index-attributes-place.result c.is_bad-is_fault.result _ c.add_if.new.found.items _
    c.loop-place.invariant c.loop-place-test.true c.index-attributes-place.is c.is_bad-is_fault.ensures c.in_ok-add_if.ensures
