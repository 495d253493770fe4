use Rattle.ss_terms.proofs.Tested.{AreBelow-get}
use Rattle.ss_check.proofs.told.are_formed.Goals as goal

pub is_well_formed-requires : goal.is_well_formed-requires
is_well_formed-requires c = AreBelow-get _ c.args.fs.now c.loop-f.f-index _ c.requires.formulas c.loop-f-test.true
