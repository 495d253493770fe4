use Rattle.ss_terms.specs.declared.forms.FormulaId.{FormulaId}
use Rattle.ss_terms.proofs.Tested.{AreBelow-get}
use Rattle.ss_rules_asked.proofs.Gathering.{counts_next}
use Rattle.ss_rules_asked.proofs.gathered.all_counts.Goals as goal

pub counted-count-requires : goal.counted-count-requires
counted-count-requires c = AreBelow-get _ c.args.atoms.now c.loop-f.f-index (record { 0 = 0 }) c.requires c.loop-f-test.true

pub loop-f-preserved : goal.loop-f-preserved
loop-f-preserved c =
    counts_next c.args.atoms.now c.loop-f.f-index (record { 0 = 0 }) c.args.bank.now c.loop-f.counts.items c.add_count.new.counts.items c.counted-count.result c.loop-f-test.true c.loop-f.invariant c.counted-count.ensures c.in_ok-add_count.ensures
