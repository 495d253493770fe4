use Rattle.ss_terms.proofs.Grown.{HasFormula-grown, HasTerms-grown}
use Rattle.ss_core.specs.View as view
use Rattle.ss_rules_occurring.proofs.Growing.{HasFound-grown}
use Rattle.ss_rules_opened.proofs.Adding.{ok_added_in}
use Rattle.ss_rules_opened.proofs.Noted.{instance_noted}
use Rattle.ss_rules_opened.proofs.instances.add_instance.Goals as goal

pub add_from-requires-clause-list : goal.add_from-requires-clause-list
add_from-requires-clause-list c = HasFound-grown c.args.bank.now c.instance.new.bank c.args.listed.now.list c.instance.ensures.grown c.requires.list

pub add_from-requires-clause-source : goal.add_from-requires-clause-source
add_from-requires-clause-source c = HasFormula-grown c.args.bank.now c.instance.new.bank c.instance.ensures.grown c.args.formula.now.whole c.requires.whole

pub add_from-requires-clause-terms : goal.add_from-requires-clause-terms
add_from-requires-clause-terms c = HasTerms-grown c.args.bank.now c.instance.new.bank c.instance.ensures.grown c.args.ts.now c.requires.terms

pub returns-clause-added : goal.returns-clause-added
returns-clause-added c = ok_added_in c.add_from.result c.args.bank.now c.instance.new.bank c.args.listed.now.list c.add_from.new.listed.list c.in_ok-f.f _ c.instance.ensures.grown c.requires.list c.in_ok-f.ensures.at.1 c.add_from.ensures.added

pub returns-clause-noted : goal.returns-clause-noted
returns-clause-noted c =
    instance_noted c.add_from.result (view.classes c.args.classes.now) c.args.bank.now c.instance.new.bank c.instance.ensures.grown c.args.listed.now.list c.requires.list c.args.formula.now.whole c.requires.whole c.args.ts.now c.requires.terms c.in_ok-f.f _ c.in_ok-f.ensures.at.1
    c.args.listed.now.origins.items _ c.add_from.new.listed.origins.items c.add_from.ensures.noted
