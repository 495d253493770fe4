use Rattle.std.proofs.Common.{length}
use Rattle.ss_core.specs.View.{classes}
use Rattle.ss_terms.proofs.Grown.{HasFormulas-grown, IsGrown-then}
use Rattle.ss_vcgen_builder.proofs.Within.{within_later}
use Rattle.ss_sound.proofs.Lists.{formed_later, decided_before, derived_before}
use Rattle.ss_sound.proofs.verdict.decide_all.Goals as goal

pub returns-clause-decided : goal.returns-clause-decided
returns-clause-decided c = decided_before (classes c.args.program.now.classes) c.args.options.now c.decide_each.result c.args.bank.now c.new.new.bank c.args.trail.now c.args.list.now (length c.args.list.now) c.new.ensures c.requires.trail c.requires.list c.decide_each.ensures.decided

pub returns-clause-derived : goal.returns-clause-derived
returns-clause-derived c = derived_before (classes c.args.program.now.classes) c.args.options.now c.decide_each.result c.args.bank.now c.new.new.bank c.decide_each.new.bank c.args.trail.now c.args.list.now c.new.ensures c.requires.trail c.requires.list c.decide_each.ensures.derived

pub decide_each-requires-clause-trail : goal.decide_each-requires-clause-trail
decide_each-requires-clause-trail c = HasFormulas-grown c.args.bank.now c.new.new.bank c.new.ensures c.args.trail.now c.requires.trail

pub decide_each-requires-clause-list : goal.decide_each-requires-clause-list
decide_each-requires-clause-list c = within_later c.args.bank.now c.new.new.bank (length c.args.trail.now) c.args.list.now c.new.ensures c.requires.list

pub decide_each-requires-clause-formed : goal.decide_each-requires-clause-formed
decide_each-requires-clause-formed c = formed_later (classes c.args.program.now.classes) c.args.bank.now c.new.new.bank c.args.trail.now c.args.list.now c.new.ensures c.requires.trail c.requires.list c.requires.formed

pub returns-clause-grown : goal.returns-clause-grown
returns-clause-grown c = IsGrown-then c.args.bank.now c.new.new.bank c.decide_each.new.bank c.new.ensures c.decide_each.ensures.grown
