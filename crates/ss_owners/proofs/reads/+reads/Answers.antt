use Rattle.std.proofs.lemmas.Result.{on_ok_weaker}
use Rattle.ss_owners.proofs.Reading.{chain_reached, chain_noted, step_leads, steps_led, quantified_noted}
use Rattle.ss_owners.proofs.reads.+reads.Goals as goal

pub find_in_steps-loop-step-preserved : goal.find_in_steps-loop-step-preserved
find_in_steps-loop-step-preserved t c =
    step_leads c.args.marks.now c.args.start c.args.found.now.items _ _ c.args.first _ _ c.args.place c.args.steps.now c.loop-step.step-index c.step-item.result
    c.loop-step-test.true c.step-item.is c.in_ok-head.ensures c.loop-step.invariant

pub find_in_steps-returns : goal.find_in_steps-returns
find_in_steps-returns t c =
    steps_led c.args.marks.now c.args.start c.args.found.now.items _ c.args.first _ c.args.place c.args.steps.now c.loop-step.step-index c.loop-step-test.false c.loop-step.invariant

pub find_reads-returns-in_ok-find_in_links-in-Chain-clause-reached : goal.find_reads-returns-in_ok-find_in_links-in-Chain-clause-reached
find_reads-returns-in_ok-find_in_links-in-Chain-clause-reached t c =
    let a = c.in-Chain in
    chain_reached c.args.marks.now a.field-0 a.first a.links c.args.e.now c.deref-in-Chain-3.result.now c.deref-in-Chain.result.now c.in_ok-head-in-Chain.head c.after_links.result
    a.is c.deref-in-Chain.ensures c.deref-in-Chain-3.ensures.value c.in_ok-head-in-Chain.ensures.reached c.after_links.ensures

pub find_reads-returns-in_ok-find_in_links-in-Chain-clause-noted : goal.find_reads-returns-in_ok-find_in_links-in-Chain-clause-noted
find_reads-returns-in_ok-find_in_links-in-Chain-clause-noted t c =
    let a = c.in-Chain in
    chain_noted c.args.marks.now a.field-0 a.first a.links c.args.e.now c.deref-in-Chain-2.result.now c.deref-in-Chain.result.now
    c.args.found.now.items c.find_reads-in-Chain.new.found.items c.find_in_links.new.found.items
    a.is c.deref-in-Chain.ensures c.deref-in-Chain-2.ensures.value c.in_ok-head-in-Chain.ensures.noted c.in_ok-find_in_links-in-Chain.ensures

pub find_reads-returns-in_ok-find_reads-in-Quantified-2-clause-noted : goal.find_reads-returns-in_ok-find_reads-in-Quantified-2-clause-noted
find_reads-returns-in_ok-find_reads-in-Quantified-2-clause-noted t c =
    let a = c.in-Quantified in
    on_ok_weaker _ (quantified_noted c.args.marks.now a.field-0 a.field-1 a.field-2 a.low a.high a.member c.args.e.now
    c.deref-in-Quantified.result.now c.deref-in-Quantified-2.result.now c.deref-in-Quantified-3.result.now
    c.args.found.now.items c.find_reads-in-Quantified.new.found.items c.find_reads-in-Quantified-2.new.found.items c.find_in_operand.new.found.items
    a.is c.deref-in-Quantified.ensures c.deref-in-Quantified-2.ensures c.deref-in-Quantified-3.ensures
    c.in_ok-find_reads-in-Quantified.ensures.noted c.in_ok-find_reads-in-Quantified-2.ensures.noted) c.find_in_operand.ensures.noted
