use Rattle.ss_rules_occurring.proofs.Stacks.{start_has, start_awaited, left_on, taken_off}
use Rattle.ss_rules_occurring.proofs.walking.add_arguments.Goals as goal

pub loop-t-init : goal.loop-t-init
loop-t-init c = record {
  found = c.requires.found;
  stack = start_has c.args.bank.now c.new-stack.result.items c.put_on.new.stack.items c.args.ts.now c.new-stack.ensures.items c.in_ok-put_on.ensures c.requires.terms;
  awaited = start_awaited c.args.bank.now c.args.found.now c.new-stack.result.items c.put_on.new.stack.items c.args.ts.now c.new-stack.ensures.items c.in_ok-put_on.ensures;
}

pub take_one-requires-clause-stack : goal.take_one-requires-clause-stack
take_one-requires-clause-stack c = left_on c.args.bank.now c.loop-t.stack.items c.pop.new.self.items c.in-Some.t c.in-Some.ensures.items c.loop-t.invariant.stack

pub take_one-requires-clause-term : goal.take_one-requires-clause-term
take_one-requires-clause-term c = taken_off c.args.bank.now c.loop-t.stack.items c.pop.new.self.items c.in-Some.t c.in-Some.ensures.items c.loop-t.invariant.stack
