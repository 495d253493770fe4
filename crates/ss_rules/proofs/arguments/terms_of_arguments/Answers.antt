use Rattle.ss_terms.proofs.Grown.{IsGrown-then}
use Rattle.ss_rules_asked.proofs.Grown.{HasArgument-grown, HasArguments-get}
use Rattle.ss_rules.proofs.Making.{arguments_next, terms_pushed}
use Rattle.ss_rules.proofs.arguments.terms_of_arguments.Goals as goal

pub term_of_argument-requires : goal.term_of_argument-requires
term_of_argument-requires c = HasArgument-grown c.args.bank.now c.loop-x.bank c.loop-x.invariant.grown _ (HasArguments-get c.args.bank.now c.args.xs.now c.loop-x.x-index _ c.requires c.loop-x-test.true)

pub loop-x-preserved : goal.loop-x-preserved
loop-x-preserved c = record {
  grown = IsGrown-then c.args.bank.now c.loop-x.bank c.term_of_argument.new.bank c.loop-x.invariant.grown c.term_of_argument.ensures.grown;
  has = terms_pushed c.loop-x.bank c.term_of_argument.new.bank c.loop-x.ts.items c.push.new.self.items c.in_ok-t.t c.term_of_argument.ensures.grown c.in_ok-push.ensures.items c.loop-x.invariant.has c.in_ok-t.ensures.at.0;
  at = arguments_next c.args.bank.now c.loop-x.bank c.term_of_argument.new.bank c.args.xs.now c.loop-x.ts.items c.push.new.self.items c.loop-x.x-index _ c.in_ok-t.t c.loop-x.invariant.grown c.term_of_argument.ensures.grown
      c.requires c.loop-x-test.true c.in_ok-push.ensures.items c.loop-x.invariant.has c.loop-x.invariant.at c.in_ok-t.ensures.at.1;
}
