use Rattle.std.proofs.Common.{◌≡◌, length}
use Rattle.ss_machine.specs.Frames.{left_of}
use Rattle.ss_machine.proofs.frame.Frame.fetch.Given as goal

abbrev pub invariant-loop-self : goal.invariant-loop-self
invariant-loop-self l = record {
  left : left_of l.self ≡ left_of l.fn.self;
  locals : l.self.locals ≡ l.fn.self.locals;
  body : l.self.body ≡ l.fn.self.body;
  into : l.self.into ≡ l.fn.self.into;
}

abbrev pub decreases-loop-self : goal.decreases-loop-self
decreases-loop-self l = length l.self.later.items
