use Rattle.std.proofs.Common.{◌≡◌, ◌≤◌, length, take}
use Rattle.ss_search_reached.specs.Known.{IsReached}
use Rattle.ss_search_reached.proofs.Remembering.{IsBackTo}
use Rattle.ss_search_reached.proofs.reached.Reached.undo.Given as goal

abbrev pub invariant-loop-self : goal.invariant-loop-self
invariant-loop-self l = record {
  reached : IsReached l.bank l.self;
  front : take l.to l.self.known.items ≡ take l.to l.initial.self.known.items;
  back : IsBackTo l.initial.self l.self;
  few : l.to ≤ length l.self.known.items;
}

abbrev pub decreases-loop-self : goal.decreases-loop-self
decreases-loop-self l = length l.self.known.items
