use Rattle.std.proofs.Common.{◌≡◌, length, take}
use Rattle.ss_search_reached.specs.Looks.{AreHolding}
use Rattle.ss_search_reached.specs.Following.{AreUnits}
use Rattle.ss_search_reaching.specs.declared.turns.Turn.TheVariants as turn
use Rattle.ss_search_reaching.specs.Units.{formulas_in}
use Rattle.ss_search_reaching.specs.Turns.{UnitsFrom}
use Rattle.ss_search_reaching.proofs.branches.Beside.units.Given as goal

abbrev pub invariant-loop-at : goal.invariant-loop-at
invariant-loop-at l = record {
  congruence : l.congruence ≡ l.initial.congruence;
  outcomes : AreHolding l.self.looking l.outcomes;
  kept : take (length l.initial.path.known.items) l.path.known.items ≡ l.initial.path.known.items;
  units : AreUnits l.self.looking.bank.now l.self.looking.known.now (take l.at l.self.looking.known.now) (formulas_in l.units.items);
  leads : UnitsFrom l.self.refuting l.initial.congruence.merges l.initial.path l.standings l.path (turn.Open l.units);
}
