use Rattle.std.proofs.Common.{◌≡◌, take}
use Rattle.ss_search_whole_sums.specs.WholeSums.{basic_ones, basic_places}
use Rattle.ss_search_whole_sums.proofs.whole_sums.basics.Given as goal

abbrev pub invariant-loop-i : goal.invariant-loop-i
invariant-loop-i l = record {
  formulas : l.basics.formulas.items ≡ basic_ones l.bank (take l.i l.known);
  places : l.basics.places.items ≡ basic_places l.bank (take l.i l.known) (take l.i l.places);
}
