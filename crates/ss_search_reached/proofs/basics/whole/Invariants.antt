use Rattle.std.proofs.Common.{◌≡◌, List, take}
use Rattle.std.specs.Prelude.{filter}
use Rattle.ss_core.specs.Tree.{ClassTree}
use Rattle.ss_logic_countermodels.specs.Refuting.{is_whole}
use Rattle.ss_terms.specs.Forms.{terms_at, HasTerms, IsBankOf}
use Rattle.ss_search_reached.proofs.basics.whole.Given as goal

abbrev pub invariant-loop-t : goal.invariant-loop-t
invariant-loop-t l = record {
  has : HasTerms l.bank l.whole.items;
  are : (cs : List ClassTree) → IsBankOf cs l.bank → terms_at l.bank l.whole.items ≡ filter (is_whole cs) (terms_at l.bank (take l.t-index l.ts));
}
