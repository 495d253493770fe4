use Rattle.std.proofs.Common.{◌≡◌, List, take}
use Rattle.std.specs.Prelude.{filter}
use Rattle.ss_core.specs.Tree.{ClassTree}
use Rattle.ss_logic_countermodels.specs.Refuting.{is_whole}
use Rattle.ss_terms.specs.Forms.{terms_at, IsBankOf}
use Rattle.ss_search_models.specs.Wholes.{wholes_at, AreClassed}
use Rattle.ss_search_models.proofs.wholes.whole_terms.Given as goal

abbrev pub invariant-loop-t : goal.invariant-loop-t
invariant-loop-t l = record {
  classed : AreClassed l.bank l.candidate l.found.items;
  terms : (cs : List ClassTree) → IsBankOf cs l.bank → wholes_at l.bank l.found.items ≡ filter (is_whole cs) (terms_at l.bank (take l.t-index l.t-items));
}
