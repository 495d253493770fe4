use Rattle.ss_search_clashes.specs.Numbered.{class_of}
use Rattle.ss_search_clashes.proofs.Numbers.{is_classing}
use Rattle.ss_search_clashes.proofs.Fitting.{fits}
use Rattle.ss_search_clashes.proofs.laws.what_has_no_clash_fits.Goals as goal

pub returns : goal.returns
returns c = λ ts ms classes known are of merged none.
    let b = c.args.bank.now in
    fits b ts are ms classes of (class_of b classes) (is_classing b classes c.numbers_are_apart.ensures) known merged none
