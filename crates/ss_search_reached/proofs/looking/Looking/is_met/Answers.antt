use Rattle.std.proofs.Common.{get_or, sym}
use Rattle.ss_terms.specs.declared.forms.FormulaId.{FormulaId}
use Rattle.ss_search_reached.specs.Looks.{known_at}
use Rattle.ss_search_reached.proofs.Lists.{contains_get}
use Rattle.ss_search_reached.proofs.Branches.{marked_known, met}
use Rattle.ss_search_reached.proofs.looking.Looking.is_met.Goals as goal

pub returns-then-has : goal.returns-then-has
returns-then-has c = λ e.
    let s = c.args.self.now in
    let b = s.bank.now in
    let fs = c.args.fs.now in
    let d : FormulaId = record { 0 = 0 } in
    let f = get_or fs c.loop-f.f-index d in
    met b (known_at s) fs f (contains_get fs c.loop-f.f-index d c.loop-f-test.true) (marked_known b s.numbers.now s.known.now f c.requires.marked (sym c.if-has.ensures))
