use Rattle.std.proofs.Common.{refl, arith}
use Rattle.std.proofs.lemmas.Bool.{iff_false}
use Rattle.std.proofs.lemmas.Option.{slice_get_read}
use Rattle.ss_search_path.proofs.Reading.{no_place, fact_there, fact_missing}
use Rattle.ss_search_path.proofs.standing.Given.fact.Goals as goal

pub returns-then-place-len-clause-none : goal.returns-then-place-len-clause-none
returns-then-place-len-clause-none c = λ _ fact e. no_place c.args.self.now.bank.now c.args.path.now c.args.place fact (omega (arith, c.if-place-len.true, c.len.ensures, c.args.path.now.known.ok.0)) e

pub returns-then-has_formula-clause-some : goal.returns-then-has_formula-clause-some
returns-then-has_formula-clause-some c =
    let p = c.args.path.now in
    let at = slice_get_read p.known.items _ c.args.place c.index-f.result.now refl (omega (arith, c.if-place-len.false, c.len.ensures, p.known.ok.0)) c.index-f.ensures in
    (c.has_formula.ensures.0 c.if-has_formula.true, fact_there c.args.self.now.bank.now p c.args.place c.index-f.result.now at)

pub returns-clause-none : goal.returns-clause-none
returns-clause-none c = λ _ fact e.
    let p = c.args.path.now in
    let at = slice_get_read p.known.items _ c.args.place c.index-f.result.now refl (omega (arith, c.if-place-len.false, c.len.ensures, p.known.ok.0)) c.index-f.ensures in
    fact_missing c.args.self.now.bank.now p c.args.place c.index-f.result.now at (iff_false c.has_formula.ensures c.if-has_formula.false) fact e
