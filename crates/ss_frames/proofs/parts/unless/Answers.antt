use Rattle.std.proofs.Common.{sym, arith}
use Rattle.ss_terms.specs.Forms.{formula_at}
use Rattle.ss_terms_puts.proofs.Putting.{formula_equal}
use Rattle.ss_frames.proofs.Growing.{unless_none, unless_some}
use Rattle.ss_frames.proofs.parts.unless.Goals as goal

pub returns-in-empty-clause-at : goal.returns-in-empty-clause-at
returns-in-empty-clause-at c =
    let b = c.args.b.now in
    (c.requires.last, sym (unless_none b c.args.parts.now (formula_at b c.args.last) (omega (arith, c.in-empty.len_below))))

pub returns-in-len1-up-clause-at : goal.returns-in-len1-up-clause-at
returns-in-len1-up-clause-at c =
    let b = c.args.b.now in
    formula_equal c.either.result c.either.new.b _ _ (sym (unless_some b c.args.parts.now (formula_at b c.args.last) c.in-len1-up.len_at_least)) c.either.ensures.at
