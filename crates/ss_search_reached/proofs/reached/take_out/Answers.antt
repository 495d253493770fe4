use Rattle.std.proofs.Common.{sym, ◌∙◌, false, arith}
use Rattle.std.proofs.lemmas.Bool.{true≢false}
use Rattle.ss_bit_set.proofs.Lists.{listed_put, listed_past}
use Rattle.ss_search_reached.proofs.reached.take_out.Goals as goal

pub returns-then-number-len : goal.returns-then-number-len
returns-then-number-len c = listed_put c.args.numbers.now.list.items c.args.number false (omega (arith, c.if-number-len.true, c.len.ensures, c.args.numbers.now.list.ok.0))

pub returns-else-number-len : goal.returns-else-number-len
returns-else-number-len c = absurd (true≢false (sym c.requires ∙ listed_past c.args.numbers.now.list.items c.args.number (omega (arith, c.if-number-len.false, c.len.ensures, c.args.numbers.now.list.ok.0))))
