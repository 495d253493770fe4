use Rattle.std.proofs.Common.{sym, ◌∙◌, subst}
use Rattle.std.proofs.lemmas.List.{take_all}
use Rattle.ss_linear_sums.specs.Parts.{AreOthers}
use Rattle.ss_linear_sums.proofs.Places.{HasParts-get, AreOthers-more}
use Rattle.ss_linear_sums.proofs.parts.place_of.Goals as goal

pub is_same_term-requires-clause-left : goal.is_same_term-requires-clause-left
is_same_term-requires-clause-left c = HasParts-get c.args.bank.now c.args.parts.now c.loop-i.i _ c.loop-i-test.true c.requires.parts

pub returns-then-is_same_term : goal.returns-then-is_same_term
returns-then-is_same_term c = (c.loop-i-test.true, c.loop-i.invariant, sym c.is_same_term.ensures ∙ c.if-is_same_term.true)

pub loop-i-preserved : goal.loop-i-preserved
loop-i-preserved c = AreOthers-more c.args.bank.now c.args.t c.args.parts.now c.loop-i.i _ c.loop-i-test.true c.loop-i.invariant (sym c.is_same_term.ensures ∙ c.if-is_same_term.false)

pub returns : goal.returns
returns c = subst (λ xs. AreOthers c.args.bank.now c.args.t xs) (take_all c.loop-i.i c.args.parts.now c.loop-i-test.false) c.loop-i.invariant
