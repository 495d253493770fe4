use Rattle.std.proofs.Common.{get_or, sym, ◌∙◌}
use Rattle.std.proofs.lemmas.Option.{slice_get-get_or}
use Rattle.ss_terms.specs.Forms.{formula_at}
use Rattle.ss_search_path.proofs.Choosing.{has_whole, opens_here, opens_later, opens_nowhere}
use Rattle.ss_search_path.proofs.standing.Given.first_choice.Goals as goal

pub is_same_formula-requires-clause-left : goal.is_same_formula-requires-clause-left
is_same_formula-requires-clause-left c =
    let s = c.args.self.now in
    has_whole s.bank.now s.choices.now c.loop-i.i (get_or s.choices.now c.loop-i.i c.index-self-i.result) (slice_get-get_or s.choices.now c.loop-i.i c.index-self-i.result c.loop-i-test.true) c.requires.given.choices

pub returns-then-is_same_formula-clause-some : goal.returns-then-is_same_formula-clause-some
returns-then-is_same_formula-clause-some c =
    let s = c.args.self.now in
    opens_here s c.args.from c.loop-i.i (formula_at s.bank.now c.args.f) c.loop-i.invariant (get_or s.choices.now c.loop-i.i c.index-self-i.result)
    (slice_get-get_or s.choices.now c.loop-i.i c.index-self-i.result c.loop-i-test.true) c.loop-i.auto.i (sym c.is_same_formula.ensures ∙ c.if-is_same_formula.true)

pub loop-i-preserved : goal.loop-i-preserved
loop-i-preserved c =
    let s = c.args.self.now in
    opens_later s c.args.from c.loop-i.i (formula_at s.bank.now c.args.f) c.loop-i.invariant (get_or s.choices.now c.loop-i.i c.index-self-i.result)
    (slice_get-get_or s.choices.now c.loop-i.i c.index-self-i.result c.loop-i-test.true) c.requires.exists (sym c.is_same_formula.ensures ∙ c.if-is_same_formula.false)

pub returns-clause-none : goal.returns-clause-none
returns-clause-none c = λ _.
    let s = c.args.self.now in
    opens_nowhere s c.args.from c.loop-i.i (formula_at s.bank.now c.args.f) c.loop-i.invariant c.loop-i-test.false
