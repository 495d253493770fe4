use Rattle.std.proofs.Common.{◌≡◌, ◌∙◌, sym}
use Rattle.std.proofs.lemmas.List.{length-map}
use Rattle.std.proofs.lemmas.Result.{IfOk-weaker}
use Rattle.ss_logic_countermodels.specs.Refuting.{IsCountermodel}
use Rattle.ss_terms.specs.Forms.{formula_at, formulas_at}
use Rattle.ss_rules_opened.specs.Views.{origin_at}
use Rattle.ss_search_procedure_rules.specs.Closed.{AreEnough}
use Rattle.ss_search_procedure.specs.declared.settling.Settled.{Settled}
use Rattle.ss_search_procedure.specs.declared.settling.Settled.TheVariants as settled
use Rattle.ss_search_procedure.specs.Decisions.{bank_of, settled_ones}
use Rattle.ss_search_procedure.specs.Answers.{IfCountered}
use Rattle.ss_search_procedure.proofs.Enough.{nothing_countered}
use Rattle.ss_search_procedure.proofs.setting.Settling.settle.Goals as goal

pub begin-requires-clause-count : goal.begin-requires-clause-count
begin-requires-clause-count c =
    let s = c.args.self.now in
    sym (length-map s.given.origins.now (origin_at (bank_of s))) ∙ c.requires.grounded.2.origins.count ∙ length-map s.formulas.now (formula_at (bank_of s))

pub settle_by_all-requires-clause-led : goal.settle_by_all-requires-clause-led
settle_by_all-requires-clause-led c =
    let b = bank_of c.args.self.now in
    let g = c.requires.grounded in
    (g.0, formulas_at b c.args.obligation.now.premises.now, formula_at b c.args.obligation.now.goal, c.in_ok-reaching.ensures.led g.0 g.1 g.2)

pub settle_nested-requires-clause-led : goal.settle_nested-requires-clause-led
settle_nested-requires-clause-led c =
    let b = bank_of c.args.self.now in
    let g = c.requires.grounded in
    (g.0, formulas_at b c.args.obligation.now.premises.now, formula_at b c.args.obligation.now.goal, c.in_ok-reaching.ensures.led g.0 g.1 g.2)

pub settle_nested-requires-clause-some : goal.settle_nested-requires-clause-some
settle_nested-requires-clause-some c = c.are_few.ensures.some c.if-are_few.false

pub settle_nested-requires-clause-many : goal.settle_nested-requires-clause-many
settle_nested-requires-clause-many c = c.are_few.ensures.many c.if-are_few.false

pub returns-then-are_few-clause-closed : goal.returns-then-are_few-clause-closed
returns-then-are_few-clause-closed c = λ cs of ground.
    let b = bank_of c.args.self.now in
    c.settle_by_all.ensures.closed cs (formulas_at b c.args.obligation.now.premises.now) (formula_at b c.args.obligation.now.goal) (c.in_ok-reaching.ensures.led cs of ground)

pub returns-then-are_few-clause-spent : goal.returns-then-are_few-clause-spent
returns-then-are_few-clause-spent c = λ cs of.
    let fs = settled_ones c.args.self.now in
    IfOk-weaker c.settle_by_all.result (λ (x : Settled). x ≡ settled.Spent → ⊥) (λ (x : Settled). x ≡ settled.Spent → AreEnough cs fs c.args.splits → ⊥) (λ x h e enough. h e) c.settle_by_all.ensures.settled

pub returns-else-are_few-clause-closed : goal.returns-else-are_few-clause-closed
returns-else-are_few-clause-closed c = λ cs of ground.
    let b = bank_of c.args.self.now in
    c.settle_nested.ensures.closed cs (formulas_at b c.args.obligation.now.premises.now) (formula_at b c.args.obligation.now.goal) (c.in_ok-reaching.ensures.led cs of ground)

pub returns-else-are_few-clause-countered : goal.returns-else-are_few-clause-countered
returns-else-are_few-clause-countered c = λ cs of.
    let fs = settled_ones c.args.self.now in
    IfOk-weaker c.settle_nested.result (IfCountered (λ m. ⊥)) (IfCountered (IsCountermodel cs fs)) (λ x h. nothing_countered (IsCountermodel cs fs) x h) c.settle_nested.ensures.countered
