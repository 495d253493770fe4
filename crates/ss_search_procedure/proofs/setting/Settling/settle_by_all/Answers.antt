use Rattle.std.proofs.lemmas.Result.{IfOk-weaker}
use Rattle.std.proofs.Common.{subst}
use Rattle.ss_logic_countermodels.specs.Refuting.{IsCountermodel}
use Rattle.ss_search_procedure.specs.Decisions.{settled_ones, reached_in, ReachesBy, ClosesBy}
use Rattle.ss_search_procedure.specs.Answers.{IfCountered, IfModel, IfLines}
use Rattle.ss_search_procedure.proofs.Going.{led_on, led_to_end}
use Rattle.ss_search_procedure.proofs.Deciding.{none_decided}
use Rattle.ss_search_procedure.proofs.Enough.{nothing_countered}
use Rattle.ss_search_procedure.proofs.setting.Settling.settle_by_all.Goals as goal

pub decide-requires-clause-decided : goal.decide-requires-clause-decided
decide-requires-clause-decided c = none_decided c.args.self.now (reached_in c.args.self.now c.args.reaching)

pub returns-in-Model-clause-countered : goal.returns-in-Model-clause-countered
returns-in-Model-clause-countered c = λ cs is.
    let fs = settled_ones c.args.self.now in
    subst (IfModel (IsCountermodel cs fs)) c.in-Model.is (c.in_ok-model.ensures.model cs is)

pub finish-requires : goal.finish-requires
finish-requires c =
    let s = c.args.self.now in
    let old = c.args.reaching in
    let new = c.decide.new.reaching in
    led_to_end s old new c.in-Closed.lines.items c.requires.led (subst (IfLines (λ lines. ReachesBy s old new)) c.in-Closed.is c.in_ok-model.ensures.reaches) (subst (IfLines (ClosesBy s old new)) c.in-Closed.is c.in_ok-model.ensures.closes)

pub returns-in-Closed-clause-closed : goal.returns-in-Closed-clause-closed
returns-in-Closed-clause-closed c = λ cs premises goal led.
    let s = c.args.self.now in
    let old = c.args.reaching in
    let new = c.decide.new.reaching in
    let to = subst (IfLines (λ lines. ReachesBy s old new)) c.in-Closed.is c.in_ok-model.ensures.reaches in
    let closes = subst (IfLines (ClosesBy s old new)) c.in-Closed.is c.in_ok-model.ensures.closes in
    c.finish.ensures.closed cs premises goal (led_on s cs premises goal old new led to) (closes cs premises goal led.shown)

pub returns-in-Closed-clause-countered : goal.returns-in-Closed-clause-countered
returns-in-Closed-clause-countered c = λ cs is.
    let fs = settled_ones c.args.self.now in
    let refuting = IsCountermodel cs fs in
    IfOk-weaker c.finish.result (IfCountered (λ m. ⊥)) (IfCountered refuting) (λ x h. nothing_countered refuting x h) c.finish.ensures.countered
