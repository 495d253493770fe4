use Rattle.std.proofs.Common.{◌≡◌, ◌≤◌, ◌*◌, ◌^◌, sym, subst}
use Rattle.std.proofs.lemmas.Option.{MatchOption-at_some}
use Rattle.std.proofs.lemmas.Result.{IfOk-weaker}
use Rattle.ss_search_procedure_rules.specs.Closed.{AreEnough}
use Rattle.ss_search_procedure.specs.Decisions.{settled_ones, reached_in, ClosesBy}
use Rattle.ss_search_procedure.specs.declared.settling.Settled.TheVariants as settled
use Rattle.ss_search_procedure.proofs.Going.{led_on, led_to_end}
use Rattle.ss_search_procedure.proofs.Enough.{not_enough, as_many}
use Rattle.ss_search_procedure.proofs.setting.Settling.settle_nested.Goals as goal

pub finish-requires : goal.finish-requires
finish-requires c =
    let s = c.args.self.now in
    let old = c.args.reaching in
    let new = c.lower.new.reaching in
    let e = c.in_ok-lines.ensures in
    led_to_end s old new c.in-Some.lines.items c.requires.led e.reaches (MatchOption-at_some (Unit {0}) (λ v. ClosesBy s old new v.items) c.in-Some.lines c.in-Some.is e.closes)

pub returns-in-Some-clause-closed : goal.returns-in-Some-clause-closed
returns-in-Some-clause-closed c = λ cs premises goal led.
    let s = c.args.self.now in
    let old = c.args.reaching in
    let new = c.lower.new.reaching in
    let e = c.in_ok-lines.ensures in
    let closes = MatchOption-at_some (Unit {0}) (λ v. ClosesBy s old new v.items) c.in-Some.lines c.in-Some.is e.closes in
    c.finish.ensures.closed cs premises goal (led_on s cs premises goal old new led e.reaches) (closes cs premises goal led.shown)

pub returns-in-Some-clause-spent : goal.returns-in-Some-clause-spent
returns-in-Some-clause-spent c = λ cs is.
    IfOk-weaker c.finish.result (λ x. x ≡ settled.Spent → ⊥) (λ x. x ≡ settled.Spent → AreEnough cs (settled_ones c.args.self.now) c.args.limit → ⊥) (λ x no spent enough. no spent) c.finish.ensures.settled

pub returns-in-None-clause-spent : goal.returns-in-None-clause-spent
returns-in-None-clause-spent c = λ cs is spent.
    let s = c.args.self.now in
    let e = c.in_ok-lines.ensures in
    let many = as_many s c.requires.setting in
    not_enough cs (settled_ones s) (reached_in s c.lower.new.reaching) c.args.limit c.depth-depth.result (e.stays_open cs is c.in-None.is) e.goes_on.state.known
    (λ d le. c.depth-depth.ensures d (subst (λ n. (2 * n) ^ (2 * d) ≤ c.args.limit) (sym many) le))
    (λ le. c.requires.many (subst (λ n. 2 ^ n ≤ c.args.limit) (sym many) le))
