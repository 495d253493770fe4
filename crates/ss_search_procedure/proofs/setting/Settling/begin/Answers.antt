use Rattle.std.proofs.Common.{List, length, ◌∙◌, ap, subst, sym}
use Rattle.ss_terms.specs.Forms.{formula_at, formulas_at}
use Rattle.ss_search_path.specs.Paths.{known_on}
use Rattle.ss_search_path.specs.declared.standing.Standing.{Standing}
use Rattle.ss_search_path.specs.Standing.{AreStanding}
use Rattle.ss_search_procedure.specs.Decisions.{bank_of, settled_ones}
use Rattle.ss_search_procedure.proofs.GroundBegun.{none_reached, has_led}
use Rattle.ss_search_procedure.proofs.setting.Settling.begin.Goals as goal

pub start-requires-clause-given : goal.start-requires-clause-given
start-requires-clause-given c = c.requires.setting.given

pub reach_all-requires-clause-count : goal.reach_all-requires-clause-count
reach_all-requires-clause-count c = ap length c.deref.ensures.value ∙ c.in_ok-begun.ensures.long

pub reach_all-requires-clause-first : goal.reach_all-requires-clause-first
reach_all-requires-clause-first c = none_reached c.args.self.now c.in_ok-reaching.reaching c.in_ok-reaching.ensures.state c.in_ok-reaching.ensures.nothing

pub returns-clause-led : goal.returns-clause-led
returns-clause-led c = λ cs of ground.
    let s = c.args.self.now in
    let b = bank_of s in
    let premises = formulas_at b c.args.obligation.now.premises.now in
    let goal = formula_at b c.args.obligation.now.goal in
    let begun = c.in_ok-begun in
    let none = c.in_ok-reaching in
    let all = c.in_ok-reach_all.ensures in
    let standing = begun.ensures.standing cs ground in
    has_led s cs premises goal c.requires.setting of ground begun.begun.path none.reaching c.reach_all.new.reaching c.deref.result.now none.ensures.path all.path (begun.ensures.path cs ground) (none.ensures.shows cs standing.chosen)
    (subst (λ (ss : List Standing). AreStanding cs s.given (known_on b begun.begun.path) (settled_ones s) ss) (sym c.deref.ensures.value) standing) (all.shown cs)
