use Rattle.std.proofs.Common.{Vec, Global}
use Rattle.std.proofs.lemmas.Option.{MatchOption-at_some}
use Rattle.ss_deriv.specs.declared.line.Line.{Line}
use Rattle.ss_search_reaching.specs.Refuting.{CloseBeside}
use Rattle.ss_search_reaching.proofs.basic.Refuting.basic.Goals as goal

pub stands-requires-clause-none : goal.stands-requires-clause-none
stands-requires-clause-none c = c.in_ok-lines.ensures.none c.in-None.is

pub returns-in-Some-clause-some : goal.returns-in-Some-clause-some
returns-in-Some-clause-some c =
    let s = c.args.self.now in
    MatchOption-at_some (Unit {0}) (λ (v : Vec Line Global). CloseBeside s c.args.congruence.now.merges c.args.count c.args.fact v.items) c.in-Some.lines c.in-Some.is c.in_ok-lines.ensures.some
