use Rattle.std.proofs.Common.{List, ◌++◌, subst}
use Rattle.std.specs.Prelude.{Vec}
use Rattle.std.specs.declared.alloc.Global.{Global}
use Rattle.std.proofs.lemmas.Option.{MatchOption-at_some}
use Rattle.ss_deriv.specs.declared.line.Sum.{Sum}
use Rattle.ss_terms.specs.Forms.{formulas_at}
use Rattle.ss_linear_rules.specs.Two.{Refute}
use Rattle.ss_linear.specs.Contradictions.{sums_of, equalities_at}
use Rattle.ss_search_whole_sums.specs.Contradicting.{CloseWith}
use Rattle.ss_search_whole_sums.proofs.Written.{closes_facts}
use Rattle.ss_search_whole_sums.proofs.contradicting.close_contradiction.Goals as goal

pub returns-clause-some : goal.returns-clause-some
returns-clause-some c = λ cs of.
    let b = c.args.context.now.bank.now in
    let ms = c.args.context.now.congruence.now.merges in
    let known = formulas_at b c.args.facts.now ++ equalities_at b c.args.equalities.now in
    let refuted = MatchOption-at_some (Unit {0}) (λ (v : Vec Sum Global). Refute cs known (sums_of v.items)) c.in-Some.sums c.in-Some.is (c.in_ok-sums.ensures.some cs of) in
    closes_facts cs b ms c.args.context.now.count c.args.facts.now c.args.places.now c.args.equalities.now (sums_of c.in-Some.sums.items) c.in_ok-lines.lines.items refuted
    (subst (λ (sums : List Sum). CloseWith b ms c.args.context.now.count c.args.places.now c.args.equalities.now (sums_of sums) c.in_ok-lines.lines.items) c.deref.ensures.value c.in_ok-lines.ensures)
