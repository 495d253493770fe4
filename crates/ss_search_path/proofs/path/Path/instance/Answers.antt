use Rattle.std.proofs.Common.{sym, subst}
use Rattle.std.proofs.lemmas.Result.{on_ok_weaker}
use Rattle.ss_terms.specs.Forms.{formula_at, terms_at}
use Rattle.ss_search_path.specs.Paths.{known_on, Makes}
use Rattle.ss_search_path.proofs.Lines.{instance_line}
use Rattle.ss_search_path.proofs.Making.{instance_makes}
use Rattle.ss_search_path.proofs.path.Path.instance.Goals as goal

pub returns-clause-goes_on : goal.returns-clause-goes_on
returns-clause-goes_on c =
    let b = c.args.bank.now in
    let known = known_on b c.args.self.now in
    on_ok_weaker c.fact.result (λ goes cs premises goal ss body at sorts is formed. goes cs premises goal
    (subst (λ l. Makes cs premises goal known l (formula_at b c.args.f)) (sym (instance_line b c.args.of c.args.terms c.requires)) (instance_makes cs premises goal known c.args.of (terms_at b c.args.terms.items) (formula_at b c.args.f) ss body at sorts is formed))) c.fact.ensures.goes_on
