use Rattle.std.proofs.Common.{sym, subst}
use Rattle.std.proofs.lemmas.Result.{on_ok_weaker}
use Rattle.ss_terms.specs.Forms.{formula_at, terms_at}
use Rattle.ss_search_path.specs.Paths.{known_on, Makes}
use Rattle.ss_search_path.proofs.Lines.{good_line}
use Rattle.ss_search_path.proofs.Making.{good_makes}
use Rattle.ss_search_path.proofs.path.Path.good.Goals as goal

pub returns-clause-goes_on : goal.returns-clause-goes_on
returns-clause-goes_on c =
    let b = c.args.bank.now in
    let known = known_on b c.args.self.now in
    on_ok_weaker c.fact.result (λ goes cs premises goal s at is. goes cs premises goal
    (subst (λ l. Makes cs premises goal known l (formula_at b c.args.f)) (sym (good_line b c.args.name c.args.store c.args.arguments c.requires)) (good_makes cs premises goal known c.args.name c.args.store (terms_at b c.args.arguments.items) (formula_at b c.args.f) s at is))) c.fact.ensures.goes_on
