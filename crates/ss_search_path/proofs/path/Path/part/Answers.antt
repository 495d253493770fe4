use Rattle.std.proofs.lemmas.Result.{on_ok_weaker}
use Rattle.ss_terms.specs.Forms.{formula_at}
use Rattle.ss_search_path.specs.Paths.{known_on}
use Rattle.ss_search_path.proofs.Making.{part_makes}
use Rattle.ss_search_path.proofs.path.Path.part.Goals as goal

pub returns-clause-goes_on : goal.returns-clause-goes_on
returns-clause-goes_on c =
    let b = c.args.bank.now in
    let known = known_on b c.args.self.now in
    on_ok_weaker c.fact.result (λ goes cs premises goal whole at is formed. goes cs premises goal
    (part_makes cs premises goal known c.args.of c.args.part whole (formula_at b c.args.f) at is formed)) c.fact.ensures.goes_on
