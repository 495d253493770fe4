use Rattle.std.proofs.Common.{[]}
use Rattle.ss_terms.specs.Forms.{formula_at, formulas_at}
use Rattle.ss_search_path.specs.Paths.{known_on}
use Rattle.ss_search_path.proofs.Going.{goes_through, path_goes}
use Rattle.ss_search_procedure.proofs.Begins.{are_chosen}
use Rattle.ss_search_procedure.proofs.beginning.start.Goals as goal

pub returns-clause-path : goal.returns-clause-path
returns-clause-path c = λ cs ground.
    let g = c.args.given.now in
    let b = g.bank.now in
    let premises = formulas_at b c.args.premises.now in
    let goal = formula_at b c.args.goal in
    let chose = are_chosen cs premises goal g (known_on b c.choose.new.path) ground.accepted c.in_ok-choose.ensures.known in
    path_goes cs premises goal b [] c.new-path.result c.stand_all.new.path (c.new-path.ensures.path cs premises goal b)
    (goes_through cs premises goal b c.new-path.result c.choose.new.path c.stand_all.new.path (c.in_ok-choose.ensures.goes_on cs premises goal ground.accepted) (c.in_ok-standings.ensures.goes_on cs ground chose))

pub returns-clause-standing : goal.returns-clause-standing
returns-clause-standing c = λ cs ground.
    let g = c.args.given.now in
    let b = g.bank.now in
    let chose = are_chosen cs (formulas_at b c.args.premises.now) (formula_at b c.args.goal) g (known_on b c.choose.new.path) ground.accepted c.in_ok-choose.ensures.known in
    c.in_ok-standings.ensures.standing cs ground chose
