use Rattle.std.proofs.Common.{◌∙◌}
use Rattle.ss_terms.specs.Forms.{formula_at}
use Rattle.ss_search_path.specs.Paths.{known_on}
use Rattle.ss_search_path.proofs.Going.{goes_through}
use Rattle.ss_search_path.proofs.StandingFacts.{kept_through, known_more, longer_chosen}
use Rattle.ss_search_path.proofs.Steps.{kept_one_more, last_known}
use Rattle.ss_search_procedure.proofs.stating.stand_fact.Goals as goal

pub returns-clause-kept : goal.returns-clause-kept
returns-clause-kept c =
    let old = c.args.path.now in
    let mid = c.fact.new.self in
    kept_through old.known.items mid.known.items c.open.new.path.known.items (kept_one_more old mid _ c.in_ok-fact.ensures.known) c.in_ok-place.ensures.kept

pub returns-clause-goes_on : goal.returns-clause-goes_on
returns-clause-goes_on c = λ cs premises goal chose makes.
    let g = c.args.given.now in
    let b = g.bank.now in
    let old = c.args.path.now in
    let mid = c.fact.new.self in
    goes_through cs premises goal b old mid c.open.new.path (c.in_ok-fact.ensures.goes_on cs premises goal makes)
    (c.in_ok-place.ensures.goes_on cs premises goal (longer_chosen cs g (known_on b old) (known_on b mid) (known_more b old mid (kept_one_more old mid _ c.in_ok-fact.ensures.known)) chose))

pub returns-clause-stands : goal.returns-clause-stands
returns-clause-stands c = λ cs premises goal f chose makes opened.
    let g = c.args.given.now in
    let b = g.bank.now in
    let old = c.args.path.now in
    let mid = c.fact.new.self in
    let more = c.in_ok-fact.ensures.known in
    c.in_ok-place.ensures.opened cs f (longer_chosen cs g (known_on b old) (known_on b mid) (known_more b old mid (kept_one_more old mid _ more)) chose)
    (record { fact = formula_at b c.args.stated.fact; at = last_known b old mid c.args.stated.fact c.len-next.result more (c.len-next.ensures ∙ old.known.ok.0); formed = makes.formed; opened = opened })
