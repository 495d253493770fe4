use Rattle.std.proofs.Common.{refl, ◌∙◌, ap}
use Rattle.std.specs.Prelude.{slice_get}
use Rattle.ss_terms.specs.Forms.{formula_at}
use Rattle.ss_search_path.specs.Paths.{known_on}
use Rattle.ss_search_path.specs.Standing.{parts_of}
use Rattle.ss_search_path.proofs.StandingFacts.{some_same}
use Rattle.ss_search_path.proofs.Reading.{no_part}
use Rattle.ss_search_path.proofs.standing.Given.part_at.Goals as goal

pub returns-in-Some : goal.returns-in-Some
returns-in-Some c = λ fact x at e.
    let b = c.args.self.now.bank.now in
    let same = some_same (slice_get (known_on b c.args.path.now) c.args.place) (formula_at b c.in-Some.f) fact c.in-Some.ensures.some.1 at in
    c.part_of.ensures x (ap (λ y. slice_get (parts_of y) c.args.part) same ∙ e)

pub returns-in-None : goal.returns-in-None
returns-in-None c = λ fact x at e. no_part fact fact refl (c.fact.ensures.none c.in-None.is fact at).0 c.args.part x e
