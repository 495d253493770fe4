use Rattle.std.proofs.Common.{◌≡◌, ◌∙◌, List, Some}
use Rattle.std.specs.Prelude.{slice_get}
use Rattle.std.proofs.lemmas.Result.{on_ok_weaker, IfOk-weaker}
use Rattle.ss_core.specs.Tree.{ClassTree}
use Rattle.ss_logic.specs.Formulas.{Formula, Formulas, And, formula_list}
use Rattle.ss_search_path.proofs.Going.{goes_through}
use Rattle.ss_search_path.specs.Paths.{known_on}
use Rattle.ss_search_path.specs.Standing.{AreChosen, IsFact, IsOpenedFact}
use Rattle.ss_search_path.proofs.StandingFacts.{kept_through, known_more, longer_chosen}
use Rattle.ss_search_path.proofs.Steps.{kept_one_more, part_there, part_stands}
use Rattle.ss_search_path.proofs.standing.Given.part.Goals as goal

pub returns-clause-kept : goal.returns-clause-kept
returns-clause-kept c =
    let old = c.args.path.now in
    let mid = c.part.new.self in
    on_ok_weaker c.open.result (λ kept. kept_through old.known.items mid.known.items c.open.new.path.known.items (kept_one_more old mid _ c.in_ok-part.ensures.known) kept) c.open.ensures.kept

pub returns-clause-goes_on : goal.returns-clause-goes_on
returns-clause-goes_on c =
    let s = c.args.self.now in
    let b = s.bank.now in
    let old = c.args.path.now in
    let mid = c.part.new.self in
    let more = c.in_ok-part.ensures.known in
    on_ok_weaker c.open.result (λ go cs premises goal fs f chose stands at.
    let p = part_there cs s old mid c.args.place c.args.from c.args.part c.part_at-f.result fs f c.part_at-f.ensures stands at in
    goes_through cs premises goal b old mid c.open.new.path (c.in_ok-part.ensures.goes_on cs premises goal (And p.parts) p.whole p.part_is p.formed)
    (go cs premises goal (longer_chosen cs s (known_on b old) (known_on b mid) (known_more b old mid (kept_one_more old mid _ more)) chose)))
    c.open.ensures.goes_on

pub returns-clause-opened : goal.returns-clause-opened
returns-clause-opened c =
    let s = c.args.self.now in
    let b = s.bank.now in
    let old = c.args.path.now in
    let mid = c.part.new.self in
    let more = c.in_ok-part.ensures.known in
    IfOk-weaker c.open.result
    (λ at. (cs : List ClassTree) (f : Formula) → AreChosen cs s (known_on b mid) → IsFact cs s (known_on b mid) c.len-next.result c.args.from f → IsOpenedFact cs s (known_on b c.open.new.path) at.0 at.1 f)
    (λ at. (cs : List ClassTree) (fs : Formulas) (f : Formula) → AreChosen cs s (known_on b old) → IsOpenedFact cs s (known_on b old) c.args.place c.args.from (And fs) → slice_get (formula_list fs) c.args.part ≡ Some f → IsOpenedFact cs s (known_on b c.open.new.path) at.0 at.1 f)
    (λ at go cs fs f chose stands e.
    go cs f (longer_chosen cs s (known_on b old) (known_on b mid) (known_more b old mid (kept_one_more old mid _ more)) chose)
    (part_stands cs s old mid c.args.place c.args.from c.args.part c.part_at-f.result fs f c.part_at-f.ensures stands e c.len-next.result (c.len-next.ensures ∙ old.known.ok.0) more))
    c.open.ensures.opened
