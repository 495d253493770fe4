use Rattle.std.proofs.Common.{[], ◌∙◌, ap}
use Rattle.ss_logic.specs.Formulas.{is_well_formed}
use Rattle.ss_terms.specs.Forms.{formula_at}
use Rattle.ss_search_path.specs.Paths.{known_on}
use Rattle.ss_search_path.proofs.StandingFacts.{body_formed}
use Rattle.ss_search_path.proofs.Steps.{last_known}
use Rattle.ss_search_reaching.specs.Refuting.{bank_of}
use Rattle.ss_search_reaching.proofs.branches.Beside.body.Goals as goal

pub returns-clause-leads : goal.returns-clause-leads
returns-clause-leads c = λ cs premises goal f is at says.
    let s = c.args.self.now.refuting in
    let b = bank_of s in
    let old = c.args.path.now in
    let new = c.body.new.path in
    let e = c.in_ok-body.ensures in
    record {
      goes_on = e.goes_on cs premises goal f is at says;
      grounded = c.itself.ensures cs (known_on b new) (formula_at b c.args.body) (last_known b old new c.args.body c.len-last.result e.known (c.len-last.ensures ∙ old.known.ok.0)) (ap (is_well_formed cs []) says ∙ body_formed cs s.given c.args.origin f is);
    }
