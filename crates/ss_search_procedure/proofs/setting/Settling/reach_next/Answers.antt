use Rattle.std.proofs.Common.{◌*◌, length, refl, sym, ◌∙◌, subst}
use Rattle.std.proofs.lemmas.Bool.{false≢true}
use Rattle.ss_logic.specs.Formulas.{Formula}
use Rattle.ss_terms.specs.declared.forms.FormulaId.{FormulaId}
use Rattle.ss_terms.specs.Forms.{formula_at}
use Rattle.ss_terms.proofs.Tested.{AreBelow-get}
use Rattle.ss_search_path.specs.Standing.{Stands}
use Rattle.ss_search_path.proofs.StandingFacts.{read_there}
use Rattle.ss_search_reaching.specs.Reaching.{facts_of}
use Rattle.ss_search_reaching.proofs.Learning.{ok_both}
use Rattle.ss_search_procedure.specs.Decisions.{bank_of}
use Rattle.ss_search_reached.proofs.Names.{ok_then}
use Rattle.ss_search_procedure.proofs.GroundBegun.{next_there, next_reached}
use Rattle.ss_search_procedure.proofs.setting.Settling.reach_next.Goals as goal

pub knows-requires-clause-reached : goal.knows-requires-clause-reached
knows-requires-clause-reached c = c.requires.first.reaching.reached

pub knows-requires-clause-formula : goal.knows-requires-clause-formula
knows-requires-clause-formula c =
    let s = c.args.self.now in
    AreBelow-get (length (bank_of s).formulas * 2) s.formulas.now c.args.k (record { 0 = 0 }) c.requires.setting.formulas c.requires.next

pub returns-then-knows : goal.returns-then-knows
returns-then-knows c =
    let s = c.args.self.now in
    record {
      first = next_there s c.args.k (record { 0 = 0 }) c.requires.next c.args.reaching.now c.requires.first (c.knows.ensures.0 c.if-knows.true);
      path = record { before = refl; behind = refl; known = refl };
      shown = λ cs f at h stands. h;
    }

pub enter-requires-clause-state : goal.enter-requires-clause-state
enter-requires-clause-state c = c.requires.first.reaching

pub enter-requires-clause-formula : goal.enter-requires-clause-formula
enter-requires-clause-formula c =
    let s = c.args.self.now in
    AreBelow-get (length (bank_of s).formulas * 2) s.formulas.now c.args.k (record { 0 = 0 }) c.requires.setting.formulas c.requires.next

pub enter-requires-clause-new : goal.enter-requires-clause-new
enter-requires-clause-new c = λ h. false≢true (sym c.if-knows.false ∙ c.knows.ensures.1 h)

pub returns-clause-first : goal.returns-clause-first
returns-clause-first c =
    let s = c.args.self.now in
    ok_both c.enter.result (λ state known. next_reached s c.args.k (record { 0 = 0 }) c.requires.next c.args.reaching.now c.enter.new.self c.requires.first state known) c.enter.ensures.state c.enter.ensures.known

pub returns-clause-shown : goal.returns-clause-shown
returns-clause-shown c =
    let s = c.args.self.now in
    let d : FormulaId = record { 0 = 0 } in
    ok_then c.enter.result
    (λ shows cs f at h stands. shows cs h (subst (λ (x : Formula). Stands cs s.given (facts_of s.given c.args.reaching.now) c.args.standing x) (sym (read_there (formula_at (bank_of s)) s.formulas.now c.args.k d f at)) stands))
    c.enter.ensures.shows
