use Rattle.std.proofs.Common.{List, refl, sym, ◌∙◌, subst}
use Rattle.std.specs.List.{Contains}
use Rattle.std.proofs.lemmas.Bool.{false≢true}
use Rattle.std.proofs.lemmas.List.Elements.{Contains-push}
use Rattle.ss_logic.specs.Formulas.{Formula}
use Rattle.ss_terms.specs.Forms.{formula_at}
use Rattle.ss_search_reached.proofs.Names.{ok_then}
use Rattle.ss_search_reaching.specs.Reaching.{reached_of}
use Rattle.ss_search_reaching.proofs.Learning.{nothing_grows, is_longer}
use Rattle.ss_search_reaching.proofs.reaching.Reaching.learn.Goals as goal

pub enter-requires-clause-new : goal.enter-requires-clause-new
enter-requires-clause-new c = λ h. false≢true (sym c.if-knows.false ∙ c.knows.ensures.1 h)

pub returns-then-knows : goal.returns-then-knows
returns-then-knows c = record {
  grows = nothing_grows c.args.given.now c.args.self.now c.requires.state;
  known = c.knows.ensures.0 c.if-knows.true;
  classes = refl;
  path = record { before = refl; behind = refl; known = refl };
  still = λ e. refl;
  shows = λ cs h stands. h;
}

pub returns-clause-grows : goal.returns-clause-grows
returns-clause-grows c = ok_then c.enter.result (λ h. h c.requires.occurs) c.enter.ensures.grows

pub returns-clause-known : goal.returns-clause-known
returns-clause-known c =
    let f = formula_at c.args.given.now.bank.now c.args.f in
    ok_then c.enter.result (λ h. subst (λ (fs : List Formula). Contains fs f) (sym h) (Contains-push (reached_of c.args.given.now c.args.self.now) f)) c.enter.ensures.known

pub returns-clause-still : goal.returns-clause-still
returns-clause-still c =
    let g = c.args.given.now in
    ok_then c.enter.result (λ h long. absurd (is_longer g c.args.self.now c.enter.new.self (formula_at g.bank.now c.args.f) h long)) c.enter.ensures.known

pub returns-clause-path : goal.returns-clause-path
returns-clause-path c = c.enter.ensures.path

pub returns-clause-shows : goal.returns-clause-shows
returns-clause-shows c = c.enter.ensures.shows
