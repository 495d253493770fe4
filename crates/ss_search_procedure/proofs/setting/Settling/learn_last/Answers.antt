use Rattle.std.proofs.Common.{arith}
use Rattle.ss_terms.specs.Forms.{formula_at}
use Rattle.ss_search_procedure.specs.Decisions.{bank_of}
use Rattle.ss_search_reached.proofs.Names.{ok_then}
use Rattle.ss_search_procedure.proofs.Going.{among_occurs, on_grows}
use Rattle.ss_search_procedure.proofs.Sides.{side_among, side_formed}
use Rattle.ss_search_procedure.proofs.Undoing.{last_fact}
use Rattle.ss_search_reaching.specs.Reaching.{facts_of}
use Rattle.ss_search_procedure.proofs.setting.Settling.learn_last.Goals as goal

pub learn-requires-clause-occurs : goal.learn-requires-clause-occurs
learn-requires-clause-occurs c =
    let s = c.args.self.now in
    let f = formula_at (bank_of s) c.args.f in
    among_occurs s c.requires.setting c.args.reaching.now c.requires.state f (side_among s c.requires.setting f c.requires.side)

pub returns-clause-goes_on : goal.returns-clause-goes_on
returns-clause-goes_on c = ok_then c.learn.result (λ g. on_grows c.args.self.now c.args.reaching.now c.learn.new.self c.requires.state g) c.learn.ensures.grows

pub returns-clause-shown : goal.returns-clause-shown
returns-clause-shown c =
    let s = c.args.self.now in
    let old = c.args.reaching.now in
    let f = formula_at (bank_of s) c.args.f in
    ok_then c.learn.result
    (λ shows cs h. record {
      bank = h.bank;
      formed = h.formed;
      shows = shows cs h.shows (c.itself-standing.ensures cs (facts_of s.given old) f (last_fact (bank_of s) f old.path _ c.requires.last (omega (arith, c.len-place.ensures, old.path.known.ok.0))) (side_formed s cs old h f c.requires.side));
    })
    c.learn.ensures.shows
