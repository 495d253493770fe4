use Rattle.ss_search_reaching.specs.declared.reaching.Reaching.{Reaching}
use Rattle.ss_search_procedure.specs.Decisions.{bank_of}
use Rattle.ss_search_reached.proofs.Names.{ok_then}
use Rattle.ss_search_procedure.proofs.Going.{on_and_on}
use Rattle.ss_search_procedure.proofs.Undoing.{supposed_front, begun_same, supposed_last, more_facts, shown_further}
use Rattle.ss_search_procedure.proofs.setting.Settling.suppose.Goals as goal

pub learn_last-requires : goal.learn_last-requires
learn_last-requires c =
    let s = c.args.self.now in
    let old = c.args.reaching.now in
    let front = supposed_front (bank_of s) c.args.p old.path c.suppose.new.self c.in_ok-_mark.ensures.supposed in
    record { setting = c.requires.setting; state = (more_facts s old c.suppose.new.self front c.requires.state).state; formula = c.requires.formula; side = c.requires.side; last = supposed_last (bank_of s) c.args.p old.path c.suppose.new.self c.requires.formula c.in_ok-_mark.ensures.supposed }

pub returns-clause-goes_on : goal.returns-clause-goes_on
returns-clause-goes_on c =
    let s = c.args.self.now in
    let old = c.args.reaching.now in
    let front = supposed_front (bank_of s) c.args.p old.path c.suppose.new.self c.in_ok-_mark.ensures.supposed in
    let mid : Reaching = record { reached = old.reached; standings = old.standings; places = old.places; path = c.suppose.new.self } in
    ok_then c.learn_last.result (λ g. on_and_on s old mid c.learn_last.new.reaching (more_facts s old c.suppose.new.self front c.requires.state) g) c.learn_last.ensures.goes_on

pub returns-clause-begun : goal.returns-clause-begun
returns-clause-begun c =
    let s = c.args.self.now in
    ok_then c.learn_last.result (λ same. begun_same (bank_of s) c.args.p c.args.reaching.now.path c.suppose.new.self c.learn_last.new.reaching.path c.in_ok-_mark.ensures.supposed same) c.learn_last.ensures.path

pub returns-clause-shown : goal.returns-clause-shown
returns-clause-shown c =
    let s = c.args.self.now in
    let old = c.args.reaching.now in
    let front = supposed_front (bank_of s) c.args.p old.path c.suppose.new.self c.in_ok-_mark.ensures.supposed in
    ok_then c.learn_last.result (λ shown cs h. shown cs (shown_further s old c.suppose.new.self front cs h)) c.learn_last.ensures.shown
