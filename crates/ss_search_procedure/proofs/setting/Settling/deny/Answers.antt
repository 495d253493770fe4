use Rattle.std.proofs.Common.{◌≡◌, [], ◌∷◌, ◌++◌, take, subst}
use Rattle.ss_terms.specs.Forms.{formula_at}
use Rattle.ss_search_reaching.specs.declared.reaching.Reaching.{Reaching}
use Rattle.ss_search_procedure.specs.Decisions.{bank_of}
use Rattle.ss_search_reached.proofs.Names.{ok_then}
use Rattle.ss_search_reaching.proofs.Learning.{ok_both}
use Rattle.ss_search_procedure.proofs.Sides.{side_basic, side_formed}
use Rattle.ss_search_procedure.proofs.Undoing.{as_before, reaches_denied}
use Rattle.ss_search_procedure.proofs.setting.Settling.deny.Goals as goal

pub refuted-requires-clause-basic : goal.refuted-requires-clause-basic
refuted-requires-clause-basic c = side_basic c.args.self.now c.requires.setting (formula_at (bank_of c.args.self.now) c.args.p) c.requires.side

pub returns-clause-before : goal.returns-clause-before
returns-clause-before c =
    let s = c.args.self.now in
    let now = c.args.reaching.now in
    let mid = c.forget.new.self in
    let f = c.forget.ensures in
    let after : Reaching = record { reached = mid.reached; standings = mid.standings; places = mid.places; path = c.refuted.new.self } in
    ok_then c.refuted.result
    (λ ends at t. as_before s c.args.marks c.args.p at now t after (record { reached = f.state.reached; long = f.state.long; places = f.state.places }) f.reached f.standings f.merges f.counts (ends.number ∷ [])
    (subst (λ xs. c.refuted.new.self.known.items ≡ take c.args.marks.path.known xs ++ ends.number ∷ []) f.path.known ends.numbers))
    c.refuted.ensures.numbers

pub returns-clause-reaches : goal.returns-clause-reaches
returns-clause-reaches c =
    let s = c.args.self.now in
    let now = c.args.reaching.now in
    let mid = c.forget.new.self in
    let f = c.forget.ensures in
    let after : Reaching = record { reached = mid.reached; standings = mid.standings; places = mid.places; path = c.refuted.new.self } in
    ok_both c.refuted.result
    (λ ends says at t closes. reaches_denied s c.args.marks c.args.p at now t after (record { reached = f.state.reached; long = f.state.long; places = f.state.places }) f.reached f.standings f.merges f.counts (ends.number ∷ [])
    (subst (λ xs. c.refuted.new.self.known.items ≡ take c.args.marks.path.known xs ++ ends.number ∷ []) f.path.known ends.numbers)
    mid.path f.path c.args.closing.items closes (λ cs h. side_formed s cs at h (formula_at (bank_of s) c.args.p) c.requires.side) says)
    c.refuted.ensures.numbers c.refuted.ensures.goes_on
