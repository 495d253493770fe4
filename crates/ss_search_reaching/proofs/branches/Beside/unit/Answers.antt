use Rattle.std.proofs.Common.{◌+◌, sym, subst}
use Rattle.std.proofs.lemmas.Option.{MatchOption-at_some}
use Rattle.ss_search_reached.specs.Looks.{IsLooking, HoldsFrom}
use Rattle.ss_search_reached.proofs.Fronts.{front_itself}
use Rattle.ss_terms.specs.Forms.{Forms, HasFormulas}
use Rattle.ss_search_reached.proofs.Lists.{below_more}
use Rattle.ss_search_reached.proofs.Branches.{met_branch, open_branch}
use Rattle.ss_search_reaching.specs.Refuting.{bank_of, or_of}
use Rattle.ss_search_reaching.proofs.Parts.{stays_there}
use Rattle.ss_search_reaching.proofs.Resolving.{stays_open}
use Rattle.ss_search_reaching.proofs.branches.Beside.unit.Goals as goal

pub returns-then-is_met-clause-branch : goal.returns-then-is_met-clause-branch
returns-then-is_met-clause-branch c = met_branch c.args.self.now.looking c.args.whole.now.parts.now (c.is_met.ensures c.if-is_met.true)

pub returns-then-is_met-clause-kept : goal.returns-then-is_met-clause-kept
returns-then-is_met-clause-kept c = front_itself c.args.path.now.known.items

pub returns-then-is_met-clause-leads : goal.returns-then-is_met-clause-leads
returns-then-is_met-clause-leads c =
    let p = c.args.self.now in
    let ms = c.args.congruence.now.merges in
    let old = c.args.path.now in
    let ps = c.args.whole.now.parts.now in
    stays_open p ms old old c.args.whole.now.place c.args.whole.now.from ps (stays_there p.refuting ms old c.args.whole.now.place c.args.whole.now.from (or_of (bank_of p.refuting) ps))

pub first_open-requires-in-Some-clause-looking : goal.first_open-requires-in-Some-clause-looking
first_open-requires-in-Some-clause-looking c = subst (IsLooking c.args.self.now.looking) (sym c.in_ok-first_open.ensures.congruence) c.requires.beside.looking

pub returns-in-Some-2-clause-branch : goal.returns-in-Some-2-clause-branch
returns-in-Some-2-clause-branch c =
    let s = c.args.self.now.looking in
    let fs = c.args.whole.now.parts.now in
    let i = c.in-Some.part in
    let j = c.in-Some-2._other in
    let first = MatchOption-at_some (Unit {0}) (HoldsFrom s fs 0) i c.in-Some.is c.in_ok-first_open.ensures.found in
    let other = MatchOption-at_some (Unit {0}) (HoldsFrom s fs (i + 1)) j c.in-Some-2.is c.in_ok-first_open-in-Some.ensures.found in
    open_branch s fs i j first other

pub is_met-requires-clause-formulas : goal.is_met-requires-clause-formulas
is_met-requires-clause-formulas c = subst (λ (b : Forms). HasFormulas b c.args.whole.now.parts.now) (sym c.requires.beside.bank) (below_more c.args.whole.now.bound _ c.args.whole.now.parts.now c.requires.in_bank c.requires.below)

pub returns-in-Some-2-clause-leads : goal.returns-in-Some-2-clause-leads
returns-in-Some-2-clause-leads c =
    let p = c.args.self.now in
    let ms = c.args.congruence.now.merges in
    let old = c.args.path.now in
    let ps = c.args.whole.now.parts.now in
    stays_open p ms old old c.args.whole.now.place c.args.whole.now.from ps (stays_there p.refuting ms old c.args.whole.now.place c.args.whole.now.from (or_of (bank_of p.refuting) ps))
