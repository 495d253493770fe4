use Rattle.std.proofs.Common.{List, length, take, sym, ◌∙◌, ap, subst}
use Rattle.std.proofs.lemmas.Result.{IfOk-weaker}
use Rattle.ss_terms.specs.declared.forms.FormulaId.{FormulaId}
use Rattle.ss_equality_rules.specs.declared.Merge.{Merge}
use Rattle.ss_equality_rules.specs.Equal.{Equations}
use Rattle.ss_search_reached.proofs.Fronts.{front_itself}
use Rattle.ss_search_reached.proofs.Names.{ok_then}
use Rattle.ss_search_reaching.specs.Refuting.{bank_of, or_of, AreCasesFrom}
use Rattle.ss_search_reaching.proofs.Parts.{cases_close}
use Rattle.ss_search_reaching.specs.Units.{UnitFrom}
use Rattle.ss_search_reaching.proofs.Resolving.{stays_closed, after_stay, cases_there, beside_again}
use Rattle.ss_search_reaching.proofs.branches.Beside.all.Goals as goal

pub others-requires-clause-beside : goal.others-requires-clause-beside
others-requires-clause-beside c = beside_again c.args.self.now c.args.congruence.now c.cases.new.congruence c.in_ok-front.ensures.congruence c.requires.beside

pub others-requires-clause-part : goal.others-requires-clause-part
others-requires-clause-part c = c.if-front-count.true

pub others-requires-clause-holds : goal.others-requires-clause-holds
others-requires-clause-holds c = c.in_ok-front.ensures.holds c.if-front-count.true

pub returns-then-front-count-clause-congruence : goal.returns-then-front-count-clause-congruence
returns-then-front-count-clause-congruence c = ok_then c.others.result (λ h. h ∙ c.in_ok-front.ensures.congruence) c.others.ensures.congruence

pub returns-then-front-count-clause-kept : goal.returns-then-front-count-clause-kept
returns-then-front-count-clause-kept c =
    ok_then c.others.result (λ h. ap (λ (xs : List FormulaId). take (length xs) c.others.new.path.known.items) (sym c.in_ok-front.ensures.known) ∙ h ∙ c.in_ok-front.ensures.known) c.others.ensures.kept

pub returns-then-front-count-clause-leads : goal.returns-then-front-count-clause-leads
returns-then-front-count-clause-leads c =
    let p = c.args.self.now in
    let ms = c.args.congruence.now.merges in
    let old = c.args.path.now in
    let now = c.cases.new.path in
    let new = c.others.new.path in
    let ps = c.args.whole.now.parts.now in
    let e = c.in_ok-front.ensures in
    let front = c.in_ok-front.front in
    let whole = or_of (bank_of p.refuting) ps in
    let same = ap (λ (k : Equations). k.merges) e.congruence in
    IfOk-weaker c.others.result
    (λ u. AreCasesFrom p.refuting c.cases.new.congruence.merges now c.args.whole.now.place c.args.whole.now.from whole 0 front.stop front.lines.items → UnitFrom p c.cases.new.congruence.merges now c.args.whole.now.place c.args.whole.now.from ps new u)
    (λ u. UnitFrom p ms old c.args.whole.now.place c.args.whole.now.from ps new u)
    (λ u h. after_stay p ms old now c.args.whole.now.place c.args.whole.now.from ps e.known new u e.stays
    (subst (λ (ks : List Merge). AreCasesFrom p.refuting ks now c.args.whole.now.place c.args.whole.now.from whole 0 front.stop front.lines.items → UnitFrom p ks now c.args.whole.now.place c.args.whole.now.from ps new u) same h
    (cases_there p ms old now c.args.whole.now.place c.args.whole.now.from ps e.known 0 front.stop front.lines.items e.cases)))
    c.others.ensures.leads

pub returns-clause-kept : goal.returns-clause-kept
returns-clause-kept c = let old = c.args.path.now in ap (take (length old.known.items)) c.in_ok-front.ensures.known ∙ front_itself old.known.items

pub returns-clause-leads : goal.returns-clause-leads
returns-clause-leads c =
    let p = c.args.self.now in
    let ms = c.args.congruence.now.merges in
    let old = c.args.path.now in
    let new = c.cases.new.path in
    let ps = c.args.whole.now.parts.now in
    let e = c.in_ok-front.ensures in
    stays_closed p ms old new c.args.whole.now.place c.args.whole.now.from ps c.in_ok-lines.lines e.stays
    (cases_close p.refuting ms old c.args.whole.now.place c.args.whole.now.from ps new c.in_ok-front.front.stop c.in_ok-front.front.lines.items c.in_ok-lines.lines.items e.known c.if-front-count.false c.in_ok-lines.ensures e.cases)
