use Rattle.std.proofs.Common.{◌+◌, List, length, take, sym, ◌∙◌, ap, subst, arith}
use Rattle.std.proofs.lemmas.Result.{IfOk-weaker}
use Rattle.ss_terms.specs.declared.forms.FormulaId.{FormulaId}
use Rattle.ss_terms.specs.Forms.{Forms, HasFormulas}
use Rattle.ss_equality_rules.specs.declared.Merge.{Merge}
use Rattle.ss_search_reached.proofs.Fronts.{front_itself}
use Rattle.ss_search_reached.proofs.Lists.{below_more}
use Rattle.ss_search_reached.proofs.Names.{ok_then}
use Rattle.ss_search_reaching.specs.Refuting.{bank_of, or_of, AreCasesFrom}
use Rattle.ss_search_reaching.specs.Units.{UnitFrom}
use Rattle.ss_search_reaching.proofs.Resolving.{two_open, stays_open, after_stay, cases_there}
use Rattle.ss_search_reaching.proofs.branches.Beside.others.Goals as goal

pub returns-then-back-count : goal.returns-then-back-count
returns-then-back-count c =
    let p = c.args.self.now in
    let ms = c.args.congruence.now.merges in
    let old = c.args.path.now in
    let new = c.cases.new.path in
    let ps = c.args.whole.now.parts.now in
    let e = c.in_ok-back.ensures in
    let test = c.if-back-count.true in
    record {
      congruence = e.congruence;
      kept = ap (take (length old.known.items)) e.known ∙ front_itself old.known.items;
      branch = two_open p c.args.congruence.now c.requires.beside ps c.args.part c.in_ok-back.back.stop (let l = e.later in omega (arith, l)) test c.requires.holds (e.holds test);
      leads = λ front. stays_open p ms old new c.args.whole.now.place c.args.whole.now.from ps e.stays;
    }

pub one-requires-clause-has : goal.one-requires-clause-has
one-requires-clause-has c = subst (λ (b : Forms). HasFormulas b c.args.whole.now.parts.now) (sym c.requires.beside.bank) (below_more c.args.whole.now.bound _ c.args.whole.now.parts.now c.requires.in_bank c.requires.below)

pub returns-clause-kept : goal.returns-clause-kept
returns-clause-kept c =
    let old = c.args.path.now in
    ok_then c.one.result (λ h. ap (λ (xs : List FormulaId). take (length xs) c.one.new.path.known.items) (sym c.in_ok-back.ensures.known) ∙ h ∙ c.in_ok-back.ensures.known) c.one.ensures.kept

pub returns-clause-leads : goal.returns-clause-leads
returns-clause-leads c =
    let p = c.args.self.now in
    let ms = c.args.congruence.now.merges in
    let old = c.args.path.now in
    let now = c.cases.new.path in
    let new = c.one.new.path in
    let ps = c.args.whole.now.parts.now in
    let e = c.in_ok-back.ensures in
    let whole = or_of (bank_of p.refuting) ps in
    IfOk-weaker c.one.result
    (λ u. (ks : List Merge) → AreCasesFrom p.refuting ks now c.args.whole.now.place c.args.whole.now.from whole 0 c.args.part c.args.front.items → AreCasesFrom p.refuting ks now c.args.whole.now.place c.args.whole.now.from whole (c.args.part + 1) (length ps) c.in_ok-back.back.lines.items → UnitFrom p ks now c.args.whole.now.place c.args.whole.now.from ps new u)
    (λ u. AreCasesFrom p.refuting ms old c.args.whole.now.place c.args.whole.now.from whole 0 c.args.part c.args.front.items → UnitFrom p ms old c.args.whole.now.place c.args.whole.now.from ps new u)
    (λ u h front. after_stay p ms old now c.args.whole.now.place c.args.whole.now.from ps e.known new u e.stays
    (h ms (cases_there p ms old now c.args.whole.now.place c.args.whole.now.from ps e.known 0 c.args.part c.args.front.items front)
    (cases_there p ms old now c.args.whole.now.place c.args.whole.now.from ps e.known (c.args.part + 1) (length ps) c.in_ok-back.back.lines.items
    (subst (λ n. AreCasesFrom p.refuting ms old c.args.whole.now.place c.args.whole.now.from whole (c.args.part + 1) n c.in_ok-back.back.lines.items) (omega (arith, c.if-back-count.false, e.within)) e.cases))))
    c.one.ensures.leads
