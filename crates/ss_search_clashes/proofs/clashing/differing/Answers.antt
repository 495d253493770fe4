use Rattle.std.proofs.Common.{◌≡◌, ◌∷◌, ◌++◌, []}
use Rattle.std.proofs.lemmas.Result.{IfOk-weaker}
use Rattle.ss_terms.specs.Forms.{term_at, formula_at}
use Rattle.ss_deriv.specs.declared.line.Line.TheVariants.{Clash}
use Rattle.ss_search_clashes.specs.Numbered.{class_of}
use Rattle.ss_search_clashes.specs.Cases.{IsAt, CloseCase}
use Rattle.ss_search_clashes.proofs.Classes.{equal_terms}
use Rattle.ss_search_clashes.proofs.Saying.{differs_literal, differing_classes}
use Rattle.ss_search_clashes.proofs.ClashingEnding.{differing_closes}
use Rattle.ss_search_clashes.proofs.clashing.differing.Goals as goal

pub different_terms-equality-requires-clause-differ : goal.different_terms-equality-requires-clause-differ
different_terms-equality-requires-clause-differ c =
    let d = c.requires.differs in
    differs_literal (class_of c.args.context.now.bank.now d.classes) (formula_at c.args.context.now.bank.now c.args.fact.formula) d.holds

pub equate-requires-clause-equal : goal.equate-requires-clause-equal
equate-requires-clause-equal c =
    let b = c.args.context.now.bank.now in
    let d = c.requires.differs in
    let s = c.different_terms-equality.result in
    let known = c.different_terms-equality.ensures in
    equal_terms b c.numbers_are_apart.ensures c.args.context.now.congruence.now c.requires.forms d.classes d.are s.left s.right known.left known.right
    (differing_classes (class_of b d.classes) (formula_at b c.args.fact.formula) (term_at b s.left) (term_at b s.right) known.differ d.holds)

pub returns : goal.returns
returns c =
    let b = c.args.context.now.bank.now in
    let ms = c.args.context.now.congruence.now.merges in
    let s = c.different_terms-equality.result in
    IfOk-weaker c.end.result (λ v. v.items ≡ c.in_ok-shown.shown.lines.items ++ Clash c.in_ok-shown.shown.place c.args.fact.place ∷ []) (λ v. CloseCase b ms c.args.context.now.count (λ cs fs. IsAt cs b fs c.args.fact) v.items)
    (λ v e. differing_closes b ms c.args.context.now.count s.left s.right c.args.fact c.different_terms-equality.ensures.differ c.in_ok-shown.shown.lines.items c.in_ok-shown.shown.place c.in_ok-shown.ensures v.items e)
    c.end.ensures
