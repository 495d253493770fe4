use Rattle.std.proofs.Common.{◌≡◌, ◌∷◌, ◌++◌, []}
use Rattle.std.proofs.lemmas.Result.{IfOk-weaker}
use Rattle.ss_deriv.specs.declared.line.Line.TheVariants.{Clash}
use Rattle.ss_search_clashes.specs.Cases.{CloseCase}
use Rattle.ss_search_clashes.proofs.Classes.{equal_terms}
use Rattle.ss_search_clashes.proofs.ClashingEnding.{values_close}
use Rattle.ss_search_clashes.proofs.clashing.equal_values.Goals as goal

pub equate-requires-clause-left : goal.equate-requires-clause-left
equate-requires-clause-left c = c.requires.values.holds.left

pub equate-requires-clause-right : goal.equate-requires-clause-right
equate-requires-clause-right c = c.requires.values.holds.right

pub equate-requires-clause-equal : goal.equate-requires-clause-equal
equate-requires-clause-equal c =
    let d = c.requires.values in
    equal_terms c.args.context.now.bank.now c.numbers_are_apart.ensures c.args.context.now.congruence.now c.requires.forms d.classes d.are c.args.s c.args.t d.holds.left d.holds.right d.holds.same

pub returns : goal.returns
returns c =
    let b = c.args.context.now.bank.now in
    let d = c.requires.values.holds in
    IfOk-weaker c.end.result (λ v. v.items ≡ c.in_ok-shown.shown.lines.items ++ Clash c.in_ok-shown.shown.place c.in_ok-shown.shown.place ∷ []) (λ v. CloseCase b c.args.context.now.congruence.now.merges c.args.context.now.count (λ cs fs. Unit {0}) v.items)
    (λ v e. values_close b c.args.context.now.congruence.now.merges c.args.context.now.count c.numbers_are_apart.ensures c.args.s c.args.t d.left d.right d.left_value d.right_value d.apart c.in_ok-shown.shown.lines.items c.in_ok-shown.shown.place c.in_ok-shown.ensures v.items e)
    c.end.ensures
