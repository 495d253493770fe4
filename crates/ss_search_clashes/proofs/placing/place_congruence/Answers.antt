use Rattle.std.proofs.Common.{◌≡◌, ◌+◌, Some, length, refl}
use Rattle.std.specs.Prelude.{slice_get}
use Rattle.ss_logic_means.specs.Steps as tree
use Rattle.ss_terms.specs.Forms.{term_at}
use Rattle.ss_terms.specs.Bank.{number}
use Rattle.ss_deriv.specs.declared.line.Line.TheVariants.{Cong}
use Rattle.ss_equality_rules.specs.declared.Join.{Join}
use Rattle.ss_search_clashes.specs.Placed.{IsPlaced}
use Rattle.ss_search_clashes.proofs.Places.{then_both}
use Rattle.ss_search_clashes.proofs.Written.{cong_line, line_pushed}
use Rattle.ss_search_clashes.proofs.Congruent.{left_inside, right_inside, arguments_paired, arguments_placed}
use Rattle.ss_search_clashes.proofs.placing.place_congruence.Goals as goal

pub arguments-xs-requires : goal.arguments-xs-requires
arguments-xs-requires c = left_inside c.args.context.now.bank.now c.args.context.now.congruence.now.terms c.requires.forms c.args.context.now.congruence.now.merges c.requires.ends.terms c.args.context.now.joins.now c.requires.ends.log c.requires.caused c.args.number c.join_at-join.result c.join_at-join.ensures (c.requires.congruent c.join_at-join.result c.join_at-join.ensures)

pub arguments-ys-requires : goal.arguments-ys-requires
arguments-ys-requires c = right_inside c.args.context.now.bank.now c.args.context.now.congruence.now.terms c.requires.forms c.args.context.now.congruence.now.merges c.requires.ends.terms c.args.context.now.joins.now c.requires.ends.log c.requires.caused c.args.number c.join_at-join.result c.join_at-join.ensures (c.requires.congruent c.join_at-join.result c.join_at-join.ensures)

pub chain_arguments-requires-clause-paired : goal.chain_arguments-requires-clause-paired
chain_arguments-requires-clause-paired c = arguments_paired c.args.context.now.bank.now c.args.context.now.congruence.now.terms c.requires.forms c.args.context.now.congruence.now.merges c.requires.ends.terms c.args.context.now.joins.now c.requires.ends.log c.requires.caused c.args.number c.join_at-join.result c.join_at-join.ensures (c.requires.congruent c.join_at-join.result c.join_at-join.ensures)
    c.arguments-xs.result.now c.arguments-ys.result.now c.arguments-xs.ensures.arguments c.arguments-ys.ensures.arguments

pub returns : goal.returns
returns c =
    let b = c.args.context.now.bank.now in
    let join = c.join_at-join.result in
    let left = left_inside c.args.context.now.bank.now c.args.context.now.congruence.now.terms c.requires.forms c.args.context.now.congruence.now.merges c.requires.ends.terms c.args.context.now.joins.now c.requires.ends.log c.requires.caused c.args.number c.join_at-join.result c.join_at-join.ensures (c.requires.congruent c.join_at-join.result c.join_at-join.ensures) in
    let right = right_inside c.args.context.now.bank.now c.args.context.now.congruence.now.terms c.requires.forms c.args.context.now.congruence.now.merges c.requires.ends.terms c.args.context.now.joins.now c.requires.ends.log c.requires.caused c.args.number c.join_at-join.result c.join_at-join.ensures (c.requires.congruent c.join_at-join.result c.join_at-join.ensures) in
    let line = Cong (number join.left) (number join.right) c.in_ok-equalities.equalities in
    let said = tree.Cong (term_at b (number join.left)) (term_at b (number join.right)) c.in_ok-equalities.equalities.items in
    then_both c.add.result (λ p. p ≡ c.args.context.now.known + length c.chain_arguments.new.lines.items)
    (λ p. (e : Join) → slice_get c.args.context.now.joins.now c.args.number ≡ Some e → IsPlaced b c.args.context.now.congruence.now.terms c.args.context.now.congruence.now.merges c.args.context.now.joins.now c.args.places.now c.args.context.now.known e c.args.lines.now.items c.add.new.lines.items p)
    c.add.ensures.place c.add.ensures.added (λ p place_is added e at.
    arguments_placed c.args.context.now.bank.now c.args.context.now.congruence.now.terms c.requires.forms c.args.context.now.congruence.now.merges c.requires.ends.terms c.args.context.now.joins.now c.requires.ends.log c.requires.caused c.args.number c.join_at-join.result c.join_at-join.ensures (c.requires.congruent c.join_at-join.result c.join_at-join.ensures)
    c.arguments-xs.result.now c.arguments-ys.result.now c.arguments-xs.ensures.arguments c.arguments-ys.ensures.arguments e at c.args.places.now c.args.context.now.known c.args.lines.now.items c.chain_arguments.new.lines.items c.add.new.lines.items
    c.in_ok-equalities.equalities.items p c.in_ok-equalities.ensures
    (line_pushed b c.chain_arguments.new.lines.items c.add.new.lines.items line said added (cong_line b (number join.left) (number join.right) c.in_ok-equalities.equalities c.in_ok-equalities.equalities.items left right refl)) place_is)
