use Rattle.std.proofs.Common.{map, take, sym, ap, ◌∙◌}
use Rattle.std.proofs.lemmas.List.{take-map}
use Rattle.ss_typed.specs.Tree.{stmt_trees}
use Rattle.ss_typed.specs.View.{stmt_of, typed}
use Rattle.ss_delayed.proofs.Runs.{opening_with_base, opening_without_base}
use Rattle.ss_delayed.proofs.opening.count_in_block.Goals as goal

pub returns-then-has_base-clause-told : goal.returns-then-has_base-clause-told
returns-then-has_base-clause-told c =
    opening_with_base (typed c.args.fields.now.program.now) c.args.class.0 (stmt_trees (map stmt_of c.args.statements.now)) c.if-has_base.ensures ∙ c.count_before_base.ensures.told

pub returns-clause-told : goal.returns-clause-told
returns-clause-told c =
    let ss = c.args.statements.now in
    opening_without_base (typed c.args.fields.now.program.now) c.args.class.0 (map stmt_of ss) c.if-has_base.ensures
    ∙ ap (λ n. stmt_trees (take n (map stmt_of ss))) (sym c.count_first.ensures.counted)
    ∙ ap stmt_trees (take-map stmt_of c.count_first.result ss)
