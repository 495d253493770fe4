use Rattle.std.proofs.Common.{◌∙◌, sym, map}
use Rattle.ss_ast.specs.Expressions.{expr_tree}
use Rattle.ss_tables_scopes.proofs.Counts.{count_is}
use Rattle.std.proofs.lemmas.List.{length-map}
use Rattle.ss_tables_scopes.proofs.statics.count.Goals as goal

pub returns : goal.returns
returns c = sym (count_is (map expr_tree c.args.list.now) ∙ length-map c.args.list.now expr_tree)
