use Rattle.std.proofs.Common.{Bool, ap, ◌∙◌}
use Rattle.ss_core.specs.View as view
use Rattle.ss_store_rules.specs.NonNull.{Known, is_non_null_type, result_of, with_kept, with_base}
use Rattle.ss_vcgen_known.specs.Views.{known_of}
use Rattle.ss_vcgen_known.proofs.known.Known.call.Goals as goal

pub returns : goal.returns
returns c =
    let k = known_of c.args.self.now in
    c.in_ok-begin.ensures
    ∙ ap (λ (j : Known). with_base (view.core c.args.core.now) (view.body c.args.body.now) (view.callee_tree c.args.callee.now) j)
    (c.in_ok-keep.ensures
    ∙ ap (λ (n : Bool). with_kept c.args.x n k)
    (c.is_non_null_type-non_null.ensures ∙ ap is_non_null_type (c.result_of-ty.ensures ∙ ap result_of c.callee_of-entered.ensures)))
