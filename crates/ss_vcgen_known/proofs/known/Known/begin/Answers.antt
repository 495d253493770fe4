use Rattle.std.proofs.Common.{sym, ap}
use Rattle.std.proofs.lemmas.Result.{IfOk-equal}
use Rattle.ss_core.specs.View as view
use Rattle.ss_store_rules.specs.NonNull.{with_base}
use Rattle.ss_vcgen_known.specs.Views.{known_of}
use Rattle.ss_vcgen_known.proofs.known.Known.begin.Goals as goal

pub returns-in-Constructor : goal.returns-in-Constructor
returns-in-Constructor c =
    IfOk-equal c.begin_above.result _ _ _ c.begin_above.ensures
    (ap (λ t. with_base (view.core c.args.core.now) (view.body c.args.body.now) (view.callee_tree t) (known_of c.args.self.now)) (sym c.in-Constructor.is))
