use Rattle.std.proofs.Common.{ℕ, Bool, ap, ◌∙◌}
use Rattle.std.proofs.lemmas.Result.{IfOk-equal}
use Rattle.ss_core.specs.View as view
use Rattle.ss_store_rules.specs.NonNull.{is_field_above}
use Rattle.ss_vcgen_known.specs.Steps.{with_fields}
use Rattle.ss_vcgen_known.specs.Views.{known_of}
use Rattle.ss_vcgen_known.proofs.Giving.{above_more, all_more}
use Rattle.ss_vcgen_known.proofs.known.Known.begin_above.Goals as goal

pub returns-then-delayed : goal.returns-then-delayed
returns-then-delayed c =
    let k = known_of c.args.self.now in
    let above = is_field_above (view.core c.args.core.now) (view.body c.args.body.now) in
    IfOk-equal c.give_above.result _ _ _ c.give_above.ensures
    (ap (λ (fs : ℕ → Bool). with_fields fs k) (above_more k.fields above c.args.body.now.flags.delayed c.if-delayed.true))

pub returns-else-delayed : goal.returns-else-delayed
returns-else-delayed c =
    let k = known_of c.args.self.now in
    let above = is_field_above (view.core c.args.core.now) (view.body c.args.body.now) in
    c.give_all.ensures
    ∙ ap (λ (fs : ℕ → Bool). with_fields fs k) (all_more k.fields above c.args.body.now.flags.delayed c.if-delayed.false)
