use Rattle.std.proofs.Common.{◌++◌, map, ap, ◌∙◌}
use Rattle.std.specs.Prelude.{[], if◌then◌else◌}
use Rattle.ss_core.specs.View.{default_tree}
use Rattle.ss_typed.specs.View as typed
use Rattle.ss_expand_rules.specs.Contracts.{of_params, first_param, of_this_at_entry}
use Rattle.ss_expand_bodies.specs.Conditions.{defaults_of}
use Rattle.ss_expand_bodies.proofs.defaults.default_entry.Goals as goal

pub returns : goal.returns
returns c =
    let b = typed.body c.args.body.now in
    let own = if b.flags.no_default_contract then [] else of_this_at_entry b c.args.class.0 in
    let before = defaults_of c.add_of_this.new.conditions in
    c.in_ok-add_of_params.ensures
    ∙ ap (λ x. before ++ of_params b x (map typed.param c.deref.result.now)) c.first_param.ensures
    ∙ ap (λ ps. before ++ of_params b (first_param b) (map typed.param ps)) c.deref.ensures.value
    ∙ ap (λ ds. ds ++ of_params b (first_param b) b.params) (c.in_ok-add_of_this.ensures ∙ ap (λ ds. map default_tree ds ++ own) c.new-conditions.ensures.items)
