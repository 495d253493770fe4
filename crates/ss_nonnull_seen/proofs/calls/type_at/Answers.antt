use Rattle.std.proofs.Common.{ap, sym, ◌∙◌, map}
use Rattle.std.specs.Prelude.{slice_get, option_map}
use Rattle.ss_typed.specs.Tree.{ParamTree}
use Rattle.ss_typed.specs.View.{param}
use Rattle.ss_nonnull_seen.specs.declared.calls.Called.{Called}
use Rattle.ss_nonnull_seen.specs.Called.{called_types}
use Rattle.std.proofs.lemmas.Option.{slice_get-map}
use Rattle.ss_nonnull_seen.proofs.calls.type_at.Goals as goal

pub returns-in-Method : goal.returns-in-Method
returns-in-Method c =
    let f = λ (x : ParamTree). x.ty in
    c.type_of_param.ensures
    ∙ ap (option_map f) c.param_at.ensures
    ∙ sym (slice_get-map f (map param c.in-Method.params.now) c.args.place)
    ∙ sym (ap (λ (d : Called). slice_get (called_types d) c.args.place) c.in-Method.is)
