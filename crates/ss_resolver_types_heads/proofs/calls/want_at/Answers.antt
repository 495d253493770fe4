use Rattle.std.proofs.Common.{ap, sym, ◌∙◌, map}
use Rattle.std.specs.Prelude.{slice_get, option_map}
use Rattle.ss_ast.specs.Programs.{ParamTree, param_tree}
use Rattle.ss_tables.specs.Types.{written_type}
use Rattle.ss_tables_lookup.specs.Classes.{trees}
use Rattle.ss_resolver_types_heads.specs.declared.calls.Called.{Called}
use Rattle.ss_resolver_types_heads.specs.Wants.{OfType}
use Rattle.ss_resolver_types_heads.specs.Calls.{wants_of}
use Rattle.ss_resolver_types_heads.specs.Codes.{called_of}
use Rattle.std.proofs.lemmas.Option.{slice_get-map}
use Rattle.ss_resolver_types_heads.proofs.calls.want_at.Goals as goal

pub returns-in-Method : goal.returns-in-Method
returns-in-Method c =
    let cs = trees c.args.tables.now in
    let f = λ (p : ParamTree). OfType (written_type cs p.ty) in
    c.param_want.ensures
    ∙ ap (option_map f) c.param_at.ensures
    ∙ sym (slice_get-map f (map param_tree c.in-Method.params.now) c.args.i)
    ∙ sym (ap (λ (d : Called). slice_get (wants_of (called_of cs d)) c.args.i) c.in-Method.is)
