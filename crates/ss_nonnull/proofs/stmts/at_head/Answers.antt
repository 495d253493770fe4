use Rattle.std.proofs.Common.{ℕ, List, ap, ◌∙◌}
use Rattle.std.specs.Prelude.{option_map}
use Rattle.ss_typed.specs.View.{stmt_of}
use Rattle.ss_paths.specs.Sets.{among}
use Rattle.ss_nonnull_seen.specs.Codes.{path_of}
use Rattle.ss_nonnull_seen.specs.Paths.{untold}
use Rattle.ss_nonnull.proofs.Statements.{head_is}
use Rattle.ss_nonnull.proofs.stmts.at_head.Goals as goal

pub returns : goal.returns
returns c =
    let k = path_of c.args.known in
    head_is (stmt_of c.args.body.now) c.in_ok-locals.locals.items k _ c.in_ok-locals.ensures
    (c.in_ok-head.ensures ∙ ap (λ (xs : List ℕ). option_map (untold (among xs)) k) c.deref.ensures.value)
