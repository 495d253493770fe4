use Rattle.std.proofs.Common.{◌<◌, length, arith, sym, ◌∙◌}
use Rattle.ss_core.specs.View as view
use Rattle.ss_report_names.specs.Names.{local_names}
use Rattle.ss_report_names.specs.Tables.{texts}
use Rattle.ss_report_names.proofs.NameTexts.{written_as, own_text}
use Rattle.ss_report_names.proofs.scopes.push_local.Goals as goal

pub returns-then-x-count : goal.returns-then-x-count
returns-then-x-count c =
    let s = c.args.context.now in
    let ls = local_names (view.body s.locals.now.body.now) in
    let inside : c.args.x < length ls = omega arith in
    written_as _ _ _ _ _ (c.text.ensures ∙ sym (own_text ls (texts s.bound.now) c.args.x inside)) c.push_bytes.ensures

pub push_bound_at-requires : goal.push_bound_at-requires
push_bound_at-requires c = omega arith
