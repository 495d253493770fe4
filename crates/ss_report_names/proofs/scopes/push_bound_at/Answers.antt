use Rattle.std.proofs.Common.{◌++◌, ◌<◌, ◌≤◌, length, take, ap, sym, ◌∙◌, arith}
use Rattle.std.proofs.lemmas.List.{append-nil}
use Rattle.ss_core.specs.View as view
use Rattle.ss_report_names.specs.Names.{marked, local_names}
use Rattle.ss_report_names.specs.Tables.{texts}
use Rattle.ss_report_names.proofs.NameTexts.{marked_is, written_as, bound_text, past_text, length-texts, length_front}
use Rattle.ss_report_names.proofs.scopes.push_bound_at.Goals as goal

pub returns-then-k-context : goal.returns-then-k-context
returns-then-k-context c =
    let s = c.args.context.now in
    let ls = local_names (view.body s.locals.now.body.now) in
    let past : length (texts s.bound.now) ≤ c.args.k = omega (arith, length-texts s.bound.now) in
    rw (past_text ls (texts s.bound.now) c.args.k c.args.number c.requires past) (sym (append-nil c.args.out.now.items))

pub returns : goal.returns
returns c =
    let s = c.args.context.now in
    let ls = local_names (view.body s.locals.now.body.now) in
    let bs = texts s.bound.now in
    let front = ls ++ take c.args.k bs in
    let inside : c.args.k < length bs = omega (arith, length-texts s.bound.now) in
    written_as _ _ _ _ _
    (marked_is front c.bound_at-name.result.now c.is_taken-repeated.result c.args.number c.is_taken-repeated.ensures (c.requires ∙ sym (length_front ls bs c.args.k inside))
    ∙ ap (marked front) c.bound_at-name.ensures
    ∙ sym (bound_text ls bs c.args.k c.args.number c.requires inside))
    c.push_marked.ensures
