use Rattle.std.proofs.Common.{◌≡◌, ◌+◌, ◌++◌, length, ap, ◌∙◌, arith}
use Rattle.std.proofs.lemmas.List.{length-append}
use Rattle.ss_core.specs.View as view
use Rattle.ss_report_names.specs.Names.{is_among, local_names}
use Rattle.ss_report_names.specs.Tables.{texts}
use Rattle.ss_report_names.specs.Contexts.{names_in}
use Rattle.ss_report_names.proofs.NameTexts.{marked_is, written_as, table_length, length-texts, take-all}
use Rattle.ss_report_names.proofs.scopes.push_bound.Goals as goal

pub returns : goal.returns
returns c =
    let s = c.args.context.now in
    let ls = local_names (view.body s.locals.now.body.now) in
    let bs = s.bound.now in
    let counted : c.len-count.result ≡ length ls = omega (arith, table_length s.locals.now.table.texts.items ls s.locals.now.written.texts) in
    let together : c.len-count.result + length bs ≡ length (ls ++ texts bs) = omega (arith, length-append ls (texts bs), length-texts bs) in
    written_as _ _ _ _ _
    (marked_is (names_in s) c.args.name.now c.is_taken-repeated.result (c.len-count.result + length bs) (c.is_taken-repeated.ensures ∙ ap (λ ts. is_among (ls ++ ts) c.args.name.now) (take-all bs)) together)
    c.push_marked.ensures
