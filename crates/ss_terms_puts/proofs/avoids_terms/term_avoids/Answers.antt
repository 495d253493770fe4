use Rattle.std.proofs.Common.{length, not, ◌&&◌, ap, ◌∙◌}
use Rattle.std.specs.List.{list_all}
use Rattle.ss_terms.proofs.Trees.{AreTermsBelow-more}
use Rattle.ss_terms_puts.specs.Entries.{term_entry}
use Rattle.ss_terms_puts.proofs.Tables.{app_avoids}
use Rattle.ss_terms_puts.proofs.avoids_terms.term_avoids.Goals as goal

pub all_terms-requires : goal.all_terms-requires
all_terms-requires c =
    let n = rw c.in-App.is at c.term_node.ensures in
    rw c.deref.ensures.value (AreTermsBelow-more c.args.t.0 (length c.args.entries.now) c.requires.before c.in-App.arguments.items n.below)

pub returns-then-not-is_constant : goal.returns-then-not-is_constant
returns-then-not-is_constant c =
    c.all_terms.ensures
    ∙ ap (list_all (term_entry c.args.entries.now)) c.deref.ensures.value
    ∙ ap (λ v. not v && list_all (term_entry c.args.entries.now) c.in-App.arguments.items) c.if-not-is_constant.ensures
    ∙ app_avoids c.args.bank.now c.args.constant.sort c.args.constant.number c.args.entries.now c.requires.entries c.args.t c.in-App.symbol c.in-App.arguments (rw c.in-App.is at c.term_node.ensures) c.requires.before
