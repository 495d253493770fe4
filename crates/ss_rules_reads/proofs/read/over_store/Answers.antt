use Rattle.std.proofs.Common.{◌∙◌, sym, ap, subst, arith, length}
use Rattle.std.specs.Prelude.{IfOk}
use Rattle.ss_core.specs.View as view
use Rattle.ss_logic.specs.Terms.{App, terms_from}
use Rattle.ss_terms.specs.Forms.{HasTerms, symbol_of, term_at, terms_at}
use Rattle.ss_terms.proofs.Trees.{AreTermsBelow-more}
use Rattle.ss_terms.specs.Numbered.{IsNumberOf}
use Rattle.ss_rules_basic.specs.Looks.{look_in}
use Rattle.ss_rules_reads.proofs.Instances.{over_app, over_unread, over_unsorted}
use Rattle.ss_rules_reads.proofs.read.over_store.Goals as goal

pub returns-then-not-looks_at_store-clause-at : goal.returns-then-not-looks_at_store-clause-at
returns-then-not-looks_at_store-clause-at c =
    let b = c.args.b.now in
    over_unread (view.classes c.args.classes.now) (look_in b c.args.look) (term_at b c.args.s) (sym (c.if-not-looks_at_store.ensures b))

pub returns-then-not-is_well_sorted-clause-at : goal.returns-then-not-is_well_sorted-clause-at
returns-then-not-is_well_sorted-clause-at c =
    let b = c.args.b.now in
    let cs = view.classes c.args.classes.now in
    over_unsorted cs (look_in b c.args.look) (term_at b c.args.s) (sym (c.if-not-is_well_sorted.ensures cs c.requires.bank))

pub over_form-requires-clause-arguments : goal.over_form-requires-clause-arguments
over_form-requires-clause-arguments c =
    let n = rw c.in-App.is at c.term_node.ensures in
    let same = c.deref-in-App.ensures.value ∙ c.in_ok-arguments-in-App.ensures.items ∙ c.deref.ensures.value in
    subst (HasTerms c.args.b.now) (sym same) (AreTermsBelow-more c.args.s.0 (length c.args.b.now.terms) (omega (arith, c.requires.store)) c.in-App.arguments.items n.below)

pub returns-in_ok-arguments-in-App-clause-at : goal.returns-in_ok-arguments-in-App-clause-at
returns-in_ok-arguments-in-App-clause-at c =
    let b = c.args.b.now in
    let cs = view.classes c.args.classes.now in
    let f = symbol_of c.in-App.symbol in
    let n = rw c.in-App.is at c.term_node.ensures in
    let same = c.deref-in-App.ensures.value ∙ c.in_ok-arguments-in-App.ensures.items ∙ c.deref.ensures.value in
    subst (λ x. IfOk c.over_form.result (λ r. IsNumberOf c.over_form.new.b r x))
    (over_app cs (look_in b c.args.look) (term_at b c.args.s) f (terms_at b c.deref-in-App.result.now) (n.built ∙ ap (λ ts. App f (terms_from (terms_at b ts))) (sym same))
    (sym (c.if-not-looks_at_store.ensures b)) c.requires.fits (sym (c.if-not-is_well_sorted.ensures cs c.requires.bank)))
    c.over_form.ensures.at
