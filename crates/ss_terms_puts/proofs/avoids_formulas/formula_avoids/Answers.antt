use Rattle.std.proofs.Common.{length, ap, ◌∙◌}
use Rattle.std.specs.List.{list_all}
use Rattle.ss_terms.proofs.Trees.{AreBelow-more}
use Rattle.ss_terms_puts.specs.Entries.{term_entry, formula_entry}
use Rattle.ss_terms_puts.proofs.Tables.{literal_avoids, and_avoids, or_avoids}
use Rattle.ss_terms_puts.proofs.avoids_formulas.formula_avoids.Goals as goal

pub all_formulas-requires : goal.all_formulas-requires
all_formulas-requires c =
    let n = rw c.in-And.is at c.formula_node.ensures in
    rw c.deref-in-And.ensures.value (AreBelow-more c.args.f.0 (length c.args.entries.now) c.requires.before c.in-And.parts.items n.below)

pub all_formulas-requires-in-Or : goal.all_formulas-requires-in-Or
all_formulas-requires-in-Or c =
    let n = rw c.in-Or.is at c.formula_node.ensures in
    rw c.deref-in-Or.ensures.value (AreBelow-more c.args.f.0 (length c.args.entries.now) c.requires.before c.in-Or.parts.items n.below)

pub returns-in-Literal : goal.returns-in-Literal
returns-in-Literal c =
    c.all_terms.ensures
    ∙ ap (list_all (term_entry c.args.terms.now)) c.deref.ensures.value
    ∙ literal_avoids c.args.bank.now c.args.constant.sort c.args.constant.number c.args.terms.now c.requires.terms c.requires.all c.args.f c.in-Literal.holds c.in-Literal.predicate c.in-Literal.arguments
    (rw c.in-Literal.is at c.formula_node.ensures)

pub returns-in-And : goal.returns-in-And
returns-in-And c =
    c.all_formulas.ensures
    ∙ ap (list_all (formula_entry c.args.entries.now)) c.deref-in-And.ensures.value
    ∙ and_avoids c.args.bank.now c.args.constant.sort c.args.constant.number c.args.entries.now c.requires.entries c.args.f c.in-And.parts (rw c.in-And.is at c.formula_node.ensures) c.requires.before

pub returns-in-Or : goal.returns-in-Or
returns-in-Or c =
    c.all_formulas-in-Or.ensures
    ∙ ap (list_all (formula_entry c.args.entries.now)) c.deref-in-Or.ensures.value
    ∙ or_avoids c.args.bank.now c.args.constant.sort c.args.constant.number c.args.entries.now c.requires.entries c.args.f c.in-Or.parts (rw c.in-Or.is at c.formula_node.ensures) c.requires.before
