use Rattle.std.proofs.Common.{◌∙◌, sym, ap, is_some}
use Rattle.indexmap.specs.IndexMap.{keys}
use Rattle.ss_terms_interned.proofs.Places.{form_found, form_absent, none_looked_up, none_is, if_some}
use Rattle.ss_terms.specs.Forms.{shape_of}
use Rattle.ss_terms.proofs.Same.{is_same_formula, is_same_formula-Decides}
use Rattle.ss_terms.proofs.index.place_of_formula.Goals as goal

pub returns-clause-found : goal.returns-clause-found
returns-clause-found c = if_some _ c.get_index_of.result (λ k e.
    form_found shape_of is_same_formula is_same_formula-Decides (keys c.args.formulas.now) c.args.formula.now k (sym c.get_index_of.ensures.index ∙ e))

pub returns-clause-absent : goal.returns-clause-absent
returns-clause-absent c = λ none.
    form_absent shape_of is_same_formula is_same_formula-Decides (keys c.args.formulas.now) c.args.formula.now
    (none_looked_up (is_same_formula c.args.formula.now) c.args.formulas.now.entries (none_is _ (sym c.get_index_of.ensures.found ∙ ap is_some none)))
