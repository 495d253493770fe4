use Rattle.std.proofs.Common.{◌∙◌, sym, ap, is_some}
use Rattle.indexmap.specs.IndexMap.{keys}
use Rattle.ss_terms_interned.proofs.Places.{form_found, form_absent, none_looked_up, none_is, if_some}
use Rattle.ss_terms.specs.Forms.{term_shape}
use Rattle.ss_terms.proofs.Same.{is_same_term, is_same_term-Decides}
use Rattle.ss_terms.proofs.index.place_of_term.Goals as goal

pub returns-clause-found : goal.returns-clause-found
returns-clause-found c = if_some _ c.get_index_of.result (λ k e.
    form_found term_shape is_same_term is_same_term-Decides (keys c.args.terms.now) c.args.term.now k (sym c.get_index_of.ensures.index ∙ e))

pub returns-clause-absent : goal.returns-clause-absent
returns-clause-absent c = λ none.
    form_absent term_shape is_same_term is_same_term-Decides (keys c.args.terms.now) c.args.term.now
    (none_looked_up (is_same_term c.args.term.now) c.args.terms.now.entries (none_is _ (sym c.get_index_of.ensures.found ∙ ap is_some none)))
