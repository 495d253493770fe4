use Rattle.std.proofs.Common.{◌∙◌}
use Rattle.indexmap.specs.IndexMap.{keys}
use Rattle.ss_terms_interned.proofs.Places.{entry_added, keys_differ}
use Rattle.ss_terms.specs.Forms.{term_shape}
use Rattle.ss_terms.proofs.Same.{is_same_term, is_same_term-Decides}
use Rattle.ss_terms.proofs.index.add_term.Goals as goal

pub returns-clause-added : goal.returns-clause-added
returns-clause-added c =
    c.in_ok-insert.ensures.entries
    ∙ entry_added is_same_term c.args.terms.now.entries c.args.term c.args.beside
    (keys_differ term_shape is_same_term is_same_term-Decides (keys c.args.terms.now) c.args.term c.requires)
