use Rattle.std.proofs.Common.{◌∙◌}
use Rattle.indexmap.specs.IndexMap.{keys}
use Rattle.ss_terms_interned.proofs.Places.{entry_added, keys_differ}
use Rattle.ss_terms.specs.Forms.{shape_of}
use Rattle.ss_terms.proofs.Same.{is_same_formula, is_same_formula-Decides}
use Rattle.ss_terms.proofs.index.add_formula.Goals as goal

pub returns-clause-added : goal.returns-clause-added
returns-clause-added c =
    c.in_ok-insert.ensures.entries
    ∙ entry_added is_same_formula c.args.formulas.now.entries c.args.formula c.args.beside
    (keys_differ shape_of is_same_formula is_same_formula-Decides (keys c.args.formulas.now) c.args.formula c.requires)
