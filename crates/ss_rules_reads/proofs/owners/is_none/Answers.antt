use Rattle.std.proofs.Common.{◌∙◌}
use Rattle.ss_terms.specs.Forms.{term_at}
use Rattle.ss_rules_basic.proofs.Shapes.{null_tested}
use Rattle.ss_rules_reads.proofs.owners.is_none.Goals as goal

pub returns : goal.returns
returns c = c.is_null.ensures ∙ null_tested (term_at c.args.b.now c.args.t)
