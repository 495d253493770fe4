use Rattle.std.proofs.Common.{◌∙◌}
use Rattle.ss_terms.specs.Forms.{term_at}
use Rattle.ss_rules_basic.proofs.Shapes.{owner_tested}
use Rattle.ss_rules_reads.proofs.owners.is_same_owner.Goals as goal

pub returns : goal.returns
returns c = c.is_same_term.ensures ∙ owner_tested (term_at c.args.b.now c.args.s) (term_at c.args.b.now c.args.x) (term_at c.args.b.now c.args.y)
