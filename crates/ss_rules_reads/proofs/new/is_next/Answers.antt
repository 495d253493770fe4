use Rattle.std.proofs.Common.{◌∙◌, sym}
use Rattle.ss_terms.specs.Forms.{term_at}
use Rattle.ss_rules_basic.proofs.Shapes.{next_here, no_next}
use Rattle.ss_rules_reads.proofs.new.is_next.Goals as goal

pub returns-in-Some : goal.returns-in-Some
returns-in-Some c = c.is_same_term.ensures ∙ next_here (term_at c.args.b.now c.args.t) (term_at c.args.b.now c.in-Some.r) (term_at c.args.b.now c.args.s) c.in-Some.ensures.1

pub returns-in-None : goal.returns-in-None
returns-in-None c = sym (no_next (term_at c.args.b.now c.args.t) (term_at c.args.b.now c.args.s) c.in-None.ensures)
