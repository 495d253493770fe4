use Rattle.std.proofs.Common.{arith, length}
use Rattle.ss_terms.proofs.Trees.{AreTermsBelow-more}
use Rattle.ss_check_steps.proofs.reads.is_congruent_at.Goals as goal

pub is_congruent_app-requires-clause-left : goal.is_congruent_app-requires-clause-left
is_congruent_app-requires-clause-left c =
    let n = rw c.in-App.is at c.term_node.ensures in
    rw c.deref.ensures.value (AreTermsBelow-more c.args.x.0 (length c.args.bank.now.terms) (omega (arith, c.requires.left)) c.in-App.xs.items n.below)
