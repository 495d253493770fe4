use Rattle.std.proofs.Common.{arith, length}
use Rattle.ss_terms.proofs.Trees.{AreTermsBelow-more}
use Rattle.ss_check_steps.proofs.reads.is_congruent_app.Goals as goal

pub is_congruent_apps-requires-clause-right : goal.is_congruent_apps-requires-clause-right
is_congruent_apps-requires-clause-right c =
    let n = rw c.in-App.is at c.term_node.ensures in
    rw c.deref.ensures.value (AreTermsBelow-more c.args.y.0 (length c.args.bank.now.terms) (omega (arith, c.requires.right)) c.in-App.ys.items n.below)
