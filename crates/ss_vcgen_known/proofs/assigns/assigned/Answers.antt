use Rattle.std.proofs.Common.{ap, ◌∙◌}
use Rattle.ss_core.specs.View.{stmt_of}
use Rattle.ss_store_rules.specs.Locals.{assigns}
use Rattle.ss_store_rules.specs.NonNull.{both}
use Rattle.ss_vcgen_known.proofs.Listing.{none_is_none}
use Rattle.ss_vcgen_known.proofs.assigns.assigned.Goals as goal

pub returns : goal.returns
returns c = c.in_ok-put_assigned.ensures ∙ ap (λ f. both f (assigns (stmt_of c.args.stmt.now))) (c.new-set.ensures ∙ none_is_none)
