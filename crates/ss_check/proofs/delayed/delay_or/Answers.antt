use Rattle.std.proofs.Common.{[], ◌∷◌, ◌∙◌}
use Rattle.ss_core.specs.View as view
use Rattle.ss_terms.specs.Forms.{term_at}
use Rattle.ss_check.proofs.Meant.{option_equal, or_is_put}
use Rattle.ss_check.proofs.delayed.delay_or.Goals as goal

pub returns-in_ok-parts-in-Or-clause-at : goal.returns-in_ok-parts-in-Or-clause-at
returns-in_ok-parts-in-Or-clause-at c =
    option_equal (view.classes c.args.classes.now) c.delay_listed.result c.delay_listed.new.bank _ _
    (or_is_put (view.classes c.args.classes.now) c.args.bank.now c.args.body c.in-Or.parts c.deref-in-Or-2.result.now (term_at c.args.bank.now c.args.t ∷ []) (rw c.in-Or.is at c.formula_node.ensures)
    (c.deref-in-Or-2.ensures.value ∙ c.in_ok-parts-in-Or.ensures.items ∙ c.deref-in-Or.ensures.value))
    c.delay_listed.ensures.at
