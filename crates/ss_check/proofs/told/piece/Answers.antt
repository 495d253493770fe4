use Rattle.std.proofs.Common.{[], ◌∷◌, Some, ap, sym, subst, ◌∙◌}
use Rattle.std.specs.Prelude.{option_map}
use Rattle.ss_core.specs.View as view
use Rattle.ss_logic.specs.Formulas.{put}
use Rattle.ss_terms.specs.Forms.{term_at}
use Rattle.ss_check.specs.Delayed.{IsTold}
use Rattle.ss_check.proofs.told.piece.Goals as goal

pub returns-clause-at : goal.returns-clause-at
returns-clause-at c = λ plain.
    subst (λ o. IsTold (view.classes c.args.classes.now) c.put.new.bank c.checked-told.result o plain)
    (sym (ap (option_map (put (term_at c.args.bank.now c.args.t ∷ []))) c.in-Some.ensures.1 ∙ ap Some (sym c.in_ok-g.ensures.at.1)))
    (c.checked-told.ensures plain)
