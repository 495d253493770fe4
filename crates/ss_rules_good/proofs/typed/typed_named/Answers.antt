use Rattle.std.proofs.Common.{subst}
use Rattle.std.specs.Prelude.{IfOk}
use Rattle.ss_core.specs.View as view
use Rattle.ss_logic.specs.Reads.{look_from}
use Rattle.ss_terms.specs.Forms.{term_at, terms_at}
use Rattle.ss_terms.specs.Numbered.{IsNumberOf}
use Rattle.ss_rules_basic.specs.Looks.{look_in}
use Rattle.ss_rules_good.proofs.Fits.{typed_fit, typed_none}
use Rattle.ss_rules_good.proofs.typed.typed_named.Goals as goal

pub returns-in-Some-clause-at : goal.returns-in-Some-clause-at
returns-in-Some-clause-at c =
    let b = c.args.b.now in
    subst (λ x. IfOk c.typed_read_at.result (λ r. IsNumberOf c.typed_read_at.new.b r x))
    (typed_fit (view.classes c.args.classes.now) (term_at b c.args.s) (look_from (term_at b c.args.kind) (terms_at b c.args.arguments.now)) (look_in b c.in-Some.look) c.in-Some.ensures.1)
    c.typed_read_at.ensures.at

pub returns-in-None-clause-at : goal.returns-in-None-clause-at
returns-in-None-clause-at c =
    let b = c.args.b.now in
    typed_none (view.classes c.args.classes.now) (term_at b c.args.s) (look_from (term_at b c.args.kind) (terms_at b c.args.arguments.now)) c.in-None.ensures
