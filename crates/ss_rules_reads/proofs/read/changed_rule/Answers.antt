use Rattle.std.proofs.Common.{subst}
use Rattle.std.specs.Prelude.{IfOk}
use Rattle.ss_core.specs.View as view
use Rattle.ss_logic.specs.Reads.{look_from}
use Rattle.ss_terms.specs.Forms.{term_at, terms_at}
use Rattle.ss_terms.specs.Numbered.{IsNumberOf}
use Rattle.ss_rules_basic.specs.Looks.{look_in}
use Rattle.ss_rules_reads.proofs.Instances.{look_fits, over_fit, over_none}
use Rattle.ss_rules_reads.proofs.read.changed_rule.Goals as goal

pub over_store-requires-clause-fits : goal.over_store-requires-clause-fits
over_store-requires-clause-fits c =
    let b = c.args.b.now in
    look_fits (view.classes c.args.classes.now) (look_from (term_at b c.args.kind) (terms_at b c.args.arguments.now)) (look_in b c.in-Some.look) c.in-Some.ensures.1

pub returns-in-Some-clause-at : goal.returns-in-Some-clause-at
returns-in-Some-clause-at c =
    let b = c.args.b.now in
    subst (λ x. IfOk c.over_store.result (λ r. IsNumberOf c.over_store.new.b r x))
    (over_fit (view.classes c.args.classes.now) (term_at b c.args.s) (look_from (term_at b c.args.kind) (terms_at b c.args.arguments.now)) (look_in b c.in-Some.look) c.in-Some.ensures.1)
    c.over_store.ensures.at

pub returns-in-None-clause-at : goal.returns-in-None-clause-at
returns-in-None-clause-at c =
    let b = c.args.b.now in
    over_none (view.classes c.args.classes.now) (term_at b c.args.s) (look_from (term_at b c.args.kind) (terms_at b c.args.arguments.now)) c.in-None.ensures
