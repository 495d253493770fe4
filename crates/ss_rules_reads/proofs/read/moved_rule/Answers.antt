use Rattle.std.proofs.Common.{subst}
use Rattle.std.specs.Prelude.{IfOk}
use Rattle.ss_core.specs.View as view
use Rattle.ss_logic.specs.Reads.{look_from}
use Rattle.ss_terms.specs.Forms.{term_at, terms_at, HasTerms}
use Rattle.ss_terms.specs.Numbered.{IsNumberOf}
use Rattle.ss_rules_basic.specs.Looks.{look_in}
use Rattle.ss_rules_reads.proofs.Instances.{look_fits, moved_named, moved_unnamed, HasTerms-front, HasTerms-last}
use Rattle.ss_rules_reads.proofs.read.moved_rule.Goals as goal

pub read_named-requires-clause-arguments : goal.read_named-requires-clause-arguments
read_named-requires-clause-arguments c = HasTerms-front c.args.b.now c.in-Some.front.now c.in-Some.t (subst (HasTerms c.args.b.now) c.in-Some.ensures.some c.requires.arguments)

pub moved_read-requires-clause-other : goal.moved_read-requires-clause-other
moved_read-requires-clause-other c = HasTerms-last c.args.b.now c.in-Some.front.now c.in-Some.t (subst (HasTerms c.args.b.now) c.in-Some.ensures.some c.requires.arguments)

pub moved_read-requires-clause-fits : goal.moved_read-requires-clause-fits
moved_read-requires-clause-fits c =
    let b = c.args.b.now in
    look_fits (view.classes c.args.classes.now) (look_from (term_at b c.args.kind) (terms_at b c.in-Some.front.now)) (look_in b c.in-Some-read_named.look) c.in-Some-read_named.ensures.1

pub returns-in-Some-read_named-clause-at : goal.returns-in-Some-read_named-clause-at
returns-in-Some-read_named-clause-at c =
    let b = c.args.b.now in
    subst (λ x. IfOk c.moved_read.result (λ r. IsNumberOf c.moved_read.new.b r x))
    (moved_named (view.classes c.args.classes.now) b (term_at b c.args.s) (term_at b c.args.kind) c.args.arguments.now c.in-Some.front.now c.in-Some.t c.in-Some.ensures.some (look_in b c.in-Some-read_named.look) c.in-Some-read_named.ensures.1)
    c.moved_read.ensures.at

pub returns-in-None-read_named-clause-at : goal.returns-in-None-read_named-clause-at
returns-in-None-read_named-clause-at c =
    let b = c.args.b.now in
    moved_unnamed (view.classes c.args.classes.now) b (term_at b c.args.s) (term_at b c.args.kind) c.args.arguments.now c.in-Some.front.now c.in-Some.t c.in-Some.ensures.some c.in-None-read_named.ensures
