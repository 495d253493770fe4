use Rattle.std.proofs.Common.{sym, ap, ◌∙◌, arith, take}
use Rattle.ss_core.specs.View.{expr}
use Rattle.ss_core.specs.Parts.{path_front}
use Rattle.ss_store_rules.specs.NonNull.{is_this_object}
use Rattle.ss_vcgen_known.proofs.Stepping.{first_steps}
use Rattle.ss_vcgen_known.proofs.never_null.front_is_this.Goals as goal

pub returns-then-count-eq0 : goal.returns-then-count-eq0
returns-then-count-eq0 c = λ p. c.is_this_object.ensures ∙ ap (λ n. is_this_object (path_front p (expr c.args.path.first.now) (take n c.args.path.steps.now))) (sym c.if-count-eq0.true)

pub returns-else-count-eq0 : goal.returns-else-count-eq0
returns-else-count-eq0 c = λ p. sym (first_steps p (expr c.args.path.first.now) c.args.path.steps.now c.args.count (omega (arith, c.if-count-eq0.false)) c.requires)
