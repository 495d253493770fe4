use Rattle.std.proofs.Common.{sym, ap, ◌∙◌, take}
use Rattle.ss_core.specs.View.{expr}
use Rattle.ss_core.specs.Parts.{path_front}
use Rattle.ss_store_rules.specs.NonNull.{is_never_null}
use Rattle.ss_vcgen_known.specs.Views.{type_context_of, known_of, tested}
use Rattle.ss_vcgen_known.proofs.Stepping.{last_step}
use Rattle.ss_vcgen_known.proofs.never_null.steps_never_null.Goals as goal

pub returns : goal.returns
returns c = λ p.
    let n = c.args.last in
    let e = expr c.args.path.first.now in
    let all = c.args.path.steps.now in
    c.step_never_null.ensures p (path_front p e (take n all)) (c.front_is_this-of_this.ensures p)
    ∙ ap (is_never_null (type_context_of c.args.typing) (tested c.args.tests.now (known_of c.args.known.now)) c.args.old) (sym (last_step p e all n c.index-steps-last.result c.requires.last c.index-steps-last.is))
