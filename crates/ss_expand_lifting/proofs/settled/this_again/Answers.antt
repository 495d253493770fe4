use Rattle.std.proofs.Common.{◌≡◌, ap, ◌∙◌}
use Rattle.ss_typed.specs.Tree.{ThisOf}
use Rattle.ss_typed.specs.View.{expr}
use Rattle.ss_typed.specs.Types.{type_of}
use Rattle.ss_typed.specs.Shapes.{place_of}
use Rattle.ss_expand_rules.specs.Lifting.{class_of_type}
use Rattle.ss_expand_lifting.proofs.Codes.{this_again_is}
use Rattle.ss_expand_lifting.proofs.settled.this_again.Goals as goal

pub returns : goal.returns
returns c = λ h.
    let e = expr c.args.e.now in
    c.this_of.ensures ∙ ap (λ p. ThisOf p c.class_of_type.result.0) c.place_of.ensures
    ∙ ap (ThisOf (place_of e)) (c.class_of_type.ensures ∙ ap class_of_type c.type_of.ensures) ∙ this_again_is e h
