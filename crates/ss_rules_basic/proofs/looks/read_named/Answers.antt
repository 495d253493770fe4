use Rattle.std.proofs.Common.{◌∙◌, sym, ap}
use Rattle.std.specs.Prelude.{option_and_then}
use Rattle.ss_core.specs.View as view
use Rattle.ss_logic.specs.Reads.{look_of}
use Rattle.ss_terms.specs.Forms.{terms_at}
use Rattle.ss_rules_basic.specs.Looks.{fitting, look_in}
use Rattle.ss_rules_basic.proofs.Fitting.{fitting_kept, fitting_none}
use Rattle.ss_rules_basic.proofs.looks.read_named.Goals as goal

pub returns-then-has_sorts : goal.returns-then-has_sorts
returns-then-has_sorts c =
    let cs = view.classes c.args.classes.now in
    let b = c.args.b.now in
    let o = look_of c.in-Some.number (terms_at b c.args.arguments.now) in (
      c.in-Some-numbered_look.ensures.0,
      ap (λ n. fitting cs (option_and_then (λ k. look_of k (terms_at b c.args.arguments.now)) n)) (sym c.in-Some.ensures)
          ∙ fitting_kept cs o (look_in b c.in-Some-numbered_look.look) c.in-Some-numbered_look.ensures.1 c.if-has_sorts.ensures,
    )

pub returns-else-has_sorts : goal.returns-else-has_sorts
returns-else-has_sorts c =
    let cs = view.classes c.args.classes.now in
    let b = c.args.b.now in
    let o = look_of c.in-Some.number (terms_at b c.args.arguments.now) in
    ap (λ n. fitting cs (option_and_then (λ k. look_of k (terms_at b c.args.arguments.now)) n)) (sym c.in-Some.ensures)
    ∙ fitting_none cs o (look_in b c.in-Some-numbered_look.look) c.in-Some-numbered_look.ensures.1 c.if-has_sorts.ensures
