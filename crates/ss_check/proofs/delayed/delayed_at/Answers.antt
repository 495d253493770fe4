use Rattle.std.proofs.Common.{◌*◌, length, arith}
use Rattle.ss_core.specs.View as view
use Rattle.ss_terms.proofs.Trees.{AreBelow-more}
use Rattle.ss_check.proofs.Meant.{delayed_form}
use Rattle.ss_check.proofs.delayed.delayed_at.Goals as goal

pub parts_at-requires-clause-formulas : goal.parts_at-requires-clause-formulas
parts_at-requires-clause-formulas c =
    let n = rw c.in-And.is at c.formula_node.ensures in
    rw c.deref.ensures.value (AreBelow-more c.args.f.0 (length c.args.bank.now.formulas * 2) (omega (arith, c.requires.formula)) c.in-And.parts.items n.below)

pub returns-in-And : goal.returns-in-And
returns-in-And c =
    delayed_form (view.classes c.args.classes.now) c.args.bank.now c.args.f c.in-And.parts c.parts_at.result (rw c.in-And.is at c.formula_node.ensures) (rw c.deref.ensures.value at c.parts_at.ensures)
