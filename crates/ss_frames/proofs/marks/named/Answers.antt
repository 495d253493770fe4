use Rattle.std.proofs.Common.{ap, sym, subst}
use Rattle.ss_logic.specs.Formulas.{And, formulas_from}
use Rattle.ss_terms.specs.Forms.{HasFormula, HasTerm}
use Rattle.ss_terms.proofs.Grown.{HasTerm-grown}
use Rattle.ss_terms_puts.proofs.Putting.{formula_equal}
use Rattle.ss_frames.specs.Calls.{object_of}
use Rattle.ss_frames.proofs.Making.{named_made}
use Rattle.ss_frames.proofs.marks.named.Goals as goal

pub lift-requires-clause-formula : goal.lift-requires-clause-formula
lift-requires-clause-formula c = subst (HasFormula c.args.b.now) (sym c.guard.ensures) c.requires.term.0

pub equality-requires-clause-left : goal.equality-requires-clause-left
equality-requires-clause-left c = HasTerm-grown c.args.b.now c.lift.new.bank c.lift.ensures.grown c.args.object c.requires.object.0

pub equality-requires-clause-right : goal.equality-requires-clause-right
equality-requires-clause-right c = subst (HasTerm c.lift.new.bank) (sym c.object.ensures) (HasTerm-grown c.args.b.now c.lift.new.bank c.lift.ensures.grown (object_of c.args.term) c.requires.term.1)

pub and-requires : goal.and-requires
and-requires c =
    (named_made c.args.b.now c.lift.new.bank c.equality.new.self c.lift.ensures.grown c.equality.ensures.grown c.args.n c.args.term c.args.object c.requires.term c.requires.object c.in_ok-guard.guard c.in_ok-same.same _ _ c.guard.ensures c.object.ensures c.in_ok-guard.ensures.at c.in_ok-same.ensures.at).0

pub returns-clause-at : goal.returns-clause-at
returns-clause-at c =
    formula_equal c.and.result c.and.new.self _ _
    (ap (λ fs. And (formulas_from fs)) (named_made c.args.b.now c.lift.new.bank c.equality.new.self c.lift.ensures.grown c.equality.ensures.grown c.args.n c.args.term c.args.object c.requires.term c.requires.object c.in_ok-guard.guard c.in_ok-same.same _ _ c.guard.ensures c.object.ensures c.in_ok-guard.ensures.at c.in_ok-same.ensures.at).1)
    c.and.ensures.at
