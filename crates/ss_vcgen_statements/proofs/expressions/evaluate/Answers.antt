use Rattle.ss_core.specs.View.{expr}
use Rattle.ss_vcgen_heaps.specs.Positions as positions
use Rattle.ss_vcgen_builder.specs.Builder.{position_at, walk_at}
use Rattle.ss_vcgen_statements.proofs.Evaluated.{IsMeant-grown, evaluated_becomes}
use Rattle.ss_vcgen_statements.proofs.expressions.evaluate.Goals as goal

pub check_parts-requires-clause-parts : goal.check_parts-requires-clause-parts
check_parts-requires-clause-parts c = rw c.deref.ensures.value c.in_ok-meant.ensures.parts.has

pub returns-clause-at : goal.returns-clause-at
returns-clause-at c =
    IsMeant-grown c.expressed.new.builder.bank c.check_parts.new.builder.bank c.in_ok-check_parts.ensures.grown c.in_ok-meant.meant (λ b. positions.meant_at (walk_at b c.args.walk.now) (expr c.args.e.now) (position_at b c.args.builder.now))
    c.in_ok-meant.ensures.meant

pub returns-clause-becomes : goal.returns-clause-becomes
returns-clause-becomes c =
    evaluated_becomes c.args.builder.now c.expressed.new.builder c.check_parts.new.builder c.args.walk.now (expr c.args.e.now) c.expressed.new.parts.items c.in_ok-meant.ensures.stays c.in_ok-meant.ensures.parts
    (rw c.deref.ensures.value at c.in_ok-check_parts.ensures)
