use Rattle.std.proofs.Common.{refl}
use Rattle.ss_vcgen_statements.proofs.levels.invariant_context.Goals as goal

pub returns-clause-at : goal.returns-clause-at
returns-clause-at c = λ b. rw (c.in_ok-types.ensures.items, c.in_ok-locals.ensures.items) refl

pub returns-clause-has : goal.returns-clause-has
returns-clause-has c = record {
  now = c.requires.store;
  entry = c.requires.store;
  locals = rw c.in_ok-locals.ensures.items (c.requires.object, tt);
  classes = c.requires.limits.classes;
}
