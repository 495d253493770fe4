-- The context in which the code of a body is elaborated.
use Rattle.std.specs.Prelude.{map}
use Rattle.ss_typed.specs.View as typed
use Rattle.ss_expand_rules.specs.Lifting as lifting
use Rattle.ss_expand_expressions.specs.Views.{numbers_of}
use Rattle.ss_expand_bodies.specs.Exposes.{opened_of}
use Rattle.ss_expand_lifting.specs.declared.context.ElaborationContext.{ElaborationContext}

abbrev pub context_of : ElaborationContext → lifting.ElaborationContext
context_of s = record { program = typed.typed s.program.now; body = typed.body s.body.now; numbers = numbers_of s.numbers.now; exposes = map opened_of s.exposes.items }
