use Rattle.std.proofs.Common.{◌≡◌, map, take}
use Rattle.ss_vcgen_statements.specs.Contexts.{or_else}
use Rattle.ss_vcgen_statements.proofs.contexts.local_terms.Given as goal

abbrev pub invariant-loop-local : goal.invariant-loop-local
invariant-loop-local l = l.terms.items ≡ map (or_else l.null) (take l.local-index l.locals)
