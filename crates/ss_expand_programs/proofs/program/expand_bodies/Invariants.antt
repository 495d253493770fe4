use Rattle.std.proofs.Common.{◌≡◌, ◌++◌, map, drop}
use Rattle.std.specs.Prelude.{filter_map}
use Rattle.ss_core.specs.View as core
use Rattle.ss_typed.specs.View as typed
use Rattle.ss_expand_rules.specs.Elaborated as elaborated
use Rattle.ss_expand_bodies.specs.Origins.{origin_of}
use Rattle.ss_expand_programs.proofs.program.expand_bodies.Given as goal

abbrev pub invariant-loop-origin : goal.invariant-loop-origin
invariant-loop-origin l =
    let body_of = elaborated.body_of (typed.typed l.program) in
    map core.body l.list.items ++ filter_map body_of (map origin_of (drop l.origin-index l.origins)) ≡ filter_map body_of (map origin_of l.origins)
