use Rattle.std.proofs.Common.{◌≡◌, ◌+◌, map, drop}
use Rattle.std.specs.List.{position_or_len}
use Rattle.ss_expand_rules.specs.Program as elab
use Rattle.ss_expand_bodies.specs.Origins.{origin_of}
use Rattle.ss_expand_bodies.proofs.origins.find_origin.Given as goal

abbrev pub invariant-loop-place : goal.invariant-loop-place
invariant-loop-place l =
    let same = elab.same_origin (origin_of l.origin) in
    position_or_len same (map origin_of l.origins) ≡ l.place + position_or_len same (map origin_of (drop l.place l.origins))
