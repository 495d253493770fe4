use Rattle.std.proofs.Common.{◌≡◌, ◌++◌, drop}
use Rattle.std.specs.List.{flat_map}
use Rattle.ss_report_core.specs.Groups.{trees}
use Rattle.ss_report_names.specs.Contexts.{core_of}
use Rattle.ss_report_core.specs.Text.{body_text}
use Rattle.ss_report_core.proofs.whole.push_bodies.Given as goal

abbrev pub invariant-loop-body : goal.invariant-loop-body
invariant-loop-body l = l.out.items ++ flat_map (body_text (core_of l.program)) (trees (drop l.body-index l.bodies)) ≡ l.fn.out.items ++ flat_map (body_text (core_of l.program)) (trees l.bodies)
