use Rattle.std.proofs.Common.{◌≡◌, ◌-◌, ◌++◌, map}
use Rattle.std.specs.Prelude.{filter_map, option_map}
use Rattle.ss_core.specs.Chain.{levels, most_levels}
use Rattle.ss_core.specs.View as core
use Rattle.ss_typed.specs.View as typed
use Rattle.ss_expand_rules.specs.Contracts.{declared_at}
use Rattle.ss_expand_programs.specs.Declaring.{levels_at}
use Rattle.ss_expand_programs.proofs.declarations.list_upwards.Given as goal

abbrev pub invariant-loop-i : goal.invariant-loop-i
invariant-loop-i l =
    let cs = core.classes l.program.classes in
    let declared = declared_at (typed.typed l.program) l.place in
    map (λ b. typed.body b.now) l.list.items ++ filter_map declared (levels_at cs (most_levels - l._i) (option_map (λ t. t.0) l.level)) ≡ filter_map declared (levels cs l.fn.class.0)
