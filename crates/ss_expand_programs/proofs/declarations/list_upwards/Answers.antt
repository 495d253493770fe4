use Rattle.std.proofs.Common.{◌++◌, ◌-◌, ◌<◌, ◌≤◌, map, ap, ◌∙◌, sym, subst, add-one}
use Rattle.std.specs.Prelude.{filter_map, option_map}
use Rattle.ss_core.specs.View as core
use Rattle.ss_core.specs.Chain.{levels, most_levels}
use Rattle.ss_typed.specs.View as typed
use Rattle.ss_expand_rules.specs.Contracts.{declared_at}
use Rattle.ss_expand_programs.specs.Declaring.{levels_at}
use Rattle.ss_expand_programs.proofs.Chain.{most_is, first_level, one_level, last_level}
use Rattle.ss_expand_programs.proofs.declarations.list_upwards.Goals as goal

pub loop-i-init : goal.loop-i-init
loop-i-init c =
    let cs = core.classes c.args.program.now.classes in
    let declared = declared_at (typed.typed c.args.program.now) c.args.place in
    first_level declared cs c.args.class.0 (map (λ b. typed.body b.now) c.new-list.result.items) (ap (λ bs. map (λ b. typed.body b.now) bs) c.new-list.ensures.items)

pub loop-i-preserved : goal.loop-i-preserved
loop-i-preserved c =
    let cs = core.classes c.args.program.now.classes in
    let declared = declared_at (typed.typed c.args.program.now) c.args.place in
    let level = option_map (λ t. t.0) c.loop-i.level in
    let next = option_map (λ t. t.0) c.in_ok-level.level in
    let out = map (λ b. typed.body b.now) c.loop-i.list.items in
    let more = map (λ b. typed.body b.now) c.add_level.new.list.items in
    let before : c.loop-i._i < most_levels = subst (λ m. c.loop-i._i < m) (sym most_is) c.loop-i-test.true in
    ap (λ k. more ++ filter_map declared (levels_at cs (most_levels - k) next)) (add-one c.loop-i._i)
    ∙ one_level declared cs most_levels c.loop-i._i level next out more (filter_map declared (levels cs c.args.class.0)) before c.in_ok-level.ensures.above c.in_ok-level.ensures.added c.loop-i.invariant

pub returns : goal.returns
returns c =
    let cs = core.classes c.args.program.now.classes in
    let declared = declared_at (typed.typed c.args.program.now) c.args.place in
    let level = option_map (λ t. t.0) c.loop-i.level in
    let out = map (λ b. typed.body b.now) c.loop-i.list.items in
    let behind : most_levels ≤ c.loop-i._i = subst (λ m. m ≤ c.loop-i._i) (sym most_is) c.loop-i-test.false in
    last_level declared cs most_levels c.loop-i._i level out (filter_map declared (levels cs c.args.class.0)) behind c.loop-i.invariant
