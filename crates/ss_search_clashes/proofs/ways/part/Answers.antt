use Rattle.std.proofs.Common.{◌++◌, ap, sym, subst}
use Rattle.std.proofs.lemmas.Option.{slice_get_within}
use Rattle.std.proofs.lemmas.Result.{on_ok_weaker}
use Rattle.ss_equality_rules.specs.Reasons.{IsJoinedAt}
use Rattle.ss_search_clashes.specs.Legs.{legs_way}
use Rattle.ss_search_clashes.proofs.Going.{way_none, parts_left, parts_right}
use Rattle.ss_search_clashes.proofs.Legs.{opened_way, opened_less, opened_legs}
use Rattle.ss_search_clashes.proofs.ways.part.Goals as goal

pub returns-then-x-y-clause-way : goal.returns-then-x-y-clause-way
returns-then-x-y-clause-way c = sym (ap (λ js. js ++ legs_way c.args.joins.now c.args.rest.now.items) (way_none c.args.joins.now c.args.x c.args.y c.if-x-y.true))

pub join_at-join-requires : goal.join_at-join-requires
join_at-join-requires c = slice_get_within c.args.joins.now c.joining-number.result.0 c.joining-number.ensures.join c.joining-number.ensures.at

pub returns-then-is_left-clause-legs : goal.returns-then-is_left-clause-legs
returns-then-is_left-clause-legs c =
    let p = parts_left c.requires.ends.terms c.args.joins.now c.requires.ends.log c.args.x c.args.y c.joining-number.result.0 c.join_at-join.result
    (subst (λ b. IsJoinedAt c.args.joins.now c.args.x c.args.y c.joining-number.result.0 b) c.if-is_left.true c.joining-number.ensures) c.join_at-join.ensures in
    on_ok_weaker c.open_parts.result (λ is. opened_legs c.args.joins.now c.args.rest.now.items c.open_parts.new.rest.items c.args.x c.join_at-join.result.left c.joining-number.result.0 c.join_at-join.result.right c.args.y is p.0 c.requires.legs p.1 p.2) c.open_parts.ensures

pub returns-then-is_left-clause-way : goal.returns-then-is_left-clause-way
returns-then-is_left-clause-way c =
    let p = parts_left c.requires.ends.terms c.args.joins.now c.requires.ends.log c.args.x c.args.y c.joining-number.result.0 c.join_at-join.result
    (subst (λ b. IsJoinedAt c.args.joins.now c.args.x c.args.y c.joining-number.result.0 b) c.if-is_left.true c.joining-number.ensures) c.join_at-join.ensures in
    on_ok_weaker c.open_parts.result (λ is. opened_way c.args.joins.now c.args.rest.now.items c.open_parts.new.rest.items c.args.x c.join_at-join.result.left c.joining-number.result.0 c.join_at-join.result.right c.args.y is p.0) c.open_parts.ensures

pub returns-then-is_left-clause-less : goal.returns-then-is_left-clause-less
returns-then-is_left-clause-less c =
    let p = parts_left c.requires.ends.terms c.args.joins.now c.requires.ends.log c.args.x c.args.y c.joining-number.result.0 c.join_at-join.result
    (subst (λ b. IsJoinedAt c.args.joins.now c.args.x c.args.y c.joining-number.result.0 b) c.if-is_left.true c.joining-number.ensures) c.join_at-join.ensures in
    on_ok_weaker c.open_parts.result (λ is. opened_less c.args.joins.now c.args.rest.now.items c.open_parts.new.rest.items c.args.x c.join_at-join.result.left c.joining-number.result.0 c.join_at-join.result.right c.args.y is p.0) c.open_parts.ensures

pub returns-else-is_left-clause-legs : goal.returns-else-is_left-clause-legs
returns-else-is_left-clause-legs c =
    let p = parts_right c.requires.ends.terms c.args.joins.now c.requires.ends.log c.args.x c.args.y c.joining-number.result.0 c.join_at-join.result
    (subst (λ b. IsJoinedAt c.args.joins.now c.args.x c.args.y c.joining-number.result.0 b) c.if-is_left.false c.joining-number.ensures) c.join_at-join.ensures in
    on_ok_weaker c.open_parts-else-is_left.result (λ is. opened_legs c.args.joins.now c.args.rest.now.items c.open_parts-else-is_left.new.rest.items c.args.x c.join_at-join.result.right c.joining-number.result.0 c.join_at-join.result.left c.args.y is p.0 c.requires.legs p.1 p.2) c.open_parts-else-is_left.ensures

pub returns-else-is_left-clause-way : goal.returns-else-is_left-clause-way
returns-else-is_left-clause-way c =
    let p = parts_right c.requires.ends.terms c.args.joins.now c.requires.ends.log c.args.x c.args.y c.joining-number.result.0 c.join_at-join.result
    (subst (λ b. IsJoinedAt c.args.joins.now c.args.x c.args.y c.joining-number.result.0 b) c.if-is_left.false c.joining-number.ensures) c.join_at-join.ensures in
    on_ok_weaker c.open_parts-else-is_left.result (λ is. opened_way c.args.joins.now c.args.rest.now.items c.open_parts-else-is_left.new.rest.items c.args.x c.join_at-join.result.right c.joining-number.result.0 c.join_at-join.result.left c.args.y is p.0) c.open_parts-else-is_left.ensures

pub returns-else-is_left-clause-less : goal.returns-else-is_left-clause-less
returns-else-is_left-clause-less c =
    let p = parts_right c.requires.ends.terms c.args.joins.now c.requires.ends.log c.args.x c.args.y c.joining-number.result.0 c.join_at-join.result
    (subst (λ b. IsJoinedAt c.args.joins.now c.args.x c.args.y c.joining-number.result.0 b) c.if-is_left.false c.joining-number.ensures) c.join_at-join.ensures in
    on_ok_weaker c.open_parts-else-is_left.result (λ is. opened_less c.args.joins.now c.args.rest.now.items c.open_parts-else-is_left.new.rest.items c.args.x c.join_at-join.result.right c.joining-number.result.0 c.join_at-join.result.left c.args.y is p.0) c.open_parts-else-is_left.ensures
