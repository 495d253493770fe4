use Rattle.std.proofs.Common.{◌<◌, ◌+◌, [], ◌∷◌, ◌++◌, ap, sym, subst, ◌∙◌, append_assoc, arith}
use Rattle.std.proofs.lemmas.Result.{on_ok_weaker}
use Rattle.ss_search_clashes.specs.declared.ways.Leg.{Leg}
use Rattle.ss_search_clashes.specs.Legs.{leg_way, legs_way, leg_weight, weight, IsLeg}
use Rattle.ss_search_clashes.proofs.ways.go.Goals as goal

pub part-requires-clause-same : goal.part-requires-clause-same
part-requires-clause-same c = subst (IsLeg c.args.joins.now) c.in-Between.is c.requires.leg

pub returns-in-Between-clause-way : goal.returns-in-Between-clause-way
returns-in-Between-clause-way c = on_ok_weaker c.part.result (λ e. ap (λ js. c.args.gone.now.items ++ js) (e ∙ ap (λ (leg : Leg). leg_way c.args.joins.now leg ++ legs_way c.args.joins.now c.args.rest.now.items) (sym c.in-Between.is))) c.part.ensures.way

pub returns-in-Between-clause-less : goal.returns-in-Between-clause-less
returns-in-Between-clause-less c =
    on_ok_weaker c.part.result (λ l. subst (λ (leg : Leg). weight c.args.joins.now c.part.new.rest.items < weight c.args.joins.now c.args.rest.now.items + leg_weight c.args.joins.now leg) (sym c.in-Between.is) l) c.part.ensures.less

pub returns-in_ok-push-in-By-clause-way : goal.returns-in_ok-push-in-By-clause-way
returns-in_ok-push-in-By-clause-way c =
    ap (λ js. js ++ legs_way c.args.joins.now c.args.rest.now.items) c.in_ok-push-in-By.ensures.items
    ∙ append_assoc c.args.gone.now.items (c.in-By.number ∷ []) (legs_way c.args.joins.now c.args.rest.now.items)
    ∙ ap (λ (leg : Leg). c.args.gone.now.items ++ (leg_way c.args.joins.now leg ++ legs_way c.args.joins.now c.args.rest.now.items)) (sym c.in-By.is)

pub returns-in_ok-push-in-By-clause-less : goal.returns-in_ok-push-in-By-clause-less
returns-in_ok-push-in-By-clause-less c =
    subst (λ (leg : Leg). weight c.args.joins.now c.args.rest.now.items < weight c.args.joins.now c.args.rest.now.items + leg_weight c.args.joins.now leg) (sym c.in-By.is) (omega arith)
