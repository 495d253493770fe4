use Rattle.std.proofs.Common.{◌≡◌, List, [], ◌∷◌, ◌++◌, ap, sym, ◌∙◌}
use Rattle.std.proofs.lemmas.List.{nil_from_length}
use Rattle.ss_search_clashes.specs.declared.ways.Leg.{Leg}
use Rattle.ss_search_clashes.specs.declared.ways.Leg.TheVariants.{Between}
use Rattle.ss_search_clashes.proofs.Legs.{first_way, first_legs, popped_legs, popped_way, popped_less, last_way}
use Rattle.ss_search_clashes.proofs.ways.way.Goals as goal

pub loop-leg-init : goal.loop-leg-init
loop-leg-init c =
    let first : c.push.new.self.items ≡ Between c.args.x c.args.y ∷ [] = c.in_ok-push.ensures.items ∙ ap (λ (legs : List Leg). legs ++ Between c.args.x c.args.y ∷ []) c.new-rest.ensures.items in (
      first_legs c.args.joins.now c.args.x c.args.y c.push.new.self.items first c.requires.same,
      first_way c.args.joins.now c.args.x c.args.y c.new-gone.result.items c.push.new.self.items c.new-gone.ensures.items first,
    )

pub go-requires-clause-leg : goal.go-requires-clause-leg
go-requires-clause-leg c = (popped_legs c.args.joins.now c.loop-leg.rest.items c.pop.new.self.items [] c.in-Some.leg c.in-Some.ensures.items c.loop-leg.invariant.0).1

pub go-requires-clause-legs : goal.go-requires-clause-legs
go-requires-clause-legs c = (popped_legs c.args.joins.now c.loop-leg.rest.items c.pop.new.self.items [] c.in-Some.leg c.in-Some.ensures.items c.loop-leg.invariant.0).0

pub loop-leg-smaller : goal.loop-leg-smaller
loop-leg-smaller c = popped_less c.args.joins.now c.loop-leg.rest.items c.pop.new.self.items c.go.new.rest.items c.in-Some.leg c.in-Some.ensures.items c.in_ok-go.ensures.less

pub loop-leg-preserved : goal.loop-leg-preserved
loop-leg-preserved c = (
  c.in_ok-go.ensures.legs,
  popped_way c.args.joins.now c.loop-leg.rest.items c.pop.new.self.items c.go.new.rest.items c.in-Some.leg c.in-Some.ensures.items c.loop-leg.gone.items c.go.new.gone.items _ c.loop-leg.invariant.1 c.in_ok-go.ensures.way,
)

pub returns : goal.returns
returns c = last_way c.args.joins.now c.loop-leg.gone.items _ c.loop-leg.rest.items (nil_from_length c.loop-leg.rest.items (sym c.loop-leg.rest.ok.0 ∙ c.in_default.ensures.cases.0)) c.loop-leg.invariant.1
