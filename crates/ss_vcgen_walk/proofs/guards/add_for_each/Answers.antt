use Rattle.ss_terms.specs.Forms.{Forms, formulas_at}
use Rattle.ss_terms.proofs.Grown.{IsGrown-refl, IsGrown-then, HasFormulas-grown}
use Rattle.ss_vcgen_express.specs.Contexts.{for_each}
use Rattle.ss_vcgen_walk.proofs.Composing.{parts_next, parts_none}
use Rattle.ss_vcgen_walk.proofs.Growing.{HasParts-grown, HasParts-get, no_part}
use Rattle.ss_vcgen_walk.proofs.guards.add_for_each.Goals as goal

pub for_each-requires-clause-range : goal.for_each-requires-clause-range
for_each-requires-clause-range c = HasFormulas-grown c.args.bank.now c.loop-part.bank c.loop-part.invariant.grown c.args.out.now c.requires.range

pub for_each-requires-clause-member : goal.for_each-requires-clause-member
for_each-requires-clause-member c =
    HasParts-get c.loop-part.bank c.args.list.now c.loop-part.part-index no_part (HasParts-grown c.loop-part.invariant.grown c.args.list.now c.requires.list) c.loop-part-test.true

pub loop-part-init : goal.loop-part-init
loop-part-init c = record { grown = IsGrown-refl c.args.bank.now; done = parts_none c.args.bank.now c.args.parts.now.items c.requires.parts }

pub loop-part-preserved : goal.loop-part-preserved
loop-part-preserved c =
    let i = c.loop-part.invariant in
    record {
      grown = IsGrown-then c.args.bank.now c.loop-part.bank c.for_each.new.bank i.grown c.for_each.ensures.grown;
      done = parts_next c.args.parts.now.items (λ (b : Forms). for_each (formulas_at b c.args.out.now)) c.loop-part.bank c.for_each.new.bank c.args.list.now c.loop-part.part-index no_part c.loop-part.parts.items c.push.new.self.items
          c.in_ok-formula.formula c.for_each.ensures.grown c.loop-part-test.true c.in_ok-push.ensures.items i.done c.in_ok-formula.ensures.at;
    }
