use Rattle.std.proofs.Common.{[], ◌∷◌}
use Rattle.ss_logic.specs.Formulas.{Formula, neg}
use Rattle.ss_logic.specs.Express.{or_of}
use Rattle.ss_terms.specs.Forms.{Forms, formula_at}
use Rattle.ss_terms.proofs.Grown.{IsGrown-refl, IsGrown-then, HasFormula-grown}
use Rattle.ss_vcgen_walk.proofs.Composing.{parts_next, parts_none}
use Rattle.ss_vcgen_walk.proofs.Growing.{HasParts-grown, HasParts-get, no_part}
use Rattle.ss_vcgen_walk.proofs.guards.add_under.Goals as goal

pub implies-requires-clause-first : goal.implies-requires-clause-first
implies-requires-clause-first c = HasFormula-grown c.args.bank.now c.loop-part.bank c.loop-part.invariant.grown c.args.f c.requires.condition

pub implies-requires-clause-second : goal.implies-requires-clause-second
implies-requires-clause-second c =
    HasParts-get c.loop-part.bank c.args.list.now c.loop-part.part-index no_part (HasParts-grown c.loop-part.invariant.grown c.args.list.now c.requires.list) c.loop-part-test.true

pub loop-part-init : goal.loop-part-init
loop-part-init c = record { grown = IsGrown-refl c.args.bank.now; done = parts_none c.args.bank.now c.args.parts.now.items c.requires.parts }

pub loop-part-preserved : goal.loop-part-preserved
loop-part-preserved c =
    let i = c.loop-part.invariant in
    record {
      grown = IsGrown-then c.args.bank.now c.loop-part.bank c.implies.new.bank i.grown c.implies.ensures.grown;
      done = parts_next c.args.parts.now.items (λ (b : Forms) (g : Formula). or_of (neg (formula_at b c.args.f) ∷ g ∷ [])) c.loop-part.bank c.implies.new.bank c.args.list.now c.loop-part.part-index no_part c.loop-part.parts.items c.push.new.self.items
          c.in_ok-formula.formula c.implies.ensures.grown c.loop-part-test.true c.in_ok-push.ensures.items i.done c.in_ok-formula.ensures.at;
    }
