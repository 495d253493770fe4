use Rattle.std.proofs.Common.{List, map, ap, ◌∙◌}
use Rattle.ss_core.specs.View.{exposed_tree}
use Rattle.ss_logic.specs.Terms.{Term}
use Rattle.ss_terms.specs.declared.forms.TermId.{TermId}
use Rattle.ss_terms.specs.Forms.{terms_at}
use Rattle.ss_terms.proofs.Grown.{IsGrown-then}
use Rattle.ss_vcgen_heaps.specs.Positions.{Position}
use Rattle.ss_vcgen_heaps.specs.Obligations as spec
use Rattle.ss_vcgen_builder.specs.Builder.{position_at, walk_at}
use Rattle.ss_vcgen_builder.proofs.Builds.{IsWalk-grown}
use Rattle.ss_vcgen_statements.proofs.Steps.{stays_then}
use Rattle.ss_vcgen_bodies.proofs.frames.frame_at_head.Goals as goal

pub frame_formula-requires-clause-walk : goal.frame_formula-requires-clause-walk
frame_formula-requires-clause-walk c = IsWalk-grown c.args.builder.now.bank c.exposed_terms.new.builder.bank c.in_ok-outside.ensures.stays.grown c.args.walk.now c.requires.walk

pub frame_formula-requires-clause-outside : goal.frame_formula-requires-clause-outside
frame_formula-requires-clause-outside c = rw c.deref.ensures.value c.in_ok-outside.ensures.at.has

pub returns-clause-stays : goal.returns-clause-stays
returns-clause-stays c = stays_then c.args.builder.now c.exposed_terms.new.builder c.frame_formula.new.builder c.in_ok-outside.ensures.stays c.in_ok-f.ensures.stays

pub returns-clause-at : goal.returns-clause-at
returns-clause-at c =
    let s = c.args.builder.now in
    let t1 = c.exposed_terms.new.builder in
    let t2 = c.frame_formula.new.builder in
    record {
      has = c.in_ok-f.ensures.at.has;
      is = λ b k.
          let here = IsGrown-then t1.bank t2.bank b c.in_ok-f.ensures.stays.grown k in
          c.in_ok-f.ensures.at.is b k
          ∙ ap (λ (ts : List TermId). spec.frame_formula (walk_at b c.args.walk.now) (terms_at b ts) (position_at b t1)) c.deref.ensures.value
          ∙ ap (λ (ts : List Term). spec.frame_formula (walk_at b c.args.walk.now) ts (position_at b t1)) (c.in_ok-outside.ensures.at.are b here)
          ∙ ap (λ (k : Position). spec.frame_formula (walk_at b c.args.walk.now) (spec.exposed_terms (map exposed_tree c.args.exposes.now) (position_at b s)) k) (c.in_ok-outside.ensures.stays.is b here);
    }
