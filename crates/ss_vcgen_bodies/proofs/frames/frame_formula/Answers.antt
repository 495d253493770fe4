use Rattle.std.proofs.Common.{List, [], ap, ◌∙◌}
use Rattle.ss_core.specs.View.{classes, body}
use Rattle.ss_logic.specs.Terms.{Term}
use Rattle.ss_logic.specs.Frames.{kept}
use Rattle.ss_logic.specs.Express.{Meant}
use Rattle.ss_terms.specs.declared.forms.TermId.{TermId}
use Rattle.ss_terms.specs.Forms.{Forms, term_at, terms_at}
use Rattle.ss_terms.proofs.Grown.{IsGrown-then, HasTerm-grown, HasTerms-grown}
use Rattle.ss_vcgen_contracts.specs.Views.{ones_at}
use Rattle.ss_vcgen_heaps.specs.Positions.{Position}
use Rattle.ss_vcgen_heaps.specs.Contracts.{frame_terms}
use Rattle.ss_vcgen_heaps.specs.Obligations.{arguments_at}
use Rattle.ss_vcgen_builder.specs.Builder.{position_at, walk_at}
use Rattle.ss_vcgen_builder.proofs.Builds.{IsWalk-grown}
use Rattle.ss_vcgen_statements.proofs.Steps.{stays_then}
use Rattle.ss_vcgen_bodies.proofs.frames.frame_formula.Goals as goal

pub frame_said-requires-clause-walk : goal.frame_said-requires-clause-walk
frame_said-requires-clause-walk c = IsWalk-grown c.args.builder.now.bank c.arguments_now.new.builder.bank c.in_ok-arguments.ensures.stays.grown c.args.walk.now c.requires.walk

pub frame_said-requires-clause-before : goal.frame_said-requires-clause-before
frame_said-requires-clause-before c = HasTerm-grown c.args.builder.now.bank c.arguments_now.new.builder.bank c.in_ok-arguments.ensures.stays.grown c.args.walk.now.entry c.requires.walk.entry

pub frame_said-requires-clause-arguments : goal.frame_said-requires-clause-arguments
frame_said-requires-clause-arguments c = rw c.deref.ensures.value c.in_ok-arguments.ensures.at.has

pub frame_said-requires-clause-outside : goal.frame_said-requires-clause-outside
frame_said-requires-clause-outside c = HasTerms-grown c.args.builder.now.bank c.arguments_now.new.builder.bank c.in_ok-arguments.ensures.stays.grown c.args.outside.now c.requires.outside

pub returns-clause-stays : goal.returns-clause-stays
returns-clause-stays c = stays_then c.args.builder.now c.arguments_now.new.builder c.frame_said.new.builder c.in_ok-arguments.ensures.stays c.in_ok-f.ensures.stays

pub returns-clause-at : goal.returns-clause-at
returns-clause-at c =
    let s = c.args.builder.now in
    let t1 = c.arguments_now.new.builder in
    let t2 = c.frame_said.new.builder in
    let g2 = c.in_ok-f.ensures.stays.grown in
    let cs = classes c.args.walk.now.core.now.classes in
    let callee = body c.args.walk.now.body.now in
    let said = λ (b : Forms) (z : Term) (ms : List Meant). kept cs (frame_terms cs callee (term_at b c.args.walk.now.entry) z ms (terms_at b c.args.outside.now)) in
    record {
      has = c.in_ok-f.ensures.at.has;
      is = λ b k.
          let here = IsGrown-then t1.bank t2.bank b g2 k in
          c.in_ok-f.ensures.at.is b k
          ∙ ap (λ (k : Position). said b k.store (ones_at b c.deref.result.now)) (c.in_ok-arguments.ensures.stays.is b here)
          ∙ ap (λ (ts : List TermId). said b (term_at b s.store) (ones_at b ts)) c.deref.ensures.value
          ∙ ap (said b (term_at b s.store)) (c.in_ok-arguments.ensures.at.are b here);
    }
