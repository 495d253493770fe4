use Rattle.std.proofs.Common.{List, ap, ◌∙◌}
use Rattle.ss_core.specs.View.{classes, body}
use Rattle.ss_logic.specs.Terms.{Term}
use Rattle.ss_logic.specs.Express.{Meant}
use Rattle.ss_terms.specs.declared.forms.TermId.{TermId}
use Rattle.ss_terms.specs.Forms.{term_at}
use Rattle.ss_terms.proofs.Grown.{IsGrown-then}
use Rattle.ss_vcgen_contracts.specs.Views.{ones_at}
use Rattle.ss_vcgen_heaps.specs.Positions.{Position}
use Rattle.ss_vcgen_heaps.specs.Contracts.{conditions, contract_context, no_result}
use Rattle.ss_vcgen_builder.proofs.Builds.{IsWalk-grown}
use Rattle.ss_vcgen_statements.proofs.Steps.{stays_then}
use Rattle.ss_vcgen_bodies.proofs.frames.entries_said.Goals as goal

pub entry_said-requires-clause-walk : goal.entry_said-requires-clause-walk
entry_said-requires-clause-walk c = IsWalk-grown c.args.builder.now.bank c.arguments_now.new.builder.bank c.in_ok-arguments.ensures.stays.grown c.args.walk.now c.requires.walk

pub entry_said-requires-clause-arguments : goal.entry_said-requires-clause-arguments
entry_said-requires-clause-arguments c = rw c.deref.ensures.value c.in_ok-arguments.ensures.at.has

pub returns-clause-stays : goal.returns-clause-stays
returns-clause-stays c = stays_then c.args.builder.now c.arguments_now.new.builder c.entry_said.new.builder c.in_ok-arguments.ensures.stays c.in_ok-said.ensures.stays

pub returns-clause-at : goal.returns-clause-at
returns-clause-at c =
    let s = c.args.builder.now in
    let t1 = c.arguments_now.new.builder in
    let t2 = c.entry_said.new.builder in
    let g2 = c.in_ok-said.ensures.stays.grown in
    let cs = classes c.args.walk.now.core.now.classes in
    let callee = body c.args.walk.now.body.now in
    let said = λ (z : Term) (ms : List Meant). conditions callee.entry (contract_context cs callee z z ms (no_result callee)) in
    record {
      has = c.in_ok-said.ensures.at.has;
      are = λ b k.
          let here = IsGrown-then t1.bank t2.bank b g2 k in
          c.in_ok-said.ensures.at.are b k
          ∙ ap (λ (k : Position). said k.store (ones_at b c.deref.result.now)) (c.in_ok-arguments.ensures.stays.is b here)
          ∙ ap (λ (ts : List TermId). said (term_at b s.store) (ones_at b ts)) c.deref.ensures.value
          ∙ ap (said (term_at b s.store)) (c.in_ok-arguments.ensures.at.are b here);
    }
