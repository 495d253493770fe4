use Rattle.std.proofs.Common.{List, ap, sym, subst, ◌∙◌}
use Rattle.ss_core.specs.View.{classes, body}
use Rattle.ss_logic.specs.Express.{Meant}
use Rattle.ss_terms.specs.declared.forms.TermId.{TermId}
use Rattle.ss_terms.specs.Forms.{Forms, term_at, HasTerms}
use Rattle.ss_terms.proofs.Grown.{IsGrown-then, HasTerm-grown, HasTerms-grown}
use Rattle.ss_vcgen_contracts.specs.Views.{ones_at}
use Rattle.ss_vcgen_heaps.specs.Contracts.{conditions, contract_context}
use Rattle.ss_vcgen_builder.proofs.Builds.{IsWalk-grown}
use Rattle.ss_vcgen_statements.proofs.Steps.{stays_then}
use Rattle.ss_vcgen_bodies.proofs.frames.exits_said.Goals as goal

pub exit_said-requires-clause-walk : goal.exit_said-requires-clause-walk
exit_said-requires-clause-walk c = IsWalk-grown c.args.builder.now.bank c.arguments_now.new.builder.bank c.in_ok-arguments.ensures.stays.grown c.args.walk.now c.requires.walk

pub exit_said-requires-clause-after : goal.exit_said-requires-clause-after
exit_said-requires-clause-after c = HasTerm-grown c.args.builder.now.bank c.arguments_now.new.builder.bank c.in_ok-arguments.ensures.stays.grown c.args.builder.now.store c.requires.fine.store

pub exit_said-requires-clause-before : goal.exit_said-requires-clause-before
exit_said-requires-clause-before c = HasTerm-grown c.args.builder.now.bank c.arguments_now.new.builder.bank c.in_ok-arguments.ensures.stays.grown c.args.walk.now.entry c.requires.walk.entry

pub exit_said-requires-clause-arguments : goal.exit_said-requires-clause-arguments
exit_said-requires-clause-arguments c = subst (λ (ts : List TermId). HasTerms c.arguments_now.new.builder.bank ts) (sym c.deref.ensures.value) c.in_ok-arguments.ensures.at.has

pub exit_said-requires-clause-results : goal.exit_said-requires-clause-results
exit_said-requires-clause-results c = HasTerms-grown c.args.builder.now.bank c.arguments_now.new.builder.bank c.in_ok-arguments.ensures.stays.grown c.args.results.now c.requires.results

pub returns-clause-stays : goal.returns-clause-stays
returns-clause-stays c = stays_then c.args.builder.now c.arguments_now.new.builder c.exit_said.new.builder c.in_ok-arguments.ensures.stays c.in_ok-said.ensures.stays

pub returns-clause-at : goal.returns-clause-at
returns-clause-at c =
    let s = c.args.builder.now in
    let t1 = c.arguments_now.new.builder in
    let t2 = c.exit_said.new.builder in
    let g2 = c.in_ok-said.ensures.stays.grown in
    let cs = classes c.args.walk.now.core.now.classes in
    let callee = body c.args.walk.now.body.now in
    let said = λ (b : Forms) (ms : List Meant). conditions callee.exit (contract_context cs callee (term_at b s.store) (term_at b c.args.walk.now.entry) ms (ones_at b c.args.results.now)) in
    record {
      has = c.in_ok-said.ensures.at.has;
      are = λ b k.
          c.in_ok-said.ensures.at.are b k
          ∙ ap (λ (ts : List TermId). said b (ones_at b ts)) c.deref.ensures.value
          ∙ ap (said b) (c.in_ok-arguments.ensures.at.are b (IsGrown-then t1.bank t2.bank b g2 k));
    }
