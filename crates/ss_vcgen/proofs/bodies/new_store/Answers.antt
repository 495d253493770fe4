use Rattle.ss_logic.specs.declared.Sort.TheVariants as sort
use Rattle.ss_terms.specs.Forms.{Forms}
use Rattle.ss_vcgen_heaps.specs.Positions.{new_term, set_store, with_new}
use Rattle.ss_vcgen_builder.specs.Builder.{position_at}
use Rattle.ss_vcgen_statements.proofs.Steps.{then_term, term_later}
use Rattle.ss_vcgen.proofs.bodies.new_store.Goals as goal

pub returns-clause-at : goal.returns-clause-at
returns-clause-at c = term_later c.new_term.new.self.bank c.set_store.new.self.bank c.set_store.ensures.grown c.in_ok-store.store (λ (b : Forms). new_term sort.Store (position_at b c.args.builder.now)) c.in_ok-store.ensures.at

pub returns-clause-becomes : goal.returns-clause-becomes
returns-clause-becomes c =
    let s = c.args.builder.now in
    let F0 = λ (b : Forms). position_at b s in
    then_term s c.new_term.new.self c.set_store.new.self (λ b. with_new sort.Store (F0 b)) c.in_ok-store.ensures.becomes c.in_ok-store.store (λ b. new_term sort.Store (F0 b)) (λ b x k. set_store x k) c.in_ok-store.ensures.at c.set_store.ensures
