use Rattle.std.proofs.Common.{[], ◌∷◌}
use Rattle.ss_logic.specs.Terms.{MakeReady, app}
use Rattle.ss_terms.specs.Forms.{Forms, term_at}
use Rattle.ss_vcgen_heaps.specs.Positions.{local_term, with_store}
use Rattle.ss_vcgen_builder.specs.Builder.{position_at}
use Rattle.ss_vcgen_statements.proofs.Steps.{then_term}
use Rattle.ss_vcgen.proofs.changes.make_ready.Goals as goal

pub returns : goal.returns
returns c =
    let s = c.args.builder.now in
    let F0 = λ (b : Forms). position_at b s in
    then_term s c.applied_local.new.builder c.with_store.new.self F0 c.in_ok-store.ensures.stays c.in_ok-store.store (λ b. app MakeReady ((term_at b s.store) ∷ local_term 0 (F0 b) ∷ [])) (λ b x k. with_store x k) c.in_ok-store.ensures.at c.in_ok-with_store.ensures
