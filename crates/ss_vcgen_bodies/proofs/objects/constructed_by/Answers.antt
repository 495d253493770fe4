use Rattle.std.proofs.Common.{◌≡◌, List, ◌∷◌, ap, ◌∙◌}
use Rattle.ss_core.specs.View.{body}
use Rattle.ss_terms.specs.declared.forms.TermId.{TermId}
use Rattle.ss_terms.specs.Forms.{Forms, term_at, HasTerms}
use Rattle.ss_terms.proofs.Grown.{HasTerm-grown, HasTerms-grown}
use Rattle.ss_vcgen_heaps.specs.Obligations.{check_entry, returned, with_ready}
use Rattle.ss_vcgen_builder.specs.Builder.{position_at, walk_at}
use Rattle.ss_vcgen_builder.proofs.Builds.{IsWalk-grown}
use Rattle.ss_vcgen_contracts.specs.Views.{ones_at}
use Rattle.ss_vcgen_statements.proofs.Steps.{then, so}
use Rattle.ss_vcgen_bodies.proofs.objects.constructed_by.Goals as goal

pub check_entry-requires-clause-arguments : goal.check_entry-requires-clause-arguments
check_entry-requires-clause-arguments c =
    let s = c.args.builder.now in
    let w = λ (b : Forms). walk_at b c.args.walk.now in
    let F0 = λ (b : Forms). position_at b s in
    let d = body c.args.callee.now in
    let ids = c.args.o ∷ c.args.arguments.now in
    let first : c.deref.result.now ≡ ids = c.deref.ensures.value ∙ c.in_ok-all.ensures in
    let has : HasTerms s.bank ids = (c.requires.object, c.requires.arguments) in
    rw first has

pub returned-requires-clause-walk : goal.returned-requires-clause-walk
returned-requires-clause-walk c =
    let s = c.args.builder.now in
    let w = λ (b : Forms). walk_at b c.args.walk.now in
    let F0 = λ (b : Forms). position_at b s in
    let d = body c.args.callee.now in
    let ids = c.args.o ∷ c.args.arguments.now in
    let first : c.deref.result.now ≡ ids = c.deref.ensures.value ∙ c.in_ok-all.ensures in
    let has : HasTerms s.bank ids = (c.requires.object, c.requires.arguments) in
    let t1 = c.check_entry.new.builder in
    let e1 = c.in_ok-check_entry.ensures in
    let F1 = λ (b : Forms). check_entry (w b) c.args.at d (ones_at b ids) (F0 b) in
    let p1 = so s t1 (λ b. check_entry (w b) c.args.at d (ones_at b c.deref.result.now) (F0 b)) F1 (λ b k. ap (λ (ts : List TermId). check_entry (w b) c.args.at d (ones_at b ts) (F0 b)) first) e1 in
    IsWalk-grown s.bank t1.bank p1.grown c.args.walk.now c.requires.walk

pub returned-requires-clause-arguments : goal.returned-requires-clause-arguments
returned-requires-clause-arguments c =
    let s = c.args.builder.now in
    let w = λ (b : Forms). walk_at b c.args.walk.now in
    let F0 = λ (b : Forms). position_at b s in
    let d = body c.args.callee.now in
    let ids = c.args.o ∷ c.args.arguments.now in
    let first : c.deref.result.now ≡ ids = c.deref.ensures.value ∙ c.in_ok-all.ensures in
    let has : HasTerms s.bank ids = (c.requires.object, c.requires.arguments) in
    let t1 = c.check_entry.new.builder in
    let e1 = c.in_ok-check_entry.ensures in
    let F1 = λ (b : Forms). check_entry (w b) c.args.at d (ones_at b ids) (F0 b) in
    let p1 = so s t1 (λ b. check_entry (w b) c.args.at d (ones_at b c.deref.result.now) (F0 b)) F1 (λ b k. ap (λ (ts : List TermId). check_entry (w b) c.args.at d (ones_at b ts) (F0 b)) first) e1 in
    let second : c.deref-2.result.now ≡ ids = c.deref-2.ensures.value ∙ c.in_ok-all.ensures in
    rw second (HasTerms-grown s.bank t1.bank p1.grown ids has)

pub with_ready-requires-clause-object : goal.with_ready-requires-clause-object
with_ready-requires-clause-object c =
    let s = c.args.builder.now in
    let w = λ (b : Forms). walk_at b c.args.walk.now in
    let F0 = λ (b : Forms). position_at b s in
    let d = body c.args.callee.now in
    let ids = c.args.o ∷ c.args.arguments.now in
    let first : c.deref.result.now ≡ ids = c.deref.ensures.value ∙ c.in_ok-all.ensures in
    let has : HasTerms s.bank ids = (c.requires.object, c.requires.arguments) in
    let t1 = c.check_entry.new.builder in
    let e1 = c.in_ok-check_entry.ensures in
    let F1 = λ (b : Forms). check_entry (w b) c.args.at d (ones_at b ids) (F0 b) in
    let p1 = so s t1 (λ b. check_entry (w b) c.args.at d (ones_at b c.deref.result.now) (F0 b)) F1 (λ b k. ap (λ (ts : List TermId). check_entry (w b) c.args.at d (ones_at b ts) (F0 b)) first) e1 in
    let second : c.deref-2.result.now ≡ ids = c.deref-2.ensures.value ∙ c.in_ok-all.ensures in
    let t2 = c.returned.new.builder in
    let e2 = c.in_ok-_results.ensures.becomes in
    let F2 = λ (b : Forms). returned (w b) d (ones_at b ids) (F1 b) in
    let p2 = so s t2 (λ b. returned (w b) d (ones_at b c.deref-2.result.now) (F1 b)) F2 (λ b k. ap (λ (ts : List TermId). returned (w b) d (ones_at b ts) (F1 b)) second)
    (then s t1 t2 F1 (λ b k. returned (w b) d (ones_at b c.deref-2.result.now) k) p1 e2) in
    HasTerm-grown s.bank t2.bank p2.grown c.args.o c.requires.object

pub returns : goal.returns
returns c =
    let s = c.args.builder.now in
    let w = λ (b : Forms). walk_at b c.args.walk.now in
    let F0 = λ (b : Forms). position_at b s in
    let d = body c.args.callee.now in
    let ids = c.args.o ∷ c.args.arguments.now in
    let first : c.deref.result.now ≡ ids = c.deref.ensures.value ∙ c.in_ok-all.ensures in
    let has : HasTerms s.bank ids = (c.requires.object, c.requires.arguments) in
    let t1 = c.check_entry.new.builder in
    let e1 = c.in_ok-check_entry.ensures in
    let F1 = λ (b : Forms). check_entry (w b) c.args.at d (ones_at b ids) (F0 b) in
    let p1 = so s t1 (λ b. check_entry (w b) c.args.at d (ones_at b c.deref.result.now) (F0 b)) F1 (λ b k. ap (λ (ts : List TermId). check_entry (w b) c.args.at d (ones_at b ts) (F0 b)) first) e1 in
    let second : c.deref-2.result.now ≡ ids = c.deref-2.ensures.value ∙ c.in_ok-all.ensures in
    let t2 = c.returned.new.builder in
    let e2 = c.in_ok-_results.ensures.becomes in
    let F2 = λ (b : Forms). returned (w b) d (ones_at b ids) (F1 b) in
    let p2 = so s t2 (λ b. returned (w b) d (ones_at b c.deref-2.result.now) (F1 b)) F2 (λ b k. ap (λ (ts : List TermId). returned (w b) d (ones_at b ts) (F1 b)) second)
    (then s t1 t2 F1 (λ b k. returned (w b) d (ones_at b c.deref-2.result.now) k) p1 e2) in
    then s t2 c.with_ready.new.builder F2 (λ b k. with_ready d.flags.delayed (term_at b c.args.o) k) p2 c.in_ok-with_ready.ensures
