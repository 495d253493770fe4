use Rattle.std.proofs.Common.{ap, ◌∙◌}
use Rattle.ss_core.specs.View as view
use Rattle.ss_logic.specs.Terms.{Term}
use Rattle.ss_terms.specs.Forms.{Forms, term_at}
use Rattle.ss_terms.proofs.Grown.{IsGrown-then, IsBankOf-grown}
use Rattle.ss_vcgen_heaps.specs.Obligations.{at_end, first_position, walk_of}
use Rattle.ss_vcgen_builder.specs.Builder.{counters_of}
use Rattle.ss_vcgen.specs.Bodies.{filled}
use Rattle.ss_vcgen.proofs.Building.{begins_on, begins_so}
use Rattle.ss_vcgen.proofs.bodies.add_body.Goals as goal

pub fill-requires-clause-walk : goal.fill-requires-clause-walk
fill-requires-clause-walk c = record {
  entry = c.in_ok-entry.ensures.at.has;
  types = c.deref.ensures.value ∙ c.in_ok-types.ensures;
  bank = IsBankOf-grown (view.classes c.args.core.now.classes) c.args.builder.now.bank c.begin.new.builder.bank c.in_ok-entry.ensures.begins.grown c.requires.bank;
  limits = c.requires.limits;
}

pub returns : goal.returns
returns c =
    let s = c.args.builder.now in
    let t1 = c.begin.new.builder in
    let t2 = c.fill.new.builder in
    let e2 = c.in_ok-fill.ensures in
    let core = view.core c.args.core.now in
    let body = view.body c.args.body.now in
    let next = counters_of s.next in
    let n = c.args.number.0 in
    let first = first_position body next in
    let done = λ (z : Term). filled (record { program = core; body = body; number = n; entry = z }) first in
    begins_so s t2 (λ (b : Forms). done (term_at b c.in_ok-entry.entry)) (λ b. at_end (walk_of core n body next) next)
    (λ b k. ap done (c.in_ok-entry.ensures.at.is b (IsGrown-then t1.bank t2.bank b e2.grown k)))
    (begins_on s t1 t2 (λ b. first) (λ b k. filled (record { program = core; body = body; number = n; entry = term_at b c.in_ok-entry.entry }) k) c.in_ok-entry.ensures.begins e2)
