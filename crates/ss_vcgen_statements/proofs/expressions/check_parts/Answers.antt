use Rattle.std.proofs.Common.{◌+◌, ◌∷◌, [], ◌∙◌, drop, get_or, List, ap}
use Rattle.std.proofs.lemmas.List.{drop_more, drop_all}
use Rattle.ss_vcgen_heaps.specs.Positions as positions
use Rattle.ss_vcgen_express.specs.Marked.{checked_of}
use Rattle.ss_vcgen_walk.specs.declared.parts.Part.{Part}
use Rattle.ss_vcgen_walk.specs.Parts.{marked_at, parts_at}
use Rattle.ss_vcgen_walk.proofs.Growing.{HasParts-grown, HasParts-get, no_part}
use Rattle.ss_vcgen_builder.specs.Builder.{position_at, walk_at}
use Rattle.ss_vcgen_builder.proofs.Builds.{going_start, going_on, going_end}
use Rattle.ss_vcgen_statements.proofs.Evaluated.{check_parts_step}
use Rattle.ss_vcgen_statements.proofs.expressions.check_parts.Goals as goal

pub loop-part-init : goal.loop-part-init
loop-part-init c = going_start c.args.builder.now (λ b k. positions.check_parts (walk_at b c.args.walk.now) (checked_of (parts_at b c.args.parts.now)) k) c.requires.fine

pub check_part-requires-clause-part : goal.check_part-requires-clause-part
check_part-requires-clause-part c =
    HasParts-get c.loop-part.builder.bank c.args.parts.now c.loop-part.part-index no_part (HasParts-grown c.loop-part.invariant.grown c.args.parts.now c.requires.parts) c.loop-part-test.true

pub loop-part-preserved : goal.loop-part-preserved
loop-part-preserved c =
    let ps = c.args.parts.now in
    let i = c.loop-part.part-index in
    let p = get_or ps i no_part in
    going_on c.args.builder.now c.loop-part.builder c.check_part.new.builder (λ b k. positions.check_parts (walk_at b c.args.walk.now) (checked_of (parts_at b (drop i ps))) k)
    (λ b k. positions.check_parts (walk_at b c.args.walk.now) (checked_of (marked_at b p ∷ [])) k) (λ b k. positions.check_parts (walk_at b c.args.walk.now) (checked_of (parts_at b (drop (i + 1) ps))) k)
    (λ b. positions.check_parts (walk_at b c.args.walk.now) (checked_of (parts_at b ps)) (position_at b c.args.builder.now)) c.loop-part.invariant c.in_ok-check_part.ensures
    (λ b k.
    ap (λ (qs : List Part). positions.check_parts (walk_at b c.args.walk.now) (checked_of (parts_at b qs)) k) (drop_more ps i no_part c.loop-part-test.true)
    ∙ check_parts_step (walk_at b c.args.walk.now) (marked_at b p) (parts_at b (drop (i + 1) ps)) k)

pub returns : goal.returns
returns c =
    let ps = c.args.parts.now in
    let i = c.loop-part.part-index in
    going_end c.args.builder.now c.loop-part.builder (λ b k. positions.check_parts (walk_at b c.args.walk.now) (checked_of (parts_at b (drop i ps))) k)
    (λ b. positions.check_parts (walk_at b c.args.walk.now) (checked_of (parts_at b ps)) (position_at b c.args.builder.now)) c.loop-part.invariant
    (λ b k. ap (λ (qs : List Part). positions.check_parts (walk_at b c.args.walk.now) (checked_of (parts_at b qs)) k) (drop_all i ps c.loop-part-test.false))
