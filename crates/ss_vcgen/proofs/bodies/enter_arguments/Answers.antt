use Rattle.std.proofs.Common.{◌+◌, List, drop, get_or, ap}
use Rattle.std.proofs.lemmas.List.{drop_all, drop_more}
use Rattle.ss_core.specs.declared.names.Ty.{Ty}
use Rattle.ss_core.specs.declared.names.Ty.TheVariants as ty
use Rattle.ss_vcgen_heaps.specs.Obligations as spec
use Rattle.ss_vcgen_builder.specs.Builder.{position_at}
use Rattle.ss_vcgen_builder.proofs.Builds.{going_start, going_on, going_end}
use Rattle.ss_vcgen.specs.Bodies.{argument_entered}
use Rattle.ss_vcgen.proofs.bodies.enter_arguments.Goals as goal

pub loop-ty-init : goal.loop-ty-init
loop-ty-init c = going_start c.args.builder.now (λ b k. spec.enter_arguments c.args.types.now k) c.requires

pub loop-ty-preserved : goal.loop-ty-preserved
loop-ty-preserved c =
    let ts = c.args.types.now in
    let i = c.loop-ty.ty-index in
    let t = get_or ts i ty.Int in
    going_on c.args.builder.now c.loop-ty.builder c.enter_argument.new.builder (λ b k. spec.enter_arguments (drop i ts) k) (λ b k. argument_entered t k) (λ b k. spec.enter_arguments (drop (i + 1) ts) k)
    (λ b. spec.enter_arguments ts (position_at b c.args.builder.now)) c.loop-ty.invariant c.in_ok-enter_argument.ensures
    (λ b k. ap (λ (us : List Ty). spec.enter_arguments us k) (drop_more ts i ty.Int c.loop-ty-test.true))

pub returns : goal.returns
returns c =
    let ts = c.args.types.now in
    let i = c.loop-ty.ty-index in
    going_end c.args.builder.now c.loop-ty.builder (λ b k. spec.enter_arguments (drop i ts) k) (λ b. spec.enter_arguments ts (position_at b c.args.builder.now)) c.loop-ty.invariant
    (λ b k. ap (λ (us : List Ty). spec.enter_arguments us k) (drop_all i ts c.loop-ty-test.false))
