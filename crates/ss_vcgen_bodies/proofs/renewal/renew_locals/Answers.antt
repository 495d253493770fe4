use Rattle.std.proofs.Common.{ℕ, ◌+◌, Bool, List, drop, get_or, sym, ap, ◌∙◌}
use Rattle.std.proofs.lemmas.List.{drop_all, drop_more}
use Rattle.ss_core.specs.declared.names.Ty.{Ty}
use Rattle.ss_core.specs.declared.names.Ty.TheVariants as ty
use Rattle.ss_core.specs.View.{stmt_of}
use Rattle.ss_vcgen_heaps.specs.Obligations as spec
use Rattle.ss_vcgen_builder.specs.Builder.{position_at}
use Rattle.ss_vcgen_builder.proofs.Builds.{going_start, going_on, going_end}
use Rattle.ss_vcgen_bodies.specs.Words.{renewed_one}
use Rattle.ss_vcgen_bodies.proofs.renewal.renew_locals.Goals as goal

pub loop-x-init : goal.loop-x-init
loop-x-init c = going_start c.args.builder.now (λ b k. spec.renew_from (stmt_of c.args.stmt.now) 0 c.args.types.now k) c.requires

pub loop-x-preserved : goal.loop-x-preserved
loop-x-preserved c =
    let st = stmt_of c.args.stmt.now in
    let ts = c.args.types.now in
    let x = c.loop-x.x in
    let t = get_or ts x ty.Int in
    let is = c.has.ensures ∙ ap (λ (f : ℕ → Bool). f x) c.in_ok-among.ensures in
    going_on c.args.builder.now c.loop-x.builder c.renew_one.new.builder (λ b k. spec.renew_from st x (drop x ts) k) (λ b k. renewed_one c.has.result x t k) (λ b k. spec.renew_from st (x + 1) (drop (x + 1) ts) k)
    (λ b. spec.renew_from st 0 ts (position_at b c.args.builder.now)) c.loop-x.invariant c.in_ok-renew_one.ensures
    (λ b k.
    ap (λ (us : List Ty). spec.renew_from st x us k) (drop_more ts x ty.Int c.loop-x-test.true)
    ∙ ap (λ (v : Bool). spec.renew_from st (x + 1) (drop (x + 1) ts) (renewed_one v x t k)) (sym is))

pub returns : goal.returns
returns c =
    let st = stmt_of c.args.stmt.now in
    let ts = c.args.types.now in
    let x = c.loop-x.x in
    going_end c.args.builder.now c.loop-x.builder (λ b k. spec.renew_from st x (drop x ts) k) (λ b. spec.renew_from st 0 ts (position_at b c.args.builder.now)) c.loop-x.invariant
    (λ b k. ap (λ (us : List Ty). spec.renew_from st x us k) (drop_all x ts c.loop-x-test.false))
