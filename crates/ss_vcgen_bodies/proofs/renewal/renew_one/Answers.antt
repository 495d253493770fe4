use Rattle.std.proofs.Common.{Bool, subst, sym}
use Rattle.std.specs.Prelude.{OnOk}
use Rattle.ss_vcgen_builder.specs.Builder.{position_at, Becomes}
use Rattle.ss_vcgen_bodies.specs.Words.{renewed_one}
use Rattle.ss_vcgen_bodies.proofs.renewal.renew_one.Goals as goal

pub returns-then-assigned : goal.returns-then-assigned
returns-then-assigned c =
    subst (λ (v : Bool). OnOk c.renew_local.result (Becomes c.args.builder.now c.renew_local.new.builder (λ b. renewed_one v c.args.x c.args.ty (position_at b c.args.builder.now)))) (sym c.if-assigned.true) c.renew_local.ensures
