use Rattle.std.proofs.Common.{Bool, sym, ap, ◌∙◌}
use Rattle.std.specs.Prelude.{◌||◌, ◌&&◌, ◌==◌}
use Rattle.std.proofs.lemmas.Result.{IfOk-equal}
use Rattle.ss_vcgen_known.specs.Steps.{with_fields}
use Rattle.ss_vcgen_known.specs.Views.{known_of}
use Rattle.ss_vcgen_known.proofs.Giving.{no_field_more}
use Rattle.ss_vcgen_known.proofs.known.Known.write.Goals as goal

pub returns-then-is_this : goal.returns-then-is_this
returns-then-is_this c =
    let k = known_of c.args.self.now in
    IfOk-equal c.give.result _ _ _ c.give.ensures
    (ap (λ (b : Bool). with_fields (λ g. k.fields g || b && g == c.args.field.0) k) (sym c.if-is_this.true ∙ c.is_this.ensures))

pub returns-else-is_this : goal.returns-else-is_this
returns-else-is_this c =
    let k = known_of c.args.self.now in
    no_field_more k c.args.field.0
    ∙ ap (λ (b : Bool). with_fields (λ g. k.fields g || b && g == c.args.field.0) k) (sym c.if-is_this.false ∙ c.is_this.ensures)
