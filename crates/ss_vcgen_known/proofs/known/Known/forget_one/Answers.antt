use Rattle.std.proofs.Common.{Bool, false, sym, ap, ◌∙◌}
use Rattle.std.specs.Prelude.{if◌then◌else◌}
use Rattle.std.proofs.lemmas.Result.{IfOk-equal}
use Rattle.ss_store_rules.specs.NonNull.{with_local, says_nothing}
use Rattle.ss_vcgen_known.specs.Views.{known_of}
use Rattle.ss_vcgen_known.proofs.known.Known.forget_one.Goals as goal

pub returns-then-has : goal.returns-then-has
returns-then-has c =
    let k = known_of c.args.self.now in
    IfOk-equal c.set_silent.result _ _ _ c.set_silent.ensures
    (ap (λ (b : Bool). if b then with_local c.args.x false says_nothing k else k) (sym c.if-has.true ∙ c.has.ensures))

pub returns-else-has : goal.returns-else-has
returns-else-has c =
    let k = known_of c.args.self.now in
    ap (λ (b : Bool). if b then with_local c.args.x false says_nothing k else k) (sym c.if-has.false ∙ c.has.ensures)
