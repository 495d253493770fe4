use Rattle.std.proofs.Common.{List, ◌++◌, None, map, subst}
use Rattle.std.specs.Prelude.{OnOk}
use Rattle.ss_core.specs.declared.body.Local.{Local}
use Rattle.ss_core.specs.View as view
use Rattle.ss_vcgen_builder.specs.Builder.{position_at, Becomes}
use Rattle.ss_vcgen.proofs.bodies.enter_locals.Goals as goal

pub returns : goal.returns
returns c =
    let s = c.args.builder.now in
    subst (λ (ls : List Local). OnOk c.enter_each.result (Becomes s c.enter_each.new.builder (λ b. record (position_at b s) { locals = (position_at b s).locals ++ map (λ l. None) (map view.local_of ls) }))) c.deref.ensures.value c.enter_each.ensures
