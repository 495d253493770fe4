use Rattle.std.proofs.Common.{◌≡◌, ◌+◌, ◌-◌, ◌<◌, length, string_bytes, sym, ap, ◌∙◌, arith}
use Rattle.ss_ast.specs.declared.expr.Name.{Name}
use Rattle.ss_owners.proofs.Excluding.{last_passed}
use Rattle.ss_owners.proofs.attributes.is_excluded.Goals as goal

pub loop-left-preserved : goal.loop-left-preserved
loop-left-preserved c =
    let within : c.loop-left.left - 1 < length c.args.before.now = omega arith in
    let next : c.loop-left.left ≡ c.loop-left.left - 1 + 1 = omega arith in
    record {
      within = omega arith;
      same = last_passed c.args.name.now c.args.before.now (c.loop-left.left - 1) c.loop-left.left c.index-before-left.result c.as_str.result.now within next c.index-before-left.is (c.as_str.ensures.value ∙ ap (λ (x : Name). string_bytes x.text) (sym c.index-before-left.is)) c.if-excludes.ensures
          ∙ c.loop-left.invariant.same;
    }
