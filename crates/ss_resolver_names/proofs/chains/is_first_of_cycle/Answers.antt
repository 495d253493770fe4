use Rattle.std.proofs.Common.{◌-◌, sym, ap, ◌∙◌, arith}
use Rattle.ss_tables_lookup.specs.Classes.{trees}
use Rattle.ss_resolver_names_rules.specs.Programs.{comes_back}
use Rattle.ss_resolver_names.proofs.Above.{back_same, back_earlier, back_later}
use Rattle.ss_resolver_names.proofs.chains.is_first_of_cycle.Goals as goal

pub returns-then-next-class : goal.returns-then-next-class
returns-then-next-class c =
    let cs = trees c.args.tables.now in
    let left = c.loop-left.left in
    sym (back_same cs c.args.class left c.in-Some.next c.loop-left-test.true c.if-next-class.true) ∙ ap (λ o. comes_back cs c.args.class left o) (sym c.in-Some.is) ∙ c.loop-left.invariant

pub returns-then-next-class-2 : goal.returns-then-next-class-2
returns-then-next-class-2 c =
    let cs = trees c.args.tables.now in
    let left = c.loop-left.left in
    sym (back_earlier cs c.args.class left c.in-Some.next c.loop-left-test.true c.if-next-class-2.true) ∙ ap (λ o. comes_back cs c.args.class left o) (sym c.in-Some.is) ∙ c.loop-left.invariant

pub loop-left-preserved : goal.loop-left-preserved
loop-left-preserved c =
    let cs = trees c.args.tables.now in
    let left = c.loop-left.left in
    ap (λ o. comes_back cs c.args.class (left - 1) o) c.above-at-in-loop-left.ensures
    ∙ sym (back_later cs c.args.class left c.in-Some.next c.loop-left-test.true c.if-next-class.false c.if-next-class-2.false)
    ∙ ap (λ o. comes_back cs c.args.class left o) (sym c.in-Some.is) ∙ c.loop-left.invariant
