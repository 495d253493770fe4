use Rattle.std.proofs.Common.{◌+◌, drop, suc, sym, ap, ◌∙◌, add-one, arith}
use Rattle.std.specs.List.{count_by}
use Rattle.ss_tables.specs.Members.{methods_in}
use Rattle.ss_tables.specs.Classes.{members_at}
use Rattle.ss_tables_lookup.specs.Classes.{trees}
use Rattle.ss_resolver_names_rules.specs.Programs.{is_main}
use Rattle.ss_resolver_names.proofs.Counting.{mains_from, next_mains}
use Rattle.ss_resolver_names.proofs.program.count_mains.Goals as goal

pub loop-class-preserved : goal.loop-class-preserved
loop-class-preserved c =
    let cs = trees c.args.tables.now in
    let i = c.loop-class.class in
    ap (λ n. mains_from n (drop (i + 1) cs)) (c.in_ok-count.ensures ∙ ap (λ n. c.loop-class.count + n) c.in_ok-count_mains_of.ensures)
    ∙ ap (λ k. mains_from (c.loop-class.count + count_by is_main (methods_in (members_at cs i))) (drop k cs)) (add-one i)
    ∙ sym (next_mains cs i c.loop-class.count (omega (arith, c.loop-class-test.true)))
    ∙ c.loop-class.invariant
