use Rattle.std.proofs.Common.{◌≡◌, ◌∙◌, ◌<◌, ◌-◌, ◌++◌, ap, sym, length, arith, append-nil}
use Rattle.ss_tables.specs.Classes.{chain_from}
use Rattle.ss_tables_lookup.specs.Classes.{trees}
use Rattle.ss_resolver_tables.proofs.Tabled.{next_class, ended}
use Rattle.ss_resolver_tables.proofs.tables.chain.Goals as goal

pub loop-step-preserved : goal.loop-step-preserved
loop-step-preserved c =
    let cs = trees c.args.tables.now in
    let l = c.loop-step in
    let within : l.step < length cs = omega (arith, c.loop-step-test.true, c.len-step-end.ensures) in
    rw (c.above-next.ensures, c.in_ok-push.ensures.items)
    (next_class cs l.classes.items c.in-Some.class l.step (length cs) within
    ∙ ap (λ o. l.classes.items ++ chain_from cs (length cs - l.step) o) (sym c.in-Some.is)
    ∙ l.invariant)

pub returns-in_default : goal.returns-in_default
returns-in_default c =
    let cs = trees c.args.tables.now in
    let l = c.loop-step in
    sym (append-nil l.classes.items)
    ∙ ap (λ ks. l.classes.items ++ ks) (sym (ended cs (length cs - l.step)))
    ∙ ap (λ o. l.classes.items ++ chain_from cs (length cs - l.step) o) (sym c.in_default.is)
    ∙ l.invariant
