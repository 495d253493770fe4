use Rattle.std.proofs.Common.{◌≡◌, sym, refl, subst, length}
use Rattle.ss_search_clashes.specs.declared.clashes.Clash.{Clash}
use Rattle.ss_search_clashes.specs.Numbered.{AreValuesApart}
use Rattle.ss_search_clashes.specs.Tables.{Tabulates, Table, IsTable}
use Rattle.ss_search_clashes.specs.Found.{IsClash}
use Rattle.ss_search_clashes.proofs.Tables.{at_some, looked_up, is_table}
use Rattle.ss_search_clashes.proofs.clashes.look.Goals as goal

pub returns-in-Some : goal.returns-in-Some
returns-in-Some c =
    let b = c.args.bank.now in
    looked_up b c.numbers_are_apart.ensures c.deref.result.now c.args.classes.items c.deref.ensures.value (λ class. IsClash b class c.args.known.now c.in-Some.clash)
    (λ class k. at_some (λ (x : Clash). IsClash b class c.args.known.now x) c.in_ok-clash.field-0 c.in-Some.clash c.in-Some.is (c.in_ok-clash.ensures.some class k))

pub returns-in-None : goal.returns-in-None
returns-in-None c =
    let b = c.args.bank.now in
    let known = c.args.known.now in
    let said = c.tabulate_all.new.said in
    let found = looked_up b c.numbers_are_apart.ensures c.deref.result.now c.args.classes.items c.deref.ensures.value (λ class. Tabulates b class known (length known) said × AreValuesApart b class)
    (λ class k. c.in_ok-clash.ensures.none class k c.in-None.is) in
    subst (λ (t : Table). (t.classes ≡ c.args.classes.items) × IsTable b known t) (sym c.new.ensures)
    (refl, is_table b known (record { classes = c.args.classes.items; said = said }) c.requires found.0 found.1)
