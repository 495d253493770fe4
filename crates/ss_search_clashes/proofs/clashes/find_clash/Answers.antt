use Rattle.std.proofs.Common.{◌≡◌, None, length}
use Rattle.std.proofs.lemmas.Result.{IfOk-weaker}
use Rattle.ss_search_clashes.specs.Numbered.{class_of, HasNoClash, AreValuesApart}
use Rattle.ss_search_clashes.specs.Tables.{Tabulates}
use Rattle.ss_search_clashes.proofs.Numbers.{is_classing}
use Rattle.ss_search_clashes.proofs.Tables.{no_clash}
use Rattle.ss_search_clashes.proofs.clashes.find_clash.Goals as goal

pub returns-clause-none : goal.returns-clause-none
returns-clause-none c =
    let b = c.args.bank.now in
    let class = class_of b c.args.classes.now in
    let known = c.args.known.now in
    IfOk-weaker c.tabulate_all.result (λ o. o ≡ None → Tabulates b class known (length known) c.tabulate_all.new.said × AreValuesApart b class) (λ o. o ≡ None → HasNoClash b class known)
    (λ o h e. no_clash b class known c.requires c.tabulate_all.new.said (h e).0 (h e).1)
    (c.tabulate_all.ensures.none class (is_classing b c.args.classes.now c.numbers_are_apart.ensures))

pub returns-clause-some : goal.returns-clause-some
returns-clause-some c =
    let b = c.args.bank.now in
    c.tabulate_all.ensures.some (class_of b c.args.classes.now) (is_classing b c.args.classes.now c.numbers_are_apart.ensures)
