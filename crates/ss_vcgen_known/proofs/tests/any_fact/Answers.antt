use Rattle.std.proofs.Common.{◌+◌, ◌∙◌, sym, drop, get_or}
use Rattle.std.proofs.lemmas.List.{drop_more}
use Rattle.std.proofs.Math.ListN.{drop_of_length-le}
use Rattle.ss_vcgen_known.specs.Views.{known_of, tested}
use Rattle.ss_vcgen_types.proofs.Walking.{no_told, fact_here, fact_not_here, fact_none}
use Rattle.ss_vcgen_known.proofs.tests.any_fact.Goals as goal

pub returns-then-is_fact : goal.returns-then-is_fact
returns-then-is_fact c =
    let i = c.loop-told.told-index in
    let all = c.args.list.now in
    fact_here (tested c.args.tests.now (known_of c.args.known.now)) c.args.local (drop i all) (drop (i + 1) all) (get_or all i no_told) (drop_more all i no_told c.loop-told-test.true) (sym c.is_fact.ensures ∙ c.if-is_fact.true) ∙ c.loop-told.invariant

pub loop-told-preserved : goal.loop-told-preserved
loop-told-preserved c =
    let i = c.loop-told.told-index in
    let all = c.args.list.now in
    fact_not_here (tested c.args.tests.now (known_of c.args.known.now)) c.args.local (drop i all) (drop (i + 1) all) (get_or all i no_told) (drop_more all i no_told c.loop-told-test.true) (sym c.is_fact.ensures ∙ c.if-is_fact.false) ∙ c.loop-told.invariant

pub returns : goal.returns
returns c = fact_none (tested c.args.tests.now (known_of c.args.known.now)) c.args.local (drop c.loop-told.told-index c.args.list.now) (drop_of_length-le c.args.list.now c.loop-told-test.false) ∙ c.loop-told.invariant
