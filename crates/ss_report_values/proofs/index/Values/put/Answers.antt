use Rattle.std.proofs.Common.{◌+◌, ◌∙◌, sym, arith}
use Rattle.ss_terms.proofs.Tested.{AreTermsBelow-get}
use Rattle.ss_report_values.specs.Index.{no_number}
use Rattle.ss_report_values.proofs.Classes.{none_past, none_put}
use Rattle.ss_report_values.proofs.index.Values.put.Goals as goal

pub returns-then-i-reading : goal.returns-then-i-reading
returns-then-i-reading c = λ n.
    let b = c.args.bank.now in
    let ts = c.args.reading.now.terms.now in
    let ns = c.args.reading.now.classes.now in
    c.requires.values n ∙ sym (none_past b n ts ns (c.args.i + 1) (omega arith)) ∙ none_past b n ts ns c.args.i (omega arith)

pub value_of-requires : goal.value_of-requires
value_of-requires c = AreTermsBelow-get _ c.args.reading.now.terms.now c.args.i no_number c.requires.terms c.requires.place

pub returns-in-None : goal.returns-in-None
returns-in-None c = λ n. c.requires.values n ∙ none_put c.args.bank.now n c.args.reading.now.terms.now c.args.reading.now.classes.now c.args.i no_number c.requires.place (omega arith) c.in-None.ensures
