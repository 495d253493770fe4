use Rattle.std.proofs.Common.{inr, ap}
use Rattle.std.proofs.lemmas.Option.{IfSome_then}
use Rattle.ss_terms.specs.Forms.{formula_at}
use Rattle.ss_search_procedure_rules.specs.Closed.{is_basic}
use Rattle.ss_search_reached.proofs.Holding.{basic_holds}
use Rattle.ss_search_reached.proofs.Trials.{trial_merged, fewer, taken_back}
use Rattle.ss_search_reaching.specs.Refuting.{bank_of, known_beside}
use Rattle.ss_search_reaching.proofs.Beside.{trial_closes}
use Rattle.ss_search_reaching.proofs.basic.Refuting.trial.Goals as goal

pub merge-requires-clause-bank : goal.merge-requires-clause-bank
merge-requires-clause-bank c = inr c.requires.refuting.forms

pub contradiction-requires-clause-merged : goal.contradiction-requires-clause-merged
contradiction-requires-clause-merged c =
    let s = c.args.self.now in
    let f = c.args.fact in
    trial_merged (bank_of s) c.numbers_are_apart.ensures c.args.congruence.now c.merge.new.self c.args.left c.args.right f.place c.requires.refuting.forms c.in_ok-merge.ensures.terms c.in_ok-merge.ensures.merged
    s.known.now f.formula c.requires.refuting.merged c.requires.left c.requires.right c.requires.equality

pub undo-requires : goal.undo-requires
undo-requires c =
    fewer (bank_of c.args.self.now) c.numbers_are_apart.ensures c.args.congruence.now c.merge.new.self c.args.left c.args.right c.args.fact.place c.requires.refuting.forms c.in_ok-merge.ensures.terms c.in_ok-merge.ensures.merged
    c.mark-mark.result c.mark-mark.ensures

pub returns-clause-congruence : goal.returns-clause-congruence
returns-clause-congruence c =
    taken_back (bank_of c.args.self.now) c.numbers_are_apart.ensures c.args.congruence.now c.merge.new.self c.args.left c.args.right c.args.fact.place c.requires.refuting.forms c.in_ok-merge.ensures.terms c.in_ok-merge.ensures.merged
    c.undo.new.self c.mark-mark.result c.mark-mark.ensures c.undo.ensures

pub returns-clause-none : goal.returns-clause-none
returns-clause-none c = λ e.
    let s = c.args.self.now in
    basic_holds (known_beside s) (formula_at (bank_of s) c.args.fact.formula) (ap is_basic c.requires.equality) (c.in_ok-closing.ensures.none e)

pub returns-clause-some : goal.returns-clause-some
returns-clause-some c =
    let s = c.args.self.now in
    IfSome_then c.in_ok-closing.closing c.in_ok-closing.ensures.some
    (λ v h. trial_closes s c.args.congruence.now.merges c.merge.new.self.merges c.args.count c.args.fact c.args.left c.args.right c.requires.equality c.in_ok-merge.ensures.merged v.items h)
