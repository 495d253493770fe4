use Rattle.std.proofs.Common.{inr, ap}
use Rattle.ss_terms.specs.Forms.{formula_at}
use Rattle.ss_search_procedure_rules.specs.Closed.{is_basic}
use Rattle.ss_search_reached.specs.Looks.{known_at}
use Rattle.ss_search_reached.proofs.Holding.{basic_holds}
use Rattle.ss_search_reached.proofs.Trials.{trial_merged, fewer, taken_back}
use Rattle.ss_search_reached.proofs.looking.Looking.trial.Goals as goal

pub merge-requires-clause-bank : goal.merge-requires-clause-bank
merge-requires-clause-bank c = inr c.requires.looking.forms

pub fits-requires-clause-merged : goal.fits-requires-clause-merged
fits-requires-clause-merged c =
    let s = c.args.self.now in
    trial_merged s.bank.now c.numbers_are_apart.ensures c.args.congruence.now c.merge.new.self c.args.left c.args.right 0 c.requires.looking.forms c.in_ok-merge.ensures.terms c.in_ok-merge.ensures.merged
    s.known.now c.args.f c.requires.looking.merged c.requires.left c.requires.right c.requires.equality

pub undo-requires : goal.undo-requires
undo-requires c =
    fewer c.args.self.now.bank.now c.numbers_are_apart.ensures c.args.congruence.now c.merge.new.self c.args.left c.args.right 0 c.requires.looking.forms c.in_ok-merge.ensures.terms c.in_ok-merge.ensures.merged
    c.mark-mark.result c.mark-mark.ensures

pub returns-clause-congruence : goal.returns-clause-congruence
returns-clause-congruence c =
    taken_back c.args.self.now.bank.now c.numbers_are_apart.ensures c.args.congruence.now c.merge.new.self c.args.left c.args.right 0 c.requires.looking.forms c.in_ok-merge.ensures.terms c.in_ok-merge.ensures.merged
    c.undo.new.self c.mark-mark.result c.mark-mark.ensures c.undo.ensures

pub returns-clause-holds : goal.returns-clause-holds
returns-clause-holds c = λ e. basic_holds (known_at c.args.self.now) (formula_at c.args.self.now.bank.now c.args.f) (ap is_basic c.requires.equality) (c.in_ok-fits.ensures e)
