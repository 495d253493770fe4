use Rattle.std.proofs.Common.{sym, ◌∙◌}
use Rattle.ss_logic_countermodels.specs.Refuting.{is_whole}
use Rattle.ss_terms.specs.Forms.{term_at}
use Rattle.ss_search_models.specs.Wholes.{wholes_at}
use Rattle.ss_search_models.proofs.Equalities.{not_whole, one_whole, classed_pushed}
use Rattle.ss_search_models.proofs.wholes.add_whole.Goals as goal

pub returns-then-not-is_whole-clause-terms : goal.returns-then-not-is_whole-clause-terms
returns-then-not-is_whole-clause-terms c = λ cs of.
    not_whole (is_whole cs) (wholes_at c.args.bank.now c.args.found.now.items) (term_at c.args.bank.now c.args.t) (sym (c.is_whole.ensures cs of) ∙ c.if-not-is_whole.true)

pub returns-clause-classed : goal.returns-clause-classed
returns-clause-classed c =
    classed_pushed c.args.bank.now c.args.candidate.now c.args.found.now.items c.push.new.self.items (record { term = c.args.t; class = c.class.result }) c.in_ok-push.ensures.items c.requires.found (c.requires.term, c.class.ensures)

pub returns-clause-terms : goal.returns-clause-terms
returns-clause-terms c = λ cs of.
    one_whole c.args.bank.now (is_whole cs) c.args.found.now.items c.push.new.self.items (record { term = c.args.t; class = c.class.result }) c.in_ok-push.ensures.items (sym (c.is_whole.ensures cs of) ∙ c.if-not-is_whole.false)
