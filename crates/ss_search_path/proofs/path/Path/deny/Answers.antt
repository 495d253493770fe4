use Rattle.std.proofs.Common.{◌∷◌, ◌++◌, [], ◌∙◌, ap}
use Rattle.std.proofs.lemmas.Result.{on_ok_weaker}
use Rattle.ss_logic.specs.Formulas.{neg}
use Rattle.ss_terms.specs.Forms.{formula_at}
use Rattle.ss_deriv.specs.Lines.{lines_of}
use Rattle.ss_search_path.proofs.Going.{numbers_begun, known_begun, ends_as, trial_begins, begun_closes}
use Rattle.ss_search_path.proofs.path.Path.deny.Goals as goal

pub returns-clause-known : goal.returns-clause-known
returns-clause-known c = on_ok_weaker c.refuted.result
    (λ e. e ∙ ap (λ fs. fs ++ neg (formula_at c.args.bank.now c.args.f) ∷ []) (known_begun c.args.bank.now c.in_ok-mark.mark _ c.args.f c.args.self.now c.suppose.new.self c.in_ok-mark.ensures.mark c.in_ok-mark.ensures.supposed))
    c.refuted.ensures.known

pub returns-clause-numbers : goal.returns-clause-numbers
returns-clause-numbers c = on_ok_weaker c.refuted.result
    (ends_as c.args.bank.now _ c.args.self.now.known.items (neg (formula_at c.args.bank.now c.args.f)) _
    (numbers_begun c.in_ok-mark.mark _ c.args.f c.args.self.now c.suppose.new.self c.in_ok-mark.ensures.mark c.in_ok-mark.ensures.supposed))
    c.refuted.ensures.numbers

pub returns-clause-goes_on : goal.returns-clause-goes_on
returns-clause-goes_on c = on_ok_weaker c.refuted.result
    (λ goes cs premises goal closes formed. goes cs premises goal c.args.self.now c.suppose.new.self
    (trial_begins cs premises goal c.args.bank.now c.in_ok-mark.mark _ c.args.f c.args.self.now c.suppose.new.self c.in_ok-mark.ensures.mark c.in_ok-mark.ensures.supposed)
    (begun_closes cs premises goal c.args.bank.now _ c.args.f c.args.self.now c.suppose.new.self (lines_of c.args.bank.now c.args.closing.items) c.in_ok-mark.ensures.supposed closes) formed)
    c.refuted.ensures.goes_on
