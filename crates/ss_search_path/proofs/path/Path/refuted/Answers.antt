use Rattle.std.proofs.Common.{refl, ◌∷◌, ◌++◌, [], take, ◌∙◌, ap}
use Rattle.ss_search_path.proofs.Going.{known_denied, trial_denied}
use Rattle.ss_search_path.proofs.path.Path.refuted.Goals as goal

pub returns-clause-known : goal.returns-clause-known
returns-clause-known c =
    known_denied c.args.bank.now c.args.mark.known c.args.self.now.known.items c.turn.new.self.known.items _ c.args.f c.negation-other.result c.in_ok-turn.ensures.known
    (c.in_ok-push.ensures.items ∙ ap (λ fs. fs ++ c.negation-other.result ∷ []) c.truncate.ensures.items) c.negation-other.ensures.negation

pub returns-clause-numbers : goal.returns-clause-numbers
returns-clause-numbers c = record {
  number = c.negation-other.result;
  in_bank = c.negation-other.ensures.in_bank;
  is = c.negation-other.ensures.negation;
  numbers = c.in_ok-push.ensures.items ∙ ap (λ fs. fs ++ c.negation-other.result ∷ []) (c.truncate.ensures.items ∙ ap (take c.args.mark.known) c.in_ok-turn.ensures.known);
}

pub returns-clause-goes_on : goal.returns-clause-goes_on
returns-clause-goes_on c = λ cs premises goal at trial t closes formed.
    trial_denied cs premises goal c.args.bank.now c.args.mark c.args.f c.negation-other.result c.args.closing.items at trial c.args.self.now c.turn.new.self _ t closes c.requires.formula
    c.negation-other.ensures.in_bank c.negation-other.ensures.negation formed c.in_ok-turn.ensures.turned refl refl
    (known_denied c.args.bank.now c.args.mark.known c.args.self.now.known.items c.turn.new.self.known.items _ c.args.f c.negation-other.result c.in_ok-turn.ensures.known
    (c.in_ok-push.ensures.items ∙ ap (λ fs. fs ++ c.negation-other.result ∷ []) c.truncate.ensures.items) c.negation-other.ensures.negation)
    c.requires.basic
