use Rattle.std.proofs.Common.{◌∷◌, ◌++◌, [], sym, ◌∙◌, ap}
use Rattle.std.proofs.lemmas.Bool.{true≢false}
use Rattle.ss_deriv.specs.declared.line.Line.TheVariants.{Cut, Case}
use Rattle.ss_search_path.proofs.path.Path.turn.Goals as goal

pub returns-then-is_cut-clause-turned : goal.returns-then-is_cut-clause-turned
returns-then-is_cut-clause-turned c = record {
  front = λ _. (c.in_ok-close_front.ensures.before, c.in_ok-close_front.ensures.behind);
  back = λ no. absurd (true≢false (sym c.if-is_cut.true ∙ c.is_cut.ensures ∙ no));
}

pub returns-clause-turned : goal.returns-clause-turned
returns-clause-turned c = record {
  front = λ yes. absurd (true≢false (sym yes ∙ sym c.is_cut.ensures ∙ c.if-is_cut.false));
  back = λ _. (c.in_ok-push_two.ensures ∙ ap (λ ls. ls ++ Cut c.args.negation ∷ Case ∷ []) c.in_ok-close_back.ensures.before, c.in_ok-close_back.ensures.behind);
}
