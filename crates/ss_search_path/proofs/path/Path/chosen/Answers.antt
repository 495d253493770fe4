use Rattle.std.proofs.Common.{◌∷◌, ◌++◌, [], ◌≡◌, length, refl, ◌∙◌, ap}
use Rattle.ss_deriv.specs.declared.line.Line.TheVariants.{Split, Clash, Case}
use Rattle.ss_search_path.proofs.Going.{goes_by_choice}
use Rattle.ss_search_path.proofs.path.Path.chosen.Goals as goal

pub returns-clause-goes_on : goal.returns-clause-goes_on
returns-clause-goes_on c = λ cs premises goal ss body ts is chose says.
    let known = c.args.self.now.known in
    let many : c.len-none.result ≡ length known.items = c.len-none.ensures ∙ known.ok.0 in
    goes_by_choice cs premises goal c.args.bank.now _ _ c.args.exists c.args.choice c.args.f
    (c.in_ok-push_two-2.ensures ∙ ap (λ ls. ls ++ Clash c.args.exists c.len-none.result ∷ Case ∷ []) c.in_ok-push_two.ensures
    ∙ ap (λ n. (c.args.self.now.before.items ++ Split c.args.choice 2 ∷ Case ∷ []) ++ Clash c.args.exists n ∷ Case ∷ []) many)
    refl c.in_ok-push.ensures.items ss body ts is chose says
