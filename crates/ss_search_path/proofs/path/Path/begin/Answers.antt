use Rattle.std.proofs.Common.{◌++◌, sym, ◌∙◌, ap}
use Rattle.std.proofs.lemmas.List.{append-nil}
use Rattle.ss_search_path.specs.Paths.{opening}
use Rattle.ss_search_path.proofs.path.Path.begin.Goals as goal

pub returns-then-is_cut-clause-before : goal.returns-then-is_cut-clause-before
returns-then-is_cut-clause-before c = c.in_ok-push_two.ensures ∙ ap (λ t. c.args.self.now.before.items ++ opening t c.args.f) (sym c.if-is_cut.true ∙ c.is_cut.ensures)

pub returns-clause-before : goal.returns-clause-before
returns-clause-before c = sym (append-nil c.args.self.now.before.items) ∙ ap (λ t. c.args.self.now.before.items ++ opening t c.args.f) (sym c.if-is_cut.false ∙ c.is_cut.ensures)
