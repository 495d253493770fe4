use Rattle.std.proofs.Common.{◌≡◌, [], ◌++◌, take, sym, ◌∙◌, subst}
use Rattle.std.proofs.lemmas.List.{append-nil}
use Rattle.ss_search_reaching.specs.declared.reaching.Reaching.{Reaching}
use Rattle.ss_search_procedure.proofs.Undoing.{as_before, reaches_before}
use Rattle.ss_search_procedure.proofs.setting.Settling.take_back.Goals as goal

pub returns-clause-before : goal.returns-clause-before
returns-clause-before c = λ at t.
    let s = c.args.self.now in
    let now = c.args.reaching.now in
    let mid = c.forget.new.self in
    let f = c.forget.ensures in
    let after : Reaching = record { reached = mid.reached; standings = mid.standings; places = mid.places; path = c.undo.new.self } in
    as_before s c.args.marks c.args.p at now t after (record { reached = f.state.reached; long = f.state.long; places = f.state.places }) f.reached f.standings f.merges f.counts []
    (subst (λ xs. c.undo.new.self.known.items ≡ take c.args.marks.path.known xs ++ []) f.path.known (c.undo.ensures.known ∙ sym (append-nil (take c.args.marks.path.known mid.path.known.items))))

pub returns-clause-reaches : goal.returns-clause-reaches
returns-clause-reaches c = λ at t.
    let s = c.args.self.now in
    let now = c.args.reaching.now in
    let mid = c.forget.new.self in
    let f = c.forget.ensures in
    let after : Reaching = record { reached = mid.reached; standings = mid.standings; places = mid.places; path = c.undo.new.self } in
    reaches_before s c.args.marks c.args.p at now t after (record { reached = f.state.reached; long = f.state.long; places = f.state.places }) f.reached f.standings f.merges f.counts []
    (subst (λ xs. c.undo.new.self.known.items ≡ take c.args.marks.path.known xs ++ []) f.path.known (c.undo.ensures.known ∙ sym (append-nil (take c.args.marks.path.known mid.path.known.items))))
    mid.path f.path c.undo.ensures
