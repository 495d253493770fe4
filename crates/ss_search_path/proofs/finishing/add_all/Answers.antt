use Rattle.std.proofs.Common.{◌++◌, reverse, sym, ◌∙◌, ap}
use Rattle.std.proofs.lemmas.Bool.{true≢false}
use Rattle.ss_search_path.proofs.Shaping.{line_begins, next_line}
use Rattle.ss_search_path.proofs.finishing.add_all.Goals as goal

pub loop-line-preserved : goal.loop-line-preserved
loop-line-preserved c =
    ap (λ d. d ++ reverse c.pop.new.self.items) c.in_ok-add.ensures.added
    ∙ next_line c.loop-line.draft c.loop-line.turned.items c.pop.new.self.items _ c.in-Some.line c.loop-line.invariant c.in-Some.ensures.items

pub returns-then-not-allows-clause-begun : goal.returns-then-not-allows-clause-begun
returns-then-not-allows-clause-begun c = λ begun.
    let whole = next_line c.loop-line.draft c.loop-line.turned.items c.pop.new.self.items _ c.in-Some.line c.loop-line.invariant c.in-Some.ensures.items in
    absurd (true≢false (sym (c.allows.ensures.1 (line_begins c.loop-line.draft c.pop.new.self.items _ c.in-Some.line whole begun)) ∙ c.if-not-allows.true))
