use Rattle.std.proofs.Common.{Some, reverse, sym, ◌∙◌, ap, subst}
use Rattle.std.proofs.lemmas.Bool.{true≢false}
use Rattle.ss_deriv.specs.Shape.{IsShaped}
use Rattle.ss_search_path.proofs.Shaping.{begun_from_none, all_from_none}
use Rattle.ss_search_path.proofs.finishing.derivation_of.Goals as goal

pub returns-then-not-branch : goal.returns-then-not-branch
returns-then-not-branch c = λ shaped.
    absurd (true≢false (sym (c.in_ok-add_all.ensures.begun (begun_from_none c.new-draft.result (reverse c.args.turned.items) c.new-draft.ensures shaped)) ∙ c.if-not-branch.true))

pub returns-then-not-is_finished : goal.returns-then-not-is_finished
returns-then-not-is_finished c = λ shaped.
    let all = all_from_none c.new-draft.result (reverse c.args.turned.items) c.add_all.new.draft c.new-draft.ensures (c.in_ok-add_all.ensures.all c.if-not-branch.false) in
    absurd (true≢false (sym (c.is_finished.ensures.1 (subst IsShaped (sym all) shaped)) ∙ c.if-not-is_finished.true))

pub returns : goal.returns
returns c = λ shaped.
    ap Some (c.finish.ensures ∙ all_from_none c.new-draft.result (reverse c.args.turned.items) c.add_all.new.draft c.new-draft.ensures (c.in_ok-add_all.ensures.all c.if-not-branch.false))
