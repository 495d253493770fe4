use Rattle.std.proofs.Common.{◌≡◌, ◌∙◌, sym, ap, subst, List, true, ◌^◌, rules, SFits, to_z-of_z}
use Rattle.std.specs.Prelude.{nat_lt, unsigned_abs}
use Rattle.std.specs.Int.{w128}
use Rattle.ss_linear_sums.specs.declared.forms.Part.{Part}
use Rattle.ss_linear_sums.specs.Linear as linear
use Rattle.ss_linear_sums.specs.Linear.{HasParts}
use Rattle.ss_linear_rules.specs.Two.{parts_left}
use Rattle.ss_linear.proofs.Glue.{some_ends}
use Rattle.ss_linear.proofs.ends.find_ends.Goals as goal

pub returns-in_ok-left-clause-some : goal.returns-in_ok-left-clause-some
returns-in_ok-left-clause-some c = λ b h.
    let all = c.deref.ensures.value in
    let left = c.deref-then-is_small.ensures.value in
    let has : HasParts b c.in_ok-left.left.items = c.in_ok-left.ensures.has b (subst (λ (ps : List Part). HasParts b ps) (sym all) h) in
    let fits : SFits w128 c.args.sum.now.constant = search rules in
    let small : nat_lt (unsigned_abs c.args.sum.now.constant) (2 ^ 64) ≡ true = sym (rw (to_z-of_z fits) at c.is_small.ensures) ∙ c.if-is_small.true in
    some_ends b c.ends_of.result c.args.sum.now.parts.items c.deref-then-is_small.result.now (nat_lt (unsigned_abs c.args.sum.now.constant) (2 ^ 64)) small
    (ap (linear.parts_at b) left ∙ c.in_ok-left.ensures.left b ∙ ap (λ (ps : List Part). parts_left (linear.parts_at b ps)) all)
    (c.ends_of.ensures.some b (subst (λ (ps : List Part). HasParts b ps) (sym left) has))
