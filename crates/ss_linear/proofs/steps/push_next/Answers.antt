use Rattle.std.proofs.Common.{rules, SFits, to_z-of_z, sym, ◌∙◌, subst, [], ◌∷◌, List}
use Rattle.std.specs.Prelude.{ℤ}
use Rattle.std.specs.Int.{w128}
use Rattle.std.proofs.lemmas.List.{append-nil}
use Rattle.ss_logic.specs.Terms.{Term}
use Rattle.ss_linear_sums.specs.Linear.{part_at, parts_at}
use Rattle.ss_linear_sums.specs.Parts.{with_coefficient}
use Rattle.ss_linear.specs.Results.{AreNext}
use Rattle.ss_linear.proofs.Results.{divided_on, divided_off, pushed_parts, next_pushed, fits_within}
use Rattle.ss_linear.proofs.steps.push_next.Goals as goal

pub returns-then-is_zero_part-clause-divided : goal.returns-then-is_zero_part-clause-divided
returns-then-is_zero_part-clause-divided c = λ h. ([], divided_off c.args.d c.args.part (sym c.is_zero_part.ensures ∙ c.if-is_zero_part.true), sym (append-nil c.args.made.now.items))

pub returns-clause-divided : goal.returns-clause-divided
returns-clause-divided c = λ h.
    let part : SFits w128 c.args.part.coefficient = search rules in
    let fits : SFits w128 c.in-Some.coefficient = search rules in (
      with_coefficient c.in-Some.coefficient c.args.part ∷ [],
      divided_on c.args.d c.args.part c.in-Some.coefficient (sym c.is_zero_part.ensures ∙ c.if-is_zero_part.false) (rw (to_z-of_z part, to_z-of_z c.ranges.d) at c.in-Some.ensures),
      rw (rw (to_z-of_z fits) at c.changed.ensures) at c.in_ok-push.ensures.items,
    )

pub returns-clause-next : goal.returns-clause-next
returns-clause-next c = λ h ok.
    let fits : SFits w128 c.in-Some.coefficient = search rules in
    let p = with_coefficient c.in-Some.coefficient c.args.part in
    subst (λ (ps : List (Term × ℤ)). AreNext [] ps) (sym (pushed_parts c.args.bank.now c.args.made.now.items c.push.new.self.items p (rw (rw (to_z-of_z fits) at c.changed.ensures) at c.in_ok-push.ensures.items)))
    (next_pushed (parts_at c.args.bank.now c.args.made.now.items) (part_at c.args.bank.now p) ok
    (c.in_ok-is_new.ensures.alone c.if-not-is_new.false, fits_within c.in-Some.coefficient (search rules), rw c.as_slice-before.ensures.value at (c.in_ok-is_new.ensures.others c.if-not-is_new.false)))
