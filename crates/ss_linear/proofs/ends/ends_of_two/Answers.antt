use Rattle.std.proofs.Common.{◌≡◌, sym, subst, List, ◌∷◌, false}
use Rattle.std.specs.Prelude.{IfNone}
use Rattle.ss_linear_sums.specs.declared.forms.Part.{Part}
use Rattle.ss_linear_sums.specs.Linear as linear
use Rattle.ss_linear_rules.specs.Two as two
use Rattle.ss_linear.proofs.Glue.{empty_is}
use Rattle.ss_linear.proofs.ends.ends_of_two.Goals as goal

pub returns-in-empty-clause-none : goal.returns-in-empty-clause-none
returns-in-empty-clause-none c = λ b. subst (λ (ps : List Part). IfNone c.either_ends.result (two.are_opposite (linear.parts_at b (c.args.p ∷ c.args.q ∷ ps)) ≡ false)) (sym (empty_is c.args.rest.now c.in-empty.len_below)) (c.either_ends.ensures.none b)
