use Rattle.std.proofs.Common.{◌≡◌, sym, subst, List, ◌∷◌, false}
use Rattle.std.specs.Prelude.{IfNone}
use Rattle.ss_linear_sums.specs.declared.forms.Part.{Part}
use Rattle.ss_linear_sums.specs.Linear as linear
use Rattle.ss_linear_rules.specs.Two as two
use Rattle.ss_linear.proofs.Glue.{empty_is}
use Rattle.ss_linear.proofs.ends.ends_of_one.Goals as goal

pub returns-in-empty-clause-none : goal.returns-in-empty-clause-none
returns-in-empty-clause-none c = λ b. subst (λ (ps : List Part). IfNone c.one_end.result (two.are_opposite (linear.parts_at b (c.args.p ∷ ps)) ≡ false)) (sym (empty_is c.args.rest.now c.in-empty.len_below)) (c.one_end.ensures.none b)
