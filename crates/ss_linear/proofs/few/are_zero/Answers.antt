use Rattle.std.proofs.Common.{sym, subst, ◌∙◌, List}
use Rattle.std.specs.Prelude.{pos}
use Rattle.std.proofs.lemmas.List.{take_all}
use Rattle.ss_linear_sums.specs.declared.forms.Part.{Part}
use Rattle.ss_linear_sums.specs.Linear.{parts_at}
use Rattle.ss_linear_rules.specs.Few.{AreZero}
use Rattle.ss_linear.proofs.Glue.{zero_more, zero_there}
use Rattle.ss_linear.proofs.Tests.{clash}
use Rattle.ss_linear.proofs.few.are_zero.Goals as goal

pub returns-then-not-is_zero_part-clause-other : goal.returns-then-not-is_zero_part-clause-other
returns-then-not-is_zero_part-clause-other c = λ b h z.
    clash _ (zero_there b c.args.parts.now c.loop-p.p-index (record { term = record { 0 = 0 }; coefficient = pos 0 }) c.loop-p-test.true z) (sym c.is_zero_part.ensures ∙ c.if-not-is_zero_part.true)

pub loop-p-preserved : goal.loop-p-preserved
loop-p-preserved c = λ b. zero_more b c.args.parts.now c.loop-p.p-index (record { term = record { 0 = 0 }; coefficient = pos 0 }) c.loop-p-test.true (c.loop-p.invariant b) (sym c.is_zero_part.ensures ∙ c.if-not-is_zero_part.false)

pub returns-clause-zero : goal.returns-clause-zero
returns-clause-zero c = λ b h. subst (λ (ps : List Part). AreZero (parts_at b ps)) (take_all c.loop-p.p-index c.args.parts.now c.loop-p-test.false) (c.loop-p.invariant b)
