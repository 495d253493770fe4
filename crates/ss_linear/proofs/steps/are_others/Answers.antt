use Rattle.std.proofs.Common.{sym, subst, ◌∙◌, List}
use Rattle.std.specs.Prelude.{pos}
use Rattle.std.proofs.lemmas.List.{take_all}
use Rattle.ss_terms.specs.Forms.{term_at}
use Rattle.ss_linear_sums.specs.declared.forms.Part.{Part}
use Rattle.ss_linear_sums.specs.Linear.{parts_at}
use Rattle.ss_linear.specs.Results.{AreOthers}
use Rattle.ss_linear.proofs.Glue.{have_part}
use Rattle.ss_linear.proofs.Results.{others_more}
use Rattle.ss_linear.proofs.steps.are_others.Goals as goal

abbrev none : Part
none = record { term = record { 0 = 0 }; coefficient = pos 0 }

pub is_same_term-requires-clause-left : goal.is_same_term-requires-clause-left
is_same_term-requires-clause-left c = (have_part c.args.bank.now c.args.parts.now c.loop-part.part-index none c.requires.parts c.loop-part-test.true).0

pub loop-part-preserved : goal.loop-part-preserved
loop-part-preserved c = others_more c.args.bank.now (term_at c.args.bank.now c.args.t) c.args.parts.now c.loop-part.part-index none c.loop-part-test.true c.loop-part.invariant (sym c.is_same_term.ensures ∙ c.if-is_same_term.false)

pub returns : goal.returns
returns c = λ h. subst (λ (ps : List Part). AreOthers (term_at c.args.bank.now c.args.t) (parts_at c.args.bank.now ps)) (take_all c.loop-part.part-index c.args.parts.now c.loop-part-test.false) c.loop-part.invariant
