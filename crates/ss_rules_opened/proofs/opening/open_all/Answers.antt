use Rattle.std.proofs.Common.{ap, subst}
use Rattle.std.specs.Prelude.{find}
use Rattle.ss_logic.specs.Occurring.{quantified}
use Rattle.ss_logic.specs.Opened.{is_exists}
use Rattle.ss_terms.specs.Forms.{terms_at, formulas_at, IsFormulaNumber}
use Rattle.ss_terms.proofs.Grown.{IsGrown-then}
use Rattle.ss_rules_opened.proofs.Going.{number_same, opening_itself, opened_next, fewer_left}
use Rattle.ss_core.specs.View as view
use Rattle.ss_rules_opened.proofs.Choosing.{still_start}
use Rattle.ss_rules_opened.proofs.opening.open_all.Goals as goal

pub loop-f-smaller : goal.loop-f-smaller
loop-f-smaller c =
    let b = c.loop-f.bank in
    let found = subst (λ r. IsFormulaNumber b (find is_exists (quantified (formulas_at b c.loop-f.state.list.items))) r) c.in-Some.is
    (number_same b _ _ c.in_ok-f.field-0 (ap (λ xs. find is_exists (quantified (formulas_at b xs))) c.deref.ensures.value) c.in_ok-f.ensures) in
    fewer_left b c.open_at.new.bank c.loop-f.state c.open_at.new.state c.in-Some.f found c.in_ok-open_at.ensures.is

pub loop-f-preserved : goal.loop-f-preserved
loop-f-preserved c =
    let b = c.loop-f.bank in
    let found = subst (λ r. IsFormulaNumber b (find is_exists (quantified (formulas_at b c.loop-f.state.list.items))) r) c.in-Some.is
    (number_same b _ _ c.in_ok-f.field-0 (ap (λ xs. find is_exists (quantified (formulas_at b xs))) c.deref.ensures.value) c.in_ok-f.ensures) in
    record {
      grown = IsGrown-then c.args.bank.now b c.open_at.new.bank c.loop-f.invariant.grown c.open_at.ensures.grown;
      has = opening_itself c.open_at.new.bank c.open_at.new.state _ _ c.in_ok-open_at.ensures.is;
      has_choices = c.in_ok-open_at.ensures.has;
      noted = λ premises goal start.
          still_start b c.open_at.new.bank c.loop-f.state c.open_at.new.state c.loop-f.choices.items c.open_at.new.choices.items c.in-Some.f found c.in_ok-open_at.ensures.is c.in_ok-open_at.ensures.noted (view.classes c.args.classes.now) premises goal (c.loop-f.invariant.noted premises goal start);
      left = opened_next b c.open_at.new.bank c.loop-f.state c.open_at.new.state c.in-Some.f found c.in_ok-open_at.ensures.is _ c.loop-f.invariant.left;
    }

pub returns-clause-noted : goal.returns-clause-noted
returns-clause-noted c = λ premises goal start. (terms_at c.loop-f.bank c.loop-f.state.used.items, c.loop-f.invariant.noted premises goal start)
