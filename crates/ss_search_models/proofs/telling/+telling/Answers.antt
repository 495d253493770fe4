use Rattle.std.proofs.Common.{arith, ap, ◌∙◌}
use Rattle.std.specs.Prelude.{flat_map}
use Rattle.ss_logic.specs.Occurring.{with_formulas}
use Rattle.ss_logic_countermodels.specs.Refuting.{told_in}
use Rattle.ss_terms.specs.Forms.{formulas_at}
use Rattle.ss_terms.proofs.Tested.{AreBelow-get}
use Rattle.ss_rules_occurring.specs.Found.{formulas_of}
use Rattle.ss_search_models.proofs.Tellings.{tells_itself, ok_tells, told_there, told_added, told_in_and, told_in_or, told_in_literal, told_in_forall, told_in_exists, told_next}
use Rattle.ss_search_models.proofs.telling.+telling.Goals as goal

pub add-returns-then-has : goal.add-returns-then-has
add-returns-then-has t c = told_there c.args.bank.now c.args.telling.now c.args.f c.requires.telling c.if-has.ensures

pub add-returns : goal.add-returns
add-returns t c = told_added c.args.bank.now c.add_new.new.telling c.put.new.self (formulas_of c.args.bank.now c.args.telling.now.found) c.args.f c.in_ok-add_new.ensures c.in_ok-put.ensures

pub add_new-returns-in-Literal : goal.add_new-returns-in-Literal
add_new-returns-in-Literal t c =
    ok_tells c.add_told.result c.args.bank.now c.add_told.new.telling _ _
    (ap (with_formulas (formulas_of c.args.bank.now c.args.telling.now.found)) (told_in_literal c.args.bank.now c.args.f _ _ _ (rw c.in-Literal.is at c.formula_node.ensures)))
    c.add_told.ensures

pub add_new-returns-in-Forall : goal.add_new-returns-in-Forall
add_new-returns-in-Forall t c =
    ok_tells c.add_told-in-Forall.result c.args.bank.now c.add_told-in-Forall.new.telling _ _
    (ap (with_formulas (formulas_of c.args.bank.now c.args.telling.now.found)) (told_in_forall c.args.bank.now c.args.f _ _ (rw c.in-Forall.is at c.formula_node.ensures)))
    c.add_told-in-Forall.ensures

pub add_new-returns-in-Exists : goal.add_new-returns-in-Exists
add_new-returns-in-Exists t c =
    ok_tells c.add_told-in-Exists.result c.args.bank.now c.add_told-in-Exists.new.telling _ _
    (ap (with_formulas (formulas_of c.args.bank.now c.args.telling.now.found)) (told_in_exists c.args.bank.now c.args.f _ _ (rw c.in-Exists.is at c.formula_node.ensures)))
    c.add_told-in-Exists.ensures

pub add_new-returns-in-And : goal.add_new-returns-in-And
add_new-returns-in-And t c =
    ok_tells c.add_all.result c.args.bank.now c.add_all.new.telling _ _
    (ap (λ xs. with_formulas (formulas_of c.args.bank.now c.args.telling.now.found) (flat_map told_in (formulas_at c.args.bank.now xs))) c.deref.ensures.value
    ∙ ap (with_formulas (formulas_of c.args.bank.now c.args.telling.now.found)) (told_in_and c.args.bank.now c.args.f c.in-And.parts (rw c.in-And.is at c.formula_node.ensures)))
    c.add_all.ensures

pub add_new-returns-in-Or : goal.add_new-returns-in-Or
add_new-returns-in-Or t c =
    ok_tells c.add_all-in-Or.result c.args.bank.now c.add_all-in-Or.new.telling _ _
    (ap (λ xs. with_formulas (formulas_of c.args.bank.now c.args.telling.now.found) (flat_map told_in (formulas_at c.args.bank.now xs))) c.deref-in-Or.ensures.value
    ∙ ap (with_formulas (formulas_of c.args.bank.now c.args.telling.now.found)) (told_in_or c.args.bank.now c.args.f c.in-Or.parts (rw c.in-Or.is at c.formula_node.ensures)))
    c.add_all-in-Or.ensures

pub add_all-add-requires : goal.add_all-add-requires
add_all-add-requires t c =
    let small = AreBelow-get c.args.bound c.args.fs.now c.loop-f.f-index (record { 0 = 0 }) c.requires.below c.loop-f-test.true in
    let room = c.requires.in_bank in
    let d = c.decreases in
    (omega arith, (tells_itself c.args.bank.now c.loop-f.telling _ c.loop-f.invariant, omega arith))

pub add_all-loop-f-preserved : goal.add_all-loop-f-preserved
add_all-loop-f-preserved t c =
    told_next c.args.bank.now (formulas_of c.args.bank.now c.args.telling.now.found) c.loop-f.telling c.add.new.telling c.args.fs.now c.loop-f.f-index (record { 0 = 0 }) c.loop-f-test.true c.loop-f.invariant c.in_ok-add.ensures
