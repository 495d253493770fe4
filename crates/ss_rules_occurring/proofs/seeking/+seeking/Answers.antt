use Rattle.std.proofs.Common.{arith, ap, ◌∙◌}
use Rattle.std.specs.Prelude.{flat_map}
use Rattle.ss_logic.specs.Occurring.{with_formulas}
use Rattle.ss_terms.specs.Forms.{formulas_at}
use Rattle.ss_terms.proofs.Tested.{AreBelow-get}
use Rattle.ss_rules_occurring.specs.Found.{formulas_of}
use Rattle.ss_rules_occurring.specs.Sought.{found_in}
use Rattle.ss_rules_occurring.proofs.Sought.{holds_itself, found_next, ok_holds, found_in_and, found_in_or}
use Rattle.ss_rules_occurring.proofs.seeking.+seeking.Goals as goal

pub add_in_all-add_in-requires : goal.add_in_all-add_in-requires
add_in_all-add_in-requires t c =
    let small = AreBelow-get c.args.bound c.args.fs.now c.loop-f.f-index (record { 0 = 0 }) c.requires.below c.loop-f-test.true in
    let room = c.requires.in_bank in
    let d = c.decreases in
    (omega arith, (holds_itself c.args.bank.now c.loop-f.found _ c.loop-f.invariant, omega arith))

pub add_in_all-loop-f-preserved : goal.add_in_all-loop-f-preserved
add_in_all-loop-f-preserved t c =
    found_next c.args.bank.now c.args.sought (formulas_of c.args.bank.now c.args.found.now) c.loop-f.found c.add_in.new.found c.args.fs.now c.loop-f.f-index (record { 0 = 0 }) c.loop-f-test.true c.loop-f.invariant c.in_ok-add_in.ensures

pub add_in-returns-in-And : goal.add_in-returns-in-And
add_in-returns-in-And t c =
    ok_holds c.add_in_all.result c.args.bank.now c.add_in_all.new.found _ _
    (ap (λ xs. with_formulas (formulas_of c.args.bank.now c.args.found.now) (flat_map (found_in c.args.sought) (formulas_at c.args.bank.now xs))) c.deref.ensures.value
    ∙ ap (with_formulas (formulas_of c.args.bank.now c.args.found.now)) (found_in_and c.args.bank.now c.args.f c.args.sought c.in-And.parts (rw c.in-And.is at c.formula_node.ensures)))
    c.add_in_all.ensures

pub add_in-returns-in-Or : goal.add_in-returns-in-Or
add_in-returns-in-Or t c =
    ok_holds c.add_in_all-in-Or.result c.args.bank.now c.add_in_all-in-Or.new.found _ _
    (ap (λ xs. with_formulas (formulas_of c.args.bank.now c.args.found.now) (flat_map (found_in c.args.sought) (formulas_at c.args.bank.now xs))) c.deref-in-Or.ensures.value
    ∙ ap (with_formulas (formulas_of c.args.bank.now c.args.found.now)) (found_in_or c.args.bank.now c.args.f c.args.sought c.in-Or.parts (rw c.in-Or.is at c.formula_node.ensures)))
    c.add_in_all-in-Or.ensures
