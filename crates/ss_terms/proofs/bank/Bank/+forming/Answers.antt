use Rattle.std.proofs.Common.{◌≡◌, true, sym, subst, arith}
use Rattle.std.specs.Prelude.{IfOk}
use Rattle.ss_logic.specs.Formulas.{is_well_formed}
use Rattle.ss_terms.specs.declared.forms.FormulaId.{FormulaId}
use Rattle.ss_terms.specs.Forms.{term_at, formula_at, formula_of, shape_of, predicate_of}
use Rattle.ss_terms.proofs.Tested.{AreBelow-get, if_ok_same, literal_formed}
use Rattle.ss_terms.proofs.bank.Bank.+forming.Goals as goal

pub are_formed_under-is_formed_under-requires : goal.are_formed_under-is_formed_under-requires
are_formed_under-is_formed_under-requires t c =
    let none : FormulaId = record { 0 = 0 } in
    let small = AreBelow-get c.args.below c.args.fs.now c.loop-f.f-index none c.requires.below c.loop-f-test.true in
    let room = c.requires.there in
    let d = c.decreases in (omega (arith, small, d), omega (arith, small, room))

pub is_form_under-returns-in-Literal : goal.is_form_under-returns-in-Literal
is_form_under-returns-in-Literal t c = λ cs is.
    let b = c.args.self.now in
    subst (λ n. IfOk c.is_atom_under.result (λ v. v ≡ is_well_formed cs c.args.bound.now (formula_of (term_at b) (formula_at b) (shape_of n)))) (sym c.in-Literal.is)
    (if_ok_same c.is_atom_under.result _ _ (literal_formed cs c.args.bound.now b true (predicate_of c.in-Literal.predicate) c.in-Literal.arguments.items c.deref.result.now c.deref.ensures.value) (c.is_atom_under.ensures cs is))
