-- Lines whose numbers the bank has.
use Rattle.ss_terms.specs.Forms.{Forms, HasTerm, HasTerms, HasFormula}
use Rattle.ss_deriv.specs.declared.line.Line.{Line}
use Rattle.ss_deriv.specs.declared.line.Line.TheVariants.{Premise, Denied, Part, Split, Cut, Inst, Choose, Rule, Good, Invariants, Chain, Cong, Swap, Sum, Clash, Case}

-- the line names terms and formulas of the bank
abbrev pub LineWithin : Forms → Line → Type 0
LineWithin b (Premise i) = Unit {0}
LineWithin b Denied = Unit {0}
LineWithin b (Part i j) = Unit {0}
LineWithin b (Split i k) = Unit {0}
LineWithin b (Cut f) = HasFormula b f
LineWithin b (Inst i ts) = HasTerms b ts.items
LineWithin b (Choose f ts) = HasFormula b f × HasTerms b ts.items
LineWithin b (Rule name ts) = HasTerms b ts.items
LineWithin b (Good name i ts) = HasTerms b ts.items
LineWithin b (Invariants i ts) = HasTerms b ts.items
LineWithin b (Chain x y is) = HasTerm b x × HasTerm b y
LineWithin b (Cong x y is) = HasTerm b x × HasTerm b y
LineWithin b (Swap i f js) = HasFormula b f
LineWithin b (Sum s) = Unit {0}
LineWithin b (Clash i j) = Unit {0}
LineWithin b Case = Unit {0}
