use Rattle.std.proofs.Common.{◌≡◌, ◌∷◌, take, map}
use Rattle.ss_terms.specs.Forms.{term_at, HasFormulas, formulas_at, IsGrown}
use Rattle.ss_rules_good.specs.Fields.{element_allocated, element_of}
use Rattle.ss_rules_good.proofs.elements.elements_of_classes.Given as goal

abbrev pub invariant-loop-t : goal.invariant-loop-t
invariant-loop-t l = record {
  grown : IsGrown l.fn.b l.b;
  there : HasFormulas l.b l.made.items;
  made : formulas_at l.b l.made.items ≡ element_allocated (term_at l.fn.b l.place.0) (term_at l.fn.b l.place.1) (term_at l.fn.b l.place.2) ∷ map (element_of (term_at l.fn.b l.place.0) (term_at l.fn.b l.place.1) (term_at l.fn.b l.place.2)) (take l.t-index l.arrays);
}
