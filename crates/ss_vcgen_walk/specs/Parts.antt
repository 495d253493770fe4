-- What has to be so for an expression to have a value, by numbers of a bank.
use Rattle.std.specs.Prelude.{◌≡◌, List, [], ◌∷◌, map}
use Rattle.ss_terms.specs.Forms.{Forms, formula_at, HasFormula, IsGrown}
use Rattle.ss_vcgen_express.specs.Marked.{Marked}
use Rattle.ss_vcgen_walk.specs.declared.parts.Part.{Part}

abbrev pub marked_at : Forms → Part → Marked
marked_at b p = record { part = record { kind = p.kind; place = p.place; formula = formula_at b p.formula }; checked = p.checked }

abbrev pub parts_at : Forms → List Part → List Marked
parts_at b ps = map (marked_at b) ps

-- the bank has their formulas
abbrev pub HasParts : Forms → List Part → Type 0
HasParts b [] = Unit {0}
HasParts b (p ∷ ps) = HasFormula b p.formula × HasParts b ps

-- the bank has them, and in it and in each that it grows to they stand for these
pub record AreParts (a : Forms) (ps : List Part) (say : Forms → List Marked) : Type 0 where
  pub has : HasParts a ps
  pub are : (b : Forms) → IsGrown a b → parts_at b ps ≡ say b
