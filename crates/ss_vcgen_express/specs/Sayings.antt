-- What is said of values, by the terms of the stores in it.
use Rattle.std.specs.Prelude.{ℕ, pos, [], ◌∷◌, Bool, true, false}
use Rattle.ss_logic.specs.Terms.{Term, app}
use Rattle.ss_logic.specs.Formulas.{Formula, neg}
use Rattle.ss_logic.specs.Shapes.{number, null_term, class_term, level_of, owner_of, pair_of, equal, differ, at_most, sub_atom, allocated, committed, group}
use Rattle.ss_logic.specs.Shapes as shape
use Rattle.ss_logic.specs.Express.{and_of, or_of, truth_term, is_full, is_of, fits_int, less}
use Rattle.ss_terms.specs.declared.forms.TermId.{TermId}
use Rattle.ss_terms.specs.Forms.{Forms, symbol_of, HasTerm}
use Rattle.ss_vcgen_heaps.specs.Obligations.{is_index}
use Rattle.ss_vcgen_express.specs.declared.sayings.Relation.{Relation}
use Rattle.ss_vcgen_express.specs.declared.sayings.Relation.TheVariants as relation
use Rattle.ss_vcgen_express.specs.declared.sayings.Saying.{Saying}
use Rattle.ss_vcgen_express.specs.declared.sayings.Saying.TheVariants as saying

-- an object of the class or below; or null, where that is let through
abbrev pub of_class : Bool → ℕ → Term → Formula
of_class false t x = is_of t x
of_class true t x = or_of (equal x null_term ∷ sub_atom (shape.type_of x) (class_term t) ∷ [])

-- what is said of two values
abbrev pub related : (TermId → Term) → Relation → Term → Term → Formula
related look relation.Equal x y = equal x y
related look relation.Less x y = less x y
related look relation.AtMost x y = at_most x y
related look relation.Greater x y = less y x
related look relation.AtLeast x y = at_most y x
related look relation.HasElement x y = is_index x y
related look (relation.Fits f) x y = fits_int (app (symbol_of f) (x ∷ y ∷ []))
related look (relation.SameOwner s) x y = equal (owner_of (look s) x) (owner_of (look s) y)
related look (relation.OwnedAt s t) x y = equal (owner_of (look s) x) (pair_of y (class_term t))

-- what is said of a value
abbrev pub said_so : (TermId → Term) → Saying → Term → Formula
said_so look saying.NotNull x = differ x null_term
said_so look saying.IsTrue x = equal x (truth_term true)
said_so look saying.NotZero x = differ x (number (pos 0))
said_so look (saying.Allocated s) x = allocated (look s) x
said_so look (saying.New s) x = neg (allocated (look s) x)
said_so look (saying.IsOf t) x = is_of t x
said_so look (saying.FitsClass t) x = or_of (equal x null_term ∷ sub_atom (shape.type_of x) (class_term t) ∷ [])
said_so look (saying.Consistent s) x = and_of (is_full (look s) x ∷ neg (committed (look s) x) ∷ [])
said_so look (saying.Committed s) x = committed (look s) x
said_so look (saying.AtLevel s t) x = equal (level_of (look s) x) (class_term t)
said_so look (saying.Packed s t) x = sub_atom (level_of (look s) x) (class_term t)
said_so look (saying.Unowned s) x = group (owner_of (look s) x)
said_so look (saying.Behind r y) x = related look r (look y) x
said_so look (saying.Before r y) x = related look r x (look y)

-- ---- the bank has the terms in it

abbrev pub HasRelation : Forms → Relation → Type 0
HasRelation b (relation.SameOwner s) = HasTerm b s
HasRelation b (relation.OwnedAt s t) = HasTerm b s
HasRelation b r = Unit {0}

abbrev pub HasSaying : Forms → Saying → Type 0
HasSaying b (saying.Allocated s) = HasTerm b s
HasSaying b (saying.New s) = HasTerm b s
HasSaying b (saying.Consistent s) = HasTerm b s
HasSaying b (saying.Committed s) = HasTerm b s
HasSaying b (saying.AtLevel s t) = HasTerm b s
HasSaying b (saying.Packed s t) = HasTerm b s
HasSaying b (saying.Unowned s) = HasTerm b s
HasSaying b (saying.Behind r y) = HasRelation b r × HasTerm b y
HasSaying b (saying.Before r y) = HasRelation b r × HasTerm b y
HasSaying b w = Unit {0}
