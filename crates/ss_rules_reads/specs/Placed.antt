-- What is so at one place, and as before elsewhere, over planned terms.
use Rattle.std.specs.Prelude.{List, [], ◌∷◌, ◌++◌, true}
use Rattle.ss_logic.specs.Terms.{Term, terms_from}
use Rattle.ss_logic.specs.Formulas.{Formula, Literal, neg}
use Rattle.ss_logic.specs.Shapes.{equal, given, where_equal, where_different}
use Rattle.ss_logic.specs.Reads.{TermLooked, AtomLooked, agreeing}
use Rattle.ss_terms.specs.declared.forms.Predicate.{Predicate}
use Rattle.ss_terms.specs.Forms.{predicate_of}
use Rattle.ss_rules_basic.specs.declared.plans.Slot.{Slot}
use Rattle.ss_rules_basic.specs.declared.plans.Slot.TheVariants.{Made}
use Rattle.ss_rules_basic.specs.declared.clauses.Claim.{Claim}
use Rattle.ss_rules_basic.specs.Plans.{claim_at}

-- a read, plan 0, is the value where the two terms are equal, and else as before, plan 1
abbrev pub placed_by : (Slot → Term) → Slot → Slot → Slot → List Formula
placed_by t x y v =
    given (where_equal (t x) (t y)) (equal (t (Made 0)) (t v))
    ∷ where_different (t x) (t y) (λ ps. agreeing ps (TermLooked (t (Made 0))) (TermLooked (t (Made 1))))

-- the atom of an object in a store
abbrev pub atom_by : (Slot → Term) → Predicate → Slot → Slot → Formula
atom_by t p s x = Literal true (predicate_of p) (terms_from (t s ∷ t x ∷ []))

-- an atom of x is as claimed where x is y, and else as before
abbrev pub atom_placed_by : (Slot → Term) → Slot → Slot → Claim → Predicate → Slot → Slot → List Formula
atom_placed_by t x y c p after before =
    given (where_equal (t x) (t y)) (claim_at t c)
    ∷ where_different (t x) (t y) (λ ps. agreeing ps (AtomLooked (atom_by t p after x)) (AtomLooked (atom_by t p before x)))

-- an atom of x holds where x is y, and where it held before, and nowhere else
abbrev pub added_by : (Slot → Term) → Slot → Slot → Predicate → Slot → Slot → List Formula
added_by t x y p after before =
    given (where_equal (t x) (t y)) (atom_by t p after x)
    ∷ given (atom_by t p before x ∷ []) (atom_by t p after x)
    ∷ where_different (t x) (t y) (λ ps. given (ps ++ neg (atom_by t p before x) ∷ []) (neg (atom_by t p after x)) ∷ [])
