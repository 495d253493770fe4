-- What is known of a field, by the class that declares it.
use Rattle.std.specs.Prelude.{ℕ, List, [], ◌∷◌, ◌++◌}
use Rattle.ss_logic.specs.declared.Sort.TheVariants as sort
use Rattle.ss_logic.specs.Terms.{Element, Term, app}
use Rattle.ss_logic.specs.Formulas.{Formula}
use Rattle.ss_logic.specs.Shapes.{null_term, class_term, type_of, differ, sub_atom, allocated, ready, given}
use Rattle.ss_logic.specs.Good.{element_typed}

-- the object is allocated, and of the class
abbrev pub of_class : ℕ → Term → Term → List Formula
of_class d s o = allocated s o ∷ sub_atom (type_of o) (class_term d) ∷ []

-- under the premises, what isn't null is an allocated object of the class
abbrev pub field_typed : List Formula → Term → Term → ℕ → List Formula
field_typed ps s x t =
    given (ps ++ differ x null_term ∷ []) (allocated s x)
    ∷ given (ps ++ differ x null_term ∷ []) (sub_atom (type_of x) (class_term t))
    ∷ []

-- ---- elements

abbrev pub element_term : Term → Term → Term → Term
element_term s a i = app (Element sort.Rest) (s ∷ a ∷ i ∷ [])

-- an element that isn't null is allocated
abbrev pub element_allocated : Term → Term → Term → Formula
element_allocated s a i = given (allocated s a ∷ differ (element_term s a i) null_term ∷ []) (allocated s (element_term s a i))

-- and of the class that an array of the class t asks for
abbrev pub element_of : Term → Term → Term → ℕ → Formula
element_of s a i t = element_typed s a (element_term s a i) t

-- and is ready
abbrev pub element_ready : Term → Term → Term → Formula
element_ready s a i = given (allocated s a ∷ differ (element_term s a i) null_term ∷ []) (ready s (element_term s a i))
