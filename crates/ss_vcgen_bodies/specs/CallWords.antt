-- Parts of calls, and of the making of objects, that one function does.
use Rattle.std.specs.Prelude.{ℕ, pos, List, [], ◌∷◌, map, true, Option, Some}
use Rattle.ss_core.specs.declared.names.Kind.TheVariants as kind
use Rattle.ss_core.specs.declared.names.Place.{Place}
use Rattle.ss_core.specs.declared.names.Ty.{Ty}
use Rattle.ss_core.specs.Tree.{ClassTree, ExprTree, BodyTree}
use Rattle.ss_store_rules.specs.Types.{code_type}
use Rattle.ss_logic.specs.declared.Sort.{Sort}
use Rattle.ss_logic.specs.declared.Sort.TheVariants as sort
use Rattle.ss_logic.specs.Terms.{New, NewArray, Length, Term, app}
use Rattle.ss_logic.specs.Formulas.{Formula}
use Rattle.ss_logic.specs.Shapes.{number, class_term, next_of, equal, at_most}
use Rattle.ss_logic.specs.Shapes as shape
use Rattle.ss_logic.specs.Express.{Meant, One, element_sort}
use Rattle.ss_logic.specs.Frames.{kept, grown}
use Rattle.ss_vcgen_heaps.specs.Positions.{Position, Walk, good, assume, assume_all, check, with_store, evaluate, evaluate_all, meant_at, with_term, term_for}
use Rattle.ss_vcgen_heaps.specs.Contracts.{is_of_type, contract_context, conditions, frame_terms}
use Rattle.ss_vcgen_heaps.specs.Obligations.{classes_of, settle_all, arguments_settled}

-- ---- arguments

abbrev pub argument_sort : Walk → ExprTree → Sort
argument_sort w e = element_sort (code_type (classes_of w) w.body e)

-- the arguments have their parts checked and are settled
abbrev pub reached_arguments : Walk → List ExprTree → Position → Position
reached_arguments w es k = settle_all w es (evaluate_all w es k)

abbrev pub arguments_reached : Walk → List ExprTree → Position → List Meant
arguments_reached w es k = arguments_settled w es (evaluate_all w es k)

-- ---- calls

-- the result is of its type, where there is one
abbrev pub result_said : Option Ty → Term → List Term → List Formula
result_said (Some t) s (r ∷ rs) = is_of_type true s t r
result_said t s rs = []

-- no more has changed since the store s than the callee may change
abbrev pub changes_assumed : List ClassTree → BodyTree → Term → List Meant → Position → Position
changes_assumed cs callee s arguments k = assume_all (kept cs (frame_terms cs callee s k.store arguments []) ∷ grown s k.store ∷ []) k

-- the store is good, what the callee promises holds, and its result is of its type
abbrev pub promises_assumed : List ClassTree → BodyTree → Option Ty → Term → List Meant → List Term → Position → Position
promises_assumed cs callee t s arguments rs k =
    assume_all (result_said t k.store rs) (assume_all (conditions callee.exit (contract_context cs callee k.store s arguments (map One rs))) (assume (good k.store) k))

-- ---- new objects

abbrev pub object_there : ℕ → Position → Position
object_there t k = with_store (app (New t) (k.store ∷ [])) (assume (equal (shape.type_of (next_of k.store)) (class_term t)) k)

abbrev pub array_there : ℕ → Term → Position → Position
array_there t n k = with_store (app (NewArray t) (k.store ∷ n ∷ [])) (assume_all (equal (shape.type_of (next_of k.store)) (class_term t) ∷ equal (app Length (next_of k.store ∷ [])) n ∷ []) k)

-- the length of a new array, and where it has been checked
abbrev pub length_term : Walk → ExprTree → Position → Term
length_term w e k = term_for sort.Whole (meant_at w e (evaluate w e k)) (evaluate w e k)

abbrev pub length_checked : Walk → Place → ExprTree → Position → Position
length_checked w at e k =
    check w kind.NegativeLength at (at_most (number (pos 0)) (length_term w e k)) (with_term sort.Whole (meant_at w e (evaluate w e k)) (evaluate w e k))
