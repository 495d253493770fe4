-- Parts of the walk over bodies that one function does.
use Rattle.std.specs.Prelude.{ℕ, ◌+◌, List, [], ◌∷◌, ◌++◌, map, Bool, true, false, Option, Some, None, if◌then◌else◌}
use Rattle.ss_core.specs.declared.names.Kind.TheVariants as kind
use Rattle.ss_core.specs.declared.names.Place.{Place}
use Rattle.ss_core.specs.declared.names.Ty.{Ty}
use Rattle.ss_core.specs.Tree.{ClassTree, ExprTree, ExposedTree, StmtTree}
use Rattle.ss_core.specs.Chain.{above}
use Rattle.ss_store_rules.specs.Locals.{local_types}
use Rattle.ss_store_rules.specs.NonNull.{known_tested, known_head}
use Rattle.ss_store_rules.specs.Paths.{is_literal_true}
use Rattle.ss_logic.specs.Terms.{Term}
use Rattle.ss_logic.specs.Formulas.{Formula}
use Rattle.ss_logic.specs.Shapes.{null_term, class_term, level_of, equal, differ}
use Rattle.ss_logic.specs.Express.{and_of, or_of, Meant, element_sort}
use Rattle.ss_logic.specs.Frames.{grown}
use Rattle.ss_vcgen_heaps.specs.Positions.{Position, Walk, Guard, Always, good, assume_all, check, check_all, evaluate, ended, holds_at, if_reached, local_term, new_term, set_local, with_new, When, Never}
use Rattle.ss_vcgen_heaps.specs.Contracts.{conditions, contract_context, is_of_type, no_result}
use Rattle.ss_vcgen_heaps.specs.Obligations.{classes_of, arguments_at, evaluate_result, exposed_formulas, exposed_terms, frame_formula, is_asked_ready, renewed, result_settled, settle_result, stays_of_type, types_from}

-- ---- the sides of a test

-- where it has come out false
abbrev pub other_side : Walk → ExprTree → Position → Position
other_side w e k = let evaluated = evaluate w e k in record evaluated { guard = When (evaluated.next.truths + 1); known = known_tested e false k.known }

-- after a loop with this test: where that is the literal `true`, nothing is reached
abbrev pub exit_side : ExprTree → Position → Position
exit_side e k = record k { guard = if is_literal_true e then Never else k.guard }

-- ---- loops

-- the object is null, exposed further in, or stands at this level
abbrev pub exposed_formula : Term → ℕ → Term → List Term → Formula
exposed_formula s level o inner = or_of (equal o null_term ∷ map (λ v. equal v o) inner ++ equal (level_of s o) (class_term level) ∷ [])

-- the same of one that is exposed, where these are further in
abbrev pub exposed_here : List ClassTree → ExposedTree → List ExposedTree → Position → Formula
exposed_here cs x xs k = exposed_formula k.store (above cs x.class) (local_term x.local k) (exposed_terms xs k)

abbrev pub renewed_one : Bool → ℕ → Ty → Position → Position
renewed_one assigned x t k = if assigned then set_local x (new_term (element_sort (Some t)) k) (with_new (element_sort (Some t)) k) else k

-- at the head: the invariants, the frame condition, and the levels of what is exposed around the loop are checked
abbrev pub head_checked : Walk → Place → List ExprTree → List ExposedTree → Position → Position
head_checked w at asked exposes k =
    let met = check_all w kind.LoopInvariant at (map (holds_at w k) asked) k in
    check w kind.LoopLevel at (and_of (exposed_formulas (classes_of w) exposes k)) (check w kind.LoopFrame at (frame_formula w (exposed_terms exposes k) k) met)

abbrev pub is_never : Guard → Bool
is_never Always = false
is_never (When n) = false
is_never Never = true

-- where the end of the body is reached, the head is come to again
abbrev pub turned : Walk → Place → List ExprTree → List ExposedTree → Position → Position
turned w at asked exposes k = if_reached k.guard (head_checked w at asked exposes k) k

-- at the head, before anything is known of it
abbrev pub come_to_head : Walk → StmtTree → Position → Position
come_to_head w s k = record (renewed w s k) { known = known_head s k.known }

-- what stands in it, if there is something
abbrev pub flat : {X : Type 0} → Option (Option X) → Option X
flat (Some l) = l
flat None = None

-- what is known at the head of one local, which had this term before the loop
abbrev pub kept_type : Walk → Term → ℕ → Ty → Option Term → Option Term → List Formula
kept_type w s x t (Some before) (Some now) = stays_of_type (is_asked_ready w x) s t before now
kept_type w s x t before now = []

-- what is known at an entry of one argument
abbrev pub entry_type : Walk → Term → ℕ → Ty → Option Term → List Formula
entry_type w s x t (Some u) = is_of_type (is_asked_ready w x) s t u
entry_type w s x t None = []

-- it isn't null now, if it wasn't before
abbrev pub not_lost : Bool → Term → Term → List Formula
not_lost non_null before now = if non_null then or_of (equal before null_term ∷ differ now null_term ∷ []) ∷ [] else []

-- what no turn changes: the frame condition, the levels, what has grown since the entry, and that the store is good
abbrev pub each_turn : Walk → List ExposedTree → Position → List Formula
each_turn w exposes h = frame_formula w (exposed_terms exposes h) h ∷ and_of (exposed_formulas (classes_of w) exposes h) ∷ grown w.entry h.store ∷ good h.store ∷ []

-- what is known at the head: h is the head, and these are the locals before the loop
abbrev pub head_formulas : Walk → List ExprTree → List ExposedTree → List (Option Term) → Position → List Formula
head_formulas w asked exposes before h = map (holds_at w h) asked ++ (each_turn w exposes h ++ types_from w h.store 0 (local_types w.body) before h.locals)

-- at the head, each time
abbrev pub head_reached : Walk → StmtTree → List ExprTree → List ExposedTree → Position → Position
head_reached w s asked exposes k = let h = come_to_head w s k in assume_all (head_formulas w asked exposes k.locals h) h

-- ---- returns

abbrev pub reached_result : Walk → Option ExprTree → Position → Position
reached_result w e k = settle_result w e (evaluate_result w e k)

abbrev pub result_reached : Walk → Option ExprTree → Position → List Meant
result_reached w e k = result_settled w e (evaluate_result w e k)

-- the conditions at entry
abbrev pub entries_said : Walk → Position → List Formula
entries_said w k = conditions w.body.entry (contract_context (classes_of w) w.body k.store k.store (arguments_at w k) (no_result w.body))

-- the conditions at exit, where the result means this
abbrev pub exits_said : Walk → List Meant → Position → List Formula
exits_said w results k = conditions w.body.exit (contract_context (classes_of w) w.body k.store w.entry (arguments_at w k) results)

abbrev pub left : Walk → Place → List Meant → Position → Position
left w at results k =
    let met = check_all w kind.Postcondition at (exits_said w results k) k in
    ended (check w kind.Frame at (frame_formula w [] met) met)
