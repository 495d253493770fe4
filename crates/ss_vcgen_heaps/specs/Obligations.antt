-- The obligations of a core program, for each body built from the front.
use Rattle.std.specs.Prelude.{◌≡◌, ℕ, pos, ◌+◌, List, [], ◌∷◌, ◌++◌, map, length, Bool, true, false, not, ◌&&◌, ◌||◌, ◌==◌, Option, Some, None, is_some, slice_get, slice_set, if◌then◌else◌, take}
use Rattle.ss_core.specs.declared.names.Kind.TheVariants as kind
use Rattle.ss_core.specs.declared.names.Mark.{Mark}
use Rattle.ss_core.specs.declared.names.Mark.TheVariants as mark
use Rattle.ss_core.specs.declared.names.Place.{Place}
use Rattle.ss_core.specs.declared.names.Ty.{Ty}
use Rattle.ss_core.specs.declared.names.Ty.TheVariants as ty
use Rattle.ss_core.specs.Tree.{ClassTree, ExprTree, CalleeTree, Dispatched, Static, Base, BaseConstructor, ExposedTree, StmtTree, AssignStmt, WriteStmt, WriteElementStmt, NewStmt, NewArrayStmt, CallStmt, ReadyStmt, IfStmt, LoopStmt, UnpackStmt, PackStmt, AssertStmt, AssumeStmt, PrintStmt, PrintTextStmt, ReturnStmt, CodeTree, NoCode, Then, BodyTree, CoreTree}
use Rattle.ss_core.specs.Chain.{above}
use Rattle.ss_store_rules.specs.Admissible.{invariants}
use Rattle.ss_store_rules.specs.Changes.{element_type}
use Rattle.ss_store_rules.specs.Locals.{argument_types, local_types, argument_count, result_number, receiver, assigns}
use Rattle.ss_store_rules.specs.NonNull.{Known, is_never_null, is_non_null_type, known_at_entry, known_tested, known_after, known_met, known_head}
use Rattle.ss_store_rules.specs.Paths.{is_literal_true}
use Rattle.ss_store_rules.specs.Types.{element_of, code_type}
use Rattle.ss_store_rules.specs.Typed.{constructor_of}
use Rattle.ss_logic.specs.declared.Sort.{Sort}
use Rattle.ss_logic.specs.declared.Sort.TheVariants as sort
use Rattle.ss_logic.specs.Terms.{Set, Put, Unpack, Pack, Capture, Join, New, NewArray, MakeReady, Length, Field, Constant, Term, Bound, app, field_sort}
use Rattle.ss_logic.specs.Formulas.{Formula, Forall, neg, IsValid}
use Rattle.ss_logic.specs.Shapes.{number, null_term, class_term, level_of, owner_of, pair_of, next_of, equal, differ, at_most, sub_atom, allocated, committed, group}
use Rattle.ss_logic.specs.Shapes as shape
use Rattle.ss_logic.specs.Express.{and_of, or_of, Meant, One, said, Context, element_sort, meant, is_full, less, holds_formula}
use Rattle.ss_logic.specs.Invariants.{invariant_context}
use Rattle.ss_logic.specs.Frames.{kept, grown}
use Rattle.ss_vcgen_heaps.specs.Parts.{parts}
use Rattle.ss_vcgen_heaps.specs.Positions.{Obligation, Guard, Always, When, Never, Counters, Position, Walk, good, assume, assume_all, check, check_all, check_unless, new_term, with_new, set_local, set_store, with_store, ended, meant_of, local_term, site, context_at, meant_at, evaluate, evaluate_all, holds_at, define, with_term, term_for, settled, meant_settled, first_side, second_side, join, if_reached}
use Rattle.ss_vcgen_heaps.specs.Contracts.{is_of_type, contract_context, no_result, conditions, frame_terms, called}

-- ---- names for parts of a walk

abbrev pub classes_of : Walk → List ClassTree
classes_of w = w.program.classes

abbrev pub local_type : Walk → ℕ → Option Ty
local_type w x = slice_get (local_types w.body) x

abbrev pub local_sort : Walk → ℕ → Sort
local_sort w x = element_sort (local_type w x)

-- the value isn't null, or the check is listed
abbrev pub check_not_null : Walk → Place → ExprTree → Term → Position → Position
check_not_null w at e o k = check_unless (is_never_null (site w) k.known false e) w kind.Null at (differ o null_term) k

-- a local whose type or whose path says that it isn't null
abbrev pub is_known_local : Walk → Position → ℕ → Bool
is_known_local w k x = is_non_null_type (local_type w x) || k.known.facts x

abbrev pub check_local : Walk → Place → ℕ → Position → Position
check_local w at x k = check_unless (is_known_local w k x) w kind.Null at (differ (local_term x k) null_term) k

-- ---- writes

-- the owner of the value is a group, or already the pair
abbrev pub may_be_owned : Term → Term → ℕ → Term → Formula
may_be_owned s o t v = or_of (equal v null_term ∷ group (owner_of s v) ∷ equal (owner_of s v) (pair_of o (class_term t)) ∷ [])

-- the owners are equal, or that of the value is a group, or that of the object is and the value isn't committed
abbrev pub may_be_joined : Term → Term → Term → Formula
may_be_joined s o v =
    or_of (
    equal v null_term
    ∷ equal (owner_of s o) (owner_of s v)
    ∷ group (owner_of s v)
    ∷ and_of (group (owner_of s o) ∷ neg (committed s v) ∷ [])
    ∷ [])

abbrev pub check_owners : Mark → Walk → Place → Term → ℕ → Term → Position → Position
check_owners mark.Plain w at o t v k = k
check_owners mark.Rep w at o t v k = check w kind.RepOwner at (may_be_owned k.store o t v) k
check_owners mark.Peer w at o t v k = check w kind.PeerOwner at (may_be_joined k.store o v) k

-- the store with the owners that the write gives
abbrev pub owned_store : Mark → Term → Term → ℕ → Term → Term
owned_store mark.Plain s o t v = s
owned_store mark.Rep s o t v = app (Capture t) (s ∷ o ∷ v ∷ [])
owned_store mark.Peer s o t v = app Join (s ∷ o ∷ v ∷ [])

abbrev pub write : Walk → Place → ExprTree → ℕ → Mark → ℕ → Term → Term → Position → Position
write w at e f m t o v k =
    let checked = check_owners m w at o t v (check w kind.WriteLevel at (neg (sub_atom (level_of k.store o) (class_term t))) (check_not_null w at e o k)) in
    with_store (app (Set f) (owned_store m k.store o t v ∷ o ∷ v ∷ [])) checked

-- the index is one of the array
abbrev pub is_index : Term → Term → Formula
is_index a i = and_of (at_most (number (pos 0)) i ∷ less i (app Length (a ∷ [])) ∷ [])

abbrev pub write_element : Walk → Place → ExprTree → Term → Term → Term → Position → Position
write_element w at e a i v k =
    let checked = check w kind.WriteCommitted at (neg (committed k.store a)) (check w kind.Index at (is_index a i) (check_not_null w at e a k)) in
    with_store (app Put (k.store ∷ a ∷ i ∷ v ∷ [])) checked

-- ---- levels (JOT 2004)

abbrev pub unpack : Walk → Place → ℕ → ℕ → Position → Position
unpack w at x t k =
    let o = local_term x k in
    let checked = check w kind.UnpackCommitted at (neg (committed k.store o)) (check w kind.UnpackLevel at (equal (level_of k.store o) (class_term t)) (check_local w at x k)) in
    with_store (app (Unpack t) (k.store ∷ o ∷ [])) checked

-- each invariant of the class has a value, and that is true
abbrev pub invariants_said : List ClassTree → Term → Term → ℕ → List Formula
invariants_said cs s o t = conditions (invariants cs t) (invariant_context cs s o t)

-- what the object owns at the class is at its full level and not committed
abbrev pub owned_are_full : Term → Term → ℕ → Formula
owned_are_full s o t =
    let v = Bound 0 in
    Forall (sort.Rest ∷ []) (or_of (neg (allocated s v) ∷ differ (owner_of s v) (pair_of o (class_term t)) ∷ and_of (is_full s v ∷ neg (committed s v) ∷ []) ∷ []))

abbrev pub pack : Walk → Place → ℕ → ℕ → Position → Position
pack w at x t k =
    let o = local_term x k in
    let at_level = check w kind.PackLevel at (equal (level_of k.store o) (class_term (above (classes_of w) t))) (check_local w at x k) in
    let checked = check w kind.PackOwned at (owned_are_full k.store o t) (check_all w kind.Invariant at (invariants_said (classes_of w) k.store o t) at_level) in
    with_store (app (Pack t) (k.store ∷ o ∷ [])) checked

-- ---- calls

-- arguments have their parts checked one after the other, and then what each means is settled
abbrev pub settle_all : Walk → List ExprTree → Position → Position
settle_all w [] k = k
settle_all w (e ∷ es) k = settle_all w es (settled (meant_at w e k) (element_sort (code_type (classes_of w) w.body e)) k)

abbrev pub arguments_settled : Walk → List ExprTree → Position → List Meant
arguments_settled w [] k = []
arguments_settled w (e ∷ es) k =
    let s = element_sort (code_type (classes_of w) w.body e) in
    meant_settled (meant_at w e k) s k ∷ arguments_settled w es (settled (meant_at w e k) s k)

-- the conditions at entry
abbrev pub check_entry : Walk → Place → BodyTree → List Meant → Position → Position
check_entry w at callee arguments k =
    check_all w kind.Precondition at (conditions callee.entry (contract_context (classes_of w) callee k.store k.store arguments (no_result callee))) k

-- a result is a new constant
abbrev pub result_term : Option Ty → Position → List Term
result_term None k = []
result_term (Some t) k = new_term (element_sort (Some t)) k ∷ []

abbrev pub with_result : Option Ty → Position → Position
with_result None k = k
with_result (Some t) k = with_new (element_sort (Some t)) k

abbrev pub assume_result : Option Ty → List Term → Position → Position
assume_result (Some t) (r ∷ rs) k = assume_all (is_of_type true k.store t r) k
assume_result t rs k = k

-- After a call: a new store, in which no more has changed than the callee may change, and what it promises holds.
abbrev pub returned : Walk → BodyTree → List Meant → Position → Position
returned w callee arguments k =
    let s = k.store in
    let z = new_term sort.Store k in
    let result = result_term callee.result (with_new sort.Store k) in
    let called = assume_all (kept (classes_of w) (frame_terms (classes_of w) callee s z arguments []) ∷ grown s z ∷ []) (set_store z (with_result callee.result (with_new sort.Store k))) in
    assume_result callee.result result
    (assume_all (conditions callee.exit (contract_context (classes_of w) callee z s arguments (map One result)))
    (assume (good z) called))

abbrev pub keep : Option ℕ → List Term → Position → Position
keep (Some x) (t ∷ ts) k = set_local x t k
keep x ts k = k

abbrev pub call : Walk → Place → Option ℕ → Option BodyTree → List Meant → Position → Position
call w at x None arguments k = k
call w at x (Some callee) arguments k =
    let entered = check_entry w at callee arguments k in
    keep x (result_term callee.result (with_new sort.Store entered)) (returned w callee arguments entered)

-- the receiver of a dispatched call isn't null
abbrev pub check_receiver : Walk → Place → CalleeTree → List Meant → Position → Position
check_receiver w at (Dispatched e t m) (One o ∷ ms) k = check_not_null w at e o k
check_receiver w at callee ms k = k

-- the arguments of a callee, its `this` included
abbrev pub with_this : Walk → CalleeTree → List Meant → Position → List Meant
with_this w (Dispatched e t m) ms k = ms
with_this w (Static n) ms k = ms
with_this w (Base n) ms k = One (local_term 0 k) ∷ ms
with_this w (BaseConstructor n) ms k = One (local_term 0 k) ∷ ms

abbrev pub call_with : Walk → Place → Option ℕ → CalleeTree → List ExprTree → Position → Position
call_with w at x callee es k =
    let evaluated = evaluate_all w es k in
    let ms = arguments_settled w es evaluated in
    let settled = settle_all w es evaluated in
    call w at x (called w.program w.body callee) (with_this w callee ms settled) (check_receiver w at callee ms settled)

-- ---- new objects

-- the object after its constructor, which is ready where that is delayed
abbrev pub with_ready : Bool → Term → Position → Position
with_ready false o k = k
with_ready true o k = with_store (app MakeReady (k.store ∷ o ∷ [])) k

abbrev pub constructed : Walk → Place → Term → Option BodyTree → List Meant → Position → Position
constructed w at o None ms k = k
constructed w at o (Some callee) ms k = with_ready callee.flags.delayed o (returned w callee (One o ∷ ms) (check_entry w at callee (One o ∷ ms) k))

abbrev pub construct : Walk → Place → Option ℕ → ℕ → List ExprTree → Position → Position
construct w at x t es k =
    let evaluated = evaluate_all w es k in
    let ms = arguments_settled w es evaluated in
    let settled = settle_all w es evaluated in
    let o = next_of settled.store in
    let there = with_store (app (New t) (settled.store ∷ [])) (assume (equal (shape.type_of o) (class_term t)) settled) in
    keep x (o ∷ []) (constructed w at o (constructor_of w.program t) ms there)

abbrev pub new_array : Walk → Place → Option ℕ → ℕ → ExprTree → Position → Position
new_array w at x t e k =
    let evaluated = evaluate w e k in
    let n = term_for sort.Whole (meant_at w e evaluated) evaluated in
    let checked = check w kind.NegativeLength at (at_most (number (pos 0)) n) (with_term sort.Whole (meant_at w e evaluated) evaluated) in
    let o = next_of checked.store in
    let there = assume_all (equal (shape.type_of o) (class_term t) ∷ equal (app Length (o ∷ [])) n ∷ []) checked in
    keep x (o ∷ []) (with_store (app (NewArray t) (checked.store ∷ n ∷ [])) there)

-- ---- returns

-- what the arguments of the body mean, and its result at a return
abbrev pub arguments_at : Walk → Position → List Meant
arguments_at w k = map meant_of (take (argument_count w.body) k.locals)

abbrev pub result_settled : Walk → Option ExprTree → Position → List Meant
result_settled w None k = []
result_settled w (Some e) k = meant_settled (meant_at w e k) (element_sort w.body.result) k ∷ []

abbrev pub settle_result : Walk → Option ExprTree → Position → Position
settle_result w None k = k
settle_result w (Some e) k = settled (meant_at w e k) (element_sort w.body.result) k

abbrev pub frame_formula : Walk → List Term → Position → Formula
frame_formula w outside k = kept (classes_of w) (frame_terms (classes_of w) w.body w.entry k.store (arguments_at w k) outside)

abbrev pub evaluate_result : Walk → Option ExprTree → Position → Position
evaluate_result w None k = k
evaluate_result w (Some e) k = evaluate w e k

abbrev pub return_with : Walk → Place → Option ExprTree → Position → Position
return_with w at e k =
    let evaluated = evaluate_result w e k in
    let settled = settle_result w e evaluated in
    let c = contract_context (classes_of w) w.body settled.store w.entry (arguments_at w settled) (result_settled w e evaluated) in
    let met = check_all w kind.Postcondition at (conditions w.body.exit c) settled in
    ended (check w kind.Frame at (frame_formula w [] met) met)

-- ---- loops

abbrev pub exposed_terms : List ExposedTree → Position → List Term
exposed_terms xs k = map (λ (x : ExposedTree). local_term x.local k) xs

-- the object stands at the level above the class at which the innermost expose of it is
abbrev pub exposed_formulas : List ClassTree → List ExposedTree → Position → List Formula
exposed_formulas cs [] k = []
exposed_formulas cs (x ∷ xs) k =
    let o = local_term x.local k in
    or_of (equal o null_term ∷ map (λ v. equal v o) (exposed_terms xs k) ++ equal (level_of k.store o) (class_term (above cs x.class)) ∷ [])
    ∷ exposed_formulas cs xs k

-- the parts of a loop
pub record Loop : Type 0 where
  pub statement : StmtTree
  pub place : Place
  pub invariants : List ExprTree
  pub exposes : List ExposedTree

abbrev pub loop_of : StmtTree → Place → List ExprTree → List ExposedTree → Loop
loop_of s at asked exposes = record { statement = s; place = at; invariants = asked; exposes = exposes }

abbrev pub frame_at_head : Walk → Loop → Position → Formula
frame_at_head w l k = frame_formula w (exposed_terms l.exposes k) k

abbrev pub levels_at_head : Walk → Loop → Position → Formula
levels_at_head w l k = and_of (exposed_formulas (classes_of w) l.exposes k)

-- at the head: the invariants, the frame condition, and the levels of what is exposed around it
abbrev pub check_head : Walk → Loop → Position → Position
check_head w l k =
    let met = check_all w kind.LoopInvariant l.place (map (holds_at w k) l.invariants) k in
    check w kind.LoopLevel l.place (levels_at_head w l k) (check w kind.LoopFrame l.place (frame_at_head w l k) met)

-- a new constant for each of the locals from the number x on that the loop assigns
abbrev pub renew_from : StmtTree → ℕ → List Ty → Position → Position
renew_from s x [] k = k
renew_from s x (t ∷ ts) k =
    let next = if assigns s x then set_local x (new_term (element_sort (Some t)) k) (with_new (element_sort (Some t)) k) else k in
    renew_from s (x + 1) ts next

-- and one for the store
abbrev pub renewed : Walk → StmtTree → Position → Position
renewed w s k =
    let locals = renew_from s 0 (local_types w.body) k in
    set_store (new_term sort.Store locals) (with_new sort.Store locals)

-- the `this` of a constructor need not be ready
abbrev pub is_asked_ready : Walk → ℕ → Bool
is_asked_ready w x = not (w.body.flags.ctor && x == 0)

-- The value now is of the type. Where null isn't of the type, it isn't null if the value before wasn't.
abbrev pub stays_of_type : Bool → Term → Ty → Term → Term → List Formula
stays_of_type asks_ready s (ty.Ref t non_null) before now = is_of_type asks_ready s (ty.Ref t false) now ++ (if non_null then or_of (equal before null_term ∷ differ now null_term ∷ []) ∷ [] else [])
stays_of_type asks_ready s t before now = is_of_type asks_ready s t now

-- each local from the number x on that had a term before the loop has a value of its type
abbrev pub types_from : Walk → Term → ℕ → List Ty → List (Option Term) → List (Option Term) → List Formula
types_from w s x (t ∷ ts) (Some before ∷ olds) (Some now ∷ news) = stays_of_type (is_asked_ready w x) s t before now ++ types_from w s (x + 1) ts olds news
types_from w s x (t ∷ ts) (old ∷ olds) (new ∷ news) = types_from w s (x + 1) ts olds news
types_from w s x ts olds news = []

-- each of the arguments from the number x on has a value of its type
abbrev pub argument_types_from : Walk → Term → ℕ → List Ty → List (Option Term) → List Formula
argument_types_from w s x (t ∷ ts) (Some u ∷ us) = is_of_type (is_asked_ready w x) s t u ++ argument_types_from w s (x + 1) ts us
argument_types_from w s x (t ∷ ts) (None ∷ us) = argument_types_from w s (x + 1) ts us
argument_types_from w s x ts us = []

-- at the head, each time: k is where the loop begins
abbrev pub at_head : Walk → Loop → Position → Position
at_head w l k =
    let h = record (renewed w l.statement k) { known = known_head l.statement k.known } in
    assume_all (
    map (holds_at w h) l.invariants
    ++ frame_at_head w l h ∷ levels_at_head w l h ∷ grown w.entry h.store ∷ good h.store ∷ types_from w h.store 0 (local_types w.body) k.locals h.locals) h

-- after a loop on the literal `true` nothing is reached
abbrev pub exit_guard : ExprTree → ℕ → Guard
exit_guard e n = if is_literal_true e then Never else When n

-- at the beginning of its body: k is at its test
abbrev pub into_body : Walk → ExprTree → Position → Position
into_body w e k = first_side (said (meant_at w e k)) (known_tested e true k.known) (evaluate w e k)

-- after it: k is at its test, and the body has been gone over
abbrev pub after_loop : Walk → Loop → ExprTree → Position → Position → Position
after_loop w l e k turned =
    let evaluated = evaluate w e k in
    second_side (exit_guard e (evaluated.next.truths + 1)) (known_tested e false k.known) evaluated (if_reached turned.guard (check_head w l turned) turned)

-- ---- statements

-- which locals aren't null after a statement
abbrev pub with_known : Walk → StmtTree → Known → Position → Position
with_known w s known k = record k { known = known_after w.program w.body s known }

module _ (w : Walk) where
  abbrev mutual
    -- after a statement
    pub behind : StmtTree → Position → Position
    behind (AssignStmt at x e) k =
        let evaluated = evaluate w e k in
        let t = new_term (local_sort w x) evaluated in
        with_known w (AssignStmt at x e) k.known (set_local x t (define (local_sort w x) (meant_at w e k) evaluated))
    behind (WriteStmt at e f m t value) k =
        let evaluated = evaluate_all w (e ∷ value ∷ []) k in
        let o = term_for sort.Rest (meant_at w e k) evaluated in
        let with_object = with_term sort.Rest (meant_at w e k) evaluated in
        let s = field_sort (classes_of w) f in
        let v = term_for s (meant_at w value k) with_object in
        with_known w (WriteStmt at e f m t value) k.known (write w at e f m t o v (with_term s (meant_at w value k) with_object))
    behind (WriteElementStmt at e i value) k =
        let evaluated = evaluate_all w (e ∷ i ∷ value ∷ []) k in
        let a = term_for sort.Rest (meant_at w e k) evaluated in
        let with_array = with_term sort.Rest (meant_at w e k) evaluated in
        let j = term_for sort.Whole (meant_at w i k) with_array in
        let with_index = with_term sort.Whole (meant_at w i k) with_array in
        let s = element_sort (element_of (classes_of w) (code_type (classes_of w) w.body e)) in
        let v = term_for s (meant_at w value k) with_index in
        with_known w (WriteElementStmt at e i value) k.known (write_element w at e a j v (with_term s (meant_at w value k) with_index))
    behind (NewStmt at x t es) k = with_known w (NewStmt at x t es) k.known (construct w at x t es k)
    behind (NewArrayStmt at x t e) k = with_known w (NewArrayStmt at x t e) k.known (new_array w at x t e k)
    behind (CallStmt at x callee es) k = with_known w (CallStmt at x callee es) k.known (call_with w at x callee (receiver callee ++ es) k)
    behind (ReadyStmt at) k = with_known w (ReadyStmt at) k.known (with_store (app MakeReady (k.store ∷ local_term 0 k ∷ [])) k)
    behind (IfStmt at e one other) k =
        let evaluated = evaluate w e k in
        let f = said (meant_at w e k) in
        let first = behind_all one (first_side f (known_tested e true k.known) evaluated) in
        let second = behind_all other (second_side (When (evaluated.next.truths + 1)) (known_tested e false k.known) evaluated first) in
        join w known_met first second
    behind (LoopStmt at asked prelude e body exposes) k =
        let l = loop_of (LoopStmt at asked prelude e body exposes) at asked exposes in
        let tested = behind_all prelude (at_head w l (check_head w l k)) in
        if_reached tested.guard (after_loop w l e tested (behind_all body (into_body w e tested))) tested
    behind (UnpackStmt at x t) k = unpack w at x t k
    behind (PackStmt at x t) k = pack w at x t k
    behind (AssertStmt at e) k = check w kind.Assert at (holds_at w k e) k
    behind (AssumeStmt at e) k = assume (holds_at w k e) k
    behind (PrintStmt at e newline) k = evaluate_result w e k
    behind (PrintTextStmt at text newline) k = k
    behind (ReturnStmt at e) k = return_with w at e k

    -- after statements one after the other; those that can't be reached tell nothing
    pub behind_all : CodeTree → Position → Position
    behind_all NoCode k = k
    behind_all (Then s code) k = if_reached k.guard (behind_all code (behind s k)) k

-- ---- bodies

-- each argument is a new constant
abbrev pub enter_arguments : List Ty → Position → Position
enter_arguments [] k = k
enter_arguments (t ∷ ts) k = enter_arguments ts (record (with_new (element_sort (Some t)) k) { locals = k.locals ++ Some (new_term (element_sort (Some t)) k) ∷ [] })

-- where these constants come next
abbrev pub first_position : BodyTree → Counters → Position
first_position b n = record {
  locals = [];
  store = app (Constant sort.Store n.stores) [];
  guard = Always;
  known = known_at_entry b;
  next = record n { stores = n.stores + 1 };
  premises = [];
  listed = [];
}

abbrev pub walk_of : CoreTree → ℕ → BodyTree → Counters → Walk
walk_of c n b next = record { program = c; body = b; number = n; entry = app (Constant sort.Store next.stores) [] }

-- What is known at the entry of a body: its store is good, its arguments have their types, and its conditions hold.
abbrev pub at_entry : Walk → Counters → Position
at_entry w next =
    let entered = enter_arguments (argument_types w.body) (first_position w.body next) in
    let k = record entered { locals = entered.locals ++ map (λ l. None) w.body.locals ++ (if is_some w.body.result then None ∷ [] else []) } in
    assume_all (good k.store ∷ argument_types_from w k.store 0 (argument_types w.body) k.locals ++ conditions w.body.entry (contract_context (classes_of w) w.body k.store k.store (arguments_at w k) (no_result w.body))) k

-- after the code of a body
abbrev pub at_end : Walk → Counters → Position
at_end w next = behind_all w w.body.code (at_entry w next)

-- the obligations of bodies, of which the first has the number n
abbrev pub obligations_from : CoreTree → ℕ → Counters → List BodyTree → List Obligation
obligations_from c n next [] = []
obligations_from c n next (b ∷ bs) = let k = at_end (walk_of c n b next) next in k.listed ++ obligations_from c (n + 1) k.next bs

-- the obligations of a program, body by body
abbrev pub obligations : CoreTree → List Obligation
obligations c = obligations_from c 0 (record { stores = 0; wholes = 0; truths = 0; things = 0 }) c.bodies

-- each goal is true in every structure in which its premises are
abbrev pub AreValid : List ClassTree → List Obligation → Type 0
AreValid cs [] = Unit {0}
AreValid cs (o ∷ os) = IsValid cs o.premises o.goal × AreValid cs os
