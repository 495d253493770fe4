-- One step of the checked machine: a statement with its checks in order.
use Rattle.std.specs.Prelude.{ℕ, List, [], ◌∷◌, ◌++◌, map, length, codes, Bool, true, false, ◌==◌, ◌&&◌, ◌||◌, if◌then◌else◌, Option, Some, None, is_some, Result, Ok, Err}
use Rattle.std.specs.List.{list_all, list_any}
use Rattle.std.specs.Fmt.{signed_decimal}
use Rattle.ss_core.specs.declared.names.Place.{Place}
use Rattle.ss_core.specs.declared.names.Kind.{Kind}
use Rattle.ss_core.specs.declared.names.Kind.TheVariants as kind
use Rattle.ss_core.specs.Tree.{ClassTree, ExprTree, CalleeTree, Dispatched, Static, Base, BaseConstructor, ExposedTree, StmtTree, AssignStmt, WriteStmt, WriteElementStmt, NewStmt, NewArrayStmt, CallStmt, ReadyStmt, IfStmt, LoopStmt, UnpackStmt, PackStmt, AssertStmt, AssumeStmt, PrintStmt, PrintTextStmt, ReturnStmt, CodeTree, BodyTree, CoreTree}
use Rattle.ss_core.specs.Chain.{above}
use Rattle.ss_store_rules.specs.declared.Value.{Value}
use Rattle.ss_store_rules.specs.declared.Value.TheVariants as value
use Rattle.ss_store_rules.specs.declared.Undefined.{Undefined}
use Rattle.ss_store_rules.specs.Store.{Object}
use Rattle.ss_store_rules.specs.Numbers.{Outcome}
use Rattle.ss_store_rules.specs.Reads.{as_int, as_bool, same_value, is_null_or, object_at}
use Rattle.ss_store_rules.specs.Values.{Setting, setting, and_then, local_value, value_of, holds}
use Rattle.ss_store_rules.specs.Changes.{unpack_of, pack_of, write_of, write_element_of, new_object_of, new_array_of, ready_of}
use Rattle.ss_store_rules.specs.Admissible.{invariants_hold}
use Rattle.ss_store_rules.specs.Locals.{result_number}
use Rattle.ss_store_rules.specs.Typed.{body_at, constructor_of, method_at}
use Rattle.ss_machine_rules.specs.Frame.{local_at, this_of, is_kept}
use Rattle.ss_machine_rules.specs.States.{Due, Statement, Test, dues, Target, ToCall, ToNew, Frame, Next, Goes, Over, Fails, Stops, locals_at_entry, put, frame_at_entry, scene, span}

-- ---- parts of a step

-- it goes on with this frame and this store
abbrev pub goes : Frame → List Frame → List Object → Next
goes f fs s = Goes (f ∷ fs) s []

-- an expression of code without a value fails with its own kind, at its own place
abbrev pub with_value : Outcome → (Value → Next) → Next
with_value (Ok v) next = next v
with_value (Err u) next = Fails u.kind u.place

-- the values of expressions from the left, or the first cause why one has none
abbrev pub values_of : List ExprTree → Setting → Result (List Value) Undefined
values_of [] c = Ok []
values_of (e ∷ es) c = and_then (value_of e c) (λ v. and_then (values_of es c) (λ vs. Ok (v ∷ vs)))

abbrev pub with_values : Result (List Value) Undefined → (List Value → Next) → Next
with_values (Ok vs) next = next vs
with_values (Err u) next = Fails u.kind u.place

-- where the check fails, so does the run
abbrev pub where_holds : Bool → Kind → Place → Next → Next
where_holds condition k at next = if condition then next else Fails k at

-- a change of the store, or the check that it fails
abbrev pub changes : Result (List Object) Kind → Place → Frame → List Frame → Next
changes (Ok s) at f fs = goes f fs s
changes (Err k) at f fs = Fails k at

-- each condition holds; one without a value doesn't
abbrev pub all_hold : List ExprTree → Setting → Bool
all_hold es c = list_all (λ e. holds e c) es

abbrev pub with_local : Option ℕ → Value → Frame → Frame
with_local x v f = record f { locals = put x v f.locals }

-- ---- entry

-- a body is entered where its conditions at entry hold; a body that isn't there is passed over
abbrev pub enter : CoreTree → Option BodyTree → Place → Target → List Value → Frame → List Frame → List Object → Next
enter c None at into arguments f fs s = goes f fs s
enter c (Some b) at into arguments f fs s =
    where_holds (all_hold b.entry (setting c.classes s s (locals_at_entry b arguments))) kind.Precondition at
    (Goes (frame_at_entry b (locals_at_entry b arguments) s into ∷ f ∷ fs) s [])

-- the body that the object to which the receiver refers has at this place of its table
abbrev pub dispatch : CoreTree → ℕ → Place → Option ℕ → Value → List Value → Frame → List Frame → List Object → Next
dispatch c m at x (value.Obj o) arguments f fs s = enter c (method_at c (object_at s o).class m) at (ToCall x) (value.Obj o ∷ arguments) f fs s
dispatch c m at x v arguments f fs s = Fails kind.Null at

-- the receiver, then the arguments from the left; then the receiver may not be null
abbrev pub call : CoreTree → CalleeTree → Place → Option ℕ → List ExprTree → Frame → List Frame → List Object → Next
call c (Dispatched e t m) at x es f fs s = with_value (value_of e (scene c f s)) (λ v. with_values (values_of es (scene c f s)) (λ vs. dispatch c m at x v vs f fs s))
call c (Static n) at x es f fs s = with_values (values_of es (scene c f s)) (λ vs. enter c (body_at c n) at (ToCall x) vs f fs s)
call c (Base n) at x es f fs s = with_values (values_of es (scene c f s)) (λ vs. enter c (body_at c n) at (ToCall x) (this_of f.locals ∷ vs) f fs s)
call c (BaseConstructor n) at x es f fs s = with_values (values_of es (scene c f s)) (λ vs. enter c (body_at c n) at (ToCall x) (this_of f.locals ∷ vs) f fs s)

-- the arguments from the left; the object is there before the conditions at entry are asked
abbrev pub construct : CoreTree → ℕ → Place → Option ℕ → List ExprTree → Frame → List Frame → List Object → Next
construct c t at x es f fs s =
    with_values (values_of es (scene c f s))
    (λ vs. enter c (constructor_of c t) at (ToNew x) (value.Obj (length s) ∷ vs) f fs (new_object_of c.classes s t))

abbrev pub made_array : Result (List Object) Kind → ℕ → Place → Option ℕ → Frame → List Frame → Next
made_array (Ok s) o at x f fs = goes (with_local x (value.Obj o) f) fs s
made_array (Err k) o at x f fs = Fails k at

-- ---- exit

-- the object to which the value refers is ready
abbrev pub with_ready : List Object → Value → List Object
with_ready s (value.Obj o) = ready_of s o
with_ready s v = s

-- The caller goes on with the result; after a `new` with the object, which is ready from then on.
abbrev pub back : Target → Value → Value → Frame → List Frame → List Object → Next
back (ToCall x) v this caller callers s = goes (with_local x v caller) callers s
back (ToNew x) v this caller callers s = goes (with_local x this caller) callers (with_ready s this)

-- the last body that is left is Main
abbrev pub leave : Value → Frame → List Frame → List Object → Next
leave v f [] s = Over s
leave v f (caller ∷ callers) s = back f.into v (this_of f.locals) caller callers s

-- the local that gets the result
abbrev pub result_local : BodyTree → Option ℕ
result_local b = if is_some b.result then Some (result_number b) else None

abbrev pub exit_with : CoreTree → Place → Value → Frame → List Frame → List Object → Next
exit_with c at v f fs s =
    where_holds (all_hold f.body.exit (scene c f s)) kind.Postcondition at
    (where_holds (is_kept (span c f s [])) kind.Frame at
    (leave v f fs s))

-- a body is left where its conditions at exit hold, and then its frame condition
abbrev pub exit : CoreTree → Place → Value → Frame → List Frame → List Object → Next
exit c at v f fs s = exit_with c at v (with_local (result_local f.body) v f) fs s

-- the value of a result; where there is none, it doesn't matter
abbrev pub result_value : Option ExprTree → Setting → Outcome
result_value None c = Ok value.Null
result_value (Some e) c = value_of e c

-- ---- loops

-- the object that is exposed
abbrev pub held_by : Frame → ExposedTree → Value
held_by f x = local_at f.locals x.local

-- an object that is exposed at t stands at the level above it
abbrev pub stands_above : List ClassTree → List Object → ℕ → Value → Bool
stands_above cs s t v = is_null_or v (λ o. (object_at s o).level == above cs t)

-- each object stands at the level above the class at which the innermost of these exposes has it
abbrev pub are_exposed : List ClassTree → List Object → Frame → List ExposedTree → Bool
are_exposed cs s f [] = true
are_exposed cs s f (x ∷ xs) = (list_any (λ y. same_value (held_by f y) (held_by f x)) xs || stands_above cs s x.class (held_by f x)) && are_exposed cs s f xs

-- at the head of a loop: its invariants, the frame condition, and the levels of what is exposed around it
abbrev pub at_head : CoreTree → Place → List ExprTree → List ExposedTree → Frame → List Frame → List Object → Next → Next
at_head c at invariants exposes f fs s next =
    where_holds (all_hold invariants (scene c f s)) kind.LoopInvariant at
    (where_holds (is_kept (span c f s (map (held_by f) exposes))) kind.LoopFrame at
    (where_holds (are_exposed c.classes s f exposes) kind.LoopLevel at
    next))

abbrev pub go_into : List Due → Frame → Frame
go_into ds f = record f { left = ds ++ f.left }

-- ---- printing

-- a number in decimal, or `True` or `False`
abbrev pub text_of : Value → List ℕ
text_of (value.Int n) = signed_decimal n
text_of (value.Bool true) = codes "True"
text_of (value.Bool false) = codes "False"
text_of (value.Obj o) = []
text_of value.Null = []

-- a piece, with a line end where one is asked for
abbrev pub line : List ℕ → Bool → List ℕ
line text newline = if newline then text ++ 10 ∷ [] else text

abbrev pub print : Option ExprTree → Bool → CoreTree → Frame → List Frame → List Object → Next
print None newline c f fs s = Goes (f ∷ fs) s (line [] newline)
print (Some e) newline c f fs s = with_value (value_of e (scene c f s)) (λ v. Goes (f ∷ fs) s (line (text_of v) newline))

-- ---- one step

-- one statement, with the frame that is left after it, the frames that wait, and the store
abbrev pub act : CoreTree → StmtTree → Frame → List Frame → List Object → Next
act c (AssignStmt at x e) f fs s = with_value (value_of e (scene c f s)) (λ v. goes (with_local (Some x) v f) fs s)
act c (WriteStmt at o g m t e) f fs s = with_value (value_of o (scene c f s)) (λ v. with_value (value_of e (scene c f s)) (λ w. changes (write_of c.classes s v g w) at f fs))
act c (WriteElementStmt at a i e) f fs s =
    with_value (value_of a (scene c f s)) (λ v. with_value (value_of i (scene c f s)) (λ n. with_value (value_of e (scene c f s)) (λ w. changes (write_element_of s v (as_int n) w) at f fs)))
act c (NewStmt at x t es) f fs s = construct c t at x es f fs s
act c (NewArrayStmt at x t e) f fs s = with_value (value_of e (scene c f s)) (λ n. made_array (new_array_of s t (as_int n)) (length s) at x f fs)
act c (CallStmt at x callee es) f fs s = call c callee at x es f fs s
act c (ReadyStmt at) f fs s = goes f fs (with_ready s (this_of f.locals))
act c (IfStmt at e one other) f fs s = with_value (value_of e (scene c f s)) (λ v. goes (go_into (dues (if as_bool v then one else other)) f) fs s)
act c (LoopStmt at invariants prelude e body exposes) f fs s =
    at_head c at invariants exposes f fs s (goes (go_into (dues prelude ++ Test e body (LoopStmt at invariants prelude e body exposes) ∷ []) f) fs s)
act c (UnpackStmt at x t) f fs s = changes (unpack_of c.classes s (local_value (scene c f s) x) t) at f fs
act c (PackStmt at x t) f fs s = changes (pack_of c.classes (invariants_hold c.classes) s (local_value (scene c f s) x) t) at f fs
act c (AssertStmt at e) f fs s = where_holds (holds e (scene c f s)) kind.Assert at (goes f fs s)
act c (AssumeStmt at e) f fs s = if holds e (scene c f s) then goes f fs s else Stops at
act c (PrintStmt at e newline) f fs s = print e newline c f fs s
act c (PrintTextStmt at text newline) f fs s = Goes (f ∷ fs) s (line text newline)
act c (ReturnStmt at e) f fs s = with_value (result_value e (scene c f s)) (λ v. exit c at v f fs s)

-- the test of a loop: its body and then the loop again, or what is left after it
abbrev pub test : CoreTree → ExprTree → CodeTree → StmtTree → Frame → List Frame → List Object → Next
test c e body loop f fs s = with_value (value_of e (scene c f s)) (λ v. goes (if as_bool v then go_into (dues body ++ Statement loop ∷ []) f else f) fs s)

-- the first of what is left; a body whose end is reached is left like one that returns nothing
abbrev pub act_first : CoreTree → List Due → Frame → List Frame → List Object → Next
act_first c [] f fs s = exit c f.body.place value.Null f fs s
act_first c (Statement stmt ∷ ds) f fs s = act c stmt (record f { left = ds }) fs s
act_first c (Test e body loop ∷ ds) f fs s = test c e body loop (record f { left = ds }) fs s

abbrev pub next : CoreTree → List Frame → List Object → Next
next c [] s = Over s
next c (f ∷ fs) s = act_first c f.left f fs s
