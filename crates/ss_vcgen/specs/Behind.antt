-- Parts of the walk over statements that one function does.
use Rattle.std.specs.Prelude.{ℕ, ◌+◌, List, [], ◌∷◌, true, false}
use Rattle.ss_core.specs.declared.names.Mark.{Mark}
use Rattle.ss_core.specs.declared.names.Place.{Place}
use Rattle.ss_core.specs.Tree.{ExprTree, ExposedTree, CodeTree, StmtTree, AssignStmt, WriteStmt, WriteElementStmt, NewStmt, NewArrayStmt, CallStmt, ReadyStmt, IfStmt, LoopStmt, UnpackStmt, PackStmt, AssertStmt, AssumeStmt, PrintStmt, PrintTextStmt, ReturnStmt}
use Rattle.ss_store_rules.specs.NonNull.{known_tested, known_met}
use Rattle.ss_store_rules.specs.Types.{element_of, code_type}
use Rattle.ss_logic.specs.declared.Sort.{Sort}
use Rattle.ss_logic.specs.declared.Sort.TheVariants as sort
use Rattle.ss_logic.specs.Terms.{MakeReady, app, field_sort}
use Rattle.ss_logic.specs.Express.{Meant, element_sort, said}
use Rattle.ss_vcgen_heaps.specs.Positions.{Position, Walk, When, define, evaluate, evaluate_all, first_side, if_reached, join, local_term, meant_at, new_term, second_side, set_local, term_for, with_store, with_term}
use Rattle.ss_vcgen_heaps.specs.Obligations.{behind_all, classes_of, exit_guard, into_body, local_sort, write, write_element}
use Rattle.ss_vcgen_bodies.specs.Words.{turned}

-- ---- statements

abbrev pub place_of : StmtTree → Place
place_of (AssignStmt p x e) = p
place_of (WriteStmt p e f m t value) = p
place_of (WriteElementStmt p e i value) = p
place_of (NewStmt p x t es) = p
place_of (NewArrayStmt p x t e) = p
place_of (CallStmt p x callee es) = p
place_of (ReadyStmt p) = p
place_of (IfStmt p e one other) = p
place_of (LoopStmt p asked prelude e body exposes) = p
place_of (UnpackStmt p x t) = p
place_of (PackStmt p x t) = p
place_of (AssertStmt p e) = p
place_of (AssumeStmt p e) = p
place_of (PrintStmt p e ends) = p
place_of (PrintTextStmt p text ends) = p
place_of (ReturnStmt p e) = p

-- ---- what two values mean gets terms

abbrev pub with_two : Sort → Meant → Sort → Meant → Position → Position
with_two r m s n k = with_term s n (with_term r m k)

-- ---- changes, but for what is known of null

abbrev pub assigned : Walk → ℕ → ExprTree → Position → Position
assigned w x e k = let evaluated = evaluate w e k in set_local x (new_term (local_sort w x) evaluated) (define (local_sort w x) (meant_at w e k) evaluated)

abbrev pub written : Walk → Place → ExprTree → ℕ → Mark → ℕ → ExprTree → Position → Position
written w at e f m t value k =
    let evaluated = evaluate_all w (e ∷ value ∷ []) k in
    let o = term_for sort.Rest (meant_at w e k) evaluated in
    let with_object = with_term sort.Rest (meant_at w e k) evaluated in
    let s = field_sort (classes_of w) f in
    let v = term_for s (meant_at w value k) with_object in
    write w at e f m t o v (with_term s (meant_at w value k) with_object)

abbrev pub element_written : Walk → Place → ExprTree → ExprTree → ExprTree → Position → Position
element_written w at e i value k =
    let evaluated = evaluate_all w (e ∷ i ∷ value ∷ []) k in
    let a = term_for sort.Rest (meant_at w e k) evaluated in
    let with_array = with_term sort.Rest (meant_at w e k) evaluated in
    let j = term_for sort.Whole (meant_at w i k) with_array in
    let with_index = with_term sort.Whole (meant_at w i k) with_array in
    let s = element_sort (element_of (classes_of w) (code_type (classes_of w) w.body e)) in
    let v = term_for s (meant_at w value k) with_index in
    write_element w at e a j v (with_term s (meant_at w value k) with_index)

abbrev pub made_ready : Position → Position
made_ready k = with_store (app MakeReady (k.store ∷ local_term 0 k ∷ [])) k

-- ---- statements with others in them

abbrev pub branched : Walk → ExprTree → CodeTree → CodeTree → Position → Position
branched w e one other k =
    let evaluated = evaluate w e k in
    let first = behind_all w one (first_side (said (meant_at w e k)) (known_tested e true k.known) evaluated) in
    let second = behind_all w other (second_side (When (evaluated.next.truths + 1)) (known_tested e false k.known) evaluated first) in
    join w known_met first second

-- from the test of a loop to after it: k is at the test
abbrev pub gone_round : Walk → Place → List ExprTree → ExprTree → CodeTree → List ExposedTree → Position → Position
gone_round w at asked e body exposes k =
    let evaluated = evaluate w e k in
    second_side (exit_guard e (evaluated.next.truths + 1)) (known_tested e false k.known) evaluated (turned w at asked exposes (behind_all w body (into_body w e k)))

-- the same, where the test is reached
abbrev pub gone_if_reached : Walk → Place → List ExprTree → ExprTree → CodeTree → List ExposedTree → Position → Position
gone_if_reached w at asked e body exposes k = if_reached k.guard (gone_round w at asked e body exposes k) k

abbrev pub looped : Walk → Place → List ExprTree → CodeTree → ExprTree → CodeTree → List ExposedTree → Position → Position
looped w at asked prelude e body exposes k = gone_if_reached w at asked e body exposes (behind_all w prelude k)
