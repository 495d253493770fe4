-- All statements: after each the position is as it is to be.
use Rattle.std.proofs.Common.{◌≡◌, ℕ, ◌+◌, List, [], ◌∷◌, ◌++◌, map, length, Bool, true, false, not, ◌&&◌, ◌||◌, refl, sym, ap, subst, ⊎_elim}
use Rattle.std.specs.Prelude.{Option, Some, None, is_some, slice_get, option_to_list}
use Rattle.std.specs.List.{list_all}
use Rattle.std.proofs.lemmas.Bool.{false≢true, and_parts, and_from, cases_Bool, lt-ltb}
use Rattle.std.proofs.lemmas.Option.{slice_get_within}
use Rattle.ss_core.specs.declared.names.Kind.TheVariants as kind
use Rattle.ss_core.specs.declared.names.Mark.{Mark}
use Rattle.ss_core.specs.declared.names.Place.{Place}
use Rattle.ss_core.specs.declared.names.Ty.{Ty}
use Rattle.ss_core.specs.declared.names.Ty.TheVariants as ty
use Rattle.ss_core.specs.Tree.{ClassTree, ExprTree, ExposedTree, StmtTree, AssignStmt, WriteStmt, WriteElementStmt, NewStmt, NewArrayStmt, CallStmt, ReadyStmt, IfStmt, LoopStmt, UnpackStmt, PackStmt, AssertStmt, AssumeStmt, PrintStmt, PrintTextStmt, ReturnStmt, CodeTree, NoCode, Then, BodyTree}
use Rattle.ss_core.specs.Chain.{all_fields}
use Rattle.ss_store_rules.specs.Assigned.{assigned_flow, assigned_check, operands, reads_assigned}
use Rattle.ss_store_rules.specs.Changes.{field_type}
use Rattle.ss_store_rules.specs.Construction.{is_base_or_ready}
use Rattle.ss_store_rules.specs.Formed.{IsFormedBody, IsFormed}
use Rattle.ss_store_rules.specs.Locals.{local_types, each, each_inside, evaluated as values_read, receiver}
use Rattle.ss_store_rules.specs.NonNull.{known_tested, known_after, known_met}
use Rattle.ss_store_rules.specs.Paths as paths
use Rattle.ss_store_rules.specs.Paths.{where_reached, in_body, at_end, holds_along}
use Rattle.ss_store_rules.specs.Typed.{is_plain, fits_declared, has_type_in, is_element_write, is_printed, is_typed, has_exposable}
use Rattle.ss_store_rules.specs.Types.{is_int, is_bool, element_of, in_code, in_assert, code_type, is_condition}
use Rattle.ss_machine_good.proofs.Behind.{constructor_instance}
use Rattle.ss_logic.specs.declared.Sort.TheVariants as sort
use Rattle.ss_logic.specs.Terms.{sort_of_type, field_sort}
use Rattle.ss_logic.specs.Express.{said, element_sort}
use Rattle.ss_logic_means.specs.Scenes.{AreInvariants}
use Rattle.ss_logic_means.specs.Sorts.{HasSort}
use Rattle.ss_logic_means.proofs.Forming.{C}
use Rattle.ss_logic_means.proofs.Operating.{int_sort}
use Rattle.ss_vcgen_heaps.specs.Positions.{Guard, Always, When, Never, Position, Walk, check_all, holds_at, new_term, set_local, local_term, meant_at, evaluate, evaluate_all, define, with_term, term_for, first_side, second_side, if_reached}
use Rattle.ss_vcgen_heaps.specs.Obligations.{classes_of, local_sort, write, write_element, construct, new_array, call_with, Loop, loop_of, check_head, at_head, exit_guard, evaluate_result, into_body, after_loop, behind, behind_all}
use Rattle.ss_vcgen_safe.specs.At.{HaveTerms}
use Rattle.ss_vcgen_safe.proofs.Paths.{IsReachable, IsPlaced, SamePlace, like_place, placed_same, placed_head, placed, placed_all}
use Rattle.ss_vcgen_safe.proofs.Same.{same_check_all, same_evaluate}
use Rattle.ss_vcgen_safe.proofs.Settles.{fitting_sort}
use Rattle.ss_vcgen_safe.proofs.Fields.{field_write, marked_sort}
use Rattle.ss_vcgen_safe.specs.Heads.{IsAsked}
use Rattle.ss_vcgen_safe.specs.Places.{IsFormedAt}
use Rattle.ss_vcgen_safe.specs.Coded.{IsReadSoundly, AreReadSoundly}
use Rattle.ss_vcgen_safe.proofs.FormedSteps.{assumed, checked, known_formed, local_set, new_sorted, defined_formed, termed, term_sorted, first_formed, second_formed}
use Rattle.ss_vcgen_safe.proofs.FormedValues.{bool_some, int_some, fitting_some, terms_like, exposed_sorted, meaning_sorted, evaluated, condition_formed, test_formed, evaluated_all}
use Rattle.ss_vcgen_safe.proofs.FormedChanges.{written, element_written, unpacked, packed, made_ready}
use Rattle.ss_vcgen_safe.proofs.FormedCalls.{this_sorted, call_formed, new_formed, array_formed}
use Rattle.ss_vcgen_safe.proofs.FormedReturns.{return_formed}
use Rattle.ss_vcgen_safe.proofs.FormedJoins.{join_formed}
use Rattle.ss_vcgen_safe.proofs.FormedLoops.{head_checked, head_formed}

-- ---- small things

three : (x y z : Bool) → (x && y && z) ≡ true → (x ≡ true) × (y ≡ true) × (z ≡ true)
three x y z h = let p = and_parts (x && y) z h in let q = and_parts x y p.0 in (q.0, q.1, p.1)

five : (a b c d e : Bool) → (a && b && c && d && e) ≡ true → (a ≡ true) × (b ≡ true) × (c ≡ true) × (d ≡ true) × (e ≡ true)
five a b c d e h =
    let p = and_parts (a && b && c && d) e h in
    let q = and_parts (a && b && c) d p.0 in
    let r = three a b c q.0 in
    (r.0, r.1, r.2, q.1, p.1)

-- what is assigned has the sort of its local
assigned_sort : (cs : List ClassTree) (a o : Option Ty) → fits_declared cs a o ≡ true → (is_some a ≡ true) × (element_sort a ≡ element_sort o)
assigned_sort cs a None h = absurd (false≢true h)
assigned_sort cs a (Some t) h = (fitting_some cs a t h, fitting_sort cs a t h)

-- an element that is written, and its array
written_element : (cs : List ClassTree) (b : BodyTree) (e : ExprTree) (o : Option Ty) → is_element_write cs b e o ≡ true → (t : Ty) × (o ≡ Some t) × (has_type_in cs b e t ≡ true)
written_element cs b e None h = absurd (false≢true h)
written_element cs b e (Some t) h = (t, refl, h)

array_type : (cs : List ClassTree) (o : Option Ty) (t : Ty) → element_of cs o ≡ Some t → (is_some o ≡ true) × (element_sort o ≡ sort.Rest)
array_type cs None t h = let no : ⊥ = cc in absurd no
array_type cs (Some ty.Int) t h = let no : ⊥ = cc in absurd no
array_type cs (Some ty.Bool) t h = let no : ⊥ = cc in absurd no
array_type cs (Some ty.Null) t h = let no : ⊥ = cc in absurd no
array_type cs (Some (ty.Ref c n)) t h = (refl, refl)

printed_some : (o : Option Ty) → (is_int o || is_bool o) ≡ true → is_some o ≡ true
printed_some None h = absurd (false≢true h)
printed_some (Some t) h = refl

-- the position, where it is reached
when_reached : (g : Guard) (k k' : Position) (P : Position → Type 0) → IsReachable g → P k → P (if_reached g k k')
when_reached Always k k' P r h = h
when_reached (When n) k k' P r h = h
when_reached Never k k' P r h = absurd r

-- ---- statements

module _ (w : Walk) (formed : IsFormed w.program) (body : IsFormedBody w.program w.body) (entry : HasSort w.program.classes [] sort.Store w.entry) where
  abbrev cs : List ClassTree
  cs = w.program.classes

  abbrev Reads : (ℕ → Bool) → ExprTree → Type 0
  Reads xs e = reads_assigned w.body xs e ≡ true

  read_all : (s : StmtTree) (xs : ℕ → Bool) → (assigned_check w.body).statement s xs ≡ true → list_all (reads_assigned w.body xs) (values_read s) ≡ true
  read_all s xs h = (and_parts (list_all (reads_assigned w.body xs) (values_read s)) (list_all xs (operands s)) h).0

  read_one : (e : ExprTree) (xs : ℕ → Bool) → (list_all (reads_assigned w.body xs) (e ∷ []) && true) ≡ true → Reads xs e
  read_one e xs h = (and_parts (reads_assigned w.body xs e) true (and_parts (reads_assigned w.body xs e && true) true h).0).0

  assign_formed : (at : Place) (x : ℕ) (e : ExprTree) (xs : ℕ → Bool) (k : Position) → IsReadSoundly w xs (AssignStmt at x e) → IsFormedAt w k → HaveTerms xs k.locals → IsFormedAt w (behind w (AssignStmt at x e) k)
  assign_formed at x e xs k c is have =
      let fits = assigned_sort cs (code_type cs w.body e) (slice_get (local_types w.body) x) c.typed in
      let read = read_one e xs c.assigned in
      let a = evaluate w e k in
      let is_a = evaluated w entry xs k is have e read fits.0 in
      let s = local_sort w x in
      let m = meant_at w e k in
      let sorted = subst (λ r. C cs [] r m) fits.1 (meaning_sorted w entry xs k is have e read fits.0) in
      let b = define s m a in
      let is_b = defined_formed w s m a sorted is_a in
      let t = new_term s a in
      known_formed w (known_after w.program w.body (AssignStmt at x e) k.known) (set_local x t b) (local_set w x t b (λ u there. subst (λ o. HasSort cs [] (element_sort o) t) there (new_sorted w s a)) is_b)

  write_formed : (at : Place) (e : ExprTree) (f : ℕ) (m : Mark) (t : ℕ) (value : ExprTree) (xs : ℕ → Bool) (k : Position) → IsReadSoundly w xs (WriteStmt at e f m t value) → IsFormedAt w k → HaveTerms xs k.locals → IsFormedAt w (behind w (WriteStmt at e f m t value) k)
  write_formed at e f m t value xs k c is have =
      let fw = field_write cs w.body e m t value f c.typed in
      let reads = read_all (WriteStmt at e f m t value) xs c.assigned in
      let p = and_parts (reads_assigned w.body xs e) (reads_assigned w.body xs value && true) reads in
      let q = and_parts (reads_assigned w.body xs value) true p.1 in
      let e_some : is_some (code_type cs w.body e) ≡ true = ap (λ o. is_some o) fw.object in
      let v_some = fitting_some cs (code_type cs w.body value) (field_type cs f) fw.fits in
      let es = e ∷ value ∷ [] in
      let a = evaluate_all w es k in
      let is_a = evaluated_all w entry xs es k reads (and_from (is_some (code_type cs w.body e)) (is_some (code_type cs w.body value) && true) e_some (and_from (is_some (code_type cs w.body value)) true v_some refl)) is have in
      let me = meant_at w e k in
      let e_sorted = subst (λ r. C cs [] r me) (ap (λ o. element_sort o) fw.object) (meaning_sorted w entry xs k is have e p.0 e_some) in
      let o = term_for sort.Rest me a in
      let b = with_term sort.Rest me a in
      let is_b = termed w sort.Rest me a e_sorted is_a in
      let s = field_sort (classes_of w) f in
      let mv = meant_at w value k in
      let v_sorted = subst (λ r. C cs [] r mv) (fitting_sort cs (code_type cs w.body value) (field_type cs f) fw.fits) (meaning_sorted w entry xs k is have value q.0 v_some) in
      let v = term_for s mv b in
      let d = with_term s mv b in
      let is_d = termed w s mv b v_sorted is_b in
      let there = lt-ltb f (length (all_fields cs)) (slice_get_within (all_fields cs) f fw.field fw.there) in
      known_formed w (known_after w.program w.body (WriteStmt at e f m t value) k.known) (write w at e f m t o v d)
      (written w at e f m t o v d there (λ plain. marked_sort cs formed.fields f fw.field fw.there (subst (λ z. is_plain z ≡ false) (sym fw.mark_is) plain)) (term_sorted w sort.Rest me a e_sorted) (term_sorted w s mv b v_sorted) is_d)

  element_formed : (at : Place) (e i value : ExprTree) (xs : ℕ → Bool) (k : Position) → IsReadSoundly w xs (WriteElementStmt at e i value) → IsFormedAt w k → HaveTerms xs k.locals → IsFormedAt w (behind w (WriteElementStmt at e i value) k)
  element_formed at e i value xs k c is have =
      let h = and_parts (is_int (code_type cs w.body i)) (is_element_write cs w.body value (element_of cs (code_type cs w.body e))) c.typed in
      let el = written_element cs w.body value (element_of cs (code_type cs w.body e)) h.1 in
      let array = array_type cs (code_type cs w.body e) el.0 el.1 in
      let i_some = int_some (code_type cs w.body i) h.0 in
      let v_some = fitting_some cs (code_type cs w.body value) el.0 el.2 in
      let reads = read_all (WriteElementStmt at e i value) xs c.assigned in
      let p = and_parts (reads_assigned w.body xs e) (reads_assigned w.body xs i && (reads_assigned w.body xs value && true)) reads in
      let q = and_parts (reads_assigned w.body xs i) (reads_assigned w.body xs value && true) p.1 in
      let r = and_parts (reads_assigned w.body xs value) true q.1 in
      let es = e ∷ i ∷ value ∷ [] in
      let a = evaluate_all w es k in
      let types = and_from (is_some (code_type cs w.body e)) (is_some (code_type cs w.body i) && (is_some (code_type cs w.body value) && true)) array.0
      (and_from (is_some (code_type cs w.body i)) (is_some (code_type cs w.body value) && true) i_some (and_from (is_some (code_type cs w.body value)) true v_some refl)) in
      let is_a = evaluated_all w entry xs es k reads types is have in
      let me = meant_at w e k in
      let e_sorted = subst (λ s. C cs [] s me) array.1 (meaning_sorted w entry xs k is have e p.0 array.0) in
      let o = term_for sort.Rest me a in
      let b = with_term sort.Rest me a in
      let is_b = termed w sort.Rest me a e_sorted is_a in
      let mi = meant_at w i k in
      let i_sorted = subst (λ s. C cs [] s mi) (int_sort (code_type cs w.body i) h.0) (meaning_sorted w entry xs k is have i q.0 i_some) in
      let j = term_for sort.Whole mi b in
      let d = with_term sort.Whole mi b in
      let is_d = termed w sort.Whole mi b i_sorted is_b in
      let s = element_sort (element_of (classes_of w) (code_type (classes_of w) w.body e)) in
      let same : s ≡ sort_of_type el.0 = ap (λ o. element_sort o) el.1 in
      let mv = meant_at w value k in
      let v_typed = subst (λ s. C cs [] s mv) (fitting_sort cs (code_type cs w.body value) el.0 el.2) (meaning_sorted w entry xs k is have value r.0 v_some) in
      let v_sorted = subst (λ s. C cs [] s mv) (sym same) v_typed in
      let v = term_for s mv d in
      let f = with_term s mv d in
      let is_f = termed w s mv d v_sorted is_d in
      known_formed w (known_after w.program w.body (WriteElementStmt at e i value) k.known) (write_element w at e o j v f)
      (element_written w at e o j v el.0 f (term_sorted w sort.Rest me a e_sorted) (term_sorted w sort.Whole mi b i_sorted) (subst (λ r. HasSort cs [] r v) same (term_sorted w s mv d v_sorted)) is_f)

  ready_formed : (at : Place) (xs : ℕ → Bool) (k : Position) → IsReadSoundly w xs (ReadyStmt at) → IsFormedAt w k → IsFormedAt w (behind w (ReadyStmt at) k)
  ready_formed at xs k c is = ⊎_elim
      (λ ctor.
      let o = local_term 0 k in
      let this = this_sorted w formed body entry k is (constructor_instance w.body body.flags ctor) in
      let z = made_ready w o k this is in
      record { store = z.store; count = z.count; locals = z.locals; arguments = z.arguments; premises = z.premises; listed = z.listed })
      (λ plain. absurd (false≢true (c.ready plain)))
      (cases_Bool w.body.flags.ctor)

  print_formed : (e : Option ExprTree) (xs : ℕ → Bool) (k : Position) → is_printed cs w.body e ≡ true → list_all (reads_assigned w.body xs) (option_to_list e) ≡ true → IsFormedAt w k → HaveTerms xs k.locals → IsFormedAt w (evaluate_result w e k)
  print_formed None xs k h reads is have = is
  print_formed (Some e) xs k h reads is have = evaluated w entry xs k is have e (and_parts (reads_assigned w.body xs e) true reads).0 (printed_some (code_type cs w.body e) h)

  -- ---- loops

  module _ (at : Place) (asked : List ExprTree) (prelude : CodeTree) (e : ExprTree) (code : CodeTree) (exposes : List ExposedTree) where
    abbrev stmt : StmtTree
    stmt = LoopStmt at asked prelude e code exposes

    abbrev l : Loop
    l = loop_of stmt at asked exposes

    -- what is assigned at the test, and at the end of the body
    abbrev at_test : (ℕ → Bool) → Option (ℕ → Bool)
    at_test xs = at_end assigned_flow prelude (Some xs)

    abbrev Again : Option (ℕ → Bool) → Type 0
    Again o = where_reached ((assigned_check w.body).statement stmt) o ≡ true

    loop_assigned : (xs : ℕ → Bool) → paths.holds_at assigned_flow (assigned_check w.body) stmt xs ≡ true →
        ((assigned_check w.body).statement stmt xs ≡ true) × (holds_along assigned_flow (assigned_check w.body) prelude (Some xs) ≡ true) × (where_reached (λ ys. reads_assigned w.body ys e) (at_test xs) ≡ true)
        × (holds_along assigned_flow (assigned_check w.body) code (in_body assigned_flow e (at_test xs)) ≡ true) × Again (at_end assigned_flow code (in_body assigned_flow e (at_test xs)))
    loop_assigned xs h = five _ _ _ _ _ h

    asked_at : (ys : ℕ → Bool) → is_typed w.program w.body stmt ≡ true → has_exposable cs w.body stmt ≡ true → (assigned_check w.body).statement stmt ys ≡ true → IsAsked w ys l
    asked_at ys typed exposed is =
        let r = and_parts (list_all (reads_assigned w.body ys) asked) (list_all ys (map (λ (x : ExposedTree). x.local) exposes)) is in
        record { typed = (and_parts (list_all (is_condition cs w.body in_assert) asked) (is_condition cs w.body in_code e) typed).0; reads = r.0; exposed = exposed; operands = r.1 }

    module _ (typed : is_typed w.program w.body stmt ≡ true) (exposed : has_exposable cs w.body stmt ≡ true) (code_typed : each (is_typed w.program w.body) code ≡ true) (code_exposed : each (has_exposable cs w.body) code ≡ true)
        (code_ready : w.body.flags.ctor ≡ false → each (λ u. not (is_base_or_ready u)) code ≡ true) (tested : Position) (is : IsFormedAt w tested) where
      abbrev start : Position
      start = into_body w e tested

      abbrev turned : Position
      turned = behind_all w code start

      -- the head is reached again, or not
      again_formed : (o : Option (ℕ → Bool)) → IsPlaced o turned → Again o → IsFormedAt w turned → IsFormedAt w (if_reached turned.guard (check_head w l turned) turned)
      again_formed None p h is_turned = subst (λ (g : Guard). IsFormedAt w (if_reached g (check_head w l turned) turned)) (sym p) is_turned
      again_formed (Some zs) p h is_turned = when_reached turned.guard (check_head w l turned) turned (IsFormedAt w) p.0 (head_checked w body entry zs l (asked_at zs typed exposed h) turned is_turned p.1)

      -- after the loop, where its body goes on so
      rest_formed : (o : Option (ℕ → Bool)) → IsPlaced o tested → where_reached (λ ys. reads_assigned w.body ys e) o ≡ true → holds_along assigned_flow (assigned_check w.body) code (in_body assigned_flow e o) ≡ true →
          Again (at_end assigned_flow code (in_body assigned_flow e o)) → ((ys : ℕ → Bool) → AreReadSoundly w (Some ys) code → IsFormedAt w start → IsPlaced (Some ys) start → IsFormedAt w turned) →
          IsFormedAt w (if_reached tested.guard (after_loop w l e tested turned) tested)
      rest_formed None p read holds again goes = subst (λ (g : Guard). IsFormedAt w (if_reached g (after_loop w l e tested turned) tested)) (sym p) is
      rest_formed (Some ys) p read holds again goes =
          let condition = (and_parts (list_all (is_condition cs w.body in_assert) asked) (is_condition cs w.body in_code e) typed).1 in
          let a = evaluate w e tested in
          let is_a = evaluated w entry ys tested is p.1 e read (bool_some (code_type cs w.body e) condition) in
          let f = said (meant_at w e tested) in
          let is_start = first_formed w f (known_tested e true tested.known) a (test_formed w entry ys tested is p.1 e read condition) is_a in
          let p_start : IsPlaced (Some ys) start = (tt, terms_like ys tested a (same_evaluate w e tested).like p.1) in
          let is_turned = goes ys (record { typed = code_typed; exposed = code_exposed; ready = code_ready; assigned = holds }) is_start p_start in
          let p_turned = placed_all w code (Some ys) start code_typed is_start.count p_start in
          let end = if_reached turned.guard (check_head w l turned) turned in
          when_reached tested.guard (after_loop w l e tested turned) tested (IsFormedAt w) p.0
          (second_formed w (exit_guard e (a.next.truths + 1)) (known_tested e false tested.known) a end is_a (again_formed (at_end assigned_flow code (Some ys)) p_turned again is_turned))

  -- ---- all of them

  mutual
    pub statement_formed : (s : StmtTree) (xs : ℕ → Bool) (k : Position) → IsReadSoundly w xs s → IsFormedAt w k → IsPlaced (Some xs) k → IsFormedAt w (behind w s k)
    statement_formed (AssignStmt at x e) xs k c is p = assign_formed at x e xs k c is p.1
    statement_formed (WriteStmt at e f m t value) xs k c is p = write_formed at e f m t value xs k c is p.1
    statement_formed (WriteElementStmt at e i value) xs k c is p = element_formed at e i value xs k c is p.1
    statement_formed (NewStmt at x t es) xs k c is p =
        known_formed w (known_after w.program w.body (NewStmt at x t es) k.known) (construct w at x t es k) (new_formed w formed body entry xs at x t es k c.typed (read_all (NewStmt at x t es) xs c.assigned) is p.1)
    statement_formed (NewArrayStmt at x t e) xs k c is p =
        known_formed w (known_after w.program w.body (NewArrayStmt at x t e) k.known) (new_array w at x t e k) (array_formed w formed body entry xs at x t e k c.typed (read_one e xs c.assigned) is p.1)
    statement_formed (CallStmt at x callee es) xs k c is p =
        known_formed w (known_after w.program w.body (CallStmt at x callee es) k.known) (call_with w at x callee (receiver callee ++ es) k)
        (call_formed w formed body entry xs at x callee es k c.typed (read_all (CallStmt at x callee es) xs c.assigned) is p.1)
    statement_formed (ReadyStmt at) xs k c is p = ready_formed at xs k c is
    statement_formed (IfStmt at e one other) xs k c is p =
        let s = IfStmt at e one other in
        let t = three (is_typed w.program w.body s) (each (is_typed w.program w.body) one) (each (is_typed w.program w.body) other) c.typed in
        let x = three (has_exposable cs w.body s) (each (has_exposable cs w.body) one) (each (has_exposable cs w.body) other) c.exposed in
        let a = three ((assigned_check w.body).statement s xs) (holds_along assigned_flow (assigned_check w.body) one (Some xs)) (holds_along assigned_flow (assigned_check w.body) other (Some xs)) c.assigned in
        let r = λ (plain : w.body.flags.ctor ≡ false). three (not (is_base_or_ready s)) (each (λ u. not (is_base_or_ready u)) one) (each (λ u. not (is_base_or_ready u)) other) (c.ready plain) in
        let read = read_one e xs a.0 in
        let k' = evaluate w e k in
        let is' = evaluated w entry xs k is p.1 e read (bool_some (code_type cs w.body e) t.0) in
        let have = terms_like xs k k' (same_evaluate w e k).like p.1 in
        let f = said (meant_at w e k) in
        let start = first_side f (known_tested e true k.known) k' in
        let is_start = first_formed w f (known_tested e true k.known) k' (test_formed w entry xs k is p.1 e read t.0) is' in
        let first = behind_all w one start in
        let is_first = code_formed one (Some xs) start (record { typed = t.1; exposed = x.1; ready = λ plain. (r plain).1; assigned = a.1 }) is_start (tt, have) in
        let begun = second_side (When (k'.next.truths + 1)) (known_tested e false k.known) k' first in
        let is_begun = second_formed w (When (k'.next.truths + 1)) (known_tested e false k.known) k' first is' is_first in
        let second = behind_all w other begun in
        let is_second = code_formed other (Some xs) begun (record { typed = t.2; exposed = x.2; ready = λ plain. (r plain).2; assigned = a.2 }) is_begun (tt, have) in
        join_formed w known_met first second is_first is_second
    statement_formed (LoopStmt at asked prelude e code exposes) xs k c is p =
        let s = LoopStmt at asked prelude e code exposes in
        let l = loop_of s at asked exposes in
        let t = three (is_typed w.program w.body s) (each (is_typed w.program w.body) prelude) (each (is_typed w.program w.body) code) c.typed in
        let x = three (has_exposable cs w.body s) (each (has_exposable cs w.body) prelude) (each (has_exposable cs w.body) code) c.exposed in
        let r = λ (plain : w.body.flags.ctor ≡ false). three (not (is_base_or_ready s)) (each (λ u. not (is_base_or_ready u)) prelude) (each (λ u. not (is_base_or_ready u)) code) (c.ready plain) in
        let a = loop_assigned at asked prelude e code exposes xs c.assigned in
        let is_asked = asked_at at asked prelude e code exposes xs t.0 x.0 a.0 in
        let checked = check_head w l k in
        let is_checked = head_checked w body entry xs l is_asked k is p.1 in
        let met = check_all w kind.LoopInvariant l.place (map (holds_at w k) l.invariants) k in
        let same : SamePlace k checked = like_place k met (same_check_all w kind.LoopInvariant l.place (map (holds_at w k) l.invariants) k).like in
        let p_checked = placed_same xs k checked same p in
        let head = at_head w l checked in
        let is_head = head_formed w body entry xs l is_asked checked is_checked p_checked.1 in
        let p_head = placed_head w l xs checked p_checked in
        let tested = behind_all w prelude head in
        let is_tested = code_formed prelude (Some xs) head (record { typed = t.1; exposed = x.1; ready = λ plain. (r plain).1; assigned = a.1 }) is_head p_head in
        let p_tested = placed_all w prelude (Some xs) head t.1 is_head.count p_head in
        rest_formed at asked prelude e code exposes t.0 x.0 t.2 x.2 (λ plain. (r plain).2) tested is_tested (at_end assigned_flow prelude (Some xs)) p_tested a.2 a.3 a.4
        (λ ys coded is_start p_start. code_formed code (Some ys) (into_body w e tested) coded is_start p_start)
    statement_formed (UnpackStmt at x t) xs k c is p =
        let read = (and_parts (xs x) true c.assigned).0 in
        unpacked w at x t k (exposed_sorted w entry xs k is p.1 x t read c.exposed) is
    statement_formed (PackStmt at x t) xs k c is p =
        let read = (and_parts (xs x) true c.assigned).0 in
        let are : AreInvariants cs = record { typed = formed.invariants; admissible = formed.admissible } in
        packed w are at x t k (exposed_sorted w entry xs k is p.1 x t read c.exposed) is
    statement_formed (AssertStmt at e) xs k c is p = checked w kind.Assert at (holds_at w k e) k (condition_formed w entry xs k is p.1 in_assert e (read_one e xs c.assigned) c.typed) is
    statement_formed (AssumeStmt at e) xs k c is p = assumed w (holds_at w k e) k (condition_formed w entry xs k is p.1 in_code e (read_one e xs c.assigned) c.typed) is
    statement_formed (PrintStmt at e newline) xs k c is p = print_formed e xs k c.typed (read_all (PrintStmt at e newline) xs c.assigned) is p.1
    statement_formed (PrintTextStmt at text newline) xs k c is p = is
    statement_formed (ReturnStmt at e) xs k c is p = return_formed w body entry xs at e k c.typed (read_all (ReturnStmt at e) xs c.assigned) is p.1

    pub code_formed : (code : CodeTree) (o : Option (ℕ → Bool)) (k : Position) → AreReadSoundly w o code → IsFormedAt w k → IsPlaced o k → IsFormedAt w (behind_all w code k)
    code_formed NoCode o k c is p = is
    code_formed (Then s code) None k c is p = subst (λ (g : Guard). IsFormedAt w (if_reached g (behind_all w code (behind w s k)) k)) (sym p) is
    code_formed (Then s code) (Some xs) k c is p =
        let t = and_parts (each_inside (is_typed w.program w.body) s) (each (is_typed w.program w.body) code) c.typed in
        let x = and_parts (each_inside (has_exposable cs w.body) s) (each (has_exposable cs w.body) code) c.exposed in
        let r = λ (plain : w.body.flags.ctor ≡ false). and_parts (each_inside (λ u. not (is_base_or_ready u)) s) (each (λ u. not (is_base_or_ready u)) code) (c.ready plain) in
        let a = and_parts (paths.holds_at assigned_flow (assigned_check w.body) s xs) (holds_along assigned_flow (assigned_check w.body) code (paths.behind assigned_flow s xs)) c.assigned in
        let is' = statement_formed s xs k (record { typed = t.0; exposed = x.0; ready = λ plain. (r plain).0; assigned = a.0 }) is p in
        let p' = placed w s xs k t.0 is.count p in
        when_reached k.guard (behind_all w code (behind w s k)) k (IsFormedAt w) p.0
        (code_formed code (paths.behind assigned_flow s xs) (behind w s k) (record { typed = t.1; exposed = x.1; ready = λ plain. (r plain).1; assigned = a.1 }) is' p')
