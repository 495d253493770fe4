-- Each statement leads from the position before it to the one after it.
use Rattle.std.proofs.Common.{◌≡◌, ℕ, pos, ◌+◌, List, [], ◌∷◌, ◌++◌, map, Bool, true, false}
use Rattle.std.specs.Prelude.{Option, Some, None, if◌then◌else◌}
use Rattle.ss_core.specs.declared.names.Kind.TheVariants as kind
use Rattle.ss_core.specs.declared.names.Mark.{Mark}
use Rattle.ss_core.specs.declared.names.Mark.TheVariants as mark
use Rattle.ss_core.specs.declared.names.Place.{Place}
use Rattle.ss_core.specs.declared.names.Ty.{Ty}
use Rattle.ss_core.specs.Tree.{ExprTree, CalleeTree, Dispatched, Static, Base, BaseConstructor, StmtTree, AssignStmt, WriteStmt, WriteElementStmt, NewStmt, NewArrayStmt, CallStmt, ReadyStmt, IfStmt, LoopStmt, UnpackStmt, PackStmt, AssertStmt, AssumeStmt, PrintStmt, PrintTextStmt, ReturnStmt, CodeTree, NoCode, Then, BodyTree}
use Rattle.ss_core.specs.Chain.{above}
use Rattle.ss_store_rules.specs.Locals.{local_types, receiver, assigns}
use Rattle.ss_store_rules.specs.NonNull.{Known, is_never_null, known_tested, known_after, known_met, known_head}
use Rattle.ss_store_rules.specs.Paths.{is_literal_true}
use Rattle.ss_store_rules.specs.Types.{element_of, code_type}
use Rattle.ss_store_rules.specs.Typed.{constructor_of}
use Rattle.ss_logic.specs.declared.Sort.TheVariants as sort
use Rattle.ss_logic.specs.Values.{Structure}
use Rattle.ss_logic.specs.Terms.{Set, Put, Unpack, Pack, New, NewArray, MakeReady, Length, Term, app, field_sort}
use Rattle.ss_logic.specs.Formulas.{neg}
use Rattle.ss_logic.specs.Shapes.{number, null_term, class_term, level_of, next_of, equal, differ, at_most, sub_atom, committed}
use Rattle.ss_logic.specs.Shapes as shape
use Rattle.ss_logic.specs.Express.{Meant, One, Either, Says, said, element_sort}
use Rattle.ss_logic.specs.Frames.{kept, grown}
use Rattle.ss_vcgen_heaps.specs.Positions.{When, Never, Position, Walk, good, assume, assume_all, check, check_all, new_term, with_new, set_local, set_store, with_store, ended, local_term, site, meant_at, evaluate, evaluate_all, holds_at, define, with_term, term_for, settled, first_side, second_side, if_reached}
use Rattle.ss_vcgen_heaps.specs.Contracts.{is_of_type, contract_context, no_result, conditions, frame_terms, called}
use Rattle.ss_vcgen_heaps.specs.Obligations.{classes_of, local_sort, check_not_null, is_known_local, check_local, may_be_owned, may_be_joined, check_owners, owned_store, write, is_index, write_element, unpack, invariants_said, owned_are_full, pack, settle_all, arguments_settled, check_entry, result_term, with_result, assume_result, returned, keep, call, check_receiver, with_this, call_with, with_ready, constructed, construct, new_array, arguments_at, result_settled, settle_result, frame_formula, evaluate_result, return_with, Loop, loop_of, frame_at_head, levels_at_head, check_head, renew_from, renewed, types_from, at_head, exit_guard, into_body, after_loop, with_known, behind, behind_all}
use Rattle.ss_vcgen_safe.specs.At.{IsOff, Leads}
use Rattle.ss_vcgen_safe.proofs.Leads.{leads_self, leads_twice, leads_known, leads_set_store, leads_set_local, leads_ended, leads_new, leads_assume, leads_assume_all, leads_check, leads_check_all, leads_check_unless, leads_evaluate, leads_evaluate_all, leads_with_store, leads_define, leads_with_term, leads_settled, leads_first, leads_second, leads_if_reached, leads_joined}

module _ (w : Walk) where
  -- ---- writes

  pub leads_not_null : (at : Place) (e : ExprTree) (o : Term) (k : Position) → Leads w k (check_not_null w at e o k)
  leads_not_null at e o k = leads_check_unless w (is_never_null (site w) k.known false e) kind.Null at (differ o null_term) k

  pub leads_local : (at : Place) (x : ℕ) (k : Position) → Leads w k (check_local w at x k)
  leads_local at x k = leads_check_unless w (is_known_local w k x) kind.Null at (differ (local_term x k) null_term) k

  pub leads_owners : (m : Mark) (at : Place) (o : Term) (t : ℕ) (v : Term) (k : Position) → Leads w k (check_owners m w at o t v k)
  leads_owners mark.Plain at o t v k = leads_self w k
  leads_owners mark.Rep at o t v k = leads_check w kind.RepOwner at (may_be_owned k.store o t v) k
  leads_owners mark.Peer at o t v k = leads_check w kind.PeerOwner at (may_be_joined k.store o v) k

  pub leads_write : (at : Place) (e : ExprTree) (f : ℕ) (m : Mark) (t : ℕ) (o v : Term) (k : Position) → Leads w k (write w at e f m t o v k)
  leads_write at e f m t o v k =
      let a = check_not_null w at e o k in
      let level = neg (sub_atom (level_of k.store o) (class_term t)) in
      let b = check w kind.WriteLevel at level a in
      let c = check_owners m w at o t v b in
      let s = app (Set f) (owned_store m k.store o t v ∷ o ∷ v ∷ []) in
      leads_twice w k a (with_store s c) (leads_not_null at e o k)
      (leads_twice w a b (with_store s c) (leads_check w kind.WriteLevel at level a) (leads_twice w b c (with_store s c) (leads_owners m at o t v b) (leads_with_store w s c)))

  pub leads_write_element : (at : Place) (e : ExprTree) (a i v : Term) (k : Position) → Leads w k (write_element w at e a i v k)
  leads_write_element at e a i v k =
      let b = check_not_null w at e a k in
      let c = check w kind.Index at (is_index a i) b in
      let d = check w kind.WriteCommitted at (neg (committed k.store a)) c in
      let s = app Put (k.store ∷ a ∷ i ∷ v ∷ []) in
      leads_twice w k b (with_store s d) (leads_not_null at e a k)
      (leads_twice w b c (with_store s d) (leads_check w kind.Index at (is_index a i) b) (leads_twice w c d (with_store s d) (leads_check w kind.WriteCommitted at (neg (committed k.store a)) c) (leads_with_store w s d)))

  -- ---- levels

  pub leads_unpack : (at : Place) (x t : ℕ) (k : Position) → Leads w k (unpack w at x t k)
  leads_unpack at x t k =
      let o = local_term x k in
      let b = check_local w at x k in
      let level = equal (level_of k.store o) (class_term t) in
      let c = check w kind.UnpackLevel at level b in
      let d = check w kind.UnpackCommitted at (neg (committed k.store o)) c in
      let s = app (Unpack t) (k.store ∷ o ∷ []) in
      leads_twice w k b (with_store s d) (leads_local at x k)
      (leads_twice w b c (with_store s d) (leads_check w kind.UnpackLevel at level b) (leads_twice w c d (with_store s d) (leads_check w kind.UnpackCommitted at (neg (committed k.store o)) c) (leads_with_store w s d)))

  pub leads_pack : (at : Place) (x t : ℕ) (k : Position) → Leads w k (pack w at x t k)
  leads_pack at x t k =
      let o = local_term x k in
      let b = check_local w at x k in
      let level = equal (level_of k.store o) (class_term (above (classes_of w) t)) in
      let c = check w kind.PackLevel at level b in
      let invariants = invariants_said (classes_of w) k.store o t in
      let d = check_all w kind.Invariant at invariants c in
      let e = check w kind.PackOwned at (owned_are_full k.store o t) d in
      let s = app (Pack t) (k.store ∷ o ∷ []) in
      leads_twice w k b (with_store s e) (leads_local at x k)
      (leads_twice w b c (with_store s e) (leads_check w kind.PackLevel at level b)
      (leads_twice w c d (with_store s e) (leads_check_all w kind.Invariant at invariants c) (leads_twice w d e (with_store s e) (leads_check w kind.PackOwned at (owned_are_full k.store o t) d) (leads_with_store w s e))))

  -- ---- calls

  pub leads_settle_all : (es : List ExprTree) (k : Position) → Leads w k (settle_all w es k)
  leads_settle_all [] k = leads_self w k
  leads_settle_all (e ∷ es) k =
      let s = element_sort (code_type (classes_of w) w.body e) in
      let k' = settled (meant_at w e k) s k in
      leads_twice w k k' (settle_all w es k') (leads_settled w (meant_at w e k) s k) (leads_settle_all es k')

  pub leads_entry : (at : Place) (callee : BodyTree) (ms : List Meant) (k : Position) → Leads w k (check_entry w at callee ms k)
  leads_entry at callee ms k = leads_check_all w kind.Precondition at (conditions callee.entry (contract_context (classes_of w) callee k.store k.store ms (no_result callee))) k

  pub leads_result : (r : Option Ty) (k : Position) → Leads w k (with_result r k)
  leads_result None k = leads_self w k
  leads_result (Some t) k = leads_new w (element_sort (Some t)) k

  pub leads_assume_result : (r : Option Ty) (ts : List Term) (k : Position) → Leads w k (assume_result r ts k)
  leads_assume_result None ts k = leads_self w k
  leads_assume_result (Some t) [] k = leads_self w k
  leads_assume_result (Some t) (r ∷ rs) k = leads_assume_all w (is_of_type true k.store t r) k

  pub leads_returned : (callee : BodyTree) (ms : List Meant) (k : Position) → Leads w k (returned w callee ms k)
  leads_returned callee ms k =
      let s = k.store in
      let z = new_term sort.Store k in
      let a = with_new sort.Store k in
      let result = result_term callee.result a in
      let b = with_result callee.result a in
      let c = set_store z b in
      let frame = kept (classes_of w) (frame_terms (classes_of w) callee s z ms []) ∷ grown s z ∷ [] in
      let d = assume_all frame c in
      let e = assume (good z) d in
      let exit = conditions callee.exit (contract_context (classes_of w) callee z s ms (map One result)) in
      let f = assume_all exit e in
      let h = assume_result callee.result result f in
      leads_twice w k a h (leads_new w sort.Store k)
      (leads_twice w a b h (leads_result callee.result a)
      (leads_twice w b c h (leads_set_store w z b)
      (leads_twice w c d h (leads_assume_all w frame c)
      (leads_twice w d e h (leads_assume w (good z) d) (leads_twice w e f h (leads_assume_all w exit e) (leads_assume_result callee.result result f))))))

  pub leads_keep : (x : Option ℕ) (ts : List Term) (k : Position) → Leads w k (keep x ts k)
  leads_keep None ts k = leads_self w k
  leads_keep (Some x) [] k = leads_self w k
  leads_keep (Some x) (t ∷ ts) k = leads_set_local w x t k

  pub leads_call : (at : Place) (x : Option ℕ) (callee : Option BodyTree) (ms : List Meant) (k : Position) → Leads w k (call w at x callee ms k)
  leads_call at x None ms k = leads_self w k
  leads_call at x (Some callee) ms k =
      let entered = check_entry w at callee ms k in
      let back = returned w callee ms entered in
      let result = result_term callee.result (with_new sort.Store entered) in
      leads_twice w k entered (keep x result back) (leads_entry at callee ms k) (leads_twice w entered back (keep x result back) (leads_returned callee ms entered) (leads_keep x result back))

  pub leads_receiver : (at : Place) (callee : CalleeTree) (ms : List Meant) (k : Position) → Leads w k (check_receiver w at callee ms k)
  leads_receiver at (Dispatched e t m) [] k = leads_self w k
  leads_receiver at (Dispatched e t m) (One o ∷ ms) k = leads_not_null at e o k
  leads_receiver at (Dispatched e t m) (Either xs ∷ ms) k = leads_self w k
  leads_receiver at (Dispatched e t m) (Says f ∷ ms) k = leads_self w k
  leads_receiver at (Static n) ms k = leads_self w k
  leads_receiver at (Base n) ms k = leads_self w k
  leads_receiver at (BaseConstructor n) ms k = leads_self w k

  pub leads_call_with : (at : Place) (x : Option ℕ) (callee : CalleeTree) (es : List ExprTree) (k : Position) → Leads w k (call_with w at x callee es k)
  leads_call_with at x callee es k =
      let evaluated = evaluate_all w es k in
      let ms = arguments_settled w es evaluated in
      let there = settle_all w es evaluated in
      let b = called w.program w.body callee in
      let arguments = with_this w callee ms there in
      let checked = check_receiver w at callee ms there in
      let end = call w at x b arguments checked in
      leads_twice w k evaluated end (leads_evaluate_all w es k)
      (leads_twice w evaluated there end (leads_settle_all es evaluated) (leads_twice w there checked end (leads_receiver at callee ms there) (leads_call at x b arguments checked)))

  -- ---- new objects

  pub leads_ready : (delayed : Bool) (o : Term) (k : Position) → Leads w k (with_ready delayed o k)
  leads_ready false o k = leads_self w k
  leads_ready true o k = leads_with_store w (app MakeReady (k.store ∷ o ∷ [])) k

  pub leads_constructed : (at : Place) (o : Term) (callee : Option BodyTree) (ms : List Meant) (k : Position) → Leads w k (constructed w at o callee ms k)
  leads_constructed at o None ms k = leads_self w k
  leads_constructed at o (Some callee) ms k =
      let entered = check_entry w at callee (One o ∷ ms) k in
      let back = returned w callee (One o ∷ ms) entered in
      let end = with_ready callee.flags.delayed o back in
      leads_twice w k entered end (leads_entry at callee (One o ∷ ms) k) (leads_twice w entered back end (leads_returned callee (One o ∷ ms) entered) (leads_ready callee.flags.delayed o back))

  pub leads_construct : (at : Place) (x : Option ℕ) (t : ℕ) (es : List ExprTree) (k : Position) → Leads w k (construct w at x t es k)
  leads_construct at x t es k =
      let evaluated = evaluate_all w es k in
      let ms = arguments_settled w es evaluated in
      let there = settle_all w es evaluated in
      let o = next_of there.store in
      let typed = equal (shape.type_of o) (class_term t) in
      let a = assume typed there in
      let s = app (New t) (there.store ∷ []) in
      let b = with_store s a in
      let c = constructed w at o (constructor_of w.program t) ms b in
      let end = keep x (o ∷ []) c in
      leads_twice w k evaluated end (leads_evaluate_all w es k)
      (leads_twice w evaluated there end (leads_settle_all es evaluated)
      (leads_twice w there a end (leads_assume w typed there)
      (leads_twice w a b end (leads_with_store w s a) (leads_twice w b c end (leads_constructed at o (constructor_of w.program t) ms b) (leads_keep x (o ∷ []) c)))))

  pub leads_new_array : (at : Place) (x : Option ℕ) (t : ℕ) (e : ExprTree) (k : Position) → Leads w k (new_array w at x t e k)
  leads_new_array at x t e k =
      let evaluated = evaluate w e k in
      let m = meant_at w e evaluated in
      let n = term_for sort.Whole m evaluated in
      let a = with_term sort.Whole m evaluated in
      let checked = check w kind.NegativeLength at (at_most (number (pos 0)) n) a in
      let o = next_of checked.store in
      let fs = equal (shape.type_of o) (class_term t) ∷ equal (app Length (o ∷ [])) n ∷ [] in
      let b = assume_all fs checked in
      let s = app (NewArray t) (checked.store ∷ n ∷ []) in
      let c = with_store s b in
      let end = keep x (o ∷ []) c in
      leads_twice w k evaluated end (leads_evaluate w e k)
      (leads_twice w evaluated a end (leads_with_term w sort.Whole m evaluated)
      (leads_twice w a checked end (leads_check w kind.NegativeLength at (at_most (number (pos 0)) n) a)
      (leads_twice w checked b end (leads_assume_all w fs checked) (leads_twice w b c end (leads_with_store w s b) (leads_keep x (o ∷ []) c)))))

  -- ---- returns

  pub leads_evaluate_result : (e : Option ExprTree) (k : Position) → Leads w k (evaluate_result w e k)
  leads_evaluate_result None k = leads_self w k
  leads_evaluate_result (Some e) k = leads_evaluate w e k

  pub leads_settle_result : (e : Option ExprTree) (k : Position) → Leads w k (settle_result w e k)
  leads_settle_result None k = leads_self w k
  leads_settle_result (Some e) k = leads_settled w (meant_at w e k) (element_sort w.body.result) k

  pub leads_return : (at : Place) (e : Option ExprTree) (k : Position) → Leads w k (return_with w at e k)
  leads_return at e k =
      let a = evaluate_result w e k in
      let b = settle_result w e a in
      let fs = conditions w.body.exit (contract_context (classes_of w) w.body b.store w.entry (arguments_at w b) (result_settled w e a)) in
      let c = check_all w kind.Postcondition at fs b in
      let d = check w kind.Frame at (frame_formula w [] c) c in
      leads_twice w k a (ended d) (leads_evaluate_result e k)
      (leads_twice w a b (ended d) (leads_settle_result e a)
      (leads_twice w b c (ended d) (leads_check_all w kind.Postcondition at fs b) (leads_twice w c d (ended d) (leads_check w kind.Frame at (frame_formula w [] c) c) (leads_ended w d))))

  -- ---- loops

  pub leads_check_head : (l : Loop) (k : Position) → Leads w k (check_head w l k)
  leads_check_head l k =
      let fs = map (holds_at w k) l.invariants in
      let a = check_all w kind.LoopInvariant l.place fs k in
      let b = check w kind.LoopFrame l.place (frame_at_head w l k) a in
      leads_twice w k a (check_head w l k) (leads_check_all w kind.LoopInvariant l.place fs k)
      (leads_twice w a b (check_head w l k) (leads_check w kind.LoopFrame l.place (frame_at_head w l k) a) (leads_check w kind.LoopLevel l.place (levels_at_head w l k) b))

  pub leads_renew_one : (x : ℕ) (t : Ty) (k : Position) (b : Bool) → Leads w k (if b then set_local x (new_term (element_sort (Some t)) k) (with_new (element_sort (Some t)) k) else k)
  leads_renew_one x t k true =
      let n = with_new (element_sort (Some t)) k in
      leads_twice w k n (set_local x (new_term (element_sort (Some t)) k) n) (leads_new w (element_sort (Some t)) k) (leads_set_local w x (new_term (element_sort (Some t)) k) n)
  leads_renew_one x t k false = leads_self w k

  pub leads_renew : (s : StmtTree) (x : ℕ) (ts : List Ty) (k : Position) → Leads w k (renew_from s x ts k)
  leads_renew s x [] k = leads_self w k
  leads_renew s x (t ∷ ts) k =
      let next = if assigns s x then set_local x (new_term (element_sort (Some t)) k) (with_new (element_sort (Some t)) k) else k in
      leads_twice w k next (renew_from s (x + 1) ts next) (leads_renew_one x t k (assigns s x)) (leads_renew s (x + 1) ts next)

  pub leads_renewed : (s : StmtTree) (k : Position) → Leads w k (renewed w s k)
  leads_renewed s k =
      let a = renew_from s 0 (local_types w.body) k in
      let b = with_new sort.Store a in
      leads_twice w k a (renewed w s k) (leads_renew s 0 (local_types w.body) k) (leads_twice w a b (renewed w s k) (leads_new w sort.Store a) (leads_set_store w (new_term sort.Store a) b))

  pub leads_at_head : (l : Loop) (k : Position) → Leads w k (at_head w l k)
  leads_at_head l k =
      let a = renewed w l.statement k in
      let h = record a { known = known_head l.statement k.known } in
      let fs = map (holds_at w h) l.invariants ++ frame_at_head w l h ∷ levels_at_head w l h ∷ grown w.entry h.store ∷ good h.store ∷ types_from w h.store 0 (local_types w.body) k.locals h.locals in
      leads_twice w k a (at_head w l k) (leads_renewed l.statement k) (leads_twice w a h (at_head w l k) (leads_known w a (known_head l.statement k.known)) (leads_assume_all w fs h))

  exit_off : (e : ExprTree) (n : ℕ) (m : Structure) → m.truths n ≡ false → IsOff (exit_guard e n) m
  exit_off e n m h = one_of (is_literal_true e)
    where
      one_of : (b : Bool) → IsOff (if b then Never else When n) m
      one_of true = tt
      one_of false = h

  -- over the body of a loop, from its test
  pub leads_loop : (l : Loop) (e : ExprTree) (k turned : Position) → Leads w (into_body w e k) turned → Leads w k (after_loop w l e k turned)
  leads_loop l e k turned x =
      let evaluated = evaluate w e k in
      let n = evaluated.next.truths + 1 in
      let end = if_reached turned.guard (check_head w l turned) turned in
      let f = said (meant_at w e k) in
      let tested = known_tested e true k.known in
      let start = first_side f tested evaluated in
      leads_twice w k evaluated (after_loop w l e k turned) (leads_evaluate w e k)
      (leads_second w f tested (known_tested e false k.known) (exit_guard e n) evaluated end (λ m h. exit_off e n m h)
      (leads_twice w start turned end x (leads_if_reached w turned.guard turned (check_head w l turned) turned (leads_check_head l turned) (leads_self w turned))))

  -- ---- all statements

  leads_with_known : (s : StmtTree) (known : Known) (k k' : Position) → Leads w k k' → Leads w k (with_known w s known k')
  leads_with_known s known k k' x = leads_twice w k k' (with_known w s known k') x (leads_known w k' (known_after w.program w.body s known))

  mutual
    pub leads : (s : StmtTree) (k : Position) → Leads w k (behind w s k)
    leads (AssignStmt at x e) k =
        let a = evaluate w e k in
        let s = local_sort w x in
        let b = define s (meant_at w e k) a in
        let c = set_local x (new_term s a) b in
        leads_with_known (AssignStmt at x e) k.known k c (leads_twice w k a c (leads_evaluate w e k) (leads_twice w a b c (leads_define w s (meant_at w e k) a) (leads_set_local w x (new_term s a) b)))
    leads (WriteStmt at e f m t value) k =
        let a = evaluate_all w (e ∷ value ∷ []) k in
        let o = term_for sort.Rest (meant_at w e k) a in
        let b = with_term sort.Rest (meant_at w e k) a in
        let s = field_sort (classes_of w) f in
        let v = term_for s (meant_at w value k) b in
        let c = with_term s (meant_at w value k) b in
        let d = write w at e f m t o v c in
        leads_with_known (WriteStmt at e f m t value) k.known k d
        (leads_twice w k a d (leads_evaluate_all w (e ∷ value ∷ []) k)
        (leads_twice w a b d (leads_with_term w sort.Rest (meant_at w e k) a) (leads_twice w b c d (leads_with_term w s (meant_at w value k) b) (leads_write at e f m t o v c))))
    leads (WriteElementStmt at e i value) k =
        let a = evaluate_all w (e ∷ i ∷ value ∷ []) k in
        let o = term_for sort.Rest (meant_at w e k) a in
        let b = with_term sort.Rest (meant_at w e k) a in
        let j = term_for sort.Whole (meant_at w i k) b in
        let c = with_term sort.Whole (meant_at w i k) b in
        let s = element_sort (element_of (classes_of w) (code_type (classes_of w) w.body e)) in
        let v = term_for s (meant_at w value k) c in
        let d = with_term s (meant_at w value k) c in
        let z = write_element w at e o j v d in
        leads_with_known (WriteElementStmt at e i value) k.known k z
        (leads_twice w k a z (leads_evaluate_all w (e ∷ i ∷ value ∷ []) k)
        (leads_twice w a b z (leads_with_term w sort.Rest (meant_at w e k) a)
        (leads_twice w b c z (leads_with_term w sort.Whole (meant_at w i k) b) (leads_twice w c d z (leads_with_term w s (meant_at w value k) c) (leads_write_element at e o j v d)))))
    leads (NewStmt at x t es) k = leads_with_known (NewStmt at x t es) k.known k (construct w at x t es k) (leads_construct at x t es k)
    leads (NewArrayStmt at x t e) k = leads_with_known (NewArrayStmt at x t e) k.known k (new_array w at x t e k) (leads_new_array at x t e k)
    leads (CallStmt at x callee es) k = leads_with_known (CallStmt at x callee es) k.known k (call_with w at x callee (receiver callee ++ es) k) (leads_call_with at x callee (receiver callee ++ es) k)
    leads (ReadyStmt at) k = leads_with_known (ReadyStmt at) k.known k (with_store (app MakeReady (k.store ∷ local_term 0 k ∷ [])) k) (leads_with_store w (app MakeReady (k.store ∷ local_term 0 k ∷ [])) k)
    leads (IfStmt at e one other) k =
        let evaluated = evaluate w e k in
        let f = said (meant_at w e k) in
        let tested = known_tested e true k.known in
        let untested = known_tested e false k.known in
        let start = first_side f tested evaluated in
        let first = behind_all w one start in
        let g = When (evaluated.next.truths + 1) in
        let begun = second_side g untested evaluated first in
        let second = behind_all w other begun in
        let a = leads_evaluate w e k in
        let x = leads_all one start in
        let y = leads_all other begun in
        leads_joined w known_met first second k
        (leads_twice w k evaluated first a (leads_twice w evaluated start first (leads_first w f tested evaluated) x))
        (leads_twice w k evaluated second a (leads_twice w evaluated begun second (leads_second w f tested untested g evaluated first (λ m h. h) x) y))
        y.rises
    leads (LoopStmt at asked prelude e body exposes) k =
        let l = loop_of (LoopStmt at asked prelude e body exposes) at asked exposes in
        let checked = check_head w l k in
        let head = at_head w l checked in
        let tested = behind_all w prelude head in
        let start = into_body w e tested in
        let turned = behind_all w body start in
        let end = after_loop w l e tested turned in
        leads_twice w k checked (if_reached tested.guard end tested) (leads_check_head l k)
        (leads_twice w checked head (if_reached tested.guard end tested) (leads_at_head l checked)
        (leads_twice w head tested (if_reached tested.guard end tested) (leads_all prelude head) (leads_if_reached w tested.guard tested end tested (leads_loop l e tested turned (leads_all body start)) (leads_self w tested))))
    leads (UnpackStmt at x t) k = leads_unpack at x t k
    leads (PackStmt at x t) k = leads_pack at x t k
    leads (AssertStmt at e) k = leads_check w kind.Assert at (holds_at w k e) k
    leads (AssumeStmt at e) k = leads_assume w (holds_at w k e) k
    leads (PrintStmt at e newline) k = leads_evaluate_result e k
    leads (PrintTextStmt at text newline) k = leads_self w k
    leads (ReturnStmt at e) k = leads_return at e k

    pub leads_all : (code : CodeTree) (k : Position) → Leads w k (behind_all w code k)
    leads_all NoCode k = leads_self w k
    leads_all (Then s code) k = leads_if_reached w k.guard k (behind_all w code (behind w s k)) k (leads_twice w k (behind w s k) (behind_all w code (behind w s k)) (leads s k) (leads_all code (behind w s k))) (leads_self w k)
