-- Calls and new objects: what is checked at entry, and what is assumed after.
use Rattle.std.proofs.Common.{◌≡◌, ℕ, pos, List, [], ◌∷◌, ◌++◌, map, Bool, true, false, not, ◌&&◌, ◌==◌, refl, sym, ap, subst}
use Rattle.std.specs.Prelude.{Option, Some, None, is_some, option_map, option_to_list, slice_get}
use Rattle.std.specs.List.{list_all}
use Rattle.std.proofs.lemmas.Bool.{false≢true, and_parts, and_from, lt-ltb}
use Rattle.ss_core.specs.declared.names.Kind.TheVariants as kind
use Rattle.ss_core.specs.declared.names.Place.{Place}
use Rattle.ss_core.specs.declared.names.Ty.{Ty}
use Rattle.ss_core.specs.declared.names.Ty.TheVariants as ty
use Rattle.ss_core.specs.Tree.{ClassTree, ExprTree, CalleeTree, Dispatched, Static, Base, BaseConstructor, NewStmt, NewArrayStmt, CallStmt, BodyTree}
use Rattle.ss_core.specs.Chain.{above, is_declared}
use Rattle.ss_store_rules.specs.Assigned.{reads_assigned}
use Rattle.ss_store_rules.specs.Changes.{is_array}
use Rattle.ss_store_rules.specs.Formed.{IsFormedBody, IsFormed}
use Rattle.ss_store_rules.specs.Locals.{types_of, argument_types, argument_count, local_types, is_argument, receiver}
use Rattle.ss_store_rules.specs.Typed.{body_at, method_at, is_constructor_of, constructor_of, is_instance_method, stands_in_table, callee_of, is_receiver, has_type_in, fits_declared, fits_local, have_types_in, fits_kept, is_call_of, is_typed}
use Rattle.ss_store_rules.specs.Types.{class_type, is_int, code_type}
use Rattle.ss_machine_good.proofs.Frames.{some_argument}
use Rattle.ss_machine_good.proofs.Bases.{where_some}
use Rattle.ss_machine_good.proofs.Behind.{constructor_instance}
use Rattle.ss_machine_good.proofs.CallsOfRuns.{method_number}
use Rattle.ss_machine_good.proofs.Constructions.{found_passes}
use Rattle.ss_logic.specs.declared.Sort.TheVariants as sort
use Rattle.ss_logic.specs.Terms.{New, NewArray, Length, Next, Term, app, sort_of_type}
use Rattle.ss_logic.specs.Shapes.{number, null_term, class_term, next_of, equal, differ, at_most}
use Rattle.ss_logic.specs.Shapes as shape
use Rattle.ss_logic.specs.Express.{and_of, Meant, One, Either, Says, element_sort}
use Rattle.ss_logic.specs.Frames.{kept, grown}
use Rattle.ss_logic_means.specs.Sorts.{HasSort, AreWellFormed}
use Rattle.ss_logic_means.proofs.Sorting.{sorted_one, sorted_two, equal_formed, all_formed}
use Rattle.ss_logic_means.proofs.Forming.{F, C, or_two}
use Rattle.ss_logic_means.proofs.Operating.{int_sort, at_most_formed, fits_formed}
use Rattle.ss_logic_means.proofs.Contexts.{class_sorted, type_sorted, sub_formed, allocated_formed}
use Rattle.ss_vcgen_heaps.specs.Positions.{Position, Walk, good, assume, assume_all, check, new_term, with_new, set_store, with_store, local_term, meant_at, evaluate, evaluate_all, with_term, term_for, settled}
use Rattle.ss_vcgen_heaps.specs.Contracts.{is_object, is_of_type, contract_context, no_result, conditions, frame_terms, seen, called}
use Rattle.ss_vcgen_heaps.specs.Obligations.{classes_of, settle_all, arguments_settled, check_entry, result_term, with_result, assume_result, returned, keep, call, check_receiver, with_this, call_with, with_ready, constructed, construct, new_array}
use Rattle.ss_vcgen_safe.specs.At.{HaveTerms}
use Rattle.ss_vcgen_safe.proofs.Same.{same_evaluate, same_evaluate_all, like_with_term}
use Rattle.ss_vcgen_safe.proofs.Settles.{fitting_sort}
use Rattle.ss_vcgen_safe.specs.Stated.{IsStatedBody}
use Rattle.ss_vcgen_safe.proofs.Stated.{formed_stated, seen_stated}
use Rattle.ss_vcgen_safe.proofs.Calls.{call_fits, callee_there}
use Rattle.ss_vcgen_safe.specs.Places.{AreTerms, IsFormedAt}
use Rattle.ss_vcgen_safe.proofs.Kept.{ready_formed, grown_formed}
use Rattle.ss_vcgen_safe.proofs.Contracts.{this_type, no_result_terms, conditions_formed, frame_formed}
use Rattle.ss_vcgen_safe.proofs.FormedSteps.{assumed, assumed_all, checked, checked_all, renewed_one, good_formed, store_set, store_changed, local_set, new_sorted, termed, term_sorted}
use Rattle.ss_vcgen_safe.proofs.FormedValues.{fitting_some, class_some, int_some, terms_like, operand_sorted, meaning_sorted, evaluated, evaluated_all}
use Rattle.ss_vcgen_safe.proofs.FormedChanges.{not_null_formed, not_null_checked, made_ready}

-- ---- values of a type

module _ (cs : List ClassTree) (s x : Term) (store : HasSort cs [] sort.Store s) where
  object_formed : (asks : Bool) (t : ℕ) → HasSort cs [] sort.Rest x → AreWellFormed cs [] (is_object asks s t x)
  object_formed true t h = (
    sub_formed cs [] (shape.type_of x) (class_term t) (type_sorted cs [] x h) (class_sorted cs [] t),
    (allocated_formed cs [] s store x h, (ready_formed cs [] s x store h, tt)),
  )
  object_formed false t h = (sub_formed cs [] (shape.type_of x) (class_term t) (type_sorted cs [] x h) (class_sorted cs [] t), (allocated_formed cs [] s store x h, tt))

  pub type_formed : (asks : Bool) (t : Ty) → HasSort cs [] (sort_of_type t) x → AreWellFormed cs [] (is_of_type asks s t x)
  type_formed asks ty.Int h = (fits_formed cs [] x h, tt)
  type_formed asks ty.Bool h = tt
  type_formed asks ty.Null h = (equal_formed cs [] true sort.Rest x null_term h (refl, refl), tt)
  type_formed asks (ty.Ref t true) h = (all_formed cs [] (differ x null_term ∷ is_object asks s t.0 x) (not_null_formed cs x h, object_formed asks t.0 h), tt)
  type_formed asks (ty.Ref t false) h = (
    or_two cs [] (equal x null_term) (and_of (is_object asks s t.0 x)) (equal_formed cs [] true sort.Rest x null_term h (refl, refl)) (all_formed cs [] (is_object asks s t.0 x) (object_formed asks t.0 h)),
    tt,
  )

next_sorted : (cs : List ClassTree) (s : Term) → HasSort cs [] sort.Store s → HasSort cs [] sort.Rest (next_of s)
next_sorted cs s h = sorted_one cs [] Next sort.Store s refl h

class_formed : (cs : List ClassTree) (o : Term) (t : ℕ) → HasSort cs [] sort.Rest o → F cs [] (equal (shape.type_of o) (class_term t))
class_formed cs o t h = equal_formed cs [] true sort.Rest (shape.type_of o) (class_term t) (type_sorted cs [] o h) (class_sorted cs [] t)

-- ---- arguments that fit

-- each expression has a type, of the sort of this one
abbrev AreFitting : List ClassTree → BodyTree → List ExprTree → List Ty → Type 0
AreFitting cs b [] [] = Unit {0}
AreFitting cs b (e ∷ es) (t ∷ ts) = (is_some (code_type cs b e) ≡ true) × (element_sort (code_type cs b e) ≡ sort_of_type t) × AreFitting cs b es ts
AreFitting cs b es ts = ⊥

module _ (cs : List ClassTree) (b : BodyTree) where
  fitting : (es : List ExprTree) (ts : List Ty) → have_types_in cs b es ts ≡ true → AreFitting cs b es ts
  fitting [] [] h = tt
  fitting [] (t ∷ ts) h = absurd (false≢true h)
  fitting (e ∷ es) [] h = absurd (false≢true h)
  fitting (e ∷ es) (t ∷ ts) h =
      let p = and_parts (has_type_in cs b e t) (have_types_in cs b es ts) h in
      (fitting_some cs (code_type cs b e) t p.0, fitting_sort cs (code_type cs b e) t p.0, fitting es ts p.1)

  fitting_typed : (es : List ExprTree) (ts : List Ty) → AreFitting cs b es ts → list_all (λ e. is_some (code_type cs b e)) es ≡ true
  fitting_typed [] [] h = refl
  fitting_typed [] (t ∷ ts) h = absurd h
  fitting_typed (e ∷ es) [] h = absurd h
  fitting_typed (e ∷ es) (t ∷ ts) h = and_from (is_some (code_type cs b e)) (list_all (λ x. is_some (code_type cs b x)) es) h.0 (fitting_typed es ts h.2)

-- what a local keeps has the sort of its type
kept_sort : (cs : List ClassTree) (b : BodyTree) (r : Option Ty) (x : ℕ) (a : Ty) → fits_local cs b r x ≡ true → slice_get (local_types b) x ≡ Some a → element_sort r ≡ sort_of_type a
kept_sort cs b r x a h is = fitting_sort cs r a (subst (λ o. fits_declared cs r o ≡ true) is h)

-- ---- bodies that are called

static_arguments : (b : BodyTree) → b.flags.is_static ≡ true → argument_types b ≡ types_of b.params
static_arguments b h = rw h refl

instance_arguments : (b : BodyTree) → b.flags.is_static ≡ false → argument_types b ≡ ty.Ref (record { 0 = b.class }) true ∷ types_of b.params
instance_arguments b h = rw h refl

off : (b : Bool) → not b ≡ true → b ≡ false
off true h = absurd (false≢true h)
off false h = refl

-- ---- at a position

module _ (w : Walk) (formed : IsFormed w.program) (body : IsFormedBody w.program w.body) (entry : HasSort w.program.classes [] sort.Store w.entry) where
  abbrev cs : List ClassTree
  cs = w.program.classes

  -- ---- after a call

  result_terms : (r : Option Ty) (k : Position) → AreTerms cs (option_to_list r) (map One (result_term r k))
  result_terms None k = tt
  result_terms (Some t) k = (record { term = new_term (element_sort (Some t)) k; is = refl; sorted = new_sorted w (element_sort (Some t)) k }, tt)

  result_renewed : (r : Option Ty) (k : Position) → IsFormedAt w k → IsFormedAt w (with_result r k)
  result_renewed None k is = is
  result_renewed (Some t) k is = renewed_one w (element_sort (Some t)) k is

  result_assumed : (r : Option Ty) (from k : Position) → IsFormedAt w k → IsFormedAt w (assume_result r (result_term r from) k)
  result_assumed None from k is = is
  result_assumed (Some t) from k is =
      assumed_all w (is_of_type true k.store t (new_term (element_sort (Some t)) from)) k (type_formed cs k.store (new_term (element_sort (Some t)) from) is.store true t (new_sorted w (element_sort (Some t)) from)) is

  module _ (callee : BodyTree) (stated : IsStatedBody cs callee) (ms : List Meant) (are : AreTerms cs (argument_types callee) ms) where
    entered : (at : Place) (k : Position) → IsFormedAt w k → IsFormedAt w (check_entry w at callee ms k)
    entered at k is =
        checked_all w kind.Precondition at (conditions callee.entry (contract_context (classes_of w) callee k.store k.store ms (no_result callee))) k
        (conditions_formed cs callee k.store k.store is.store is.store ms (no_result callee) are (no_result_terms cs callee) callee.entry stated.entry) is

    back : (k : Position) → IsFormedAt w k → IsFormedAt w (returned w callee ms k)
    back k is =
        let s = k.store in
        let z = new_term sort.Store k in
        let is_z = new_sorted w sort.Store k in
        let a = with_new sort.Store k in
        let result = result_term callee.result a in
        let b = with_result callee.result a in
        let is_b = result_renewed callee.result a (renewed_one w sort.Store k is) in
        let c = set_store z b in
        let frame = kept (classes_of w) (frame_terms (classes_of w) callee s z ms []) ∷ grown s z ∷ [] in
        let d = assume_all frame c in
        let is_d = assumed_all w frame c (frame_formed cs callee stated.typed s z is.store is_z ms are [] refl, (grown_formed cs s z is.store is_z, tt)) (store_set w z b is_z is_b) in
        let e = assume (good z) d in
        let is_e = assumed w (good z) d (good_formed w z is_z) is_d in
        let exit = conditions callee.exit (contract_context (classes_of w) callee z s ms (map One result)) in
        let f = assume_all exit e in
        let is_f = assumed_all w exit e (conditions_formed cs callee z s is_z is.store ms (map One result) are (result_terms callee.result a) callee.exit stated.exit) is_e in
        result_assumed callee.result a f is_f

  kept_formed : (x : Option ℕ) (r : Option Ty) (from k : Position) → fits_kept cs w.body x r ≡ true → IsFormedAt w k → IsFormedAt w (keep x (result_term r from) k)
  kept_formed None r from k fits is = is
  kept_formed (Some x) None from k fits is = is
  kept_formed (Some x) (Some t) from k fits is =
      let s = element_sort (Some t) in
      local_set w x (new_term s from) k (λ a typed. subst (λ r. HasSort cs [] r (new_term s from)) (kept_sort cs w.body (Some t) x a fits typed) (new_sorted w s from)) is

  object_kept : (x : Option ℕ) (t : ℕ) (o : Term) (k : Position) → fits_kept cs w.body x (Some (class_type t)) ≡ true → HasSort cs [] sort.Rest o → IsFormedAt w k → IsFormedAt w (keep x (o ∷ []) k)
  object_kept None t o k fits h is = is
  object_kept (Some x) t o k fits h is = local_set w x o k (λ a typed. subst (λ r. HasSort cs [] r o) (kept_sort cs w.body (Some (class_type t)) x a fits typed) h) is

  -- ---- calls

  -- a body that is called here has a stated contract, arguments of its types, and a result that fits
  abbrev FitsCall : Option ℕ → Option BodyTree → List Meant → Type 0
  FitsCall x None ms = Unit {0}
  FitsCall x (Some b) ms = IsStatedBody cs b × AreTerms cs (argument_types b) ms × (fits_kept cs w.body x b.result ≡ true)

  fits_found : (x : Option ℕ) (o : Option BodyTree) (b : BodyTree) (ms : List Meant) → o ≡ Some b → IsStatedBody cs b → AreTerms cs (argument_types b) ms → fits_kept cs w.body x b.result ≡ true → FitsCall x o ms
  fits_found x o b ms is stated are fits = subst (λ (z : Option BodyTree). FitsCall x z ms) (sym is) (stated, are, fits)

  called_formed : (at : Place) (x : Option ℕ) (o : Option BodyTree) (ms : List Meant) (k : Position) → FitsCall x o ms → IsFormedAt w k → IsFormedAt w (call w at x o ms k)
  called_formed at x None ms k fits is = is
  called_formed at x (Some b) ms k fits is =
      let there = check_entry w at b ms k in
      kept_formed x b.result (with_new sort.Store there) (returned w b ms there) fits.2 (back b fits.0 ms fits.1 there (entered b fits.0 ms fits.1 at k is))

  receiver_checked : (at : Place) (e : ExprTree) (t m : ℕ) (a : Ty) (ts : List Ty) (ms : List Meant) (k : Position) → sort_of_type a ≡ sort.Rest → AreTerms cs (a ∷ ts) ms → IsFormedAt w k → IsFormedAt w (check_receiver w at (Dispatched e t m) ms k)
  receiver_checked at e t m a ts [] k s are is = is
  receiver_checked at e t m a ts (One o ∷ ms) k s are is =
      let i = are.0.is in
      let same : are.0.term ≡ o = cc in
      not_null_checked w at e o k (subst (λ r. HasSort cs [] r o) s (subst (λ u. HasSort cs [] (sort_of_type a) u) same are.0.sorted)) is
  receiver_checked at e t m a ts (Either xs ∷ ms) k s are is = is
  receiver_checked at e t m a ts (Says f ∷ ms) k s are is = is

  -- the term of `this`
  pub this_sorted : (k : Position) → IsFormedAt w k → w.body.flags.is_static ≡ false → HasSort cs [] sort.Rest (local_term 0 k)
  this_sorted k is instance_ =
      operand_sorted w entry (is_argument w.body) k is is.arguments 0 (ty.Ref (record { 0 = w.body.class }) true) (lt-ltb 0 (argument_count w.body) (some_argument w.body instance_)) (this_type w.body instance_)

  -- with `this` in front, the arguments of a method or a constructor of the class above
  with_first : (b : BodyTree) → b.flags.is_static ≡ false → (ms : List Meant) (k : Position) → AreTerms cs (types_of b.params) ms → IsFormedAt w k → w.body.flags.is_static ≡ false → AreTerms cs (argument_types b) (One (local_term 0 k) ∷ ms)
  with_first b instance_ ms k are is here =
      subst (λ ts. AreTerms cs ts (One (local_term 0 k) ∷ ms)) (sym (instance_arguments b instance_)) (record { term = local_term 0 k; is = refl; sorted = this_sorted k is here }, are)

  module _ (xs : ℕ → Bool) where
    settled_all : (es : List ExprTree) (ts : List Ty) (k : Position) → AreFitting cs w.body es ts → list_all (reads_assigned w.body xs) es ≡ true → IsFormedAt w k → HaveTerms xs k.locals → IsFormedAt w (settle_all w es k) × AreTerms cs ts (arguments_settled w es k)
    settled_all [] [] k fit reads is have = (is, tt)
    settled_all [] (t ∷ ts) k fit reads is have = absurd fit
    settled_all (e ∷ es) [] k fit reads is have = absurd fit
    settled_all (e ∷ es) (t ∷ ts) k fit reads is have =
        let p = and_parts (reads_assigned w.body xs e) (list_all (reads_assigned w.body xs) es) reads in
        let s = element_sort (code_type (classes_of w) w.body e) in
        let m = meant_at w e k in
        let sorted = meaning_sorted w entry xs k is have e p.0 fit.0 in
        let k' = settled m s k in
        let rest = settled_all es ts k' fit.2 p.1 (termed w s m k sorted is) (terms_like xs k k' (like_with_term w s m k) have) in
        (rest.0, (record { term = term_for s m k; is = refl; sorted = subst (λ r. HasSort cs [] r (term_for s m k)) fit.1 (term_sorted w s m k sorted) }, rest.1))

    -- the operands are evaluated and settled
    operands_settled : (es : List ExprTree) (ts : List Ty) (k : Position) → AreFitting cs w.body es ts → list_all (reads_assigned w.body xs) es ≡ true → IsFormedAt w k → HaveTerms xs k.locals →
        IsFormedAt w (settle_all w es (evaluate_all w es k)) × AreTerms cs ts (arguments_settled w es (evaluate_all w es k))
    operands_settled es ts k fit reads is have =
        let k' = evaluate_all w es k in
        settled_all es ts k' fit reads (evaluated_all w entry xs es k reads (fitting_typed cs w.body es ts fit) is have) (terms_like xs k k' (same_evaluate_all w es k).like have)

    -- where the callee fits the operands
    call_goes : (at : Place) (x : Option ℕ) (callee : CalleeTree) (es : List ExprTree) (ts : List Ty) (k : Position) → AreFitting cs w.body es ts → list_all (reads_assigned w.body xs) es ≡ true → IsFormedAt w k → HaveTerms xs k.locals →
        ((ms : List Meant) (j : Position) → AreTerms cs ts ms → IsFormedAt w j → FitsCall x (called w.program w.body callee) (with_this w callee ms j) × IsFormedAt w (check_receiver w at callee ms j)) → IsFormedAt w (call_with w at x callee es k)
    call_goes at x callee es ts k fit reads is have goes =
        let k' = evaluate_all w es k in
        let ms = arguments_settled w es k' in
        let j = settle_all w es k' in
        let st = operands_settled es ts k fit reads is have in
        let g = goes ms j st.1 st.0 in
        called_formed at x (called w.program w.body callee) (with_this w callee ms j) (check_receiver w at callee ms j) g.0 g.1

    pub call_formed : (at : Place) (x : Option ℕ) (callee : CalleeTree) (es : List ExprTree) (k : Position) → is_typed w.program w.body (CallStmt at x callee es) ≡ true → list_all (reads_assigned w.body xs) (receiver callee ++ es) ≡ true → IsFormedAt w k → HaveTerms xs k.locals →
        IsFormedAt w (call_with w at x callee (receiver callee ++ es) k)
    call_formed at x (Static n) es k h reads is have =
        let callee = Static n in
        let q = and_parts (is_receiver cs w.body callee) (is_call_of cs w.body x es (callee_of w.program w.body callee)) h in
        let found = callee_there cs w.body x es (callee_of w.program w.body callee) q.1 in
        let b = found.0 in
        let fits = call_fits cs w.body x es (callee_of w.program w.body callee) b found.1 q.1 in
        let at_b = where_some (λ (z : BodyTree). z.flags.is_static) (body_at w.program n) b found.1 in
        let stated = formed_stated w.program b (formed.bodies n b at_b.0) in
        call_goes at x callee es (types_of b.params) k (fitting cs w.body es (types_of b.params) fits.0) reads is have
        (λ ms j are is_j. (fits_found x (called w.program w.body callee) b ms found.1 stated (subst (λ ts. AreTerms cs ts ms) (sym (static_arguments b at_b.1)) are) fits.1, is_j))
    call_formed at x (Base n) es k h reads is have =
        let callee = Base n in
        let q = and_parts (is_receiver cs w.body callee) (is_call_of cs w.body x es (callee_of w.program w.body callee)) h in
        let found = callee_there cs w.body x es (callee_of w.program w.body callee) q.1 in
        let b = found.0 in
        let fits = call_fits cs w.body x es (callee_of w.program w.body callee) b found.1 q.1 in
        let at_b = where_some (λ (z : BodyTree). is_instance_method z && not w.body.flags.is_static && stands_in_table w.program (above cs w.body.class) n) (body_at w.program n) b found.1 in
        let parts = and_parts (is_instance_method b && not w.body.flags.is_static) (stands_in_table w.program (above cs w.body.class) n) at_b.1 in
        let both = and_parts (is_instance_method b) (not w.body.flags.is_static) parts.0 in
        let instance_ = off b.flags.is_static (and_parts (not b.flags.is_static) (not b.flags.ctor) both.0).0 in
        let stated = formed_stated w.program b (formed.bodies n b at_b.0) in
        call_goes at x callee es (types_of b.params) k (fitting cs w.body es (types_of b.params) fits.0) reads is have
        (λ ms j are is_j. (fits_found x (called w.program w.body callee) b (One (local_term 0 j) ∷ ms) found.1 stated (with_first b instance_ ms j are is_j (off w.body.flags.is_static both.1)) fits.1, is_j))
    call_formed at x (BaseConstructor n) es k h reads is have =
        let callee = BaseConstructor n in
        let q = and_parts (is_receiver cs w.body callee) (is_call_of cs w.body x es (callee_of w.program w.body callee)) h in
        let found = callee_there cs w.body x es (callee_of w.program w.body callee) q.1 in
        let b = found.0 in
        let fits = call_fits cs w.body x es (callee_of w.program w.body callee) b found.1 q.1 in
        let at_b = where_some (λ (z : BodyTree). is_constructor_of (above cs w.body.class) z && w.body.flags.ctor) (body_at w.program n) b found.1 in
        let parts = and_parts (is_constructor_of (above cs w.body.class) b) w.body.flags.ctor at_b.1 in
        let ctor = and_parts b.flags.ctor (b.class == above cs w.body.class) parts.0 in
        let is_b = formed.bodies n b at_b.0 in
        let instance_ = constructor_instance b is_b.flags ctor.0 in
        call_goes at x callee es (types_of b.params) k (fitting cs w.body es (types_of b.params) fits.0) reads is have
        (λ ms j are is_j. (
          fits_found x (called w.program w.body callee) b (One (local_term 0 j) ∷ ms) found.1 (formed_stated w.program b is_b) (with_first b instance_ ms j are is_j (constructor_instance w.body body.flags parts.1)) fits.1,
          is_j,
        ))
    call_formed at x (Dispatched e t m) es k h reads is have =
        let callee = Dispatched e t m in
        let q = and_parts (is_receiver cs w.body callee) (is_call_of cs w.body x es (callee_of w.program w.body callee)) h in
        let found = callee_there cs w.body x es (callee_of w.program w.body callee) q.1 in
        let b = found.0 in
        let fits = call_fits cs w.body x es (callee_of w.program w.body callee) b found.1 q.1 in
        let at_b = where_some is_instance_method (method_at w.program t m) b found.1 in
        let number = method_number w.program t m b at_b.0 in
        let instance_ = off b.flags.is_static (and_parts (not b.flags.is_static) (not b.flags.ctor) at_b.1).0 in
        let stated = seen_stated cs b (formed_stated w.program b (formed.bodies number.0 b number.1)) in
        let this = ty.Ref (record { 0 = b.class }) true in
        let class = class_some (λ c. c == t) (code_type cs w.body e) q.0 in
        call_goes at x callee (e ∷ es) (this ∷ types_of b.params) k (class.0, class.1, fitting cs w.body es (types_of b.params) fits.0) reads is have
        (λ ms j are is_j. (
          fits_found x (called w.program w.body callee) (seen b) ms (ap (option_map seen) found.1) stated (subst (λ ts. AreTerms cs ts ms) (sym (instance_arguments b instance_)) are) fits.1,
          receiver_checked at e t m this (types_of b.params) ms j refl are is_j,
        ))

    -- ---- new objects

    ready_made : (delayed : Bool) (o : Term) (k : Position) → HasSort cs [] sort.Rest o → IsFormedAt w k → IsFormedAt w (with_ready delayed o k)
    ready_made false o k h is = is
    ready_made true o k h is = made_ready w o k h is

    constructed_formed : (at : Place) (o : Term) (c : Option BodyTree) (b : BodyTree) (ms : List Meant) (k : Position) → c ≡ Some b → IsStatedBody cs b → AreTerms cs (argument_types b) (One o ∷ ms) → HasSort cs [] sort.Rest o → IsFormedAt w k →
        IsFormedAt w (constructed w at o c ms k)
    constructed_formed at o c b ms k found stated are h is =
        let there = check_entry w at b (One o ∷ ms) k in
        subst (λ (z : Option BodyTree). IsFormedAt w (constructed w at o z ms k)) (sym found)
        (ready_made b.flags.delayed o (returned w b (One o ∷ ms) there) h (back b stated (One o ∷ ms) are there (entered b stated (One o ∷ ms) are at k is)))

    pub new_formed : (at : Place) (x : Option ℕ) (t : ℕ) (es : List ExprTree) (k : Position) → is_typed w.program w.body (NewStmt at x t es) ≡ true → list_all (reads_assigned w.body xs) es ≡ true → IsFormedAt w k → HaveTerms xs k.locals → IsFormedAt w (construct w at x t es k)
    new_formed at x t es k h reads is have =
        let q = and_parts (is_declared cs t && fits_kept cs w.body x (Some (class_type t))) (is_call_of cs w.body None es (constructor_of w.program t)) h in
        let kept_fits = (and_parts (is_declared cs t) (fits_kept cs w.body x (Some (class_type t))) q.0).1 in
        let found = callee_there cs w.body None es (constructor_of w.program t) q.1 in
        let b = found.0 in
        let fits = call_fits cs w.body None es (constructor_of w.program t) b found.1 q.1 in
        let passes = found_passes (is_constructor_of t) w.program.bodies b found.1 in
        let is_b = formed.bodies passes.0 b passes.1 in
        let instance_ = constructor_instance b is_b.flags (and_parts b.flags.ctor (b.class == t) passes.2).0 in
        let k' = evaluate_all w es k in
        let ms = arguments_settled w es k' in
        let j = settle_all w es k' in
        let st = operands_settled es (types_of b.params) k (fitting cs w.body es (types_of b.params) fits.0) reads is have in
        let o = next_of j.store in
        let o_sorted = next_sorted cs j.store st.0.store in
        let typed = assume (equal (shape.type_of o) (class_term t)) j in
        let is_typed_ = assumed w (equal (shape.type_of o) (class_term t)) j (class_formed cs o t o_sorted) st.0 in
        let s = app (New t) (j.store ∷ []) in
        let there = with_store s typed in
        let is_there = store_changed w s typed (sorted_one cs [] (New t) sort.Store j.store refl st.0.store) is_typed_ in
        let arguments = subst (λ ts. AreTerms cs ts (One o ∷ ms)) (sym (instance_arguments b instance_)) (record { term = o; is = refl; sorted = o_sorted }, st.1) in
        object_kept x t o (constructed w at o (constructor_of w.program t) ms there) kept_fits o_sorted
        (constructed_formed at o (constructor_of w.program t) b ms there found.1 (formed_stated w.program b is_b) arguments o_sorted is_there)

    pub array_formed : (at : Place) (x : Option ℕ) (t : ℕ) (e : ExprTree) (k : Position) → is_typed w.program w.body (NewArrayStmt at x t e) ≡ true → reads_assigned w.body xs e ≡ true → IsFormedAt w k → HaveTerms xs k.locals → IsFormedAt w (new_array w at x t e k)
    array_formed at x t e k h reads is have =
        let q = and_parts (is_array cs t && fits_kept cs w.body x (Some (class_type t))) (is_int (code_type cs w.body e)) h in
        let kept_fits = (and_parts (is_array cs t) (fits_kept cs w.body x (Some (class_type t))) q.0).1 in
        let some = int_some (code_type cs w.body e) q.1 in
        let a = evaluate w e k in
        let is_a = evaluated w entry xs k is have e reads some in
        let m = meant_at w e a in
        let sorted = subst (λ s. C cs [] s m) (int_sort (code_type cs w.body e) q.1) (meaning_sorted w entry xs a is_a (terms_like xs k a (same_evaluate w e k).like have) e reads some) in
        let n = term_for sort.Whole m a in
        let n_sorted = term_sorted w sort.Whole m a sorted in
        let b = with_term sort.Whole m a in
        let c = check w kind.NegativeLength at (at_most (number (pos 0)) n) b in
        let is_c = checked w kind.NegativeLength at (at_most (number (pos 0)) n) b (at_most_formed cs [] (number (pos 0)) n (refl, refl) n_sorted) (termed w sort.Whole m a sorted is_a) in
        let o = next_of c.store in
        let o_sorted = next_sorted cs c.store is_c.store in
        let fs = equal (shape.type_of o) (class_term t) ∷ equal (app Length (o ∷ [])) n ∷ [] in
        let d = assume_all fs c in
        let is_d = assumed_all w fs c (class_formed cs o t o_sorted, (equal_formed cs [] true sort.Whole (app Length (o ∷ [])) n (sorted_one cs [] Length sort.Rest o refl o_sorted) n_sorted, tt)) is_c in
        let s = app (NewArray t) (c.store ∷ n ∷ []) in
        object_kept x t o (with_store s d) kept_fits o_sorted (store_changed w s d (sorted_two cs [] (NewArray t) sort.Store sort.Whole c.store n refl is_c.store n_sorted) is_d)
