-- Along the paths of code: what is known as assigned has a term, and a position is reached where some path leads there.
use Rattle.std.proofs.Common.{◌≡◌, ℕ, pos, map, zero, suc, ◌<◌, ◌+◌, List, [], ◌∷◌, ◌++◌, length, Bool, true, false, ◌&&◌, ◌||◌, ⊎_elim, refl, sym, ◌∙◌, ap, subst, arith}
use Rattle.std.specs.Prelude.{Option, Some, None, option_map, slice_get, slice_set, ◌==◌, if◌then◌else◌}
use Rattle.std.proofs.lemmas.Bool.{false≢true, and_parts, or_cases, eqb-true}
use Rattle.ss_core.specs.declared.names.Kind.TheVariants as kind
use Rattle.ss_core.specs.declared.names.Mark.{Mark}
use Rattle.ss_core.specs.declared.names.Place.{Place}
use Rattle.ss_core.specs.declared.names.Ty.{Ty}
use Rattle.ss_core.specs.Tree.{ClassTree, ExprTree, CalleeTree, Dispatched, Static, Base, BaseConstructor, StmtTree, AssignStmt, WriteStmt, WriteElementStmt, NewStmt, NewArrayStmt, CallStmt, ReadyStmt, IfStmt, LoopStmt, UnpackStmt, PackStmt, AssertStmt, AssumeStmt, PrintStmt, PrintTextStmt, ReturnStmt, CodeTree, NoCode, Then, BodyTree}
use Rattle.ss_core.specs.Chain.{is_declared, above}
use Rattle.ss_store_rules.specs.Locals.{types_of, local_types, is_kept_in, assigns, receiver, each, each_inside}
use Rattle.ss_store_rules.specs.NonNull.{Known, known_tested, known_met, known_head}
use Rattle.ss_store_rules.specs.Assigned.{assigned_flow}
use Rattle.ss_store_rules.specs.Paths as paths
use Rattle.ss_store_rules.specs.Paths.{is_literal_true, met, left, at_end}
use Rattle.ss_store_rules.specs.Types.{is_int, class_type, element_of, code_type}
use Rattle.ss_store_rules.specs.Changes.{is_array}
use Rattle.ss_store_rules.specs.Typed.{constructor_of, callee_of, fits_declared, fits_local, fits_kept, have_types_in, is_call_of, is_receiver, is_typed}
use Rattle.ss_logic.specs.declared.Sort.{Sort}
use Rattle.ss_logic.specs.declared.Sort.TheVariants as sort
use Rattle.ss_logic.specs.Terms.{New, NewArray, Length, Term, app, field_sort}
use Rattle.ss_logic.specs.Formulas.{Formula, neg}
use Rattle.ss_logic.specs.Shapes.{number, class_term, level_of, equal, at_most, sub_atom, next_of}
use Rattle.ss_logic.specs.Shapes as shape
use Rattle.ss_logic.specs.Frames.{kept, grown}
use Rattle.ss_logic.specs.Express.{Meant, One, said, element_sort}
use Rattle.ss_vcgen_heaps.specs.Positions.{Guard, Always, When, Never, Position, Walk, good, assume, assume_all, check, check_all, holds_at, new_term, with_new, set_local, set_store, with_store, local_term, meant_at, evaluate, evaluate_all, define, with_term, term_for, first_side, second_side, join_term, joined_term, join_locals, join_guard, join_both, join_from, join, if_reached}
use Rattle.ss_vcgen_heaps.specs.Contracts.{is_of_type, contract_context, conditions, frame_terms, seen, called}
use Rattle.ss_vcgen_heaps.specs.Obligations.{classes_of, local_sort, check_not_null, check_local, invariants_said, evaluate_result, check_owners, write, write_element, unpack, pack, settle_all, arguments_settled, check_entry, result_term, with_result, assume_result, returned, keep, call, check_receiver, with_this, call_with, with_ready, constructed, construct, new_array, Loop, loop_of, frame_at_head, levels_at_head, types_from, check_head, renew_from, renewed, at_head, exit_guard, into_body, behind, behind_all}
use Rattle.ss_vcgen_safe.specs.At.{HaveTerms}
use Rattle.ss_vcgen_safe.proofs.Leads.{leads_join_locals, leads_join_term}
use Rattle.ss_vcgen_safe.proofs.PositionsJoins.{get_below}
use Rattle.ss_vcgen_safe.proofs.Same.{IsLike, same_assume_all, same_check_all, same_evaluate, same_evaluate_all, same_evaluate_result, same_not_null, same_local, same_owners, same_entry, same_receiver, like_with_term, like_settle_all}
use Rattle.ss_vcgen_safe.proofs.PositionsStatements.{leads_at_head, leads, leads_all}

-- ---- terms in a list of locals

here_term : (xs : List (Option Term)) (x : ℕ) (t : Term) → x < length xs → slice_get (slice_set xs x (Some t)) x ≡ Some (Some t)
here_term [] x t l = absurd (omega (arith, l))
here_term (y ∷ xs) zero t l = refl
here_term (y ∷ xs) (suc x) t l = here_term xs x t (omega (arith, l))

pub other_term : (xs : List (Option Term)) (x : ℕ) (t : Term) (y : ℕ) (u : Term) → slice_get xs y ≡ Some (Some u) → (v : Term) × (slice_get (slice_set xs x (Some t)) y ≡ Some (Some v))
other_term [] x t y u e = (u, e)
other_term (z ∷ xs) zero t zero u e = (t, refl)
other_term (z ∷ xs) zero t (suc y) u e = (u, e)
other_term (z ∷ xs) (suc x) t zero u e = (u, e)
other_term (z ∷ xs) (suc x) t (suc y) u e = other_term xs x t y u e

pub set_terms : (xs : ℕ → Bool) (ls : List (Option Term)) (x : ℕ) (t : Term) → x < length ls → HaveTerms xs ls → HaveTerms (λ y. (x == y) || xs y) (slice_set ls x (Some t))
set_terms xs ls x t l h y e =
    ⊎_elim
    (λ same. (t, subst (λ z. slice_get (slice_set ls x (Some t)) z ≡ Some (Some t)) (eqb-true x y same) (here_term ls x t l)))
    (λ old. let o = h y old in other_term ls x t y o.0 o.1)
    (or_cases (x == y) (xs y) e)

-- both sides have a term for it
pub joined_terms : (g h : Guard) (ts : List Ty) (xs ys : List (Option Term)) (k : Position) (x : ℕ) (t u : Term) → length xs ≡ length ts → length ys ≡ length ts → slice_get xs x ≡ Some (Some t) → slice_get ys x ≡ Some (Some u) →
    (v : Term) × (slice_get (join_locals g h ts xs ys k).0 x ≡ Some (Some v))
joined_terms g h [] [] ys k x t u a b e f = (t, e)
joined_terms g h [] (y ∷ xs) ys k x t u a b e f = absurd (omega (arith, a))
joined_terms g h (s ∷ ts) [] ys k x t u a b e f = absurd (omega (arith, a))
joined_terms g h (s ∷ ts) (None ∷ xs) [] k x t u a b e f = absurd (omega (arith, b))
joined_terms g h (s ∷ ts) (Some y ∷ xs) [] k x t u a b e f = absurd (omega (arith, b))
joined_terms g h (s ∷ ts) (None ∷ xs) (z ∷ ys) k zero t u a b e f = let no : ⊥ = cc in absurd no
joined_terms g h (s ∷ ts) (None ∷ xs) (z ∷ ys) k (suc x) t u a b e f = joined_terms g h ts xs ys k x t u (omega (arith, a)) (omega (arith, b)) e f
joined_terms g h (s ∷ ts) (Some y ∷ xs) (None ∷ ys) k zero t u a b e f = let no : ⊥ = cc in absurd no
joined_terms g h (s ∷ ts) (Some y ∷ xs) (None ∷ ys) k (suc x) t u a b e f = joined_terms g h ts xs ys k x t u (omega (arith, a)) (omega (arith, b)) e f
joined_terms g h (s ∷ ts) (Some y ∷ xs) (Some z ∷ ys) k zero t u a b e f = (joined_term (element_sort (Some s)) y z k, refl)
joined_terms g h (s ∷ ts) (Some y ∷ xs) (Some z ∷ ys) k (suc x) t u a b e f = joined_terms g h ts xs ys (join_term g h (element_sort (Some s)) y z k) x t u (omega (arith, a)) (omega (arith, b)) e f

-- ---- reached positions

abbrev pub IsReachable : Guard → Type 0
IsReachable Always = Unit {0}
IsReachable (When n) = Unit {0}
IsReachable Never = ⊥

-- Where a path leads, the position is reached, and what is assigned has a term. Where none does, it isn't reached.
abbrev pub IsPlaced : Option (ℕ → Bool) → Position → Type 0
IsPlaced None k = k.guard ≡ Never
IsPlaced (Some xs) k = IsReachable k.guard × HaveTerms xs k.locals

-- The locals and the guard are the same.
abbrev pub SamePlace : Position → Position → Type 0
SamePlace k k' = (k'.locals ≡ k.locals) × (k'.guard ≡ k.guard)

pub place_self : (k : Position) → SamePlace k k
place_self k = (refl, refl)

pub place_twice : (a b c : Position) → SamePlace a b → SamePlace b c → SamePlace a c
place_twice a b c x y = (y.0 ∙ x.0, y.1 ∙ x.1)

pub like_place : (k k' : Position) → IsLike k k' → SamePlace k k'
like_place k k' l = (l.locals, l.guard)

pub placed_same : (xs : ℕ → Bool) (k k' : Position) → SamePlace k k' → IsPlaced (Some xs) k → IsPlaced (Some xs) k'
placed_same xs k k' s p = (subst IsReachable (sym s.1) p.0, subst (HaveTerms xs) (sym s.0) p.1)

pub placed_set : (xs : ℕ → Bool) (x : ℕ) (t : Term) (k : Position) → x < length k.locals → IsPlaced (Some xs) k → IsPlaced (Some (λ y. (x == y) || xs y)) (set_local x t k)
placed_set xs x t k l p = (p.0, set_terms xs k.locals x t l p.1)

when_reached : (g : Guard) (k k' : Position) (P : Position → Type 0) → IsReachable g → P k → P (if_reached g k k')
when_reached Always k k' P r h = h
when_reached (When n) k k' P r h = h
when_reached Never k k' P r h = absurd r

-- ---- types of what is assigned

fits_below : (cs : List ClassTree) (b : BodyTree) (a : Option Ty) (x : ℕ) → fits_local cs b a x ≡ true → x < length (local_types b)
fits_below cs b a x h = one_of (slice_get (local_types b) x) refl h
  where
    one_of : (o : Option Ty) → slice_get (local_types b) x ≡ o → fits_declared cs a o ≡ true → x < length (local_types b)
    one_of None e f = absurd (false≢true f)
    one_of (Some t) e f = get_below (local_types b) x t e

fits_some : (cs : List ClassTree) (b : BodyTree) (a : Option Ty) (x : ℕ) → fits_local cs b a x ≡ true → (t : Ty) × (a ≡ Some t)
fits_some cs b None x h = one_of (slice_get (local_types b) x) h
  where
    one_of : (o : Option Ty) → fits_declared cs None o ≡ true → (t : Ty) × (None ≡ Some t)
    one_of None f = absurd (false≢true f)
    one_of (Some t) f = absurd (false≢true f)
fits_some cs b (Some t) x h = (t, refl)

module _ (w : Walk) where
  -- ---- what calls and new objects leave

  pub place_with_store : (s : Term) (k : Position) → SamePlace k (with_store s k)
  place_with_store s k = (refl, refl)

  place_result : (r : Option Ty) (k : Position) → SamePlace k (with_result r k)
  place_result None k = place_self k
  place_result (Some t) k = (refl, refl)

  place_assume_all : (fs : List Formula) (k : Position) → SamePlace k (assume_all fs k)
  place_assume_all fs k = like_place k (assume_all fs k) (same_assume_all fs k).like

  place_assume_result : (r : Option Ty) (ts : List Term) (k : Position) → SamePlace k (assume_result r ts k)
  place_assume_result None ts k = place_self k
  place_assume_result (Some t) [] k = place_self k
  place_assume_result (Some t) (r ∷ rs) k = place_assume_all (is_of_type true k.store t r) k

  pub place_returned : (callee : BodyTree) (ms : List Meant) (k : Position) → SamePlace k (returned w callee ms k)
  place_returned callee ms k =
      let s = k.store in
      let z = new_term sort.Store k in
      let a = with_new sort.Store k in
      let result = result_term callee.result a in
      let b = with_result callee.result a in
      let c = set_store z b in
      let frame = kept (classes_of w) (frame_terms (classes_of w) callee s z ms []) ∷ grown s z ∷ [] in
      let d = assume_all frame c in
      let e = assume (good z) d in
      let exit = conditions callee.exit (contract_context (classes_of w) callee z s ms (map One result)) in
      let f = assume_all exit e in
      let h = assume_result callee.result result f in
      place_twice k a h (refl, refl)
      (place_twice a b h (place_result callee.result a)
      (place_twice b c h (refl, refl) (place_twice c d h (place_assume_all frame c) (place_twice d e h (refl, refl) (place_twice e f h (place_assume_all exit e) (place_assume_result callee.result result f))))))

  -- the local in which a result is kept is there
  abbrev pub IsThere : Option ℕ → Position → Type 0
  IsThere None k = Unit {0}
  IsThere (Some x) k = x < length k.locals

  there_same : (x : Option ℕ) (k k' : Position) → SamePlace k k' → IsThere x k → IsThere x k'
  there_same None k k' s h = tt
  there_same (Some x) k k' s h = subst (λ (ls : List (Option Term)). x < length ls) (sym s.0) h

  placed_kept : (xs : ℕ → Bool) (x : Option ℕ) (o : Term) (k : Position) → IsThere x k → IsPlaced (Some xs) k → IsPlaced (Some (λ y. is_kept_in x y || xs y)) (keep x (o ∷ []) k)
  placed_kept xs None o k l p = p
  placed_kept xs (Some x) o k l p = placed_set xs x o k l p

  placed_result : (xs : ℕ → Bool) (x : Option ℕ) (r : Option Ty) (from k : Position) → fits_kept w.program.classes w.body x r ≡ true → IsThere x k → IsPlaced (Some xs) k → IsPlaced (Some (λ y. is_kept_in x y || xs y)) (keep x (result_term r from) k)
  placed_result xs None r from k fits l p = p
  placed_result xs (Some x) None from k fits l p = let t = fits_some w.program.classes w.body None x fits in let no : ⊥ = none_some t.0 t.1 in absurd no
    where
      none_some : (t : Ty) → None ≡ Some t → ⊥
      none_some t e = cc
  placed_result xs (Some x) (Some t) from k fits l p = placed_set xs x (new_term (element_sort (Some t)) from) k l p

  -- there is such a body, and its result fits
  abbrev FitsCalled : Option ℕ → Option BodyTree → Type 0
  FitsCalled x None = ⊥
  FitsCalled x (Some b) = fits_kept w.program.classes w.body x b.result ≡ true

  placed_call : (xs : ℕ → Bool) (at : Place) (x : Option ℕ) (o : Option BodyTree) (ms : List Meant) (k : Position) → FitsCalled x o → IsThere x k → IsPlaced (Some xs) k → IsPlaced (Some (λ y. is_kept_in x y || xs y)) (call w at x o ms k)
  placed_call xs at x None ms k fits l p = absurd fits
  placed_call xs at x (Some callee) ms k fits l p =
      let entered = check_entry w at callee ms k in
      let back = returned w callee ms entered in
      let s = place_twice k entered back (like_place k entered (same_entry w at callee ms k).like) (place_returned callee ms entered) in
      placed_result xs x callee.result (with_new sort.Store entered) back fits (there_same x k back s l) (placed_same xs k back s p)

  fits_of : (x : Option ℕ) (es : List ExprTree) (o : Option BodyTree) → is_call_of w.program.classes w.body x es o ≡ true → FitsCalled x o
  fits_of x es None h = absurd (false≢true h)
  fits_of x es (Some b) h = (and_parts (have_types_in w.program.classes w.body es (types_of b.params)) (fits_kept w.program.classes w.body x b.result) h).1

  fits_seen : (x : Option ℕ) (o : Option BodyTree) → FitsCalled x o → FitsCalled x (option_map seen o)
  fits_seen x None h = h
  fits_seen x (Some b) h = h

  called_fits : (x : Option ℕ) (es : List ExprTree) (callee : CalleeTree) → is_call_of w.program.classes w.body x es (callee_of w.program w.body callee) ≡ true → FitsCalled x (called w.program w.body callee)
  called_fits x es (Dispatched e t m) h = fits_seen x (callee_of w.program w.body (Dispatched e t m)) (fits_of x es (callee_of w.program w.body (Dispatched e t m)) h)
  called_fits x es (Static n) h = fits_of x es (callee_of w.program w.body (Static n)) h
  called_fits x es (Base n) h = fits_of x es (callee_of w.program w.body (Base n)) h
  called_fits x es (BaseConstructor n) h = fits_of x es (callee_of w.program w.body (BaseConstructor n)) h

  -- a local to which something of a type may be assigned is there
  kept_there : (x : Option ℕ) (a : Option Ty) (k : Position) → fits_kept w.program.classes w.body x a ≡ true → length k.locals ≡ length (local_types w.body) → IsThere x k
  kept_there None a k h c = tt
  kept_there (Some x) a k h c = let l = fits_below w.program.classes w.body a x h in omega (arith, l, c)

  called_there : (x : Option ℕ) (o : Option BodyTree) (k : Position) → FitsCalled x o → length k.locals ≡ length (local_types w.body) → IsThere x k
  called_there x None k f c = absurd f
  called_there x (Some b) k f c = kept_there x b.result k f c

  placed_call_with : (xs : ℕ → Bool) (at : Place) (x : Option ℕ) (callee : CalleeTree) (es fs : List ExprTree) (k : Position) → is_call_of w.program.classes w.body x fs (callee_of w.program w.body callee) ≡ true →
      length k.locals ≡ length (local_types w.body) → IsPlaced (Some xs) k → IsPlaced (Some (λ y. is_kept_in x y || xs y)) (call_with w at x callee es k)
  placed_call_with xs at x callee es fs k h c p =
      let a = evaluate_all w es k in
      let ms = arguments_settled w es a in
      let b = settle_all w es a in
      let d = check_receiver w at callee ms b in
      let s = place_twice k a d (like_place k a (same_evaluate_all w es k).like) (place_twice a b d (like_place a b (like_settle_all w es a)) (like_place b d (same_receiver w at callee ms b).like)) in
      let fits = called_fits x fs callee h in
      placed_call xs at x (called w.program w.body callee) (with_this w callee ms b) d fits (there_same x k d s (called_there x (called w.program w.body callee) k fits c)) (placed_same xs k d s p)

  place_ready : (delayed : Bool) (o : Term) (k : Position) → SamePlace k (with_ready delayed o k)
  place_ready false o k = place_self k
  place_ready true o k = (refl, refl)

  place_constructed : (at : Place) (o : Term) (callee : Option BodyTree) (ms : List Meant) (k : Position) → SamePlace k (constructed w at o callee ms k)
  place_constructed at o None ms k = place_self k
  place_constructed at o (Some callee) ms k =
      let a = check_entry w at callee (One o ∷ ms) k in
      let b = returned w callee (One o ∷ ms) a in
      let c = with_ready callee.flags.delayed o b in
      place_twice k a c (like_place k a (same_entry w at callee (One o ∷ ms) k).like) (place_twice a b c (place_returned callee (One o ∷ ms) a) (place_ready callee.flags.delayed o b))

  placed_construct : (xs : ℕ → Bool) (at : Place) (x : Option ℕ) (t : ℕ) (es : List ExprTree) (k : Position) → IsThere x k → IsPlaced (Some xs) k → IsPlaced (Some (λ y. is_kept_in x y || xs y)) (construct w at x t es k)
  placed_construct xs at x t es k l p =
      let a = evaluate_all w es k in
      let ms = arguments_settled w es a in
      let b = settle_all w es a in
      let o = next_of b.store in
      let c = with_store (app (New t) (b.store ∷ [])) (assume (equal (shape.type_of o) (class_term t)) b) in
      let d = constructed w at o (constructor_of w.program t) ms c in
      let s = place_twice k a d (like_place k a (same_evaluate_all w es k).like)
      (place_twice a b d (like_place a b (like_settle_all w es a)) (place_twice b c d (refl, refl) (place_constructed at o (constructor_of w.program t) ms c))) in
      placed_kept xs x o d (there_same x k d s l) (placed_same xs k d s p)

  placed_array : (xs : ℕ → Bool) (at : Place) (x : Option ℕ) (t : ℕ) (e : ExprTree) (k : Position) → IsThere x k → IsPlaced (Some xs) k → IsPlaced (Some (λ y. is_kept_in x y || xs y)) (new_array w at x t e k)
  placed_array xs at x t e k l p =
      let a = evaluate w e k in
      let m = meant_at w e a in
      let n = term_for sort.Whole m a in
      let b = with_term sort.Whole m a in
      let c = check w kind.NegativeLength at (at_most (number (pos 0)) n) b in
      let o = next_of c.store in
      let fs = equal (shape.type_of o) (class_term t) ∷ equal (app Length (o ∷ [])) n ∷ [] in
      let d = assume_all fs c in
      let z = with_store (app (NewArray t) (c.store ∷ n ∷ [])) d in
      let s = place_twice k a z (like_place k a (same_evaluate w e k).like)
      (place_twice a b z (like_place a b (like_with_term w sort.Whole m a)) (place_twice b c z (refl, refl) (place_twice c d z (place_assume_all fs c) (refl, refl)))) in
      placed_kept xs x o z (there_same x k z s l) (placed_same xs k z s p)

  -- ---- writes and levels

  place_write : (at : Place) (e : ExprTree) (f : ℕ) (m : Mark) (t : ℕ) (o v : Term) (k : Position) → SamePlace k (write w at e f m t o v k)
  place_write at e f m t o v k =
      let a = check_not_null w at e o k in
      let b = check w kind.WriteLevel at (neg (sub_atom (level_of k.store o) (class_term t))) a in
      let c = check_owners m w at o t v b in
      let z = write w at e f m t o v k in
      place_twice k a z (like_place k a (same_not_null w at e o k).like) (place_twice a b z (refl, refl) (place_twice b c z (like_place b c (same_owners w m at o t v b).like) (refl, refl)))

  place_write_element : (at : Place) (e : ExprTree) (a i v : Term) (k : Position) → SamePlace k (write_element w at e a i v k)
  place_write_element at e a i v k = let b = check_not_null w at e a k in place_twice k b (write_element w at e a i v k) (like_place k b (same_not_null w at e a k).like) (refl, refl)

  place_unpack : (at : Place) (x t : ℕ) (k : Position) → SamePlace k (unpack w at x t k)
  place_unpack at x t k = let b = check_local w at x k in place_twice k b (unpack w at x t k) (like_place k b (same_local w at x k).like) (refl, refl)

  place_pack : (at : Place) (x t : ℕ) (k : Position) → SamePlace k (pack w at x t k)
  place_pack at x t k =
      let o = local_term x k in
      let b = check_local w at x k in
      let c = check w kind.PackLevel at (equal (level_of k.store o) (class_term (above (classes_of w) t))) b in
      let fs = invariants_said (classes_of w) k.store o t in
      let d = check_all w kind.Invariant at fs c in
      place_twice k b (pack w at x t k) (like_place k b (same_local w at x k).like)
      (place_twice b c (pack w at x t k) (refl, refl) (place_twice c d (pack w at x t k) (like_place c d (same_check_all w kind.Invariant at fs c).like) (refl, refl)))

  place_with_term : (s : Sort) (m : Meant) (k : Position) → SamePlace k (with_term s m k)
  place_with_term s m k = like_place k (with_term s m k) (like_with_term w s m k)

  place_evaluate_all : (es : List ExprTree) (k : Position) → SamePlace k (evaluate_all w es k)
  place_evaluate_all es k = like_place k (evaluate_all w es k) (same_evaluate_all w es k).like

  -- ---- branches

  first_alone : (g h : Guard) (first second : Position) → IsReachable g → h ≡ Never → join_from g h w known_met first second ≡ record second { locals = first.locals; store = first.store; guard = first.guard; known = first.known }
  first_alone Never h first second r e = absurd r
  first_alone Always Never first second r e = refl
  first_alone (When i) Never first second r e = refl
  first_alone Always Always first second r e = let no : ⊥ = cc in absurd no
  first_alone Always (When n) first second r e = let no : ⊥ = cc in absurd no
  first_alone (When i) Always first second r e = let no : ⊥ = cc in absurd no
  first_alone (When i) (When n) first second r e = let no : ⊥ = cc in absurd no

  both_reached : (g h : Guard) (first second : Position) → IsReachable g → IsReachable h → join_from g h w known_met first second ≡ join_both w known_met first second
  both_reached Never h first second r q = absurd r
  both_reached Always Never first second r q = absurd q
  both_reached (When i) Never first second r q = absurd q
  both_reached Always Always first second r q = refl
  both_reached Always (When n) first second r q = refl
  both_reached (When i) Always first second r q = refl
  both_reached (When i) (When n) first second r q = refl

  placed_both : (xs ys : ℕ → Bool) (first second : Position) → length first.locals ≡ length (local_types w.body) → length second.locals ≡ length (local_types w.body) → HaveTerms xs first.locals → HaveTerms ys second.locals →
      IsPlaced (Some (λ x. xs x && ys x)) (join_both w known_met first second)
  placed_both xs ys first second a b h i =
      let g = first.guard in
      let f = second.guard in
      let ts = local_types w.body in
      let k = join_guard g f second in
      let r = join_locals g f ts first.locals second.locals k in
      let same = (leads_join_term w g f sort.Store first.store second.store r.1).guard ∙ (leads_join_locals w g f ts first.locals second.locals k).guard in (
        subst IsReachable (sym same) tt,
        λ x e. let p = and_parts (xs x) (ys x) e in let t = h x p.0 in let u = i x p.1 in joined_terms g f ts first.locals second.locals k x t.0 u.0 a b t.1 u.1,
      )

  pub placed_join : (o o' : Option (ℕ → Bool)) (first second : Position) → length first.locals ≡ length (local_types w.body) → length second.locals ≡ length (local_types w.body) → IsPlaced o first → IsPlaced o' second →
      IsPlaced (met assigned_flow o o') (join w known_met first second)
  placed_join None o' first second a b p q = subst (λ (g : Guard). IsPlaced o' (join_from g second.guard w known_met first second)) (sym p) q
  placed_join (Some xs) None first second a b p q = subst (IsPlaced (Some xs)) (sym (first_alone first.guard second.guard first second p.0 q)) p
  placed_join (Some xs) (Some ys) first second a b p q =
      subst (IsPlaced (Some (λ x. xs x && ys x))) (sym (both_reached first.guard second.guard first second p.0 q.0)) (placed_both xs ys first second a b p.1 q.1)

  -- ---- loops

  renewed_terms : (s : StmtTree) (xs : ℕ → Bool) (x : ℕ) (ts : List Ty) (k : Position) → IsPlaced (Some xs) k → IsPlaced (Some xs) (renew_from s x ts k)
  renewed_terms s xs x [] k p = p
  renewed_terms s xs x (t ∷ ts) k p =
      let next = if assigns s x then set_local x (new_term (element_sort (Some t)) k) (with_new (element_sort (Some t)) k) else k in
      renewed_terms s xs (x + 1) ts next (one_of (assigns s x))
    where
      one_of : (b : Bool) → IsPlaced (Some xs) (if b then set_local x (new_term (element_sort (Some t)) k) (with_new (element_sort (Some t)) k) else k)
      one_of true = (p.0, λ y e. let o = p.1 y e in other_term k.locals x (new_term (element_sort (Some t)) k) y o.0 o.1)
      one_of false = p

  pub placed_head : (l : Loop) (xs : ℕ → Bool) (k : Position) → IsPlaced (Some xs) k → IsPlaced (Some xs) (at_head w l k)
  placed_head l xs k p =
      let a = renew_from l.statement 0 (local_types w.body) k in
      let h = record (renewed w l.statement k) { known = known_head l.statement k.known } in
      let fs = map (holds_at w h) l.invariants ++ frame_at_head w l h ∷ levels_at_head w l h ∷ grown w.entry h.store ∷ good h.store ∷ types_from w h.store 0 (local_types w.body) k.locals h.locals in
      placed_same xs a (at_head w l k) (place_twice a h (at_head w l k) (refl, refl) (place_assume_all fs h)) (renewed_terms l.statement xs 0 (local_types w.body) k p)

  place_check_head : (l : Loop) (k : Position) → SamePlace k (check_head w l k)
  place_check_head l k =
      let fs = map (holds_at w k) l.invariants in
      let a = check_all w kind.LoopInvariant l.place fs k in
      place_twice k a (check_head w l k) (like_place k a (same_check_all w kind.LoopInvariant l.place fs k).like) (refl, refl)

  placed_left : (e : ExprTree) (n : ℕ) (known : Known) (o : Option (ℕ → Bool)) (k first there : Position) → IsPlaced o there → SamePlace there k →
      IsPlaced (left assigned_flow e o) (if_reached there.guard (second_side (exit_guard e n) known k first) there)
  placed_left e n known None k first there p s = subst (λ (g : Guard). IsPlaced (left assigned_flow e None) (if_reached g (second_side (exit_guard e n) known k first) there)) (sym p) (none (is_literal_true e))
    where
      none : (b : Bool) → IsPlaced (if b then None else None) there
      none true = p
      none false = p
  placed_left e n known (Some xs) k first there p s =
      when_reached there.guard (second_side (exit_guard e n) known k first) there (IsPlaced (left assigned_flow e (Some xs))) p.0 (one_of (is_literal_true e))
    where
      one_of : (b : Bool) → IsPlaced (if b then None else Some xs) (second_side (if b then Never else When n) known k first)
      one_of true = refl
      one_of false = (tt, subst (HaveTerms xs) (sym s.0) p.1)

  -- ---- all statements

  abbrev pub AreTyped : StmtTree → Type 0
  AreTyped s = each_inside (is_typed w.program w.body) s ≡ true

  abbrev pub AllTyped : CodeTree → Type 0
  AllTyped code = each (is_typed w.program w.body) code ≡ true

  abbrev pub HasCount : Position → Type 0
  HasCount k = length k.locals ≡ length (local_types w.body)

  reached_else : (g : Guard) (k k' : Position) (P : Position → Type 0) → g ≡ Never → P k' → P (if_reached g k k')
  reached_else g k k' P e h = subst (λ (f : Guard). P (if_reached f k k')) (sym e) h

  head_count : (l : Loop) (k : Position) → HasCount k → HasCount (at_head w l k)
  head_count l k c = (leads_at_head w l k).count c

  mutual
    pub placed : (s : StmtTree) (xs : ℕ → Bool) (k : Position) → AreTyped s → HasCount k → IsPlaced (Some xs) k → IsPlaced (paths.behind assigned_flow s xs) (behind w s k)
    placed (AssignStmt at x e) xs k h c p =
        let a = evaluate w e k in
        let s = local_sort w x in
        let b = define s (meant_at w e k) a in
        let st = place_twice k a b (like_place k a (same_evaluate w e k).like) (refl, refl) in
        let l = fits_below w.program.classes w.body (code_type w.program.classes w.body e) x h in
        placed_set xs x (new_term s a) b (there_same (Some x) k b st (omega (arith, l, c))) (placed_same xs k b st p)
    placed (WriteStmt at e f m t value) xs k h c p =
        let a = evaluate_all w (e ∷ value ∷ []) k in
        let o = term_for sort.Rest (meant_at w e k) a in
        let b = with_term sort.Rest (meant_at w e k) a in
        let s = field_sort (classes_of w) f in
        let v = term_for s (meant_at w value k) b in
        let d = with_term s (meant_at w value k) b in
        let z = write w at e f m t o v d in
        placed_same xs k z
        (place_twice k a z (place_evaluate_all (e ∷ value ∷ []) k)
        (place_twice a b z (place_with_term sort.Rest (meant_at w e k) a) (place_twice b d z (place_with_term s (meant_at w value k) b) (place_write at e f m t o v d)))) p
    placed (WriteElementStmt at e i value) xs k h c p =
        let a = evaluate_all w (e ∷ i ∷ value ∷ []) k in
        let o = term_for sort.Rest (meant_at w e k) a in
        let b = with_term sort.Rest (meant_at w e k) a in
        let j = term_for sort.Whole (meant_at w i k) b in
        let d = with_term sort.Whole (meant_at w i k) b in
        let s = element_sort (element_of (classes_of w) (code_type (classes_of w) w.body e)) in
        let v = term_for s (meant_at w value k) d in
        let f = with_term s (meant_at w value k) d in
        let z = write_element w at e o j v f in
        placed_same xs k z
        (place_twice k a z (place_evaluate_all (e ∷ i ∷ value ∷ []) k)
        (place_twice a b z (place_with_term sort.Rest (meant_at w e k) a)
        (place_twice b d z (place_with_term sort.Whole (meant_at w i k) b) (place_twice d f z (place_with_term s (meant_at w value k) d) (place_write_element at e o j v f))))) p
    placed (NewStmt at x t es) xs k h c p =
        let q = and_parts (is_declared w.program.classes t && fits_kept w.program.classes w.body x (Some (class_type t))) (is_call_of w.program.classes w.body None es (constructor_of w.program t)) h in
        let r = and_parts (is_declared w.program.classes t) (fits_kept w.program.classes w.body x (Some (class_type t))) q.0 in
        placed_construct xs at x t es k (kept_there x (Some (class_type t)) k r.1 c) p
    placed (NewArrayStmt at x t e) xs k h c p =
        let q = and_parts (is_array w.program.classes t && fits_kept w.program.classes w.body x (Some (class_type t))) (is_int (code_type w.program.classes w.body e)) h in
        let r = and_parts (is_array w.program.classes t) (fits_kept w.program.classes w.body x (Some (class_type t))) q.0 in
        placed_array xs at x t e k (kept_there x (Some (class_type t)) k r.1 c) p
    placed (CallStmt at x callee es) xs k h c p =
        let q = and_parts (is_receiver w.program.classes w.body callee) (is_call_of w.program.classes w.body x es (callee_of w.program w.body callee)) h in
        placed_call_with xs at x callee (receiver callee ++ es) es k q.1 c p
    placed (ReadyStmt at) xs k h c p = p
    placed (IfStmt at e one other) xs k h c p =
        let q = and_parts (is_typed w.program w.body (IfStmt at e one other) && each (is_typed w.program w.body) one) (each (is_typed w.program w.body) other) h in
        let r = and_parts (is_typed w.program w.body (IfStmt at e one other)) (each (is_typed w.program w.body) one) q.0 in
        let a = evaluate w e k in
        let st = like_place k a (same_evaluate w e k).like in
        let f = said (meant_at w e k) in
        let start = first_side f (known_tested e true k.known) a in
        let first = behind_all w one start in
        let begun = second_side (When (a.next.truths + 1)) (known_tested e false k.known) a first in
        let second = behind_all w other begun in
        let here = placed_same xs k a st p in
        let count : HasCount a = ap length st.0 ∙ c in
        placed_join (at_end assigned_flow one (Some xs)) (at_end assigned_flow other (Some xs)) first second ((leads_all w one start).count count) ((leads_all w other begun).count count)
        (placed_all one (Some xs) start r.1 count (tt, here.1)) (placed_all other (Some xs) begun q.1 count (tt, here.1))
    placed (LoopStmt at asked prelude e body exposes) xs k h c p =
        let q = and_parts (is_typed w.program w.body (LoopStmt at asked prelude e body exposes) && each (is_typed w.program w.body) prelude) (each (is_typed w.program w.body) body) h in
        let r = and_parts (is_typed w.program w.body (LoopStmt at asked prelude e body exposes)) (each (is_typed w.program w.body) prelude) q.0 in
        let l = loop_of (LoopStmt at asked prelude e body exposes) at asked exposes in
        let checked = check_head w l k in
        let st = place_check_head l k in
        let head = at_head w l checked in
        let tested = behind_all w prelude head in
        let evaluated = evaluate w e tested in
        let turned = behind_all w body (into_body w e tested) in
        placed_left e (evaluated.next.truths + 1) (known_tested e false tested.known) (at_end assigned_flow prelude (Some xs)) evaluated (if_reached turned.guard (check_head w l turned) turned) tested
        (placed_all prelude (Some xs) head r.1 (head_count l checked (ap length st.0 ∙ c)) (placed_head l xs checked (placed_same xs k checked st p))) (like_place tested evaluated (same_evaluate w e tested).like)
    placed (UnpackStmt at x t) xs k h c p = placed_same xs k (unpack w at x t k) (place_unpack at x t k) p
    placed (PackStmt at x t) xs k h c p = placed_same xs k (pack w at x t k) (place_pack at x t k) p
    placed (AssertStmt at e) xs k h c p = p
    placed (AssumeStmt at e) xs k h c p = p
    placed (PrintStmt at e newline) xs k h c p = placed_same xs k (evaluate_result w e k) (like_place k (evaluate_result w e k) (same_evaluate_result w e k).like) p
    placed (PrintTextStmt at text newline) xs k h c p = p
    placed (ReturnStmt at e) xs k h c p = refl

    pub placed_all : (code : CodeTree) (o : Option (ℕ → Bool)) (k : Position) → AllTyped code → HasCount k → IsPlaced o k → IsPlaced (at_end assigned_flow code o) (behind_all w code k)
    placed_all NoCode o k h c p = p
    placed_all (Then s code) None k h c p = reached_else k.guard (behind_all w code (behind w s k)) k (λ z. z.guard ≡ Never) p p
    placed_all (Then s code) (Some xs) k h c p =
        let q = and_parts (each_inside (is_typed w.program w.body) s) (each (is_typed w.program w.body) code) h in
        when_reached k.guard (behind_all w code (behind w s k)) k (IsPlaced (at_end assigned_flow code (paths.behind assigned_flow s xs))) p.0
        (placed_all code (paths.behind assigned_flow s xs) (behind w s k) q.1 ((leads w s k).count c) (placed s xs k q.0 c p))
