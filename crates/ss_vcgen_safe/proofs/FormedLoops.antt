-- The head of a loop: what is checked there, and what is assumed each time.
use Rattle.std.proofs.Common.{◌≡◌, ℕ, suc, ◌+◌, List, [], ◌∷◌, ◌++◌, map, Bool, true, false, refl, sym, ◌∙◌, ap, subst, arith}
use Rattle.std.specs.Prelude.{Option, Some, None, slice_get, if◌then◌else◌}
use Rattle.std.specs.List.{list_all}
use Rattle.std.proofs.lemmas.Bool.{and_parts, and_from}
use Rattle.ss_core.specs.declared.names.Kind.TheVariants as kind
use Rattle.ss_core.specs.declared.names.Ty.{Ty}
use Rattle.ss_core.specs.declared.names.Ty.TheVariants as ty
use Rattle.ss_core.specs.Tree.{ClassTree, ExposedTree, StmtTree}
use Rattle.ss_core.specs.Chain.{above}
use Rattle.ss_store_rules.specs.Formed.{IsFormedBody}
use Rattle.ss_store_rules.specs.Locals.{local_types, assigns}
use Rattle.ss_store_rules.specs.NonNull.{known_head}
use Rattle.ss_store_rules.specs.Types.{in_assert}
use Rattle.ss_store_rules.specs.Typed.{is_exposable}
use Rattle.ss_logic.specs.declared.Sort.TheVariants as sort
use Rattle.ss_logic.specs.Terms.{Term, sort_of_type}
use Rattle.ss_logic.specs.Shapes.{null_term, class_term, level_of, equal, differ}
use Rattle.ss_logic.specs.Express.{or_of, element_sort}
use Rattle.ss_logic.specs.Frames.{grown}
use Rattle.ss_logic.specs.Sorted.{is_object}
use Rattle.ss_logic_means.specs.Sorts.{HasSort, AreWellFormed}
use Rattle.ss_logic_means.proofs.Sorting.{equal_formed, all_formed, more_formed}
use Rattle.ss_logic_means.proofs.Forming.{F, or_two}
use Rattle.ss_vcgen_heaps.specs.Positions.{Position, Walk, good, check, check_all, new_term, with_new, set_local, local_term, holds_at}
use Rattle.ss_vcgen_heaps.specs.Contracts.{is_of_type}
use Rattle.ss_vcgen_heaps.specs.Obligations.{classes_of, exposed_terms, exposed_formulas, Loop, frame_at_head, levels_at_head, check_head, renew_from, renewed, is_asked_ready, stays_of_type, types_from, at_head}
use Rattle.ss_vcgen_safe.specs.At.{HaveTerms}
use Rattle.ss_vcgen_safe.proofs.Paths.{other_term}
use Rattle.ss_vcgen_safe.specs.Heads.{IsAsked}
use Rattle.ss_vcgen_safe.specs.Places.{AreSorted, IsFormedAt}
use Rattle.ss_vcgen_safe.proofs.Kept.{grown_formed}
use Rattle.ss_vcgen_safe.proofs.Contracts.{object_sorted}
use Rattle.ss_vcgen_safe.proofs.FormedSteps.{assumed_all, checked, checked_all, renewed_one, known_formed, good_formed, store_set, local_set, new_sorted}
use Rattle.ss_vcgen_safe.proofs.FormedValues.{exposed_sorted, conditions_formed}
use Rattle.ss_vcgen_safe.proofs.FormedChanges.{null_formed, not_null_formed, level_formed}
use Rattle.ss_vcgen_safe.proofs.FormedCalls.{type_formed}
use Rattle.ss_vcgen_safe.proofs.FormedReturns.{frame_at}
use Rattle.ss_vcgen_safe.proofs.FormedJoins.{tail_sorted}

-- ---- types of the locals

module _ (w : Walk) (s : Term) (store : HasSort w.program.classes [] sort.Store s) where
  -- the value before and the one now
  stays_formed : (asks : Bool) (t : Ty) (b n : Term) → HasSort w.program.classes [] (sort_of_type t) b → HasSort w.program.classes [] (sort_of_type t) n → AreWellFormed w.program.classes [] (stays_of_type asks s t b n)
  stays_formed asks ty.Int b n h k = type_formed w.program.classes s n store asks ty.Int k
  stays_formed asks ty.Bool b n h k = type_formed w.program.classes s n store asks ty.Bool k
  stays_formed asks ty.Null b n h k = type_formed w.program.classes s n store asks ty.Null k
  stays_formed asks (ty.Ref t false) b n h k = more_formed w.program.classes [] (is_of_type asks s (ty.Ref t false) n) [] (type_formed w.program.classes s n store asks (ty.Ref t false) k) tt
  stays_formed asks (ty.Ref t true) b n h k =
      more_formed w.program.classes [] (is_of_type asks s (ty.Ref t false) n) (or_of (equal b null_term ∷ differ n null_term ∷ []) ∷ []) (type_formed w.program.classes s n store asks (ty.Ref t false) k)
      (or_two w.program.classes [] (equal b null_term) (differ n null_term) (null_formed w.program.classes b h) (not_null_formed w.program.classes n k), tt)

  types_formed : (x : ℕ) (ts : List Ty) (olds news : List (Option Term)) → AreSorted w.program.classes ts olds → AreSorted w.program.classes ts news → AreWellFormed w.program.classes [] (types_from w s x ts olds news)
  types_formed x [] olds news a b = tt
  types_formed x (t ∷ ts) [] news a b = tt
  types_formed x (t ∷ ts) (None ∷ olds) [] a b = tt
  types_formed x (t ∷ ts) (Some u ∷ olds) [] a b = tt
  types_formed x (t ∷ ts) (None ∷ olds) (n ∷ news) a b = types_formed (x + 1) ts olds news (tail_sorted w.program.classes t ts None olds a) (tail_sorted w.program.classes t ts n news b)
  types_formed x (t ∷ ts) (Some u ∷ olds) (None ∷ news) a b = types_formed (x + 1) ts olds news (tail_sorted w.program.classes t ts (Some u) olds a) (tail_sorted w.program.classes t ts None news b)
  types_formed x (t ∷ ts) (Some u ∷ olds) (Some v ∷ news) a b =
      more_formed w.program.classes [] (stays_of_type (is_asked_ready w x) s t u v) (types_from w s (x + 1) ts olds news)
      (stays_formed (is_asked_ready w x) t u v (a 0 t u refl refl) (b 0 t v refl refl))
      (types_formed (x + 1) ts olds news (tail_sorted w.program.classes t ts (Some u) olds a) (tail_sorted w.program.classes t ts (Some v) news b))

-- ---- new constants

-- what is left of a list after a place
abbrev IsRest : List Ty → ℕ → List Ty → Type 0
IsRest all x rest = (i : ℕ) → slice_get rest i ≡ slice_get all (i + x)

module _ (w : Walk) (s : StmtTree) where
  one_renewed : (x : ℕ) (t : Ty) (k : Position) → slice_get (local_types w.body) x ≡ Some t → IsFormedAt w k → (b : Bool) → IsFormedAt w (if b then set_local x (new_term (element_sort (Some t)) k) (with_new (element_sort (Some t)) k) else k)
  one_renewed x t k there is true =
      let r = element_sort (Some t) in
      local_set w x (new_term r k) (with_new r k) (λ a typed. let same : t ≡ a = cc in subst (λ y. HasSort w.program.classes [] (sort_of_type y) (new_term r k)) same (new_sorted w r k)) (renewed_one w r k is)
  one_renewed x t k there is false = is

  all_renewed : (x : ℕ) (ts : List Ty) (k : Position) → IsRest (local_types w.body) x ts → IsFormedAt w k → IsFormedAt w (renew_from s x ts k)
  all_renewed x [] k rest is = is
  all_renewed x (t ∷ ts) k rest is =
      let k' = if assigns s x then set_local x (new_term (element_sort (Some t)) k) (with_new (element_sort (Some t)) k) else k in
      all_renewed (x + 1) ts k' (λ i. rest (suc i) ∙ ap (slice_get (local_types w.body)) (omega arith))
      (one_renewed x t k (sym (rest 0 ∙ ap (slice_get (local_types w.body)) (omega arith))) is (assigns s x))

  pub renewed_formed : (k : Position) → IsFormedAt w k → IsFormedAt w (renewed w s k)
  renewed_formed k is =
      let a = renew_from s 0 (local_types w.body) k in
      let is_a = all_renewed 0 (local_types w.body) k (λ i. ap (slice_get (local_types w.body)) (omega arith)) is in
      store_set w (new_term sort.Store a) (with_new sort.Store a) (new_sorted w sort.Store a) (renewed_one w sort.Store a is_a)

  -- what had a term has one
  terms_renewed : (xs : ℕ → Bool) (x : ℕ) (ts : List Ty) (k : Position) → HaveTerms xs k.locals → HaveTerms xs (renew_from s x ts k).locals
  terms_renewed xs x [] k have = have
  terms_renewed xs x (t ∷ ts) k have =
      let k' = if assigns s x then set_local x (new_term (element_sort (Some t)) k) (with_new (element_sort (Some t)) k) else k in
      terms_renewed xs (x + 1) ts k' (one_of (assigns s x))
    where
      one_of : (b : Bool) → HaveTerms xs (if b then set_local x (new_term (element_sort (Some t)) k) (with_new (element_sort (Some t)) k) else k).locals
      one_of true = λ y asked. let o = have y asked in other_term k.locals x (new_term (element_sort (Some t)) k) y o.0 o.1
      one_of false = have

-- ---- at the head

module _ (w : Walk) (body : IsFormedBody w.program w.body) (entry : HasSort w.program.classes [] sort.Store w.entry) (xs : ℕ → Bool) (l : Loop) (asked : IsAsked w xs l) where
  abbrev cs : List ClassTree
  cs = w.program.classes

  module _ (k : Position) (is : IsFormedAt w k) (have : HaveTerms xs k.locals) where
    one_exposed : (x : ExposedTree) → is_exposable cs w.body x.local x.class ≡ true → xs x.local ≡ true → HasSort cs [] sort.Rest (local_term x.local k)
    one_exposed x h read = exposed_sorted w entry xs k is have x.local x.class read h

    objects_sorted : (es : List ExposedTree) → list_all (λ (x : ExposedTree). is_exposable cs w.body x.local x.class) es ≡ true → list_all xs (map (λ (x : ExposedTree). x.local) es) ≡ true → list_all (is_object cs) (exposed_terms es k) ≡ true
    objects_sorted [] h reads = refl
    objects_sorted (x ∷ es) h reads =
        let p = and_parts (is_exposable cs w.body x.local x.class) (list_all (λ (x : ExposedTree). is_exposable cs w.body x.local x.class) es) h in
        let q = and_parts (xs x.local) (list_all xs (map (λ (x : ExposedTree). x.local) es)) reads in
        and_from (is_object cs (local_term x.local k)) (list_all (is_object cs) (exposed_terms es k)) (object_sorted cs (local_term x.local k) (one_exposed x p.0 q.0)) (objects_sorted es p.1 q.1)

    same_formed : (o : Term) → HasSort cs [] sort.Rest o → (es : List ExposedTree) → list_all (λ (x : ExposedTree). is_exposable cs w.body x.local x.class) es ≡ true → list_all xs (map (λ (x : ExposedTree). x.local) es) ≡ true →
        AreWellFormed cs [] (map (λ v. equal v o) (exposed_terms es k))
    same_formed o i [] h reads = tt
    same_formed o i (x ∷ es) h reads =
        let p = and_parts (is_exposable cs w.body x.local x.class) (list_all (λ (x : ExposedTree). is_exposable cs w.body x.local x.class) es) h in
        let q = and_parts (xs x.local) (list_all xs (map (λ (x : ExposedTree). x.local) es)) reads in
        (equal_formed cs [] true sort.Rest (local_term x.local k) o (one_exposed x p.0 q.0) i, same_formed o i es p.1 q.1)

    exposed_formed : (es : List ExposedTree) → list_all (λ (x : ExposedTree). is_exposable cs w.body x.local x.class) es ≡ true → list_all xs (map (λ (x : ExposedTree). x.local) es) ≡ true → AreWellFormed cs [] (exposed_formulas cs es k)
    exposed_formed [] h reads = tt
    exposed_formed (x ∷ es) h reads =
        let p = and_parts (is_exposable cs w.body x.local x.class) (list_all (λ (x : ExposedTree). is_exposable cs w.body x.local x.class) es) h in
        let q = and_parts (xs x.local) (list_all xs (map (λ (x : ExposedTree). x.local) es)) reads in
        let o = local_term x.local k in
        let i = one_exposed x p.0 q.0 in
        let level = equal (level_of k.store o) (class_term (above cs x.class)) in
        let others = map (λ v. equal v o) (exposed_terms es k) in (
          all_formed cs [] (equal o null_term ∷ others ++ level ∷ []) (null_formed cs o i, more_formed cs [] others (level ∷ []) (same_formed o i es p.1 q.1) (level_formed cs k.store o (above cs x.class) is.store i, tt)),
          exposed_formed es p.1 q.1,
        )

    head_levels : F cs [] (levels_at_head w l k)
    head_levels = all_formed cs [] (exposed_formulas (classes_of w) l.exposes k) (exposed_formed l.exposes asked.exposed asked.operands)

    head_frame : F cs [] (frame_at_head w l k)
    head_frame = frame_at w body entry (exposed_terms l.exposes k) k (objects_sorted l.exposes asked.exposed asked.operands) is

    head_invariants : AreWellFormed cs [] (map (holds_at w k) l.invariants)
    head_invariants = conditions_formed w entry xs k is have in_assert l.invariants asked.reads asked.typed

    pub head_checked : IsFormedAt w (check_head w l k)
    head_checked =
        let a = check_all w kind.LoopInvariant l.place (map (holds_at w k) l.invariants) k in
        let is_a = checked_all w kind.LoopInvariant l.place (map (holds_at w k) l.invariants) k head_invariants is in
        let b = check w kind.LoopFrame l.place (frame_at_head w l k) a in
        let is_b = checked w kind.LoopFrame l.place (frame_at_head w l k) a head_frame is_a in
        checked w kind.LoopLevel l.place (levels_at_head w l k) b head_levels is_b

  pub head_formed : (k : Position) → IsFormedAt w k → HaveTerms xs k.locals → IsFormedAt w (at_head w l k)
  head_formed k is have =
      let r = renewed w l.statement k in
      let is_r = renewed_formed w l.statement k is in
      let h = record r { known = known_head l.statement k.known } in
      let is_h = known_formed w (known_head l.statement k.known) r is_r in
      let have_h = terms_renewed w l.statement xs 0 (local_types w.body) k have in
      let invariants = map (holds_at w h) l.invariants in
      let rest = frame_at_head w l h ∷ levels_at_head w l h ∷ grown w.entry h.store ∷ good h.store ∷ types_from w h.store 0 (local_types w.body) k.locals h.locals in
      assumed_all w (invariants ++ rest) h
      (more_formed cs [] invariants rest (head_invariants h is_h have_h) (
        head_frame h is_h have_h,
        (
          head_levels h is_h have_h,
          (
            grown_formed cs w.entry h.store entry is_h.store,
            (good_formed w h.store is_h.store, types_formed w h.store is_h.store 0 (local_types w.body) k.locals h.locals is.locals is_h.locals),
          ),
        ),
      ))
      is_h
