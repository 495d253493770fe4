-- Where two sides meet.
use Rattle.std.proofs.Common.{◌≡◌, ℕ, ◌+◌, ◌<◌, ◌≤◌, ◌⊎◌, inl, inr, ⊎_elim, List, [], ◌∷◌, ◌++◌, length, take, drop, get_or, refl, sym, subst, ◌∙◌, ap, arith, Bool, true, false, Option, Some, None, append_assoc}
use Rattle.std.specs.Prelude.{if◌then◌else◌, min}
use Rattle.std.proofs.lemmas.Bool.{cases_lt}
use Rattle.std.proofs.lemmas.List.{map_push, drop_all, drop_more, append-nil}
use Rattle.ss_core.specs.declared.names.Ty.{Ty}
use Rattle.ss_core.specs.declared.names.Ty.TheVariants as ty
use Rattle.ss_store_rules.specs.Locals.{local_types}
use Rattle.ss_store_rules.specs.NonNull as NonNull
use Rattle.ss_logic.specs.declared.Sort.{Sort}
use Rattle.ss_logic.specs.declared.Sort.TheVariants as sort
use Rattle.ss_logic.specs.Terms.{Term, sort_of_type}
use Rattle.ss_logic.specs.Equal.{same_term}
use Rattle.ss_logic.specs.Shapes.{equal}
use Rattle.ss_terms.specs.declared.forms.TermId.{TermId}
use Rattle.ss_terms.specs.Forms.{Forms, term_at, IsGrown}
use Rattle.ss_terms.proofs.Grown.{IsGrown-refl, IsGrown-then}
use Rattle.ss_vcgen_heaps.specs.Positions as spec
use Rattle.ss_vcgen_heaps.specs.Positions.{Position}
use Rattle.ss_vcgen_known.specs.Views.{known_of}
use Rattle.ss_vcgen_builder.specs.declared.builder.Builder.{Builder}
use Rattle.ss_vcgen_builder.specs.declared.branches.Spot.{Spot}
use Rattle.ss_vcgen_builder.specs.Builder.{guard_of, local_at, locals_at, position_at, at_spot, join_local, HasLocals, IsLocal, AreLocals, IsFine, Becomes}
use Rattle.ss_vcgen_builder.proofs.Held.{HasLocals-grown, HasLocals-push}
use Rattle.ss_vcgen_builder.proofs.Builds.{becomes_then, becomes_so}

-- ---- terms

-- a join of two terms reads neither the locals nor what is known
by_case : (g h : spec.Guard) (s : Sort) (x y : Term) (k : Position) (ls : List (Option Term)) (v : Bool) →
    (if v then record k { locals = ls } else record (spec.with_new s (record k { locals = ls })) { premises = k.premises ++ spec.under g (equal (spec.new_term s k) x) ∷ spec.under h (equal (spec.new_term s k) y) ∷ [] })
    ≡ record (if v then k else record (spec.with_new s k) { premises = k.premises ++ spec.under g (equal (spec.new_term s k) x) ∷ spec.under h (equal (spec.new_term s k) y) ∷ [] }) { locals = ls }
by_case g h s x y k ls true = refl
by_case g h s x y k ls false = refl

join_term-locals : (g h : spec.Guard) (s : Sort) (x y : Term) (k : Position) (ls : List (Option Term)) → spec.join_term g h s x y (record k { locals = ls }) ≡ record (spec.join_term g h s x y k) { locals = ls }
join_term-locals g h s x y k ls = by_case g h s x y k ls (same_term x y)

store_by_case : (g h : spec.Guard) (s : Sort) (x y : Term) (k : Position) (v : Bool) → (if v then k else record (spec.with_new s k) { premises = k.premises ++ spec.under g (equal (spec.new_term s k) x) ∷ spec.under h (equal (spec.new_term s k) y) ∷ [] }).store ≡ k.store
store_by_case g h s x y k true = refl
store_by_case g h s x y k false = refl

known_by_case : (g h : spec.Guard) (s : Sort) (x y : Term) (k : Position) (v : Bool) → (if v then k else record (spec.with_new s k) { premises = k.premises ++ spec.under g (equal (spec.new_term s k) x) ∷ spec.under h (equal (spec.new_term s k) y) ∷ [] }).known ≡ k.known
known_by_case g h s x y k true = refl
known_by_case g h s x y k false = refl

join_term-store : (g h : spec.Guard) (s : Sort) (x y : Term) (k : Position) → (spec.join_term g h s x y k).store ≡ k.store
join_term-store g h s x y k = store_by_case g h s x y k (same_term x y)

join_term-known : (g h : spec.Guard) (s : Sort) (x y : Term) (k : Position) → (spec.join_term g h s x y k).known ≡ k.known
join_term-known g h s x y k = known_by_case g h s x y k (same_term x y)

-- ---- locals, one after the other

module _ (g h : spec.Guard) where
  join_locals_step : (t : Ty) (ts : List Ty) (x y : Option Term) (xs ys : List (Option Term)) (k : Position) →
      spec.join_locals g h (t ∷ ts) (x ∷ xs) (y ∷ ys) k
      ≡ ((join_local g h (sort_of_type t) x y k).0 ∷ (spec.join_locals g h ts xs ys (join_local g h (sort_of_type t) x y k).1).0, (spec.join_locals g h ts xs ys (join_local g h (sort_of_type t) x y k).1).1)
  join_locals_step t ts (Some x) (Some y) xs ys k = refl
  join_locals_step t ts (Some x) None xs ys k = refl
  join_locals_step t ts None (Some y) xs ys k = refl
  join_locals_step t ts None None xs ys k = refl

  join_locals_end : (ts : List Ty) (xs ys : List (Option Term)) (k : Position) → (ts ≡ []) ⊎ ((xs ≡ []) ⊎ (ys ≡ [])) → spec.join_locals g h ts xs ys k ≡ ([], k)
  join_locals_end ts xs ys k e =
      ⊎_elim
      (λ u. ap (λ l. spec.join_locals g h l xs ys k) u)
      (λ o. ⊎_elim (λ u. ap (λ l. spec.join_locals g h ts l ys k) u ∙ first_end ts ys) (λ u. ap (λ l. spec.join_locals g h ts xs l k) u ∙ second_end ts xs) o)
      e
    where
      first_end : (ts : List Ty) (ys : List (Option Term)) → spec.join_locals g h ts [] ys k ≡ ([], k)
      first_end [] ys = refl
      first_end (t ∷ ts) ys = refl

      second_end : (ts : List Ty) (xs : List (Option Term)) → spec.join_locals g h ts xs [] k ≡ ([], k)
      second_end [] xs = refl
      second_end (t ∷ ts) [] = refl
      second_end (t ∷ ts) (Some x ∷ xs) = refl
      second_end (t ∷ ts) (None ∷ xs) = refl

  join_local-store : (s : Sort) (x y : Option Term) (k : Position) → (join_local g h s x y k).1.store ≡ k.store
  join_local-store s (Some x) (Some y) k = join_term-store g h s x y k
  join_local-store s (Some x) None k = refl
  join_local-store s None y k = refl

  join_local-known : (s : Sort) (x y : Option Term) (k : Position) → (join_local g h s x y k).1.known ≡ k.known
  join_local-known s (Some x) (Some y) k = join_term-known g h s x y k
  join_local-known s (Some x) None k = refl
  join_local-known s None y k = refl

  join_locals-store : (ts : List Ty) (xs ys : List (Option Term)) (k : Position) → (spec.join_locals g h ts xs ys k).1.store ≡ k.store
  join_locals-store [] xs ys k = refl
  join_locals-store (t ∷ ts) [] ys k = refl
  join_locals-store (t ∷ ts) (x ∷ xs) [] k = ap (λ (p : List (Option Term) × Position). p.1.store) (join_locals_end (t ∷ ts) (x ∷ xs) [] k (inr (inr refl)))
  join_locals-store (t ∷ ts) (x ∷ xs) (y ∷ ys) k =
      ap (λ (p : List (Option Term) × Position). p.1.store) (join_locals_step t ts x y xs ys k)
      ∙ join_locals-store ts xs ys (join_local g h (sort_of_type t) x y k).1
      ∙ join_local-store (sort_of_type t) x y k

  join_locals-known : (ts : List Ty) (xs ys : List (Option Term)) (k : Position) → (spec.join_locals g h ts xs ys k).1.known ≡ k.known
  join_locals-known [] xs ys k = refl
  join_locals-known (t ∷ ts) [] ys k = refl
  join_locals-known (t ∷ ts) (x ∷ xs) [] k = ap (λ (p : List (Option Term) × Position). p.1.known) (join_locals_end (t ∷ ts) (x ∷ xs) [] k (inr (inr refl)))
  join_locals-known (t ∷ ts) (x ∷ xs) (y ∷ ys) k =
      ap (λ (p : List (Option Term) × Position). p.1.known) (join_locals_step t ts x y xs ys k)
      ∙ join_locals-known ts xs ys (join_local g h (sort_of_type t) x y k).1
      ∙ join_local-known (sort_of_type t) x y k

  module _ (s₀ : Builder) (types : List Ty) (firsts seconds : List (Option TermId)) where
    abbrev pub met : Forms → List (Option Term) × Position
    met b = spec.join_locals g h types (locals_at b firsts) (locals_at b seconds) (position_at b s₀)

    -- what is left, from where the builder is
    abbrev pub left : Forms → Builder → List Ty → List (Option TermId) → List (Option TermId) → List (Option Term) × Position
    left b s ts xs ys = spec.join_locals g h ts (locals_at b xs) (locals_at b ys) (position_at b s)

    -- those before are joined
    pub record Joining (s : Builder) (joined : List (Option TermId)) (ts : List Ty) (xs ys : List (Option TermId)) : Type 0 where
      pub fine : IsFine s
      pub grown : IsGrown s₀.bank s.bank
      pub has : HasLocals s.bank joined
      pub are : (b : Forms) → IsGrown s.bank b → locals_at b joined ++ (left b s ts xs ys).0 ≡ (met b).0
      pub is : (b : Forms) → IsGrown s.bank b → (left b s ts xs ys).1 ≡ (met b).1
      pub first : s.first ≡ s₀.first
      pub before : take s₀.first s.trail.items ≡ take s₀.first s₀.trail.items

    pub joining_start : IsFine s₀ → Joining s₀ [] types firsts seconds
    joining_start fine = record { fine = fine; grown = IsGrown-refl s₀.bank; has = tt; are = λ b k. refl; is = λ b k. refl; first = refl; before = refl }

    pub joining_on : (s u : Builder) (joined after : List (Option TermId)) (l : Option TermId) (t : Ty) (ts : List Ty) (x y : Option TermId) (xs ys : List (Option TermId)) → Joining s joined (t ∷ ts) (x ∷ xs) (y ∷ ys) → (of : Sort) → of ≡ sort_of_type t →
        Becomes s u (λ b. (join_local g h of (local_at b x) (local_at b y) (position_at b s)).1) → IsLocal u.bank l (λ b. (join_local g h of (local_at b x) (local_at b y) (position_at b s)).0) →
        after ≡ joined ++ l ∷ [] → Joining u after ts xs ys
    joining_on s u joined after l t ts x y xs ys j of sorted p₀ is₀ e =
        let p = subst (λ (v : Sort). Becomes s u (λ b. (join_local g h v (local_at b x) (local_at b y) (position_at b s)).1)) sorted p₀ in
        let is = subst (λ (v : Sort). IsLocal u.bank l (λ b. (join_local g h v (local_at b x) (local_at b y) (position_at b s)).0)) sorted is₀ in
        let one = λ (b : Forms). join_local g h (sort_of_type t) (local_at b x) (local_at b y) (position_at b s) in
        let rest = λ (b : Forms) (k : Position). spec.join_locals g h ts (locals_at b xs) (locals_at b ys) k in
        let step = λ (b : Forms). join_locals_step t ts (local_at b x) (local_at b y) (locals_at b xs) (locals_at b ys) (position_at b s) in
        record {
          fine = p.fine;
          grown = IsGrown-then s₀.bank s.bank u.bank j.grown p.grown;
          has = rw e (HasLocals-push u.bank joined l (HasLocals-grown s.bank u.bank p.grown joined j.has) is.has);
          are = λ b k.
              let back = IsGrown-then s.bank u.bank b p.grown k in
              ap (λ ls. locals_at b ls ++ (rest b (position_at b u)).0) e
              ∙ ap (λ ls. ls ++ (rest b (position_at b u)).0) (map_push (local_at b) joined l)
              ∙ ap (λ v. (locals_at b joined ++ v ∷ []) ++ (rest b (position_at b u)).0) (is.is b k)
              ∙ ap (λ (m : Position). (locals_at b joined ++ (one b).0 ∷ []) ++ (rest b m).0) (p.is b k)
              ∙ append_assoc (locals_at b joined) ((one b).0 ∷ []) (rest b (one b).1).0
              ∙ ap (λ (q : List (Option Term) × Position). locals_at b joined ++ q.0) (sym (step b))
              ∙ j.are b back;
          is = λ b k. ap (λ (m : Position). (rest b m).1) (p.is b k) ∙ ap (λ (q : List (Option Term) × Position). q.1) (sym (step b)) ∙ j.is b (IsGrown-then s.bank u.bank b p.grown k);
          first = p.first ∙ j.first;
          before = ap (λ n. take n u.trail.items) (sym j.first) ∙ p.before ∙ ap (λ n. take n s.trail.items) j.first ∙ j.before;
        }

    -- the next of each list
    pub joining_next : (s : Builder) (joined : List (Option TermId)) (n i : ℕ) → n ≡ min (length types) (min (length firsts) (length seconds)) → i < n → Joining s joined (drop i types) (drop i firsts) (drop i seconds) →
        Joining s joined (get_or types i ty.Int ∷ drop (i + 1) types) (get_or firsts i None ∷ drop (i + 1) firsts) (get_or seconds i None ∷ drop (i + 1) seconds)
    joining_next s joined n i e lt j =
        let one = subst (λ (l : List Ty). Joining s joined l (drop i firsts) (drop i seconds)) (drop_more types i ty.Int (omega (arith, e, lt))) j in
        let two = subst (λ (l : List (Option TermId)). Joining s joined (get_or types i ty.Int ∷ drop (i + 1) types) l (drop i seconds)) (drop_more firsts i None (omega (arith, e, lt))) one in
        subst (λ (l : List (Option TermId)). Joining s joined (get_or types i ty.Int ∷ drop (i + 1) types) (get_or firsts i None ∷ drop (i + 1) firsts) l) (drop_more seconds i None (omega (arith, e, lt))) two

    module _ (s : Builder) (joined : List (Option TermId)) (ts : List Ty) (xs ys : List (Option TermId)) (j : Joining s joined ts xs ys) (over : (ts ≡ []) ⊎ ((xs ≡ []) ⊎ (ys ≡ []))) where
      none : (b : Forms) → left b s ts xs ys ≡ ([], position_at b s)
      none b = join_locals_end ts (locals_at b xs) (locals_at b ys) (position_at b s) (⊎_elim (λ e. inl e) (λ o. inr (⊎_elim (λ e. inl (ap (locals_at b) e)) (λ e. inr (ap (locals_at b) e)) o)) over)

      pub joined_locals : AreLocals s.bank joined (λ b. (met b).0)
      joined_locals = record { has = j.has; are = λ b k. sym (append-nil (locals_at b joined)) ∙ ap (λ (q : List (Option Term) × Position). locals_at b joined ++ q.0) (sym (none b)) ∙ j.are b k }

      pub joined_becomes : Becomes s₀ s (λ b. (met b).1)
      joined_becomes = record { fine = j.fine; grown = j.grown; is = λ b k. ap (λ (q : List (Option Term) × Position). q.1) (sym (none b)) ∙ j.is b k; first = j.first; before = j.before }

-- one of the lists is at its end
pub over_at : (ts : List Ty) (xs ys : List (Option TermId)) (n i : ℕ) → n ≡ min (length ts) (min (length xs) (length ys)) → n ≤ i → (drop i ts ≡ []) ⊎ ((drop i xs ≡ []) ⊎ (drop i ys ≡ []))
over_at ts xs ys n i e le =
    ⊎_elim
    (λ more. ⊎_elim (λ m. inr (inr (drop_all i ys (omega (arith, e, le, more, m))))) (λ l. inr (inl (drop_all i xs l))) (cases_lt i (length xs)))
    (λ l. inl (drop_all i ts l))
    (cases_lt i (length ts))

-- ---- both sides

joined_both : (g h : spec.Guard) (ts : List Ty) (meet : NonNull.Known → NonNull.Known → NonNull.Known) (ls : List (Option Term)) (x : Term) (k₁ : NonNull.Known) (k : Position) →
    (let j = spec.join_locals g h ts ls k.locals (spec.join_guard g h k) in
    let behind = record j.1 { locals = j.0 } in
    let stored = record (spec.join_term g h sort.Store x behind.store behind) { store = spec.joined_term sort.Store x behind.store behind } in
    record stored { known = meet k₁ stored.known })
    ≡ (let j = spec.join_locals g h ts ls k.locals (spec.join_guard g h k) in
    record (spec.join_term g h sort.Store x k.store j.1) { locals = j.0; store = spec.joined_term sort.Store x k.store j.1; known = meet k₁ k.known })
joined_both g h ts meet ls x k₁ k =
    let j = spec.join_locals g h ts ls k.locals (spec.join_guard g h k) in
    let whole = λ (l : Position) (s : Term) (m : NonNull.Known). record l { locals = j.0; store = spec.joined_term sort.Store x s j.1; known = meet k₁ m } in
    ap (λ (l : Position). record l { store = spec.joined_term sort.Store x j.1.store j.1; known = meet k₁ l.known }) (join_term-locals g h sort.Store x j.1.store j.1 j.0)
    ∙ ap (λ (m : NonNull.Known). whole (spec.join_term g h sort.Store x j.1.store j.1) j.1.store m) (join_term-known g h sort.Store x j.1.store j.1 ∙ join_locals-known g h ts ls k.locals (spec.join_guard g h k))
    ∙ ap (λ (s : Term). whole (spec.join_term g h sort.Store x s j.1) s k.known) (join_locals-store g h ts ls k.locals (spec.join_guard g h k))

pub both_become : (s t u v z : Builder) (first : Spot) (w : Forms → spec.Walk) (types : List Ty) (firsts : List (Option TermId)) → firsts ≡ first.locals.items → ((b : Forms) → types ≡ local_types (w b).body) →
    Becomes s t (λ b. spec.join_guard (guard_of first.guard) (guard_of s.guard) (position_at b s)) →
    Becomes t u (λ b. let j = spec.join_locals (guard_of first.guard) (guard_of s.guard) types (locals_at b firsts) (position_at b t).locals (position_at b t) in record j.1 { locals = j.0 }) →
    Becomes u v (λ b. record (spec.join_term (guard_of first.guard) (guard_of s.guard) sort.Store (term_at b first.store) (position_at b u).store (position_at b u)) { store = spec.joined_term sort.Store (term_at b first.store) (position_at b u).store (position_at b u) }) →
    Becomes v z (λ b. record (position_at b v) { known = NonNull.known_met (known_of first.known) (position_at b v).known }) →
    Becomes s z (λ b. spec.join_both (w b) NonNull.known_met (at_spot b first (position_at b s)) (position_at b s))
both_become s t u v z first w types firsts e of p q r x =
    let g = guard_of first.guard in
    let h = guard_of s.guard in
    let located = λ (b : Forms) (k : Position). (let j = spec.join_locals g h types (locals_at b firsts) k.locals k in record j.1 { locals = j.0 }) in
    let stored = λ (b : Forms) (k : Position). record (spec.join_term g h sort.Store (term_at b first.store) k.store k) { store = spec.joined_term sort.Store (term_at b first.store) k.store k } in
    let knowing = λ (b : Forms) (k : Position). record k { known = NonNull.known_met (known_of first.known) k.known } in
    let start = λ (b : Forms). spec.join_guard g h (position_at b s) in
    let whole = λ (b : Forms) (ts : List Ty) (ls : List (Option Term)).
    (let j = spec.join_locals g h ts ls (position_at b s).locals (start b) in
    record (spec.join_term g h sort.Store (term_at b first.store) (position_at b s).store j.1) {
      locals = j.0;
      store = spec.joined_term sort.Store (term_at b first.store) (position_at b s).store j.1;
      known = NonNull.known_met (known_of first.known) (position_at b s).known;
    }) in
    becomes_so s z (λ b. knowing b (stored b (located b (start b)))) (λ b. spec.join_both (w b) NonNull.known_met (at_spot b first (position_at b s)) (position_at b s))
    (becomes_then s v z (λ b. stored b (located b (start b))) knowing (becomes_then s u v (λ b. located b (start b)) stored (becomes_then s t u start located p q) r) x)
    (λ b k.
    joined_both g h types NonNull.known_met (locals_at b firsts) (term_at b first.store) (known_of first.known) (position_at b s)
    ∙ ap (λ (ls : List (Option TermId)). whole b types (locals_at b ls)) e
    ∙ ap (λ (ts : List Ty). whole b ts (locals_at b first.locals.items)) (of b))
