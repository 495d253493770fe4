-- Packing keeps a good store good.
use Rattle.std.proofs.Common.{◌≡◌, ◌≢◌, ℕ, zero, suc, List, [], ◌∷◌, Bool, true, false, not, ◌&&◌, ◌||◌, Some, eqb, refl, sym, ◌∙◌, ap, subst, ⊎_elim}
use Rattle.std.specs.Prelude.{if◌then◌else◌, slice_get}
use Rattle.std.specs.List.{list_all}
use Rattle.std.proofs.lemmas.Option.{slice_get_within}
use Rattle.std.proofs.lemmas.Bool.{cases_eq, eq-eqb, ne_eqb, eqb-true, or_cases, and_parts, false≢true}
use Rattle.ss_core.specs.Tree.{ClassTree}
use Rattle.ss_core.specs.Chain.{is_declared, above, below, IsChain}
use Rattle.ss_core.proofs.Chains.{below_acyclic, below_self, below_up}
use Rattle.ss_store_rules.specs.Store.{Object}
use Rattle.ss_store_rules.specs.Changes.{changed, repacked, is_owned, may_be_committed}
use Rattle.ss_store_rules.specs.Good.{Invariants, IsFine, IsGood, IsLocal}
use Rattle.ss_store_rules.proofs.Objects.{was, each_changed, same_at, length-changed}
use Rattle.ss_store_rules.proofs.Typed.{AreValues-changed}
use Rattle.ss_store_rules.proofs.Looks.{KeepsValues, LooksSame-kept}
use Rattle.ss_store_rules.proofs.Arrays.{declared_not_object}

or_true : (c : Bool) → (c || true) ≡ true
or_true true = refl
or_true false = refl

or_false : (c : Bool) → (c || false) ≡ c
or_false true = refl
or_false false = refl

-- an object owned by r at u is committed exactly where r is packed at u, also once o is at the level t
owned_packed : (cs : List ClassTree) (h : IsChain cs) (o t r u : ℕ) → t ≢ 0 → (c : Bool) (level : ℕ) → (r ≡ o → level ≡ above cs t) → c ≡ below cs level u →
    (c || (eqb r o && eqb u t)) ≡ below cs (if eqb r o then t else level) u
owned_packed cs h o t r u nz c level at e =
    ⊎_elim
    (λ ro. ⊎_elim
    (λ ut. rw (eq-eqb r o ro, eq-eqb u t ut, or_true c, ut) (sym (below_self cs t)))
    (λ ut. let tu : t ≡ u → ⊥ = λ x. ut (sym x) in rw (eq-eqb r o ro, ne_eqb u t ut, or_false c, below_up cs h t u nz, ne_eqb t u tu, e, at ro) refl)
    (cases_eq u t))
    (λ ro. rw (ne_eqb r o ro, or_false c) e)
    (cases_eq r o)

all_at : (test : Object → Bool) (s : List Object) (q : ℕ) (x : Object) → list_all test s ≡ true → slice_get s q ≡ Some x → test x ≡ true
all_at test [] q x h e = cc
all_at test (y ∷ s) zero x h e = let same : y ≡ x = cc in subst (λ z. test z ≡ true) same (and_parts (test y) (list_all test s) h).0
all_at test (y ∷ s) (suc q) x h e = all_at test s q x (and_parts (test y) (list_all test s) h).1 e

full_where : (b l n : Bool) → (not b || l && n) ≡ true → b ≡ true → l ≡ true
full_where true true n h e = refl
full_where true false n h e = absurd (false≢true h)
full_where false l n h e = absurd (false≢true e)

pub IsGood-packed : (cs : List ClassTree) → IsChain cs → (holds : Invariants) → IsLocal cs holds → (s : List Object) → IsGood cs holds s →
    (o t : ℕ) (x : Object) → slice_get s o ≡ Some x → x.level ≡ above cs t → is_declared cs t ≡ true → below cs x.class t ≡ true → holds s o t ≡ true → list_all (may_be_committed o t) s ≡ true →
    IsGood cs holds (changed (repacked o t) s)
IsGood-packed cs h holds local s good o t x ex level declared has_level invariant ready = each_changed f s (IsFine cs holds s') (λ p y e.
    let fine = good p y e in
    record {
      invariants = λ u su. sym (local s s' p u (slice_get_within s p y e) good (LooksSame-kept cs f keeps s p u))
          ∙ ⊎_elim
          (λ po. ⊎_elim
          (λ tu. rw (po, ← tu) invariant)
          (λ tu. let su' : below cs t u ≡ true = rw (eq-eqb p o po) at su in
          let su'' : below cs (above cs t) u ≡ true = rw (below_up cs h t u nz, ne_eqb t u tu) at su' in
          fine.invariants u (rw (at p y e po) su''))
          (cases_eq t u))
          (λ po. fine.invariants u (rw (ne_eqb p o po) at su))
          (cases_eq p o);
      full = λ c. ⊎_elim
          (λ po. absurd (⊎_elim (λ before. not_full p y e po (fine.full before)) (λ own. not_full p y e po (full_if p y e own)) (or_cases y.committed (is_owned o t y) c)))
          (λ po. rw (ne_eqb p o po) (⊎_elim fine.full (full_if p y e) (or_cases y.committed (is_owned o t y) c)))
          (cases_eq p o);
      owned = λ r u own z' ez.
          let w = was f s r z' ez in
          rw (own, ← w.2) (owned_packed cs h o t r u nz y.committed w.0.level (at r w.0 w.1) (fine.owned r u own w.0 w.1));
      grouped = λ g own. rw (own, fine.grouped g own) refl;
      reps = λ g v field mark z' ez. let w = was f s v z' ez in rw (← w.2) (fine.reps g v field mark w.0 w.1);
      peers = λ g v field mark z' ez. let w = was f s v z' ez in rw (← w.2) (fine.peers g v field mark w.0 w.1);
      level = ⊎_elim
          (λ po. rw (eq-eqb p o po) (has p y e po))
          (λ po. rw (ne_eqb p o po) fine.level)
          (cases_eq p o);
      array = λ a. ⊎_elim
          (λ po. absurd (not_full p y e po (fine.array a)))
          (λ po. rw (ne_eqb p o po) (fine.array a))
          (cases_eq p o);
      owner_allocated = λ r u own. rw (length-changed f s) (fine.owner_allocated r u own);
      group_number = λ g own. rw (length-changed f s) (fine.group_number g own);
      values = AreValues-changed cs f (λ q z. refl) (λ q z r. r) s y (f p y) refl refl refl fine.values.non_null fine.values;
    })
  where
    f : ℕ → Object → Object
    f = repacked o t

    s' : List Object
    s' = changed (repacked o t) s

    nz : t ≢ 0
    nz = declared_not_object cs t declared

    keeps : KeepsValues (repacked o t)
    keeps = record {
      class = λ q z. refl;
      fields = λ q z. refl;
      elements = λ q z. refl;
    }

    at : (q : ℕ) (y : Object) → slice_get s q ≡ Some y → q ≡ o → y.level ≡ above cs t
    at q y e is = ap (λ z. z.level) (same_at s q o y x is e ex) ∙ level

    has : (q : ℕ) (y : Object) → slice_get s q ≡ Some y → q ≡ o → below cs y.class t ≡ true
    has q y e is = subst (λ z. below cs z.class t ≡ true) (sym (same_at s q o y x is e ex)) has_level

    -- the object is not at its full level before
    not_full : (q : ℕ) (y : Object) → slice_get s q ≡ Some y → q ≡ o → y.level ≡ y.class → ⊥
    not_full q y e is full =
        let c : y.class ≡ above cs t = sym full ∙ at q y e is in
        false≢true (sym (below_acyclic cs h t nz) ∙ subst (λ z. below cs z t ≡ true) c (has q y e is))

    -- what it owns at the level is at its full level
    full_if : (q : ℕ) (y : Object) → slice_get s q ≡ Some y → is_owned o t y ≡ true → y.level ≡ y.class
    full_if q y e own = eqb-true y.level y.class (full_where (is_owned o t y) (eqb y.level y.class) (not y.committed) (all_at (may_be_committed o t) s q y ready e) own)
