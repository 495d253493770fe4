-- Unpacking keeps a good store good.
use Rattle.std.proofs.Common.{◌≡◌, ◌≢◌, ℕ, List, Bool, true, false, not, ◌&&◌, Some, eqb, refl, sym, ◌∙◌, ap, subst, ⊎_elim}
use Rattle.std.specs.Prelude.{if◌then◌else◌, slice_get}
use Rattle.std.proofs.lemmas.Option.{slice_get_within}
use Rattle.std.proofs.lemmas.Bool.{cases_eq, eq-eqb, ne_eqb, or_right, and_parts, false≢true}
use Rattle.ss_core.specs.Tree.{ClassTree}
use Rattle.ss_core.specs.Chain.{is_declared, above, below, IsChain}
use Rattle.ss_core.proofs.Chains.{below_acyclic, below_self, below_trans, below_up}
use Rattle.ss_store_rules.specs.Store.{Object}
use Rattle.ss_store_rules.specs.Changes.{is_array, changed, unpacked, is_owned}
use Rattle.ss_store_rules.specs.Good.{Invariants, IsFine, IsGood, IsLocal}
use Rattle.ss_store_rules.proofs.Objects.{was, each_changed, same_at, length-changed}
use Rattle.ss_store_rules.proofs.Typed.{AreValues-changed}
use Rattle.ss_store_rules.proofs.Looks.{KeepsValues, LooksSame-kept}
use Rattle.ss_store_rules.proofs.Arrays.{declared_not_object, not_both}

and_not_true : (c : Bool) → (c && not true) ≡ false
and_not_true true = refl
and_not_true false = refl

and_not_false : (c : Bool) → (c && not false) ≡ c
and_not_false true = refl
and_not_false false = refl

module _ (cs : List ClassTree) (h : IsChain cs) where
  -- an object owned by r at u is committed exactly where r is packed at u, also once o left the level t
  owned_unpacked : (o t r u : ℕ) → t ≢ 0 → (c : Bool) (level : ℕ) → (r ≡ o → level ≡ t) → c ≡ below cs level u →
      (c && not (eqb r o && eqb u t)) ≡ below cs (if eqb r o then above cs t else level) u
  owned_unpacked o t r u nz c level at e =
      ⊎_elim
      (λ ro. ⊎_elim
      (λ ut. rw (eq-eqb r o ro, eq-eqb u t ut, and_not_true c, ut) (sym (below_acyclic cs h t nz)))
      (λ ut. let tu : t ≡ u → ⊥ = λ x. ut (sym x) in rw (eq-eqb r o ro, ne_eqb u t ut, and_not_false c, e, at ro, below_up cs h t u nz, ne_eqb t u tu) refl)
      (cases_eq u t))
      (λ ro. rw (ne_eqb r o ro, and_not_false c) e)
      (cases_eq r o)

  still_packed : (o t p u level : ℕ) → t ≢ 0 → (p ≡ o → level ≡ t) → below cs (if eqb p o then above cs t else level) u ≡ true → below cs level u ≡ true
  still_packed o t p u level nz at e =
      ⊎_elim
      (λ po. let e' : below cs (above cs t) u ≡ true = rw (eq-eqb p o po) at e in rw (at po, below_up cs h t u nz) (or_right (eqb t u) (below cs (above cs t) u) e'))
      (λ po. rw (ne_eqb p o po) at e)
      (cases_eq p o)

  level_unpacked : (o t p c level : ℕ) → t ≢ 0 → (p ≡ o → level ≡ t) → below cs c level ≡ true → below cs c (if eqb p o then above cs t else level) ≡ true
  level_unpacked o t p c level nz at e =
      ⊎_elim
      (λ po. let e' : below cs c t ≡ true = rw (← at po) e in
      let up : below cs t (above cs t) ≡ true = rw (below_up cs h t (above cs t) nz) (or_right (eqb t (above cs t)) (below cs (above cs t) (above cs t)) (below_self cs (above cs t))) in
      rw (eq-eqb p o po) (below_trans cs h c t (above cs t) e' up))
      (λ po. rw (ne_eqb p o po) e)
      (cases_eq p o)

pub IsGood-unpacked : (cs : List ClassTree) → IsChain cs → (holds : Invariants) → IsLocal cs holds → (s : List Object) → IsGood cs holds s →
    (o t : ℕ) (x : Object) → slice_get s o ≡ Some x → x.level ≡ t → x.committed ≡ false → is_declared cs t ≡ true → IsGood cs holds (changed (unpacked cs o t) s)
IsGood-unpacked cs h holds local s good o t x ex level not_committed declared = each_changed f s (IsFine cs holds s') (λ p y e.
    let fine = good p y e in
    record {
      invariants = λ u su. sym (local s s' p u (slice_get_within s p y e) good (LooksSame-kept cs f keeps s p u))
          ∙ fine.invariants u (still_packed cs h o t p u y.level nz (at p y e) su);
      full = λ c.
          let before = (and_parts y.committed (not (is_owned o t y)) c).0 in
          ⊎_elim
          (λ po. absurd (false≢true (sym not_committed ∙ sym (ap (λ z. z.committed) (same_at s p o y x po e ex)) ∙ before)))
          (λ po. rw (ne_eqb p o po) (fine.full before))
          (cases_eq p o);
      owned = λ r u own z' ez.
          let w = was f s r z' ez in
          rw (own, ← w.2) (owned_unpacked cs h o t r u nz y.committed w.0.level (at r w.0 w.1) (fine.owned r u own w.0 w.1));
      grouped = λ g own. rw (own, fine.grouped g own) refl;
      reps = λ g v field mark z' ez. let w = was f s v z' ez in rw (← w.2) (fine.reps g v field mark w.0 w.1);
      peers = λ g v field mark z' ez. let w = was f s v z' ez in rw (← w.2) (fine.peers g v field mark w.0 w.1);
      level = level_unpacked cs h o t p y.class y.level nz (at p y e) fine.level;
      array = λ a. ⊎_elim
          (λ po. absurd (not_both cs t declared (subst (λ n. is_array cs n ≡ true) (sym (fine.array a) ∙ at p y e po) a)))
          (λ po. rw (ne_eqb p o po) (fine.array a))
          (cases_eq p o);
      owner_allocated = λ r u own. rw (length-changed f s) (fine.owner_allocated r u own);
      group_number = λ g own. rw (length-changed f s) (fine.group_number g own);
      values = AreValues-changed cs f (λ q z. refl) (λ q z r. r) s y (f p y) refl refl refl fine.values.non_null fine.values;
    })
  where
    f : ℕ → Object → Object
    f = unpacked cs o t

    s' : List Object
    s' = changed (unpacked cs o t) s

    nz : t ≢ 0
    nz = declared_not_object cs t declared

    keeps : KeepsValues (unpacked cs o t)
    keeps = record {
      class = λ q z. refl;
      fields = λ q z. refl;
      elements = λ q z. refl;
    }

    at : (q : ℕ) (y : Object) → slice_get s q ≡ Some y → q ≡ o → y.level ≡ t
    at q y e is = ap (λ z. z.level) (same_at s q o y x is e ex) ∙ level
