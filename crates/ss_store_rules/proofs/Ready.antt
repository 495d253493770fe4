-- An object that becomes ready keeps a good store good.
use Rattle.std.proofs.Common.{◌≡◌, ℕ, List, false, Some, eqb, refl, sym, ◌∙◌, subst, ⊎_elim}
use Rattle.std.specs.Prelude.{slice_get}
use Rattle.std.proofs.lemmas.Option.{slice_get_within}
use Rattle.std.proofs.lemmas.Bool.{eqb-true, or_cases}
use Rattle.ss_core.specs.Tree.{ClassTree}
use Rattle.ss_store_rules.specs.declared.Value.TheVariants as value
use Rattle.ss_store_rules.specs.Store.{Object, field_value}
use Rattle.ss_store_rules.specs.Changes.{field_type, changed, made_ready}
use Rattle.ss_store_rules.specs.Good.{is_non_null, Invariants, IsFine, IsGood, IsLocal}
use Rattle.ss_store_rules.proofs.Objects.{was, each_changed, length-changed}
use Rattle.ss_store_rules.proofs.Typed.{AreValues-changed}
use Rattle.ss_store_rules.proofs.Looks.{KeepsValues, LooksSame-kept}

pub IsGood-made_ready : (cs : List ClassTree) (holds : Invariants) → IsLocal cs holds → (s : List Object) → IsGood cs holds s →
    (o : ℕ) → ((x : Object) (f : ℕ) → slice_get s o ≡ Some x → field_value x f ≡ Some value.Null → is_non_null (field_type cs f) ≡ false) → IsGood cs holds (changed (made_ready o) s)
IsGood-made_ready cs holds local s good o whole = each_changed f s (IsFine cs holds s') (λ p y e.
    let fine = good p y e in
    record {
      invariants = λ u su. sym (local s s' p u (slice_get_within s p y e) good (LooksSame-kept cs f keeps s p u)) ∙ fine.invariants u su;
      full = fine.full;
      owned = λ r u own z' ez. let w = was f s r z' ez in rw (← w.2) (fine.owned r u own w.0 w.1);
      grouped = fine.grouped;
      reps = λ g v field mark z' ez. let w = was f s v z' ez in rw (← w.2) (fine.reps g v field mark w.0 w.1);
      peers = λ g v field mark z' ez. let w = was f s v z' ez in rw (← w.2) (fine.peers g v field mark w.0 w.1);
      level = fine.level;
      array = fine.array;
      owner_allocated = λ r u own. rw (length-changed f s) (fine.owner_allocated r u own);
      group_number = λ g own. rw (length-changed f s) (fine.group_number g own);
      values = AreValues-changed cs f (λ q z. refl) (λ q z r. rw r refl) s y (f p y) refl refl refl
          (λ ready g is. ⊎_elim (λ before. fine.values.non_null before g is) (λ po. whole y g (subst (λ n. slice_get s n ≡ Some y) (eqb-true p o po) e) is) (or_cases y.ready (eqb p o) ready))
          fine.values;
    })
  where
    f : ℕ → Object → Object
    f = made_ready o

    s' : List Object
    s' = changed (made_ready o) s

    keeps : KeepsValues (made_ready o)
    keeps = record {
      class = λ q z. refl;
      fields = λ q z. refl;
      elements = λ q z. refl;
    }
