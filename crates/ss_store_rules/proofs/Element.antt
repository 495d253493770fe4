-- Writing an element keeps a good store good.
use Rattle.std.proofs.Common.{◌≡◌, ℕ, List, length, set, Bool, true, false, Some, eqb, refl, sym, ◌∙◌, subst, inl, inr, ◌⊎◌, ⊎_elim, length-set}
use Rattle.std.specs.Prelude.{if◌then◌else◌, slice_get}
use Rattle.std.proofs.lemmas.Option.{slice_get_within}
use Rattle.std.proofs.lemmas.Bool.{cases_eq, eq-eqb, ne_eqb, false≢true}
use Rattle.ss_core.specs.Tree.{ClassTree}
use Rattle.ss_core.specs.Chain.{IsChain}
use Rattle.ss_store_rules.specs.declared.Value.{Value}
use Rattle.ss_store_rules.specs.Store.{Object}
use Rattle.ss_store_rules.specs.Changes.{packed, element_type, changed, element_written}
use Rattle.ss_store_rules.specs.Good.{LooksSame, has_type, IsReady, Invariants, IsFine, IsGood, IsLocal}
use Rattle.ss_store_rules.proofs.Objects.{was, each_changed, same_at, length-changed}
use Rattle.ss_store_rules.proofs.Typed.{has_type-changed, IsReady-changed, element_set}
use Rattle.ss_store_rules.proofs.Looks.{LooksSame-changed, inside_committed}

-- an element has its value of before, or it is the written one
written_element : (a i : ℕ) (v : Value) (q : ℕ) (y : Object) (j : ℕ) (u : Value) → slice_get (element_written a i v q y).elements j ≡ Some u → (slice_get y.elements j ≡ Some u) ⊎ ((q ≡ a) × (v ≡ u))
written_element a i v q y j u e =
    ⊎_elim
    (λ is. ⊎_elim inl (λ new. inr (is, new)) (element_set y.elements i v j u (rw (eq-eqb q a is) at e)))
    (λ other. inl (rw (ne_eqb q a other) at e))
    (cases_eq q a)

length-if : (b : Bool) (xs : List Value) (i : ℕ) (v : Value) → length (if b then set xs i v else xs) ≡ length xs
length-if true xs i v = length-set xs i v
length-if false xs i v = refl

pub IsGood-element_written : (cs : List ClassTree) → IsChain cs → (holds : Invariants) → IsLocal cs holds → (s : List Object) → IsGood cs holds s →
    (a i : ℕ) (v : Value) (x : Object) → slice_get s a ≡ Some x → x.committed ≡ false → has_type cs s (element_type x.class) v ≡ true → IsReady s v → IsGood cs holds (changed (element_written a i v) s)
IsGood-element_written cs h holds local s good a i v x ex uncommitted typed ready = each_changed c s (IsFine cs holds s') (λ p y e.
    let fine = good p y e in
    record {
      invariants = λ u su. sym (local s s' p u (slice_get_within s p y e) good (looks p u y e su)) ∙ fine.invariants u su;
      full = fine.full;
      owned = λ r u own z' ez. let w = was c s r z' ez in rw (← w.2) (fine.owned r u own w.0 w.1);
      grouped = fine.grouped;
      reps = λ g v field mark z' ez. let w = was c s v z' ez in rw (← w.2) (fine.reps g v field mark w.0 w.1);
      peers = λ g v field mark z' ez. let w = was c s v z' ez in rw (← w.2) (fine.peers g v field mark w.0 w.1);
      level = fine.level;
      array = fine.array;
      owner_allocated = λ r u own. rw (length-changed c s) (fine.owner_allocated r u own);
      group_number = λ g own. rw (length-changed c s) (fine.group_number g own);
      values = record {
        class = fine.values.class;
        slots = fine.values.slots;
        plain = λ n. length-if (eqb p a) y.elements i v ∙ fine.values.plain n;
        short = rw (length-if (eqb p a) y.elements i v) fine.values.short;
        fields = λ g u is. has_type-changed cs c (λ q z. refl) s _ u ∙ fine.values.fields g u is;
        elements = λ j u is. has_type-changed cs c (λ q z. refl) s (element_type y.class) u
            ∙ ⊎_elim (fine.values.elements j u) (λ new. rw (same_at s p a y x new.0 e ex, ← new.1) typed) (written_element a i v p y j u is);
        non_null = fine.values.non_null;
        ready_fields = λ g u is. IsReady-changed c (λ q z r. r) s u (fine.values.ready_fields g u is);
        ready_elements = λ j u is. IsReady-changed c (λ q z r. r) s u (⊎_elim (fine.values.ready_elements j u) (λ new. subst (IsReady s) new.1 ready) (written_element a i v p y j u is));
      };
    })
  where
    c : ℕ → Object → Object
    c = element_written a i v

    s' : List Object
    s' = changed (element_written a i v) s

    -- what is inside a level at which an object is packed is another object
    apart : (q : ℕ) (z : Object) → slice_get s q ≡ Some z → z.committed ≡ true → q ≡ a → ⊥
    apart q z ez committed is = false≢true (sym uncommitted ∙ subst (λ n. n.committed ≡ true) (same_at s q a z x is ez ex) committed)

    looks : (p u : ℕ) (y : Object) → slice_get s p ≡ Some y → packed cs y u ≡ true → LooksSame cs s (changed (element_written a i v) s) p u
    looks p u y ey su =
        LooksSame-changed cs (element_written a i v) s p u (λ q z. refl) (λ q z. length-if (eqb q a) z.elements i v) (λ z g ez b. refl)
        (λ q z within ez. (refl, rw (ne_eqb q a (apart q z ez (inside_committed cs h holds s good p u y ey su within z ez))) refl))
