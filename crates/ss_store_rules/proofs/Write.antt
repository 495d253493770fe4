-- Writing a field keeps a good store good.
use Rattle.std.proofs.Common.{◌≡◌, ℕ, List, Bool, true, false, Some, eqb, refl, sym, ◌∙◌, ap, subst, inl, inr, ◌⊎◌, ⊎_elim}
use Rattle.std.specs.Prelude.{if◌then◌else◌, slice_get}
use Rattle.std.proofs.lemmas.Option.{slice_get_within}
use Rattle.std.proofs.lemmas.Bool.{cases_eq, eq-eqb, ne_eqb, false≢true}
use Rattle.ss_core.specs.declared.names.Mark.TheVariants as mark
use Rattle.ss_core.specs.Tree.{ClassTree}
use Rattle.ss_core.specs.Chain.{below, IsChain}
use Rattle.ss_core.proofs.Chains.{below_trans}
use Rattle.ss_store_rules.specs.declared.Value.{Value}
use Rattle.ss_store_rules.specs.declared.Value.TheVariants as value
use Rattle.ss_store_rules.specs.Store.{Slot, Object, field_value}
use Rattle.ss_store_rules.specs.Changes.{packed, owned_by, field_class, field_mark, field_type, changed, with_field, written}
use Rattle.ss_store_rules.specs.Good.{LooksSame, has_type, is_non_null, IsReady, numbers, Invariants, IsFine, IsGood, IsLocal}
use Rattle.ss_store_rules.proofs.Objects.{was, each_changed, same_at, length-changed}
use Rattle.ss_store_rules.proofs.Typed.{has_type-changed, IsReady-changed, numbers-with_field, value_with_field}
use Rattle.ss_store_rules.proofs.Looks.{LooksSame-changed, inside_committed, not_committed}

-- a field has its value of before, or it is the written one
written_field : (o f : ℕ) (v : Value) (q : ℕ) (y : Object) (g : ℕ) (u : Value) → field_value (written o f v q y) g ≡ Some u → (field_value y g ≡ Some u) ⊎ ((q ≡ o) × (g ≡ f) × (u ≡ v))
written_field o f v q y g u e =
    ⊎_elim
    (λ is. ⊎_elim
    (λ old. inl (sym old ∙ rw (eq-eqb q o is) at e))
    (λ new. inr (is, new.0, new.1 u (rw (eq-eqb q o is) at e)))
    (value_with_field y.fields f v g))
    (λ other. inl (rw (ne_eqb q o other) at e))
    (cases_eq q o)

numbers-if : (b : Bool) (xs : List Slot) (f : ℕ) (v : Value) → numbers (if b then with_field xs f v else xs) ≡ numbers xs
numbers-if true xs f v = numbers-with_field xs f v
numbers-if false xs f v = refl

-- What a write needs: the object isn't packed at the class that declares the field, and the value fits there.
pub record MayBeWritten (cs : List ClassTree) (s : List Object) (o f : ℕ) (v : Value) (x : Object) : Type 0 where
  pub unpacked : packed cs x (field_class cs f) ≡ false
  pub has : below cs x.class (field_class cs f) ≡ true
  pub typed : has_type cs s (field_type cs f) v ≡ true
  pub ready : IsReady s v
  pub non_null : v ≡ value.Null → is_non_null (field_type cs f) ≡ false
  pub rep : (e : ℕ) (y : Object) → v ≡ value.Obj e → field_mark cs f ≡ mark.Rep → slice_get s e ≡ Some y → y.owner ≡ owned_by o (field_class cs f)
  pub peer : (e : ℕ) (y : Object) → v ≡ value.Obj e → field_mark cs f ≡ mark.Peer → slice_get s e ≡ Some y → y.owner ≡ x.owner

pub IsGood-written : (cs : List ClassTree) → IsChain cs → (holds : Invariants) → IsLocal cs holds → (s : List Object) → IsGood cs holds s →
    (o f : ℕ) (v : Value) (x : Object) → slice_get s o ≡ Some x → MayBeWritten cs s o f v x → IsGood cs holds (changed (written o f v) s)
IsGood-written cs h holds local s good o f v x ex may = each_changed c s (IsFine cs holds s') (λ p y e.
    let fine = good p y e in
    record {
      invariants = λ u su. sym (local s s' p u (slice_get_within s p y e) good (looks p u y e su)) ∙ fine.invariants u su;
      full = fine.full;
      owned = λ r u own z' ez. let w = was c s r z' ez in rw (← w.2) (fine.owned r u own w.0 w.1);
      grouped = fine.grouped;
      reps = λ g i field marked z' ez.
          let w = was c s i z' ez in
          rw (← w.2)
          (⊎_elim
          (λ old. fine.reps g i old marked w.0 w.1)
          (λ new. rw (new.0, new.1) (may.rep i w.0 (sym new.2) (subst (λ n. field_mark cs n ≡ mark.Rep) new.1 marked) w.1))
          (written_field o f v p y g (value.Obj i) field));
      peers = λ g i field marked z' ez.
          let w = was c s i z' ez in
          rw (← w.2)
          (⊎_elim
          (λ old. fine.peers g i old marked w.0 w.1)
          (λ new. may.peer i w.0 (sym new.2) (subst (λ n. field_mark cs n ≡ mark.Peer) new.1 marked) w.1 ∙ ap (λ z. z.owner) (sym (same_at s p o y x new.0 e ex)))
          (written_field o f v p y g (value.Obj i) field));
      level = fine.level;
      array = fine.array;
      owner_allocated = λ r u own. rw (length-changed c s) (fine.owner_allocated r u own);
      group_number = λ g own. rw (length-changed c s) (fine.group_number g own);
      values = record {
        class = fine.values.class;
        slots = numbers-if (eqb p o) y.fields f v ∙ fine.values.slots;
        plain = fine.values.plain;
        short = fine.values.short;
        fields = λ g u is. has_type-changed cs c (λ q z. refl) s (field_type cs g) u
            ∙ ⊎_elim (fine.values.fields g u) (λ new. rw (new.1, new.2) may.typed) (written_field o f v p y g u is);
        elements = λ i u is. has_type-changed cs c (λ q z. refl) s _ u ∙ fine.values.elements i u is;
        non_null = λ ready g is. ⊎_elim (fine.values.non_null ready g) (λ new. rw new.1 (may.non_null (sym new.2))) (written_field o f v p y g value.Null is);
        ready_fields = λ g u is. IsReady-changed c (λ q z r. r) s u (⊎_elim (fine.values.ready_fields g u) (λ new. subst (IsReady s) (sym new.2) may.ready) (written_field o f v p y g u is));
        ready_elements = λ i u is. IsReady-changed c (λ q z r. r) s u (fine.values.ready_elements i u is);
      };
    })
  where
    c : ℕ → Object → Object
    c = written o f v

    s' : List Object
    s' = changed (written o f v) s

    -- what is inside a level at which an object is packed is another object
    apart : (q : ℕ) (z : Object) → slice_get s q ≡ Some z → z.committed ≡ true → q ≡ o → ⊥
    apart q z ez committed is =
        let same = same_at s q o z x is ez ex in
        false≢true (sym (not_committed cs holds s good o (field_class cs f) x ex may.unpacked may.has x.committed refl) ∙ subst (λ n. n.committed ≡ true) same committed)

    -- a field declared at a level at which the object is packed stays
    own_kept : (q u g : ℕ) (z : Object) → slice_get s q ≡ Some z → packed cs z u ≡ true → below cs u (field_class cs g) ≡ true → field_value z g ≡ field_value (written o f v q z) g
    own_kept q u g z ez su b =
        ⊎_elim
        (λ is. ⊎_elim
        (λ old. rw (eq-eqb q o is) (sym old))
        (λ new.
        let up : packed cs z (field_class cs f) ≡ true = below_trans cs h z.level u (field_class cs f) su (subst (λ n. below cs u (field_class cs n) ≡ true) new.0 b) in
        absurd (false≢true (sym may.unpacked ∙ subst (λ n. packed cs n (field_class cs f) ≡ true) (same_at s q o z x is ez ex) up)))
        (value_with_field z.fields f v g))
        (λ other. rw (ne_eqb q o other) refl)
        (cases_eq q o)

    looks : (p u : ℕ) (y : Object) → slice_get s p ≡ Some y → packed cs y u ≡ true → LooksSame cs s (changed (written o f v) s) p u
    looks p u y ey su =
        LooksSame-changed cs (written o f v) s p u (λ q z. refl) (λ q z. refl)
        (λ z g ez b. own_kept p u g z ez (subst (λ n. packed cs n u ≡ true) (same_at s p p y z refl ey ez) su) b)
        (λ q z within ez. (rw (ne_eqb q o (apart q z ez (inside_committed cs h holds s good p u y ey su within z ez))) refl, refl))
