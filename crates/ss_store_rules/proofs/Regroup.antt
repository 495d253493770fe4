-- Where a whole group gets an owner, a good store stays good.
use Rattle.std.proofs.Common.{◌≡◌, ℕ, ◌<◌, List, length, false, Some, refl, sym, ◌∙◌, ap, inl, inr, ◌⊎◌, ⊎_elim}
use Rattle.std.specs.Prelude.{if◌then◌else◌, slice_get}
use Rattle.std.proofs.lemmas.Option.{slice_get_within}
use Rattle.std.proofs.lemmas.Bool.{cases_eq, eq-eqb, ne_eqb}
use Rattle.ss_core.specs.Tree.{ClassTree}
use Rattle.ss_store_rules.specs.declared.Owner.{Owner}
use Rattle.ss_store_rules.specs.declared.Owner.TheVariants as owner
use Rattle.ss_store_rules.specs.Store.{Object}
use Rattle.ss_store_rules.specs.Changes.{packed, owned_by, changed, regrouped}
use Rattle.ss_store_rules.specs.Reads.{is_in_group}
use Rattle.ss_store_rules.specs.Good.{Invariants, IsFine, IsGood, IsLocal}
use Rattle.ss_store_rules.proofs.Objects.{was, each_changed, length-changed}
use Rattle.ss_store_rules.proofs.Typed.{AreValues-changed}
use Rattle.ss_store_rules.proofs.Looks.{KeepsValues, LooksSame-kept}

-- What the new owner is to be: a group with the number of a position, or an object that isn't packed at the class.
pub record MayOwn (cs : List ClassTree) (s : List Object) (w : Owner) : Type 0 where
  pub group_number : (g : ℕ) → w ≡ owner.Group g → g < length s
  pub owner_allocated : (p t : ℕ) → w ≡ owned_by p t → p < length s
  pub unpacked : (p t : ℕ) → w ≡ owned_by p t → (y : Object) → slice_get s p ≡ Some y → packed cs y t ≡ false

-- the owner of a member becomes the new one, and any other stays
pub owner_regrouped : (g : ℕ) (w v : Owner) → ((v ≡ owner.Group g) × ((if is_in_group g v then w else v) ≡ w)) ⊎ ((if is_in_group g v then w else v) ≡ v)
owner_regrouped g w (owner.Owned p u) = inr refl
owner_regrouped g w (owner.Group h) = ⊎_elim (λ e. inl (ap owner.Group e, rw (eq-eqb h g e) refl)) (λ n. inr (rw (ne_eqb h g n) refl)) (cases_eq h g)

pub IsGood-regrouped : (cs : List ClassTree) (holds : Invariants) → IsLocal cs holds → (s : List Object) → IsGood cs holds s →
    (g : ℕ) (w : Owner) → MayOwn cs s w → IsGood cs holds (changed (regrouped g w) s)
IsGood-regrouped cs holds local s good g w may = each_changed f s (IsFine cs holds s') (λ p y e.
    let fine = good p y e in
    let now = owner_regrouped g w y.owner in
    record {
      invariants = λ u su. sym (local s s' p u (slice_get_within s p y e) good (LooksSame-kept cs f keeps s p u)) ∙ fine.invariants u su;
      full = fine.full;
      owned = λ r u own z' ez.
          let z = was f s r z' ez in
          ⊎_elim
          (λ new. rw (fine.grouped g new.0, ← z.2) (sym (may.unpacked r u (sym new.1 ∙ own) z.0 z.1)))
          (λ old. rw (← z.2) (fine.owned r u (sym old ∙ own) z.0 z.1))
          now;
      grouped = λ h own. ⊎_elim (λ new. fine.grouped g new.0) (λ old. fine.grouped h (sym old ∙ own)) now;
      reps = λ i v field mark z' ez. let z = was f s v z' ez in rw (← z.2, fine.reps i v field mark z.0 z.1) refl;
      peers = λ i v field mark z' ez. let z = was f s v z' ez in rw (← z.2, fine.peers i v field mark z.0 z.1) refl;
      level = fine.level;
      array = fine.array;
      owner_allocated = λ r u own. rw (length-changed f s) (⊎_elim (λ new. may.owner_allocated r u (sym new.1 ∙ own)) (λ old. fine.owner_allocated r u (sym old ∙ own)) now);
      group_number = λ h own. rw (length-changed f s) (⊎_elim (λ new. may.group_number h (sym new.1 ∙ own)) (λ old. fine.group_number h (sym old ∙ own)) now);
      values = AreValues-changed cs f (λ q z. refl) (λ q z r. r) s y (f p y) refl refl refl fine.values.non_null fine.values;
    })
  where
    f : ℕ → Object → Object
    f = regrouped g w

    s' : List Object
    s' = changed (regrouped g w) s

    keeps : KeepsValues (regrouped g w)
    keeps = record {
      class = λ q z. refl;
      fields = λ q z. refl;
      elements = λ q z. refl;
    }
