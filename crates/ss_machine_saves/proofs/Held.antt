-- What an object holds, logged where it is listed.
use Rattle.std.proofs.Common.{◌≡◌, ◌⊎◌, inl, inr, ⊎_elim, ℕ, List, Bool, true, false, ◌==◌, ◌&&◌, Result, Ok, Err, OnOk, refl, sym, ◌∙◌, subst}
use Rattle.std.proofs.lemmas.Bool.{eqb-true, eq-eqb}
use Rattle.ss_store_rules.specs.declared.Owner.{Owner}
use Rattle.ss_store_rules.specs.declared.Owner.TheVariants as owner
use Rattle.ss_store_rules.specs.Store.{Object}
use Rattle.ss_store.specs.Listed.{holder, HoldsNoOther}
use Rattle.ss_journal.specs.Shapes.{Segment}
use Rattle.ss_journal.specs.Saved.{HasMore}
use Rattle.ss_machine_saves.specs.Whole.{is_listed}
use Rattle.ss_machine_saves.specs.Moved.{has_owner, holder_of, AreSaved, IsSavedAt}
use Rattle.ss_machine_saves.specs.declared.owners.Owned.{Owned}
use Rattle.ss_machine_saves.specs.declared.owners.Owned.TheVariants as owned

both_left : (a b : Bool) → (a && b) ≡ true → a ≡ true
both_left true b e = refl
both_left false b e = e

holds_those : (those : Owned) (w : Owner) → has_owner those w ≡ true → holder w ≡ holder_of those
holds_those (owned.Pair o t) (owner.Owned p u) e = eqb-true p o (both_left (p == o) (u.0 == t.0) e)
holds_those (owned.Pair o t) (owner.Group g) e = absurd (let f : false ≡ true = e in cc)
holds_those (owned.Member g) (owner.Owned p u) e = absurd (let f : false ≡ true = e in cc)
holds_those (owned.Member g) (owner.Group h) e = eqb-true h g e

either : (b : Bool) → (b ≡ true) ⊎ (b ≡ false)
either true = inl refl
either false = inr refl

pub those_saved : (those : Owned) (s : List Object) (before now : List Segment) (positions : List ℕ) → HoldsNoOther s (holder_of those) positions → HasMore s before now → IsSavedAt those s before (holder_of those) → ((q : ℕ) → is_listed positions q ≡ true → IsSavedAt those s now q) → AreSaved those s now
those_saved those s before now positions held more own listed q x e is =
    ⊎_elim
    (λ here. more.headers q (subst (λ k. IsSavedAt those s before k) (sym (eqb-true q (holder_of those) here)) own x e is))
    (λ other. listed q (held q x e (holds_those those x.owner is) (λ same. let f : true ≡ false = sym (eq-eqb q (holder_of those) same) ∙ other in absurd cc)) x e is)
    (either (q == holder_of those))

pub on_ok_then : {T E P Q : Type 0} (r : Result T E) → (P → Q) → OnOk r P → OnOk r Q
on_ok_then (Ok t) f h = f h
on_ok_then (Err e) f h = h
