-- Merges that stay as more is known.
use Rattle.std.proofs.Common.{◌≡◌, ℕ, zero, suc, ◌<◌, ◌≤◌, List, [], ◌∷◌, ◌++◌, length, take, sym, ◌∙◌, ap, ⊎_elim, arith}
use Rattle.std.specs.Prelude.{slice_index_or}
use Rattle.std.proofs.lemmas.Bool.{cases_lt}
use Rattle.std.proofs.lemmas.List.{take_all, take-take, length-take}
use Rattle.ss_terms.specs.Forms.{Forms}
use Rattle.ss_equality_rules.specs.Equal.{Equations}
use Rattle.ss_search_reached.specs.declared.reached.Reached.{Reached}
use Rattle.ss_search_reached.specs.Known.{merges_at, IsReached, Remembers}
use Rattle.ss_search_reached.proofs.Fronts.{front_itself, front_trans, front_push}
use Rattle.ss_search_reached.proofs.Kept.{at_push, at_length, at_now}

-- what stands in front is read at the same place
pub front_index : (xs ys : List ℕ) (k d e : ℕ) → take (length xs) ys ≡ xs → k < length xs → slice_index_or ys k d ≡ slice_index_or xs k e
front_index [] ys k d e h l = absurd (omega (arith, l))
front_index (x ∷ xs) [] k d e h l = cc
front_index (x ∷ xs) (y ∷ ys) zero d e h l = cc
front_index (x ∷ xs) (y ∷ ys) (suc k) d e h l =
    let rest : take (length xs) ys ≡ xs = cc in
    front_index xs ys k d e rest (omega (arith, l))

pub remembers_itself : (b : Forms) (r : Reached) → IsReached b r → Remembers r r
remembers_itself b r h = record {
  counts = front_itself r.merges.items;
  begins = front_itself r.congruence.merges;
  next = at_now b r.known.items r.merges.items r.congruence h.kept;
}

-- the merges and their counts are the same
pub remembers_alike : (b : Forms) (old new : Reached) → IsReached b old → new.merges.items ≡ old.merges.items → new.congruence ≡ old.congruence → Remembers old new
remembers_alike b old new h merges congruence = record {
  counts = ap (take (length old.merges.items)) merges ∙ front_itself old.merges.items;
  begins = ap (λ (s : Equations). take (length old.congruence.merges) s.merges) congruence ∙ front_itself old.congruence.merges;
  next = ap (λ (counts : List ℕ). merges_at counts new.congruence.merges (length old.known.items)) merges
      ∙ ap (λ (s : Equations). merges_at old.merges.items s.merges (length old.known.items)) congruence
      ∙ at_now b old.known.items old.merges.items old.congruence h.kept;
}

pub remembers_more : (b : Forms) (x y z : Reached) → IsReached b y → length x.known.items ≤ length y.known.items → Remembers x y → Remembers y z → Remembers x z
remembers_more b x y z h few one two = record {
  counts = front_trans x.merges.items y.merges.items z.merges.items one.counts two.counts;
  begins = front_trans x.congruence.merges y.congruence.merges z.congruence.merges one.begins two.begins;
  next = ⊎_elim
      (λ (within : length x.known.items < length y.known.items).
      front_index y.merges.items z.merges.items (length x.known.items) (length z.congruence.merges) (length y.congruence.merges) two.counts (omega (arith, within, h.kept.long)) ∙ one.next)
      (λ (past : length y.known.items ≤ length x.known.items).
      let same : length x.known.items ≡ length y.known.items = omega (arith, past, few) in
      ap (merges_at z.merges.items z.congruence.merges) same ∙ two.next ∙ sym (at_now b y.known.items y.merges.items y.congruence h.kept)
      ∙ ap (merges_at y.merges.items y.congruence.merges) (sym same) ∙ one.next)
      (cases_lt (length x.known.items) (length y.known.items));
}

pub remembers_push : (b : Forms) (old new : Reached) → IsReached b old → new.merges.items ≡ old.merges.items ++ length old.congruence.merges ∷ [] → take (length old.congruence.merges) new.congruence.merges ≡ old.congruence.merges → Remembers old new
remembers_push b old new h pushed begins = record {
  counts = front_push old.merges.items new.merges.items (length old.congruence.merges ∷ []) pushed;
  begins = begins;
  next = ap (λ (counts : List ℕ). merges_at counts new.congruence.merges (length old.known.items)) pushed
      ∙ at_push old.merges.items (length old.congruence.merges) (length new.congruence.merges) (length old.known.items) (omega (arith, h.kept.long))
      ∙ ap (λ (k : ℕ). slice_index_or old.merges.items k (length old.congruence.merges)) (sym h.kept.long) ∙ at_length old.merges.items (length old.congruence.merges);
}

-- ---- taken back

-- the merges that there were before the last so many formulas
pub record IsBackTo (first now : Reached) : Type 0 where
  pub merges : now.congruence.merges ≡ take (merges_at first.merges.items first.congruence.merges (length now.known.items)) first.congruence.merges
  pub counts : now.merges.items ≡ take (length now.known.items) first.merges.items

pub back_to_itself : (b : Forms) (r : Reached) → IsReached b r → IsBackTo r r
back_to_itself b r h = record {
  merges = sym (ap (λ (k : ℕ). take k r.congruence.merges) (at_now b r.known.items r.merges.items r.congruence h.kept) ∙ take_all (length r.congruence.merges) r.congruence.merges (omega arith));
  counts = sym (take_all (length r.known.items) r.merges.items (omega (arith, h.kept.long)));
}

pub back_further : (b : Forms) (first mid now : Reached) → IsReached b first → IsReached b mid → length now.known.items < length mid.known.items → IsBackTo first mid → IsBackTo mid now → IsBackTo first now
back_further b first mid now h k less one two =
    let n = length now.known.items in
    let front : take (length mid.merges.items) first.merges.items ≡ mid.merges.items = ap (λ (i : ℕ). take i first.merges.items) k.kept.long ∙ sym one.counts in
    let same = front_index mid.merges.items first.merges.items n (length first.congruence.merges) (length mid.congruence.merges) front (omega (arith, less, k.kept.long)) in
    let few : length mid.known.items ≤ length first.known.items =
    omega (arith, k.kept.long, h.kept.long, ap length one.counts, length-take (length mid.known.items) first.merges.items) in
    record {
      merges = two.merges ∙ ap (λ (i : ℕ). take i mid.congruence.merges) (sym same) ∙ ap (take (merges_at first.merges.items first.congruence.merges n)) one.merges
          ∙ take-take (merges_at first.merges.items first.congruence.merges n) (merges_at first.merges.items first.congruence.merges (length mid.known.items)) first.congruence.merges (h.kept.rise n (length mid.known.items) (omega (arith, less)) few);
      counts = two.counts ∙ ap (take n) one.counts ∙ take-take n (length mid.known.items) first.merges.items (omega (arith, less));
    }
