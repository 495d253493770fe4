-- Terms and atoms that are kept.
use Rattle.std.proofs.Common.{◌≡◌, ℕ, zero, suc, ◌+◌, ◌<◌, ◌≤◌, List, [], ◌∷◌, ◌++◌, length, map, take, get_or, Bool, true, false, ◌&&◌, ◌||◌, refl, sym, ◌∙◌, ap, arith, ⊎_elim, ◌≢◌}
use Rattle.std.specs.Prelude.{filter}
use Rattle.std.specs.List.{list_any}
use Rattle.std.proofs.lemmas.Bool.{cases_eq}
use Rattle.std.proofs.lemmas.List.{append-nil, map_push, take_more}
use Rattle.std.proofs.lemmas.List.Elements.{filter-append}
use Rattle.std.proofs.lemmas.List.Folds.{list_any-append}
use Rattle.ss_logic.specs.Terms.{Term, Terms, term_list, terms_from}
use Rattle.ss_logic.specs.Matching as spec
use Rattle.ss_terms.specs.declared.forms.TermId.{TermId}
use Rattle.ss_terms.specs.Forms.{Forms, term_at, terms_at}
use Rattle.ss_terms.proofs.Sorted.{list_back}

-- ---- one more item of a list

-- none before the place i
pub none_next : {X Y : Type 0} (at : X → Y) (p : Y → Bool) (items : List X) (i : ℕ) (d : X) → i < length items → list_any p (map at (take i items)) ≡ false → p (at (get_or items i d)) ≡ false → list_any p (map at (take (i + 1) items)) ≡ false
none_next at p items i d within none fails =
    ap (λ xs. list_any p (map at xs)) (take_more items i d within)
    ∙ ap (list_any p) (map_push at (take i items) (get_or items i d))
    ∙ list_any-append p (map at (take i items)) (at (get_or items i d) ∷ [])
    ∙ rw (none, fails) refl

pub one_is : {X Y : Type 0} (at : X → Y) (p : Y → Bool) (items : List X) (i : ℕ) (d : X) → i < length items → p (at (get_or items i d)) ≡ true → list_any p (map at items) ≡ true
one_is at p [] i d within holds = absurd (omega arith)
one_is at p (x ∷ items) zero d within holds = rw holds refl
one_is at p (x ∷ items) (suc i) d within holds = later (p (at x)) (one_is at p items i d (omega arith) holds)
  where
    later : (r : Bool) → list_any p (map at items) ≡ true → (r || list_any p (map at items)) ≡ true
    later true e = refl
    later false e = e

pub kept_next : {X Y : Type 0} (at : X → Y) (p : Y → Bool) (items kept more : List X) (i : ℕ) (d : X) → i < length items → map at kept ≡ filter p (map at (take i items)) → map at more ≡ map at kept ++ filter p (at (get_or items i d) ∷ []) →
    map at more ≡ filter p (map at (take (i + 1) items))
kept_next at p items kept more i d within before next =
    next
    ∙ ap (λ xs. xs ++ filter p (at (get_or items i d) ∷ [])) before
    ∙ sym (filter-append p (map at (take i items)) (at (get_or items i d) ∷ []))
    ∙ ap (filter p) (sym (map_push at (take i items) (get_or items i d)))
    ∙ ap (λ xs. filter p (map at xs)) (sym (take_more items i d within))

shown : {Y : Type 0} (p : Y → Bool) (y : Y) (r : Bool) → p y ≡ r → r ≡ true → filter p (y ∷ []) ≡ y ∷ []
shown p y r e holds = rw (e ∙ holds) refl

hidden : {Y : Type 0} (p : Y → Bool) (y : Y) (r : Bool) → p y ≡ r → r ≡ false → filter p (y ∷ []) ≡ []
hidden p y r e fails = rw (e ∙ fails) refl

pub pushed : {X Y : Type 0} (at : X → Y) (p : Y → Bool) (kept more : List X) (x : X) (r : Bool) → r ≡ p (at x) → r ≡ true → more ≡ kept ++ x ∷ [] → map at more ≡ map at kept ++ filter p (at x ∷ [])
pushed at p kept more x r e holds written = ap (map at) written ∙ map_push at kept x ∙ ap (λ ys. map at kept ++ ys) (sym (shown p (at x) r (sym e) holds))

pub left_out : {X Y : Type 0} (at : X → Y) (p : Y → Bool) (kept : List X) (x : X) (r : Bool) → r ≡ p (at x) → r ≡ false → map at kept ≡ map at kept ++ filter p (at x ∷ [])
left_out at p kept x r e fails = sym (ap (λ ys. map at kept ++ ys) (hidden p (at x) r (sym e) fails) ∙ append-nil (map at kept))

-- ---- bound names

pub has_next : (i : ℕ) (ts : List Term) (r : Bool) → r ≡ list_any (spec.is_bound i) ts → r ≡ true → spec.has_bound i (terms_from ts) ≡ true → spec.has_bound (i + 1) (terms_from ts) ≡ true
has_next i ts r e holds before =
    let one : i + 1 ≡ suc i = omega arith in
    ap (λ n. spec.has_bound n (terms_from ts)) one
    ∙ ap (λ us. list_any (spec.is_bound i) us && spec.has_bound i (terms_from ts)) (list_back ts)
    ∙ rw (sym e ∙ holds, before) refl

past : (p : Bool) → (p && false) ≡ false
past true = refl
past false = refl

pub one_lacks : (count i : ℕ) (ts : List Term) (r : Bool) → r ≡ list_any (spec.is_bound i) ts → r ≡ false → i < count → spec.has_bound count (terms_from ts) ≡ false
one_lacks zero i ts r e fails within = absurd (omega arith)
one_lacks (suc count) i ts r e fails within = ⊎_elim
    (λ (same : i ≡ count). ap (λ us. list_any (spec.is_bound count) us && spec.has_bound count (terms_from ts)) (list_back ts) ∙ ap (λ v. v && spec.has_bound count (terms_from ts)) (ap (λ k. list_any (spec.is_bound k) ts) (sym same) ∙ sym e ∙ fails))
    (λ (other : i ≢ count). ap (λ v. list_any (spec.is_bound count) (term_list (terms_from ts)) && v) (one_lacks count i ts r e fails (omega arith)) ∙ past (list_any (spec.is_bound count) (term_list (terms_from ts))))
    (cases_eq i count)
