-- A merge is added or taken back, over the fields of a congruence.
use Rattle.std.proofs.Common.{◌≡◌, ◌≢◌, ℕ, zero, suc, ◌<◌, ◌≤◌, List, [], ◌∷◌, ◌++◌, length, map, take, eqb, Some, None, refl, sym, ◌∙◌, ap, subst, inl, inr, ◌⊎◌, ⊎_elim, get_or, arith}
use Rattle.std.specs.Prelude.{slice_get, unwrap_or, ◌↔◌, IsTrue}
use Rattle.std.proofs.lemmas.List.{take_at, take-map, length-map, nil_from_length}
use Rattle.std.proofs.lemmas.Bool.{cases_eq, eq-eqb, ne_eqb, true≢false}
use Rattle.ss_terms.specs.Forms.{Forms, TermShape}
use Rattle.ss_equality_rules.specs.declared.Merge.{Merge}
use Rattle.ss_equality_rules.specs.declared.Stand.{Stand}
use Rattle.ss_equality_rules.specs.declared.Join.{Join}
use Rattle.ss_terms.specs.Bank.{number}
use Rattle.ss_equality_rules.specs.Equal.{IsEqual, Equations, AreFormsOf, class_number, AreClassesOf}
use Rattle.ss_equality_rules.specs.Names.{name, IsLog}
use Rattle.ss_equality_rules.specs.Classes.{Classed}
use Rattle.ss_equality_rules.specs.Whole.{Signature, AreApart, AreCaused, IsWhole, IsOnTheWay, Goes, Begins, IsKept, merges_of, joins_at}
use Rattle.ss_equality_rules.specs.declared.Pending.{Pending}
use Rattle.ss_equality_rules.proofs.Way.{merge_waits, nothing_waits}
use Rattle.ss_equality_rules.proofs.Equal.{equal_named, named_equal}
use Rattle.ss_equality_rules.proofs.Kept.{begun_kept, none_whole, whole_now, more_kept, undone_kept}

pub new_kept : (c : Classed) (ss : List Stand) (sigs : List Signature) → c ≡ record { forms = []; users = []; log = [] } → ss ≡ [] → sigs ≡ [] → IsKept c.forms ss c.log sigs
new_kept c ss sigs a b d =
    subst (λ (z : Classed). IsKept z.forms ss z.log sigs) (sym a)
    (subst (λ x. IsKept [] x [] sigs) (sym b) (subst (λ x. IsKept [] [] [] x) (sym d) (begun_kept [] [] [] none_whole)))

pub no_stands : (ss : List Stand) → merges_of ss ≡ [] → ss ≡ []
no_stands [] e = refl
no_stands (s ∷ ss) e = cc

pub begun : (fs : List TermShape) (ss : List Stand) (es : List Join) (sigs : List Signature) → merges_of ss ≡ [] → IsWhole fs [] es sigs → IsKept fs ss es sigs
begun fs ss es sigs e w = subst (λ x. IsKept fs x es sigs) (sym (no_stands ss e)) (begun_kept fs es sigs w)

module _ (fs : List TermShape) (ss : List Stand) (es : List Join) (sigs : List Signature) (kept : IsKept fs ss es sigs) (log : IsLog (length fs) es) (apart : AreApart sigs) where
  pub one_name : (x y : ℕ) → IsEqual fs (merges_of ss) x y → name es x ≡ name es y
  one_name x y h = equal_named fs (merges_of ss) es sigs apart (whole_now fs ss es sigs kept) h

  pub are_caused : AreCaused fs (merges_of ss) es
  are_caused = (whole_now fs ss es sigs kept).caused

  pub same_told : (a b x y : ℕ) → a ≡ name es x → b ≡ name es y → IsTrue (eqb a b) ↔ IsEqual fs (merges_of ss) x y
  same_told a b x y p q = (
    λ t. named_equal (length fs) fs (merges_of ss) es log are_caused x y (sym p ∙ yes t ∙ q),
    λ h. eq-eqb a b (p ∙ one_name x y h ∙ sym q),
  )
    where
      yes : IsTrue (eqb a b) → a ≡ b
      yes t = ⊎_elim (λ s. s) (λ n. absurd (true≢false (sym t ∙ ne_eqb a b n))) (cases_eq a b)

  -- the names are the classes
  pub classes_told : (ns : List ℕ) → ((k : ℕ) → k < length fs → slice_get ns k ≡ Some (name es k)) → AreClassesOf fs (merges_of ss) ns
  classes_told ns at x y hx hy =
      let left : class_number ns (number x) ≡ name es x = ap (λ o. unwrap_or o 0) (at x hx) in
      let right : class_number ns (number y) ≡ name es y = ap (λ o. unwrap_or o 0) (at y hy) in (
        λ e. named_equal (length fs) fs (merges_of ss) es log are_caused x y (sym left ∙ e ∙ right),
        λ h. left ∙ one_name x y h ∙ sym right,
      )

pub taken_back : {A : Type 0} (xs ys : List A) (k : ℕ) → Begins xs ys → k ≡ length xs → take k ys ≡ xs
taken_back xs ys k b e = ap (take k) b.is ∙ take_at xs b.rest k (sym e)

-- nothing is left of a merge that failed
pub failed : (fs fs' : List TermShape) (ss : List Stand) (es es' : List Join) (sigs sigs' : List Signature) → IsKept fs ss es sigs → fs' ≡ fs → es' ≡ es → sigs' ≡ sigs → IsKept fs' ss es' sigs'
failed fs fs' ss es es' sigs sigs' kept a b c =
    subst (λ x. IsKept x ss es' sigs') (sym a) (subst (λ x. IsKept fs ss x sigs') (sym b) (subst (λ x. IsKept fs ss es x) (sym c) kept))

pub added : (fs fs' : List TermShape) (ss ss' : List Stand) (es es' : List Join) (sigs sigs' : List Signature) (s : Stand) → IsKept fs ss es sigs → fs' ≡ fs → ss' ≡ ss ++ s ∷ [] → s.merge.left.0 < length fs →
    s.joins ≡ length es → s.signatures ≡ length sigs → Begins es es' → Begins sigs sigs' → IsWhole fs (merges_of ss ++ s.merge ∷ []) es' sigs' → IsKept fs' ss' es' sigs'
added fs fs' ss ss' es es' sigs sigs' s kept a b inside j k begins begins' whole =
    subst (λ x. IsKept x ss' es' sigs') (sym a) (subst (λ x. IsKept fs x es' sigs') (sym b)
    (more_kept fs ss es sigs kept s es' sigs' (λ e. absurd (omega (arith, inside, ap length e))) j k begins begins' whole))

joins_there : (ss : List Stand) (n k : ℕ) (s : Stand) → slice_get ss k ≡ Some s → get_or (map (λ z. z.joins) ss) k n ≡ s.joins
joins_there [] n k s e = cc
joins_there (t ∷ ss) n zero s e = let same : t ≡ s = cc in ap (λ z. z.joins) same
joins_there (t ∷ ss) n (suc k) s e = joins_there ss n k s e

signatures_there : (ss : List Stand) (n k : ℕ) (s : Stand) → slice_get ss k ≡ Some s → get_or (map (λ z. z.signatures) ss) k n ≡ s.signatures
signatures_there [] n k s e = cc
signatures_there (t ∷ ss) n zero s e = let same : t ≡ s = cc in ap (λ z. z.signatures) same
signatures_there (t ∷ ss) n (suc k) s e = signatures_there ss n k s e

pub taken_to : (fs fs' : List TermShape) (ss ss' : List Stand) (es es' : List Join) (sigs sigs' : List Signature) (to : ℕ) (s : Stand) → IsKept fs ss es sigs → slice_get ss to ≡ Some s → to ≤ length ss →
    fs' ≡ fs → ss' ≡ take to ss → es' ≡ take s.joins es → sigs' ≡ take s.signatures sigs → IsKept fs' ss' es' sigs'
taken_to fs fs' ss ss' es es' sigs sigs' to s kept at inside a b c d =
    subst (λ x. IsKept x ss' es' sigs') (sym a) (subst (λ x. IsKept fs x es' sigs') (sym b)
    (subst (λ x. IsKept fs (take to ss) x sigs') (sym (c ∙ ap (λ n. take n es) (sym (joins_there ss (length es) to s at))))
    (subst (λ x. IsKept fs (take to ss) (take (joins_at ss es to) es) x) (sym (d ∙ ap (λ n. take n sigs) (sym (signatures_there ss (length sigs) to s at))))
    (undone_kept fs ss es sigs kept to inside))))

pub same_standing : (a b : List TermShape) (ms ns : List Merge) → a ≡ b → ms ≡ ns → ◌≡◌ {A = Equations} (record { terms = a; merges = ms }) (record { terms = b; merges = ns })
same_standing a b ms ns p q = ap (λ x. let s : Equations = record { terms = x; merges = ms } in s) p ∙ ap (λ x. let s : Equations = record { terms = b; merges = x } in s) q

pub merges_taken : (ss ss' : List Stand) (to : ℕ) → ss' ≡ take to ss → merges_of ss' ≡ take to (merges_of ss)
merges_taken ss ss' to e = ap merges_of e ∙ sym (take-map (λ s. s.merge) to ss)

pub merges_long : (ss : List Stand) → length (merges_of ss) ≡ length ss
merges_long ss = length-map ss (λ s. s.merge)

-- the terms are there, or there is neither a term nor a merge
pub not_begun : (b : Forms) (v : Equations) → (v ≡ record { terms = []; merges = [] }) ⊎ AreFormsOf b v.terms → (v.terms ≡ [] → v.merges ≡ []) → length v.terms ≡ 0 → v.merges ≡ []
not_begun b v (inl e) empty h = ap (λ (z : Equations). z.merges) e
not_begun b v (inr f) empty h = empty (nil_from_length v.terms h)

pub is_begun : (b : Forms) (v : Equations) → (v ≡ record { terms = []; merges = [] }) ⊎ AreFormsOf b v.terms → length v.terms ≢ 0 → AreFormsOf b v.terms
is_begun b v (inl e) h = absurd (h (ap (λ (z : Equations). length z.terms) e))
is_begun b v (inr f) h = f

-- one more merge was settled
pub settled_whole : (c c' : Classed) (ss : List Stand) (sigs sigs' : List Signature) (ps : List Pending) (m : Merge) (p : Pending) → IsKept c.forms ss c.log sigs → c'.forms ≡ c.forms → ps ≡ p ∷ [] →
    p.left ≡ m.left.0 → p.right ≡ m.right.0 → p.why ≡ Some (length ss) → m.left.0 < length c.forms → m.right.0 < length c.forms → Goes c c' sigs sigs' ps [] [] [] → IsWhole c.forms (merges_of ss ++ m ∷ []) c'.log sigs'
settled_whole c c' ss sigs sigs' ps m p kept forms only left right why in_left in_right g =
    let waits : IsOnTheWay c.forms (merges_of ss ++ m ∷ []) c.log sigs (p ∷ []) [] =
    merge_waits c.forms (merges_of ss) c.log sigs (whole_now c.forms ss c.log sigs kept) m p left right (why ∙ ap Some (sym (merges_long ss))) in_left in_right in
    let started : IsOnTheWay c.forms (merges_of ss ++ m ∷ []) c.log sigs ps [] = subst (λ xs. IsOnTheWay c.forms (merges_of ss ++ m ∷ []) c.log sigs xs []) (sym only) waits in
    subst (λ fs. IsWhole fs (merges_of ss ++ m ∷ []) c'.log sigs') forms (nothing_waits c'.forms (merges_of ss ++ m ∷ []) c'.log sigs' (g.goes (merges_of ss ++ m ∷ []) started))

pub past_end : {A : Type 0} (xs : List A) (k : ℕ) → slice_get xs k ≡ None → length xs ≤ k
past_end [] k e = omega arith
past_end (x ∷ xs) zero e = cc
past_end (x ∷ xs) (suc k) e = omega (arith, past_end xs k e)
