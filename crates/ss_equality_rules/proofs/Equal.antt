-- A whole log and its signatures give two terms one name exactly where congruence makes them equal.
use Rattle.std.proofs.Common.{◌≡◌, ℕ, zero, suc, ◌≤◌, List, length, map, take, Option, Some, None, refl, sym, ◌∙◌, ap, subst, ⊎_elim, arith}
use Rattle.std.specs.Prelude.{slice_get}
use Rattle.std.proofs.lemmas.Bool.{cases_eq}
use Rattle.ss_terms.specs.declared.forms.TermId.{TermId}
use Rattle.ss_terms.specs.Forms.{TermShape, AppShape}
use Rattle.ss_terms.specs.Bank.{number}
use Rattle.ss_equality_rules.specs.declared.Merge.{Merge}
use Rattle.ss_equality_rules.specs.declared.Join.{Join}
use Rattle.ss_equality_rules.specs.Equal.{IsEqual, merged, itself, back, through, applied}
use Rattle.ss_equality_rules.specs.Names.{Has, name, named, IsLog}
use Rattle.ss_equality_rules.specs.Whole.{Signature, AreApart, IsCause, AreCaused, IsWhole}
use Rattle.ss_equality_rules.proofs.Lists.{there, maps_agree, maps_length, maps_at}
use Rattle.ss_equality_rules.proofs.Names.{renamed_from, renamed_other, name_next, name_none, whole_log}

pub named_is : (es : List Join) (a b : TermId) → name es a.0 ≡ name es b.0 → named es a ≡ named es b
named_is es a b e = ap number e

pub names_of : (es : List Join) (a b : TermId) → named es a ≡ named es b → name es a.0 ≡ name es b.0
names_of es a b e = ap (λ t. t.0) e

-- ---- one name where equal

module _ (fs : List TermShape) (ms : List Merge) (es : List Join) (sigs : List Signature) (apart : AreApart sigs) (whole : IsWhole fs ms es sigs) where
  one_signature : (k : TermShape) (v w : ℕ) → Has sigs (k, v) → Has sigs (k, w) → v ≡ w
  one_signature k v w h g =
      let same : h.at ≡ g.at = apart.apart h.at g.at (k, v) (k, w) h.is g.is refl in
      let both : ◌≡◌ {A = Option Signature} (Some (k, v)) (Some (k, w)) = sym h.is ∙ ap (slice_get sigs) same ∙ g.is in
      let pair : ◌≡◌ {A = Signature} (k, v) (k, w) = cc in
      ap (λ s. s.1) pair

  pub equal_named : {x y : ℕ} → IsEqual fs ms x y → name es x ≡ name es y
  equal_named (merged k m at) = whole.merged k m at
  equal_named (itself x) = refl
  equal_named (back h) = sym (equal_named h)
  equal_named (through h g) = equal_named h ∙ equal_named g
  equal_named {x} {y} (applied f xs ys at_x at_y l h) =
      let keys : map (named es) xs ≡ map (named es) ys = maps_agree (named es) xs ys l (λ i a b p q. named_is es a b (equal_named (h i a b p q))) in
      let left = whole.signed x f xs at_x in
      let right = whole.signed y f ys at_y in
      let moved : Has sigs (AppShape f (map (named es) ys), left.term) = subst (λ k. Has sigs (AppShape f k, left.term)) keys left.found in
      left.same ∙ ap (name es) (one_signature (AppShape f (map (named es) ys)) left.term right.term moved right.found) ∙ sym right.same

-- ---- equal where one name

module _ (n : ℕ) (fs : List TermShape) (ms : List Merge) (es : List Join) (log : IsLog n es) (caused : AreCaused fs ms es) where
  pub equal_cause : (before : List Join) → ((x : ℕ) → IsEqual fs ms x (name before x)) → (x y : ℕ) (why : Option ℕ) → IsCause fs ms before x y why → IsEqual fs ms x y
  equal_cause before all x y (Some k) c = ⊎_elim
      (λ p. subst (λ a. IsEqual fs ms a y) p.0 (subst (λ b. IsEqual fs ms c.merge.left.0 b) p.1 (merged k c.merge c.at)))
      (λ p. back (subst (λ a. IsEqual fs ms a x) p.0 (subst (λ b. IsEqual fs ms c.merge.left.0 b) p.1 (merged k c.merge c.at))))
      c.sides
  equal_cause before all x y None c = applied c.function c.lefts c.rights c.left c.right (maps_length (named before) c.lefts c.rights c.same)
      (λ i a b p q. through (all a.0) (subst (λ z. IsEqual fs ms z b.0) (sym (names_of before a b (maps_at (named before) c.lefts c.rights c.same i a b p q))) (back (all b.0))))

  pub equal_to_name : (j : ℕ) → j ≤ length es → (x : ℕ) → IsEqual fs ms x (name (take j es) x)
  equal_to_name zero l x = subst (λ a. IsEqual fs ms x a) (sym (name_none x)) (itself x)
  equal_to_name (suc j) l x =
      let here = there es j (omega (arith, l)) in
      let e = here.0 in
      let is = log.joins j e here.1 in
      let before : (z : ℕ) → IsEqual fs ms z (name (take j es) z) = equal_to_name j (omega (arith, l)) in
      let sides : IsEqual fs ms e.left e.right = equal_cause (take j es) before e.left e.right e.why (caused.cause j e here.1) in
      ⊎_elim
      (λ from.
      let to : name (take (suc j) es) x ≡ e.to = name_next es j e here.1 x ∙ renamed_from e (name (take j es) x) from in
      let first : IsEqual fs ms x e.from = subst (λ a. IsEqual fs ms x a) from (before x) in
      let second : IsEqual fs ms e.from e.left = back (subst (λ a. IsEqual fs ms e.left a) is.left (before e.left)) in
      let third : IsEqual fs ms e.right e.to = subst (λ a. IsEqual fs ms e.right a) is.right (before e.right) in
      subst (λ a. IsEqual fs ms x a) (sym to) (through first (through second (through sides third))))
      (λ other. subst (λ a. IsEqual fs ms x a) (sym (name_next es j e here.1 x ∙ renamed_other e (name (take j es) x) other)) (before x))
      (cases_eq (name (take j es) x) e.from)

  pub named_equal : (x y : ℕ) → name es x ≡ name es y → IsEqual fs ms x y
  named_equal x y h =
      let to : (z : ℕ) → IsEqual fs ms z (name es z) = λ z. subst (λ a. IsEqual fs ms z a) (whole_log es z) (equal_to_name (length es) (omega arith) z) in
      through (to x) (subst (λ a. IsEqual fs ms a y) (sym h) (back (to y)))
