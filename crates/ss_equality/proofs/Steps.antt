-- One step of a loop or of a function.
use Rattle.std.proofs.Common.{◌≡◌, ℕ, zero, suc, ◌+◌, ◌<◌, ◌≤◌, List, [], ◌∷◌, ◌++◌, length, map, take, Option, Some, None, Result, Ok, Err, refl, sym, ◌∙◌, ap, subst, inl, inr, ◌⊎◌, ⊎_elim, get_or, arith}
use Rattle.std.specs.Prelude.{slice_get, Vec, OnOk, OnErr}
use Rattle.std.specs.declared.alloc.Global.{Global}
use Rattle.std.proofs.lemmas.Option.{slice_get_within}
use Rattle.ss_terms.specs.declared.forms.Term.{Term}
use Rattle.ss_terms.specs.Forms.{TermShape, term_shape}
use Rattle.ss_equality_rules.specs.declared.Join.{Join}
use Rattle.ss_equality_rules.specs.declared.Pending.{Pending}
use Rattle.ss_equality_rules.specs.Names.{name, IsLog, IsEnd, HasNoEnd, AreClasses}
use Rattle.ss_equality_rules.specs.Classes.{Classed, IsJoined, lists_of}
use Rattle.ss_equality_rules.specs.Whole.{Signature, Begins, Goes}
use Rattle.ss_equality_rules.proofs.Classes.{no_classes}
use Rattle.ss_equality_rules.proofs.Climb.{is_end, climbed}
use Rattle.ss_equality_rules.proofs.Way.{begins_pushed, begins_same, two_classes}

pub end_told : (fs : List TermShape) (us : List (List ℕ)) (ends : List (Option ℕ)) (es : List Join) → AreClasses fs us ends es → (class j : ℕ) → slice_get ends class ≡ Some (Some j) → IsEnd es class j
end_told fs us ends es are class j at = let g = are.gone class j at in is_end (length fs) es are.log class j g.0 g.1 g.2

pub no_end_told : (fs : List TermShape) (us : List (List ℕ)) (ends : List (Option ℕ)) (es : List Join) → AreClasses fs us ends es → (class : ℕ) → (slice_get ends class ≡ Some None) ⊎ (slice_get ends class ≡ None) → HasNoEnd es class
no_end_told fs us ends es are class h = record {
  none = λ i e at from. ⊎_elim
      (λ going. are.going class going i e at from)
      (λ past. absurd (by (slice_get ends class) past (omega (arith, (are.log.joins i e at).from_below, are.ends_long, from)) refl))
      h;
}
  where
    by : (o : Option (Option ℕ)) → o ≡ None → class < length ends → slice_get ends class ≡ o → ⊥
    by o none inside is = absurd (missing ends class inside (is ∙ none))
      where
        missing : (xs : List (Option ℕ)) (k : ℕ) → k < length xs → slice_get xs k ≡ None → ⊥
        missing [] k h e = absurd (omega (arith, h))
        missing (x ∷ xs) zero h e = cc
        missing (x ∷ xs) (suc k) h e = missing xs k (omega (arith, h)) e

-- one join further up
pub climb : (n : ℕ) (es : List Join) → IsLog n es → (seen x class j : ℕ) (e : Join) → seen ≤ length es → name (take seen es) x ≡ class → IsEnd es class j → slice_get es j ≡ Some e →
    (seen ≤ j) × (j < length es) × (name (take (j + 1) es) x ≡ e.to)
climb n es log seen x class j e l g end at =
    let same : end.join ≡ e = let both : Some end.join ≡ Some e = sym end.at ∙ at in cc in
    climbed n es log seen x class j e l g at (ap (λ z. z.from) (sym same) ∙ end.from)

pub end_within : (es : List Join) (class j : ℕ) → IsEnd es class j → j < length es
end_within es class j end = slice_get_within es j end.join end.at

-- ---- a call that may want memory

pub either_begins : {A T E : Type 0} (r : Result T E) (xs ys : List A) (x : A) → OnOk r (ys ≡ xs ++ x ∷ []) → OnErr r (ys ≡ xs) → Begins xs ys
either_begins (Ok t) xs ys x ok err = begins_pushed xs x ys ok
either_begins (Err e) xs ys x ok err = begins_same xs ys err

pub then_ok : {T E : Type 0} (r : Result T E) {P Q : Type 0} → OnOk r P → (P → Q) → OnOk r Q
then_ok (Ok t) h f = f h
then_ok (Err e) h f = tt

pub either_ok : {T E : Type 0} (r : Result T E) (P Q R : Type 0) → OnOk r P → OnErr r Q → (P → R) → (Q → R) → R
either_ok (Ok t) P Q R p q f g = f p
either_ok (Err e) P Q R p q f g = g q

-- ---- the classes of two terms were one, or were joined

pub joined_forms : (old new : Classed) (left right : ℕ) (why o : Option ℕ) → IsJoined old new left right why o → (new.forms ≡ old.forms) × Begins old.log new.log
joined_forms old new left right why None h = (ap (λ c. c.forms) h.0, begins_same old.log new.log (ap (λ c. c.log) h.0))
joined_forms old new left right why (Some a) h = (h.0, ⊎_elim (λ j. begins_pushed old.log j.join new.log j.log) (λ j. begins_pushed old.log j.join new.log j.log) h.1.1)

pub joined_goes : (old new : Classed) (sigs : List Signature) (ps : List Pending) (p : Pending) (a : ℕ) → IsJoined old new p.left p.right p.why (Some a) →
    Goes old new sigs sigs (ps ++ p ∷ []) ps [] (get_or new.users a [])
joined_goes old new sigs ps p a h = ⊎_elim
    (λ j. two_classes old new sigs ps p a h.1.0 p.left p.right h.0 j (inl (refl, refl)))
    (λ j. two_classes old new sigs ps p a h.1.0 p.right p.left h.0 j (inr (refl, refl)))
    h.1.1

pub none_kept : (forms : List Term) (users : List (Vec ℕ Global)) (ends : List (Option ℕ)) (es : List Join) → forms ≡ [] → users ≡ [] → ends ≡ [] → es ≡ [] → AreClasses (map term_shape forms) (lists_of users) ends es
none_kept forms users ends es a b c d =
    subst (λ f. AreClasses (map term_shape f) (lists_of users) ends es) (sym a)
    (subst (λ u. AreClasses [] (lists_of u) ends es) (sym b)
    (subst (λ x. AreClasses [] [] x es) (sym c) (subst (λ x. AreClasses [] [] [] x) (sym d) no_classes)))
