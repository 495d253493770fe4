-- Fields of `this` that have their values.
use Rattle.std.proofs.Common.{◌≡◌, ◌≢◌, ℕ, Bool, true, false, Option, Some, None, refl, sym, ap, ◌∙◌, ⊎_elim, true≢false}
use Rattle.std.specs.Prelude.{◌==◌, ◌&&◌, ◌||◌, not, is_some, if◌then◌else◌}
use Rattle.std.proofs.lemmas.Bool.{cases_eq, eq-eqb, ne_eqb}
use Rattle.ss_store_rules.specs.NonNull.{Known}
use Rattle.ss_vcgen_known.specs.Steps.{with_fields}
use Rattle.ss_vcgen_known.proofs.Listing.{same}

or_false : (b : Bool) → (b || false) ≡ b
or_false true = refl
or_false false = refl

or_true : (b : Bool) → (b || true) ≡ true
or_true true = refl
or_true false = refl

-- one field more
pub put_field : (fs : ℕ → Bool) (f : ℕ) → ◌≡◌ {A = ℕ → Bool} (λ g. if f == g then true else fs g) (λ g. fs g || g == f)
put_field fs f =
    same
    (λ g. ⊎_elim
    (λ (e : f ≡ g). rw (eq-eqb f g e, eq-eqb g f (sym e)) (sym (or_true (fs g))))
    (λ (ne : f ≢ g). rw (ne_eqb f g ne, ne_eqb g f (λ h. ne (sym h))) (sym (or_false (fs g))))
    (cases_eq f g))

-- none more
pub no_field_more : (k : Known) (f : ℕ) → k ≡ with_fields (λ g. k.fields g || false && g == f) k
no_field_more k f = λ i. record k { fields = λ g. sym (or_false (k.fields g)) i }

-- the fields above, where the constructor is delayed
pub above_more : (fs above : ℕ → Bool) (delayed : Bool) → delayed ≡ true → ◌≡◌ {A = ℕ → Bool} (λ f. fs f || above f) (λ f. fs f || not delayed || above f)
above_more fs above delayed h = same (λ f. ap (λ (b : Bool). b || above f) (sym (or_false (fs f))) ∙ ap (λ (d : Bool). fs f || not d || above f) (sym h))

-- all fields, where it isn't
pub all_more : (fs above : ℕ → Bool) (delayed : Bool) → delayed ≡ false → ◌≡◌ {A = ℕ → Bool} (λ f. true) (λ f. fs f || not delayed || above f)
all_more fs above delayed h = same (λ f. sym (ap (λ (b : Bool). b || above f) (or_true (fs f))) ∙ ap (λ (d : Bool). fs f || not d || above f) (sym h))

pub none_there : {X : Type 0} (o : Option X) → is_some o ≡ false → o ≡ None
none_there None h = refl
none_there (Some x) h = absurd (true≢false h)
