-- What a search by signature finds.
use Rattle.std.proofs.Common.{◌≡◌, ℕ, zero, suc, List, [], ◌∷◌, ◌++◌, map, Bool, true, false, cond, Some, None, refl, sym, ◌∙◌, ap}
use Rattle.std.specs.Prelude.{slice_get, option_map}
use Rattle.std.specs.Map.{lookup, keys_of}
use Rattle.std.proofs.lemmas.Option.{slice_get-map}
use Rattle.std.proofs.lemmas.Bool.{true≢false}
use Rattle.indexmap.specs.IndexMap.{insert_entry}
use Rattle.ss_terms_interned.proofs.Places.{entry_added, keys_differ, none_looked_up}
use Rattle.ss_terms.specs.declared.forms.Term.{Term}
use Rattle.ss_terms.specs.Forms.{term_shape}
use Rattle.ss_terms.proofs.Same.{is_same_term, is_same_term-Decides}
use Rattle.ss_equality_rules.specs.Names.{Has}
use Rattle.ss_equality_rules.specs.Whole.{signature}

map_back : {A B : Type 0} (f : A → B) (xs : List A) (i : ℕ) (y : B) → slice_get (map f xs) i ≡ Some y → (x : A) × (slice_get xs i ≡ Some x) × (f x ≡ y)
map_back f [] i y e = cc
map_back f (x ∷ xs) zero y e = (x, refl, cc)
map_back f (x ∷ xs) (suc i) y e = map_back f xs i y e

looked_up : {K X : Type 0} (test : K → Bool) (es : List (K × X)) (v : X) → lookup test es ≡ Some v → (i : ℕ) × (e : K × X) × (slice_get es i ≡ Some e) × (e.1 ≡ v) × (test e.0 ≡ true)
looked_up test [] v h = cc
looked_up {K} {X} test (d ∷ es) v h = at (test d.0) refl (looked_up test es v)
  where
    at : (b : Bool) → test d.0 ≡ b → (lookup test es ≡ Some v → (i : ℕ) × (e : K × X) × (slice_get es i ≡ Some e) × (e.1 ≡ v) × (test e.0 ≡ true)) →
        (i : ℕ) × (e : K × X) × (slice_get (d ∷ es) i ≡ Some e) × (e.1 ≡ v) × (test e.0 ≡ true)
    at true t rest = (0, d, refl, (let same : Some d.1 ≡ Some v = sym (ap (λ b. cond b (Some d.1) (lookup test es)) t) ∙ h in cc), t)
    at false t rest = let r = rest (sym (ap (λ b. cond b (Some d.1) (lookup test es)) t) ∙ h) in (suc r.0, r.1, r.2, r.3, r.4)

pub found_signature : (es : List (Term × ℕ)) (key : Term) (v : ℕ) → lookup (is_same_term key) es ≡ Some v → Has (map signature es) (term_shape key, v)
found_signature es key v h =
    let r = looked_up (is_same_term key) es v h in
    let shape : term_shape r.1.0 ≡ term_shape key = sym ((is_same_term-Decides key r.1.0).0 r.4) in
    record { at = r.0; is = slice_get-map signature es r.0 ∙ ap (option_map signature) r.2 ∙ ap (λ s. Some (s, r.1.1)) shape ∙ ap (λ w. Some (term_shape key, w)) r.3 }

pub absent_signature : (es : List (Term × ℕ)) (key : Term) → lookup (is_same_term key) es ≡ None → (i v : ℕ) → slice_get (map signature es) i ≡ Some (term_shape key, v) → ⊥
absent_signature es key h i v at =
    let r = map_back signature es i (term_shape key, v) at in
    let shape : term_shape key ≡ term_shape r.0.0 = ap (λ s. s.0) (sym r.2) in
    let there : slice_get (keys_of es) i ≡ Some r.0.0 = slice_get-map (λ e. e.0) es i ∙ ap (option_map (λ e. e.0)) r.1 in
    true≢false (sym ((is_same_term-Decides key r.0.0).1 shape) ∙ none_looked_up (is_same_term key) es h i r.0.0 there)

pub added_signature : (es : List (Term × ℕ)) (key : Term) (v : ℕ) → ((i w : ℕ) → slice_get (map signature es) i ≡ Some (term_shape key, w) → ⊥) → insert_entry is_same_term es key v ≡ es ++ (key, v) ∷ []
added_signature es key v absent = entry_added is_same_term es key v (keys_differ term_shape is_same_term is_same_term-Decides (keys_of es) key (λ i at.
    let p = map_back term_shape (keys_of es) i (term_shape key) at in
    let q = map_back (λ e. e.0) es i p.0 p.1 in
    absent i q.0.1 (slice_get-map signature es i ∙ ap (option_map signature) q.1 ∙ ap (λ s. Some (s, q.0.1)) (ap term_shape q.2 ∙ p.2))))
