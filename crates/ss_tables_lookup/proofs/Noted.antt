-- A map of names holds what its list shows, and the places of a list are the first ones.
use Rattle.std.proofs.Common.{ℕ, suc, ◌≡◌, List, [], ◌∷◌, ◌++◌, map, length, Option, Some, None, String, Global, string_bytes, refl, ap, sym, ◌∙◌, Bool, true, false, cond, is_some, add-one}
use Rattle.std.specs.Prelude.{◌<◌, IfSome, Decides, position, find, slice_get, option_and_then, nat_lt}
use Rattle.std.specs.List.{position_from, position_or_len}
use Rattle.std.proofs.lemmas.Slice.Eq.{bytes_eq-Decides}
use Rattle.std.proofs.lemmas.List.Folds.{find_at}
use Rattle.std.proofs.lemmas.Bool.{ltb-false, ltb-true}
use Rattle.std.proofs.lemmas.Option.{slice_get_past}
use Rattle.std.proofs.lemmas.Iterator.Adapters.{position_from-zero}
use Rattle.std.specs.Str.{bytes_eq}
use Rattle.std.specs.Map.{lookup}
use Rattle.std.specs.Option.{option_or}
use Rattle.ss_tables_lookup.specs.Places.{Places, places_from, places_of}
use Rattle.ss_tables.specs.Named.{named_in, with_named}
use Rattle.ss_tables_lookup.specs.Views.{names_in}

pub found_in_map : {A : Type 0} (name : List ℕ) (es : List (String Global × A)) → lookup (λ k. bytes_eq name (string_bytes k)) es ≡ named_in (names_in es) name
found_in_map name [] = refl
found_in_map {A} name (e ∷ es) = ap (λ (o : Option A). cond (bytes_eq name (string_bytes e.0)) (Some e.1) o) (found_in_map name es)

-- ---- the places of a list are the first ones

or_none : (o : Option ℕ) → o ≡ option_or o None
or_none None = refl
or_none (Some j) = refl

or_some : (o other : Option ℕ) → is_some o ≡ true → o ≡ option_or o other
or_some None other e = absurd cc
or_some (Some j) other e = refl

-- one place more is found where none was noted
abbrev one : List ℕ → List ℕ → ℕ → Option ℕ
one n m i = cond (bytes_eq n m) (Some i) None

found_behind : (es : Places) (n m : List ℕ) (i : ℕ) → named_in (es ++ (m, i) ∷ []) n ≡ option_or (named_in es n) (one n m i)
found_behind [] n m i = refl
found_behind (e ∷ es) n m i = at (bytes_eq n e.0) (found_behind es n m i)
  where
    at : (b : Bool) → named_in (es ++ (m, i) ∷ []) n ≡ option_or (named_in es n) (one n m i) → cond b (Some e.1) (named_in (es ++ (m, i) ∷ []) n) ≡ option_or (cond b (Some e.1) (named_in es n)) (one n m i)
    at true h = refl
    at false h = h

found_before : (es : Places) (n m : List ℕ) (i : ℕ) → is_some (named_in es m) ≡ true → named_in es n ≡ option_or (named_in es n) (one n m i)
found_before es n m i known = at (bytes_eq n m) (bytes_eq-Decides n m)
  where
    at : (b : Bool) → Decides b (n ≡ m) → named_in es n ≡ option_or (named_in es n) (cond b (Some i) None)
    at true same = or_some (named_in es n) (Some i) (rw (same.0 refl) known)
    at false other = or_none (named_in es n)

found_noted : (es : Places) (n m : List ℕ) (i : ℕ) → named_in (with_named es m i) n ≡ option_or (named_in es n) (one n m i)
found_noted es n m i = at (is_some (named_in es m)) (λ e. found_before es n m i e)
  where
    at : (b : Bool) → (b ≡ true → named_in es n ≡ option_or (named_in es n) (one n m i)) → named_in (cond b es (es ++ (m, i) ∷ [])) n ≡ option_or (named_in es n) (one n m i)
    at true h = h refl
    at false h = found_behind es n m i

or_or : (o : Option ℕ) (b : Bool) (i : ℕ) (rest : Option ℕ) → option_or (option_or o (cond b (Some i) None)) rest ≡ option_or o (cond b (Some i) rest)
or_or None true i rest = refl
or_or None false i rest = refl
or_or (Some j) b i rest = refl

found_from : {A : Type 0} (name : A → List ℕ) (n : List ℕ) (es : Places) (i : ℕ) (xs : List A) → named_in (places_from es i (map name xs)) n ≡ option_or (named_in es n) (position_from (λ x. bytes_eq n (name x)) i xs)
found_from name n es i [] = or_none (named_in es n)
found_from name n es i (x ∷ xs) =
    found_from name n (with_named es (name x) i) (suc i) xs
    ∙ ap (λ o. option_or o (position_from (λ y. bytes_eq n (name y)) (suc i) xs)) (found_noted es n (name x) i)
    ∙ or_or (named_in es n) (bytes_eq n (name x)) i (position_from (λ y. bytes_eq n (name y)) (suc i) xs)
    ∙ ap (λ k. option_or (named_in es n) (cond (bytes_eq n (name x)) (Some i) (position_from (λ y. bytes_eq n (name y)) k xs))) (sym (add-one i))

pub first_place : {A : Type 0} (name : A → List ℕ) (n : List ℕ) (xs : List A) → named_in (places_of (map name xs)) n ≡ position (λ x. bytes_eq n (name x)) xs
first_place name n xs = found_from name n [] 0 xs ∙ sym (position_from-zero (λ x. bytes_eq n (name x)) xs)

-- what stands at the first place of a name is the first of the name
pub first_item : {A : Type 0} (name : A → List ℕ) (n : List ℕ) (xs : List A) → option_and_then (slice_get xs) (named_in (places_of (map name xs)) n) ≡ find (λ x. bytes_eq n (name x)) xs
first_item name n xs = ap (option_and_then (slice_get xs)) (first_place name n xs) ∙ at (λ x. bytes_eq n (name x)) xs
  where
    within : {A : Type 0} (p : A → Bool) (xs : List A) (b : Bool) → nat_lt (position_or_len p xs) (length xs) ≡ b → option_and_then (slice_get xs) (cond b (Some (position_or_len p xs)) None) ≡ find p xs
    within p xs true e = sym (find_at p xs)
    within p xs false e = sym (find_at p xs ∙ slice_get_past xs (position_or_len p xs) (ltb-false _ _ e))

    at : {A : Type 0} (p : A → Bool) (xs : List A) → option_and_then (slice_get xs) (position p xs) ≡ find p xs
    at p xs = within p xs (nat_lt (position_or_len p xs) (length xs)) refl

-- a place is one of the list
pub place_within : {A : Type 0} (p : A → Bool) (xs : List A) → IfSome (position p xs) (λ k. k < length xs)
place_within p xs = at (nat_lt (position_or_len p xs) (length xs)) (λ e. e)
  where
    at : (b : Bool) → (b ≡ true → nat_lt (position_or_len p xs) (length xs) ≡ true) → IfSome (cond b (Some (position_or_len p xs)) None) (λ k. k < length xs)
    at true e = ltb-true _ _ (e refl)
    at false e = tt
