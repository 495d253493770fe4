-- A set of names holds what its list shows.
use Rattle.std.proofs.Common.{◌≡◌, ℕ, List, [], ◌∷◌, ◌++◌, String, Global, string_bytes, refl, ap, ◌∙◌, Bool, true, false, cond}
use Rattle.std.specs.Prelude.{◌||◌}
use Rattle.std.specs.Str.{bytes_eq}
use Rattle.std.specs.List.{list_any}
use Rattle.std.specs.String.{string_eq}
use Rattle.std.proofs.lemmas.List.{map_push}
use Rattle.indexmap.specs.IndexSet.{insert_key}
use Rattle.ss_resolver_names_rules.specs.Faults.{is_listed, with_name}
use Rattle.ss_resolver_scoping.specs.Views.{names_of}

pub listed_in : (n : List ℕ) (ks : List (String Global)) → list_any (λ k. bytes_eq n (string_bytes k)) ks ≡ is_listed (names_of ks) n
listed_in n [] = refl
listed_in n (k ∷ ks) = ap (λ b. bytes_eq n (string_bytes k) || b) (listed_in n ks)

-- a name that is inserted
pub inserted : (ks : List (String Global)) (v : String Global) → names_of (insert_key string_eq ks v) ≡ with_name (names_of ks) (string_bytes v)
inserted ks v = at (list_any (string_eq v) ks) ∙ ap (λ b. cond b (names_of ks) (names_of ks ++ string_bytes v ∷ [])) (listed_in (string_bytes v) ks)
  where
    at : (b : Bool) → names_of (cond b ks (ks ++ v ∷ [])) ≡ cond b (names_of ks) (names_of ks ++ string_bytes v ∷ [])
    at true = refl
    at false = map_push (λ (n : String Global). string_bytes n) ks v
