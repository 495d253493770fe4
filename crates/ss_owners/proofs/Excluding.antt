-- Attributes after those that a loop has gone over.
use Rattle.std.proofs.Common.{◌≡◌, ◌++◌, ◌+◌, ◌<◌, ℕ, length, take, drop, get_or, List, [], ◌∷◌, map, Bool, true, false, string_bytes, refl, sym, ap, ◌∙◌, append_assoc}
use Rattle.std.specs.Prelude.{◌||◌}
use Rattle.std.specs.List.{list_any}
use Rattle.std.proofs.lemmas.List.Folds.{list_any-append}
use Rattle.ss_core.specs.declared.names.Place.{Place}
use Rattle.ss_ast.specs.declared.expr.Name.{Name}
use Rattle.ss_ast.specs.Expressions.{NameTree, name_tree}
use Rattle.std.proofs.lemmas.List.{map-append}
use Rattle.ss_ast.proofs.Loops.{drop_next, take_next}
use Rattle.ss_owners_rules.specs.Attributes.{Names, excludes, is_excluded, is_bad, bad_after}
use Rattle.ss_owners.specs.Bearers.{places_if}

or_false : (b : Bool) → (b || false) ≡ b
or_false true = refl
or_false false = refl

passed_next : (bs : List Name) (i : ℕ) (x : Name) → i < length bs → x ≡ get_or bs i x → map name_tree (take (i + 1) bs) ≡ map name_tree (take i bs) ++ name_tree x ∷ []
passed_next bs i x l e = ap (map name_tree) (take_next bs i x l e) ∙ map-append name_tree (take i bs) (x ∷ [])

excluded_next : (n : List ℕ) (bs : List Name) (i : ℕ) (x : Name) → i < length bs → x ≡ get_or bs i x
    → is_excluded (map name_tree (take (i + 1) bs)) n ≡ (is_excluded (map name_tree (take i bs)) n || excludes (string_bytes x.text) n)
excluded_next n bs i x l e =
    let tests : NameTree → Bool = λ (b : NameTree). excludes b.text n in
    ap (list_any tests) (passed_next bs i x l e)
    ∙ list_any-append tests (map name_tree (take i bs)) (name_tree x ∷ [])
    ∙ ap (λ (b : Bool). list_any tests (map name_tree (take i bs)) || b) (or_false (excludes (string_bytes x.text) n))

-- the last one doesn't exclude it
pub last_passed : (n : List ℕ) (bs : List Name) (i k : ℕ) (x : Name) (m : List ℕ) → i < length bs → k ≡ i + 1 → x ≡ get_or bs i x → m ≡ string_bytes x.text → false ≡ excludes m n
    → is_excluded (map name_tree (take i bs)) n ≡ is_excluded (map name_tree (take k bs)) n
last_passed n bs i k x m l next e text not_excluded =
    let not_here : excludes (string_bytes x.text) n ≡ false = sym (not_excluded ∙ ap (λ (t : List ℕ). excludes t n) text) in
    sym (ap (λ (j : ℕ). is_excluded (map name_tree (take j bs)) n) next
    ∙ excluded_next n bs i x l e ∙ ap (λ (b : Bool). is_excluded (map name_tree (take i bs)) n || b) not_here ∙ or_false (is_excluded (map name_tree (take i bs)) n))

-- one more attribute
pub bad_more : (may : Names) (bs : List Name) (i : ℕ) (x : Name) (b : Bool) (f0 f1 all : List Place)
    → f0 ++ bad_after may (map name_tree (take i bs)) (map name_tree (drop i bs)) ≡ all → i < length bs → x ≡ get_or bs i x
    → b ≡ is_bad may (map name_tree (take i bs)) (name_tree x) → f1 ≡ f0 ++ places_if b x.place
    → f1 ++ bad_after may (map name_tree (take (i + 1) bs)) (map name_tree (drop (i + 1) bs)) ≡ all
bad_more may bs i x b f0 f1 all so_far l e bad added =
    let before = map name_tree (take i bs) in
    let behind = map name_tree (drop (i + 1) bs) in
    ap (λ (z : List NameTree). f1 ++ bad_after may z behind) (passed_next bs i x l e)
    ∙ ap (λ (z : List Place). z ++ bad_after may (before ++ name_tree x ∷ []) behind) (added ∙ ap (λ (z : Bool). f0 ++ places_if z x.place) bad)
    ∙ append_assoc f0 (places_if (is_bad may before (name_tree x)) x.place) (bad_after may (before ++ name_tree x ∷ []) behind)
    ∙ sym (ap (λ (zs : List Name). f0 ++ bad_after may before (map name_tree zs)) (drop_next bs i x l e))
    ∙ so_far
