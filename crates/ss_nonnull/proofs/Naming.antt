-- Methods by name.
use Rattle.std.proofs.Common.{◌≡◌, ◌≢◌, ◌+◌, ◌<◌, ◌≤◌, ℕ, suc, length, map, drop, get_or, List, [], ◌∷◌, Bool, true, false, Option, Some, None, cond, refl, sym, ap, ◌∙◌, add-one}
use Rattle.std.specs.Prelude.{slice_get, option_and_then, find, ◌&&◌}
use Rattle.std.specs.Bool.{beq}
use Rattle.std.specs.Str.{bytes_eq}
use Rattle.ss_core.specs.Tree as core
use Rattle.ss_core.specs.Chain.{names_of}
use Rattle.ss_typed.specs.declared.body.TypedParam.{TypedParam}
use Rattle.ss_typed.specs.View.{param}
use Rattle.ss_paths.specs.Fields.{is_non_null}
use Rattle.ss_nonnull_rules.specs.Faults.{body_of_entry}
use Rattle.ss_nonnull_rules.specs.Overrides.{body_named, agree}
use Rattle.ss_tables_lookup.specs.Places.{places_of}
use Rattle.ss_tables.specs.Named.{named_in}
use Rattle.ss_tables_lookup.proofs.Noted.{first_item}
use Rattle.std.proofs.lemmas.List.{drop_all}
use Rattle.ss_ast.proofs.Loops.{drop_item}

-- the first entry of this name has the body under it
named_is : (es : List core.EntryTree) (n : List ℕ) → body_named es n ≡ body_of_entry (find (λ (e : core.EntryTree). bytes_eq n e.name) es)
named_is [] n = refl
named_is (e ∷ es) n = at (bytes_eq n e.name) (named_is es n)
  where
    at : (b : Bool) → body_named es n ≡ body_of_entry (find (λ (d : core.EntryTree). bytes_eq n d.name) es)
        → cond b (Some e.body) (body_named es n) ≡ body_of_entry (cond b (Some e) (find (λ (d : core.EntryTree). bytes_eq n d.name) es))
    at true h = refl
    at false h = h

pub named_found : (es : List core.EntryTree) (n : List ℕ) → body_of_entry (option_and_then (slice_get es) (named_in (places_of (names_of es)) n)) ≡ body_named es n
named_found es n = ap body_of_entry (first_item (λ (e : core.EntryTree). e.name) n es) ∙ sym (named_is es n)

pub named_here : (es : List core.EntryTree) (n : List ℕ) (o r : Option ℕ) (k : ℕ) → o ≡ named_in (places_of (names_of es)) n → o ≡ Some k → r ≡ body_of_entry (slice_get es k) → r ≡ body_named es n
named_here es n o r k is some q =
    q ∙ ap (λ (x : Option ℕ). body_of_entry (option_and_then (slice_get es) x)) (sym some ∙ is) ∙ named_found es n

pub named_nowhere : (es : List core.EntryTree) (n : List ℕ) (o : Option ℕ) → o ≡ named_in (places_of (names_of es)) n → o ≡ None → None ≡ body_named es n
named_nowhere es n o is none = ap (λ (x : Option ℕ). body_of_entry (option_and_then (slice_get es) x)) (sym none ∙ is) ∙ named_found es n

-- ---- parameters

pub agree_apart : (xs ys : List TypedParam) → length xs ≢ length ys → agree (map param xs) (map param ys) ≡ false
agree_apart [] [] ne = absurd (ne refl)
agree_apart [] (y ∷ ys) ne = refl
agree_apart (x ∷ xs) [] ne = refl
agree_apart (x ∷ xs) (y ∷ ys) ne = at (beq (is_non_null (param x).ty) (is_non_null (param y).ty)) (agree (map param xs) (map param ys)) (agree_apart xs ys (λ e. ne (ap suc e)))
  where
    at : (b c : Bool) → c ≡ false → (b && c) ≡ false
    at true c h = h
    at false c h = refl

and_swap : (a b c : Bool) → ((a && b) && c) ≡ (b && (a && c))
and_swap true true c = refl
and_swap true false c = refl
and_swap false true c = refl
and_swap false false c = refl

and_true : (a : Bool) → (a && true) ≡ a
and_true true = refl
and_true false = refl

pub one_agrees : (xs ys : List TypedParam) (i : ℕ) (x y : TypedParam) (a b : Bool) (total : Bool)
    → i < length xs → i < length ys → x ≡ get_or xs i x → y ≡ get_or ys i y → b ≡ (beq (is_non_null (param x).ty) (is_non_null (param y).ty) && a)
    → (a && agree (map param (drop i xs)) (map param (drop i ys))) ≡ total
    → (b && agree (map param (drop (i + 1) xs)) (map param (drop (i + 1) ys))) ≡ total
one_agrees xs ys i x y a b total l m x_is y_is q h =
    let rest = agree (map param (drop (suc i) xs)) (map param (drop (suc i) ys)) in
    let here = beq (is_non_null (param x).ty) (is_non_null (param y).ty) in
    ap (λ (n : ℕ). b && agree (map param (drop n xs)) (map param (drop n ys))) (add-one i)
    ∙ ap (λ (c : Bool). c && rest) q
    ∙ and_swap here a rest
    ∙ ap (λ (zs : List TypedParam). a && agree (map param zs) (map param (y ∷ drop (suc i) ys))) (sym (drop_item xs i x l x_is))
    ∙ ap (λ (zs : List TypedParam). a && agree (map param (drop i xs)) (map param zs)) (sym (drop_item ys i y m y_is))
    ∙ h

pub all_agree : (xs ys : List TypedParam) (i : ℕ) (a total : Bool) → length xs ≤ i → length ys ≤ i
    → (a && agree (map param (drop i xs)) (map param (drop i ys))) ≡ total → a ≡ total
all_agree xs ys i a total l m h =
    sym (and_true a)
    ∙ ap (λ (zs : List TypedParam). a && agree (map param zs) []) (sym (drop_all i xs l))
    ∙ ap (λ (zs : List TypedParam). a && agree (map param (drop i xs)) (map param zs)) (sym (drop_all i ys m))
    ∙ h
