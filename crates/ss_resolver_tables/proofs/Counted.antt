-- Numbers of fields and bodies lie within the whole.
use Rattle.std.proofs.Common.{ℕ, zero, suc, ◌+◌, ◌≡◌, ◌≤◌, List, [], ◌∷◌, map, length, take, refl, sym, ap, ◌∙◌, arith, Option, Some, None, option_map, Bool, true, false, cond, is_some}
use Rattle.std.specs.Prelude.{sum_by, unwrap_or, slice_get, position, find, IfSome, ◌<◌, ◌||◌, nat_lt}
use Rattle.std.specs.List.{list_any, position_or_len, position_from}
use Rattle.std.proofs.lemmas.List.Sums.{sum_by-cons}
use Rattle.std.specs.Str.{bytes_eq}
use Rattle.ss_ast.specs.Programs.{MemberTree, ClassTree}
use Rattle.ss_tables.specs.Members.{FieldTree, MethodTree, fields_in, methods_in, constructors_in, method_in}
use Rattle.ss_tables.specs.Classes.{members_in, members_at}
use Rattle.ss_tables.specs.Named.{named_in}
use Rattle.ss_tables_lookup.specs.Shelves.{Shelf, shelf}
use Rattle.ss_tables_lookup.proofs.Noted.{first_place, place_within}
use Rattle.std.proofs.lemmas.Iterator.Adapters.{position_from-zero}
use Rattle.ss_tables_lookup.specs.Places.{places_of}
use Rattle.ss_core.specs.Tree.{EntryTree}
use Rattle.ss_resolver_names_rules.specs.Faults.{is_listed}
use Rattle.ss_resolver_rules.specs.Numbers.{names_of, overridden, declared_entry}
use Rattle.ss_resolver_tables.specs.Slots.{new_among}
use Rattle.std.proofs.Common.{add-one}
use Rattle.ss_resolver_rules.specs.Numbers.{field_count, body_count, field_place, field_id, constructor_id, method_place, method_id, method_names}
use Rattle.ss_resolver_tables.specs.Starts.{starts_from, start_at}

-- ---- what comes before a class

pub start_is : {A : Type 0} (f : A → ℕ) (n : ℕ) (xs : List A) (k all : ℕ) → all ≡ n + sum_by f xs → start_at (starts_from f n xs) all k ≡ n + sum_by f (take k xs)
start_is f n [] zero all e = e
start_is f n [] (suc k) all e = e
start_is f n (x ∷ xs) zero all e = omega arith
start_is f n (x ∷ xs) (suc k) all e =
    let more : all ≡ (n + f x) + sum_by f xs = omega (arith, e, sum_by-cons f x xs) in
    let less : (n + f x) + sum_by f (take k xs) ≡ n + sum_by f (x ∷ take k xs) = omega (arith, sum_by-cons f x (take k xs)) in
    start_is f (n + f x) xs k all more ∙ less

pub first_start : {A : Type 0} (f : A → ℕ) (xs : List A) (k all : ℕ) → all ≡ sum_by f xs → start_at (starts_from f 0 xs) all k ≡ sum_by f (take k xs)
first_start f xs k all e = let h = start_is f 0 xs k all (omega (arith, e)) in omega (arith, h)

-- a place within a class is a place within the whole
pub within_whole : (f : ClassTree → ℕ) (g : List MemberTree → ℕ) → g [] ≡ 0 → ((c : ClassTree) → g c.members ≤ f c) → (cs : List ClassTree) (k : ℕ) → sum_by f (take k cs) + g (members_at cs k) ≤ sum_by f cs
within_whole f g none each [] zero = omega (arith, none)
within_whole f g none each [] (suc k) = omega (arith, none)
within_whole f g none each (c ∷ cs) zero = omega (arith, each c, sum_by-cons f c cs)
within_whole f g none each (c ∷ cs) (suc k) = omega (arith, within_whole f g none each cs k, sum_by-cons f c cs, sum_by-cons f c (take k cs))

place_or : {A : Type 0} (p : A → Bool) (xs : List A) → unwrap_or (position p xs) 0 ≤ length xs
place_or p xs = at (position p xs) (place_within p xs)
  where
    at : (o : Option ℕ) → IfSome o (λ k. k < length xs) → unwrap_or o 0 ≤ length xs
    at None h = omega arith
    at (Some k) h = omega (arith, h)

pub field_within : (cs : List ClassTree) (k : ℕ) (n : List ℕ) → field_id cs k n ≤ sum_by field_count cs
field_within cs k n = within_whole field_count (λ ms. field_place ms n) refl (λ c. place_or (λ (f : FieldTree). bytes_eq n f.name.text) (fields_in c.members)) cs k

pub constructor_within : (cs : List ClassTree) (k : ℕ) → constructor_id cs k ≤ sum_by body_count cs
constructor_within cs k = let h = within_whole body_count (λ ms. 0) refl (λ c. omega arith) cs k in omega (arith, h)

pub method_within : (cs : List ClassTree) (k : ℕ) (n : List ℕ) → method_id cs k n ≤ sum_by body_count cs
method_within cs k n = within_whole body_count (λ ms. length (constructors_in ms) + method_place ms n) refl (λ c. omega (arith, place_or (λ (m : MethodTree). bytes_eq n m.name.text) (methods_in c.members))) cs k

-- ---- what a shelf says

pub field_place_shelved : (cs : List ClassTree) (k : ℕ) (n : List ℕ) (s : Shelf) → Some s ≡ option_map (shelf cs) (slice_get cs k) → unwrap_or (named_in s.field_places n) 0 ≡ field_place (members_at cs k) n
field_place_shelved cs k n s e = at (slice_get cs k) e
  where
    at : (o : Option ClassTree) → Some s ≡ option_map (shelf cs) o → unwrap_or (named_in s.field_places n) 0 ≡ field_place (members_in o) n
    at None e = absurd cc
    at (Some c) e = rw (ap (λ o. unwrap_or o s) e) (ap (λ o. unwrap_or o 0) (first_place (λ (f : FieldTree). f.name.text) n (fields_in c.members)))

pub method_place_shelved : (cs : List ClassTree) (k : ℕ) (n : List ℕ) (s : Shelf) → Some s ≡ option_map (shelf cs) (slice_get cs k) → unwrap_or (named_in s.method_places n) 0 ≡ method_place (members_at cs k) n
method_place_shelved cs k n s e = at (slice_get cs k) e
  where
    at : (o : Option ClassTree) → Some s ≡ option_map (shelf cs) o → unwrap_or (named_in s.method_places n) 0 ≡ method_place (members_in o) n
    at None e = absurd cc
    at (Some c) e = rw (ap (λ o. unwrap_or o s) e) (ap (λ o. unwrap_or o 0) (first_place (λ (m : MethodTree). m.name.text) n (methods_in c.members)))

pub constructors_shelved : (cs : List ClassTree) (k : ℕ) (s : Shelf) → Some s ≡ option_map (shelf cs) (slice_get cs k) → s.constructors ≡ constructors_in (members_at cs k)
constructors_shelved cs k s e = at (slice_get cs k) e
  where
    at : (o : Option ClassTree) → Some s ≡ option_map (shelf cs) o → s.constructors ≡ constructors_in (members_in o)
    at None e = absurd cc
    at (Some c) e = rw (ap (λ o. unwrap_or o s) e) refl

-- a method that is found is one of the names
found_listed : {A : Type 0} (name : A → List ℕ) (n : List ℕ) (xs : List A) → is_some (find (λ x. bytes_eq n (name x)) xs) ≡ is_listed (map name xs) n
found_listed name n [] = refl
found_listed name n (x ∷ xs) = at (bytes_eq n (name x)) (found_listed name n xs)
  where
    at : (b : Bool) → is_some (find (λ y. bytes_eq n (name y)) xs) ≡ is_listed (map name xs) n → is_some (cond b (Some x) (find (λ y. bytes_eq n (name y)) xs)) ≡ (b || is_listed (map name xs) n)
    at true h = refl
    at false h = h

pub method_listed : (ms : List MemberTree) (n : List ℕ) → is_some (method_in ms n) ≡ is_listed (method_names ms) n
method_listed ms n = found_listed (λ (m : MethodTree). m.name.text) n (methods_in ms)

-- ---- tables of methods

abbrev pub entry : List ℕ → ℕ → EntryTree
entry n b = record { name = n; body = b }

pub stays : (cs : List ClassTree) (k : ℕ) (e : EntryTree) → is_listed (method_names (members_at cs k)) e.name ≡ false → e ≡ overridden cs k e
stays cs k e h = rw h refl

pub replaced : (cs : List ClassTree) (k : ℕ) (n : List ℕ) (b old : ℕ) → is_listed (method_names (members_at cs k)) n ≡ true → b ≡ method_id cs k n → entry n b ≡ overridden cs k (entry n old)
replaced cs k n b old h i = rw (h, i) refl

-- a name that has a place is one of the names
any_from : {A : Type 0} (p : A → Bool) (i : ℕ) (xs : List A) → is_some (position_from p i xs) ≡ list_any p xs
any_from p i [] = refl
any_from p i (x ∷ xs) = at (p x) (any_from p (i + 1) xs)
  where
    at : (b : Bool) → is_some (position_from p (i + 1) xs) ≡ list_any p xs → is_some (cond b (Some i) (position_from p (i + 1) xs)) ≡ (b || list_any p xs)
    at true h = refl
    at false h = h

any_named : {A : Type 0} (name : A → List ℕ) (n : List ℕ) (xs : List A) → list_any (λ x. bytes_eq n (name x)) xs ≡ is_listed (map name xs) n
any_named name n [] = refl
any_named name n (x ∷ xs) = ap (λ b. bytes_eq n (name x) || b) (any_named name n xs)

pub place_listed : (es : List EntryTree) (n : List ℕ) → is_some (named_in (places_of (names_of es)) n) ≡ is_listed (names_of es) n
place_listed es n =
    ap is_some (first_place (λ (e : EntryTree). e.name) n es ∙ position_from-zero (λ (e : EntryTree). bytes_eq n e.name) es)
    ∙ any_from (λ (e : EntryTree). bytes_eq n e.name) 0 es
    ∙ any_named (λ (e : EntryTree). e.name) n es

pub not_new : (es : List EntryTree) (n : List ℕ) → is_listed (names_of es) n ≡ true → new_among es (n ∷ []) ≡ []
not_new es n h = rw h refl

pub is_new : (es : List EntryTree) (n : List ℕ) → is_listed (names_of es) n ≡ false → new_among es (n ∷ []) ≡ n ∷ []
is_new es n h = rw h refl

pub one_more : (cs : List ClassTree) (k : ℕ) (n : List ℕ) (b : ℕ) → b ≡ method_id cs k n → entry n b ≡ declared_entry cs k n
one_more cs k n b e = ap (entry n) e
