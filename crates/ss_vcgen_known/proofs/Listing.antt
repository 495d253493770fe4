-- Functions that lists say.
use Rattle.std.proofs.Common.{◌≡◌, ◌≢◌, ℕ, zero, suc, ◌+◌, ◌<◌, ◌≤◌, Bool, true, false, List, [], ◌∷◌, ◌++◌, map, length, get_or, arith, set, refl, sym, ap, subst, ◌∙◌, ⊎_elim}
use Rattle.std.specs.Prelude.{◌==◌, ◌||◌, ◌&&◌, not, if◌then◌else◌, Some, None, slice_get}
use Rattle.std.proofs.lemmas.Bool.{cases_eq, cases_lt, eq-eqb, ne_eqb, lt-ltb, le-ltb}
use Rattle.std.proofs.lemmas.List.{get_or-set_same, get_or-set_other, get_or_append_left}
use Rattle.ss_paths.specs.Sets.{Set, put, none}
use Rattle.ss_paths.specs.Sets as sets
use Rattle.ss_core.specs.Chain as chain
use Rattle.ss_core.specs.Chain.{all_fields}
use Rattle.ss_core.specs.Tree.{ClassTree}
use Rattle.ss_store_rules.specs.Changes.{class_of_field, field_class}
use Rattle.ss_bit_set.specs.Marked.{listed}
use Rattle.ss_bit_set.proofs.Lists.{listed_past}
use Rattle.ss_store_rules.specs.NonNull.{Facts, both, no_facts}
use Rattle.ss_vcgen_known.specs.Pairs.{Pair, alike}
use Rattle.ss_vcgen_known.specs.Sets.{without, pair_without, joined_below, below, at}

pub same : {X : Type 0} {f g : ℕ → X} → ((x : ℕ) → f x ≡ g x) → f ≡ g
same h = λ i x. h x i

pub empty_listed : (bs : List Bool) → length bs < 1 → listed bs ≡ none
unfolding listed none
empty_listed [] l = refl
empty_listed (b ∷ bs) l = absurd (omega arith)

pub at_none : {X : Type 0} (d : X) → at [] d ≡ (λ x. d)
unfolding at
at_none d = refl

past : {X : Type 0} (xs : List X) (d : X) (x : ℕ) → length xs ≤ x → get_or xs x d ≡ d
past [] d x l = refl
past (y ∷ ys) d zero l = absurd (omega arith)
past (y ∷ ys) d (suc x) l = past ys d x (omega arith)

pub at_past : {X : Type 0} (xs : List X) (d : X) (x : ℕ) → length xs ≤ x → at xs d x ≡ d
unfolding at
at_past xs d x l = past xs d x l

more : {X : Type 0} (xs : List X) (d : X) (x : ℕ) → get_or (xs ++ d ∷ []) x d ≡ get_or xs x d
more [] d zero = refl
more [] d (suc x) = refl
more (y ∷ ys) d zero = refl
more (y ∷ ys) d (suc x) = more ys d x

pub at_more : {X : Type 0} (xs : List X) (d : X) → at (xs ++ d ∷ []) d ≡ at xs d
unfolding at
at_more xs d = same (more xs d)

pub at_set : {X : Type 0} (xs : List X) (d : X) (x : ℕ) (y : X) → x < length xs → at (set xs x y) d ≡ (λ z. if x == z then y else at xs d z)
unfolding at
at_set xs d x y within =
    same
    (λ z. ⊎_elim
    (λ (e : x ≡ z). rw (eq-eqb x z e) (subst (λ (w : ℕ). get_or (set xs x y) w d ≡ y) e (get_or-set_same xs x y d within)))
    (λ (ne : x ≢ z). rw (ne_eqb x z ne) (get_or-set_other xs x z y d (λ h. ne (sym h))))
    (cases_eq x z))

mapped : {X Y : Type 0} (f : X → Y) (xs : List X) (d : X) (x : ℕ) → get_or (map f xs) x (f d) ≡ f (get_or xs x d)
mapped f [] d x = refl
mapped f (y ∷ ys) d zero = refl
mapped f (y ∷ ys) d (suc x) = mapped f ys d x

pub at_map : {X Y : Type 0} (f : X → Y) (xs : List X) (d : X) (x : ℕ) → at (map f xs) (f d) x ≡ f (at xs d x)
unfolding at
at_map f xs d x = mapped f xs d x

-- ---- below

length_below : {X : Type 0} (f : ℕ → X) (n : ℕ) → length (below f n) ≡ n
length_below f zero = refl
length_below f (suc n) = length_more (below f n) (f n) ∙ ap suc (length_below f n)
  where
    length_more : {X : Type 0} (xs : List X) (x : X) → length (xs ++ x ∷ []) ≡ suc (length xs)
    length_more [] x = refl
    length_more (y ∷ ys) x = ap suc (length_more ys x)

last : {X : Type 0} (xs : List X) (d y : X) → get_or (xs ++ y ∷ []) (length xs) d ≡ y
last [] d y = refl
last (x ∷ xs) d y = last xs d y

value_below : {X : Type 0} (f : ℕ → X) (n : ℕ) (d : X) (x : ℕ) → x < n → get_or (below f n) x d ≡ f x
value_below f zero d x l = absurd (omega arith)
value_below f (suc n) d x l =
    ⊎_elim
    (λ (e : x < n). get_or_append_left (below f n) (f n ∷ []) d x (omega (arith, length_below f n)) ∙ value_below f n d x e)
    (λ (e : n ≤ x).
    let here : x ≡ n = omega arith in
    ap (λ z. get_or (below f n ++ f n ∷ []) z d) (here ∙ sym (length_below f n)) ∙ last (below f n) d (f n) ∙ ap f (sym here))
    (cases_lt x n)

pub at_below : {X : Type 0} (f : ℕ → X) (n : ℕ) (d : X) → ((x : ℕ) → n ≤ x → f x ≡ d) → at (below f n) d ≡ f
unfolding at
at_below f n d beyond =
    same
    (λ x. ⊎_elim
    (λ (l : x < n). value_below f n d x l)
    (λ (l : n ≤ x). past (below f n) d x (omega (arith, length_below f n)) ∙ sym (beyond x l))
    (cases_lt x n))

pub below_next : {X : Type 0} (f : ℕ → X) (n : ℕ) → below f (n + 1) ≡ below f n ++ f n ∷ []
below_next f n = let e : n + 1 ≡ suc n = omega arith in ap (below f) e

-- ---- pairs

pub at_pair : {X : Type 0} (f : X → Pair) (xs : List X) (x : ℕ) (y : X) (d : Pair) → x < length xs → y ≡ get_or xs x y → at (map f xs) d x ≡ f y
unfolding at
at_pair f (z ∷ zs) zero y d l e = ap f (sym e)
at_pair f (z ∷ zs) (suc x) y d l e = inner f zs x y d (omega arith) e
  where
    inner : {X : Type 0} (f : X → Pair) (xs : List X) (x : ℕ) (y : X) (d : Pair) → x < length xs → y ≡ get_or xs x y → get_or (map f xs) x d ≡ f y
    inner f [] x y d l e = absurd (omega arith)
    inner f (z ∷ zs) zero y d l e = ap f (sym e)
    inner f (z ∷ zs) (suc x) y d l e = inner f zs x y d (omega arith) e
at_pair f [] x y d l e = absurd (omega arith)

pub at_without : (x : ℕ) (ps : List Pair) (f : Facts) (y : ℕ) → at (map (pair_without x) ps) (alike (without x f)) y ≡ pair_without x (at ps (alike f) y)
at_without x ps f y = at_map (pair_without x) ps (alike f) y

-- ---- sets joined number by number

or_false : (b : Bool) → (b || false) ≡ b
or_false true = refl
or_false false = refl

or_true : (b : Bool) → (b || true) ≡ true
or_true true = refl
or_true false = refl

and_false : (b : Bool) → (b && false) ≡ false
and_false true = refl
and_false false = refl

and_true : (b : Bool) → (b && true) ≡ b
and_true true = refl
and_true false = refl

or_assoc : (a b c : Bool) → ((a || b) || c) ≡ (a || (b || c))
or_assoc true b c = refl
or_assoc false b c = refl

pub joined_none : (f g : Facts) → joined_below 0 f g ≡ f
unfolding joined_below
joined_none f g = same (λ x. rw (le-ltb x 0 (omega arith)) refl)

strict : (n x : ℕ) → n ≤ x → n ≢ x → n + 1 ≤ x
strict n x l ne = omega arith

pub joined_in : (n : ℕ) (f g : Facts) → g n ≡ true → put n true (joined_below n f g) ≡ joined_below (n + 1) f g
unfolding put joined_below
joined_in n f g in_it =
    same
    (λ x. ⊎_elim
    (λ (e : n ≡ x). rw (eq-eqb n x e, lt-ltb x (n + 1) (omega arith)) (sym (ap (λ (b : Bool). f x || b) (ap g (sym e) ∙ in_it) ∙ or_true (f x))))
    (λ (ne : n ≢ x). rw (ne_eqb n x ne)
    (⊎_elim
    (λ (l : x < n). rw (lt-ltb x n l, lt-ltb x (n + 1) (omega arith)) refl)
    (λ (l : n ≤ x). rw (le-ltb x n l, le-ltb x (n + 1) (strict n x l ne)) refl)
    (cases_lt x n)))
    (cases_eq n x))

pub joined_out : (n : ℕ) (f g : Facts) → g n ≡ false → joined_below n f g ≡ joined_below (n + 1) f g
unfolding joined_below
joined_out n f g out =
    same
    (λ x. ⊎_elim
    (λ (l : x < n). rw (lt-ltb x n l, lt-ltb x (n + 1) (omega arith)) refl)
    (λ (l : n ≤ x). ⊎_elim
    (λ (e : n ≡ x). rw (le-ltb x n l, lt-ltb x (n + 1) (omega arith)) (sym (ap (λ (b : Bool). f x || b) (ap g (sym e) ∙ out) ∙ or_false (f x))))
    (λ (ne : n ≢ x). rw (le-ltb x n l, le-ltb x (n + 1) (strict n x l ne)) refl)
    (cases_eq n x))
    (cases_lt x n))

pub joined_all : (bs : List Bool) (n : ℕ) (f : Facts) → length bs ≤ n → joined_below n f (listed bs) ≡ both f (listed bs)
unfolding joined_below
joined_all bs n f l =
    same
    (λ x. ⊎_elim
    (λ (b : x < n). rw (lt-ltb x n b) refl)
    (λ (a : n ≤ x). rw (le-ltb x n a, listed_past bs x (omega arith)) (sym (or_false (f x))))
    (cases_lt x n))

-- ---- sets of locals

-- one local more
pub put_one : (x : ℕ) (f : Facts) → put x true f ≡ both f (λ y. x == y)
unfolding put
put_one x f =
    same
    (λ y. ⊎_elim
    (λ (e : x ≡ y). rw (eq-eqb x y e) (sym (or_true (f y))))
    (λ (ne : x ≢ y). rw (ne_eqb x y ne) (sym (or_false (f y))))
    (cases_eq x y))

-- one local less
pub put_less : (x : ℕ) (f : Facts) → put x false f ≡ without x f
unfolding put
put_less x f =
    same
    (λ y. ⊎_elim
    (λ (e : x ≡ y). rw (eq-eqb x y e) (sym (and_false (f y))))
    (λ (ne : x ≢ y). rw (ne_eqb x y ne) (sym (and_true (f y))))
    (cases_eq x y))

-- a local that isn't in the set is out of it
pub not_in : (x : ℕ) (f : Facts) → f x ≡ false → f ≡ without x f
not_in x f out =
    same
    (λ y. ⊎_elim
    (λ (e : x ≡ y). rw (eq-eqb x y e) (ap f (sym e) ∙ out ∙ sym (and_false (f y))))
    (λ (ne : x ≢ y). rw (ne_eqb x y ne) (sym (and_true (f y))))
    (cases_eq x y))

pub both_none : (f : Facts) → both f no_facts ≡ f
both_none f = same (λ y. or_false (f y))

pub both_assoc : (f g h : Facts) → both (both f g) h ≡ both f (both g h)
both_assoc f g h = λ i y. or_assoc (f y) (g y) (h y) i

pub none_is_none : none ≡ no_facts
unfolding none
none_is_none = refl

pub met_sets : (f g : Facts) → sets.both f g ≡ (λ x. f x && g x)
unfolding sets.both
met_sets f g = refl

-- ---- sets of fields

pub fields_either : (xs ys : List Bool) (d e : Bool) (n : ℕ) → length xs ≤ n → length ys ≤ n → at (below (λ f. at xs d f || at ys e f) n) (d || e) ≡ (λ f. at xs d f || at ys e f)
fields_either xs ys d e n l m = at_below (λ f. at xs d f || at ys e f) n (d || e) (λ x le. ap (λ b. b || at ys e x) (at_past xs d x (omega arith)) ∙ ap (λ b. d || b) (at_past ys e x (omega arith)))

pub fields_both : (xs ys : List Bool) (d e : Bool) (n : ℕ) → length xs ≤ n → length ys ≤ n → at (below (λ f. at xs d f && at ys e f) n) (d && e) ≡ (λ f. at xs d f && at ys e f)
fields_both xs ys d e n l m = at_below (λ f. at xs d f && at ys e f) n (d && e) (λ x le. ap (λ b. b && at ys e x) (at_past xs d x (omega arith)) ∙ ap (λ b. d && b) (at_past ys e x (omega arith)))

none_past : {X : Type 0} (xs : List X) (i j : ℕ) → slice_get xs i ≡ None → i ≤ j → slice_get xs j ≡ None
none_past [] i zero h l = refl
none_past [] i (suc j) h l = refl
none_past (x ∷ xs) zero j h l = absurd (some_none x h)
  where
    some_none : {X : Type 0} (x : X) → Some x ≡ None → ⊥
    some_none x h = cc
none_past (x ∷ xs) (suc i) zero h l = absurd (omega arith)
none_past (x ∷ xs) (suc i) (suc j) h l = none_past xs i j h (omega arith)

-- the fields that a class above declares: past the last field all count as fields of `object`
pub fields_above : (cs : List ClassTree) (t n : ℕ) → slice_get (all_fields cs) n ≡ None →
    at (below (λ f. chain.below cs t (field_class cs f) && not (field_class cs f == t)) n) (chain.below cs t 0 && not (0 == t)) ≡ (λ f. chain.below cs t (field_class cs f) && not (field_class cs f == t))
fields_above cs t n h = at_below (λ f. chain.below cs t (field_class cs f) && not (field_class cs f == t)) n (chain.below cs t 0 && not (0 == t))
    (λ x le. ap (λ o. chain.below cs t (class_of_field o) && not (class_of_field o == t)) (none_past (all_fields cs) n x h le))
