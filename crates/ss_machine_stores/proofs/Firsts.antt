-- The first of lists that are joined, and of what is left of one.
use Rattle.std.proofs.Common.{◌≡◌, ℕ, ◌+◌, ◌<◌, ◌≤◌, List, [], ◌∷◌, ◌++◌, length, drop, get_or, Bool, true, false, Option, Some, None, refl, sym, ◌∙◌, ap}
use Rattle.std.specs.Prelude.{is_some, not}
use Rattle.std.specs.Option.{option_or}
use Rattle.std.proofs.lemmas.List.{drop_more, drop_all}
use Rattle.ss_machine_rules.specs.declared.Location.{Location}
use Rattle.ss_machine_rules.specs.Frame.{is_empty}
use Rattle.ss_machine_stores.specs.Firsts.{first}

pub first-append : (xs ys : List Location) → first (xs ++ ys) ≡ option_or (first xs) (first ys)
first-append [] ys = refl
first-append (l ∷ xs) ys = refl

-- the first of five lists, each asked in turn
pub first_of_five : (a b d e f : List Location) (p q r s t u v w x : Option Location) → p ≡ first a → q ≡ first b → u ≡ option_or p q → r ≡ first d → v ≡ option_or u r → s ≡ first e → w ≡ option_or v s → t ≡ first f → x ≡ option_or w t → x ≡ first (a ++ b ++ d ++ e ++ f)
first_of_five a b d e f p q r s t u v w x e1 e2 e3 e4 e5 e6 e7 e8 e9 =
    let one = first-append a b in
    let two = first-append (a ++ b) d in
    let three = first-append (a ++ b ++ d) e in
    let four = first-append (a ++ b ++ d ++ e) f in
    cc

pub empty_first : (xs : List Location) (b : Bool) → is_some (first xs) ≡ not b → b ≡ is_empty xs
empty_first [] true h = refl
empty_first [] false h = cc
empty_first (l ∷ xs) true h = cc
empty_first (l ∷ xs) false h = refl

-- what each item gives, from the position i on
pub record IsGiven {X : Type 0} (all : ℕ → List X → List Location) (each : ℕ → X → List Location) : Type 0 where
  pub none : (i : ℕ) → all i [] ≡ []
  pub more : (i : ℕ) (x : X) (xs : List X) → all i (x ∷ xs) ≡ each i x ++ all (i + 1) xs

at_item : {X : Type 0} (all : ℕ → List X → List Location) (each : ℕ → X → List Location) → IsGiven all each → (xs : List X) (i : ℕ) (d : X) → i < length xs → first (all i (drop i xs)) ≡ option_or (first (each i (get_or xs i d))) (first (all (i + 1) (drop (i + 1) xs)))
at_item all each given xs i d l =
    ap (λ ys. first (all i ys)) (drop_more xs i d l)
    ∙ ap first (given.more i (get_or xs i d) (drop (i + 1) xs))
    ∙ first-append (each i (get_or xs i d)) (all (i + 1) (drop (i + 1) xs))

pub found_at : {X : Type 0} (all : ℕ → List X → List Location) (each : ℕ → X → List Location) → IsGiven all each → (xs : List X) (i : ℕ) (d : X) (l : Location) (whole : Option Location) → i < length xs → first (each i (get_or xs i d)) ≡ Some l → first (all i (drop i xs)) ≡ whole → Some l ≡ whole
found_at all each given xs i d l whole less here left = sym (ap (λ o. option_or o (first (all (i + 1) (drop (i + 1) xs)))) here) ∙ sym (at_item all each given xs i d less) ∙ left

pub next_at : {X : Type 0} (all : ℕ → List X → List Location) (each : ℕ → X → List Location) → IsGiven all each → (xs : List X) (i : ℕ) (d : X) (whole : Option Location) → i < length xs → first (each i (get_or xs i d)) ≡ None → first (all i (drop i xs)) ≡ whole → first (all (i + 1) (drop (i + 1) xs)) ≡ whole
next_at all each given xs i d whole less here left = sym (ap (λ o. option_or o (first (all (i + 1) (drop (i + 1) xs)))) here) ∙ sym (at_item all each given xs i d less) ∙ left

pub none_left : {X : Type 0} (all : ℕ → List X → List Location) (each : ℕ → X → List Location) → IsGiven all each → (xs : List X) (i : ℕ) (whole : Option Location) → length xs ≤ i → first (all i (drop i xs)) ≡ whole → None ≡ whole
none_left all each given xs i whole past left = sym (ap first (given.none i)) ∙ sym (ap (λ ys. first (all i ys)) (drop_all i xs past)) ∙ left
