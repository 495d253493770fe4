-- A loop that changes each object at its position.
use Rattle.std.proofs.Common.{◌≡◌, ◌≢◌, ℕ, zero, suc, ◌+◌, ◌<◌, ◌≤◌, List, [], ◌∷◌, ◌++◌, length, map, take, drop, set, get_or, Bool, true, false, ◌||◌, refl, sym, ◌∙◌, ap, subst, arith}
use Rattle.std.proofs.lemmas.List.{get_or_at, set_at, take_more, drop_more, length-take-le, length-map, map-append, append_assoc}
use Rattle.std.proofs.lemmas.Bool.{eq-eqb, ne_eqb}
use Rattle.ss_store_rules.specs.declared.Value.{Value}
use Rattle.ss_store_rules.specs.Store.{Object}
use Rattle.ss_store_rules.specs.Changes.{changed_from, changed, with_field, written, element_written, made_ready}

pub length-changed_from : (n : ℕ) (f : ℕ → Object → Object) (s : List Object) → length (changed_from n f s) ≡ length s
length-changed_from n f [] = refl
length-changed_from n f (x ∷ xs) = ap suc (length-changed_from (n + 1) f xs)

changed_from-push : (n : ℕ) (f : ℕ → Object → Object) (xs : List Object) (x : Object) → changed_from n f (xs ++ x ∷ []) ≡ changed_from n f xs ++ f (n + length xs) x ∷ []
changed_from-push n f [] x = let e : n + 0 ≡ n = omega arith in rw e refl
changed_from-push n f (y ∷ xs) x = let e : n + suc (length xs) ≡ n + 1 + length xs = omega arith in rw (changed_from-push (n + 1) f xs x, e) refl

-- the first i objects are changed
abbrev pub upto : (ℕ → Object → Object) → ℕ → List Object → List Object
upto f i s = changed f (take i s) ++ drop i s

-- and now one more
pub upto_more : (f : ℕ → Object → Object) (s now : List Object) (i : ℕ) (d : Object) → i < length s → now ≡ upto f i s → set now i (f i (get_or now i d)) ≡ upto f (i + 1) s
upto_more f s now i d l e =
    let x = get_or s i d in
    let front : length (changed f (take i s)) ≡ i = length-changed_from 0 f (take i s) ∙ length-take-le i s (omega arith) in
    let split : now ≡ changed f (take i s) ++ x ∷ drop (i + 1) s = e ∙ ap (λ r. changed f (take i s) ++ r) (drop_more s i d l) in
    let here : get_or now i d ≡ x = ap (λ r. get_or r i d) split ∙ get_or_at (changed f (take i s)) x (drop (i + 1) s) d i front in
    let after : set now i (f i x) ≡ changed f (take i s) ++ f i x ∷ drop (i + 1) s = ap (λ r. set r i (f i x)) split ∙ set_at (changed f (take i s)) x (drop (i + 1) s) (f i x) i front in
    let num : 0 + length (take i s) ≡ i = omega (arith, length-take-le i s (omega arith)) in
    let pushed : changed f (take (i + 1) s) ≡ changed f (take i s) ++ f i x ∷ [] = ap (changed f) (take_more s i d l) ∙ changed_from-push 0 f (take i s) x ∙ ap (λ n. changed f (take i s) ++ f n x ∷ []) num in
    ap (λ y. set now i (f i y)) here ∙ after ∙ sym (append_assoc (changed f (take i s)) (f i x ∷ []) (drop (i + 1) s)) ∙ ap (λ r. r ++ drop (i + 1) s) (sym pushed)

-- ---- a change of one object

changed_from-none : (n : ℕ) (f : ℕ → Object → Object) (s : List Object) → ((q : ℕ) (x : Object) → n ≤ q → f q x ≡ x) → changed_from n f s ≡ s
changed_from-none n f [] h = refl
changed_from-none n f (x ∷ s) h = let e = h n x (omega arith) in let es = changed_from-none (n + 1) f s (λ q y l. h q y (omega arith)) in cc

changed_from-one : (n o : ℕ) (f : ℕ → Object → Object) (s : List Object) (d : Object) → ((q : ℕ) (x : Object) → (q ≡ n + o → ⊥) → f q x ≡ x) → o < length s → changed_from n f s ≡ set s o (f (n + o) (get_or s o d))
changed_from-one n o f [] d h l = absurd (omega arith)
changed_from-one n zero f (x ∷ s) d h l =
    let e : n + 0 ≡ n = omega arith in
    let rest = changed_from-none (n + 1) f s (λ q y g. h q y (λ is. absurd (omega arith))) in
    rw (e, rest) refl
changed_from-one n (suc o) f (x ∷ s) d h l =
    let e : n + 1 + o ≡ n + suc o = omega arith in
    let first : f n x ≡ x = h n x (λ is. absurd (omega arith)) in
    let rest = changed_from-one (n + 1) o f s d (λ q y g. h q y (λ is. g (omega arith))) (omega arith) in
    rw (first, rest, e) refl

-- where the others stay
pub changed_one : (o : ℕ) (f : ℕ → Object → Object) (s : List Object) (d : Object) → ((q : ℕ) (x : Object) → q ≢ o → f q x ≡ x) → o < length s → changed f s ≡ set s o (f o (get_or s o d))
changed_one o f s d h l =
    let z : 0 + o ≡ o = omega arith in
    subst (λ n. changed f s ≡ set s o (f n (get_or s o d))) z (changed_from-one 0 o f s d (λ q x n. h q x (λ is. n (omega arith))) l)

-- where none changes
pub changed_none : (f : ℕ → Object → Object) (s : List Object) → ((q : ℕ) (x : Object) → q < length s → f q x ≡ x) → changed f s ≡ s
changed_none f s h = from 0 s (λ q x l. h q x (omega arith))
  where
    from : (n : ℕ) (s : List Object) → ((q : ℕ) (x : Object) → q < n + length s → f q x ≡ x) → changed_from n f s ≡ s
    from n [] h = refl
    from n (x ∷ s) h = let e = h n x (omega arith) in let es = from (n + 1) s (λ q y l. h q y (omega arith)) in cc

pub written_one : (o f : ℕ) (v : Value) (s : List Object) (d : Object) → o < length s → changed (written o f v) s ≡ set s o (record (get_or s o d) { fields = with_field (get_or s o d).fields f v })
written_one o f v s d l = rw (changed_one o (written o f v) s d (λ q x n. rw (ne_eqb q o n) refl) l, eq-eqb o o refl) refl

pub element_written_one : (a i : ℕ) (v : Value) (s : List Object) (d : Object) → a < length s → changed (element_written a i v) s ≡ set s a (record (get_or s a d) { elements = set (get_or s a d).elements i v })
element_written_one a i v s d l = rw (changed_one a (element_written a i v) s d (λ q x n. rw (ne_eqb q a n) refl) l, eq-eqb a a refl) refl

or_false : (b : Bool) → (b || false) ≡ b
or_false true = refl
or_false false = refl

or_true : (b : Bool) → (b || true) ≡ true
or_true true = refl
or_true false = refl

pub made_ready_one : (o : ℕ) (s : List Object) (d : Object) → o < length s → changed (made_ready o) s ≡ set s o (record (get_or s o d) { ready = true })
made_ready_one o s d l = rw (changed_one o (made_ready o) s d (λ q x n. rw (ne_eqb q o n, or_false x.ready) refl) l, eq-eqb o o refl, or_true (get_or s o d).ready) refl

pub made_ready_none : (o : ℕ) (s : List Object) → length s ≤ o → changed (made_ready o) s ≡ s
made_ready_none o s l = changed_none (made_ready o) s (λ q x h. let n : q ≢ o = omega arith in rw (ne_eqb q o n, or_false x.ready) refl)

-- ---- a loop that changes each item

pub mapped_more : {X : Type 0} (f : X → X) (s now : List X) (i : ℕ) (d : X) → i < length s → now ≡ map f (take i s) ++ drop i s → set now i (f (get_or now i d)) ≡ map f (take (i + 1) s) ++ drop (i + 1) s
mapped_more f s now i d l e =
    let x = get_or s i d in
    let front : length (map f (take i s)) ≡ i = length-map (take i s) f ∙ length-take-le i s (omega arith) in
    let split : now ≡ map f (take i s) ++ x ∷ drop (i + 1) s = e ∙ ap (λ r. map f (take i s) ++ r) (drop_more s i d l) in
    let here : get_or now i d ≡ x = ap (λ r. get_or r i d) split ∙ get_or_at (map f (take i s)) x (drop (i + 1) s) d i front in
    let after : set now i (f x) ≡ map f (take i s) ++ f x ∷ drop (i + 1) s = ap (λ r. set r i (f x)) split ∙ set_at (map f (take i s)) x (drop (i + 1) s) (f x) i front in
    let pushed : map f (take (i + 1) s) ≡ map f (take i s) ++ f x ∷ [] = ap (map f) (take_more s i d l) ∙ map-append f (take i s) (x ∷ []) in
    ap (λ y. set now i (f y)) here ∙ after ∙ sym (append_assoc (map f (take i s)) (f x ∷ []) (drop (i + 1) s)) ∙ ap (λ r. r ++ drop (i + 1) s) (sym pushed)
