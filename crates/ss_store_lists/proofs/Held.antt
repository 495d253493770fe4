-- What is listed after a list was changed.
use Rattle.std.proofs.Common.{◌≡◌, ◌≢◌, ◌⊎◌, inl, inr, ⊎_elim, ℕ, zero, suc, ◌<◌, ◌≤◌, List, [], ◌∷◌, ◌++◌, length, get_or, Bool, true, false, ◌||◌, ◌==◌, Option, Some, None, refl, sym, ◌∙◌, ap, subst, arith}
use Rattle.std.specs.Prelude.{slice_set, Vec, if◌then◌else◌}
use Rattle.std.specs.declared.alloc.Global.{Global}
use Rattle.std.proofs.lemmas.Bool.{eqb-true, eq-eqb}
use Rattle.ss_store_lists.specs.Listing.{is_listed, held_by, lists, listing, is_held, HasMore, HasMoreHeld, IsTaken}

-- ---- the list at one position

pub there : (vs : List (Vec ℕ Global)) (k : ℕ) (v : Vec ℕ Global) → k < length vs → (get_or vs k v).items ≡ held_by (lists vs) k
there [] k v l = absurd (omega arith)
there (x ∷ vs) zero v l = refl
there (x ∷ vs) (suc k) v l = there vs k v (omega arith)

pub past : (vs : List (Vec ℕ Global)) (k : ℕ) → length vs ≤ k → [] ≡ held_by (lists vs) k
past [] k l = refl
past (x ∷ vs) zero l = absurd (omega arith)
past (x ∷ vs) (suc k) l = past vs k (omega arith)

pub set_here : (vs : List (Vec ℕ Global)) (k : ℕ) (v : Vec ℕ Global) → k < length vs → held_by (lists (slice_set vs k v)) k ≡ v.items
set_here [] k v l = absurd (omega arith)
set_here (x ∷ vs) zero v l = refl
set_here (x ∷ vs) (suc k) v l = set_here vs k v (omega arith)

pub set_other : (vs : List (Vec ℕ Global)) (k h : ℕ) (v : Vec ℕ Global) → h ≢ k → held_by (lists (slice_set vs k v)) h ≡ held_by (lists vs) h
set_other [] k h v n = refl
set_other (x ∷ vs) zero zero v n = absurd (n refl)
set_other (x ∷ vs) zero (suc h) v n = refl
set_other (x ∷ vs) (suc k) zero v n = refl
set_other (x ∷ vs) (suc k) (suc h) v n = set_other vs k h v (λ e. n (ap suc e))

-- ---- more is listed

either : (b : Bool) → (b ≡ true) ⊎ (b ≡ false)
either true = inl refl
either false = inr refl

or_more : (a b c : Bool) → (b ≡ true → c ≡ true) → (a || b) ≡ true → (a || c) ≡ true
or_more true b c h e = refl
or_more false b c h e = h e

or_right : (a b : Bool) → b ≡ true → (a || b) ≡ true
or_right true b e = refl
or_right false b e = e

or_left : (a b : Bool) → a ≡ true → (a || b) ≡ true
or_left true b e = refl
or_left false b e = absurd (let f : false ≡ true = e in cc)

pub listed_last : (ps : List ℕ) (q : ℕ) → is_listed (ps ++ q ∷ []) q ≡ true
listed_last [] q = or_left (q == q) false (eq-eqb q q refl)
listed_last (p ∷ ps) q = or_right (p == q) (is_listed (ps ++ q ∷ []) q) (listed_last ps q)

listed_more : (ps : List ℕ) (r q : ℕ) → is_listed ps q ≡ true → is_listed (ps ++ r ∷ []) q ≡ true
listed_more [] r q e = absurd (let f : false ≡ true = e in cc)
listed_more (p ∷ ps) r q e = or_more (p == q) (is_listed ps q) (is_listed (ps ++ r ∷ []) q) (listed_more ps r q) e

pushed_if : (b : Bool) (ps : List ℕ) (r q : ℕ) → is_listed ps q ≡ true → is_listed (if b then ps ++ r ∷ [] else ps) q ≡ true
pushed_if true ps r q e = listed_more ps r q e
pushed_if false ps r q e = e

pub pushed_listed : (b : Bool) (vs : List (Vec ℕ Global)) (k q : ℕ) (before : List ℕ) (w : Vec ℕ Global) → k < length vs → w.items ≡ (if b then before ++ q ∷ [] else before) → b ≡ true → is_listed (held_by (lists (slice_set vs k w)) k) q ≡ true
pushed_listed true vs k q before w l items e = ap (λ ps. is_listed ps q) (set_here vs k w l ∙ items) ∙ listed_last before q
pushed_listed false vs k q before w l items e = absurd (let f : false ≡ true = e in cc)

pub pushed_more : (b : Bool) (vs : List (Vec ℕ Global)) (k r : ℕ) (v w : Vec ℕ Global) → k < length vs → w.items ≡ (if b then (get_or vs k v).items ++ r ∷ [] else (get_or vs k v).items) → HasMoreHeld (lists vs) (lists (slice_set vs k w))
pushed_more b vs k r v w l items h q e =
    ⊎_elim
    (λ here.
    let is : h ≡ k = eqb-true h k here in
    let before : is_listed (get_or vs k v).items q ≡ true = ap (λ ps. is_listed ps q) (there vs k v l) ∙ ap (λ n. is_listed (held_by (lists vs) n) q) (sym is) ∙ e in
    ap (λ n. is_listed (held_by (lists (slice_set vs k w)) n) q) is ∙ ap (λ ps. is_listed ps q) (set_here vs k w l ∙ items) ∙ pushed_if b (get_or vs k v).items r q before)
    (λ other. ap (λ ps. is_listed ps q) (set_other vs k h w (λ same. let f : true ≡ false = sym (eq-eqb h k same) ∙ other in cc)) ∙ e)
    (either (h == k))

added_more : (vs : List (Vec ℕ Global)) (v : Vec ℕ Global) → HasMoreHeld (lists vs) (lists (vs ++ v ∷ []))
added_more [] v h q e = absurd (let f : false ≡ true = none h e in cc)
  where
    none : (h : ℕ) → is_listed (held_by [] h) q ≡ true → false ≡ true
    none zero e = e
    none (suc h) e = e
added_more (x ∷ vs) v zero q e = e
added_more (x ∷ vs) v (suc h) q e = added_more vs v h q e

added_if : (b : Bool) (vs ws : List (Vec ℕ Global)) (v : Vec ℕ Global) → ws ≡ (if b then vs ++ v ∷ [] else vs) → HasMoreHeld (lists vs) (lists ws)
added_if true vs ws v is = subst (λ xs. HasMoreHeld (lists vs) (lists xs)) (sym is) (added_more vs v)
added_if false vs ws v is = subst (λ xs. HasMoreHeld (lists vs) (lists xs)) (sym is) (λ k q e. e)

-- ---- the lists as a whole

pub more_held : (w : Bool) (a b : List (List ℕ)) → HasMoreHeld a b → HasMore (listing w a) (listing w b)
more_held true a b h k q e = or_more (q == k) (is_listed (held_by a k) q) (is_listed (held_by b k) q) (h k q) e
more_held false a b h k q e = e

pub none_left : (l : Option (List (List ℕ))) (held : List (List ℕ)) → HasMore l (listing false held)
none_left l held k q e = refl

pub more_added : (w b : Bool) (vs ws : List (Vec ℕ Global)) (v : Vec ℕ Global) → ws ≡ (if b then vs ++ v ∷ [] else vs) → HasMore (listing w (lists vs)) (listing w (lists ws))
more_added w b vs ws v is = more_held w (lists vs) (lists ws) (added_if b vs ws v is)

pub held_pushed : (w : Bool) (held : List (List ℕ)) (k q : ℕ) → is_listed (held_by held k) q ≡ true → is_held (listing w held) k q ≡ true
held_pushed true held k q e = or_right (q == k) (is_listed (held_by held k) q) e
held_pushed false held k q e = refl

pub held_itself : (l : Option (List (List ℕ))) (k q : ℕ) → k ≡ q → is_held l k q ≡ true
held_itself None k q e = refl
held_itself (Some held) k q e = or_left (q == k) (is_listed (held_by held k) q) (eq-eqb q k (sym e))

-- what was taken out
pub taken_others : (w : Bool) (a b : List (List ℕ)) (k : ℕ) → ((h : ℕ) → h ≢ k → held_by b h ≡ held_by a h) → (h q : ℕ) → h ≢ k → is_held (listing w a) h q ≡ true → is_held (listing w b) h q ≡ true
taken_others false a b k others h q n e = refl
taken_others true a b k others h q n e = ap (λ xs. q == h || is_listed xs q) (others h n) ∙ e

pub taken_own : (w : Bool) (a b : List (List ℕ)) (k : ℕ) (ps : List ℕ) → ps ≡ held_by a k → (q : ℕ) → is_held (listing w a) k q ≡ true → IsTaken (listing w b) k ps q
taken_own false a b k ps is q e = tt
taken_own true a b k ps is q e =
    ⊎_elim
    (λ own. inl (eqb-true q k own))
    (λ not_own. inr (ap (λ xs. is_listed xs q) is ∙ (let f : is_listed (held_by a k) q ≡ true = rw not_own at e in f)))
    (either (q == k))
