-- What isn't false is true: of equations between values, and of what atoms say.
use Rattle.std.proofs.Common.{◌≡◌, ℕ, ℤ, List, Bool, true, false, refl, ◌∙◌, ap}
use Rattle.std.proofs.lemmas.Bool.{false≢true, eqb-true, eq-eqb, and_parts, and_from}
use Rattle.std.proofs.Math.Path.{fun_ext}
use Rattle.std.proofs.Math.Decide.{ℕ_discrete}
use Rattle.std.proofs.Math.IntN.{ℤ_discrete}
use Rattle.std.proofs.Math.Bool.{Bool-discrete}
use Rattle.ss_core.specs.Tree.{ClassTree}
use Rattle.ss_logic.specs.Values.{Thing, null, reference, class_name, group_number, owner_pair, same_thing, Cells, Entry, Heap, Value, whole, truth, thing, store, Structure}
use Rattle.ss_logic.specs.Formulas.{Predicate, Equal, AtMost, Sub, Allocated, Committed, Ready, IsGroup, Good, Holds, Signed}
use Rattle.std.specs.Prelude.{not}

pub equal_things : (v w : Thing) → same_thing v w ≡ true → v ≡ w
equal_things null null h = refl
equal_things (reference a) (reference b) h = ap reference (eqb-true a b h)
equal_things (class_name a) (class_name b) h = ap class_name (eqb-true a b h)
equal_things (group_number a) (group_number b) h = ap group_number (eqb-true a b h)
equal_things (owner_pair a t) (owner_pair b u) h =
    let p = and_parts (same_thing a b) (same_thing t u) h in
    ap (λ x. owner_pair x t) (equal_things a b p.0) ∙ ap (owner_pair b) (equal_things t u p.1)
equal_things v w h = absurd (false≢true h)

pub same_thing_refl : (v : Thing) → same_thing v v ≡ true
same_thing_refl null = refl
same_thing_refl (reference a) = eq-eqb a a refl
same_thing_refl (class_name a) = eq-eqb a a refl
same_thing_refl (group_number a) = eq-eqb a a refl
same_thing_refl (owner_pair a t) = and_from (same_thing a a) (same_thing t t) (same_thing_refl a) (same_thing_refl t)

pub same_if_equal : (v w : Thing) → v ≡ w → same_thing v w ≡ true
same_if_equal v w e = rw e (same_thing_refl w)

abbrev pub NotNot : Type 0 → Type 0
NotNot P = (P → ⊥) → ⊥

pub not_not_map : {A B : Type 0} → (A → B) → NotNot A → NotNot B
not_not_map f h = λ n. h (λ a. n (f a))

pub dec_stable : {A : Type 0} → Dec A → NotNot A → A
dec_stable (yes a) h = a
dec_stable (no n) h = absurd (h n)

pub bool_stable : (a b : Bool) → NotNot (a ≡ b) → a ≡ b
bool_stable a b h = dec_stable (Bool-discrete a b) h

pub thing_stable : (v w : Thing) → NotNot (v ≡ w) → v ≡ w
thing_stable v w h = equal_things v w (bool_stable (same_thing v w) true (not_not_map (same_if_equal v w) h))

cells_from : {P : Type 0} → (P → ℤ) → (P → Bool) → (P → Thing) → Cells P
cells_from a b c = record { wholes = a; truths = b; things = c }

cells_equal : {P : Type 0} (c d : Cells P) → c.wholes ≡ d.wholes → c.truths ≡ d.truths → c.things ≡ d.things → c ≡ d
unfolding cells_from
cells_equal c d p q r = ap (λ a. cells_from a c.truths c.things) p ∙ ap (λ b. cells_from d.wholes b c.things) q ∙ ap (λ t. cells_from d.wholes d.truths t) r

cells_stable : {P : Type 0} (c d : Cells P) → NotNot (c ≡ d) → c ≡ d
cells_stable c d h =
    cells_equal c d
    (fun_ext (λ i. dec_stable (ℤ_discrete (c.wholes i) (d.wholes i)) (not_not_map (λ e. ap (λ x. x.wholes i) e) h)))
    (fun_ext (λ i. bool_stable (c.truths i) (d.truths i) (not_not_map (λ e. ap (λ x. x.truths i) e) h)))
    (fun_ext (λ i. thing_stable (c.things i) (d.things i) (not_not_map (λ e. ap (λ x. x.things i) e) h)))

entry_from : Cells ℕ → Cells ℤ → ℕ → Bool → Thing → Bool → Entry
entry_from a b c d e f = record { fields = a; elements = b; level = c; committed = d; owner = e; ready = f }

entry_equal : (x y : Entry) → x.fields ≡ y.fields → x.elements ≡ y.elements → x.level ≡ y.level → x.committed ≡ y.committed → x.owner ≡ y.owner → x.ready ≡ y.ready → x ≡ y
unfolding entry_from
entry_equal x y a b c d e f =
    ap (λ z. entry_from z x.elements x.level x.committed x.owner x.ready) a
    ∙ ap (λ z. entry_from y.fields z x.level x.committed x.owner x.ready) b
    ∙ ap (λ z. entry_from y.fields y.elements z x.committed x.owner x.ready) c
    ∙ ap (λ z. entry_from y.fields y.elements y.level z x.owner x.ready) d
    ∙ ap (λ z. entry_from y.fields y.elements y.level y.committed z x.ready) e
    ∙ ap (λ z. entry_from y.fields y.elements y.level y.committed y.owner z) f

entry_stable : (x y : Entry) → NotNot (x ≡ y) → x ≡ y
entry_stable x y h =
    entry_equal x y
    (cells_stable x.fields y.fields (not_not_map (λ e. ap (λ z. z.fields) e) h))
    (cells_stable x.elements y.elements (not_not_map (λ e. ap (λ z. z.elements) e) h))
    (dec_stable (ℕ_discrete x.level y.level) (not_not_map (λ e. ap (λ z. z.level) e) h))
    (bool_stable x.committed y.committed (not_not_map (λ e. ap (λ z. z.committed) e) h))
    (thing_stable x.owner y.owner (not_not_map (λ e. ap (λ z. z.owner) e) h))
    (bool_stable x.ready y.ready (not_not_map (λ e. ap (λ z. z.ready) e) h))

heap_from : (Thing → Entry) → ℕ → Heap
heap_from a n = record { at = a; next = n }

heap_equal : (h i : Heap) → h.at ≡ i.at → h.next ≡ i.next → h ≡ i
unfolding heap_from
heap_equal h i p q = ap (λ a. heap_from a h.next) p ∙ ap (λ n. heap_from i.at n) q

heap_stable : (h i : Heap) → NotNot (h ≡ i) → h ≡ i
heap_stable h i k =
    heap_equal h i
    (fun_ext (λ w. entry_stable (h.at w) (i.at w) (not_not_map (λ e. ap (λ z. z.at w) e) k)))
    (dec_stable (ℕ_discrete h.next i.next) (not_not_map (λ e. ap (λ z. z.next) e) k))

-- the parts of a value, to take an equation apart
heap_in : Heap → Value → Heap
heap_in other (store h) = h
heap_in other v = other

thing_in : Thing → Value → Thing
thing_in other (thing w) = w
thing_in other v = other

pub value_stable : (v w : Value) → NotNot (v ≡ w) → v ≡ w
unfolding heap_in thing_in
value_stable (whole a) (whole b) h = ap whole (dec_stable (ℤ_discrete a b) (not_not_map (λ e. cc) h))
value_stable (truth a) (truth b) h = ap truth (bool_stable a b (not_not_map (λ e. cc) h))
value_stable (thing a) (thing b) h = ap thing (thing_stable a b (not_not_map (λ e. ap (thing_in a) e) h))
value_stable (store a) (store b) h = ap store (heap_stable a b (not_not_map (λ e. ap (heap_in a) e) h))
value_stable v w h = absurd (h (λ e. cc))

pub holds_stable : (cs : List ClassTree) (m : Structure) (p : Predicate) (vs : List Value) → NotNot (Holds cs m p vs) → Holds cs m p vs
holds_stable cs m Equal vs h = value_stable _ _ h
holds_stable cs m AtMost vs h = bool_stable _ true h
holds_stable cs m Sub vs h = bool_stable _ true h
holds_stable cs m Allocated vs h = bool_stable _ true h
holds_stable cs m Committed vs h = bool_stable _ true h
holds_stable cs m Ready vs h = bool_stable _ true h
holds_stable cs m IsGroup vs h = bool_stable _ true h
holds_stable cs m Good vs h = λ n. h (λ k. k n)

pub signed_both : (b : Bool) (P : Type 0) → Signed b P → Signed (not b) P → ⊥
signed_both true P t n = n t
signed_both false P t n = t n

pub signed_neg : (b : Bool) (P : Type 0) → (NotNot P → P) → (Signed b P → ⊥) → Signed (not b) P
signed_neg true P stable h = h
signed_neg false P stable h = stable h

pub signed_pos : (b : Bool) (P : Type 0) → (NotNot P → P) → (Signed (not b) P → ⊥) → Signed b P
signed_pos true P stable h = stable h
signed_pos false P stable h = h
