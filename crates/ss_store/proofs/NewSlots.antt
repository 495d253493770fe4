-- Slots of new objects.
use Rattle.std.proofs.Common.{◌≡◌, ◌≢◌, ℕ, zero, suc, ◌+◌, ◌-◌, ◌*◌, ◌^◌, ◌<◌, ◌≤◌, List, [], ◌∷◌, ◌++◌, length, map, take, drop, get_or, refl, sym, ◌∙◌, ap, subst, arith, add-one, drop-cons, Some, None, ⊎_elim, inl, inr, ◌⊎◌, length-append}
use Rattle.std.specs.Prelude.{slice_get, option_map, flat_map, reverse, Result, Ok, Err, OnErr}
use Rattle.std.proofs.lemmas.List.{take_more, map-append, append_assoc, append-nil, length-map, length-take-le}
use Rattle.std.proofs.Math.ListN.{drop_of_length-le}
use Rattle.std.proofs.lemmas.List.Concat.{length-flat_map}
use Rattle.std.proofs.lemmas.List.Sorted.{sum_by-IsPermutation, IsPermutation-reverse}
use Rattle.std.proofs.lemmas.Grind.{reverse_onto, flat_map-append}
use Rattle.std.proofs.lemmas.Bool.{cases_eq, eq-eqb, ne_eqb}
use Rattle.std.proofs.lemmas.Option.{slice_get-map, slice_get_read}
use Rattle.ss_core.specs.Tree.{ClassTree, FieldTree}
use Rattle.ss_core.specs.Chain.{declared, DeclaredField, in_class, fields_of_class, fields_from, all_fields, fields_of, field_count, above, level_above, levels_from, levels, most_levels, IsWithinLimits}
use Rattle.ss_core.specs.View.{class_of, field_of}
use Rattle.ss_core.specs.declared.class.Class.{Class}
use Rattle.ss_core.specs.declared.class.Field.{Field}
use Rattle.ss_core.proofs.Declared.{declared_at}
use Rattle.ss_store_rules.specs.Store.{Slot}
use Rattle.ss_store_rules.specs.Changes.{slots_from, new_fields}
use Rattle.ss_store.specs.Slots.{slot_for, slots_of, slots_upto}

pub length-slots_of : (n : ℕ) (fs : List FieldTree) → length (slots_of n fs) ≡ length fs
length-slots_of n [] = refl
length-slots_of n (f ∷ fs) = ap suc (length-slots_of (n + 1) fs)

slots_of-push : (n : ℕ) (fs : List FieldTree) (f : FieldTree) → slots_of n (fs ++ f ∷ []) ≡ slots_of n fs ++ slot_for (n + length fs) f ∷ []
slots_of-push n [] f = let e : n + 0 ≡ n = omega arith in rw e refl
slots_of-push n (g ∷ fs) f = let e : n + suc (length fs) ≡ n + 1 + length fs = omega arith in rw (slots_of-push (n + 1) fs f, e) refl

-- a list that begins with these, in a vector of at least this capacity, and then has more
pub record IsPushed (old : List Slot) (capacity : ℕ) (items : List Slot) (now : ℕ) (more : List Slot) : Type 0 where
  pub pushed : items ≡ old ++ more
  pub room : capacity ≤ now

pub none_pushed : (items : List Slot) (capacity : ℕ) → IsPushed items capacity items capacity []
none_pushed items capacity = record { pushed = sym (append-nil items); room = omega arith }

-- one more slot
pub slots_of_more : (first : ℕ) (fields : List Field) (i : ℕ) (d : Field) → i < length fields → slots_of first (map field_of (take (i + 1) fields)) ≡ slots_of first (map field_of (take i fields)) ++ slot_for (first + i) (field_of (get_or fields i d)) ∷ []
slots_of_more first fields i d l =
    let n : length (map field_of (take i fields)) ≡ i = length-map (take i fields) field_of ∙ length-take-le i fields (omega arith) in
    let p = slots_of-push first (map field_of (take i fields)) (field_of (get_or fields i d)) in
    ap (λ xs. slots_of first (map field_of xs)) (take_more fields i d l) ∙ ap (slots_of first) (map-append field_of (take i fields) (get_or fields i d ∷ [])) ∙ p ∙ ap (λ k. slots_of first (map field_of (take i fields)) ++ slot_for (first + k) (field_of (get_or fields i d)) ∷ []) n

pub pushed_more : (old : List Slot) (capacity first : ℕ) (fields : List Field) (i : ℕ) (d : Field) (items : List Slot) (now next : ℕ) → i < length fields → IsPushed old capacity items now (slots_of first (map field_of (take i fields))) → now ≤ next → IsPushed old capacity (items ++ slot_for (first + i) (field_of (get_or fields i d)) ∷ []) next (slots_of first (map field_of (take (i + 1) fields)))
pushed_more old capacity first fields i d items now next l at le = record {
  pushed = rw (at.pushed, slots_of_more first fields i d l) (append_assoc old (slots_of first (map field_of (take i fields))) (slot_for (first + i) (field_of (get_or fields i d)) ∷ []));
  room = let r = at.room in omega arith;
}

-- how many there are
pub pushed_length : (old : List Slot) (capacity first : ℕ) (fields : List Field) (i : ℕ) (items : List Slot) (now : ℕ) → i ≤ length fields → IsPushed old capacity items now (slots_of first (map field_of (take i fields))) → length items ≡ length old + i
pushed_length old capacity first fields i items now l at =
    ap length at.pushed ∙ length-append old (slots_of first (map field_of (take i fields))) ∙ ap (λ n. length old + n) (length-slots_of first (map field_of (take i fields)) ∙ length-map (take i fields) field_of ∙ length-take-le i fields l)

-- ---- the fields of one class among those of all

slots_from-append : (t n : ℕ) (xs ys : List DeclaredField) → slots_from t n (xs ++ ys) ≡ slots_from t n xs ++ slots_from t (n + length xs) ys
slots_from-append t n [] ys = let e : n + 0 ≡ n = omega arith in rw e refl
slots_from-append t n (x ∷ xs) ys =
    let e : n + suc (length xs) ≡ n + 1 + length xs = omega arith in
    ⊎_elim
    (λ same. rw (eq-eqb x.class t same, slots_from-append t (n + 1) xs ys, e) refl)
    (λ other. rw (ne_eqb x.class t other, slots_from-append t (n + 1) xs ys, e) refl)
    (cases_eq x.class t)

slots_from-own : (t n : ℕ) (fs : List FieldTree) → slots_from t n (fields_of_class t fs) ≡ slots_of n fs
slots_from-own t n [] = refl
slots_from-own t n (f ∷ fs) = rw (eq-eqb t t refl, slots_from-own t (n + 1) fs) refl

slots_from-other : (t u n : ℕ) (fs : List FieldTree) → u ≢ t → slots_from t n (fields_of_class u fs) ≡ []
slots_from-other t u n [] other = refl
slots_from-other t u n (f ∷ fs) other = rw (ne_eqb u t other) (slots_from-other t u (n + 1) fs other)

-- classes with greater numbers
slots_from-later : (t u n : ℕ) (cs : List ClassTree) → t < u → slots_from t n (fields_from u cs) ≡ []
slots_from-later t u n [] l = refl
slots_from-later t u n (c ∷ cs) l =
    let other : u ≢ t = omega arith in
    rw (slots_from-append t n (fields_of_class u c.fields) (fields_from (u + 2) cs), slots_from-other t u n c.fields other) (slots_from-later t (u + 2) (n + length (fields_of_class u c.fields)) cs (omega arith))

pub slots_here : (t n : ℕ) (c : ClassTree) (cs : List ClassTree) → slots_from t n (fields_from t (c ∷ cs)) ≡ slots_of n c.fields
slots_here t n c cs = rw (slots_from-append t n (fields_of_class t c.fields) (fields_from (t + 2) cs), slots_from-own t n c.fields, slots_from-later t (t + 2) (n + length (fields_of_class t c.fields)) cs (omega arith)) (append-nil (slots_of n c.fields))

pub slots_past : (t u n : ℕ) (c : ClassTree) (cs : List ClassTree) → u ≢ t → slots_from t n (fields_from u (c ∷ cs)) ≡ slots_from t (n + length c.fields) (fields_from (u + 2) cs)
slots_past t u n c cs other = rw (slots_from-append t n (fields_of_class u c.fields) (fields_from (u + 2) cs), slots_from-other t u n c.fields other, length-map c.fields (in_class u)) refl

-- ---- a walk over the classes

-- it has passed i of them, which have `first` fields; of those that are left the first has this number
pub record IsBefore (t : ℕ) (left : List ClassTree) (i number first : ℕ) (all : List Slot) : Type 0 where
  pub count : number ≡ 4 + 2 * i
  pub low : first ≤ 1024 * i
  pub same : slots_from t first (fields_from number left) ≡ all

pub opened : (items : List Class) (i : ℕ) (c : Class) → i < length items → c ≡ get_or items i c → map class_of (drop i items) ≡ class_of c ∷ map class_of (drop (i + 1) items)
opened items i c l is = rw (add-one, drop-cons items i c l) (ap (λ x. class_of x ∷ map class_of (drop (suc i) items)) (sym is))

-- the slots of the first class that is left
pub met : (t : ℕ) (items : List Class) (i number first : ℕ) (all : List Slot) (c : Class) → i < length items → c ≡ get_or items i c → number ≡ t → IsBefore t (map class_of (drop i items)) i number first all → slots_of first (map field_of c.fields.items) ≡ all
met t items i number first all c l is eq at =
    let same : slots_from t first (fields_from t (class_of c ∷ map class_of (drop (i + 1) items))) ≡ all = rw (opened items i c l is, eq) at at.same in
    sym (slots_here t first (class_of c) (map class_of (drop (i + 1) items))) ∙ same

pub passed : (t : ℕ) (items : List Class) (i number first n : ℕ) (all : List Slot) (c : Class) → i < length items → c ≡ get_or items i c → number ≢ t → n ≡ length c.fields.items → n ≤ 1024 → IsBefore t (map class_of (drop i items)) i number first all → IsBefore t (map class_of (drop (i + 1) items)) (i + 1) (number + 2) (first + n) all
passed t items i number first n all c l is other many few at =
    let size : length (class_of c).fields ≡ n = length-map c.fields.items field_of ∙ sym many in
    let rest = map class_of (drop (i + 1) items) in
    let same : slots_from t first (fields_from number (class_of c ∷ rest)) ≡ all = rw (opened items i c l is) at at.same in
    let past : slots_from t first (fields_from number (class_of c ∷ rest)) ≡ slots_from t (first + n) (fields_from (number + 2) rest) = slots_past t number first (class_of c) rest other ∙ ap (λ k. slots_from t (first + k) (fields_from (number + 2) rest)) size in
    record {
      count = let e = at.count in omega arith;
      low = let e = at.low in omega arith;
      same = sym past ∙ same;
    }

pub ended : (t : ℕ) (items : List Class) (i number first : ℕ) (all : List Slot) → length items ≤ i → IsBefore t (map class_of (drop i items)) i number first all → all ≡ []
ended t items i number first all l at =
    let none : drop i items ≡ [] = drop_of_length-le items l in
    let same : slots_from t first (fields_from number []) ≡ all = rw none at at.same in
    sym same

-- what holds anyway
pub on_err_any : {T E P : Type 0} (r : Result T E) → P → OnErr r P
on_err_any (Ok x) p = tt
on_err_any (Err e) p = p

-- ---- limits

field_count-flat : (cs : List ClassTree) (t : ℕ) → field_count cs t ≡ length (flat_map (λ level. fields_of (declared cs level)) (levels cs t))
unfolding field_count
field_count-flat cs t = sym (length-flat_map (λ level. fields_of (declared cs level)) (levels cs t))

levels_first : (cs : List ClassTree) (t : ℕ) → (ts : List ℕ) × (levels cs t ≡ t ∷ ts)
unfolding levels most_levels
levels_first cs t = (_, refl)

-- a declared class has few fields
pub own_few : (cs : List ClassTree) → IsWithinLimits cs → (k : ℕ) (c : ClassTree) → slice_get cs k ≡ Some c → length c.fields ≤ 1024
own_few cs limits k c h =
    let t = 4 + 2 * k in
    let all = limits.fields t in
    let flat = field_count-flat cs t in
    let first = levels_first cs t in
    let is : fields_of (declared cs t) ≡ c.fields = ap fields_of (declared_at cs k ∙ h) in
    let G : ℕ → List FieldTree = λ level. fields_of (declared cs level) in
    let split : length (flat_map G (levels cs t)) ≡ length (G t ++ flat_map G first.0) = ap (λ ts. length (flat_map G ts)) first.1 in
    let two = length-append (G t) (flat_map G first.0) in
    let own = ap length is in
    omega arith

-- the slots of a class are those of its fields
slots_where : (t n u : ℕ) (cs : List ClassTree) → (length (slots_from t n (fields_from u cs)) ≡ 0) ⊎ ((k : ℕ) × (c : ClassTree) × (t ≡ u + 2 * k) × (slice_get cs k ≡ Some c) × (length (slots_from t n (fields_from u cs)) ≡ length c.fields))
slots_where t n u [] = inl refl
slots_where t n u (c ∷ cs) =
    ⊎_elim
    (λ same. inr (0, c, (let e = sym same in omega arith), refl, subst (λ w. length (slots_from t n (fields_from w (c ∷ cs))) ≡ length c.fields) (sym same) (ap length (slots_here t n c cs) ∙ length-slots_of n c.fields)))
    (λ other.
    let past = ap length (slots_past t u n c cs other) in
    ⊎_elim
    (λ none. inl (past ∙ none))
    (λ w. let e = w.2 in inr (suc w.0, w.1, omega arith, w.3, past ∙ w.4))
    (slots_where t (n + length c.fields) (u + 2) cs))
    (cases_eq u t)

slots_few : (cs : List ClassTree) (t : ℕ) → length (slots_from t 0 (all_fields cs)) ≤ length (fields_of (declared cs t))
slots_few cs t =
    ⊎_elim
    (λ none. omega arith)
    (λ w. let is : fields_of (declared cs t) ≡ w.1.fields = ap (λ u. fields_of (declared cs u)) w.2 ∙ ap fields_of (declared_at cs w.0 ∙ w.3) in
    let n = ap length is in
    let m = w.4 in
    omega arith)
    (slots_where t 0 4 cs)

flat_le : (F : ℕ → List Slot) (G : ℕ → List FieldTree) → ((t : ℕ) → length (F t) ≤ length (G t)) → (ts : List ℕ) → length (flat_map F ts) ≤ length (flat_map G ts)
flat_le F G h [] = omega arith
flat_le F G h (t ∷ ts) =
    let first = h t in
    let others = flat_le F G h ts in
    omega (arith, length-append (F t) (flat_map F ts), length-append (G t) (flat_map G ts))

-- an object has few fields
pub new_few : (cs : List ClassTree) → IsWithinLimits cs → (c : ℕ) → length (new_fields cs c) ≤ 1024
new_few cs limits c =
    let all = limits.fields c in
    let flat = field_count-flat cs c in
    let G : ℕ → List FieldTree = λ level. fields_of (declared cs level) in
    let ts = levels cs c in
    let le = flat_le (λ t. slots_from t 0 (all_fields cs)) G (slots_few cs) (reverse ts) in
    let same : length (flat_map G (reverse ts)) ≡ length (flat_map G ts) = length-flat_map G (reverse ts) ∙ sum_by-IsPermutation (λ level. length (G level)) ts (reverse ts) (IsPermutation-reverse ts) ∙ sym (length-flat_map G ts) in
    omega arith

pub class_few : (items : List Class) (i : ℕ) (c : Class) → IsWithinLimits (map class_of items) → i < length items → c ≡ get_or items i c → length c.fields.items ≤ 1024
class_few items i c limits l is =
    let here : slice_get (map class_of items) i ≡ Some (class_of c) = slice_get-map class_of items i ∙ ap (option_map class_of) (slice_get_read items (length items) i c refl l is) in
    let few = own_few (map class_of items) limits i (class_of c) here in
    let size = length-map c.fields.items field_of in
    omega arith

pub first_fits : (t : ℕ) (items : List Class) (i number first : ℕ) (all : List Slot) → IsWithinLimits (map class_of items) → i < length items → IsBefore t (map class_of (drop i items)) i number first all → first + 1024 < 2 ^ 32
first_fits t items i number first all limits l at =
    let few = limits.classes in
    let size = length-map items class_of in
    let low = at.low in
    omega arith

-- ---- levels, beginning with the topmost

slots_upto-level : (F : ℕ → List Slot) (t : ℕ) (ts : List ℕ) → flat_map F (reverse (t ∷ ts)) ≡ flat_map F (reverse ts) ++ F t
slots_upto-level F t ts = ap (flat_map F) (reverse_onto ts t []) ∙ flat_map-append F (reverse ts) (t ∷ []) ∙ ap (λ xs. flat_map F (reverse ts) ++ xs) (append-nil (F t))

-- the levels above come first
pub slots_upto-more : (cs : List ClassTree) (n t next : ℕ) → n ≢ 0 → Some next ≡ level_above cs t → slots_upto cs n t ≡ slots_upto cs (n - 1) next ++ slots_from t 0 (all_fields cs)
slots_upto-more cs zero t next some h = absurd (some refl)
slots_upto-more cs (suc n) t next some h =
    ⊎_elim
    (λ z. let h' : Some next ≡ None = rw (eq-eqb t 0 z) at h in absurd (let x : ⊥ = cc in x))
    (λ nz. let h' : Some next ≡ Some (above cs t) = rw (ne_eqb t 0 nz) at h in
    let is : next ≡ above cs t = cc in
    let m : suc n - 1 ≡ n = omega arith in
    rw (m, ne_eqb t 0 nz, is) (slots_upto-level (λ level. slots_from level 0 (all_fields cs)) t (levels_from cs n (above cs t))))
    (cases_eq t 0)

-- `object` is the topmost
pub slots_upto-last : (cs : List ClassTree) (n t : ℕ) → n ≢ 0 → None ≡ level_above cs t → slots_upto cs n t ≡ slots_from t 0 (all_fields cs)
slots_upto-last cs zero t some h = absurd (some refl)
slots_upto-last cs (suc n) t some h =
    ⊎_elim
    (λ z. rw (eq-eqb t 0 z) (append-nil (slots_from t 0 (all_fields cs))))
    (λ nz. let h' : None ≡ Some (above cs t) = rw (ne_eqb t 0 nz) at h in cc)
    (cases_eq t 0)

pub new_fields-upto : (cs : List ClassTree) (c : ℕ) → slots_upto cs 64 c ≡ new_fields cs c
unfolding levels most_levels
new_fields-upto cs c = refl
