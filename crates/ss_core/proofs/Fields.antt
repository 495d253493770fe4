-- The fields of a program, by number.
use Rattle.std.proofs.Common.{◌≡◌, ℕ, zero, suc, ◌+◌, ◌-◌, ◌*◌, ◌^◌, ◌<◌, ◌≤◌, List, [], ◌∷◌, ◌++◌, length, map, refl, sym, ◌∙◌, ap, arith, get_or, drop, add-one, drop-cons, Option, Some, ⊎_elim}
use Rattle.std.specs.Prelude.{option_map, slice_get}
use Rattle.std.proofs.lemmas.List.{length-map}
use Rattle.std.proofs.lemmas.Option.{slice_get-map, slice_get_cases, slice_get_read}
use Rattle.ss_core.specs.Tree.{ClassTree, FieldTree}
use Rattle.ss_core.specs.Chain.{declared, DeclaredField, in_class, fields_from, all_fields, IsDeclaredField, most_classes}
use Rattle.ss_core.proofs.Declared.{declared_at}
use Rattle.ss_core.specs.View.{class_of, field_of}
use Rattle.ss_core.specs.declared.class.Class.{Class}
use Rattle.ss_core.specs.declared.class.Field.{Field}

get_front : {X : Type 0} (xs ys : List X) (i : ℕ) (x : X) → slice_get xs i ≡ Some x → slice_get (xs ++ ys) i ≡ Some x
get_front [] ys i x h = let no : ⊥ = cc in absurd no
get_front (y ∷ xs) ys zero x h = h
get_front (y ∷ xs) ys (suc i) x h = get_front xs ys i x h

get_after : {X : Type 0} (xs ys : List X) (i : ℕ) → length xs ≤ i → slice_get (xs ++ ys) i ≡ slice_get ys (i - length xs)
get_after [] ys i l = let e : i - 0 ≡ i = omega arith in rw e refl
get_after (x ∷ xs) ys zero l = absurd (omega arith)
get_after (x ∷ xs) ys (suc i) l = let e : suc i - suc (length xs) ≡ i - length xs = omega arith in rw e (get_after xs ys i (omega arith))

-- a field of the first class
pub first_class : (t : ℕ) (c : ClassTree) (cs : List ClassTree) (i : ℕ) (f : FieldTree) → slice_get c.fields i ≡ Some f → slice_get (fields_from t (c ∷ cs)) i ≡ Some (in_class t f)
first_class t c cs i f h = get_front (map (in_class t) c.fields) (fields_from (t + 2) cs) i (in_class t f) (slice_get-map (in_class t) c.fields i ∙ ap (option_map (in_class t)) h)

-- a field of a later class
pub later_class : (t : ℕ) (c : ClassTree) (cs : List ClassTree) (i : ℕ) → length c.fields ≤ i → slice_get (fields_from t (c ∷ cs)) i ≡ slice_get (fields_from (t + 2) cs) (i - length c.fields)
later_class t c cs i l =
    let same = length-map c.fields (in_class t) in
    rw (← same) (get_after (map (in_class t) c.fields) (fields_from (t + 2) cs) i (rw same l))

field_from : (t : ℕ) (cs : List ClassTree) (i : ℕ) (d : DeclaredField) → slice_get (fields_from t cs) i ≡ Some d → (k : ℕ) × (c : ClassTree) × (place : ℕ) × (slice_get cs k ≡ Some c) × (d.class ≡ t + 2 * k) × (slice_get c.fields place ≡ Some d.field)
field_from t [] i d h = let no : ⊥ = cc in absurd no
field_from t (c ∷ cs) i d h =
    ⊎_elim
    (λ here. let same : Some (in_class t here.0) ≡ Some d = sym (first_class t c cs i here.0 here.2) ∙ h in
    let is : in_class t here.0 ≡ d = cc in
    (0, c, i, refl, ap (λ x. x.class) (sym is) ∙ (omega arith), here.2 ∙ ap (λ x. Some x.field) is))
    (λ past. let w = field_from (t + 2) cs (i - length c.fields) d (sym (later_class t c cs i past.0) ∙ h) in
    let number = w.4 in
    (suc w.0, w.1, w.2, w.3, omega arith, w.5))
    (slice_get_cases c.fields i).1

-- the number of a field leads to the class that declares it
pub field_declared : (cs : List ClassTree) (f : ℕ) (d : DeclaredField) → slice_get (all_fields cs) f ≡ Some d → IsDeclaredField cs d
field_declared cs f d h =
    let w = field_from 4 cs f d h in
    record { by = w.1; is_class = ap (declared cs) w.4 ∙ declared_at cs w.0 ∙ w.3; place = w.2; is_there = w.5 }

-- ---- a walk over the classes

-- it has passed i of them; of those that are left the first has this number, and the field is the one with this number of theirs
pub record IsBefore (left : List ClassTree) (i number f : ℕ) (field : Option DeclaredField) : Type 0 where
  pub count : number ≡ 4 + 2 * i
  pub same : slice_get (fields_from number left) f ≡ field

opened : (items : List Class) (i : ℕ) (c : Class) → i < length items → c ≡ get_or items i c → map class_of (drop i items) ≡ class_of c ∷ map class_of (drop (i + 1) items)
opened items i c l is = rw (add-one, drop-cons items i c l) (ap (λ x. class_of x ∷ map class_of (drop (suc i) items)) (sym is))

pub met : (items : List Class) (i number left : ℕ) (field : Option DeclaredField) (c : Class) (f : Field) → i < length items → c ≡ get_or items i c → left < length c.fields.items → f ≡ get_or c.fields.items left f → IsBefore (map class_of (drop i items)) i number left field → Some (in_class number (field_of f)) ≡ field
met items i number left field c f l is low at before =
    let own : slice_get (class_of c).fields left ≡ Some (field_of f) = slice_get-map field_of c.fields.items left ∙ ap (option_map field_of) (slice_get_read c.fields.items (length c.fields.items) left f refl low at) in
    sym (first_class number (class_of c) (map class_of (drop (i + 1) items)) left (field_of f) own) ∙ (rw (opened items i c l is) at before.same)

pub passed : (items : List Class) (i number left n : ℕ) (field : Option DeclaredField) (c : Class) → i < length items → c ≡ get_or items i c → n ≡ length c.fields.items → n ≤ left → IsBefore (map class_of (drop i items)) i number left field → IsBefore (map class_of (drop (i + 1) items)) (i + 1) (number + 2) (left - n) field
passed items i number left n field c l is many high before =
    let all : length (class_of c).fields ≡ n = length-map c.fields.items field_of ∙ sym many in
    let later = later_class number (class_of c) (map class_of (drop (i + 1) items)) left (rw all high) in
    record {
      count = let e = before.count in omega arith;
      same = sym (rw all at later) ∙ (rw (opened items i c l is) at before.same);
    }

pub number_fits : (items : List Class) (i number left : ℕ) (field : Option DeclaredField) → i < length items → length (map class_of items) ≤ most_classes → IsBefore (map class_of (drop i items)) i number left field → number + 2 < 2 ^ 16
number_fits items i number left field l few before = let e = before.count in let all = length-map items class_of in omega arith
