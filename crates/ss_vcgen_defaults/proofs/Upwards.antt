-- What default conditions speak of, a class or a field at a time.
use Rattle.std.proofs.Common.{◌≡◌, ℕ, suc, ◌+◌, ◌-◌, ◌*◌, ◌<◌, ◌≤◌, List, [], ◌∷◌, ◌++◌, length, map, drop, get_or, Bool, true, false, refl, sym, ◌∙◌, ap, subst, append_assoc, drop-cons, add-one, arith, Some, None, ⊎_elim, ◌≢◌}
use Rattle.std.specs.Prelude.{if◌then◌else◌}
use Rattle.std.proofs.lemmas.Bool.{cases_eq, eq-eqb, ne_eqb}
use Rattle.std.proofs.lemmas.List.{append-nil, map_push, length-map}
use Rattle.ss_core.specs.declared.class.Field.{Field}
use Rattle.ss_core.specs.declared.class.Class.{Class}
use Rattle.ss_core.specs.declared.class.Classes.{Classes}
use Rattle.ss_core.specs.declared.names.ClassId.{ClassId}
use Rattle.ss_core.specs.Tree.{ClassTree, FieldTree}
use Rattle.ss_core.specs.Chain.{above, level_above, levels_from, most_levels, levels, sub, DeclaredField, fields_of_class, fields_from, most_classes}
use Rattle.ss_core.specs.View.{classes, class_of, field_of}
use Rattle.ss_logic.specs.Terms.{Term}
use Rattle.ss_logic.specs.Formulas.{Formula}
use Rattle.ss_logic.specs.Express as spec
use Rattle.ss_vcgen_defaults.specs.Defaults.{Slot, slot, with_slot, slots_if, slots_upto, at_default, number_of}

-- ---- fields

if_wanted : (w : Bool) (f : ℕ) (d : FieldTree) (ds : List FieldTree) (before : List Slot) → with_slot w (slot f d) before ++ slots_if w (f + 1) ds ≡ before ++ slots_if w f (d ∷ ds)
if_wanted true f d ds before = append_assoc before (slot f d ∷ []) (slots_if true (f + 1) ds)
if_wanted false f d ds before = refl

-- one more field
field_next : (w : Bool) (fs : List Field) (i : ℕ) (x : Field) → x ≡ get_or fs i x → i < length fs → (n m : ℕ) → m ≡ n + 1 → (before after all : List Slot) →
    after ≡ with_slot w (slot n (field_of x)) before → before ++ slots_if w n (map field_of (drop i fs)) ≡ all → after ++ slots_if w m (map field_of (drop (i + 1) fs)) ≡ all
field_next w fs i x is h n m next before after all e was =
    let rest = map field_of (drop (i + 1) fs) in
    let here : drop i fs ≡ x ∷ drop (i + 1) fs = drop-cons fs i x h ∙ ap (λ y. y ∷ drop (suc i) fs) (sym is) ∙ ap (λ j. x ∷ drop j fs) (sym (add-one i)) in
    ap (λ l. l ++ slots_if w m rest) e
    ∙ ap (λ k. with_slot w (slot n (field_of x)) before ++ slots_if w k rest) next
    ∙ if_wanted w n (field_of x) rest before
    ∙ ap (λ l. before ++ slots_if w n (map field_of l)) (sym here)
    ∙ was

-- the same, over the elements of a vector
pub field_over : (w : Bool) (es ds : List Field) → ds ≡ es → (i : ℕ) (x : Field) → x ≡ get_or ds i x → i < length ds → (n m : ℕ) → m ≡ n + 1 → (before after all : List Slot) →
    after ≡ with_slot w (slot n (field_of x)) before → before ++ slots_if w n (map field_of (drop i es)) ≡ all → after ++ slots_if w m (map field_of (drop (i + 1) es)) ≡ all
field_over w es ds v i x is h n m next before after all e was = field_next w es i x (subst (λ xs. x ≡ get_or xs i x) v is) (subst (λ xs. i < length xs) v h) n m next before after all e was

if_front : (w : Bool) (s : Slot) (a b : List Slot) → (if w then s ∷ (a ++ b) else a ++ b) ≡ (if w then s ∷ a else a) ++ b
if_front true s a b = refl
if_front false s a b = refl

-- the fields of a class stand before those of the classes after it
slots_of_class : (cs : List ClassTree) (t n f : ℕ) (fs : List FieldTree) (rest : List DeclaredField) → slots_upto cs t f (fields_of_class n fs ++ rest) ≡ slots_if (sub cs t n) f fs ++ slots_upto cs t (f + length fs) rest
slots_of_class cs t n f [] rest = let same : f ≡ f + 0 = omega arith in ap (λ k. slots_upto cs t k rest) same
slots_of_class cs t n f (d ∷ ds) rest =
    let more : (f + 1) + length ds ≡ f + length (d ∷ ds) = omega arith in
    ap (λ l. if sub cs t n then slot f d ∷ l else l) (slots_of_class cs t n (f + 1) ds rest ∙ ap (λ k. slots_if (sub cs t n) (f + 1) ds ++ slots_upto cs t k rest) more)
    ∙ if_front (sub cs t n) (slot f d) (slots_if (sub cs t n) (f + 1) ds) (slots_upto cs t (f + length (d ∷ ds)) rest)

-- one more class
class_more : (cs : List ClassTree) (t : ℕ) (ds : List Class) (i : ℕ) (x : Class) → x ≡ get_or ds i x → i < length ds → (n n' f m : ℕ) → n' ≡ n + 2 → m ≡ f + length (class_of x).fields → (before after all : List Slot) →
    after ≡ before ++ slots_if (sub cs t n) f (class_of x).fields → before ++ slots_upto cs t f (fields_from n (map class_of (drop i ds))) ≡ all → after ++ slots_upto cs t m (fields_from n' (map class_of (drop (i + 1) ds))) ≡ all
class_more cs t ds i x is h n n' f m up next before after all e was =
    let rest = fields_from (n + 2) (map class_of (drop (i + 1) ds)) in
    let here : drop i ds ≡ x ∷ drop (i + 1) ds = drop-cons ds i x h ∙ ap (λ y. y ∷ drop (suc i) ds) (sym is) ∙ ap (λ j. x ∷ drop j ds) (sym (add-one i)) in
    ap (λ l. l ++ slots_upto cs t m (fields_from n' (map class_of (drop (i + 1) ds)))) e
    ∙ append_assoc before (slots_if (sub cs t n) f (class_of x).fields) (slots_upto cs t m (fields_from n' (map class_of (drop (i + 1) ds))))
    ∙ ap (λ l. before ++ l)
    (ap (λ k. slots_if (sub cs t n) f (class_of x).fields ++ slots_upto cs t m (fields_from k (map class_of (drop (i + 1) ds)))) up
    ∙ ap (λ k. slots_if (sub cs t n) f (class_of x).fields ++ slots_upto cs t k rest) next
    ∙ sym (slots_of_class cs t n f (class_of x).fields rest)
    ∙ ap (λ l. slots_upto cs t f (fields_from n (map class_of l))) (sym here))
    ∙ was

-- the next class has a number
pub number_fits : (c : Classes) (ds : List Class) (i : ℕ) → ds ≡ c.list.items → length (classes c) ≤ most_classes → i < length ds → (4 + 2 * i) + 2 < 65536
number_fits c ds i v few h =
    let m : length (classes c) ≡ length c.list.items = length-map c.list.items class_of in
    let l : i < length c.list.items = subst (λ xs. i < length xs) v h in
    omega (arith, m, l, few)

-- the same, over the elements of a vector
pub class_next : (cs : List ClassTree) (t : ℕ) (es ds : List Class) → ds ≡ es → (i : ℕ) (x : Class) → x ≡ get_or ds i x → i < length ds → (n n' f m : ℕ) → n' ≡ n + 2 → m ≡ f + length (class_of x).fields → (before after all : List Slot) →
    after ≡ before ++ slots_if (sub cs t n) f (class_of x).fields → before ++ slots_upto cs t f (fields_from n (map class_of (drop i es))) ≡ all → after ++ slots_upto cs t m (fields_from n' (map class_of (drop (i + 1) es))) ≡ all
class_next cs t es ds v i x is h n n' f m up next before after all e was =
    class_more cs t es i x (subst (λ xs. x ≡ get_or xs i x) v is) (subst (λ xs. i < length xs) v h) n n' f m up next before after all e was

-- ---- their defaults

if_said : (w : Bool) (g : Slot → Formula) (s : Slot) (a : List Slot) → (if w then g s ∷ map g a else map g a) ≡ map g (if w then s ∷ a else a)
if_said true g s a = refl
if_said false g s a = refl

pub defaults_of_slots : (c : spec.Context) (t : ℕ) (x : Term) (f : ℕ) (ds : List DeclaredField) → map (at_default c.now x) (slots_upto c.classes t f ds) ≡ spec.defaults_from c t x f ds
defaults_of_slots c t x f [] = refl
defaults_of_slots c t x f (d ∷ ds) =
    sym (if_said (sub c.classes t d.class) (at_default c.now x) (slot f d.field) (slots_upto c.classes t (f + 1) ds))
    ∙ ap (λ l. if sub c.classes t d.class then at_default c.now x (slot f d.field) ∷ l else l) (defaults_of_slots c t x (f + 1) ds)

-- ---- levels

above_none : (cs : List ClassTree) (t : ℕ) → None ≡ level_above cs t → t ≡ 0
above_none cs t h =
    ⊎_elim
    (λ z. z)
    (λ nz. let h' : None ≡ Some (above cs t) = rw (ne_eqb t 0 nz) at h in cc)
    (cases_eq t 0)

above_some : (cs : List ClassTree) (t u : ℕ) → Some u ≡ level_above cs t → (t ≢ 0) × (u ≡ above cs t)
above_some cs t u h =
    ⊎_elim
    (λ z. let h' : Some u ≡ None = rw (eq-eqb t 0 z) at h in absurd (let x : ⊥ = cc in x))
    (λ nz. let h' : Some u ≡ Some (above cs t) = rw (ne_eqb t 0 nz) at h in (nz, cc))
    (cases_eq t 0)

level_end : (cs : List ClassTree) (n t : ℕ) → t ≡ 0 → levels_from cs (suc n) t ≡ t ∷ []
level_end cs n t z = rw z refl

level_more : (cs : List ClassTree) (n t u : ℕ) → t ≢ 0 → u ≡ above cs t → levels_from cs (suc n) t ≡ t ∷ levels_from cs n u
level_more cs n t u nz e = rw (e, ne_eqb t 0 nz) refl

-- a walk upwards that has made i of 64 steps
module _ (cs : List ClassTree) (i : ℕ) (level : ClassId) (before after : List ClassId) (all : List ℕ) where
  module _ (more : i < 64) (e : after ≡ before ++ level ∷ []) where
    pub level_last : None ≡ level_above cs level.0 → map number_of before ++ levels_from cs (64 - i) level.0 ≡ all → map number_of after ≡ all
    level_last last was =
        let n : 64 - i ≡ suc (63 - i) = omega arith in
        let end : levels_from cs (64 - i) level.0 ≡ level.0 ∷ [] = rw n (level_end cs (63 - i) level.0 (above_none cs level.0 last)) in
        ap (map number_of) e ∙ map_push number_of before level ∙ ap (λ l. map number_of before ++ l) (sym end) ∙ was

    pub level_next : (u : ClassId) → Some u.0 ≡ level_above cs level.0 → map number_of before ++ levels_from cs (64 - i) level.0 ≡ all → map number_of after ++ levels_from cs (64 - (i + 1)) u.0 ≡ all
    level_next u up was =
        let n : 64 - i ≡ suc (64 - (i + 1)) = omega arith in
        let p = above_some cs level.0 u.0 up in
        let next : levels_from cs (64 - i) level.0 ≡ level.0 ∷ levels_from cs (64 - (i + 1)) u.0 = rw n (level_more cs (64 - (i + 1)) level.0 u.0 p.0 p.1) in
        ap (λ l. map number_of l ++ levels_from cs (64 - (i + 1)) u.0) e
        ∙ ap (λ l. l ++ levels_from cs (64 - (i + 1)) u.0) (map_push number_of before level)
        ∙ append_assoc (map number_of before) (level.0 ∷ []) (levels_from cs (64 - (i + 1)) u.0)
        ∙ ap (λ l. map number_of before ++ l) (sym next)
        ∙ was

  pub levels_all : 64 ≤ i → map number_of before ++ levels_from cs (64 - i) level.0 ≡ all → map number_of before ≡ all
  levels_all over was =
      let n : 64 - i ≡ 0 = omega arith in
      let none : levels_from cs (64 - i) level.0 ≡ [] = rw n refl in
      sym (append-nil (map number_of before)) ∙ ap (λ l. map number_of before ++ l) (sym none) ∙ was

pub levels_begin : (cs : List ClassTree) (t : ℕ) → levels_from cs 64 t ≡ levels cs t
unfolding levels most_levels
levels_begin cs t = refl
