-- Initializers, one by one.
use Rattle.std.proofs.Common.{◌≡◌, ◌≢◌, ◌++◌, ◌+◌, ◌<◌, ◌≤◌, ℕ, zero, suc, length, map, drop, take, get_or, List, [], ◌∷◌, Bool, true, false, Option, Some, refl, sym, ap, ◌∙◌, add-one, append_assoc, append-nil, add_assoc, arith, ⊎_elim}
use Rattle.std.specs.Prelude.{option_map, slice_get, nat_lt, ◌&&◌, if◌then◌else◌, sum_by}
use Rattle.std.proofs.lemmas.List.Sums.{sum_by-cons}
use Rattle.std.proofs.lemmas.Bool.{cases_eq, cases_lt, eq-eqb, ne_eqb, lt-ltb, le-ltb}
use Rattle.ss_faults.specs.declared.Fault.{Fault}
use Rattle.ss_core.specs.declared.names.Ty.{Ty}
use Rattle.ss_core.specs.Tree as core
use Rattle.ss_core.specs.Kinds.{class_number}
use Rattle.ss_core.specs.Chain.{fields_of}
use Rattle.ss_typed.specs.declared.program.TypedField.{TypedField}
use Rattle.ss_typed.specs.declared.program.TypedClass.{TypedClass}
use Rattle.ss_typed.specs.Tree.{FieldTree, MembersTree, TypedTree}
use Rattle.ss_typed.specs.View.{field, members}
use Rattle.ss_paths.specs.Sets.{Set, none, put}
use Rattle.ss_paths.specs.Fields.{field_count, own_fields, written_fields, fields_of_members}
use Rattle.ss_typed.specs.Lookups.{class_place}
use Rattle.ss_paths.specs.Assigned.{starts_with_value, has_initializer}
use Rattle.ss_nonnull_rules.specs.NonNull.{NullContext, Known}
use Rattle.ss_nonnull_rules.specs.Program.{initializer_context, initializer_faults, initializers_from, classes_faults}
use Rattle.ss_paths.proofs.Among.{same_sets}
use Rattle.std.proofs.lemmas.List.{drop_all}
use Rattle.ss_ast.proofs.Loops.{drop_item}
use Rattle.ss_nonnull_seen.specs.Paths.{with_begun}
use Rattle.ss_nonnull.specs.Initial.{begun_below, begun_with, initial_faults, type_of_field, each_initial, context_with, class_faults}

-- ---- what is known before each

pub none_begun : (fs : List FieldTree) → begun_below fs 0 ≡ none
unfolding none
none_begun fs = same_sets (λ x. rw (le-ltb x 0 (omega arith)) refl)

-- those below n of a set
abbrev below : Set → ℕ → Set
below h n = λ i. nat_lt i n && h i

begun_out : (h : Set) (n : ℕ) → h n ≡ false → below h n ≡ below h (n + 1)
begun_out h n out =
    same_sets
    (λ x. ⊎_elim
    (λ (l : x < n). rw (lt-ltb x n l, lt-ltb x (n + 1) (omega arith)) refl)
    (λ (l : n ≤ x). ⊎_elim
    (λ (e : n ≡ x). rw (le-ltb x n l, lt-ltb x (n + 1) (omega arith)) (sym (ap h (sym e) ∙ out)))
    (λ (ne : n ≢ x). rw (le-ltb x n l, le-ltb x (n + 1) (past n x l ne)) refl)
    (cases_eq n x))
    (cases_lt x n))
  where
    past : (n x : ℕ) → n ≤ x → n ≢ x → n + 1 ≤ x
    past n x l ne = omega arith

begun_in : (h : Set) (n : ℕ) → h n ≡ true → put n true (below h n) ≡ below h (n + 1)
unfolding put
begun_in h n in_it =
    same_sets
    (λ x. ⊎_elim
    (λ (e : n ≡ x). rw (eq-eqb n x e, lt-ltb x (n + 1) (omega arith)) (sym (ap h (sym e) ∙ in_it)))
    (λ (ne : n ≢ x). rw (ne_eqb n x ne)
    (⊎_elim
    (λ (l : x < n). rw (lt-ltb x n l, lt-ltb x (n + 1) (omega arith)) refl)
    (λ (l : n ≤ x). rw (le-ltb x n l, le-ltb x (n + 1) (past n x l ne)) refl)
    (cases_lt x n)))
    (cases_eq n x))
  where
    past : (n x : ℕ) → n ≤ x → n ≢ x → n + 1 ≤ x
    past n x l ne = omega arith

begun_next : (h : Set) (n : ℕ) (b : Bool) → b ≡ h n → (if b then put n true (below h n) else below h n) ≡ below h (n + 1)
begun_next h n true e = begun_in h n (sym e)
begun_next h n false e = begun_out h n (sym e)

item_is : (list : List TypedField) (i : ℕ) (f : TypedField) → i < length list → f ≡ get_or list i f → slice_get (map field list) i ≡ Some (field f)
item_is [] i f l e = absurd (omega arith)
item_is (x ∷ xs) zero f l e = ap (λ (y : TypedField). Some (field y)) (sym e)
item_is (x ∷ xs) (suc i) f l e = item_is xs i f (omega arith) e

pub next_begun : (list : List TypedField) (i : ℕ) (f : TypedField) (b : Bool) (k l : Option Known)
    → i < length list → f ≡ get_or list i f → b ≡ starts_with_value (Some (field f))
    → l ≡ option_map (with_begun i b) k → k ≡ begun_with (begun_below (map field list) i) → l ≡ begun_with (begun_below (map field list) (i + 1))
next_begun list i f b k l within is b_is q h =
    let fs = map field list in
    q ∙ ap (option_map (with_begun i b)) h
    ∙ ap begun_with (begun_next (λ (n : ℕ). starts_with_value (slice_get fs n)) i b (b_is ∙ ap starts_with_value (sym (item_is list i f within is))))

-- ---- the faults of each

none_left : (s : NullContext) (all : List FieldTree) (n : ℕ) (fs : List FieldTree) → each_initial s all n fs [] ≡ []
none_left s all n [] = refl
none_left s all n (f ∷ fs) = refl

next_initial : (s : NullContext) (all : List FieldTree) (n : ℕ) (f : FieldTree) (fs : List FieldTree) (gs : List core.FieldTree) (i : ℕ)
    → each_initial s all n (f ∷ fs) (drop i gs) ≡ initial_faults s (begun_with (begun_below all n)) (type_of_field (slice_get gs i)) f.initial ++ each_initial s all (suc n) fs (drop (suc i) gs)
next_initial s all n f fs [] zero = sym (none_left s all (suc n) fs)
next_initial s all n f fs [] (suc i) = sym (none_left s all (suc n) fs)
next_initial s all n f fs (g ∷ gs) zero = refl
next_initial s all n f fs (g ∷ gs) (suc i) = next_initial s all n f fs gs i

pub one_initial : (s : NullContext) (list : List TypedField) (gs : List core.FieldTree) (i : ℕ) (f : TypedField) (t : Option Ty) (k : Option Known) (f0 f1 total : List Fault)
    → i < length list → f ≡ get_or list i f → t ≡ type_of_field (slice_get gs i) → k ≡ begun_with (begun_below (map field list) i)
    → f1 ≡ f0 ++ initial_faults s k t (field f).initial
    → f0 ++ each_initial s (map field list) i (map field (drop i list)) (drop i gs) ≡ total
    → f1 ++ each_initial s (map field list) (i + 1) (map field (drop (i + 1) list)) (drop (i + 1) gs) ≡ total
one_initial s list gs i f t k f0 f1 total within is t_is k_is q h =
    let all = map field list in
    let fs = map field (drop (suc i) list) in
    let here = initial_faults s (begun_with (begun_below all i)) (type_of_field (slice_get gs i)) (field f).initial in
    ap (λ (n : ℕ). f1 ++ each_initial s all n (map field (drop n list)) (drop n gs)) (add-one i)
    ∙ ap (λ (x : List Fault). x ++ each_initial s all (suc i) fs (drop (suc i) gs))
    (q ∙ ap (λ (u : Option Ty). f0 ++ initial_faults s k u (field f).initial) t_is ∙ ap (λ (m : Option Known). f0 ++ initial_faults s m (type_of_field (slice_get gs i)) (field f).initial) k_is)
    ∙ append_assoc f0 here (each_initial s all (suc i) fs (drop (suc i) gs))
    ∙ ap (λ (x : List Fault). f0 ++ x) (sym (next_initial s all i (field f) fs gs i))
    ∙ ap (λ (xs : List TypedField). f0 ++ each_initial s all i (map field xs) (drop i gs)) (sym (drop_item list i f within is))
    ∙ h

pub all_initial : (s : NullContext) (list : List TypedField) (gs : List core.FieldTree) (i : ℕ) (f total : List Fault) → length list ≤ i
    → f ++ each_initial s (map field list) i (map field (drop i list)) (drop i gs) ≡ total → f ≡ total
all_initial s list gs i f total l h =
    sym (append-nil f) ∙ ap (λ (xs : List TypedField). f ++ each_initial s (map field list) i (map field xs) (drop i gs)) (sym (drop_all i list l)) ∙ h

-- ---- as they are defined

-- the place of the class of this number
place_of_number : (k : ℕ) → class_place (class_number k) ≡ k
place_of_number k = omega arith

each_is : (p : TypedTree) (t : ℕ) (n : ℕ) (fs : List FieldTree) (gs : List core.FieldTree) → each_initial (initializer_context p t) (written_fields p t) n fs gs ≡ initializers_from p t n fs gs
unfolding has_initializer
each_is p t n [] gs = refl
each_is p t n (f ∷ fs) [] = refl
each_is p t n (f ∷ fs) (g ∷ gs) =
    ap (λ (x : List Fault). initializer_faults (initializer_context p t) (begun_with (begun_below (written_fields p t) n)) g.ty f.initial ++ x)
    (ap (λ (m : ℕ). each_initial (initializer_context p t) (written_fields p t) m fs gs) (sym (add-one n)) ∙ each_is p t (n + 1) fs gs)

class_is : (p : TypedTree) (k : ℕ) (c : MembersTree) → slice_get p.members k ≡ Some c
    → class_faults p k (sum_by field_count (take k p.classes)) c.fields ≡ initializers_from p (class_number k) 0 c.fields (own_fields p (class_number k))
class_is p k c here =
    let t = class_number k in
    let fields_are : written_fields p t ≡ c.fields = ap (λ (n : ℕ). fields_of_members (slice_get p.members n)) (place_of_number k) ∙ ap fields_of_members here in
    ap (λ (n : ℕ). each_initial (context_with p t (record { first = sum_by field_count (take n p.classes); count = length (fields_of (slice_get p.classes n)) })) c.fields 0 c.fields (fields_of (slice_get p.classes n))) (sym (place_of_number k))
    ∙ ap (λ (fs : List FieldTree). each_initial (initializer_context p t) fs 0 c.fields (own_fields p t)) (sym fields_are)
    ∙ each_is p t 0 c.fields (own_fields p t)

member_is : (list : List TypedClass) (i : ℕ) (c : TypedClass) → i < length list → c ≡ get_or list i c → slice_get (map members list) i ≡ Some (members c)
member_is [] i c l e = absurd (omega arith)
member_is (x ∷ xs) zero c l e = ap (λ (y : TypedClass). Some (members y)) (sym e)
member_is (x ∷ xs) (suc i) c l e = member_is xs i c (omega arith) e

pub one_class : (p : TypedTree) (list : List TypedClass) (i : ℕ) (c : TypedClass) (first : ℕ) (f0 f1 total : List Fault)
    → p.members ≡ map members list → i < length list → c ≡ get_or list i c → first ≡ sum_by field_count (take i p.classes)
    → f1 ≡ f0 ++ class_faults p i first (members c).fields
    → f0 ++ classes_faults p i (map members (drop i list)) ≡ total → f1 ++ classes_faults p (i + 1) (map members (drop (i + 1) list)) ≡ total
one_class p list i c first f0 f1 total all_are within is first_is q h =
    let here = initializers_from p (class_number i) 0 (members c).fields (own_fields p (class_number i)) in
    let rest = classes_faults p (i + 1) (map members (drop (suc i) list)) in
    ap (λ (n : ℕ). f1 ++ classes_faults p (i + 1) (map members (drop n list))) (add-one i)
    ∙ ap (λ (x : List Fault). x ++ rest)
    (q ∙ ap (λ (n : ℕ). f0 ++ class_faults p i n (members c).fields) first_is
    ∙ ap (λ (x : List Fault). f0 ++ x) (class_is p i (members c) (ap (λ (ms : List MembersTree). slice_get ms i) all_are ∙ member_is list i c within is)))
    ∙ append_assoc f0 here rest
    ∙ ap (λ (xs : List TypedClass). f0 ++ classes_faults p i (map members xs)) (sym (drop_item list i c within is))
    ∙ h

pub all_classes : (p : TypedTree) (list : List TypedClass) (i : ℕ) (f total : List Fault) → length list ≤ i
    → f ++ classes_faults p i (map members (drop i list)) ≡ total → f ≡ total
all_classes p list i f total l h =
    sym (append-nil f) ∙ ap (λ (xs : List TypedClass). f ++ classes_faults p i (map members xs)) (sym (drop_all i list l)) ∙ h

pub class_noted : (p : TypedTree) (k first n count : ℕ) (s : NullContext) (fs us : List FieldTree) (o : Option core.ClassTree) (f0 f1 : List Fault)
    → o ≡ slice_get p.classes k → count ≡ length (fields_of o) → n ≡ class_number k → s ≡ context_with p n (record { first = first; count = count }) → us ≡ fs
    → f1 ≡ f0 ++ each_initial s us 0 us (fields_of o) → f1 ≡ f0 ++ class_faults p k first fs
class_noted p k first n count s fs us o f0 f1 o_is count_is n_is s_is us_is q =
    q
    ∙ ap (λ (t : NullContext). f0 ++ each_initial t us 0 us (fields_of o)) s_is
    ∙ ap (λ (m : ℕ). f0 ++ each_initial (context_with p m (record { first = first; count = count })) us 0 us (fields_of o)) n_is
    ∙ ap (λ (c : ℕ). f0 ++ each_initial (context_with p (class_number k) (record { first = first; count = c })) us 0 us (fields_of o)) count_is
    ∙ ap (λ (x : Option core.ClassTree). f0 ++ each_initial (context_with p (class_number k) (record { first = first; count = length (fields_of x) })) us 0 us (fields_of x)) o_is
    ∙ ap (λ (gs : List FieldTree). f0 ++ class_faults p k first gs) us_is

-- the fields before the next class
pub next_first : (cs : List core.ClassTree) (i : ℕ) → sum_by field_count (take i cs) + length (fields_of (slice_get cs i)) ≡ sum_by field_count (take (i + 1) cs)
next_first cs i = at cs i ∙ ap (λ (n : ℕ). sum_by field_count (take n cs)) (sym (add-one i))
  where
    at : (cs : List core.ClassTree) (i : ℕ) → sum_by field_count (take i cs) + length (fields_of (slice_get cs i)) ≡ sum_by field_count (take (suc i) cs)
    at [] zero = refl
    at [] (suc i) = refl
    at (c ∷ cs) zero = refl
    at (c ∷ cs) (suc i) =
        ap (λ (n : ℕ). n + length (fields_of (slice_get cs i))) (sum_by-cons field_count c (take i cs))
        ∙ add_assoc (field_count c) (sum_by field_count (take i cs)) (length (fields_of (slice_get cs i)))
        ∙ ap (λ (n : ℕ). field_count c + n) (at cs i)
        ∙ sym (sum_by-cons field_count c (take (suc i) cs))
