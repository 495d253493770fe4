-- New arrays, from a position at which the run is.
use Rattle.std.proofs.Common.{◌≡◌, ℕ, ℤ, pos, negsuc, List, [], ◌∷◌, ◌++◌, length, Bool, true, ◌&&◌, ◌||◌, refl, sym, ◌∙◌, ap, subst, arith}
use Rattle.std.specs.Prelude.{Option, Some, None, is_some, Ok, slice_get}
use Rattle.std.specs.List.{list_all}
use Rattle.std.proofs.lemmas.Bool.{false≢true, and_parts}
use Rattle.std.proofs.lemmas.List.{length-replicate}
use Rattle.std.proofs.lemmas.Option.{slice_get_within}
use Rattle.ss_core.specs.declared.names.Kind.TheVariants as kind
use Rattle.ss_core.specs.declared.names.Place.{Place}
use Rattle.ss_core.specs.declared.names.Ty.{Ty}
use Rattle.ss_core.specs.declared.names.Ty.TheVariants as ty
use Rattle.ss_core.specs.Tree.{ClassTree, ExprTree, NewArrayStmt}
use Rattle.ss_store_rules.specs.declared.Value.{Value as ObjectValue}
use Rattle.ss_store_rules.specs.declared.Value.TheVariants as value
use Rattle.ss_store_rules.specs.Store.{Object, default_value}
use Rattle.ss_store_rules.specs.Reads.{as_int}
use Rattle.ss_store_rules.specs.Assigned.{reads_assigned}
use Rattle.ss_store_rules.specs.Changes.{is_array, element_type, new_array_of}
use Rattle.ss_store_rules.specs.Changes as change
use Rattle.ss_store_rules.specs.Formed.{has_flags}
use Rattle.ss_store_rules.specs.Good.{has_type}
use Rattle.ss_store_rules.specs.Locals.{local_types, is_variable, is_kept_among, is_target}
use Rattle.ss_store_rules.specs.NonNull.{Known, says_nothing, with_kept}
use Rattle.ss_store_rules.specs.Typed.{fits_kept}
use Rattle.ss_store_rules.specs.Types.{class_type, is_int, code_type}
use Rattle.ss_store_rules.specs.Values as run
use Rattle.ss_store_rules.proofs.Objects.{new_get}
use Rattle.ss_machine_typed.proofs.Outcomes.{is_int_type}
use Rattle.ss_machine_typed.proofs.Sound.{value_sound}
use Rattle.ss_machine_good.specs.Known.{IsNotNull, IsTrueOf}
use Rattle.ss_machine_good.proofs.Frames.{declared_some}
use Rattle.ss_machine_good.proofs.Puts.{put_true}
use Rattle.ss_machine_good.proofs.Steps.{code_typed}
use Rattle.ss_machine_good.proofs.Behind.{variable_apart}
use Rattle.ss_logic.specs.declared.Sort.TheVariants as sort
use Rattle.ss_logic.specs.Values.{reference, class_name, Table, whole, thing, as_thing, Structure}
use Rattle.ss_logic.specs.Terms.{NewArray, Length, Term, app}
use Rattle.ss_logic.specs.Shapes.{number, class_term, next_of, equal, at_most}
use Rattle.ss_logic.specs.Shapes as shape
use Rattle.ss_logic.specs.Express.{element_sort}
use Rattle.ss_logic_means.specs.Means.{standing}
use Rattle.ss_logic_means.specs.Sorts.{HasSort}
use Rattle.ss_vcgen_heaps.specs.Positions.{Position, Walk, assume_all, check, meant_at, evaluate, with_term, term_for}
use Rattle.ss_vcgen_heaps.specs.Positions as positions
use Rattle.ss_vcgen_heaps.specs.Obligations.{local_sort, keep, behind}
use Rattle.ss_vcgen_safe.specs.Done.{StandsFor}
use Rattle.ss_vcgen_safe.proofs.AfterChanges.{next_stands, array_after}
use Rattle.ss_vcgen_safe.proofs.Checked.{array_done}
use Rattle.ss_sound_outcomes.specs.Points.{Activation, Point, scene, Fits, entry_size}
use Rattle.ss_sound_outcomes.specs.Outcomes.{Has, GoesOn, with_local, with_store}
use Rattle.ss_vcgen_safe.specs.At.{IsAlike, Stays, HasValue, HoldIn, activation, Agrees}
use Rattle.ss_vcgen_safe.proofs.Alike.{alike_self}
use Rattle.ss_vcgen_safe.proofs.Keeps.{assumed_all, checked}
use Rattle.ss_vcgen_safe.proofs.Leads.{leads_check, leads_evaluate, leads_with_term}
use Rattle.ss_vcgen_safe.proofs.Same.{same_evaluate}
use Rattle.ss_vcgen_safe.proofs.PositionsStatements.{leads_keep}
use Rattle.ss_vcgen_safe.specs.Goes.{IsEntered, Goes}
use Rattle.ss_vcgen_safe.proofs.Behind.{later_known, here_after}
use Rattle.ss_vcgen_safe.proofs.Evaluates.{meaning_on, good_at, evaluated}
use Rattle.ss_vcgen_safe.proofs.Plain.{has_value}
use Rattle.ss_vcgen_safe.proofs.Puts.{put_arguments, known_agrees, put_agrees}
use Rattle.ss_vcgen_safe.proofs.Settles.{fitting_sort, settled_one}
use Rattle.ss_vcgen_safe.proofs.Stored.{has_done, steady_value, steady_two, store_there, stored}

-- ---- a result that a local may keep

module _ (w : Walk) (before : List Object) (table : Table) (m : Structure) (k : Position) (p : Point) (t : Term) (v : ObjectValue) (o : Option Ty) (count : length p.locals ≡ length (local_types w.body))
    (is : Stays k.next m (HasValue w.program.classes t (standing v))) (sorted : HasSort w.program.classes [] (element_sort o) t) (g : Agrees w before table m k p) where
  pub kept_agrees : (x : Option ℕ) → fits_kept w.program.classes w.body x o ≡ true → Agrees w before table m (keep x (t ∷ []) k) (with_local x v p)
  kept_agrees None fits = g
  kept_agrees (Some y) fits =
      let cs = w.program.classes in
      let d = declared_some cs o (slice_get (local_types w.body) y) fits in
      let same : element_sort o ≡ local_sort w y = fitting_sort cs o d.0 d.2 ∙ ap element_sort (sym d.1) in
      put_agrees w before table m k p y t v (slice_get_within (local_types w.body) y d.0 d.1) count is (subst (λ s. HasSort cs [] s t) same sorted) g

pub kept_known : (a : Activation) (p : Point) (v : ObjectValue) (o : Option Ty) (non_null : Bool) (k : Known) → has_flags a.body ≡ true → length p.locals ≡ length (local_types a.body) → (non_null ≡ true → IsNotNull v) → IsTrueOf a.body.flags.ctor k (scene a p) →
    (x : Option ℕ) → fits_kept a.program.classes a.body x o ≡ true → is_kept_among (is_variable a.body) x ≡ true → IsTrueOf a.body.flags.ctor (with_kept x non_null k) (scene a (with_local x v p))
kept_known a p v o non_null k flags count not_null so None fits among = so
kept_known a p v o non_null k flags count not_null so (Some y) fits among =
    let d = declared_some a.program.classes o (slice_get (local_types a.body) y) fits in
    let within = slice_get_within (local_types a.body) y d.0 d.1 in
    put_true (scene a p) y v (omega (arith, within, count)) a.body.flags.ctor non_null says_nothing k so (variable_apart a.body y flags among) not_null (λ u e x h. absurd (false≢true h))

-- ---- numbers and arrays

pub int_is : (cs : List ClassTree) (s : List Object) (v : ObjectValue) → has_type cs s ty.Int v ≡ true → v ≡ value.Int (as_int v)
int_is cs s (value.Int n) h = refl
int_is cs s (value.Bool b) h = absurd (false≢true h)
int_is cs s (value.Obj o) h = absurd (false≢true h)
int_is cs s value.Null h = absurd (false≢true h)

pub int_some : (o : Option Ty) → is_int o ≡ true → is_some o ≡ true
int_some None h = absurd (false≢true h)
int_some (Some t) h = refl

-- the array that is new
record IsNew (s z : List Object) (t : ℕ) (n : ℤ) : Type 0 where
  object : Object
  there : slice_get z (length s) ≡ Some object
  class : object.class ≡ t
  size : pos (length object.elements) ≡ n

array_new : (s : List Object) (t : ℕ) (n : ℤ) (z : List Object) → new_array_of s t n ≡ Ok z → IsNew s z t n
array_new s t (pos n) z h =
    let x = change.new_array t n (length s) in
    let same : s ++ x ∷ [] ≡ z = cc in
    record { object = x; there = subst (λ y. slice_get y (length s) ≡ Some x) same (new_get s x); class = refl; size = ap pos (length-replicate n (default_value (element_type t))) }
array_new s t (negsuc n) z h = absurd (let none : ⊥ = cc in none)

array_sorted : (cs : List ClassTree) (t : ℕ) (s n : Term) → HasSort cs [] sort.Store s → HasSort cs [] sort.Whole n → HasSort cs [] sort.Store (app (NewArray t) (s ∷ n ∷ []))
array_sorted cs t s n x y = (refl, rw (x.0, x.1, y.0, y.1) refl)

next_sorted : (cs : List ClassTree) (s : Term) → HasSort cs [] sort.Store s → HasSort cs [] sort.Rest (next_of s)
next_sorted cs s x = (refl, rw (x.0, x.1) refl)

-- what is assumed of the class and the length of a reference is so
array_formulas : (cs : List ClassTree) (m : Structure) (o n : Term) (q t : ℕ) (i : ℤ) → StandsFor cs m o (standing (value.Obj q)) → StandsFor cs m n (whole i) → m.table.class_of (reference q) ≡ t → pos (m.table.length_of (reference q)) ≡ i →
    HoldIn cs (equal (shape.type_of o) (class_term t) ∷ equal (app Length (o ∷ [])) n ∷ []) m
array_formulas cs m o n q t i is_o is_n class size = (
  ap (λ u. thing (class_name (m.table.class_of (as_thing u)))) (is_o []) ∙ ap (λ c. thing (class_name c)) class,
  (ap (λ u. whole (pos (m.table.length_of (as_thing u)))) (is_o []) ∙ ap whole size ∙ sym (is_n []), tt),
)

object_not_null : (o : ℕ) → IsNotNull (value.Obj o)
object_not_null o null = cc

module _ (w : Walk) (before : List Object) (table : Table) (arguments : List ObjectValue) (entered : IsEntered w before arguments) where
  pub array_goes : (at : Place) (x : Option ℕ) (t : ℕ) (e : ExprTree) (Q : Point → Type 0) → Goes w before table arguments (NewArrayStmt at x t e) Q
  array_goes at x t e Q xs m k p coded here valid ends =
      let cs = w.program.classes in
      let a = activation w before table in
      let st = NewArrayStmt at x t e in
      let reads = (and_parts (reads_assigned w.body xs e) true (and_parts (list_all (reads_assigned w.body xs) (e ∷ [])) true coded.assigned).0).0 in
      let typed = and_parts (is_array cs t && fits_kept cs w.body x (Some (class_type t))) (is_int (code_type cs w.body e)) coded.typed in
      let kept = and_parts (is_array cs t) (fits_kept cs w.body x (Some (class_type t))) typed.0 in
      let int = is_int_type (code_type cs w.body e) typed.1 in
      let k1 = evaluate w e k in
      let n = term_for sort.Whole (meant_at w e k1) k1 in
      let k2 = with_term sort.Whole (meant_at w e k1) k1 in
      let f = at_most (number (pos 0)) n in
      let k3 = check w kind.NegativeLength at f k2 in
      let o = next_of k3.store in
      let fs = equal (shape.type_of o) (class_term t) ∷ equal (app Length (o ∷ [])) n ∷ [] in
      let k4 = assume_all fs k3 in
      let new = app (NewArray t) (k3.store ∷ n ∷ []) in
      let k5 = positions.with_store new k4 in
      let v5 = (leads_keep w x (o ∷ []) k5).listed valid in
      let v2 = (leads_check w kind.NegativeLength at f k2).listed v5 in
      let v1 = (leads_with_term w sort.Whole (meant_at w e k1) k1).listed v2 in
      let ev = evaluated w before table entered.program xs m k p here.at e reads (int_some (code_type cs w.body e) typed.1) v1 in
      let v = ev.value in
      let same1 = same_evaluate w e k in
      let means = meaning_on w m m k k1 e v same1.like (leads_evaluate w e k).rises (alike_self k.next m) ev.means in
      let settled = settled_one w before table xs m p k1 e sort.Whole v (ap element_sort int) ev.at means in
      let m' = settled.term.m' in
      let alike = subst (λ u. IsAlike u m m') same1.next settled.term.alike in
      let c = checked w before table m' p kind.NegativeLength at f k2 v5 settled.at.agrees in
      let is = settled.at.agrees in
      let self = alike_self k2.next m' in
      let number = int_is cs p.store v (value_sound e (scene a p) (local_types w.body) w.body.flags.ctor (good_at w before table entered.program xs m k p here.at) ty.Int v (code_typed cs w.body e ty.Int int) ev.is) in
      let i = as_int v in
      let stands : Stays k2.next m' (λ m''. StandsFor cs m'' n (whole i)) = λ m'' b d. settled.term.is m'' b d ∙ ap standing number in
      let store_stands = store_there cs table k2.next m' k2.store p.store is.table_is is.store_is in
      let new_stands : Stays k2.next m' (HasValue cs o (standing (value.Obj (length p.store)))) = λ m'' b. next_stands cs m'' k2.store p.store (store_stands m'' b) in
      let done = array_done cs m' k2.store p.store (store_stands m' self) n t i (stands m' self) (c.0 m' self) in
      has_value (run.value_of e (scene a p)) v (λ u. Has (new_array_of p.store t (as_int u)) (λ s. GoesOn a st Q p (with_local x (value.Obj (length p.store)) (with_store s p)))) ev.is
      (has_done (new_array_of p.store t i) (λ s. GoesOn a st Q p (with_local x (value.Obj (length p.store)) (with_store s p))) done.0 done.1
      (λ sound b.
      let z = done.0 in
      let y = value.Obj (length p.store) in
      let r = with_store z p in
      let q = with_local x y r in
      let is_new = array_new p.store t i z done.1 in
      let class : table.class_of (reference (length p.store)) ≡ t = sound.fits.class (length p.store) is_new.object is_new.there ∙ is_new.class in
      let size : pos (table.length_of (reference (length p.store))) ≡ i =
      ap pos (sound.fits.size (length p.store) is_new.object is_new.there (subst (λ u. is_array cs u ≡ true) (sym is_new.class) kept.0)) ∙ is_new.size in
      let stay : Stays k3.next m' (HoldIn cs fs) = λ m'' d.
      let tables : table ≡ m''.table = sym (d.table ∙ is.table_is) in
      array_formulas cs m'' o n (length p.store) t i (new_stands m'' d) (stands m'' d) (subst (λ u. u.class_of (reference (length p.store)) ≡ t) tables class) (subst (λ u. pos (u.length_of (reference (length p.store))) ≡ i) tables size) in
      let g4 = assumed_all w before table m' p fs k3 stay c.1 in
      let after_store = array_after cs m' k2.store p.store (store_stands m' self) n t i z (stands m' self) done.1 (subst (λ u. Fits cs u z) (sym is.table_is) sound.fits) sound.store in
      let g5 = stored w before table m' k4 p new z (steady_two cs k2.next m' (NewArray t) k2.store n (λ m m' vs. refl) (steady_value cs k2.next m' k2.store _ is.store_is.is) (steady_value cs k2.next m' n (standing v) settled.term.is))
      (array_sorted cs t k2.store n is.store_is.sorted settled.term.sorted) after_store g4 in
      let count = here.at.sound.locals.count in
      let g6 = kept_agrees w before table m' k5 r o y (Some (class_type t)) count new_stands (next_sorted cs k2.store is.store_is.sorted) g5 x kept.1 in
      let later = later_known a (entry_size a) p z entered.body.flags here.at.sound b.reached.later k.known here.at.known in
      let known = kept_known a r y (Some (class_type t)) true k.known entered.body.flags count (λ nn. object_not_null (length p.store)) later x kept.1 coded.targets in
      ends (λ u. is_target st u || xs u) m' q refl alike
      (here_after w before table arguments xs m k p st refl coded here m' q sound b (put_arguments w.body x y p.locals coded.targets) (known_agrees w before table m' (keep x (o ∷ []) k5) q (behind w st k).known g6) known)))
