-- Structures that are alike, and one more constant with any value of its sort.
use Rattle.std.proofs.Common.{◌≡◌, ℕ, ◌<◌, ◌≤◌, List, Bool, true, false, ◌&&◌, eqb, refl, ◌∙◌, ap, arith}
use Rattle.std.specs.Prelude.{if◌then◌else◌, nat_lt}
use Rattle.std.proofs.lemmas.Bool.{false≢true, true≢false, eq-eqb, ne_eqb, lt-ltb, le-ltb}
use Rattle.ss_core.specs.Tree.{ClassTree}
use Rattle.ss_store_rules.specs.Store.{Object}
use Rattle.ss_logic.specs.declared.Sort.{Sort}
use Rattle.ss_logic.specs.declared.Sort.TheVariants as sort
use Rattle.ss_logic.specs.Values.{Heap, no_heap, IsNumbered, Table, Value, whole, truth, thing, store, as_whole, as_truth, as_thing, as_store, sort_of_value, Structure}
use Rattle.ss_logic.specs.Terms.{Term, same_sort, constant_value}
use Rattle.ss_vcgen_heaps.specs.Positions.{Counters, Position, Walk, number_of, raised, new_term, with_new}
use Rattle.ss_sound_outcomes.specs.Points.{Point}
use Rattle.ss_vcgen_safe.specs.At.{IsAlike, Stays, HasValue, IsStore, IsLocal, Agrees, Rises}

-- ---- counters

pub rises_self : (n : Counters) → Rises n n
rises_self n s = omega arith

pub rises_twice : (a b c : Counters) → Rises a b → Rises b c → Rises a c
rises_twice a b c r q s = let x = r s in let y = q s in omega (arith, x, y)

pub rises_new : (s : Sort) (n : Counters) → Rises n (raised s n)
rises_new sort.Store n sort.Store = omega arith
rises_new sort.Whole n sort.Whole = omega arith
rises_new sort.Truth n sort.Truth = omega arith
rises_new sort.Rest n sort.Rest = omega arith
rises_new sort.Store n r = rises_self n r
rises_new sort.Whole n r = rises_self n r
rises_new sort.Truth n r = rises_self n r
rises_new sort.Rest n r = rises_self n r

pub raised_more : (s : Sort) (n : Counters) → number_of s n < number_of s (raised s n)
raised_more sort.Store n = omega arith
raised_more sort.Whole n = omega arith
raised_more sort.Truth n = omega arith
raised_more sort.Rest n = omega arith

-- ---- alike structures

pub alike_self : (n : Counters) (m : Structure) → IsAlike n m m
alike_self n m = record { table = refl; constants = λ s i l. refl }

pub alike_twice : (n : Counters) (m m' m'' : Structure) → IsAlike n m m' → IsAlike n m' m'' → IsAlike n m m''
alike_twice n m m' m'' a b = record { table = b.table ∙ a.table; constants = λ s i l. b.constants s i l ∙ a.constants s i l }

pub alike_lower : (n n' : Counters) (m m' : Structure) → Rises n n' → IsAlike n' m m' → IsAlike n m m'
alike_lower n n' m m' r a = record { table = a.table; constants = λ s i l. a.constants s i (let x = r s in omega (arith, x, l)) }

pub table_on : (n : Counters) (m m' : Structure) (table : Table) → IsAlike n m m' → m.table ≡ table → m'.table ≡ table
table_on n m m' table a e = a.table ∙ e

-- what stays so of m does of each structure that is alike, and at higher counters
pub stays_on : (P : Structure → Type 0) (n n' : Counters) (m m' : Structure) → Rises n n' → IsAlike n m m' → Stays n m P → Stays n' m' P
stays_on P n n' m m' r a s m'' b = s m'' (alike_twice n m m' m'' a (alike_lower n n' m' m'' r b))

-- ---- another value of one constant

pub none_numbered : IsNumbered no_heap
none_numbered w g e = let no : ⊥ = cc in absurd no

either_numbered : (b : Bool) (h i : Heap) → IsNumbered h → IsNumbered i → IsNumbered (if b then h else i)
either_numbered true h i x y = x
either_numbered false h i x y = y

-- the structure with this value of the constant with the number i
pub with_value : Structure → (s : Sort) → ℕ → (v : Value) → IsNumbered (as_store v) → Structure
with_value m s i v numbered = record {
  stores = λ j. if same_sort s sort.Store && eqb j i then as_store v else m.stores j;
  wholes = λ j. if same_sort s sort.Whole && eqb j i then as_whole v else m.wholes j;
  truths = λ j. if same_sort s sort.Truth && eqb j i then as_truth v else m.truths j;
  things = λ j. if same_sort s sort.Rest && eqb j i then as_thing v else m.things j;
  table = m.table;
  numbered = λ j. either_numbered (same_sort s sort.Store && eqb j i) (as_store v) (m.stores j) numbered (m.numbered j);
}

if_no : {A : Type 0} (b : Bool) (x y : A) → b ≡ false → (if b then x else y) ≡ y
if_no true x y h = absurd (true≢false h)
if_no false x y h = refl

pub new_is : (m : Structure) (s : Sort) (i : ℕ) (v : Value) (numbered : IsNumbered (as_store v)) → sort_of_value v ≡ s → constant_value (with_value m s i v numbered) s i ≡ v
unfolding with_value
new_is m sort.Store i (store h) numbered e = ap store (rw (eq-eqb i i refl) refl)
new_is m sort.Whole i (whole n) numbered e = ap whole (rw (eq-eqb i i refl) refl)
new_is m sort.Truth i (truth b) numbered e = ap truth (rw (eq-eqb i i refl) refl)
new_is m sort.Rest i (thing w) numbered e = ap thing (rw (eq-eqb i i refl) refl)
new_is m s i v numbered e = cc

differs : (s r : Sort) (i j : ℕ) (n : Counters) → number_of s n ≤ i → j < number_of r n → (same_sort s r && eqb j i) ≡ false
differs sort.Store sort.Store i j n l h = ne_eqb j i (λ e. absurd (omega (arith, e, l, h)))
differs sort.Whole sort.Whole i j n l h = ne_eqb j i (λ e. absurd (omega (arith, e, l, h)))
differs sort.Truth sort.Truth i j n l h = ne_eqb j i (λ e. absurd (omega (arith, e, l, h)))
differs sort.Rest sort.Rest i j n l h = ne_eqb j i (λ e. absurd (omega (arith, e, l, h)))
differs s r i j n l h = refl

other_is : (m : Structure) (s : Sort) (i : ℕ) (v : Value) (numbered : IsNumbered (as_store v)) (r : Sort) (j : ℕ) → (same_sort s r && eqb j i) ≡ false → constant_value (with_value m s i v numbered) r j ≡ constant_value m r j
unfolding with_value
other_is m s i v numbered sort.Store j h = ap store (if_no (same_sort s sort.Store && eqb j i) (as_store v) (m.stores j) h)
other_is m s i v numbered sort.Whole j h = ap whole (if_no (same_sort s sort.Whole && eqb j i) (as_whole v) (m.wholes j) h)
other_is m s i v numbered sort.Truth j h = ap truth (if_no (same_sort s sort.Truth && eqb j i) (as_truth v) (m.truths j) h)
other_is m s i v numbered sort.Rest j h = ap thing (if_no (same_sort s sort.Rest && eqb j i) (as_thing v) (m.things j) h)

pub new_alike : (m : Structure) (s : Sort) (i : ℕ) (v : Value) (numbered : IsNumbered (as_store v)) (n : Counters) → number_of s n ≤ i → IsAlike n m (with_value m s i v numbered)
unfolding with_value
new_alike m s i v numbered n l = record { table = refl; constants = λ r j h. other_is m s i v numbered r j (differs s r i j n l h) }

-- ---- other truth values from a number on

pub with_truths : Structure → ℕ → (ℕ → Bool) → Structure
with_truths m n g = record m { truths = λ i. if nat_lt i n then m.truths i else g i }

if_yes : {A : Type 0} (b : Bool) (x y : A) → b ≡ true → (if b then x else y) ≡ x
if_yes true x y h = refl
if_yes false x y h = absurd (false≢true h)

pub truths_new : (m : Structure) (n : ℕ) (g : ℕ → Bool) (i : ℕ) → n ≤ i → (with_truths m n g).truths i ≡ g i
unfolding with_truths
truths_new m n g i l = if_no (nat_lt i n) (m.truths i) (g i) (le-ltb i n l)

pub truths_alike : (m : Structure) (n : ℕ) (g : ℕ → Bool) (next : Counters) → next.truths ≤ n → IsAlike next m (with_truths m n g)
unfolding with_truths
truths_alike m n g next l = record { table = refl; constants = kept }
  where
    kept : (s : Sort) (i : ℕ) → i < number_of s next → constant_value (with_truths m n g) s i ≡ constant_value m s i
    kept sort.Store i h = refl
    kept sort.Whole i h = refl
    kept sort.Truth i h = ap truth (if_yes (nat_lt i n) (m.truths i) (g i) (lt-ltb i n (omega (arith, l, h))))
    kept sort.Rest i h = refl

-- ---- terms

-- a constant keeps its value in each structure that is alike
pub constant_stays : (cs : List ClassTree) (n : Counters) (m : Structure) (s : Sort) (i : ℕ) (v : Value) → i < number_of s n → constant_value m s i ≡ v → Stays n m (λ m'. constant_value m' s i ≡ v)
constant_stays cs n m s i v l e m' a = a.constants s i l ∙ e

-- The next new constant of a sort may be given any value of the sort.
pub record NewConstant (cs : List ClassTree) (m : Structure) (s : Sort) (k : Position) (v : Value) : Type 0 where
  pub m' : Structure
  pub alike : IsAlike k.next m m'
  pub is : Stays (with_new s k).next m' (HasValue cs (new_term s k) v)

pub new_constant : (cs : List ClassTree) (m : Structure) (s : Sort) (k : Position) (v : Value) → IsNumbered (as_store v) → sort_of_value v ≡ s → NewConstant cs m s k v
new_constant cs m s k v numbered e =
    let i = number_of s k.next in
    let m' = with_value m s i v numbered in
    record {
      m' = m';
      alike = new_alike m s i v numbered k.next (omega arith);
      is = λ m'' a vs. constant_stays cs (raised s k.next) m' s i v (raised_more s k.next) (new_is m s i v numbered e) m'' a;
    }

-- ---- what agrees goes on to do so

pub store_on : (cs : List ClassTree) (table : Table) (n n' : Counters) (m m' : Structure) (t : Term) (s : List Object) → Rises n n' → IsAlike n m m' → IsStore cs table n m t s → IsStore cs table n' m' t s
store_on cs table n n' m m' t s r a h = record { heap = h.heap; is = stays_on (HasValue cs t (store h.heap)) n n' m m' r a h.is; sorted = h.sorted; good = h.good; objects = h.objects }

module _ (w : Walk) (before : List Object) (table : Table) where
  pub local_on : (n n' : Counters) (m m' : Structure) (p : Point) (x : ℕ) (t : Term) → Rises n n' → IsAlike n m m' → IsLocal w before table n m p x t → IsLocal w before table n' m' p x t
  local_on n n' m m' p x t r a l = record { is = stays_on _ n n' m m' r a l.is; sorted = l.sorted }

  -- at higher counters, in a structure that is alike
  pub agrees_on : (k : Position) (n : Counters) (m m' : Structure) (p : Point) → Rises k.next n → IsAlike k.next m m' → Agrees w before table m k p → Agrees w before table m' (record k { next = n }) p
  agrees_on k n m m' p r a g = record {
    table_is = a.table ∙ g.table_is;
    entry = store_on w.program.classes table k.next n m m' w.entry before r a g.entry;
    store_is = store_on w.program.classes table k.next n m m' k.store p.store r a g.store_is;
    count = g.count;
    locals = λ x t there. local_on k.next n m m' p x t r a (g.locals x t there);
    guard = stays_on _ k.next n m m' r a g.guard;
    premises = stays_on _ k.next n m m' r a g.premises;
  }

  pub record NewAgrees (m : Structure) (s : Sort) (k : Position) (v : Value) (p : Point) : Type 0 where
    pub m' : Structure
    pub alike : IsAlike k.next m m'
    pub agrees : Agrees w before table m' (with_new s k) p
    pub is : Stays (with_new s k).next m' (HasValue w.program.classes (new_term s k) v)

  pub new_agrees : (m : Structure) (s : Sort) (k : Position) (v : Value) (p : Point) → IsNumbered (as_store v) → sort_of_value v ≡ s → Agrees w before table m k p → NewAgrees m s k v p
  new_agrees m s k v p numbered e g =
      let z = new_constant w.program.classes m s k v numbered e in
      record { m' = z.m'; alike = z.alike; agrees = agrees_on k (raised s k.next) m z.m' p (rises_new s k.next) z.alike g; is = z.is }
