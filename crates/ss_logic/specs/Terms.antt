-- Terms over stores, and what they mean.
use Rattle.std.specs.Prelude.{not, ℕ, ℤ, pos, ◌+ℤ◌, ◌-ℤ◌, ◌*ℤ◌, int_div, int_rem, List, [], ◌∷◌, length, Bool, true, false, ◌&&◌, ◌||◌, nat_lt, slice_get, unwrap_or, map}
use Rattle.ss_core.specs.declared.names.Ty.{Ty}
use Rattle.ss_core.specs.declared.names.Ty.TheVariants as ty
use Rattle.ss_core.specs.Tree.{ClassTree}
use Rattle.ss_core.specs.Chain.{all_fields}
use Rattle.ss_store_rules.specs.Changes.{field_type}
use Rattle.ss_logic.specs.declared.Sort.{Sort}
use Rattle.ss_logic.specs.declared.Sort.TheVariants as sort
use Rattle.ss_logic.specs.Values.{Thing, null, reference, class_name, owner_pair, Cells, Entry, Heap, Value, whole, truth, thing, store, as_whole, as_thing, as_store, Structure}
use Rattle.ss_logic.specs.Changes.{changed, field_set, element_put, unpacked, packed, captured, joined, with_new, new_object, new_array, made_ready}

-- a function: a term is one at its arguments
pub data Symbol : Type 0 where
  -- literals and constants, without arguments
  Number : ℤ → Symbol
  Fixed : Bool → Symbol
  Null : Symbol
  ClassName : ℕ → Symbol
  Constant : Sort → ℕ → Symbol
  -- of two whole numbers
  Add : Symbol
  Subtract : Symbol
  Multiply : Symbol
  Quotient : Symbol
  Remainder : Symbol
  -- a field of an object, and an element at an index of an array: a reference, a whole number or a truth value, in a store
  Field : ℕ → Symbol
  Element : Sort → Symbol
  -- of an array, and of an object
  Length : Symbol
  TypeOf : Symbol
  -- the level and the owner of an object in a store
  Level : Symbol
  Owner : Symbol
  -- of an object and a class
  Pair : Symbol
  -- the reference that a store allocates next
  Next : Symbol
  -- stores: a store with a change at an object, and with what else the change needs
  Set : ℕ → Symbol
  Put : Symbol
  Unpack : ℕ → Symbol
  Pack : ℕ → Symbol
  Capture : ℕ → Symbol
  Join : Symbol
  New : ℕ → Symbol
  NewArray : ℕ → Symbol
  MakeReady : Symbol
  deriving Discrete as Symbol-discrete

-- a bound name is the number of bound names that stand before it, counted from the outermost
mutual
  pub data Term : Type 0 where
    Bound : ℕ → Term
    App : Symbol → Terms → Term
    deriving Discrete as Term-discrete

  pub data Terms : Type 0 where
    no_terms : Terms
    term_then : Term → Terms → Terms
    deriving Discrete as Terms-discrete

abbrev pub terms_from : List Term → Terms
terms_from [] = no_terms
terms_from (t ∷ ts) = term_then t (terms_from ts)

abbrev pub term_list : Terms → List Term
term_list no_terms = []
term_list (term_then t ts) = t ∷ term_list ts

-- the function at these arguments
abbrev pub app : Symbol → List Term → Term
app f ts = App f (terms_from ts)

-- ---- sorts

abbrev pub sort_of_type : Ty → Sort
sort_of_type ty.Int = sort.Whole
sort_of_type ty.Bool = sort.Truth
sort_of_type ty.Null = sort.Rest
sort_of_type (ty.Ref t non_null) = sort.Rest

-- that of the type of the field
abbrev pub field_sort : List ClassTree → ℕ → Sort
field_sort cs f = sort_of_type (field_type cs f)

abbrev pub has_field : List ClassTree → ℕ → Bool
has_field cs f = nat_lt f (length (all_fields cs))

abbrev pub same_sort : Sort → Sort → Bool
same_sort sort.Store sort.Store = true
same_sort sort.Whole sort.Whole = true
same_sort sort.Truth sort.Truth = true
same_sort sort.Rest sort.Rest = true
same_sort s r = false

abbrev pub is_store_sort : Sort → Bool
is_store_sort s = same_sort s sort.Store

-- what the function gives
abbrev pub result_sort : List ClassTree → Symbol → Sort
result_sort cs (Number n) = sort.Whole
result_sort cs (Fixed b) = sort.Truth
result_sort cs Null = sort.Rest
result_sort cs (ClassName t) = sort.Rest
result_sort cs (Constant s k) = s
result_sort cs Add = sort.Whole
result_sort cs Subtract = sort.Whole
result_sort cs Multiply = sort.Whole
result_sort cs Quotient = sort.Whole
result_sort cs Remainder = sort.Whole
result_sort cs (Field f) = field_sort cs f
result_sort cs (Element s) = s
result_sort cs Length = sort.Whole
result_sort cs TypeOf = sort.Rest
result_sort cs Level = sort.Rest
result_sort cs Owner = sort.Rest
result_sort cs Pair = sort.Rest
result_sort cs Next = sort.Rest
result_sort cs (Set f) = sort.Store
result_sort cs Put = sort.Store
result_sort cs (Unpack t) = sort.Store
result_sort cs (Pack t) = sort.Store
result_sort cs (Capture t) = sort.Store
result_sort cs Join = sort.Store
result_sort cs (New t) = sort.Store
result_sort cs (NewArray t) = sort.Store
result_sort cs MakeReady = sort.Store

abbrev pub same_sorts : List Sort → List Sort → Bool
same_sorts [] [] = true
same_sorts (s ∷ ss) (r ∷ rs) = same_sort s r && same_sorts ss rs
same_sorts ss rs = false

-- the function takes arguments of these sorts; an element that is put may have each sort but that of stores
abbrev pub takes : List ClassTree → Symbol → List Sort → Bool
takes cs (Number n) ss = same_sorts ss []
takes cs (Fixed b) ss = same_sorts ss []
takes cs Null ss = same_sorts ss []
takes cs (ClassName t) ss = same_sorts ss []
takes cs (Constant s k) ss = same_sorts ss []
takes cs Add ss = same_sorts ss (sort.Whole ∷ sort.Whole ∷ [])
takes cs Subtract ss = same_sorts ss (sort.Whole ∷ sort.Whole ∷ [])
takes cs Multiply ss = same_sorts ss (sort.Whole ∷ sort.Whole ∷ [])
takes cs Quotient ss = same_sorts ss (sort.Whole ∷ sort.Whole ∷ [])
takes cs Remainder ss = same_sorts ss (sort.Whole ∷ sort.Whole ∷ [])
takes cs (Field f) ss = has_field cs f && same_sorts ss (sort.Store ∷ sort.Rest ∷ [])
takes cs (Element s) ss = same_sorts ss (sort.Store ∷ sort.Rest ∷ sort.Whole ∷ []) && not (is_store_sort s)
takes cs Length ss = same_sorts ss (sort.Rest ∷ [])
takes cs TypeOf ss = same_sorts ss (sort.Rest ∷ [])
takes cs Level ss = same_sorts ss (sort.Store ∷ sort.Rest ∷ [])
takes cs Owner ss = same_sorts ss (sort.Store ∷ sort.Rest ∷ [])
takes cs Pair ss = same_sorts ss (sort.Rest ∷ sort.Rest ∷ [])
takes cs Next ss = same_sorts ss (sort.Store ∷ [])
takes cs (Set f) ss = has_field cs f && same_sorts ss (sort.Store ∷ sort.Rest ∷ field_sort cs f ∷ [])
takes cs Put ss =
    same_sorts ss (sort.Store ∷ sort.Rest ∷ sort.Whole ∷ sort.Whole ∷ [])
    || same_sorts ss (sort.Store ∷ sort.Rest ∷ sort.Whole ∷ sort.Truth ∷ [])
    || same_sorts ss (sort.Store ∷ sort.Rest ∷ sort.Whole ∷ sort.Rest ∷ [])
takes cs (Unpack t) ss = same_sorts ss (sort.Store ∷ sort.Rest ∷ [])
takes cs (Pack t) ss = same_sorts ss (sort.Store ∷ sort.Rest ∷ [])
takes cs (Capture t) ss = same_sorts ss (sort.Store ∷ sort.Rest ∷ sort.Rest ∷ [])
takes cs Join ss = same_sorts ss (sort.Store ∷ sort.Rest ∷ sort.Rest ∷ [])
takes cs (New t) ss = same_sorts ss (sort.Store ∷ [])
takes cs (NewArray t) ss = same_sorts ss (sort.Store ∷ sort.Whole ∷ [])
takes cs MakeReady ss = same_sorts ss (sort.Store ∷ sort.Rest ∷ [])

-- the sort of a term, where the bound names have these
abbrev pub sort_of : List ClassTree → List Sort → Term → Sort
sort_of cs bound (Bound k) = unwrap_or (slice_get bound k) sort.Rest
sort_of cs bound (App f ts) = result_sort cs f

abbrev pub sorts_of : List ClassTree → List Sort → Terms → List Sort
sorts_of cs bound ts = map (sort_of cs bound) (term_list ts)

-- each function in the term takes its arguments, and each bound name is one of these
abbrev mutual
  pub is_well_sorted : List ClassTree → List Sort → Term → Bool
  is_well_sorted cs bound (Bound k) = nat_lt k (length bound)
  is_well_sorted cs bound (App f ts) = takes cs f (sorts_of cs bound ts) && are_well_sorted cs bound ts

  pub are_well_sorted : List ClassTree → List Sort → Terms → Bool
  are_well_sorted cs bound no_terms = true
  are_well_sorted cs bound (term_then t ts) = is_well_sorted cs bound t && are_well_sorted cs bound ts

-- ---- meaning

abbrev pub constant_value : Structure → Sort → ℕ → Value
constant_value m sort.Store k = store (m.stores k)
constant_value m sort.Whole k = whole (m.wholes k)
constant_value m sort.Truth k = truth (m.truths k)
constant_value m sort.Rest k = thing (m.things k)

-- what the cells of this sort have at the place
abbrev pub cell : {Place : Type 0} → Sort → Cells Place → Place → Value
cell sort.Whole c i = whole (c.wholes i)
cell sort.Truth c i = truth (c.truths i)
cell sort.Rest c i = thing (c.things i)
cell sort.Store c i = thing null

abbrev pub argument : List Value → ℕ → Value
argument vs k = unwrap_or (slice_get vs k) (thing null)

abbrev pub whole_at : List Value → ℕ → ℤ
whole_at vs k = as_whole (argument vs k)

abbrev pub thing_at : List Value → ℕ → Thing
thing_at vs k = as_thing (argument vs k)

abbrev pub store_at : List Value → ℕ → Heap
store_at vs k = as_store (argument vs k)

-- the entry of the second argument in the store that is the first
abbrev pub entry_at : List Value → Entry
entry_at vs = (store_at vs 0).at (thing_at vs 1)

-- what the function gives at these arguments
abbrev pub applied : List ClassTree → Structure → Symbol → List Value → Value
applied cs m (Number n) vs = whole n
applied cs m (Fixed b) vs = truth b
applied cs m Null vs = thing null
applied cs m (ClassName t) vs = thing (class_name t)
applied cs m (Constant s k) vs = constant_value m s k
applied cs m Add vs = whole (whole_at vs 0 +ℤ whole_at vs 1)
applied cs m Subtract vs = whole (whole_at vs 0 -ℤ whole_at vs 1)
applied cs m Multiply vs = whole (whole_at vs 0 *ℤ whole_at vs 1)
applied cs m Quotient vs = whole (int_div (whole_at vs 0) (whole_at vs 1))
applied cs m Remainder vs = whole (int_rem (whole_at vs 0) (whole_at vs 1))
applied cs m (Field f) vs = cell (field_sort cs f) (entry_at vs).fields f
applied cs m (Element s) vs = cell s (entry_at vs).elements (whole_at vs 2)
applied cs m Length vs = whole (pos (m.table.length_of (thing_at vs 0)))
applied cs m TypeOf vs = thing (class_name (m.table.class_of (thing_at vs 0)))
applied cs m Level vs = thing (class_name (entry_at vs).level)
applied cs m Owner vs = thing (entry_at vs).owner
applied cs m Pair vs = thing (owner_pair (thing_at vs 0) (thing_at vs 1))
applied cs m Next vs = thing (reference (store_at vs 0).next)
applied cs m (Set f) vs = store (changed (field_set (thing_at vs 1) f (argument vs 2)) (store_at vs 0))
applied cs m Put vs = store (changed (element_put (thing_at vs 1) (whole_at vs 2) (argument vs 3)) (store_at vs 0))
applied cs m (Unpack t) vs = store (changed (unpacked cs (thing_at vs 1) t) (store_at vs 0))
applied cs m (Pack t) vs = store (changed (packed (thing_at vs 1) t) (store_at vs 0))
applied cs m (Capture t) vs = store (captured (store_at vs 0) (thing_at vs 1) t (thing_at vs 2))
applied cs m Join vs = store (joined (store_at vs 0) (thing_at vs 1) (thing_at vs 2))
applied cs m (New t) vs = store (with_new (new_object (store_at vs 0).next) (store_at vs 0))
applied cs m (NewArray t) vs = store (with_new (new_array t (store_at vs 0).next) (store_at vs 0))
applied cs m MakeReady vs = store (changed (made_ready (thing_at vs 1)) (store_at vs 0))

-- the value of a term, at these values of the bound names
abbrev mutual
  pub value_of : List ClassTree → Structure → List Value → Term → Value
  value_of cs m e (Bound k) = argument e k
  value_of cs m e (App f ts) = applied cs m f (values_of cs m e ts)

  pub values_of : List ClassTree → Structure → List Value → Terms → List Value
  values_of cs m e no_terms = []
  values_of cs m e (term_then t ts) = value_of cs m e t ∷ values_of cs m e ts

-- the terms have these sorts, one by one, and no bound names
abbrev pub have_sorts : List ClassTree → List Sort → List Term → Bool
have_sorts cs [] [] = true
have_sorts cs [] (t ∷ ts) = false
have_sorts cs (s ∷ ss) [] = false
have_sorts cs (s ∷ ss) (t ∷ ts) = same_sort (sort_of cs [] t) s && is_well_sorted cs [] t && have_sorts cs ss ts
