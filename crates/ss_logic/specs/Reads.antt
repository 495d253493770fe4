-- What a read gives over a store.
use Rattle.std.specs.Prelude.{ℕ, pos, List, [], ◌∷◌, ◌++◌, Bool, true, false, ◌==◌, ◌&&◌, not, Option, Some, None, option_map, option_and_then, if◌then◌else◌}
use Rattle.ss_core.specs.Tree.{ClassTree}
use Rattle.ss_core.specs.Chain.{above}
use Rattle.ss_logic.specs.declared.Sort.{Sort}
use Rattle.ss_logic.specs.declared.Sort.TheVariants as sort
use Rattle.ss_logic.specs.Terms.{Symbol, Fixed, Constant, Field, Element, Set, Put, Unpack, Pack, Capture, Join, New, NewArray, MakeReady, Term, App, no_terms, term_list, app, field_sort, has_field, same_sort, sort_of, is_well_sorted, have_sorts}
use Rattle.ss_logic.specs.Formulas.{Formula, neg}
use Rattle.ss_logic.specs.Shapes.{when, number, null_term, class_term, level_of, owner_of, pair_of, next_of, equal, differ, allocated, committed, ready, group, given, all_of, where_equal, where_different, natural_of}

-- A read, without its store: of a field, an element, the level or the owner of an object, of the next reference, of whether an object is
-- allocated, committed or ready, or of a length.
pub data Look : Type 0 where
  FieldLook : Term → ℕ → Look
  ElementLook : Sort → Term → Term → Look
  LevelLook : Term → Look
  OwnerLook : Term → Look
  NextLook : Look
  AllocatedLook : Term → Look
  CommittedLook : Term → Look
  ReadyLook : Term → Look
  LengthLook : Term → Look

-- its arguments have their sorts, and the program has the field
abbrev pub is_look : List ClassTree → Look → Bool
is_look cs (FieldLook o f) = has_field cs f && have_sorts cs (sort.Rest ∷ []) (o ∷ [])
is_look cs (ElementLook s a i) = not (same_sort s sort.Store) && have_sorts cs (sort.Rest ∷ sort.Whole ∷ []) (a ∷ i ∷ [])
is_look cs (LevelLook o) = have_sorts cs (sort.Rest ∷ []) (o ∷ [])
is_look cs (OwnerLook o) = have_sorts cs (sort.Rest ∷ []) (o ∷ [])
is_look cs NextLook = true
is_look cs (AllocatedLook o) = have_sorts cs (sort.Rest ∷ []) (o ∷ [])
is_look cs (CommittedLook o) = have_sorts cs (sort.Rest ∷ []) (o ∷ [])
is_look cs (ReadyLook o) = have_sorts cs (sort.Rest ∷ []) (o ∷ [])
is_look cs (LengthLook a) = have_sorts cs (sort.Rest ∷ []) (a ∷ [])

-- Of which read a literal says that these are the arguments: 0 a field, 1 an element, 2 a level, 3 an owner, 4 the next reference,
-- 5 allocated, 6 committed, 7 ready, 8 a length, 9 a whole number of an array, 10 a truth value of an array.
abbrev pub look_of_two : ℕ → Term → Term → Option Look
look_of_two n o x =
    if n == 0 then option_map (FieldLook o) (natural_of x)
    else if n == 1 then Some (ElementLook sort.Rest o x)
    else if n == 9 then Some (ElementLook sort.Whole o x)
    else if n == 10 then Some (ElementLook sort.Truth o x)
    else None

abbrev pub look_of_one : ℕ → Term → Option Look
look_of_one n o =
    if n == 2 then Some (LevelLook o)
    else if n == 3 then Some (OwnerLook o)
    else if n == 5 then Some (AllocatedLook o)
    else if n == 6 then Some (CommittedLook o)
    else if n == 7 then Some (ReadyLook o)
    else if n == 8 then Some (LengthLook o)
    else None

abbrev pub look_of : ℕ → List Term → Option Look
look_of n [] = when (n == 4) NextLook
look_of n (o ∷ []) = look_of_one n o
look_of n (o ∷ x ∷ []) = look_of_two n o x
look_of n ts = None

abbrev pub look_from : Term → List Term → Option Look
look_from kind ts = option_and_then (λ n. look_of n ts) (natural_of kind)

-- what stands for the read over a store: a term or an atom; a length is read in no store
pub data Looked : Type 0 where
  TermLooked : Term → Looked
  AtomLooked : Formula → Looked
  NoneLooked : Looked

abbrev pub look_at : Look → Term → Looked
look_at (FieldLook o f) s = TermLooked (app (Field f) (s ∷ o ∷ []))
look_at (ElementLook r a i) s = TermLooked (app (Element r) (s ∷ a ∷ i ∷ []))
look_at (LevelLook o) s = TermLooked (level_of s o)
look_at (OwnerLook o) s = TermLooked (owner_of s o)
look_at NextLook s = TermLooked (next_of s)
look_at (AllocatedLook o) s = AtomLooked (allocated s o)
look_at (CommittedLook o) s = AtomLooked (committed s o)
look_at (ReadyLook o) s = AtomLooked (ready s o)
look_at (LengthLook a) s = NoneLooked

abbrev pub agreeing : List Formula → Looked → Looked → List Formula
agreeing ps (TermLooked x) (TermLooked y) = given ps (equal x y) ∷ []
agreeing ps (AtomLooked f) (AtomLooked g) = given (ps ++ f ∷ []) g ∷ given (ps ++ neg f ∷ []) (neg g) ∷ []
agreeing ps x y = []

-- under these premises the read gives the same over both stores
abbrev pub same_over : Look → Term → Term → List Formula → List Formula
same_over look s r ps = agreeing ps (look_at look s) (look_at look r)

-- ---- what each change does to each read: `after` is the changed store, and `s` the store before

abbrev pub over_set : Term → ℕ → Term → Term → Term → Look → List Formula
over_set after f s o v (FieldLook p g) =
    if g == f
    then given (where_equal p o) (equal (app (Field g) (after ∷ p ∷ [])) v) ∷ where_different p o (same_over (FieldLook p g) after s)
    else same_over (FieldLook p g) after s []
over_set after f s o v look = same_over look after s []

-- the element has the sort of the value that was put
abbrev pub over_put : List ClassTree → Term → Term → Term → Term → Term → Look → List Formula
over_put cs after s a i v (ElementLook r b j) =
    if same_sort (sort_of cs [] v) r
    then given (where_equal b a ++ where_equal j i) (equal (app (Element r) (after ∷ b ∷ j ∷ [])) v)
    ∷ where_different b a (same_over (ElementLook r b j) after s) ++ where_different j i (same_over (ElementLook r b j) after s)
    else same_over (ElementLook r b j) after s []
over_put cs after s a i v look = same_over look after s []

-- the level of p is the class t where p is o, and else as before
abbrev pub leveled : Term → ℕ → Term → Term → Term → List Formula
leveled after t s o p = given (where_equal p o) (equal (level_of after p) (class_term t)) ∷ where_different p o (same_over (LevelLook p) after s)

-- the owner of p before is the pair of o and t
abbrev pub owned_at : Term → Term → Term → ℕ → Formula
owned_at s p o t = equal (owner_of s p) (pair_of o (class_term t))

abbrev pub over_unpack : List ClassTree → Term → ℕ → Term → Term → Look → List Formula
over_unpack cs after t s o (LevelLook p) = leveled after (above cs t) s o p
over_unpack cs after t s o (CommittedLook p) =
    given (owned_at s p o t ∷ []) (neg (committed after p))
    ∷ given (neg (owned_at s p o t) ∷ committed s p ∷ []) (committed after p)
    ∷ given (neg (committed s p) ∷ []) (neg (committed after p))
    ∷ []
over_unpack cs after t s o look = same_over look after s []

abbrev pub over_pack : Term → ℕ → Term → Term → Look → List Formula
over_pack after t s o (LevelLook p) = leveled after t s o p
over_pack after t s o (CommittedLook p) =
    given (owned_at s p o t ∷ []) (committed after p)
    ∷ given (committed s p ∷ []) (committed after p)
    ∷ given (neg (owned_at s p o t) ∷ neg (committed s p) ∷ []) (neg (committed after p))
    ∷ []
over_pack after t s o look = same_over look after s []

-- the group of e has the pair of o and t as its owner, under the premise that e isn't null
abbrev pub captured_owners : Term → ℕ → Term → Term → Term → Term → List Formula → List Formula
captured_owners after t s o e p ps =
    given (ps ++ group (owner_of s e) ∷ where_equal (owner_of s p) (owner_of s e)) (equal (owner_of after p) (pair_of o (class_term t)))
    ∷ []

-- null is in no group, and what isn't in the group keeps its owner
abbrev pub over_capture : Term → ℕ → Term → Term → Term → Look → List Formula
over_capture after t s o e (OwnerLook p) =
    given (where_equal e null_term) (equal (owner_of after p) (owner_of s p))
    ∷ where_different e null_term (captured_owners after t s o e p)
    ++ given (neg (group (owner_of s e)) ∷ []) (equal (owner_of after p) (owner_of s p))
    ∷ where_different (owner_of s p) (owner_of s e) (same_over (OwnerLook p) after s)
over_capture after t s o e look = same_over look after s []

-- what joining e with o does to the owner of p, under the premise that e isn't null: the group of e has the owner of o; where e is in no
-- group, the group of o has the owner of e
abbrev pub joined_owners : Term → Term → Term → Term → Term → List Formula → List Formula
joined_owners after s o e p ps =
    given (ps ++ group (owner_of s e) ∷ where_equal (owner_of s p) (owner_of s e)) (equal (owner_of after p) (owner_of s o))
    ∷ given (ps ++ neg (group (owner_of s e)) ∷ group (owner_of s o) ∷ where_equal (owner_of s p) (owner_of s o)) (equal (owner_of after p) (owner_of s e))
    ∷ []

-- what has another owner than that group keeps it
abbrev pub kept_owners : Term → Term → Term → Term → Term → List Formula
kept_owners after s o e p =
    where_different (owner_of s p) (owner_of s e) (λ ps. given (group (owner_of s e) ∷ ps) (equal (owner_of after p) (owner_of s p)) ∷ [])
    ++ where_different (owner_of s p) (owner_of s o) (λ ps. given (neg (group (owner_of s e)) ∷ ps) (equal (owner_of after p) (owner_of s p)) ∷ [])
    ++ given (neg (group (owner_of s e)) ∷ neg (group (owner_of s o)) ∷ []) (equal (owner_of after p) (owner_of s p))
    ∷ []

-- null joins nothing
abbrev pub over_join : Term → Term → Term → Term → Look → List Formula
over_join after s o e (OwnerLook p) =
    given (where_equal e null_term) (equal (owner_of after p) (owner_of s p))
    ∷ where_different e null_term (joined_owners after s o e p)
    ++ kept_owners after s o e p
over_join after s o e look = same_over look after s []

-- what a new field or element of the sort has
abbrev pub default_term : Sort → Term
default_term sort.Whole = number (pos 0)
default_term sort.Truth = app (Fixed false) []
default_term sort.Rest = null_term
default_term sort.Store = null_term

-- the read of a term gives this at the new object, and else what it gave before
abbrev pub new_at : Look → Term → Term → Term → Term → Term → List Formula
new_at look after s p x new = given (where_equal p (next_of s)) (equal x new) ∷ where_different p (next_of s) (same_over look after s)

-- the atom has this sign at the new object, and else the truth that it had before
abbrev pub new_atom : Look → Term → Term → Term → Formula → List Formula
new_atom look after s p f = given (where_equal p (next_of s)) f ∷ where_different p (next_of s) (same_over look after s)

-- A new object has default fields and elements, the level t, isn't committed, and is ready or not; the rule on what is fresh speaks of
-- its owner, and the next reference is another one.
abbrev pub over_new : List ClassTree → Term → ℕ → (Formula → Formula) → Term → Look → List Formula
over_new cs after t is_ready s (FieldLook p f) = new_at (FieldLook p f) after s p (app (Field f) (after ∷ p ∷ [])) (default_term (field_sort cs f))
over_new cs after t is_ready s (ElementLook r a i) = new_at (ElementLook r a i) after s a (app (Element r) (after ∷ a ∷ i ∷ [])) (default_term r)
over_new cs after t is_ready s (LevelLook p) = new_at (LevelLook p) after s p (level_of after p) (class_term t)
over_new cs after t is_ready s (OwnerLook p) = where_different p (next_of s) (same_over (OwnerLook p) after s)
over_new cs after t is_ready s NextLook = differ (next_of after) (next_of s) ∷ []
over_new cs after t is_ready s (AllocatedLook p) =
    given (where_equal p (next_of s)) (allocated after p)
    ∷ given (allocated s p ∷ []) (allocated after p)
    ∷ where_different p (next_of s) (λ ps. given (ps ++ neg (allocated s p) ∷ []) (neg (allocated after p)) ∷ [])
over_new cs after t is_ready s (CommittedLook p) = new_atom (CommittedLook p) after s p (neg (committed after p))
over_new cs after t is_ready s (ReadyLook p) = new_atom (ReadyLook p) after s p (is_ready (ready after p))
over_new cs after t is_ready s (LengthLook a) = []

abbrev pub over_ready : Term → Term → Term → Look → List Formula
over_ready after s o (ReadyLook p) =
    given (where_equal p o) (ready after p)
    ∷ given (ready s p ∷ []) (ready after p)
    ∷ where_different p o (λ ps. given (ps ++ neg (ready s p) ∷ []) (neg (ready after p)) ∷ [])
over_ready after s o look = same_over look after s []

-- what the read gives over the store that this change makes of these arguments
abbrev pub over_change : List ClassTree → Look → Symbol → List Term → Option (List Formula)
over_change cs look (Set f) (s ∷ o ∷ v ∷ []) = Some (over_set (app (Set f) (s ∷ o ∷ v ∷ [])) f s o v look)
over_change cs look Put (s ∷ a ∷ i ∷ v ∷ []) = Some (over_put cs (app Put (s ∷ a ∷ i ∷ v ∷ [])) s a i v look)
over_change cs look (Unpack t) (s ∷ o ∷ []) = Some (over_unpack cs (app (Unpack t) (s ∷ o ∷ [])) t s o look)
over_change cs look (Pack t) (s ∷ o ∷ []) = Some (over_pack (app (Pack t) (s ∷ o ∷ [])) t s o look)
over_change cs look (Capture t) (s ∷ o ∷ e ∷ []) = Some (over_capture (app (Capture t) (s ∷ o ∷ e ∷ [])) t s o e look)
over_change cs look Join (s ∷ o ∷ e ∷ []) = Some (over_join (app Join (s ∷ o ∷ e ∷ [])) s o e look)
over_change cs look (New t) (s ∷ []) = Some (over_new cs (app (New t) (s ∷ [])) 0 neg s look)
over_change cs look (NewArray t) (s ∷ n ∷ []) = Some (over_new cs (app (NewArray t) (s ∷ n ∷ [])) t (λ f. f) s look)
over_change cs look MakeReady (s ∷ o ∷ []) = Some (over_ready (app MakeReady (s ∷ o ∷ [])) s o look)
over_change cs look f ts = None

-- a length is read in no store
abbrev pub reads_a_store : Look → Bool
reads_a_store (LengthLook a) = false
reads_a_store look = true

-- over a changed store
abbrev pub read_over : List ClassTree → Term → Option Look → Option Formula
read_over cs (App f ts) (Some look) =
    if reads_a_store look && is_look cs look && is_well_sorted cs [] (App f ts)
    then option_map all_of (over_change cs look f (term_list ts))
    else None
read_over cs s look = None

-- over a constant and the store that equals it
abbrev pub read_moved : List ClassTree → Term → Term → Option Look → Option Formula
read_moved cs s t (Some look) =
    when (reads_a_store look && is_look cs look && have_sorts cs (sort.Store ∷ sort.Store ∷ []) (s ∷ t ∷ [])) (all_of (same_over look s t (where_equal s t)))
read_moved cs s t None = None

abbrev pub is_constant_store : Term → Bool
is_constant_store (App (Constant sort.Store k) no_terms) = true
is_constant_store t = false

-- all but the last
abbrev pub without_last : List Term → List Term
without_last [] = []
without_last (t ∷ []) = []
without_last (t ∷ u ∷ ts) = t ∷ without_last (u ∷ ts)

abbrev pub last_of : List Term → Option Term
last_of [] = None
last_of (t ∷ []) = Some t
last_of (t ∷ u ∷ ts) = last_of (u ∷ ts)

-- the kind of read, the store, the read's other arguments, and where the store is a constant the store that equals it
abbrev pub read_instance : List ClassTree → List Term → Option Formula
read_instance cs [] = None
read_instance cs (kind ∷ []) = None
read_instance cs (kind ∷ s ∷ ts) =
    if is_constant_store s
    then option_and_then (λ t. read_moved cs s t (look_from kind (without_last ts))) (last_of ts)
    else read_over cs s (look_from kind ts)
