-- The method that an entry of a table names, and what the classes along its chain declare for it.
use Rattle.std.proofs.Common.{◌≡◌, ◌≢◌, ℕ, zero, suc, ◌+◌, ◌-◌, ◌*◌, ◌<◌, ◌≤◌, List, [], ◌∷◌, ◌++◌, length, map, Bool, true, false, Option, Some, None, refl, sym, ◌∙◌, ap, subst, arith, length-append, ⊎_elim}
use Rattle.std.specs.Prelude.{not, ◌||◌, slice_get, find, filter, option_and_then, if◌then◌else◌}
use Rattle.std.specs.List.{list_any, position_or_len}
use Rattle.std.specs.Str.{bytes_eq}
use Rattle.std.proofs.lemmas.Slice.Eq.{bytes_eq-Decides}
use Rattle.std.proofs.lemmas.Option.{same_Some, slice_get_within, slice_get_past}
use Rattle.std.proofs.lemmas.Bool.{cases_Bool, cases_lt, eq-eqb, ne_eqb, lt-ltb, false≢true}
use Rattle.std.proofs.lemmas.List.{length-map}
use Rattle.std.proofs.lemmas.List.Folds.{find_at}
use Rattle.std.specs.Option.{option_or}
use Rattle.ss_core.specs.Tree as core
use Rattle.ss_core.specs.Chain as chain
use Rattle.ss_core.specs.Chain.{declared}
use Rattle.ss_ast.specs.Programs.{ClassTree, ProgramTree}
use Rattle.ss_faults.specs.declared.Fault.{Fault}
use Rattle.ss_tables.specs.Members.{MethodTree, methods_in, method_in}
use Rattle.ss_tables.specs.Classes.{Declared, declared_in, members_in, members_at, above, steps_above, chain_from, first_method, inherited_method}
use Rattle.ss_tables.specs.Classes as tables
use Rattle.ss_typed.specs.Tree.{BodyTree, TypedTree}
use Rattle.ss_nonnull_rules.specs.Faults.{table_of}
use Rattle.ss_nonnull_rules.specs.Overrides as nulls
use Rattle.ss_nonnull_rules.specs.Overrides.{body_named, agrees_with, bad_override_type}
use Rattle.ss_nonnull_rules.specs.Program.{base_faults, body_faults, bodies_faults, classes_faults, null_faults}
use Rattle.ss_resolver_names_rules.specs.Programs.{program_faults}
use Rattle.ss_resolver_names_rules.specs.Faults.{is_listed}
use Rattle.ss_resolver_rules.specs.Numbers.{number_or_object, names_of, method_names, method_place, method_id, declared_entry, overridden, added, table_along, table}
use Rattle.ss_resolver_rules.specs.Programs.{method_body, resolved}
use Rattle.ss_expand_rules.specs.Program as program
use Rattle.ss_expand_rules.specs.Program.{method_at, is_declared_by}
use Rattle.ss_typed.specs.Lookups.{body_at}
use Rattle.ss_expand_rules.specs.Contracts.{where_declared, declared_at as declares, declarations}
use Rattle.ss_expand_formed.proofs.Facts.{none_left}
use Rattle.ss_expand_formed.proofs.Searching.{at_front, at_back, find_some, any_at, filtered_from}
use Rattle.ss_expand_formed.proofs.Places.{class_at, named_method, listed_methods}
use Rattle.ss_expand_formed.proofs.Entries.{map_from, append_from}
use Rattle.ss_expand_formed.proofs.Cycles.{above_within, walks_end}
use Rattle.ss_expand_formed.proofs.ChainLaw.{written_at, there_at, no_cycles}
use Rattle.ss_expand_formed.proofs.TableNames.{table_below}
use Rattle.ss_expand_formed.proofs.Levels.{above_at, declared_last, declarations_of_object, declarations_step}
use Rattle.ss_expand_formed.proofs.Members.{class_parts}
use Rattle.ss_expand_formed.proofs.Apart.{AreApart, apart_rest, table_apart}
use Rattle.ss_expand_formed.proofs.Readings.{reads_params, method_reads}
use Rattle.ss_expand_formed.proofs.Headings.{SameHeading, heading_through, heading_back, overrides_of, override_heading}

-- ---- lists

find_none : {X : Type 0} (test : X → Bool) (xs : List X) → list_any test xs ≡ false → find test xs ≡ None
find_none test [] h = refl
find_none test (x ∷ xs) h =
    ⊎_elim
    (λ yes. absurd (false≢true (sym (rw yes at h))))
    (λ no. rw no (find_none test xs (rw no at h)))
    (cases_Bool (test x))

pub name_at : (es : List core.EntryTree) (i : ℕ) (e : core.EntryTree) → slice_get es i ≡ Some e → slice_get (names_of es) i ≡ Some e.name
name_at [] i e h = absurd (let z : ⊥ = cc in z)
name_at (x ∷ es) zero e h = ap (λ (y : core.EntryTree). Some y.name) (same_Some _ _ h)
name_at (x ∷ es) (suc i) e h = name_at es i e h

-- the body of an entry is found under its name
named_there : (es : List core.EntryTree) (m : ℕ) (e : core.EntryTree) → AreApart (names_of es) → slice_get es m ≡ Some e → body_named es e.name ≡ Some e.body
named_there [] m e h at = absurd (let z : ⊥ = cc in z)
named_there (x ∷ es) zero e h at =
    let same : x ≡ e = same_Some _ _ at in
    let yes : bytes_eq e.name x.name ≡ true = ap (λ (y : core.EntryTree). bytes_eq e.name y.name) same ∙ (bytes_eq-Decides e.name e.name).1 refl in
    rw yes (ap (λ (y : core.EntryTree). Some y.body) same)
named_there (x ∷ es) (suc m) e h at =
    ⊎_elim
    (λ yes. absurd
    (let same = (bytes_eq-Decides e.name x.name).0 yes in
    let there : slice_get (names_of es) m ≡ Some e.name = name_at es m e at in
    let z : 0 ≡ suc m = h.apart 0 (suc m) e.name (ap Some (sym same)) there in
    let no : ⊥ = cc in
    no))
    (λ no. rw no (named_there es m e (apart_rest x.name (names_of es) h) at))
    (cases_Bool (bytes_eq e.name x.name))

body_none : (p : TypedTree) (bs : List BodyTree) (n : ℕ) (b : BodyTree) → bodies_faults p bs ≡ [] → slice_get bs n ≡ Some b → nulls.override_faults p b ≡ []
body_none p [] n b h e = absurd (let z : ⊥ = cc in z)
body_none p (x ∷ bs) zero b h e =
    let here : body_faults p x ≡ [] = (none_left (body_faults p x) (bodies_faults p bs) h).0 in
    let first = overrides_none p x here in
    ap (nulls.override_faults p) (sym (same_Some _ _ e)) ∙ first
  where
    overrides_none : (q : TypedTree) (y : BodyTree) → body_faults q y ≡ [] → nulls.override_faults q y ≡ []
    overrides_none q y g = left (nulls.override_faults q y) _ (left (nulls.override_faults q y ++ base_faults q y y.base) _ g)
      where
        left : (xs ys : List Fault) → xs ++ ys ≡ [] → xs ≡ []
        left xs ys k = (none_left xs ys k).0
body_none p (x ∷ bs) (suc n) b h e = body_none p bs n b (none_left (body_faults p x) (bodies_faults p bs) h).1 e

override_agrees : (p : TypedTree) (b : BodyTree) → b.flags.ctor ≡ false → nulls.override_faults p b ≡ [] → agrees_with b (nulls.overridden p b) ≡ true
override_agrees p b method h =
    ⊎_elim
    (λ yes. yes)
    (λ no. absurd
    (let f : Fault = record { rule = bad_override_type; place = b.place } in
    let bad : f ∷ [] ≡ [] = sym (ap (λ x. if x || agrees_with b (nulls.overridden p b) then [] else f ∷ []) method ∙ ap (λ x. if x then [] else f ∷ []) no) ∙ h in
    let z : ⊥ = cc in
    z))
    (cases_Bool (agrees_with b (nulls.overridden p b)))

module _ (p : ProgramTree) where
  -- ---- the first class along the chain that declares a method of the name

  pub record IsFirst (ks : List ℕ) (e : core.EntryTree) : Type 0 where
    pub class : ℕ
    pub tree : ClassTree
    pub method : MethodTree
    pub there : slice_get p.classes class ≡ Some tree
    pub is : body_at (resolved p) e.body ≡ Some (method_body p.classes class method)
    pub first : first_method p.classes e.name ks ≡ Some (record { class = class; member = method })

  -- what a class finds under a name that it lists
  pub record OwnMethod (k : ℕ) (c : ClassTree) (n : List ℕ) : Type 0 where
    pub method : MethodTree
    pub place : ℕ
    pub there : slice_get (methods_in c.members) place ≡ Some method
    pub named : n ≡ method.name.text
    pub found : method_in c.members n ≡ Some method
    pub is : body_at (resolved p) (method_id p.classes k n) ≡ Some (method_body p.classes k method)

  pub own_method : (k : ℕ) (c : ClassTree) → slice_get p.classes k ≡ Some c → (n : List ℕ) → is_listed (method_names c.members) n ≡ true → OwnMethod k c n
  own_method k c at n listed =
      let test = λ (m : MethodTree). bytes_eq n m.name.text in
      let xs = methods_in c.members in
      let any : list_any test xs ≡ true = sym (listed_methods c.members n) ∙ listed in
      let r = named_method p k c at n any in
      let f = find_some test xs any in
      let e : slice_get xs (position_or_len test xs) ≡ Some f.0 = sym (find_at test xs) ∙ f.1 in
      let l = slice_get_within xs (position_or_len test xs) f.0 e in
      let there : slice_get xs (method_place c.members n) ≡ Some f.0 = rw (lt-ltb (position_or_len test xs) (length xs) l) e in
      let same : f.0 ≡ r.0 = same_Some _ _ (sym there ∙ r.1) in
      record { method = r.0; place = method_place c.members n; there = r.1; named = (bytes_eq-Decides n r.0.name.text).0 r.2; found = f.1 ∙ ap Some same; is = r.3 }

  own_first : (k : ℕ) (ks : List ℕ) (n : List ℕ) (o : Option ClassTree) → slice_get p.classes k ≡ o → is_listed (method_names (members_in o)) n ≡ true → IsFirst (k ∷ ks) (declared_entry p.classes k n)
  own_first k ks n None is h = absurd (false≢true h)
  own_first k ks n (Some c) is h =
      let w = own_method k c is n h in
      let found : method_in (members_at p.classes k) n ≡ Some w.method = ap (λ (o : Option ClassTree). method_in (members_in o) n) is ∙ w.found in
      record { class = k; tree = c; method = w.method; there = is; is = w.is; first = ap (λ o. option_or (declared_in k o) (first_method p.classes n ks)) found }

  none_first : (k : ℕ) (ks : List ℕ) (n : List ℕ) → is_listed (method_names (members_at p.classes k)) n ≡ false → first_method p.classes n (k ∷ ks) ≡ first_method p.classes n ks
  none_first k ks n h =
      let none : method_in (members_at p.classes k) n ≡ None = find_none (λ (m : MethodTree). bytes_eq n m.name.text) (methods_in (members_at p.classes k)) (sym (listed_methods (members_at p.classes k) n) ∙ h) in
      ap (λ o. option_or (declared_in k o) (first_method p.classes n ks)) none

  overridden_first : (k : ℕ) (ks : List ℕ) (e : core.EntryTree) → IsFirst ks e → IsFirst (k ∷ ks) (overridden p.classes k e)
  overridden_first k ks e x =
      ⊎_elim
      (λ yes. rw yes (own_first k ks e.name (slice_get p.classes k) refl yes))
      (λ no. rw no (record { class = x.class; tree = x.tree; method = x.method; there = x.there; is = x.is; first = none_first k ks e.name no ∙ x.first }))
      (cases_Bool (is_listed (method_names (members_at p.classes k)) e.name))

  -- a method that the class lists, and that the table above doesn't
  pub added_is : (k : ℕ) (over : List core.EntryTree) (i : ℕ) (e : core.EntryTree) → slice_get (added p.classes k over) i ≡ Some e → (is_listed (method_names (members_at p.classes k)) e.name ≡ true) × (declared_entry p.classes k e.name ≡ e)
  added_is k over i e h =
      let names = method_names (members_at p.classes k) in
      let test = λ (x : List ℕ). not (is_listed (names_of over) x) in
      let q = map_from (declared_entry p.classes k) (filter test names) i e h in
      let f = filtered_from test names i q.0 q.1 in
      let listed = any_at (bytes_eq q.0) names f.0 q.0 f.1 ((bytes_eq-Decides q.0 q.0).1 refl) in
      (subst (λ (x : core.EntryTree). is_listed names x.name ≡ true) q.2 listed, subst (λ (x : core.EntryTree). declared_entry p.classes k x.name ≡ x) q.2 refl)

  pub first_of : (ks : List ℕ) (m : ℕ) (e : core.EntryTree) → slice_get (table_along p.classes ks) m ≡ Some e → IsFirst ks e
  first_of [] m e h = absurd (let z : ⊥ = cc in z)
  first_of (k ∷ ks) m e h =
      let over = table_along p.classes ks in
      ⊎_elim
      (λ l. let q = map_from (overridden p.classes k) over l.0 e l.1 in subst (IsFirst (k ∷ ks)) q.2 (overridden_first k ks q.0 (first_of ks l.0 q.0 q.1)))
      (λ r. let a = added_is k over r.0 e r.1 in subst (IsFirst (k ∷ ks)) a.1 (own_first k ks e.name (slice_get p.classes k) refl a.0))
      (append_from (map (overridden p.classes k) over) (added p.classes k over) m e h)

  -- ---- what a class declares at a place

  pub method_here : (k : ℕ) (c : ClassTree) → slice_get p.classes k ≡ Some c → (m : ℕ) (e : core.EntryTree) → slice_get (table p.classes k) m ≡ Some e → method_at (resolved p) (4 + 2 * k) m ≡ body_at (resolved p) e.body
  method_here k c at m e h =
      let in_table : slice_get (program.table (resolved p) (4 + 2 * k)) m ≡ Some e = ap (λ (o : Option core.ClassTree). slice_get (table_of o) m) (class_at p k c at) ∙ h in
      ap (option_and_then (λ (z : core.EntryTree). body_at (resolved p) z.body)) in_table

  declares_own : (t m : ℕ) (b : BodyTree) → method_at (resolved p) t m ≡ Some b → b.class ≡ t → declares (resolved p) m t ≡ Some b
  declares_own t m b h own = ap (where_declared t) h ∙ ap (λ x. if x then Some b else None) (eq-eqb b.class t own)

  declares_other : (t m : ℕ) (b : BodyTree) → method_at (resolved p) t m ≡ Some b → b.class ≢ t → declares (resolved p) m t ≡ None
  declares_other t m b h other = ap (where_declared t) h ∙ ap (λ x. if x then Some b else None) (ne_eqb b.class t other)

  declares_nothing : (k m : ℕ) (c : ClassTree) → slice_get p.classes k ≡ Some c → slice_get (table p.classes k) m ≡ None → declares (resolved p) m (4 + 2 * k) ≡ None
  declares_nothing k m c at h =
      let in_table : slice_get (program.table (resolved p) (4 + 2 * k)) m ≡ None = ap (λ (o : Option core.ClassTree). slice_get (table_of o) m) (class_at p k c at) ∙ h in
      ap (λ o. where_declared (4 + 2 * k) (option_and_then (λ (z : core.EntryTree). body_at (resolved p) z.body) o)) in_table

  -- ---- what holds of an entry of the table of class k

  abbrev pub IsLike : BodyTree → BodyTree → Type 0
  IsLike b x = SameHeading x b × (reads_params x ≡ true)

  abbrev pub AreLike : BodyTree → List BodyTree → Type 0
  AreLike b xs = (n : ℕ) (x : BodyTree) → slice_get xs n ≡ Some x → IsLike b x

  pub record IsInherited (k m : ℕ) (e : core.EntryTree) : Type 0 where
    pub class : ℕ
    pub tree : ClassTree
    pub method : MethodTree
    pub there : slice_get p.classes class ≡ Some tree
    pub listed : is_listed (method_names tree.members) e.name ≡ true
    pub is : body_at (resolved p) e.body ≡ Some (method_body p.classes class method)
    -- it stands at this place of the table of its class too
    pub in_class : slice_get (table p.classes class) m ≡ Some e
    -- the classes above declare these
    pub before : List BodyTree
    pub declared : declarations (resolved p) (4 + 2 * k) m ≡ before ++ method_body p.classes class method ∷ []
    pub own : declarations (resolved p) (4 + 2 * class) m ≡ before ++ method_body p.classes class method ∷ []
    pub alike : AreLike (method_body p.classes class method) before

  like_last : (b : BodyTree) (xs : List BodyTree) (x : BodyTree) → AreLike b xs → IsLike b x → AreLike b (xs ++ x ∷ [])
  like_last b [] x h g zero y e = subst (IsLike b) (same_Some _ _ e) g
  like_last b [] x h g (suc n) y e = absurd (let z : ⊥ = cc in z)
  like_last b (z ∷ xs) x h g zero y e = h 0 y e
  like_last b (z ∷ xs) x h g (suc n) y e = like_last b xs x (λ i w k. h (suc i) w k) g n y e

  none_alike : (b : BodyTree) → AreLike b []
  none_alike b n x e = absurd (let z : ⊥ = cc in z)

module _ (p : ProgramTree) (faultless : program_faults p ≡ []) where
  ends_at : (k : ℕ) → k < length p.classes → steps_above p.classes (length p.classes) (Some k) ≡ None
  ends_at k l = walks_end p.classes (no_cycles p faultless) k l

  pub table_of_below : (k j : ℕ) → k < length p.classes → above p.classes k ≡ Some j → table p.classes k ≡ map (overridden p.classes k) (table p.classes j) ++ added p.classes k (table p.classes j)
  table_of_below k j l e =
      let n = length p.classes - 1 in
      let more : length p.classes ≡ suc n = omega arith in
      table_below p.classes n k j more e (ends_at k l)

  -- of a class that is directly below `object`
  first_table : (n k : ℕ) → length p.classes ≡ suc n → above p.classes k ≡ None → table p.classes k ≡ added p.classes k []
  first_table zero k size over = ap (λ l. table_along p.classes (chain_from p.classes l (Some k))) size
  first_table (suc n) k size over = ap (λ l. table_along p.classes (chain_from p.classes l (Some k))) size ∙ ap (λ o. table_along p.classes (k ∷ chain_from p.classes (suc n) o)) over

  pub table_of_first : (k : ℕ) → k < length p.classes → above p.classes k ≡ None → table p.classes k ≡ added p.classes k []
  table_of_first k l e = let n = length p.classes - 1 in let more : length p.classes ≡ suc n = omega arith in first_table n k more e

  pub tree_at : (k : ℕ) → k < length p.classes → (c : ClassTree) × (slice_get p.classes k ≡ Some c)
  tree_at k l = let y = there_at p k l in let w = written_at p k y.0 y.1 in (w.tree, w.there)

  -- past the end of a table nothing is declared
  none_declared : (n k m : ℕ) → k < length p.classes → steps_above p.classes n (Some k) ≡ None → length (table p.classes k) ≤ m → declarations (resolved p) (4 + 2 * k) m ≡ []
  none_declared zero k m l ends past = absurd (let z : ⊥ = cc in z)
  none_declared (suc n) k m l ends past =
      let c = tree_at k l in
      let none = declares_nothing p k m c.0 c.1 (slice_get_past (table p.classes k) m past) in
      declarations_step p faultless k m l
      ∙ ap (λ o. declarations (resolved p) (number_or_object (above p.classes k)) m ++ declared_last o) none
      ∙ ap (λ bs. bs ++ []) (look (above p.classes k) refl (λ j w e q. none_declared n j m w e q) ends)
    where
      look : (o : Option ℕ) → above p.classes k ≡ o → ((j : ℕ) → j < length p.classes → steps_above p.classes n (Some j) ≡ None → length (table p.classes j) ≤ m → declarations (resolved p) (4 + 2 * j) m ≡ []) →
          steps_above p.classes n o ≡ None → declarations (resolved p) (number_or_object o) m ≡ []
      look None e rest h = declarations_of_object p m
      look (Some j) e rest h =
          let count = ap length (table_of_below k j l e) ∙ length-append (map (overridden p.classes k) (table p.classes j)) (added p.classes k (table p.classes j)) in
          let size = length-map (table p.classes j) (overridden p.classes k) in
          rest j (above_within p.classes k j e) h (omega arith)

module _ (p : ProgramTree) (faultless : program_faults p ≡ []) (no_nulls : null_faults (resolved p) ≡ []) where
  null_bodies : bodies_faults (resolved p) (resolved p).bodies ≡ []
  unfolding null_faults
  null_bodies = (none_left (classes_faults (resolved p) 0 (resolved p).members) (bodies_faults (resolved p) (resolved p).bodies) no_nulls).1

  -- the method of class k stands for the one that the table of the class above has under its name, and neither is static
  pub overrides_at : (k j : ℕ) (c : ClassTree) → slice_get p.classes k ≡ Some c → above p.classes k ≡ Some j → (m : ℕ) (e : core.EntryTree) → slice_get (table p.classes j) m ≡ Some e → (w : OwnMethod p k c e.name) → (b : BodyTree) → body_at (resolved p) e.body ≡ Some b →
      SameHeading (method_body p.classes k w.method) b × (b.flags.is_static ≡ false)
  overrides_at k j c at up m e h w b is =
      let mine = method_body p.classes k w.method in
      let f = first_of p (tables.chain p.classes j) m e h in
      let theirs = method_body p.classes f.class f.method in
      let same : theirs ≡ b = same_Some _ _ (sym f.is ∙ is) in
      let inherited : inherited_method p.classes k w.method.name.text ≡ Some (record { class = f.class; member = f.method }) =
      ap (λ n. first_method p.classes n (chain_from p.classes (length p.classes) (above p.classes k))) (sym w.named) ∙ ap (λ o. first_method p.classes e.name (chain_from p.classes (length p.classes) o)) up ∙ f.first in
      let over = overrides_of p.classes k (methods_in c.members) w.place w.method (record { class = f.class; member = f.method }) (class_parts p faultless k c at).overrides w.there inherited in
      let none = body_none (resolved p) (resolved p).bodies (method_id p.classes k e.name) mine null_bodies w.is in
      let agrees = override_agrees (resolved p) mine refl none in
      let d = tree_at p faultless j (above_within p.classes k j up) in
      let number : chain.above (resolved p).classes (4 + 2 * k) ≡ 4 + 2 * j = above_at p faultless k (slice_get_within p.classes k c at) ∙ ap number_or_object up in
      let found : nulls.overridden (resolved p) mine ≡ Some theirs =
      ap (λ t. option_and_then (slice_get (resolved p).bodies) (body_named (table_of (declared (resolved p).classes t)) w.method.name.text)) number
      ∙ ap (λ o. option_and_then (slice_get (resolved p).bodies) (body_named (table_of o) w.method.name.text)) (class_at p j d.0 d.1)
      ∙ ap (λ n. option_and_then (slice_get (resolved p).bodies) (body_named (table p.classes j) n)) (sym w.named)
      ∙ ap (option_and_then (slice_get (resolved p).bodies)) (named_there (table p.classes j) m e (table_apart p faultless j) h)
      ∙ f.is in
      let both = override_heading p faultless k f.class w.method f.method over (subst (λ o. agrees_with mine o ≡ true) found agrees) in
      (subst (SameHeading mine) same both.0, subst (λ (x : BodyTree). x.flags.is_static ≡ false) same both.1)

  -- ---- along the chain

  own_inherited : (k : ℕ) (c : ClassTree) → slice_get p.classes k ≡ Some c → (m : ℕ) (e : core.EntryTree) → slice_get (table p.classes k) m ≡ Some e → is_listed (method_names c.members) e.name ≡ true → declared_entry p.classes k e.name ≡ e → (w : OwnMethod p k c e.name) →
      (over : List BodyTree) → declarations (resolved p) (number_or_object (above p.classes k)) m ≡ over → AreLike p (method_body p.classes k w.method) over → IsInherited p k m e
  own_inherited k c at m e h listed is w over above_is alike =
      let b = method_body p.classes k w.method in
      let body : body_at (resolved p) e.body ≡ Some b = ap (λ (x : core.EntryTree). body_at (resolved p) x.body) (sym is) ∙ w.is in
      let here = declares_own p (4 + 2 * k) m b (method_here p k c at m e h ∙ body) refl in
      let all : declarations (resolved p) (4 + 2 * k) m ≡ over ++ b ∷ [] = declarations_step p faultless k m (slice_get_within p.classes k c at) ∙ ap (λ bs. bs ++ declared_last (declares (resolved p) m (4 + 2 * k))) above_is ∙ ap (λ o. over ++ declared_last o) here in
      record { class = k; tree = c; method = w.method; there = at; listed = listed; is = body; in_class = h; before = over; declared = all; own = all; alike = alike }

  -- the class has what the class above has
  kept : (k j : ℕ) (c : ClassTree) → slice_get p.classes k ≡ Some c → above p.classes k ≡ Some j → (m : ℕ) (e : core.EntryTree) → slice_get (table p.classes k) m ≡ Some e → is_listed (method_names c.members) e.name ≡ false → IsInherited p j m e → IsInherited p k m e
  kept k j c at up m e h other x =
      let b = method_body p.classes x.class x.method in
      let apart : b.class ≢ 4 + 2 * k = λ same.
      let number : x.class ≡ k = omega arith in
      let tree : x.tree ≡ c = same_Some _ _ (sym x.there ∙ ap (slice_get p.classes) number ∙ at) in
      false≢true (sym other ∙ subst (λ (t : ClassTree). is_listed (method_names t.members) e.name ≡ true) tree x.listed) in
      let none = declares_other p (4 + 2 * k) m b (method_here p k c at m e h ∙ x.is) apart in
      let over : declarations (resolved p) (number_or_object (above p.classes k)) m ≡ x.before ++ b ∷ [] = ap (λ o. declarations (resolved p) (number_or_object o) m) up ∙ x.declared in
      let all : declarations (resolved p) (4 + 2 * k) m ≡ x.before ++ b ∷ [] = declarations_step p faultless k m (slice_get_within p.classes k c at) ∙ ap (λ bs. bs ++ declared_last (declares (resolved p) m (4 + 2 * k))) over ∙ ap (λ o. (x.before ++ b ∷ []) ++ declared_last o) none ∙ nothing_after (x.before ++ b ∷ []) in
      record { class = x.class; tree = x.tree; method = x.method; there = x.there; listed = x.listed; is = x.is; in_class = x.in_class; before = x.before; declared = all; own = x.own; alike = x.alike }
    where
      nothing_after : (xs : List BodyTree) → xs ++ [] ≡ xs
      nothing_after [] = refl
      nothing_after (y ∷ ys) = ap (λ zs. y ∷ zs) (nothing_after ys)

  -- it has a method of its own in its place
  replaced : (k j : ℕ) (c : ClassTree) → slice_get p.classes k ≡ Some c → above p.classes k ≡ Some j → (m : ℕ) (e x : core.EntryTree) → slice_get (table p.classes k) m ≡ Some x → slice_get (table p.classes j) m ≡ Some e → declared_entry p.classes k e.name ≡ x →
      is_listed (method_names c.members) e.name ≡ true → IsInherited p j m e → IsInherited p k m x
  replaced k j c at up m e x h g is listed i =
      let w = own_method p k c at e.name listed in
      let old = method_body p.classes i.class i.method in
      let new = method_body p.classes k w.method in
      let head = heading_back new old (overrides_at k j c at up m e g w old i.is).0 in
      let over : declarations (resolved p) (number_or_object (above p.classes k)) m ≡ i.before ++ old ∷ [] = ap (λ o. declarations (resolved p) (number_or_object o) m) up ∙ i.declared in
      subst (IsInherited p k m) is
      (own_inherited k c at m (declared_entry p.classes k e.name) (h ∙ ap Some (sym is)) listed refl w (i.before ++ old ∷ []) over
      (like_last p new i.before old (λ n y q. let l = i.alike n y q in (heading_through y old new l.0 head, l.1)) (head, method_reads p.classes i.class i.method)))

  pub inherited_of : (n k : ℕ) → k < length p.classes → steps_above p.classes n (Some k) ≡ None → (m : ℕ) (e : core.EntryTree) → slice_get (table p.classes k) m ≡ Some e → IsInherited p k m e
  inherited_of zero k l ends m e h = absurd (let z : ⊥ = cc in z)
  inherited_of (suc n) k l ends m e h = look (above p.classes k) refl (λ j w q x g. inherited_of n j w q m x g) ends
    where
      c : ClassTree
      c = (tree_at p faultless k l).0

      at : slice_get p.classes k ≡ Some c
      at = (tree_at p faultless k l).1

      listed_here : (x : List ℕ) (b : Bool) → is_listed (method_names (members_at p.classes k)) x ≡ b → is_listed (method_names c.members) x ≡ b
      listed_here x b g = subst (λ (o : Option ClassTree). is_listed (method_names (members_in o)) x ≡ b) at g

      -- what the class adds
      new : (over : List core.EntryTree) (i : ℕ) → slice_get (added p.classes k over) i ≡ Some e → declarations (resolved p) (number_or_object (above p.classes k)) m ≡ [] → IsInherited p k m e
      new over i g none =
          let a = added_is p k over i e g in
          let listed = listed_here e.name true a.0 in
          let w = own_method p k c at e.name listed in
          own_inherited k c at m e h listed a.1 w [] none (none_alike p (method_body p.classes k w.method))

      look : (o : Option ℕ) → above p.classes k ≡ o → ((j : ℕ) → j < length p.classes → steps_above p.classes n (Some j) ≡ None → (x : core.EntryTree) → slice_get (table p.classes j) m ≡ Some x → IsInherited p j m x) → steps_above p.classes n o ≡ None → IsInherited p k m e
      look None up rest q = new [] m (ap (λ es. slice_get es m) (sym (table_of_first p faultless k l up)) ∙ h) (ap (λ o. declarations (resolved p) (number_or_object o) m) up ∙ declarations_of_object p m)
      look (Some j) up rest q =
          let within = above_within p.classes k j up in
          let over = table p.classes j in
          let xs = map (overridden p.classes k) over in
          let size : length xs ≡ length over = length-map over (overridden p.classes k) in
          let g : slice_get (xs ++ added p.classes k over) m ≡ Some e = ap (λ es. slice_get es m) (sym (table_of_below p faultless k j l up)) ∙ h in
          ⊎_elim
          (λ front.
          let r = map_from (overridden p.classes k) over m e (sym (at_front xs (added p.classes k over) m (omega arith)) ∙ g) in
          let i = rest j within q r.0 r.1 in
          ⊎_elim
          (λ yes. replaced k j c at up m r.0 e h r.1 ((rw yes at r.2)) (listed_here r.0.name true yes) i)
          (λ no. let same : r.0 ≡ e = (rw no at r.2) in kept k j c at up m e h (listed_here e.name false (subst (λ (y : core.EntryTree). is_listed (method_names (members_at p.classes k)) y.name ≡ false) same no)) (subst (IsInherited p j m) same i))
          (cases_Bool (is_listed (method_names (members_at p.classes k)) r.0.name)))
          (λ back.
          let place : m ≡ length xs + (m - length xs) = omega arith in
          new over (m - length xs) (sym (at_back xs (added p.classes k over) (m - length xs)) ∙ ap (slice_get (xs ++ added p.classes k over)) (sym place) ∙ g)
          (ap (λ o. declarations (resolved p) (number_or_object o) m) up ∙ none_declared p faultless n j m within q back))
          (cases_lt m (length over))

  pub inherited_at : (k : ℕ) → k < length p.classes → (m : ℕ) (e : core.EntryTree) → slice_get (table p.classes k) m ≡ Some e → IsInherited p k m e
  inherited_at k l m e h = inherited_of (length p.classes) k l (ends_at p faultless k l) m e h
