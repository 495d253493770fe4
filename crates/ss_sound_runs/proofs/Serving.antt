-- The method that an object's class has in place of another stands for that, and says nothing of the level of another class.
use Rattle.std.proofs.Common.{◌≡◌, ℕ, zero, suc, ◌+◌, ◌-◌, ◌≤◌, List, [], ◌∷◌, length, map, take, drop, true, false, not, ◌||◌, Option, Some, None, eqb, inl, inr, ◌⊎◌, refl, sym, ◌∙◌, ap, subst, arith, ⊎_elim}
use Rattle.std.specs.Prelude.{slice_get, is_some, option_and_then}
use Rattle.std.proofs.lemmas.Bool.{false≢true, true≢false, and_parts, or_cases, cases_Bool, cases_lt, eqb-true}
use Rattle.std.proofs.lemmas.List.{length-map}
use Rattle.std.proofs.lemmas.Option.{slice_get_within}
use Rattle.ss_core.specs.Tree.{ClassTree, EntryTree, BodyTree, CoreTree}
use Rattle.ss_core.specs.Chain.{is_declared, declared, above, below}
use Rattle.ss_core.proofs.Chains.{below_up, induct_up, object_below}
use Rattle.ss_core.proofs.Declared.{is_declared-declared, above_undeclared}
use Rattle.ss_store_rules.specs.Typed.{body_at, is_instance_method, table, table_of, method_at}
use Rattle.ss_store_rules.specs.Tables.{StandsFor, is_shared, is_method, is_method_of, table_above, Replaces, Shared, Overrides}
use Rattle.ss_store_rules.specs.Formed.{IsFormed}
use Rattle.ss_store_rules.proofs.Overrides.{StandsFor-refl, StandsFor-trans}
use Rattle.ss_store_rules.proofs.Owners.{not_true}
use Rattle.ss_machine_typed.proofs.Older.{there_is}
use Rattle.ss_machine_typed.proofs.Slots.{all_at}
use Rattle.ss_sound_runs.specs.Served.{Serves}
use Rattle.ss_sound_runs.proofs.Naming.{drop_get}

empty_table : (o : Option ClassTree) (m : ℕ) (e : EntryTree) → is_some o ≡ false → slice_get (table_of o) m ≡ Some e → ⊥
empty_table None m e none h = cc
empty_table (Some y) m e none h = true≢false none

-- a class with an entry is declared
has_entry : (cs : List ClassTree) (t m : ℕ) (e : EntryTree) → slice_get (table cs t) m ≡ Some e → is_declared cs t ≡ true
has_entry cs t m e h = ⊎_elim (λ yes_. yes_) (λ no_. absurd (empty_table (declared cs t) m e (sym (is_declared-declared cs t) ∙ no_) h)) (cases_Bool (is_declared cs t))

unlisted : (cs : List ClassTree) (d : ℕ) (o : Option ClassTree) → declared cs d ≡ o → is_some o ≡ false → above cs d ≡ 0
unlisted cs d None e h = above_undeclared cs d e
unlisted cs d (Some y) e h = absurd (true≢false h)

above_unlisted : (cs : List ClassTree) (d : ℕ) → is_declared cs d ≡ false → above cs d ≡ 0
above_unlisted cs d undeclared = unlisted cs d (declared cs d) refl (sym (is_declared-declared cs d) ∙ undeclared)

-- the entry and the body of a method
entry_of : (c : CoreTree) (o : Option EntryTree) (b : BodyTree) → option_and_then (λ (z : EntryTree). body_at c z.body) o ≡ Some b → (e : EntryTree) × (o ≡ Some e) × (body_at c e.body ≡ Some b)
entry_of c None b h = absurd (let no : ⊥ = cc in no)
entry_of c (Some e) b h = (e, refl, h)

method_of : (cs : List ClassTree) (t : ℕ) (e : EntryTree) (o : Option BodyTree) → is_method cs t e o ≡ true → (b : BodyTree) × (o ≡ Some b) × (b.flags.ctor ≡ false) × (below cs t b.class ≡ true)
method_of cs t e None h = absurd (false≢true h)
method_of cs t e (Some b) h =
    let p = and_parts _ (below cs t b.class) h in
    let q = and_parts _ (not b.flags.ctor) p.0 in
    (b, refl, not_true b.flags.ctor q.1, p.1)

long_enough : (xs : List EntryTree) (n : ℕ) → length (take n xs) ≡ n → n ≤ length xs
long_enough xs zero h = omega arith
long_enough [] (suc n) h = absurd (omega (arith, h))
long_enough (x ∷ xs) (suc n) h = let r = long_enough xs n (omega (arith, h)) in omega (arith, r)

module _ (c : CoreTree) (formed : IsFormed c) where
  -- what stands at a place of a table
  at_place : (t m : ℕ) (e : EntryTree) → slice_get (table c.classes t) m ≡ Some e → (b : BodyTree) × (body_at c e.body ≡ Some b) × (b.flags.ctor ≡ false) × (below c.classes t b.class ≡ true)
  at_place t m e h =
      let tab = formed.tables t (has_entry c.classes t m e h) in
      method_of c.classes t e (body_at c e.body) (all_at (λ z. is_method c.classes t z (body_at c z.body)) (table c.classes t) m e tab.methods h)

  same_body : (n k : ℕ) (a b : BodyTree) → n ≡ k → body_at c n ≡ Some a → body_at c k ≡ Some b → a ≡ b
  same_body n k a b is at to = let both : Some a ≡ Some b = sym at ∙ ap (body_at c) is ∙ to in cc

  shared_or_static : (b : BodyTree) → b.flags.is_static ≡ false → (b.flags.is_static || is_shared b) ≡ true → is_shared b ≡ true
  shared_or_static b instance_ h = ⊎_elim (λ static. absurd (true≢false (sym static ∙ instance_))) (λ is. is) (or_cases b.flags.is_static (is_shared b) h)

  replaced_own : (t : ℕ) (old new : EntryTree) (from to : BodyTree) → body_at c old.body ≡ Some from → body_at c new.body ≡ Some to → to.flags.is_static ≡ false → Replaces t old new from to → (to.class ≡ t) ⊎ (is_shared to ≡ true)
  replaced_own t old new from to eo en instance_ (Shared same shared) =
      let is = same_body new.body old.body to from same en eo in
      inr (shared_or_static to instance_ (subst (λ (b : BodyTree). (b.flags.is_static || is_shared b) ≡ true) (sym is) shared))
  replaced_own t old new from to eo en instance_ (Overrides own was_instance stands) = inl own

  method_own : (t : ℕ) (b : BodyTree) (o : Option BodyTree) → o ≡ Some b → is_method_of t o ≡ true → b.class ≡ t
  method_own t b None e h = absurd (false≢true h)
  method_own t b (Some d) e h = let is : d ≡ b = cc in subst (λ (z : BodyTree). z.class ≡ t) is (eqb-true d.class t h)

  -- a method in the table of a class is of it, or says nothing of level 1
  own_or_shared : (t m : ℕ) (e : EntryTree) (b : BodyTree) → slice_get (table c.classes t) m ≡ Some e → body_at c e.body ≡ Some b → b.flags.is_static ≡ false → (b.class ≡ t) ⊎ (is_shared b ≡ true)
  own_or_shared t m e b h at instance_ =
      let tab = formed.tables t (has_entry c.classes t m e h) in
      let n = length (table_above c t) in
      ⊎_elim
      (λ before.
      let old = there_is (table_above c t) m before in
      let from = at_place (above c.classes t) m old.0 old.1 in
      replaced_own t old.0 e from.0 b from.1 at instance_ (tab.inherited m old.0 e from.0 b old.1 h from.1 at))
      (λ behind.
      let place : n + (m - n) ≡ m = omega (arith, behind) in
      let there = drop_get n (table c.classes t) (m - n) ∙ ap (slice_get (table c.classes t)) place ∙ h in
      inl (method_own t b (body_at c e.body) at (all_at (λ z. is_method_of t (body_at c z.body)) (drop n (table c.classes t)) (m - n) e tab.own there)))
      (cases_lt m n)

  -- ---- down the chain

  abbrev HasFor : ℕ → ℕ → BodyTree → Type 0
  HasFor m d from = (to : BodyTree) × (method_at c d m ≡ Some to) × StandsFor from to

  replaced_for : (t : ℕ) (old new : EntryTree) (from to : BodyTree) → body_at c old.body ≡ Some from → body_at c new.body ≡ Some to → Replaces t old new from to → StandsFor from to
  replaced_for t old new from to eo en (Shared same shared) = subst (StandsFor from) (sym (same_body new.body old.body to from same en eo)) (StandsFor-refl from)
  replaced_for t old new from to eo en (Overrides own was_instance stands) = stands

  for_below : (t m : ℕ) (from : BodyTree) → is_declared c.classes t ≡ true → HasFor m (above c.classes t) from → HasFor m t from
  for_below t m from declares f =
      let tab = formed.tables t declares in
      let n = length (table_above c t) in
      let old = entry_of c (slice_get (table_above c t) m) f.0 f.1 in
      let within = slice_get_within (table_above c t) m old.0 old.1 in
      let names : length (map (λ (e : EntryTree). e.name) (take n (table c.classes t))) ≡ length (map (λ (e : EntryTree). e.name) (table_above c t)) = ap length tab.names in
      let long = long_enough (table c.classes t) n (sym (length-map (take n (table c.classes t)) (λ (e : EntryTree). e.name)) ∙ names ∙ length-map (table_above c t) (λ (e : EntryTree). e.name)) in
      let new = there_is (table c.classes t) m (omega (arith, within, long)) in
      let to = at_place t m new.0 new.1 in (
        to.0,
        ap (option_and_then (λ (z : EntryTree). body_at c z.body)) new.1 ∙ to.1,
        StandsFor-trans from f.0 to.0 f.2 (replaced_for t old.0 new.0 f.0 to.0 old.2 to.1 (tab.inherited m old.0 new.0 f.0 to.0 old.1 new.1 old.2 to.1)),
      )

  for_up : (t m : ℕ) (from : BodyTree) → is_declared c.classes t ≡ true → method_at c t m ≡ Some from → (d : ℕ) → below c.classes d t ≡ true → HasFor m d from
  for_up t m from declares h = induct_up c.classes formed.chain (λ d. below c.classes d t ≡ true → HasFor m d from)
      (λ b. absurd (true≢false (sym declares ∙ ap (is_declared c.classes) (object_below c.classes t b))))
      (λ d nz up b. ⊎_elim
      (λ own. subst (λ n. HasFor m n from) (sym (eqb-true d t own)) (from, h, StandsFor-refl from))
      (λ higher. ⊎_elim
      (λ is. for_below d m from is (up higher))
      (λ none. absurd (true≢false (sym declares ∙ ap (is_declared c.classes) (object_below c.classes t (subst (λ n. below c.classes n t ≡ true) (above_unlisted c.classes d none) higher)))))
      (cases_Bool (is_declared c.classes d)))
      (or_cases (eqb d t) (below c.classes (above c.classes d) t) (sym (below_up c.classes formed.chain d t nz) ∙ b)))

  pub serves : (t m : ℕ) (from : BodyTree) → method_at c t m ≡ Some from → is_instance_method from ≡ true → (d : ℕ) → below c.classes d t ≡ true → (to : BodyTree) × (method_at c d m ≡ Some to) × Serves c d from to
  serves t m from h instance_ d b =
      let e = entry_of c (slice_get (table c.classes t) m) from h in
      let f = for_up t m from (has_entry c.classes t m e.0 e.1) h d b in
      let entry = entry_of c (slice_get (table c.classes d) m) f.0 f.1 in
      let at = at_place d m entry.0 entry.1 in
      let is = same_body entry.0.body entry.0.body at.0 f.0 refl at.1 entry.2 in
      let p = and_parts (not from.flags.is_static) (not from.flags.ctor) instance_ in
      let from_instance = not_true from.flags.is_static p.0 in (
        f.0,
        f.1,
        record {
          from_formed = formed.bodies e.0.body from e.2;
          to_formed = formed.bodies entry.0.body f.0 entry.2;
          instance = from_instance;
          from_plain = not_true from.flags.ctor p.1;
          to_plain = subst (λ (z : BodyTree). z.flags.ctor ≡ false) is at.2;
          class = subst (λ (z : BodyTree). below c.classes d z.class ≡ true) is at.3;
          stands = f.2;
          own = own_or_shared d m entry.0 f.0 entry.1 entry.2 (f.2.static ∙ from_instance);
        },
      )
