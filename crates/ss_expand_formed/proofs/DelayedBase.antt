-- The constructor above a delayed one is delayed.
use Rattle.std.proofs.Common.{◌≡◌, ℕ, zero, suc, ◌+◌, ◌*◌, ◌<◌, List, [], ◌∷◌, ◌++◌, length, Bool, true, false, Option, Some, None, refl, sym, ◌∙◌, ap, subst, arith, inl, inr, ◌⊎◌, ⊎_elim}
use Rattle.std.specs.Prelude.{not, ◌&&◌, ◌||◌, ◌==◌, slice_get, is_none, find, filter_map, option_map, option_and_then, if◌then◌else◌}
use Rattle.std.specs.List.{cons_option}
use Rattle.std.proofs.lemmas.Option.{same_Some, slice_get_within}
use Rattle.std.proofs.lemmas.Bool.{cases_Bool, and_parts, or_right}
use Rattle.ss_core.specs.declared.names.Place.{Place}
use Rattle.ss_core.specs.Tree as core
use Rattle.ss_core.specs.Chain as chain
use Rattle.ss_core.specs.Chain.{declared}
use Rattle.ss_ast.specs.Programs.{ClassTree, ProgramTree}
use Rattle.ss_tables.specs.Members.{ConstructorTree, constructors_in}
use Rattle.ss_tables.specs.Classes.{above}
use Rattle.ss_typed.specs.Tree.{BodyTree, MembersTree}
use Rattle.ss_resolver_rules.specs.Numbers.{number_or_object}
use Rattle.ss_resolver_rules.specs.Programs.{constructor_body, class, members, resolved}
use Rattle.ss_resolver_rules.specs.Programs as resolver
use Rattle.ss_resolver_names_rules.specs.Programs.{program_faults}
use Rattle.ss_typed.specs.Lookups.{body_at, constructor_in, constructor_of, members_of}
use Rattle.ss_paths.specs.Assigned.{assigned_by_initializers}
use Rattle.ss_delayed_rules.specs.Escapes.{ForFields, NotAtAll, uses_each, uses_in, uses_in_all}
use Rattle.ss_delayed_rules.specs.Constructors as delayed
use Rattle.ss_typed.specs.Constructors.{is_delayed_body}
use Rattle.ss_delayed_rules.specs.Constructors.{escapes, unassigned_faults, base_faults, base_not_delayed, arguments_of, end_faults, delayed_faults, undelayed_faults, constructor_faults}
use Rattle.ss_delayed_rules.specs.Program.{initializers_faults, implied_faults, classes_faults, body_faults, bodies_faults, construction_faults}
use Rattle.ss_expand_rules.specs.Program.{table, Origin, Constructor, bodies, same_origin}
use Rattle.ss_expand_rules.specs.Elaborated.{implicit_in, or_implicit, constructor_alone, body_of}
use Rattle.ss_store_rules.specs.Typed.{is_constructor_of}
use Rattle.ss_store_rules.specs.Typed as store
use Rattle.ss_store_rules.specs.Construction.{is_delayed_constructor, has_delayed_base, if_delayed}
use Rattle.ss_expand_formed.specs.Laws.{core_of, HaveDelayedBase}
use Rattle.ss_expand_formed.proofs.Facts.{none_left}
use Rattle.ss_expand_formed.proofs.Searching.{find_some}
use Rattle.ss_expand_formed.proofs.Places.{source_of, each_at, members_at, class_at, constructor_at}
use Rattle.ss_expand_formed.proofs.Bodies.{IsMade, WrittenConstructor, ImplicitConstructor, WrittenMethod, Wrapper, origin_of}
use Rattle.ss_expand_formed.proofs.Numbered.{OfClass, listed, same_is}
use Rattle.ss_expand_formed.proofs.Resolved.{method_is}
use Rattle.ss_expand_formed.proofs.Heads.{have_flags, have_classes}
use Rattle.ss_expand_formed.proofs.ClassConstructors.{each_kind, place_of_declared}
use Rattle.ss_expand_formed.proofs.Cycles.{above_within}
use Rattle.ss_expand_formed.proofs.ChainLaw.{size, up}

-- ---- the constructor of a class

find-filter_map : {X Y : Type 0} (f : X → Option Y) (test : Y → Bool) (was : X → Bool) (xs : List X) → ((n : ℕ) (x : X) → slice_get xs n ≡ Some x → (y : Y) × (f x ≡ Some y) × (test y ≡ was x)) → find test (filter_map f xs) ≡ option_and_then f (find was xs)
find-filter_map f test was [] all = refl
find-filter_map f test was (x ∷ xs) all =
    let r = all 0 x refl in
    let rest = find-filter_map f test was xs (λ n z h. all (suc n) z h) in
    ⊎_elim
    (λ yes. let same : test r.0 ≡ true = r.2 ∙ yes in ap (λ o. find test (cons_option o (filter_map f xs))) r.1 ∙ ap (λ b. if b then Some r.0 else find test (filter_map f xs)) same ∙ sym r.1 ∙ ap (λ b. option_and_then f (if b then Some x else find was xs)) (sym yes))
    (λ other. let same : test r.0 ≡ false = r.2 ∙ other in ap (λ o. find test (cons_option o (filter_map f xs))) r.1 ∙ ap (λ b. if b then Some r.0 else find test (filter_map f xs)) same ∙ rest ∙ ap (λ b. option_and_then f (if b then Some x else find was xs)) (sym other))
    (cases_Bool (was x))

-- the first tree among the classes
tree_at : (cs : List ClassTree) (k : ℕ) → k < length cs → (c : ClassTree) × (slice_get cs k ≡ Some c)
tree_at [] k l = absurd (omega arith)
tree_at (c ∷ cs) zero l = (c, refl)
tree_at (c ∷ cs) (suc k) l = tree_at cs k (omega arith)

module _ (p : ProgramTree) (faultless : program_faults p ≡ []) where
  constructor_found : (j : ℕ) (c : ClassTree) → slice_get p.classes j ≡ Some c → store.constructor_of (core_of p) (4 + 2 * j) ≡ body_of (resolved p) (Constructor (4 + 2 * j))
  constructor_found j c at =
      let o = Constructor (4 + 2 * j) in
      let f = find_some (same_origin o) (bodies (resolved p)) (listed (resolved p) o (OfClass (class_at p j c at))) in
      find-filter_map (body_of (resolved p)) (is_constructor_of (4 + 2 * j)) (same_origin o) (bodies (resolved p)) (each_kind p (4 + 2 * j))
      ∙ ap (option_and_then (body_of (resolved p))) (f.1 ∙ ap Some (same_is o f.0 f.2))

  by_written : (j : ℕ) (c : ClassTree) → slice_get p.classes j ≡ Some c → (ds : List ConstructorTree) → constructors_in c.members ≡ ds →
      is_delayed_constructor (option_map (constructor_alone (resolved p)) (or_implicit (resolved p) (4 + 2 * j) (option_and_then (slice_get (resolved p).bodies) (resolver.written_constructor p.classes j ds)))) ≡ is_delayed_body (option_and_then (slice_get (resolved p).bodies) (resolver.written_constructor p.classes j ds))
  by_written j c at [] is =
      let t = 4 + 2 * j in
      ap (λ o. is_delayed_constructor (option_map (constructor_alone (resolved p)) (implicit_in t o (members_of (resolved p) t)))) (class_at p j c at)
      ∙ ap (λ o. is_delayed_constructor (option_map (constructor_alone (resolved p)) (implicit_in t (Some (class p.classes j c)) o))) (members_at p j c at)
  by_written j c at (d ∷ ds) is =
      let b = constructor_at p j c at d ds is in
      ap (λ o. is_delayed_constructor (option_map (constructor_alone (resolved p)) (or_implicit (resolved p) (4 + 2 * j) o))) b ∙ ap is_delayed_body (sym b)

  -- it is delayed where the phase of construction takes it so
  same_delayed : (j : ℕ) (c : ClassTree) → slice_get p.classes j ≡ Some c → (ds : List ConstructorTree) → constructors_in c.members ≡ ds → is_delayed_constructor (body_of (resolved p) (Constructor (4 + 2 * j))) ≡ is_delayed_body (constructor_of (resolved p) (4 + 2 * j))
  same_delayed j c at ds is =
      let t = 4 + 2 * j in
      let ours : constructor_of (resolved p) t ≡ option_and_then (slice_get (resolved p).bodies) (resolver.written_constructor p.classes j ds) =
      ap (constructor_in (resolved p)) (members_at p j c at) ∙ ap (λ xs. option_and_then (slice_get (resolved p).bodies) (resolver.written_constructor p.classes j xs)) is in
      ap (λ o. is_delayed_constructor (option_map (constructor_alone (resolved p)) (or_implicit (resolved p) t o))) ours ∙ by_written j c at ds is ∙ ap is_delayed_body (sym ours)

  -- where the phase has no fault of the constructor above
  base_delayed : (k : ℕ) → k < length p.classes → (o : Option ℕ) → above p.classes k ≡ o → is_delayed_body (constructor_of (resolved p) (number_or_object o)) ≡ true →
      (number_or_object o == 0 || is_delayed_constructor (store.constructor_of (core_of p) (number_or_object o))) ≡ true
  base_delayed k l None e h = refl
  base_delayed k l (Some j) e h =
      let c = tree_at p.classes j (above_within p.classes k j e) in
      or_right (4 + 2 * j == 0) _ (ap is_delayed_constructor (constructor_found j c.0 c.1) ∙ same_delayed j c.0 c.1 (constructors_in c.0.members) refl ∙ h)

  no_base_fault : (t : ℕ) (q : Place) → base_faults (resolved p) t q ≡ [] → is_delayed_body (constructor_of (resolved p) (chain.above (resolved p).classes t)) ≡ true
  no_base_fault t q h =
      ⊎_elim
      (λ yes. yes)
      (λ other. absurd (let bad : delayed.at base_not_delayed q ∷ [] ≡ [] = rw other at h in let z : ⊥ = cc in z))
      (cases_Bool (is_delayed_body (constructor_of (resolved p) (chain.above (resolved p).classes t))))

  -- a class without such a fault
  class_base : (k : ℕ) → k < length p.classes → (q : Place) → base_faults (resolved p) (4 + 2 * k) q ≡ [] →
      (chain.above (core_of p).classes (4 + 2 * k) == 0 || is_delayed_constructor (store.constructor_of (core_of p) (chain.above (core_of p).classes (4 + 2 * k)))) ≡ true
  class_base k l q h =
      let c = tree_at p.classes k l in
      let over : chain.above (resolved p).classes (4 + 2 * k) ≡ number_or_object (above p.classes k) = ap chain.above_of (class_at p k c.0 c.1) in
      let d = subst (λ u. is_delayed_body (constructor_of (resolved p) u) ≡ true) over (no_base_fault (4 + 2 * k) q h) in
      subst (λ u. (u == 0 || is_delayed_constructor (store.constructor_of (core_of p) u)) ≡ true) (sym (up p faultless k l)) (base_delayed k l (above p.classes k) refl d)

  -- ---- faults of construction

  body_none : (bs : List BodyTree) (n : ℕ) (b : BodyTree) → bodies_faults (resolved p) bs ≡ [] → slice_get bs n ≡ Some b → body_faults (resolved p) b ≡ []
  body_none [] n b h e = absurd (let z : ⊥ = cc in z)
  body_none (x ∷ bs) zero b h e = ap (body_faults (resolved p)) (sym (same_Some _ _ e)) ∙ (none_left (body_faults (resolved p) x) (bodies_faults (resolved p) bs) h).0
  body_none (x ∷ bs) (suc n) b h e = body_none bs n b (none_left (body_faults (resolved p) x) (bodies_faults (resolved p) bs) h).1 e

  written_base : (b : BodyTree) → body_faults (resolved p) b ≡ [] → b.flags.ctor ≡ true → b.flags.delayed ≡ true → base_faults (resolved p) b.class b.place ≡ []
  written_base b h ctor late =
      let whole : constructor_faults (resolved p) b ≡ [] = rw ctor at h in
      let half = none_left (escapes (uses_in_all NotAtAll b.entry)) (if b.flags.delayed then delayed_faults (resolved p) b else undelayed_faults (resolved p) b) whole in
      let mine : delayed_faults (resolved p) b ≡ [] = rw late at half.1 in
      (none_left (escapes (uses_each ForFields (arguments_of b.base) ++ uses_in ForFields b.block) ++ end_faults (resolved p) b) (base_faults (resolved p) b.class b.place) mine).1

  implied_none : (k : ℕ) (cs : List MembersTree) (i : ℕ) (m : MembersTree) → classes_faults (resolved p) k cs ≡ [] → slice_get cs i ≡ Some m → implied_faults (resolved p) (4 + 2 * (k + i)) m ≡ []
  implied_none k [] i m h e = absurd (let z : ⊥ = cc in z)
  implied_none k (x ∷ cs) zero m h e =
      let z : k + 0 ≡ k = omega arith in
      let both = none_left (initializers_faults x.fields ++ implied_faults (resolved p) (4 + 2 * k) x) (classes_faults (resolved p) (k + 1) cs) h in
      rw z (ap (implied_faults (resolved p) (4 + 2 * k)) (sym (same_Some _ _ e)) ∙ (none_left (initializers_faults x.fields) (implied_faults (resolved p) (4 + 2 * k) x) both.0).1)
  implied_none k (x ∷ cs) (suc i) m h e =
      let s : k + suc i ≡ k + 1 + i = omega arith in
      let both = none_left (initializers_faults x.fields ++ implied_faults (resolved p) (4 + 2 * k) x) (classes_faults (resolved p) (k + 1) cs) h in
      rw s (implied_none (k + 1) cs i m both.1 e)

  implied_base : (t : ℕ) (m : MembersTree) → m.constructor ≡ None → implied_faults (resolved p) t m ≡ [] → base_faults (resolved p) t m.place ≡ []
  implied_base t m none h =
      let both : unassigned_faults (resolved p) t m.place (Some (assigned_by_initializers (resolved p) t)) ++ base_faults (resolved p) t m.place ≡ [] = rw none at h in
      (none_left (unassigned_faults (resolved p) t m.place (Some (assigned_by_initializers (resolved p) t))) (base_faults (resolved p) t m.place) both).1

  -- ---- each body

  abbrev IsBased : ℕ → Type 0
  IsBased t = (chain.above (core_of p).classes t == 0 || is_delayed_constructor (store.constructor_of (core_of p) (chain.above (core_of p).classes t))) ≡ true

  based : (t : ℕ) → chain.is_declared (core_of p).classes t ≡ true → (q : Place) → base_faults (resolved p) t q ≡ [] → IsBased t
  based t there q h =
      let at = place_of_declared (core_of p).classes t there in
      let l = at.2 in
      let s = size p in
      subst IsBased (sym at.1) (class_base at.0 (omega arith) q (subst (λ u. base_faults (resolved p) u q ≡ []) at.1 h))

  written_based : bodies_faults (resolved p) (resolved p).bodies ≡ [] → (n : ℕ) (b : BodyTree) → body_at (resolved p) n ≡ Some b → chain.is_declared (core_of p).classes b.class ≡ true → (not b.flags.delayed || b.flags.ctor) ≡ true → IsBased b.class ⊎ (b.flags.delayed ≡ false)
  written_based none n b at there flags =
      ⊎_elim
      (λ late. inl (based b.class there b.place (written_base b (body_none (resolved p).bodies n b none at) (rw late at flags) late)))
      (λ other. inr other)
      (cases_Bool b.flags.delayed)

  if_based : (is_late : Bool) (t : ℕ) → IsBased t ⊎ (is_late ≡ false) → (not is_late || (chain.above (core_of p).classes t == 0 || is_delayed_constructor (store.constructor_of (core_of p) (chain.above (core_of p).classes t)))) ≡ true
  if_based is_late t h = ⊎_elim (λ yes. or_right (not is_late) _ yes) (λ other. rw other refl) h

  -- what the class of an implicit constructor writes
  implicit_none : (k : ℕ) (c : ClassTree) → slice_get p.classes k ≡ Some c → (ds : List ConstructorTree) → constructors_in c.members ≡ ds → constructor_of (resolved p) (4 + 2 * k) ≡ None → resolver.written_constructor p.classes k ds ≡ None
  implicit_none k c at [] is h = refl
  implicit_none k c at (d ∷ ds) is h =
      let some = ap (constructor_in (resolved p)) (members_at p k c at) ∙ ap (λ xs. option_and_then (body_at (resolved p)) (resolver.written_constructor p.classes k xs)) is ∙ constructor_at p k c at d ds is in
      absurd (let bad : None ≡ Some (constructor_body p.classes k d) = sym h ∙ some in let z : ⊥ = cc in z)

  implicit_based : classes_faults (resolved p) 0 (resolved p).members ≡ [] → (t : ℕ) (y : core.ClassTree) → declared (resolved p).classes t ≡ Some y → constructor_of (resolved p) t ≡ None → IsBased t
  implicit_based none t y d empty =
      let s = source_of p t y d in
      let k = s.place in
      let c = s.tree in
      let z : 0 + k ≡ k = omega arith in
      let m = members p.classes k c in
      let here : slice_get (resolved p).members k ≡ Some m = each_at (members p.classes) 0 p.classes k c s.there ∙ ap (λ n. Some (members p.classes n c)) z in
      let fault : implied_faults (resolved p) (4 + 2 * k) m ≡ [] = subst (λ n. implied_faults (resolved p) (4 + 2 * n) m ≡ []) z (implied_none 0 (resolved p).members k m none here) in
      let unwritten = implicit_none k c s.there (constructors_in c.members) refl (subst (λ u. constructor_of (resolved p) u ≡ None) s.number empty) in
      subst IsBased (sym s.number) (class_base k (slice_get_within p.classes k c s.there) m.place (implied_base (4 + 2 * k) m unwritten fault))

  made_based : classes_faults (resolved p) 0 (resolved p).members ≡ [] → bodies_faults (resolved p) (resolved p).bodies ≡ [] → (o : Origin) (y : core.BodyTree) → chain.is_declared (core_of p).classes y.class ≡ true → (not y.flags.delayed || y.flags.ctor) ≡ true → IsMade (resolved p) o y → if_delayed y (has_delayed_base (core_of p) y) ≡ true
  made_based classes bodies o y there flags (WrittenConstructor {n = n} {b = b} eo em en eb) = if_based b.flags.delayed b.class (written_based bodies n b eb there flags)
  made_based classes bodies o y there flags (ImplicitConstructor {t = t} {c = c} eo ec em none) = implicit_based classes t c ec none
  made_based classes bodies o y there flags (WrittenMethod {t = t} {m = m} {b = b} eo eb own) =
      let at = method_is (resolved p) (slice_get (table (resolved p) t) m) b eb in
      if_based b.flags.delayed b.class (written_based bodies at.0 b at.1 there flags)
  made_based classes bodies o y there flags (Wrapper eo eb own em) = refl

pub have_delayed_base : (p : ProgramTree) → program_faults p ≡ [] → construction_faults (resolved p) ≡ [] → HaveDelayedBase (core_of p)
unfolding construction_faults
have_delayed_base p names construction n y at =
    let both = none_left (classes_faults (resolved p) 0 (resolved p).members) (bodies_faults (resolved p) (resolved p).bodies) construction in
    let from = origin_of (resolved p) n y at in
    let flags = and_parts (not y.flags.ctor || not y.flags.is_static && is_none y.result) (not y.flags.delayed || y.flags.ctor) (have_flags p n y at) in
    made_based p names both.0 both.1 from.origin y (have_classes p n y at) flags.1 from.made
