-- What the elaboration calls above a class, and whether that is delayed, is what a formed program takes it for.
use Rattle.std.proofs.Common.{◌≡◌, ℕ, zero, suc, ◌+◌, ◌*◌, ◌<◌, List, [], ◌∷◌, length, Bool, true, false, Option, Some, None, refl, sym, ◌∙◌, ap, subst, arith, ⊎_elim}
use Rattle.std.specs.Prelude.{◌||◌, ◌==◌, slice_get, find, filter_map, option_map, option_and_then, if◌then◌else◌}
use Rattle.std.specs.List.{cons_option}
use Rattle.std.proofs.lemmas.Bool.{cases_Bool, ne_eqb}
use Rattle.ss_core.specs.Chain as chain
use Rattle.ss_ast.specs.Programs.{ClassTree, ProgramTree}
use Rattle.ss_tables.specs.Members.{ConstructorTree, constructors_in}
use Rattle.ss_tables.specs.Classes.{above}
use Rattle.ss_resolver_rules.specs.Numbers.{number_or_object}
use Rattle.ss_resolver_rules.specs.Programs.{class, members, resolved}
use Rattle.ss_resolver_rules.specs.Programs as resolver
use Rattle.ss_resolver_names_rules.specs.Programs.{program_faults}
use Rattle.ss_expand_rules.specs.Program.{above_of, Constructor, bodies, same_origin}
use Rattle.ss_typed.specs.Lookups.{body_at, constructor_in, constructor_of, members_of}
use Rattle.ss_typed.specs.Constructors.{is_delayed_body}
use Rattle.ss_expand_rules.specs.Simple.{has_delayed_constructor}
use Rattle.ss_expand_rules.specs.Elaborated.{implicit_in, or_implicit, constructor_alone, body_of}
use Rattle.ss_store_rules.specs.Typed.{is_constructor_of}
use Rattle.ss_store_rules.specs.Typed as store
use Rattle.ss_store_rules.specs.Construction.{is_delayed_constructor}
use Rattle.ss_expand_formed.specs.Laws.{core_of}
use Rattle.ss_expand_formed.proofs.Searching.{find_some}
use Rattle.ss_expand_formed.proofs.Places.{members_at, class_at, constructor_at}
use Rattle.ss_expand_formed.proofs.Numbered.{OfClass, listed, same_is}
use Rattle.ss_expand_formed.proofs.ClassConstructors.{each_kind, place_of_declared}
use Rattle.ss_expand_formed.proofs.Cycles.{above_within}
use Rattle.ss_expand_formed.proofs.ChainLaw.{size, up}

find-filter_map : {X Y : Type 0} (f : X → Option Y) (test : Y → Bool) (was : X → Bool) (xs : List X) → ((n : ℕ) (x : X) → slice_get xs n ≡ Some x → (y : Y) × (f x ≡ Some y) × (test y ≡ was x)) → find test (filter_map f xs) ≡ option_and_then f (find was xs)
find-filter_map f test was [] all = refl
find-filter_map f test was (x ∷ xs) all =
    let r = all 0 x refl in
    let rest = find-filter_map f test was xs (λ n z h. all (suc n) z h) in
    ⊎_elim
    (λ yes. let same : test r.0 ≡ true = r.2 ∙ yes in ap (λ o. find test (cons_option o (filter_map f xs))) r.1 ∙ ap (λ b. if b then Some r.0 else find test (filter_map f xs)) same ∙ sym r.1 ∙ ap (λ b. option_and_then f (if b then Some x else find was xs)) (sym yes))
    (λ other. let same : test r.0 ≡ false = r.2 ∙ other in ap (λ o. find test (cons_option o (filter_map f xs))) r.1 ∙ ap (λ b. if b then Some r.0 else find test (filter_map f xs)) same ∙ rest ∙ ap (λ b. option_and_then f (if b then Some x else find was xs)) (sym other))
    (cases_Bool (was x))

-- the first tree among the classes
tree_at : (cs : List ClassTree) (k : ℕ) → k < length cs → (c : ClassTree) × (slice_get cs k ≡ Some c)
tree_at [] k l = absurd (omega arith)
tree_at (c ∷ cs) zero l = (c, refl)
tree_at (c ∷ cs) (suc k) l = tree_at cs k (omega arith)

-- the constructor of `object` counts as delayed
pub ready_below_object : (p : ProgramTree) → has_delayed_constructor (resolved p) 0 ≡ true
ready_below_object p = refl

module _ (p : ProgramTree) (faultless : program_faults p ≡ []) where
  constructor_found : (j : ℕ) (c : ClassTree) → slice_get p.classes j ≡ Some c → store.constructor_of (core_of p) (4 + 2 * j) ≡ body_of (resolved p) (Constructor (4 + 2 * j))
  constructor_found j c at =
      let o = Constructor (4 + 2 * j) in
      let f = find_some (same_origin o) (bodies (resolved p)) (listed (resolved p) o (OfClass (class_at p j c at))) in
      find-filter_map (body_of (resolved p)) (is_constructor_of (4 + 2 * j)) (same_origin o) (bodies (resolved p)) (each_kind p (4 + 2 * j))
      ∙ ap (option_and_then (body_of (resolved p))) (f.1 ∙ ap Some (same_is o f.0 f.2))

  by_written : (j : ℕ) (c : ClassTree) → slice_get p.classes j ≡ Some c → (ds : List ConstructorTree) → constructors_in c.members ≡ ds →
      is_delayed_constructor (option_map (constructor_alone (resolved p)) (or_implicit (resolved p) (4 + 2 * j) (option_and_then (body_at (resolved p)) (resolver.written_constructor p.classes j ds)))) ≡ is_delayed_body (option_and_then (body_at (resolved p)) (resolver.written_constructor p.classes j ds))
  by_written j c at [] is =
      let t = 4 + 2 * j in
      ap (λ o. is_delayed_constructor (option_map (constructor_alone (resolved p)) (implicit_in t o (members_of (resolved p) t)))) (class_at p j c at)
      ∙ ap (λ o. is_delayed_constructor (option_map (constructor_alone (resolved p)) (implicit_in t (Some (class p.classes j c)) o))) (members_at p j c at)
  by_written j c at (d ∷ ds) is =
      let b = constructor_at p j c at d ds is in
      ap (λ o. is_delayed_constructor (option_map (constructor_alone (resolved p)) (or_implicit (resolved p) (4 + 2 * j) o))) b ∙ ap is_delayed_body (sym b)

  class_delayed : (j : ℕ) (c : ClassTree) → slice_get p.classes j ≡ Some c → is_delayed_constructor (store.constructor_of (core_of p) (4 + 2 * j)) ≡ has_delayed_constructor (resolved p) (4 + 2 * j)
  class_delayed j c at =
      let t = 4 + 2 * j in
      let ours : constructor_of (resolved p) t ≡ option_and_then (body_at (resolved p)) (resolver.written_constructor p.classes j (constructors_in c.members)) = ap (constructor_in (resolved p)) (members_at p j c at) in
      ap is_delayed_constructor (constructor_found j c at)
      ∙ ap (λ o. is_delayed_constructor (option_map (constructor_alone (resolved p)) (or_implicit (resolved p) t o))) ours
      ∙ by_written j c at (constructors_in c.members) refl
      ∙ ap is_delayed_body (sym ours)

  over : (k : ℕ) → k < length p.classes → above_of (resolved p) (4 + 2 * k) ≡ number_or_object (above p.classes k)
  over k l = let c = tree_at p.classes k l in ap chain.above_of (class_at p k c.0 c.1)

  -- the constructor above, where that of `object` counts as delayed
  delayed_above : (k : ℕ) → k < length p.classes → (o : Option ℕ) → above p.classes k ≡ o → (number_or_object o == 0 || is_delayed_constructor (store.constructor_of (core_of p) (number_or_object o))) ≡ has_delayed_constructor (resolved p) (number_or_object o)
  delayed_above k l None e = refl
  delayed_above k l (Some j) e =
      let c = tree_at p.classes j (above_within p.classes k j e) in
      ap (λ b. b || is_delayed_constructor (store.constructor_of (core_of p) (4 + 2 * j))) (ne_eqb (4 + 2 * j) 0 (λ z. omega arith)) ∙ class_delayed j c.0 c.1

  -- of each declared class
  pub record IsAbove (t : ℕ) : Type 0 where
    pub above : chain.above (core_of p).classes t ≡ above_of (resolved p) t
    pub delayed : (above_of (resolved p) t == 0 || is_delayed_constructor (store.constructor_of (core_of p) (above_of (resolved p) t))) ≡ has_delayed_constructor (resolved p) (above_of (resolved p) t)

  place_above : (k : ℕ) → k < length p.classes → IsAbove (4 + 2 * k)
  place_above k l = record {
    above = up p faultless k l ∙ sym (over k l);
    delayed = subst (λ u. (u == 0 || is_delayed_constructor (store.constructor_of (core_of p) u)) ≡ has_delayed_constructor (resolved p) u) (sym (over k l)) (delayed_above k l (above p.classes k) refl);
  }

  pub is_above : (t : ℕ) → chain.is_declared (core_of p).classes t ≡ true → IsAbove t
  is_above t there =
      let at = place_of_declared (core_of p).classes t there in
      let l = at.2 in
      let s = size p in
      subst IsAbove (sym at.1) (place_above at.0 (omega arith))
