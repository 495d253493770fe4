-- A dispatched call enters a method that is called like the one that its text names.
use Rattle.std.proofs.Common.{◌≡◌, ℕ, zero, suc, ◌≤◌, List, [], ◌∷◌, length, map, take, true, false, not, Option, Some, None, eqb, refl, sym, ◌∙◌, ap, subst, arith, ⊎_elim}
use Rattle.std.specs.Prelude.{slice_get, is_some, option_and_then}
use Rattle.std.proofs.lemmas.Bool.{false≢true, true≢false, and_parts, or_cases, cases_Bool, eqb-true}
use Rattle.std.proofs.lemmas.List.{length-map}
use Rattle.std.proofs.lemmas.Option.{slice_get_within}
use Rattle.ss_core.specs.Tree.{ClassTree, EntryTree, BodyTree, CoreTree}
use Rattle.ss_core.specs.Chain.{is_declared, declared, above, below, IsChain}
use Rattle.ss_core.proofs.Chains.{below_up, induct_up, object_below}
use Rattle.ss_core.proofs.Declared.{is_declared-declared, above_undeclared}
use Rattle.ss_store_rules.specs.Locals.{types_of}
use Rattle.ss_store_rules.specs.Typed.{body_at, table, table_of, method_at}
use Rattle.ss_store_rules.specs.Tables.{is_method, table_above, Replaces, Shared, Overrides, AreTables}
use Rattle.ss_machine_typed.proofs.Older.{there_is}
use Rattle.ss_machine_typed.proofs.Slots.{all_at}
use Rattle.ss_machine_good.specs.Dispatch.{IsFound}
use Rattle.ss_store_rules.proofs.Owners.{not_true}

-- a class that isn't declared has no methods
no_methods : (c : CoreTree) (t m : ℕ) (from : BodyTree) → is_declared c.classes t ≡ false → method_at c t m ≡ Some from → ⊥
no_methods c t m from undeclared h = none (declared c.classes t) (sym (is_declared-declared c.classes t) ∙ undeclared) h
  where
    none : (o : Option ClassTree) → is_some o ≡ false → option_and_then (λ (z : EntryTree). body_at c z.body) (slice_get (table_of o) m) ≡ Some from → ⊥
    none None n at = cc
    none (Some y) n at = true≢false n

unlisted : (cs : List ClassTree) (d : ℕ) (o : Option ClassTree) → declared cs d ≡ o → is_some o ≡ false → above cs d ≡ 0
unlisted cs d None e h = above_undeclared cs d e
unlisted cs d (Some y) e h = absurd (true≢false h)

above_unlisted : (cs : List ClassTree) (d : ℕ) → is_declared cs d ≡ false → above cs d ≡ 0
above_unlisted cs d undeclared = unlisted cs d (declared cs d) refl (sym (is_declared-declared cs d) ∙ undeclared)

-- the entry and the body of a method
method_parts : (c : CoreTree) (o : Option EntryTree) (from : BodyTree) → option_and_then (λ (z : EntryTree). body_at c z.body) o ≡ Some from → (e : EntryTree) × (o ≡ Some e) × (body_at c e.body ≡ Some from)
method_parts c None from h = absurd (let no : ⊥ = cc in no)
method_parts c (Some e) from h = (e, refl, h)

body_of : (cs : List ClassTree) (t : ℕ) (e : EntryTree) (o : Option BodyTree) → is_method cs t e o ≡ true → (b : BodyTree) × (o ≡ Some b) × (b.flags.ctor ≡ false) × (below cs t b.class ≡ true)
body_of cs t e None h = absurd (false≢true h)
body_of cs t e (Some b) h =
    let p = and_parts _ (below cs t b.class) h in
    let q = and_parts _ (not b.flags.ctor) p.0 in
    (b, refl, not_true b.flags.ctor q.1, p.1)

take_short : (xs : List EntryTree) (n : ℕ) → length (take n xs) ≡ n → n ≤ length xs
take_short xs zero h = omega arith
take_short [] (suc n) h = absurd (omega (arith, h))
take_short (x ∷ xs) (suc n) h = let r = take_short xs n (omega (arith, h)) in omega (arith, r)

module _ (c : CoreTree) (chain : IsChain c.classes) (tables : AreTables c) where
  -- in the class itself
  found_self : (t m : ℕ) (from : BodyTree) → is_declared c.classes t ≡ true → method_at c t m ≡ Some from → IsFound c t m from
  found_self t m from declares h =
      let e = method_parts c (slice_get (table c.classes t) m) from h in
      let is = all_at (λ z. is_method c.classes t z (body_at c z.body)) (table c.classes t) m e.0 (tables t declares).methods e.1 in
      let b = body_of c.classes t e.0 (body_at c e.0.body) is in
      let both : Some b.0 ≡ Some from = sym b.1 ∙ e.2 in
      let same : b.0 ≡ from = cc in
      record {
        to = from;
        at = h;
        params = refl;
        result = refl;
        static = refl;
        plain = subst (λ (z : BodyTree). z.flags.ctor ≡ false) same b.2;
        class = subst (λ (z : BodyTree). below c.classes t z.class ≡ true) same b.3;
      }

  replaced : (t : ℕ) (old new : EntryTree) (middle to : BodyTree) → body_at c old.body ≡ Some middle → body_at c new.body ≡ Some to → Replaces t old new middle to →
      (types_of to.params ≡ types_of middle.params) × (to.result ≡ middle.result) × (to.flags.is_static ≡ middle.flags.is_static)
  replaced t old new middle to eo en (Shared same shared) =
      let both : Some to ≡ Some middle = sym en ∙ ap (body_at c) same ∙ eo in
      let is : to ≡ middle = cc in
      (ap (λ (z : BodyTree). types_of z.params) is, ap (λ (z : BodyTree). z.result) is, ap (λ (z : BodyTree). z.flags.is_static) is)
  replaced t old new middle to eo en (Overrides own instance_ stands) = (stands.params, stands.result, stands.static)

  -- in a class below the one where it is found
  found_below : (t m : ℕ) (from : BodyTree) → is_declared c.classes t ≡ true → IsFound c (above c.classes t) m from → IsFound c t m from
  found_below t m from declares f =
      let tab = tables t declares in
      let old = method_parts c (slice_get (table c.classes (above c.classes t)) m) f.to f.at in
      let within = slice_get_within (table_above c t) m old.0 old.1 in
      let n = length (table_above c t) in
      let names : length (map (λ (e : EntryTree). e.name) (take n (table c.classes t))) ≡ length (map (λ (e : EntryTree). e.name) (table_above c t)) = ap length tab.names in
      let left_ = length-map (take n (table c.classes t)) (λ (e : EntryTree). e.name) in
      let right_ = length-map (table_above c t) (λ (e : EntryTree). e.name) in
      let long = take_short (table c.classes t) n (sym left_ ∙ names ∙ right_) in
      let new = there_is (table c.classes t) m (omega (arith, within, long)) in
      let is = all_at (λ z. is_method c.classes t z (body_at c z.body)) (table c.classes t) m new.0 tab.methods new.1 in
      let b = body_of c.classes t new.0 (body_at c new.0.body) is in
      let r = replaced t old.0 new.0 f.to b.0 old.2 b.1 (tab.inherited m old.0 new.0 f.to b.0 old.1 new.1 old.2 b.1) in
      record {
        to = b.0;
        at = ap (option_and_then (λ (z : EntryTree). body_at c z.body)) new.1 ∙ b.1;
        params = r.0 ∙ f.params;
        result = r.1 ∙ f.result;
        static = r.2 ∙ f.static;
        plain = b.2;
        class = b.3;
      }

  found_up : (t m : ℕ) (from : BodyTree) → is_declared c.classes t ≡ true → method_at c t m ≡ Some from → (d : ℕ) → below c.classes d t ≡ true → IsFound c d m from
  found_up t m from declares h = induct_up c.classes chain (λ d. below c.classes d t ≡ true → IsFound c d m from)
      (λ b. absurd (true≢false (sym declares ∙ ap (is_declared c.classes) (object_below c.classes t b))))
      (λ d nz up b. ⊎_elim
      (λ own. subst (λ n. IsFound c n m from) (sym (eqb-true d t own)) (found_self t m from declares h))
      (λ higher. ⊎_elim
      (λ is. found_below d m from is (up higher))
      (λ no. absurd (true≢false (sym declares ∙ ap (is_declared c.classes) (object_below c.classes t (subst (λ n. below c.classes n t ≡ true) (above_unlisted c.classes d no) higher)))))
      (cases_Bool (is_declared c.classes d)))
      (or_cases (eqb d t) (below c.classes (above c.classes d) t) (sym (below_up c.classes chain d t nz) ∙ b)))

  -- the class of an object that is of the class t has a method there too
  pub dispatch_finds : (t m : ℕ) (from : BodyTree) → method_at c t m ≡ Some from → (d : ℕ) → below c.classes d t ≡ true → IsFound c d m from
  dispatch_finds t m from h d b = ⊎_elim
      (λ declares. found_up t m from declares h d b)
      (λ no. absurd (no_methods c t m from no h))
      (cases_Bool (is_declared c.classes t))
