-- What is read of the store at an entry.
use Rattle.std.proofs.Common.{◌≡◌, ℕ, zero, suc, ◌<◌, ◌≤◌, List, [], ◌∷◌, length, take, Bool, true, false, ◌&&◌, Option, Some, None, refl, sym, ◌∙◌, ap, subst, arith}
use Rattle.std.specs.Prelude.{slice_get, unwrap_or, nat_lt}
use Rattle.std.proofs.lemmas.Bool.{ltb-true, lt-ltb, and_parts}
use Rattle.std.proofs.lemmas.List.{length-take}
use Rattle.ss_store_rules.specs.declared.Value.TheVariants as value
use Rattle.ss_store_rules.specs.Store.{Object, slot_value}
use Rattle.ss_store_rules.specs.Reads.{no_object, object_at, is_allocated, field_read, element_read}
use Rattle.ss_store_rules.proofs.Objects.{becomes, length-changed}
use Rattle.ss_journal.specs.declared.changes.OldHeader.{OldHeader}
use Rattle.ss_journal.specs.Shapes.{OldContent, Segment}
use Rattle.ss_journal.specs.Undo.{header_of, content_of, with_header, with_content, IsHeaderOf, restored, entries_of, count_of, headers_of, contents_of}
use Rattle.ss_journal.proofs.Undo.{get_taken}
use Rattle.ss_machine_stores.specs.Shapes.{entry_of}

bool_same : (a b : Bool) → (a ≡ true → b ≡ true) → (b ≡ true → a ≡ true) → a ≡ b
bool_same true true f g = refl
bool_same true false f g = sym (f refl)
bool_same false true f g = g refl
bool_same false false f g = refl

both : (a b : Bool) → a ≡ true → b ≡ true → (a && b) ≡ true
both true b e f = f
both false b e f = cc

none_below : (q : ℕ) → nat_lt q 0 ≡ true → ⊥
none_below q e = let l = ltb-true q 0 e in omega (arith, l)

taken_lt : (n : ℕ) (s : List Object) (q : ℕ) → nat_lt q (length (take n s)) ≡ (nat_lt q n && nat_lt q (length s))
taken_lt n s q =
    let k = length-take n s in
    bool_same _ _
    (λ e. let l = ltb-true q (length (take n s)) e in
    let a : q < n = omega (arith, l, k) in
    let b : q < length s = omega (arith, l, k) in
    both _ _ (lt-ltb q n a) (lt-ltb q (length s) b))
    (λ e. let p = and_parts (nat_lt q n) (nat_lt q (length s)) e in
    let a = ltb-true q n p.0 in
    let b = ltb-true q (length s) p.1 in
    let l : q < length (take n s) = omega (arith, a, b, k) in
    lt-ltb q (length (take n s)) l)

pub allocated_is : (gs : List Segment) (s : List Object) (q : ℕ) → is_allocated (entry_of (entries_of gs s)) q ≡ (nat_lt q (count_of gs) && is_allocated s q)
allocated_is [] s q = bool_same _ _ (λ e. absurd (none_below q e)) (λ e. absurd (none_below q (and_parts (nat_lt q 0) (nat_lt q (length s)) e).0))
allocated_is (g ∷ gs) s q = ap (nat_lt q) (length-changed (restored g) (take g.count s)) ∙ taken_lt g.count s q

pub allocated_then : (gs : List Segment) (s : List Object) (q n : ℕ) (b : Bool) (t : List Object) → entry_of (entries_of gs s) ≡ t → n ≡ count_of gs → q < n → b ≡ is_allocated s q → b ≡ is_allocated t q
allocated_then gs s q n b t is count l e =
    let below : nat_lt q (count_of gs) ≡ true = lt-ltb q (count_of gs) (omega (arith, l, count)) in
    e ∙ sym (ap (λ d. d && is_allocated s q) below) ∙ sym (allocated_is gs s q) ∙ ap (λ u. is_allocated u q) is

pub allocated_else : (gs : List Segment) (s : List Object) (q n : ℕ) (t : List Object) → entry_of (entries_of gs s) ≡ t → n ≡ count_of gs → n ≤ q → nat_lt q n ≡ is_allocated t q
allocated_else gs s q n t is count l =
    bool_same _ _
    (λ e. let a = ltb-true q n e in absurd (omega (arith, a, l)))
    (λ e. let a = ltb-true q (count_of gs) (and_parts (nat_lt q (count_of gs)) (is_allocated s q) (sym (allocated_is gs s q) ∙ ap (λ u. is_allocated u q) is ∙ e)).0 in absurd (omega (arith, a, l, count)))

some_at : (s : List Object) (q : ℕ) → q < length s → (x : Object) × (slice_get s q ≡ Some x)
some_at [] q l = absurd (omega (arith, l))
some_at (x ∷ s) zero l = (x, refl)
some_at (x ∷ s) (suc q) l = some_at s q (omega (arith, l))

none_at : (s : List Object) (q : ℕ) → length s ≤ q → slice_get s q ≡ None
none_at [] q l = refl
none_at (x ∷ s) zero l = absurd (omega (arith, l))
none_at (x ∷ s) (suc q) l = none_at s q (omega (arith, l))

lt_or : (a b : ℕ) → nat_lt a b ≡ false → b ≤ a
lt_or a b e = grind (arith, lt-ltb, e)

pub nothing_there : (s : List Object) (q : ℕ) → is_allocated s q ≡ false → object_at s q ≡ no_object
nothing_there s q e = ap (λ o. unwrap_or o no_object) (none_at s q (lt_or q (length s) e))

-- the object at the entry is that of now, with what was logged put back
pub entry_object : (gs : List Segment) (s : List Object) (q : ℕ) → is_allocated (entry_of (entries_of gs s)) q ≡ true → object_at (entry_of (entries_of gs s)) q ≡ with_content (content_of (contents_of gs) q) (with_header (header_of (headers_of gs) q) (object_at s q))
entry_object [] s q e = absurd (none_below q e)
entry_object (g ∷ gs) s q e =
    let t = take g.count s in
    let l = ltb-true q (length t) (sym (ap (nat_lt q) (length-changed (restored g) t)) ∙ e) in
    let x = some_at t q l in
    let now : object_at s q ≡ x.0 = ap (λ o. unwrap_or o no_object) (get_taken g.count s q x.0 x.1).0 in
    ap (λ o. unwrap_or o no_object) (becomes (restored g) t q x.0 x.1) ∙ ap (restored g q) (sym now)

content_keeps_header : (r : Option OldContent) (h : OldHeader) (x : Object) → IsHeaderOf h x → IsHeaderOf h (with_content r x)
content_keeps_header None h x is = is
content_keeps_header (Some c) h x is = record { level = is.level; committed = is.committed; owner = is.owner; ready = is.ready }

-- what was logged of the object, or what it is
pub header_logged : (gs : List Segment) (s : List Object) (q : ℕ) (h : OldHeader) → is_allocated (entry_of (entries_of gs s)) q ≡ true → header_of (headers_of gs) q ≡ Some h → IsHeaderOf h (object_at (entry_of (entries_of gs s)) q)
header_logged gs s q h e is =
    subst (IsHeaderOf h) (sym (entry_object gs s q e ∙ ap (λ r. with_content (content_of (contents_of gs) q) (with_header r (object_at s q))) is))
    (content_keeps_header (content_of (contents_of gs) q) h (with_header (Some h) (object_at s q)) (record { level = refl; committed = refl; owner = refl; ready = refl }))

pub header_now : (gs : List Segment) (s : List Object) (q : ℕ) (h : OldHeader) → is_allocated (entry_of (entries_of gs s)) q ≡ true → header_of (headers_of gs) q ≡ None → IsHeaderOf h (object_at s q) → IsHeaderOf h (object_at (entry_of (entries_of gs s)) q)
header_now gs s q h e is now =
    subst (IsHeaderOf h) (sym (entry_object gs s q e ∙ ap (λ r. with_content (content_of (contents_of gs) q) (with_header r (object_at s q))) is))
    (content_keeps_header (content_of (contents_of gs) q) h (object_at s q) now)

header_keeps : (r : Option OldHeader) (x : Object) → ((with_header r x).fields ≡ x.fields) × ((with_header r x).elements ≡ x.elements)
header_keeps None x = (refl, refl)
header_keeps (Some h) x = (refl, refl)

pub field_logged : (gs : List Segment) (s : List Object) (q f : ℕ) (c : OldContent) → is_allocated (entry_of (entries_of gs s)) q ≡ true → content_of (contents_of gs) q ≡ Some c → unwrap_or (slot_value c.fields f) value.Null ≡ field_read (object_at (entry_of (entries_of gs s)) q) f
field_logged gs s q f c e is = sym (ap (λ (x : Object). field_read x f) (entry_object gs s q e ∙ ap (λ r. with_content r (with_header (header_of (headers_of gs) q) (object_at s q))) is))

pub field_now : (gs : List Segment) (s : List Object) (q f : ℕ) → is_allocated (entry_of (entries_of gs s)) q ≡ true → content_of (contents_of gs) q ≡ None → field_read (object_at s q) f ≡ field_read (object_at (entry_of (entries_of gs s)) q) f
field_now gs s q f e is =
    sym (ap (λ (x : Object). field_read x f) (entry_object gs s q e ∙ ap (λ r. with_content r (with_header (header_of (headers_of gs) q) (object_at s q))) is)
    ∙ ap (λ fs. unwrap_or (slot_value fs f) value.Null) (header_keeps (header_of (headers_of gs) q) (object_at s q)).0)

pub element_logged : (gs : List Segment) (s : List Object) (q i : ℕ) (c : OldContent) → is_allocated (entry_of (entries_of gs s)) q ≡ true → content_of (contents_of gs) q ≡ Some c → unwrap_or (slice_get c.elements i) value.Null ≡ element_read (object_at (entry_of (entries_of gs s)) q) i
element_logged gs s q i c e is = sym (ap (λ (x : Object). element_read x i) (entry_object gs s q e ∙ ap (λ r. with_content r (with_header (header_of (headers_of gs) q) (object_at s q))) is))

pub element_now : (gs : List Segment) (s : List Object) (q i : ℕ) → is_allocated (entry_of (entries_of gs s)) q ≡ true → content_of (contents_of gs) q ≡ None → element_read (object_at s q) i ≡ element_read (object_at (entry_of (entries_of gs s)) q) i
element_now gs s q i e is =
    sym (ap (λ (x : Object). element_read x i) (entry_object gs s q e ∙ ap (λ r. with_content r (with_header (header_of (headers_of gs) q) (object_at s q))) is)
    ∙ ap (λ es. unwrap_or (slice_get es i) value.Null) (header_keeps (header_of (headers_of gs) q) (object_at s q)).1)
