-- The state of objects now and at the entry: fields, levels, commitment and owners.
use Rattle.std.proofs.Common.{◌≡◌, ℕ, List, [], ◌∷◌, ◌++◌, Bool, true, false, not, ◌&&◌, ◌||◌, eqb, Result, Ok, Err, refl, sym, ◌∙◌, ap, subst, append-nil}
use Rattle.std.specs.Prelude.{nat_lt, if◌then◌else◌}
use Rattle.std.proofs.lemmas.Bool.{false≢true, eqb-true, eq-eqb}
use Rattle.ss_core.specs.declared.names.Place.{Place}
use Rattle.ss_core.specs.declared.names.Kind.TheVariants as kind
use Rattle.ss_core.specs.declared.names.Ty.TheVariants as ty
use Rattle.ss_core.specs.Tree.{ClassTree}
use Rattle.ss_core.specs.Chain.{sub, below}
use Rattle.ss_store_rules.specs.declared.Value.{Value as ObjectValue}
use Rattle.ss_store_rules.specs.declared.Value.TheVariants as value
use Rattle.ss_store_rules.specs.declared.Undefined.{Undefined}
use Rattle.ss_store_rules.specs.Store.{Object}
use Rattle.ss_store_rules.specs.Numbers.{Outcome, undefined}
use Rattle.ss_store_rules.specs.Reads as reads
use Rattle.ss_store_rules.specs.Reads.{object_at, field_read}
use Rattle.ss_store_rules.specs.Changes.{field_class, field_type}
use Rattle.ss_store_rules.specs.Good.{AreValues}
use Rattle.ss_store_rules.specs.Values as run
use Rattle.ss_logic.specs.Values.{reference, class_name, Thing, Heap, Value, thing, store, as_thing, as_store, is_allocated, Structure}
use Rattle.ss_logic.specs.Terms.{Term, app, has_field}
use Rattle.ss_logic.specs.Terms as term
use Rattle.ss_logic.specs.Formulas.{Formula, neg, is_below}
use Rattle.ss_logic.specs.Objects.{object_in, objects_of}
use Rattle.ss_logic.proofs.Tabled.{count}
use Rattle.ss_logic.specs.Shapes.{class_term, level_of, equal, sub_atom, allocated, committed}
use Rattle.ss_logic.specs.Shapes as shape
use Rattle.ss_logic.specs.Express.{and_of, Meant, Says, over, mapped, not_null, is_full}
use Rattle.ss_logic_means.specs.Means.{standing}
use Rattle.ss_logic_means.proofs.Denoting.{V, M, D, R, and_means, neg_means, says_denotes, over_means, reads_append, reads_then}
use Rattle.ss_logic_means.proofs.Operations.{Gives}
use Rattle.ss_logic_means.proofs.Classes.{IsReferenceOf, object_known, not_null_means}
use Rattle.ss_logic_means.proofs.Reading.{field_denotes}

number_of : Thing → ℕ
number_of (class_name t) = t
number_of w = 0

same_class : (a b : ℕ) → thing (class_name a) ≡ thing (class_name b) → a ≡ b
unfolding number_of
same_class a b h = ap (λ v. number_of (as_thing v)) h

-- an allocated object that has the field
abbrev pub HasField : List ClassTree → Structure → Heap → ℕ → ObjectValue → Type 0
HasField cs m h f (value.Obj o) = (nat_lt o h.next ≡ true) × (below cs (m.table.class_of (reference o)) (field_class cs f) ≡ true)
HasField cs m h f value.Null = Unit {0}
HasField cs m h f u = ⊥

has_reference : (cs : List ClassTree) (m : Structure) (h : Heap) (f : ℕ) (u : ObjectValue) → HasField cs m h f u → IsReferenceOf h u
has_reference cs m h f (value.Obj o) a = a.0
has_reference cs m h f value.Null a = tt
has_reference cs m h f (value.Int n) a = a
has_reference cs m h f (value.Bool b) a = a

-- ---- formulas on the state of an object, in a store that a term stands for
module _ (cs : List ClassTree) (m : Structure) (e : List Value) (h : Heap) (s : Term) (is_store : V cs m e s ≡ store h) where
  abbrev There : List Object
  There = objects_of cs m.table h

  pub allocated_means : (t : Term) (o : ℕ) → V cs m e t ≡ thing (reference o) → M cs m e (allocated s t) (nat_lt o h.next)
  allocated_means t o p =
      let same : is_allocated (as_store (V cs m e s)) (as_thing (V cs m e t)) ≡ nat_lt o h.next = ap (λ v. is_allocated (as_store v) (as_thing (V cs m e t))) is_store ∙ ap (λ v. is_allocated h (as_thing v)) p in
      (λ q. sym same ∙ q, λ q. same ∙ q)

  module _ (t : Term) (o : ℕ) (l : nat_lt o h.next ≡ true) (p : V cs m e t ≡ thing (reference o)) where
    pub committed_means : M cs m e (committed s t) (object_at There o).committed
    committed_means =
        let same : ((as_store (V cs m e s)).at (as_thing (V cs m e t))).committed ≡ (object_at There o).committed =
        ap (λ v. ((as_store v).at (as_thing (V cs m e t))).committed) is_store ∙ ap (λ v. (h.at (as_thing v)).committed) p ∙ ap (λ x. x.committed) (sym (object_known cs m e h o l)) in
        (λ q. sym same ∙ q, λ q. same ∙ q)

    level_stands : V cs m e (level_of s t) ≡ thing (class_name (object_at There o).level)
    level_stands = ap (λ v. thing (class_name ((as_store v).at (as_thing (V cs m e t))).level)) is_store ∙ ap (λ v. thing (class_name (h.at (as_thing v)).level)) p ∙ ap (λ x. thing (class_name x.level)) (sym (object_known cs m e h o l))

    class_stands : V cs m e (shape.type_of t) ≡ thing (class_name (object_at There o).class)
    class_stands = ap (λ v. thing (class_name (m.table.class_of (as_thing v)))) p ∙ ap (λ x. thing (class_name x.class)) (sym (object_known cs m e h o l))

    pub level_means : (k : ℕ) → M cs m e (equal (level_of s t) (class_term k)) (eqb (object_at There o).level k)
    level_means k = (
      λ q. eq-eqb (object_at There o).level k (same_class (object_at There o).level k (sym level_stands ∙ q)),
      λ q. level_stands ∙ ap (λ i. thing (class_name i)) (eqb-true (object_at There o).level k q),
    )

    pub full_means : M cs m e (is_full s t) (eqb (object_at There o).level (object_at There o).class)
    full_means = (
      λ q. eq-eqb (object_at There o).level (object_at There o).class (same_class (object_at There o).level (object_at There o).class (sym level_stands ∙ q ∙ class_stands)),
      λ q. level_stands ∙ ap (λ i. thing (class_name i)) (eqb-true (object_at There o).level (object_at There o).class q) ∙ sym class_stands,
    )

    pub consistent_means : M cs m e (and_of (is_full s t ∷ neg (committed s t) ∷ [])) (eqb (object_at There o).level (object_at There o).class && not (object_at There o).committed)
    consistent_means = and_means cs m e (is_full s t) (neg (committed s t)) (eqb (object_at There o).level (object_at There o).class) (not (object_at There o).committed) full_means (neg_means cs m e (committed s t) (object_at There o).committed committed_means)

    pub packed_means : (k : ℕ) → M cs m e (sub_atom (level_of s t) (class_term k)) (sub cs (object_at There o).level k)
    packed_means k =
        let same : is_below_level (V cs m e (level_of s t)) ≡ sub cs (object_at There o).level k = ap is_below_level level_stands in
        (λ q. sym same ∙ q, λ q. same ∙ q)
      where
        is_below_level : Value → Bool
        is_below_level v = is_below cs (as_thing v) (class_name k)

-- ---- what may be read now, and inside `old`
module _ (cs : List ClassTree) (m : Structure) (e : List Value) (now entry : Heap) (s0 : Term) (is_entry : V cs m e s0 ≡ store entry) where
  abbrev pub parts_of : Bool → Meant → List Formula
  parts_of old x = not_null x ∷ (if old then over x (allocated s0) ∷ [] else [])

  abbrev pub readable : Bool → Place → ObjectValue → Result ℕ Undefined
  readable old p v = run.and_then (run.object_of p v) (λ o. if not old || reads.is_allocated (objects_of cs m.table entry) o then Ok o else Err (undefined p kind.Null))

  checked : (f : Formula) (b : Bool) (rest : List Formula) (z : Meant) (o : ℕ) (k : ℕ → Outcome) (err : Undefined) → M cs m e f b → (b ≡ true → R cs m e rest z (k o)) → R cs m e (f ∷ rest) z (run.and_then (if b then Ok o else Err err) k)
  checked f true rest z o k err h d = reads_append cs m e (f ∷ []) rest z (k o) (h.1 refl, tt) (d refl)
  checked f false rest z o k err h d = λ a. false≢true (h.0 a.0)

  abbrev state_of : Bool → Heap
  state_of old = if old then entry else now

  pub readable_then : (old : Bool) (p : Place) (x : Meant) (u : ObjectValue) → IsReferenceOf now u → D cs m e x (standing u) → (rest : List Formula) (z : Meant) (k : ℕ → Outcome) →
      ((o : ℕ) → u ≡ value.Obj o → nat_lt o (if old then entry else now).next ≡ true → R cs m e rest z (k o)) → R cs m e (parts_of old x ++ rest) z (run.and_then (readable old p u) k)
  readable_then false p x (value.Obj o) l d rest z k h =
      reads_append cs m e (not_null x ∷ []) rest z (k o) ((not_null_means cs m e now x (value.Obj o) l d).1 refl, tt) (h o refl l)
  readable_then true p x (value.Obj o) l d rest z k h =
      let there = reads.is_allocated (objects_of cs m.table entry) o in
      let same : nat_lt o entry.next ≡ there = ap (λ n. nat_lt o n) (sym (count cs m.table entry)) in
      let means = subst (λ b. M cs m e (over x (allocated s0)) b) same (over_means cs m e x (allocated s0) (thing (reference o)) (nat_lt o entry.next) d (λ t q. allocated_means cs m e entry s0 is_entry t o q)) in
      reads_append cs m e (not_null x ∷ []) (over x (allocated s0) ∷ rest) z (run.and_then (if there then Ok o else Err (undefined p kind.Null)) k) ((not_null_means cs m e now x (value.Obj o) l d).1 refl, tt)
      (checked (over x (allocated s0)) there rest z o k (undefined p kind.Null) means (λ q. h o refl (same ∙ q)))
  readable_then old p x value.Null l d rest z k h = λ a. false≢true ((not_null_means cs m e now x value.Null l d).0 a.0)
  readable_then old p x (value.Int n) l d rest z k h = absurd l
  readable_then old p x (value.Bool b) l d rest z k h = absurd l

  -- where no part follows
  pub readable_last : (old : Bool) (p : Place) (ps : List Formula) (x : Meant) (r : Outcome) → Gives (IsReferenceOf now) r → R cs m e ps x r → (z : Meant) (k : ℕ → Outcome) →
      ((o : ℕ) → r ≡ Ok (value.Obj o) → D cs m e x (thing (reference o)) → nat_lt o (if old then entry else now).next ≡ true → R cs m e [] z (k o)) → R cs m e (ps ++ parts_of old x) z (run.and_then r (λ v. run.and_then (readable old p v) k))
  readable_last old p ps x r g rx z k h =
      reads_then cs m e ps (parts_of old x) x z r (λ v. run.and_then (readable old p v) k) rx (λ u is d.
      subst (λ parts. R cs m e parts z (run.and_then (readable old p u) k)) (append-nil (parts_of old x))
      (readable_then old p x u (g u is) d [] z k (λ o q l. h o (is ∙ ap Ok q) (subst (λ v. D cs m e x (standing v)) q d) l)))

  -- a question on the state of an object
  pub state_reads : (old : Bool) (p : Place) (ps : List Formula) (x : Meant) (r : Outcome) → Gives (IsReferenceOf now) r → R cs m e ps x r → (f : Term → Formula) (k : ℕ → Bool) →
      ((t : Term) (o : ℕ) → nat_lt o (if old then entry else now).next ≡ true → V cs m e t ≡ thing (reference o) → M cs m e (f t) (k o)) →
      R cs m e (ps ++ parts_of old x) (Says (over x f)) (run.and_then r (λ v. run.and_then (readable old p v) (λ o. run.truth (k o))))
  state_reads old p ps x r g rx f k h =
      readable_last old p ps x r g rx (Says (over x f)) (λ o. run.truth (k o)) (λ o is d l.
      (tt, says_denotes cs m e (over x f) (k o) (over_means cs m e x f (thing (reference o)) (k o) d (λ t q. h t o l q))))

  -- a field
  module _ (s : Term) (is_now : V cs m e s ≡ store now) (values : (o : ℕ) → nat_lt o now.next ≡ true → AreValues cs (objects_of cs m.table now) (object_in cs m.table now o))
      (entry_values : (o : ℕ) → nat_lt o entry.next ≡ true → AreValues cs (objects_of cs m.table entry) (object_in cs m.table entry o)) where
    pub field_reads : (old : Bool) (p : Place) (ps : List Formula) (x : Meant) (r : Outcome) (f : ℕ) → has_field cs f ≡ true → (field_type cs f ≡ ty.Null → ⊥) → Gives (HasField cs m now f) r → R cs m e ps x r →
        R cs m e (ps ++ parts_of old x) (mapped (λ t. app (term.Field f) ((if old then s0 else s) ∷ t ∷ [])) x)
        (run.and_then r (λ v. run.and_then (readable old p v) (λ o. Ok (field_read (object_at (if old then objects_of cs m.table entry else objects_of cs m.table now) o) f))))
    field_reads false p ps x r f has n g rx =
        readable_last false p ps x r (λ u is. has_reference cs m now f u (g u is)) rx (mapped (λ t. app (term.Field f) (s ∷ t ∷ [])) x) (λ o. Ok (field_read (object_at (objects_of cs m.table now) o) f)) (λ o is d l.
        (tt, field_denotes cs m e now s is_now values x o f l has n (g (value.Obj o) is).1 d))
    field_reads true p ps x r f has n g rx =
        readable_last true p ps x r (λ u is. has_reference cs m now f u (g u is)) rx (mapped (λ t. app (term.Field f) (s0 ∷ t ∷ [])) x) (λ o. Ok (field_read (object_at (objects_of cs m.table entry) o) f)) (λ o is d l.
        (tt, field_denotes cs m e entry s0 is_entry entry_values x o f l has n (g (value.Obj o) is).1 d))
