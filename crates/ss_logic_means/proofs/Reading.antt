-- Casts, lengths and fields: what is read of an object that a store of the structure tables.
use Rattle.std.proofs.Common.{◌≡◌, ℕ, zero, suc, ◌+◌, pos, List, [], ◌∷◌, ◌++◌, length, Bool, true, false, Ok, Err, refl, sym, ◌∙◌, ap, subst, append_assoc}
use Rattle.std.specs.Prelude.{nat_lt, unwrap_or, if◌then◌else◌}
use Rattle.std.proofs.lemmas.Bool.{false≢true}
use Rattle.ss_core.specs.declared.names.Place.{Place}
use Rattle.ss_core.specs.declared.names.Kind.TheVariants as kind
use Rattle.ss_core.specs.declared.names.Ty.{Ty}
use Rattle.ss_core.specs.declared.names.Ty.TheVariants as ty
use Rattle.ss_core.specs.Tree.{ClassTree}
use Rattle.ss_core.specs.Chain.{sub, below}
use Rattle.ss_store_rules.specs.declared.Value.{Value as ObjectValue}
use Rattle.ss_store_rules.specs.declared.Value.TheVariants as value
use Rattle.ss_store_rules.specs.Store.{Object}
use Rattle.ss_store_rules.specs.Numbers.{Outcome, undefined}
use Rattle.ss_store_rules.specs.Reads.{object_at, field_read}
use Rattle.ss_store_rules.specs.Changes.{is_array, element_type, field_class, field_type}
use Rattle.ss_store_rules.specs.Good.{has_type, AreValues}
use Rattle.ss_store_rules.specs.Values as run
use Rattle.ss_logic.specs.Values.{Thing, null, reference, class_name, group_number, owner_pair, Cells, Entry, Heap, Value, thing, whole, store, as_thing, as_store, Structure}
use Rattle.ss_logic.specs.Terms.{Term, app, sort_of_type, field_sort, has_field, cell}
use Rattle.ss_logic.specs.Terms as term
use Rattle.ss_logic.specs.Formulas.{Formula}
use Rattle.ss_logic.specs.Objects.{value_of_thing, content, elements_from, element_count, object_in, objects_of}
use Rattle.ss_logic.proofs.Tabled.{field_there}
use Rattle.ss_logic.specs.Shapes.{null_term, class_term, equal, sub_atom, allocated}
use Rattle.ss_logic.specs.Shapes as shape
use Rattle.ss_logic.specs.Express.{or_of, Meant, over, mapped, not_null}
use Rattle.ss_logic_means.specs.Means.{standing}
use Rattle.ss_logic_means.proofs.Denoting.{V, M, D, R, or_means, over_means, mapped_denotes, reads_append, reads_then}
use Rattle.ss_logic_means.proofs.Operations.{Gives}
use Rattle.ss_logic_means.proofs.Arithmetic.{where_true}
use Rattle.ss_logic_means.proofs.Classes.{IsReferenceOf, object_known, null_means, not_null_means, sub_means}

element_length : (t : Ty) (x : Entry) (i n : ℕ) → length (elements_from t x i n) ≡ n
element_length t x i zero = refl
element_length t x i (suc n) = ap suc (element_length t x (i + 1) n)

-- an allocated array
abbrev pub IsArrayOf : List ClassTree → Structure → Heap → ObjectValue → Type 0
IsArrayOf cs m h (value.Obj o) = (nat_lt o h.next ≡ true) × (is_array cs (m.table.class_of (reference o)) ≡ true)
IsArrayOf cs m h value.Null = Unit {0}
IsArrayOf cs m h u = ⊥

pub array_reference : (cs : List ClassTree) (m : Structure) (h : Heap) (u : ObjectValue) → IsArrayOf cs m h u → IsReferenceOf h u
array_reference cs m h (value.Obj o) a = a.0
array_reference cs m h value.Null a = tt
array_reference cs m h (value.Int n) a = a
array_reference cs m h (value.Bool b) a = a

-- what stands at a place of the type is what the cells of its sort have there
pub content_stands : {Place : Type 0} (cs : List ClassTree) (s : List Object) (t : Ty) (c : Cells Place) (f : Place) → (t ≡ ty.Null → ⊥) → has_type cs s t (content t c f) ≡ true → cell (sort_of_type t) c f ≡ standing (content t c f)
content_stands cs s ty.Int c f n h = refl
content_stands cs s ty.Bool c f n h = refl
content_stands cs s ty.Null c f n h = absurd (n refl)
content_stands cs s (ty.Ref t k) c f n h = stands (c.things f) h
  where
    stands : (w : Thing) → has_type cs s (ty.Ref t k) (value_of_thing w) ≡ true → thing w ≡ standing (value_of_thing w)
    stands null q = refl
    stands (reference o) q = refl
    stands (class_name i) q = absurd (false≢true q)
    stands (group_number i) q = absurd (false≢true q)
    stands (owner_pair v w) q = absurd (false≢true q)

module _ (cs : List ClassTree) (m : Structure) (e : List Value) (h : Heap) where
  abbrev Store : List Object
  Store = objects_of cs m.table h

  -- ---- casts

  abbrev pub cast_value : Place → ℕ → Bool → ObjectValue → Outcome
  cast_value p k non_null (value.Obj o) = if sub cs (object_at Store o).class k then Ok (value.Obj o) else Err (undefined p kind.Cast)
  cast_value p k non_null v = if non_null then Err (undefined p kind.Null) else Ok v

  abbrev pub cast_part : ℕ → Term → Formula
  cast_part k t = or_of (equal t null_term ∷ sub_atom (shape.type_of t) (class_term k) ∷ [])

  abbrev pub never_null : Bool → Meant → List Formula
  never_null non_null x = if non_null then not_null x ∷ [] else []

  pub object_cast : (k : ℕ) (x : Meant) (o : ℕ) → nat_lt o h.next ≡ true → D cs m e x (thing (reference o)) → M cs m e (over x (cast_part k)) (sub cs (object_at Store o).class k)
  object_cast k x o l d = over_means cs m e x (cast_part k) (thing (reference o)) (sub cs (object_at Store o).class k) d (λ t p.
      or_means cs m e (equal t null_term) (sub_atom (shape.type_of t) (class_term k)) false (sub cs (object_at Store o).class k) (null_means cs m e h t (value.Obj o) l p) (sub_means cs m e h t k o l p))

  pub null_cast : (k : ℕ) (x : Meant) → D cs m e x (thing null) → M cs m e (over x (cast_part k)) true
  null_cast k x d = over_means cs m e x (cast_part k) (thing null) true d (λ t p. (λ _. refl, λ _ n. n.0 p))

  cast_rest : (p : Place) (k : ℕ) (non_null : Bool) (x : Meant) (u : ObjectValue) → IsReferenceOf h u → D cs m e x (standing u) → R cs m e (never_null non_null x ++ over x (cast_part k) ∷ []) x (cast_value p k non_null u)
  cast_rest p k true x (value.Obj o) l d =
      reads_append cs m e (not_null x ∷ []) (over x (cast_part k) ∷ []) x (cast_value p k true (value.Obj o)) ((not_null_means cs m e h x (value.Obj o) l d).1 refl, tt)
      (where_true cs m e (over x (cast_part k)) (sub cs (object_at Store o).class k) x (value.Obj o) (undefined p kind.Cast) (object_cast k x o l d) (λ _. d))
  cast_rest p k false x (value.Obj o) l d = where_true cs m e (over x (cast_part k)) (sub cs (object_at Store o).class k) x (value.Obj o) (undefined p kind.Cast) (object_cast k x o l d) (λ _. d)
  cast_rest p k true x value.Null l d = λ a. false≢true ((not_null_means cs m e h x value.Null l d).0 a.0)
  cast_rest p k false x value.Null l d = (((null_cast k x d).1 refl, tt), d)
  cast_rest p k b x (value.Int n) l d = absurd l
  cast_rest p k b x (value.Bool c) l d = absurd l

  pub cast_reads : (p : Place) (k : ℕ) (non_null : Bool) (ps : List Formula) (x : Meant) (r : Outcome) → Gives (IsReferenceOf h) r → R cs m e ps x r →
      R cs m e (ps ++ never_null non_null x ++ over x (cast_part k) ∷ []) x (run.and_then r (cast_value p k non_null))
  cast_reads p k non_null ps x r g rx =
      subst (λ parts. R cs m e parts x (run.and_then r (cast_value p k non_null))) (sym (append_assoc ps (never_null non_null x) (over x (cast_part k) ∷ [])))
      (reads_then cs m e ps (never_null non_null x ++ over x (cast_part k) ∷ []) x x r (cast_value p k non_null) rx (λ u is d. cast_rest p k non_null x u (g u is) d))

  -- ---- lengths

  pub length_known : (o : ℕ) → nat_lt o h.next ≡ true → is_array cs (m.table.class_of (reference o)) ≡ true → length (object_at Store o).elements ≡ m.table.length_of (reference o)
  length_known o l a =
      ap (λ x. length x.elements) (object_known cs m e h o l)
      ∙ element_length (element_type (m.table.class_of (reference o))) (h.at (reference o)) 0 (element_count cs m.table o)
      ∙ counted (is_array cs (m.table.class_of (reference o))) a
    where
      counted : (b : Bool) → b ≡ true → (if b then m.table.length_of (reference o) else 0) ≡ m.table.length_of (reference o)
      counted true q = refl
      counted false q = absurd (false≢true q)

  abbrev pub length_value : Place → ObjectValue → Outcome
  length_value p u = run.and_then (run.object_of p u) (λ a. Ok (value.Int (pos (length (object_at Store a).elements))))

  abbrev pub length_of : Term → Term
  length_of t = app term.Length (t ∷ [])

  length_rest : (p : Place) (x : Meant) (u : ObjectValue) → IsArrayOf cs m h u → D cs m e x (standing u) → R cs m e (not_null x ∷ []) (mapped length_of x) (length_value p u)
  length_rest p x (value.Obj o) a d = (
    ((not_null_means cs m e h x (value.Obj o) a.0 d).1 refl, tt),
    mapped_denotes cs m e length_of x (thing (reference o)) (whole (pos (length (object_at Store o).elements))) d (λ t q.
        ap (λ v. whole (pos (m.table.length_of (as_thing v)))) q ∙ ap (λ n. whole (pos n)) (sym (length_known o a.0 a.1))),
  )
  length_rest p x value.Null a d = λ k. false≢true ((not_null_means cs m e h x value.Null tt d).0 k.0)
  length_rest p x (value.Int n) a d = absurd a
  length_rest p x (value.Bool b) a d = absurd a

  pub length_reads : (p : Place) (ps : List Formula) (x : Meant) (r : Outcome) → Gives (IsArrayOf cs m h) r → R cs m e ps x r → R cs m e (ps ++ not_null x ∷ []) (mapped length_of x) (run.and_then r (length_value p))
  length_reads p ps x r g rx = reads_then cs m e ps (not_null x ∷ []) x (mapped length_of x) r (length_value p) rx (λ u is d. length_rest p x u (g u is) d)

  -- ---- fields, in a store that a term stands for

  module _ (s : Term) (is_store : V cs m e s ≡ store h) (values : (o : ℕ) → nat_lt o h.next ≡ true → AreValues cs Store (object_in cs m.table h o)) where
    field_stands : (o f : ℕ) → nat_lt o h.next ≡ true → has_field cs f ≡ true → (field_type cs f ≡ ty.Null → ⊥) → below cs (m.table.class_of (reference o)) (field_class cs f) ≡ true →
        cell (field_sort cs f) (h.at (reference o)).fields f ≡ standing (field_read (object_at Store o) f)
    field_stands o f l has n up =
        let there = field_there cs m.table h o f has up in
        content_stands cs Store (field_type cs f) (h.at (reference o)).fields f n ((values o l).fields f (content (field_type cs f) (h.at (reference o)).fields f) there)
        ∙ ap (λ r. standing (unwrap_or r value.Null)) (sym there)
        ∙ ap (λ x. standing (field_read x f)) (sym (object_known cs m e h o l))

    pub field_denotes : (x : Meant) (o f : ℕ) → nat_lt o h.next ≡ true → has_field cs f ≡ true → (field_type cs f ≡ ty.Null → ⊥) → below cs (m.table.class_of (reference o)) (field_class cs f) ≡ true → D cs m e x (thing (reference o)) →
        D cs m e (mapped (λ t. app (term.Field f) (s ∷ t ∷ [])) x) (standing (field_read (object_at Store o) f))
    field_denotes x o f l has n up d =
        mapped_denotes cs m e (λ t. app (term.Field f) (s ∷ t ∷ [])) x (thing (reference o)) (standing (field_read (object_at Store o) f)) d (λ t q.
        ap (λ v. cell (field_sort cs f) ((as_store v).at (as_thing (V cs m e t))).fields f) is_store
        ∙ ap (λ v. cell (field_sort cs f) (h.at (as_thing v)).fields f) q
        ∙ field_stands o f l has n up)
