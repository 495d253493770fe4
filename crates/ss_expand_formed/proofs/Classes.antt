-- What the tables of a program without faults of names say is so in its elaboration.
use Rattle.std.proofs.Common.{◌≡◌, ◌≢◌, ℕ, zero, suc, ◌+◌, ◌-◌, ◌*◌, ◌/◌, ◌%◌, ◌<◌, ◌≤◌, List, [], ◌∷◌, length, Bool, true, false, Option, Some, None, refl, sym, ◌∙◌, ap, subst, arith, inl, inr, ◌⊎◌, ⊎_elim}
use Rattle.std.specs.Prelude.{◌&&◌, ◌||◌, ◌==◌, nat_le, slice_get, option_map, find, position, unwrap_or, if◌then◌else◌}
use Rattle.std.specs.List.{list_all, position_or_len}
use Rattle.std.specs.Str.{bytes_eq}
use Rattle.std.proofs.lemmas.Bool.{and_parts, and_from, or_cases, or_right, eqb-true, eq-eqb, leb-true, le-leb, ltb-true, lt-ltb, cases_Bool, cases_lt, cases_eq, false≢true}
use Rattle.std.proofs.lemmas.Option.{same_Some, slice_get_within, slice_get-map}
use Rattle.std.proofs.lemmas.List.Folds.{find_at}
use Rattle.std.proofs.lemmas.Slice.Eq.{bytes_eq-Decides}
use Rattle.std.specs.Option.{option_or}
use Rattle.ss_core.specs.declared.names.Ty.{Ty}
use Rattle.ss_core.specs.declared.names.Ty.TheVariants as ty
use Rattle.ss_core.specs.Tree as core
use Rattle.ss_core.specs.Chain.{is_class, is_type, is_declared, sub, below, counts_as, also, all_fields, in_class, has_numbers, is_superclass}
use Rattle.ss_core.specs.Chain as chain
use Rattle.ss_core.proofs.Chains.{sub_self, sub_if_below, sub_up}
use Rattle.ss_ast.specs.Expressions.{TypeTree}
use Rattle.ss_ast.specs.Programs.{ClassTree, ProgramTree}
use Rattle.ss_tables.specs.Members.{FieldTree, fields_in, field_in}
use Rattle.ss_tables.specs.Classes.{Declared, declared_in, class_named, above, chain_from, members_in, members_at, first_field, field_of, class_number, is_array_number, declared_place}
use Rattle.ss_tables.specs.Classes as tables
use Rattle.ss_tables.specs.Types.{written_type}
use Rattle.ss_resolver_names_rules.specs.Programs.{program_faults}
use Rattle.ss_resolver_types_heads.specs.Wants.{in_chain, stands_above, is_below, may_stand_for}
use Rattle.ss_resolver_rules.specs.Numbers.{number_or_object, type_id, field_place, field_id}
use Rattle.ss_resolver_rules.specs.Programs.{field}
use Rattle.ss_store_rules.specs.Changes.{is_array, class_of_field}
use Rattle.ss_store_rules.specs.Types.{fits_type}
use Rattle.ss_expand_formed.specs.Laws.{core_of}
use Rattle.ss_expand_formed.proofs.Facts.{all_at}
use Rattle.ss_expand_formed.proofs.ChainLaw.{size, written_at, there_at, up, has_chain}
use Rattle.ss_expand_formed.proofs.Cycles.{above_within}
use Rattle.ss_expand_formed.proofs.AdmissibleClasses.{field_at}
use Rattle.ss_expand_formed.proofs.AdmissibleNames.{field_below}

-- ---- numbers of classes

small : (t : ℕ) → t < 4 → 1 ≤ t → (t ≡ 1) ⊎ ((t ≡ 2) ⊎ (t ≡ 3))
small t l m = ⊎_elim (λ e. inl e) (λ a. ⊎_elim (λ e. inr (inl e)) (λ b. inr (inr (omega arith))) (cases_eq t 2)) (cases_eq t 1)

pub array_known : (C : List core.ClassTree) (t : ℕ) → is_array_number t ≡ true → is_class C t ≡ true → is_array C t ≡ true
array_known C t h k =
    let l = ltb-true t (4 + 2 * length C) k in
    ⊎_elim
    (λ low.
    let less : nat_le 4 t ≡ false = of_low t low in
    let one = leb-true 1 t (rw less at h) in
    ⊎_elim (λ e. rw e refl) (λ more. ⊎_elim (λ e. rw e refl) (λ e. rw e refl) more) (small t low one))
    (λ high.
    let more : nat_le 4 t ≡ true = le-leb 4 t high in
    let odd = eqb-true (t % 2) 1 (rw more at h) in
    let even : (t - 1) % 2 ≡ 0 = omega arith in
    let declared : is_declared C (t - 1) ≡ true = and_from _ _ (and_from _ _ (le-leb 4 (t - 1) (omega arith)) (eq-eqb ((t - 1) % 2) 0 even)) (le-leb (t - 1 + 1) (4 + 2 * length C) (omega arith)) in
    or_right (t == 1 || t == 2 || t == 3) (is_declared C (t - 1)) declared)
    (cases_lt t 4)
  where
    of_low : (n : ℕ) → n < 4 → nat_le 4 n ≡ false
    of_low n m = ⊎_elim (λ yes. absurd (let z = leb-true 4 n yes in omega arith)) (λ other. other) (cases_Bool (nat_le 4 n))

-- a declared class by its number
pub place_is : (t k : ℕ) → declared_place t ≡ Some k → t ≡ 4 + 2 * k
place_is t k h = by (nat_le 4 t && t % 2 == 0) refl h
  where
    by : (b : Bool) → (nat_le 4 t && t % 2 == 0) ≡ b → (if b then Some ((t - 4) / 2) else None) ≡ Some k → t ≡ 4 + 2 * k
    by true e g =
        let both = and_parts (nat_le 4 t) (t % 2 == 0) e in
        let low = leb-true 4 t both.0 in
        let even = eqb-true (t % 2) 0 both.1 in
        let same : (t - 4) / 2 ≡ k = same_Some _ _ g in
        omega arith
    by false e g = absurd (let z : ⊥ = cc in z)

-- ---- searching

pub found_place : {X : Type 0} (test : X → Bool) (xs : List X) (y : X) → find test xs ≡ Some y → slice_get xs (unwrap_or (position test xs) 0) ≡ Some y
found_place test xs y e =
    let there : slice_get xs (position_or_len test xs) ≡ Some y = sym (find_at test xs) ∙ e in
    rw (lt-ltb _ _ (slice_get_within xs (position_or_len test xs) y there)) there

pub find_passes : {X : Type 0} (test : X → Bool) (xs : List X) (y : X) → find test xs ≡ Some y → test y ≡ true
find_passes test [] y h = absurd (let z : ⊥ = cc in z)
find_passes test (x ∷ xs) y h =
    ⊎_elim
    (λ yes. let g : Some x ≡ Some y = rw yes at h in subst (λ z. test z ≡ true) (same_Some _ _ g) yes)
    (λ other. find_passes test xs y (rw other at h))
    (cases_Bool (test x))

module _ (p : ProgramTree) (faultless : program_faults p ≡ []) where
  abbrev C : List core.ClassTree
  C = (core_of p).classes

  -- ---- classes above

  above_sub : (i : ℕ) (t : ℕ) → sub C (number_or_object (above p.classes i)) t ≡ true → i < length p.classes → sub C (4 + 2 * i) t ≡ true
  above_sub i t h l =
      let nz : 4 + 2 * i ≢ 0 = omega arith in
      sub_up C (has_chain p faultless) (4 + 2 * i) t nz
      ∙ or_right (counts_as C t (4 + 2 * i)) (sub C (chain.above C (4 + 2 * i)) t) (ap (λ c. sub C c t) (up p faultless i l) ∙ h)

  none_in : (j n : ℕ) → in_chain j (chain_from p.classes n None) ≡ false
  none_in j zero = refl
  none_in j (suc n) = refl

  above_in_chain : (n i j : ℕ) → (o : Option ℕ) → above p.classes i ≡ o → ((k : ℕ) → k < length p.classes → in_chain j (chain_from p.classes n (Some k)) ≡ true → sub C (4 + 2 * k) (4 + 2 * j) ≡ true) → in_chain j (chain_from p.classes n o) ≡ true → sub C (number_or_object o) (4 + 2 * j) ≡ true
  above_in_chain n i j None e further g = absurd (false≢true (sym (none_in j n) ∙ g))
  above_in_chain n i j (Some k) e further g = further k (above_within p.classes i k e) g

  chain_sub : (n i j : ℕ) → i < length p.classes → in_chain j (chain_from p.classes n (Some i)) ≡ true → sub C (4 + 2 * i) (4 + 2 * j) ≡ true
  chain_sub zero i j l h = absurd (false≢true h)
  chain_sub (suc n) i j l h =
      ⊎_elim
      (λ here. subst (λ k. sub C (4 + 2 * i) (4 + 2 * k) ≡ true) (eqb-true i j here) (sub_self C (4 + 2 * i)))
      (λ later. above_sub i (4 + 2 * j) (above_in_chain n i j (above p.classes i) refl (λ k m g. chain_sub n k j m g) later) l)
      (or_cases (i == j) (in_chain j (chain_from p.classes n (above p.classes i))) h)

  object_sub : (c : ℕ) → sub C c 0 ≡ true
  object_sub c = sub_if_below C c 0 ((has_chain p faultless).ends c)

  -- a class that is below another in the tables is so in the elaboration
  pub below_sub : (c d : ℕ) → is_class C c ≡ true → is_below p.classes c d ≡ true → sub C c d ≡ true
  below_sub c d k h =
      ⊎_elim
      (λ near.
      ⊎_elim
      (λ object. subst (λ t. sub C c t ≡ true) (sym (eqb-true d 0 object)) (object_sub c))
      (λ same. subst (λ t. sub C c t ≡ true) (eqb-true c d same) (sub_self C c))
      (or_cases (d == 0) (c == d) near))
      (λ over. by (declared_place d) refl (declared_place c) refl over)
      (or_cases (d == 0 || c == d) (stands_above p.classes (declared_place d) (declared_place c)) h)
    where
      by : (j : Option ℕ) → declared_place d ≡ j → (i : Option ℕ) → declared_place c ≡ i → stands_above p.classes j i ≡ true → sub C c d ≡ true
      by None ej i ei g = absurd (false≢true g)
      by (Some j) ej None ei g = absurd (false≢true g)
      by (Some j) ej (Some i) ei g =
          let cd = place_is c i ei in
          let dd = place_is d j ej in
          let s = size p in
          let l = ltb-true c (4 + 2 * length C) k in
          rw (cd, dd) (chain_sub (length p.classes) i j (omega arith) g)

  -- ---- types

  -- a value that may stand where one of the type is wanted fits there
  pub stands_fits : (t u : Ty) → ((c : ℕ) (n : Bool) → t ≡ ty.Ref (record { 0 = c }) n → is_class C c ≡ true) → is_type C u ≡ true → may_stand_for p.classes t u ≡ true → fits_type C t u ≡ true
  stands_fits ty.Int ty.Int known type h = refl
  stands_fits ty.Bool ty.Int known type h = absurd (false≢true h)
  stands_fits ty.Null ty.Int known type h = absurd (false≢true h)
  stands_fits (ty.Ref c n) ty.Int known type h = absurd (false≢true h)
  stands_fits ty.Int ty.Bool known type h = absurd (false≢true h)
  stands_fits ty.Bool ty.Bool known type h = refl
  stands_fits ty.Null ty.Bool known type h = absurd (false≢true h)
  stands_fits (ty.Ref c n) ty.Bool known type h = absurd (false≢true h)
  stands_fits t ty.Null known type h = absurd (false≢true type)
  stands_fits ty.Int (ty.Ref d m) known type h = absurd (false≢true h)
  stands_fits ty.Bool (ty.Ref d m) known type h = absurd (false≢true h)
  stands_fits ty.Null (ty.Ref d m) known type h = refl
  stands_fits (ty.Ref c n) (ty.Ref d m) known type h = ⊎_elim (λ yes. below_sub c.0 d.0 (known c.0 n refl) yes) (λ z. absurd (false≢true z)) (or_cases (is_below p.classes c.0 d.0) false h)

  -- a type that is written is one of the table
  pub type_there : (t : TypeTree) → is_type C (type_id p.classes t) ≡ true → written_type p.classes t ≡ Some (type_id p.classes t)
  type_there t h = by (written_type p.classes t) refl
    where
      by : (o : Option Ty) → written_type p.classes t ≡ o → o ≡ Some (type_id p.classes t)
      by None e = absurd (false≢true (sym (ap (λ z. is_type C (unwrap_or z ty.Null)) e) ∙ h))
      by (Some u) e = ap (λ z. Some (unwrap_or z ty.Null)) (sym e)

  -- ---- fields

  field_of_first : (n : List ℕ) (f : Declared FieldTree) (k : ℕ) (ks : List ℕ) (o : Option FieldTree) → field_in (members_at p.classes k) n ≡ o → (first_field p.classes n ks ≡ Some f → field_in (members_at p.classes f.class) n ≡ Some f.member) → option_or (declared_in k o) (first_field p.classes n ks) ≡ Some f → field_in (members_at p.classes f.class) n ≡ Some f.member
  field_of_first n f k ks None e rest g = rest g
  field_of_first n f k ks (Some m) e rest g =
      let same = same_Some _ _ g in
      ap (λ (d : Declared FieldTree). field_in (members_at p.classes d.class) n) (sym same) ∙ e ∙ ap (λ (d : Declared FieldTree). Some d.member) same

  field_first : (n : List ℕ) (f : Declared FieldTree) (ks : List ℕ) → first_field p.classes n ks ≡ Some f → field_in (members_at p.classes f.class) n ≡ Some f.member
  field_first n f [] h = absurd (let z : ⊥ = cc in z)
  field_first n f (k ∷ ks) h = field_of_first n f k ks (field_in (members_at p.classes k) n) refl (field_first n f ks) h

  member_class : (n : List ℕ) (m : FieldTree) (o : Option ClassTree) → field_in (members_in o) n ≡ Some m → (c : ClassTree) × (o ≡ Some c)
  member_class n m None e = absurd (let x : ⊥ = cc in x)
  member_class n m (Some c) e = (c, refl)

  pub record HasField (k : ℕ) (f : Declared FieldTree) : Type 0 where
    pub there : slice_get (all_fields C) (field_id p.classes f.class f.member.name.text) ≡ Some (in_class (4 + 2 * f.class) (field p.classes f.member))
    pub has : below C (4 + 2 * k) (4 + 2 * f.class) ≡ true
    pub type : is_type C (type_id p.classes f.member.ty) ≡ true

  -- the field that a name means in a class
  pub field_has : (k : ℕ) → k < length p.classes → (n : List ℕ) (f : Declared FieldTree) → field_of p.classes k n ≡ Some f → HasField k f
  field_has k l n f h =
      let own = field_first n f (tables.chain p.classes k) h in
      let c = member_class n f.member (slice_get p.classes f.class) own in
      let name = f.member.name.text in
      let fs = fields_in (members_at p.classes f.class) in
      let named : n ≡ name = (bytes_eq-Decides n name).0 (find_passes (λ (g : FieldTree). bytes_eq n g.name.text) fs f.member own) in
      let by_name : find (λ (g : FieldTree). bytes_eq name g.name.text) fs ≡ Some f.member = subst (λ z. find (λ (g : FieldTree). bytes_eq z g.name.text) fs ≡ Some f.member) named own in
      let at = found_place (λ (g : FieldTree). bytes_eq name g.name.text) fs f.member by_name in
      let at_class : slice_get (fields_in c.0.members) (field_place (members_at p.classes f.class) name) ≡ Some f.member = ap (λ o. slice_get (fields_in (members_in o)) (field_place (members_at p.classes f.class) name)) (sym c.1) ∙ at in
      let there = field_at p f.class c.0 c.1 (field_place (members_at p.classes f.class) name) f.member at_class in
      let some = some_class p.classes k l in
      record {
        there = there;
        has = subst (λ (t : ℕ). below C (4 + 2 * k) t ≡ true) (ap class_of_field there) (field_below p faultless k some.0 some.1 n f h);
        type = in_table f.class c.0 c.1 (field_place (members_at p.classes f.class) name) f.member at_class;
      }
    where
      some_class : (cs : List ClassTree) (i : ℕ) → i < length cs → (c : ClassTree) × (slice_get cs i ≡ Some c)
      some_class [] i m = absurd (omega arith)
      some_class (c ∷ cs) zero m = (c, refl)
      some_class (c ∷ cs) (suc i) m = some_class cs i (omega arith)

      in_table : (j : ℕ) (c : ClassTree) → slice_get p.classes j ≡ Some c → (q : ℕ) (g : FieldTree) → slice_get (fields_in c.members) q ≡ Some g → is_type C (type_id p.classes g.ty) ≡ true
      in_table j c there q g at =
          let y = there_at p j (slice_get_within p.classes j c there) in
          let w = written_at p j y.0 y.1 in
          let numbers = all_at (has_numbers C) C j y.0 (has_chain p faultless).numbers y.1 in
          let fields = (and_parts (is_superclass C y.0.above && list_all (is_class C) y.0.also) (list_all (λ (f : core.FieldTree). is_type C f.ty) y.0.fields) numbers).1 in
          let same : w.tree ≡ c = same_Some _ _ (sym w.there ∙ there) in
          let listed : slice_get y.0.fields q ≡ Some (field p.classes g) = ap (λ fs. slice_get fs q) w.fields ∙ slice_get-map (field p.classes) (fields_in w.tree.members) q ∙ ap (λ (d : ClassTree). option_map (field p.classes) (slice_get (fields_in d.members) q)) same ∙ ap (option_map (field p.classes)) at in
          all_at (λ (f : core.FieldTree). is_type C f.ty) y.0.fields q (field p.classes g) fields listed
