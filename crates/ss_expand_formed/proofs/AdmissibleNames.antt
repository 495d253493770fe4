-- What a program without faults of names has: a chain of classes above each class, and each field at its number.
use Rattle.std.proofs.Common.{◌≡◌, ℕ, zero, suc, ◌+◌, ◌-◌, ◌*◌, ◌<◌, ◌≤◌, List, [], ◌∷◌, ◌++◌, length, Bool, true, false, eqb, Option, Some, None, refl, sym, ◌∙◌, ap, arith, ⊎_elim}
use Rattle.std.specs.Prelude.{◌&&◌, ◌==◌, slice_get, is_some, drop}
use Rattle.std.specs.List.{list_any, position_or_len}
use Rattle.std.specs.Str.{bytes_eq}
use Rattle.std.proofs.lemmas.Option.{same_Some, slice_get_within}
use Rattle.std.proofs.lemmas.Bool.{cases_lt, eq-eqb, or_left, or_right, false≢true}
use Rattle.std.proofs.lemmas.List.Folds.{find_at}
use Rattle.std.proofs.lemmas.Slice.Eq.{bytes_eq-Decides}
use Rattle.std.specs.Option.{option_or}
use Rattle.ss_core.specs.Chain.{below}
use Rattle.ss_ast.specs.Expressions.{NameTree}
use Rattle.ss_ast.specs.Programs.{ClassTree, ProgramTree}
use Rattle.ss_tables.specs.Members.{FieldTree, fields_in, field_in, methods_in, constructors_in}
use Rattle.ss_tables.specs.Classes.{Declared, declared_in, first_field, field_of, members_in, members_at, above_in, steps_above, chain, class_number}
use Rattle.ss_tables.specs.Scopes.{class_scope}
use Rattle.ss_core.specs.declared.rules.Rule.TheVariants as rule
use Rattle.ss_resolver_names_rules.specs.Faults.{fault, unless, twice_among, class_faults}
use Rattle.ss_resolver_names_rules.specs.Members.{members_faults, member_names, faults_at, constructor_faults, override_faults}
use Rattle.ss_resolver_names_rules.specs.Programs.{most_classes, most_levels, ends, is_deep, depth_faults, fields_faults, methods_faults, bodies_faults, comes_back, is_first_of_cycle, above_faults, class_faults_of, classes_faults, mains_in, class_names, program_faults}
use Rattle.ss_resolver_rules.specs.Numbers.{field_place, field_id}
use Rattle.ss_store_rules.specs.Changes.{class_of_field, field_class}
use Rattle.ss_expand_formed.proofs.AdmissibleFacts.{none_of, not_listed, first_place}
use Rattle.ss_expand_formed.proofs.Walks.{steps_none, steps_sum, in_chain, chain_ends}
use Rattle.ss_expand_formed.proofs.AdmissibleClasses.{classes, below_steps, field_at}

-- ---- no faults

class_faultless : (all : List ClassTree) (k : ℕ) (cs : List ClassTree) (i : ℕ) (c : ClassTree) → classes_faults all k cs ≡ [] → slice_get cs i ≡ Some c → class_faults_of all (k + i) c ≡ []
class_faultless all k [] i c h e = absurd (let x : ⊥ = cc in x)
class_faultless all k (d ∷ cs) zero c h e =
    let z : k + 0 ≡ k = omega arith in
    rw z (ap (class_faults_of all k) (sym (same_Some _ _ e)) ∙ (none_of (class_faults_of all k d) (classes_faults all (k + 1) cs) h).0)
class_faultless all k (d ∷ cs) (suc i) c h e =
    let s : k + suc i ≡ k + 1 + i = omega arith in
    rw s (class_faultless all (k + 1) cs i c (none_of (class_faults_of all k d) (classes_faults all (k + 1) cs) h).1 e)

-- no class is too deep, or the first of a cycle
heading_faultless : (all : List ClassTree) (k : ℕ) (c : ClassTree) → class_faults_of all k c ≡ [] → (depth_faults all k c ≡ []) × (above_faults all k c.above ≡ [])
heading_faultless all k c h =
    let one = depth_faults all k c ++ above_faults all k c.above in
    let two = one ++ twice_among [] (member_names c.members) in
    let three = two ++ constructor_faults (constructors_in c.members) in
    let four = three ++ fields_faults all k c in
    let five = four ++ methods_faults (methods_in c.members) in
    let six = five ++ override_faults all k (methods_in c.members) in
    let seven = six ++ members_faults (class_scope all k) c.members in
    let h7 = (none_of seven (bodies_faults all k c) h).0 in
    let h6 = (none_of six (members_faults (class_scope all k) c.members) h7).0 in
    let h5 = (none_of five (override_faults all k (methods_in c.members)) h6).0 in
    let h4 = (none_of four (methods_faults (methods_in c.members)) h5).0 in
    let h3 = (none_of three (fields_faults all k c) h4).0 in
    let h2 = (none_of two (constructor_faults (constructors_in c.members)) h3).0 in
    none_of (depth_faults all k c) (above_faults all k c.above) (none_of one (twice_among [] (member_names c.members)) h2).0

faultless : (p : ProgramTree) → program_faults p ≡ [] → classes_faults p.classes 0 p.classes ≡ []
faultless p h =
    let one = twice_among [] (class_names p.classes) ++ faults_at rule.Limit (drop most_classes (class_names p.classes)) in
    (none_of one (classes_faults p.classes 0 p.classes) (none_of (one ++ classes_faults p.classes 0 p.classes) (unless (mains_in p.classes == 1) (fault rule.NoMain p.last)) h).0).1

none_back : (cs : List ClassTree) (k n : ℕ) → comes_back cs k n None ≡ false
none_back cs k zero = refl
none_back cs k (suc n) = refl

written_first : (cs : List ClassTree) (k : ℕ) (c : ClassTree) (n : Option NameTree) → c.above ≡ n → slice_get cs k ≡ Some c → above_faults cs k n ≡ [] → is_first_of_cycle cs k ≡ false
written_first cs k c None e at h = ap (λ o. comes_back cs k (length cs) (above_in cs o)) at ∙ rw e (none_back cs k (length cs))
written_first cs k c (Some n) e at h = not_listed (is_first_of_cycle cs k) _ (none_of (class_faults cs n.text n.place) _ h).1

module _ (p : ProgramTree) (h : program_faults p ≡ []) where
  abbrev cs : List ClassTree
  cs = p.classes

  head_at : (k : ℕ) (c : ClassTree) → slice_get p.classes k ≡ Some c → (depth_faults p.classes k c ≡ []) × (above_faults p.classes k c.above ≡ [])
  head_at k c at =
      let z : 0 + k ≡ k = omega arith in
      heading_faultless p.classes k c (ap (λ i. class_faults_of p.classes i c) (sym z) ∙ class_faultless p.classes 0 p.classes k c (faultless p h) at)

  none_first : (k : ℕ) → is_first_of_cycle p.classes k ≡ false
  none_first k = look (slice_get p.classes k) refl
    where
      look : (o : Option ClassTree) → slice_get p.classes k ≡ o → is_first_of_cycle p.classes k ≡ false
      look None at = ap (λ o. comes_back p.classes k (length p.classes) (above_in p.classes o)) at ∙ none_back p.classes k (length p.classes)
      look (Some c) at = written_first p.classes k c c.above refl at (head_at k c at).1

  none_some : (o : Option ℕ) → is_some o ≡ false → o ≡ None
  none_some None e = refl
  none_some (Some x) e = absurd (let z : ⊥ = cc in z)

  -- the classes above a class end after 63 steps at most
  few_steps : (k : ℕ) (c : ClassTree) → slice_get p.classes k ≡ Some c → steps_above p.classes 63 (Some k) ≡ None
  unfolding most_levels
  few_steps k c at =
      let all = chain_ends p.classes none_first k (slice_get_within p.classes k c at) in
      let deep : is_deep p.classes k ≡ false = not_listed (is_deep p.classes k) _ (head_at k c at).0 in
      let ended : ends p.classes k ≡ true = rw all refl in
      none_some (steps_above p.classes 63 (Some k)) (and_true (is_some (steps_above p.classes 63 (Some k))) (ends p.classes k) ended deep)
    where
      and_true : (a b : Bool) → b ≡ true → (a && b) ≡ false → a ≡ false
      and_true true b e f = absurd (false≢true (sym f ∙ e))
      and_true false b e f = refl

  chain_below : (k j : ℕ) (c : ClassTree) → slice_get p.classes k ≡ Some c → list_any (eqb j) (chain p.classes k) ≡ true → below (classes p) (4 + 2 * k) (4 + 2 * j) ≡ true
  chain_below k j c at listed =
      let w = in_chain p.classes (length p.classes) (Some k) j listed in
      below_steps p w.0 k j (⊎_elim (λ (l : w.0 < 64). l) (λ high. absurd (past w.0 high w.2)) (cases_lt w.0 64)) w.2
    where
      past : (i : ℕ) → 64 ≤ i → steps_above p.classes i (Some k) ≡ Some j → ⊥
      past i high e =
          let n : i ≡ 63 + (i - 63) = omega arith in
          let none : steps_above p.classes i (Some k) ≡ None = ap (λ m. steps_above p.classes m (Some k)) n ∙ steps_sum p.classes (i - 63) 63 (Some k) ∙ ap (steps_above p.classes (i - 63)) (few_steps k c at) ∙ steps_none p.classes (i - 63) in
          let both : None ≡ Some j = sym none ∙ e in
          let z : ⊥ = cc in z

  -- ---- the field of a name

  abbrev IsFirst : List ℕ → Declared FieldTree → List ℕ → Type 0
  IsFirst n f ks = (list_any (eqb f.class) ks ≡ true) × (field_in (members_at p.classes f.class) n ≡ Some f.member)

  first_of : (n : List ℕ) (f : Declared FieldTree) (k : ℕ) (ks : List ℕ) (o : Option FieldTree) → field_in (members_at p.classes k) n ≡ o → option_or (declared_in k o) (first_field p.classes n ks) ≡ Some f → (first_field p.classes n ks ≡ Some f → IsFirst n f ks) → IsFirst n f (k ∷ ks)
  first_of n f k ks None is e rest = let r = rest e in (or_right (eqb f.class k) (list_any (eqb f.class) ks) r.0, r.1)
  first_of n f k ks (Some m) is e rest =
      let same = same_Some _ _ e in
      let class : k ≡ f.class = ap (λ (d : Declared FieldTree). d.class) same in (
        or_left (eqb f.class k) (list_any (eqb f.class) ks) (eq-eqb f.class k (sym class)),
        ap (λ i. field_in (members_at p.classes i) n) (sym class) ∙ is ∙ ap (λ (d : Declared FieldTree). Some d.member) same,
      )

  first_in : (n : List ℕ) (f : Declared FieldTree) (ks : List ℕ) → first_field p.classes n ks ≡ Some f → IsFirst n f ks
  first_in n f [] e = absurd (let x : ⊥ = cc in x)
  first_in n f (k ∷ ks) e = first_of n f k ks (field_in (members_at p.classes k) n) refl e (first_in n f ks)

  class_has : (n : List ℕ) (m : FieldTree) (o : Option ClassTree) → field_in (members_in o) n ≡ Some m → (c : ClassTree) × (o ≡ Some c)
  class_has n m None e = absurd (let x : ⊥ = cc in x)
  class_has n m (Some c) e = (c, refl)

  number_of_field : (f : Declared FieldTree) (n : List ℕ) → field_in (members_at p.classes f.class) n ≡ Some f.member → field_class (classes p) (field_id p.classes f.class f.member.name.text) ≡ 4 + 2 * f.class
  number_of_field f n e =
      let c = class_has n f.member (slice_get p.classes f.class) e in
      let ms = members_at p.classes f.class in
      let name = f.member.name.text in
      let there : slice_get (fields_in ms) (position_or_len (λ (g : FieldTree). bytes_eq n g.name.text) (fields_in ms)) ≡ Some f.member = sym (find_at (λ (g : FieldTree). bytes_eq n g.name.text) (fields_in ms)) ∙ e in
      let first = first_place (λ (g : FieldTree). bytes_eq name g.name.text) (fields_in ms) _ f.member there ((bytes_eq-Decides name name).1 refl) in
      let own : slice_get (fields_in c.0.members) (field_place ms name) ≡ Some first.0 = ap (λ o. slice_get (fields_in (members_in o)) (field_place ms name)) (sym c.1) ∙ first.1 in
      ap class_of_field (field_at p f.class c.0 c.1 (field_place ms name) first.0 own)

  -- what a name of a field means in a class is a field of that class or of one above
  pub field_below : (k : ℕ) (c : ClassTree) → slice_get p.classes k ≡ Some c → (n : List ℕ) (f : Declared FieldTree) → field_of p.classes k n ≡ Some f →
      below (classes p) (class_number k) (field_class (classes p) (field_id p.classes f.class f.member.name.text)) ≡ true
  field_below k c at n f e =
      let w = first_in n f (chain p.classes k) e in
      ap (below (classes p) (4 + 2 * k)) (number_of_field f n w.1) ∙ chain_below k f.class c at w.0
