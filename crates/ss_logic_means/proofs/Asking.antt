-- Questions on states and owners, and quantifiers, as they stand in a context.
use Rattle.std.proofs.Common.{◌≡◌, ℕ, ℤ, pos, ◌+ℤ◌, List, [], ◌∷◌, ◌++◌, length, Bool, true, false, not, ◌&&◌, map, eqb, Ok, refl, sym, ◌∙◌, ap, subst}
use Rattle.std.specs.Prelude.{nat_lt, int_le, if◌then◌else◌}
use Rattle.std.specs.Int.{int_gap}
use Rattle.ss_core.specs.declared.names.Place.{Place}
use Rattle.ss_core.specs.declared.expr.Quantifier.{Quantifier}
use Rattle.ss_core.specs.declared.expr.Quantifier.TheVariants as quantifier
use Rattle.ss_core.specs.Tree.{ClassTree, WordTree, Consistent, Committed, New, Level, Packed, Unowned, OwnersTree, SameOwner, OwnedAt}
use Rattle.ss_core.specs.Chain.{sub}
use Rattle.ss_store_rules.specs.declared.Value.{Value as ObjectValue}
use Rattle.ss_store_rules.specs.Store.{Object}
use Rattle.ss_store_rules.specs.Numbers.{Outcome}
use Rattle.ss_store_rules.specs.Reads as reads
use Rattle.ss_store_rules.specs.Reads.{as_int, object_at}
use Rattle.ss_store_rules.specs.Values as run
use Rattle.ss_logic.specs.declared.Sort.TheVariants as sort
use Rattle.ss_logic.specs.Values.{reference, Heap, Value, whole, thing, store, as_whole, Structure}
use Rattle.ss_logic.specs.Terms.{Term, Bound, app}
use Rattle.ss_logic.specs.Terms as term
use Rattle.ss_logic.specs.Formulas.{Formula, Forall, neg}
use Rattle.ss_logic.specs.Objects.{objects_of}
use Rattle.ss_logic.specs.Shapes.{number, class_term, level_of, owner_of, pair_of, equal, at_most, sub_atom, committed, group}
use Rattle.ss_logic.specs.Express.{and_of, or_of, Meant, Says, over, over_two, said, Context, is_full, word_said, owners_said, word_parts, readable, out_of_range, quantified_said}
use Rattle.ss_logic_means.specs.Means.{standing}
use Rattle.ss_logic_means.specs.Scenes.{setting_of}
use Rattle.ss_logic_means.proofs.Denoting.{V, M, D, R, neg_means, over_means}
use Rattle.ss_logic_means.proofs.Operations.{IsBool, IsWhole, Gives, at_most_means, whole_denotes}
use Rattle.ss_logic_means.proofs.Arithmetic.{three_read}
use Rattle.ss_logic_means.proofs.Classes.{IsReferenceOf, object_known}
use Rattle.ss_logic_means.proofs.States.{committed_means, level_means, consistent_means, packed_means, state_reads}
use Rattle.ss_logic_means.proofs.Words.{unowned_means, new_reads}
use Rattle.ss_logic_means.proofs.Owners.{HasOwners, same_owner_means, owned_at_means, owners_read}
use Rattle.ss_logic_means.proofs.Quantified.{quantified_formula, range_reads}
use Rattle.ss_logic_means.proofs.Standing.{argument_at}

-- ---- states and owners
module _ (m : Structure) (now entry : Heap) (c : Context) (locals : List ObjectValue) (e : List Value) (is_now : V c.classes m e c.now ≡ store now) (is_entry : V c.classes m e c.entry ≡ store entry)
    (still : (o : ℕ) → nat_lt o entry.next ≡ true → nat_lt o now.next ≡ true) where
  abbrev Now : List Object
  Now = objects_of c.classes m.table now

  abbrev Entry : List Object
  Entry = objects_of c.classes m.table entry

  abbrev S : run.Setting
  S = setting_of m c now entry locals

  -- what is so of both states is so of the one that is read
  in_state : (P : Heap → Term → List Object → Type 0) → P now c.now Now → P entry c.entry Entry → (old : Bool) → P (if old then entry else now) (if old then c.entry else c.now) (if old then Entry else Now)
  in_state P a b true = b
  in_state P a b false = a

  abbrev Asked : (Term → Term → Formula) → (List Object → ℕ → Bool) → Heap → Term → List Object → Type 0
  Asked f k h s there = (t : Term) (o : ℕ) → nat_lt o h.next ≡ true → V c.classes m e t ≡ thing (reference o) → M c.classes m e (f s t) (k there o)

  module _ (p : Place) (ps : List Formula) (x : Meant) (r : Outcome) (g : Gives (IsReferenceOf now) r) (rx : R c.classes m e ps x r) where
    asked : (f : Term → Term → Formula) (k : List Object → ℕ → Bool) → Asked f k now c.now Now → Asked f k entry c.entry Entry →
        R c.classes m e (ps ++ readable c x) (Says (over x (f (if c.inside_old then c.entry else c.now)))) (run.and_then r (λ v. run.and_then (run.readable_of S p v) (λ o. run.truth (k (if c.inside_old then Entry else Now) o))))
    asked f k a b =
        state_reads c.classes m e now entry c.entry is_entry c.inside_old p ps x r g rx (f (if c.inside_old then c.entry else c.now)) (k (if c.inside_old then Entry else Now)) (in_state (Asked f k) a b c.inside_old)

    -- a class never changes
    consistent_at_entry : (t : Term) (o : ℕ) → nat_lt o entry.next ≡ true → V c.classes m e t ≡ thing (reference o) → M c.classes m e (and_of (is_full c.entry t ∷ neg (committed c.entry t) ∷ [])) (eqb (object_at Entry o).level (object_at Now o).class && not (object_at Entry o).committed)
    consistent_at_entry t o l q =
        let same : (object_at Entry o).class ≡ (object_at Now o).class = ap (λ y. y.class) (object_known c.classes m e entry o l) ∙ sym (ap (λ y. y.class) (object_known c.classes m e now o (still o l))) in
        subst (λ z. M c.classes m e (and_of (is_full c.entry t ∷ neg (committed c.entry t) ∷ [])) (eqb (object_at Entry o).level z && not (object_at Entry o).committed)) same (consistent_means c.classes m e entry c.entry is_entry t o l q)

    pub word_read : (w : WordTree) → R c.classes m e (ps ++ word_parts c w x) (Says (over x (word_said c w))) (run.and_then r (λ v. run.word_value S p w v))
    word_read Consistent = asked (λ s t. and_of (is_full s t ∷ neg (committed s t) ∷ [])) (λ there o. eqb (object_at there o).level (object_at Now o).class && not (object_at there o).committed)
        (consistent_means c.classes m e now c.now is_now) consistent_at_entry
    word_read Committed = asked (λ s t. committed s t) (λ there o. (object_at there o).committed) (committed_means c.classes m e now c.now is_now) (committed_means c.classes m e entry c.entry is_entry)
    word_read New = new_reads c.classes m e now entry c.entry is_entry p ps x r g rx
    word_read (Level t) = asked (λ s u. equal (level_of s u) (class_term t)) (λ there o. eqb (object_at there o).level t)
        (λ u o l q. level_means c.classes m e now c.now is_now u o l q t) (λ u o l q. level_means c.classes m e entry c.entry is_entry u o l q t)
    word_read (Packed t) = asked (λ s u. sub_atom (level_of s u) (class_term t)) (λ there o. sub c.classes (object_at there o).level t)
        (λ u o l q. packed_means c.classes m e now c.now is_now u o l q t) (λ u o l q. packed_means c.classes m e entry c.entry is_entry u o l q t)
    word_read Unowned = asked (λ s t. group (owner_of s t)) (λ there o. reads.is_group (object_at there o).owner) (unowned_means c.classes m e now c.now is_now) (unowned_means c.classes m e entry c.entry is_entry)

  module _ (owned : HasOwners now) (owned_then : HasOwners entry) (p : Place) (ps qs : List Formula) (x y : Meant) (a b : Outcome) (ga : Gives (IsReferenceOf now) a) (gb : Gives (IsReferenceOf now) b) (ra : R c.classes m e ps x a) (rb : R c.classes m e qs y b) where
    abbrev AskedTwo : (Term → Term → Term → Formula) → (List Object → ℕ → ℕ → Bool) → Heap → Term → List Object → Type 0
    AskedTwo f k h s there = (t u : Term) (o q : ℕ) → nat_lt o h.next ≡ true → nat_lt q h.next ≡ true → V c.classes m e t ≡ thing (reference o) → V c.classes m e u ≡ thing (reference q) → M c.classes m e (f s t u) (k there o q)

    asked_two : (f : Term → Term → Term → Formula) (k : List Object → ℕ → ℕ → Bool) → AskedTwo f k now c.now Now → AskedTwo f k entry c.entry Entry →
        R c.classes m e (ps ++ qs ++ readable c x ++ readable c y) (Says (over_two x y (f (if c.inside_old then c.entry else c.now))))
        (run.and_then a (λ v. run.and_then b (λ w. run.and_then (run.readable_of S p v) (λ o. run.and_then (run.readable_of S p w) (λ q. run.truth (k (if c.inside_old then Entry else Now) o q))))))
    asked_two f k i j =
        owners_read c.classes m e now entry c.entry is_entry c.inside_old p ps qs x y a b ga gb ra rb (f (if c.inside_old then c.entry else c.now)) (k (if c.inside_old then Entry else Now)) (in_state (AskedTwo f k) i j c.inside_old)

    pub owners_word_read : (w : OwnersTree) → R c.classes m e (ps ++ qs ++ readable c x ++ readable c y) (Says (over_two x y (owners_said c w))) (run.and_then a (λ v. run.and_then b (λ u. run.owners_value S p w v u)))
    owners_word_read SameOwner = asked_two (λ s t u. equal (owner_of s t) (owner_of s u)) (λ there o q. reads.same_owner (object_at there o).owner (object_at there q).owner)
        (same_owner_means c.classes m e now c.now is_now owned) (same_owner_means c.classes m e entry c.entry is_entry owned_then)
    owners_word_read (OwnedAt k) = asked_two (λ s t u. equal (owner_of s t) (pair_of u (class_term k))) (λ there o q. reads.is_pair q k (object_at there o).owner)
        (λ t u o q. owned_at_means c.classes m e now c.now is_now t u k o q) (λ t u o q. owned_at_means c.classes m e entry c.entry is_entry t u k o q)

-- ---- quantifiers

pub value_read : (cs : List ClassTree) (m : Structure) (e : List Value) (ps : List Formula) (x : Meant) (r : Outcome) (u : ObjectValue) → r ≡ Ok u → R cs m e ps x r → D cs m e x (standing u)
value_read cs m e ps x r u is h = let read = subst (λ o. R cs m e ps x o) is h in read.1

module _ (m : Structure) (c : Context) (e : List Value) (at : length e ≡ c.bound) (ps qs : List Formula) (x y : Meant) (a b : Outcome) (ga : Gives IsWhole a) (gb : Gives IsWhole b)
    (ra : R c.classes m e ps x a) (rb : R c.classes m e qs y b) (rest_a : (i : ℤ) → R c.classes m (e ++ whole i ∷ []) ps x a) (rest_b : (i : ℤ) → R c.classes m (e ++ whole i ∷ []) qs y b) where
  abbrev pub With : ℤ → List Value
  With i = e ++ whole i ∷ []

  bound_value : (i : ℤ) → V c.classes m (With i) (Bound c.bound) ≡ whole i
  bound_value i = argument_at e (whole i) [] c.bound at

  pub low_means : (u : ObjectValue) → a ≡ Ok u → (i : ℤ) → M c.classes m (With i) (neg (over x (λ t. at_most t (Bound c.bound)))) (not (int_le (as_int u) i))
  low_means u is i =
      let d = whole_denotes c.classes m (With i) x a ga u is (value_read c.classes m (With i) ps x a u is (rest_a i)) in
      neg_means c.classes m (With i) (over x (λ t. at_most t (Bound c.bound))) (int_le (as_int u) i)
      (over_means c.classes m (With i) x (λ t. at_most t (Bound c.bound)) (whole (as_int u)) (int_le (as_int u) i) d (λ t p. at_most_means c.classes m (With i) t (Bound c.bound) (as_int u) i p (bound_value i)))

  abbrev pub after : Term
  after = app term.Add (Bound c.bound ∷ number (pos 1) ∷ [])

  pub high_means : (w : ObjectValue) → b ≡ Ok w → (i : ℤ) → M c.classes m (With i) (neg (over y (λ t. at_most after t))) (not (int_le (i +ℤ pos 1) (as_int w)))
  high_means w is i =
      let d = whole_denotes c.classes m (With i) y b gb w is (value_read c.classes m (With i) qs y b w is (rest_b i)) in
      neg_means c.classes m (With i) (over y (λ t. at_most after t)) (int_le (i +ℤ pos 1) (as_int w))
      (over_means c.classes m (With i) y (λ t. at_most after t) (whole (as_int w)) (int_le (i +ℤ pos 1) (as_int w)) d (λ t p.
      at_most_means c.classes m (With i) after t (i +ℤ pos 1) (as_int w) (ap (λ v. whole (as_whole v +ℤ pos 1)) (bound_value i)) p))

  -- the members between the bounds are read
  pub quantifier_read : (q : Quantifier) (ts : List Formula) (z : Meant) (member : ℤ → Outcome) →
      ((u w : ObjectValue) → a ≡ Ok u → b ≡ Ok w → (i : ℤ) → int_le (as_int u) i ≡ true → int_le (i +ℤ pos 1) (as_int w) ≡ true → R c.classes m (With i) ts z (member i) × Gives IsBool (member i)) →
      R c.classes m e (ps ++ qs ++ map (λ part. Forall (sort.Whole ∷ []) (or_of (out_of_range c x y ++ part ∷ []))) ts) (Says (quantified_said c q x y (said z)))
      (run.and_then a (λ v. run.and_then b (λ w. run.quantified q member (int_gap (as_int v) (as_int w)) (as_int v))))
  quantifier_read q ts z member members =
      three_read c.classes m e ps qs x y a b ra rb (map (λ part. Forall (sort.Whole ∷ []) (or_of (out_of_range c x y ++ part ∷ []))) ts) (Says (quantified_said c q x y (said z)))
      (λ v w. run.quantified q member (int_gap (as_int v) (as_int w)) (as_int v)) (λ u w is it d r.
      subst (λ f. R c.classes m e (map (λ part. Forall (sort.Whole ∷ []) (or_of (out_of_range c x y ++ part ∷ []))) ts) (Says f) (run.quantified q member (int_gap (as_int u) (as_int w)) (as_int u))) (same_formula u w is it q (said z))
      (range_reads c.classes m e (as_int u) (as_int w) (neg (over x (λ t. at_most t (Bound c.bound)))) (neg (over y (λ t. at_most after t))) (low_means u is) (high_means w it) q ts z member
      (λ i low high. (members u w is it i low high).0) (λ i low high. (members u w is it i low high).1)))
    where
      same_formula : (u w : ObjectValue) (is : a ≡ Ok u) (it : b ≡ Ok w) (q : Quantifier) (f : Formula) →
          quantified_formula c.classes m e (as_int u) (as_int w) (neg (over x (λ t. at_most t (Bound c.bound)))) (neg (over y (λ t. at_most after t))) (low_means u is) (high_means w it) q f ≡ quantified_said c q x y f
      same_formula u w is it quantifier.Forall f = refl
      same_formula u w is it quantifier.Exists f = refl
