-- At a test the guard of the side that is taken is made true, and code on the other side adds only true premises.
use Rattle.std.proofs.Common.{◌≡◌, ℕ, ◌<◌, ◌≤◌, ◌+◌, List, [], ◌∷◌, Bool, true, false, eqb, refl, ◌∙◌, ap, arith}
use Rattle.std.proofs.lemmas.Bool.{eq-eqb, ne_eqb}
use Rattle.ss_store_rules.specs.Store.{Object}
use Rattle.ss_store_rules.specs.NonNull.{Known}
use Rattle.ss_logic.specs.declared.Sort.TheVariants as sort
use Rattle.ss_logic.specs.Values.{Table, Structure, as_truth}
use Rattle.ss_logic.specs.Formulas.{Formula, neg}
use Rattle.ss_vcgen_heaps.specs.Positions.{Guard, Counters, Position, Walk, side, first_side, second_side}
use Rattle.ss_sound_outcomes.specs.Points.{Point}
use Rattle.ss_vcgen_safe.specs.At.{IsAlike, Stays, IsTrueIn, HoldIn, IsOn, IsOff, IsQuiet, Agrees, Leads}
use Rattle.ss_vcgen_safe.proofs.Alike.{rises_twice, alike_twice, alike_lower, with_truths, truths_new, truths_alike, agrees_on}
use Rattle.ss_vcgen_safe.proofs.Guards.{hold_more, side_on, side_off}
use Rattle.ss_vcgen_safe.proofs.Leads.{rises_first}

-- a truth value below the counters is the same in each structure that is alike
pub truth_stays : (n : Counters) (m : Structure) (i : ℕ) (b : Bool) → i < n.truths → m.truths i ≡ b → Stays n m (λ m'. m'.truths i ≡ b)
truth_stays n m i b l e m' a = ap as_truth (a.constants sort.Truth i l) ∙ e

-- the truth values from a number on, of which one alone is true
only_new : (m : Structure) (n i : ℕ) → n ≤ i → (with_truths m n (λ j. eqb j i)).truths i ≡ true
only_new m n i l = truths_new m n (λ j. eqb j i) i l ∙ eq-eqb i i refl

others_new : (m : Structure) (n i j : ℕ) → n ≤ j → (j ≡ i → ⊥) → (with_truths m n (λ x. eqb x i)).truths j ≡ false
others_new m n i j l d = truths_new m n (λ x. eqb x i) j l ∙ ne_eqb j i d

-- Code that isn't reached: in a structure where all later truth values are false it has only true premises, and its end isn't reached.
pub record IsSkipped (w : Walk) (start end : Position) (m : Structure) : Type 0 where
  pub m' : Structure
  pub alike : IsAlike start.next m m'
  pub off : Stays end.next m' (IsOff end.guard)
  pub hold : Stays end.next m' (HoldIn w.program.classes end.premises)

pub skipped : (w : Walk) (start end : Position) (m : Structure) → Leads w start end → Stays start.next m (IsOff start.guard) → Stays start.next m (HoldIn w.program.classes start.premises) → IsSkipped w start end m
skipped w start end m x off hold =
    let n = start.next.truths in
    let m' = with_truths m n (λ j. false) in
    let alike = truths_alike m n (λ j. false) start.next (omega arith) in
    let quiet : Stays end.next m' (IsQuiet n end.next.truths) = λ m'' a i l h. truth_stays end.next m' i false h (truths_new m n (λ j. false) i l) m'' a in
    let before : (m'' : Structure) → IsAlike end.next m' m'' → IsAlike start.next m m'' = λ m'' a. alike_twice start.next m m' m'' alike (alike_lower start.next end.next m' m'' x.rises a) in
    record {
      m' = m';
      alike = alike;
      off = λ m'' a. x.off m'' (quiet m'' a) (off m'' (before m'' a));
      hold = λ m'' a. x.hold m'' (quiet m'' a) (off m'' (before m'' a)) (hold m'' (before m'' a));
    }

module _ (w : Walk) (before : List Object) (table : Table) (m : Structure) (k : Position) (p : Point) (f : Formula) (known : Known) (g : Agrees w before table m k p) where
  -- The first side is taken: its guard is true, and that of the other side is false.
  pub record FirstTaken : Type 0 where
    pub m' : Structure
    pub alike : IsAlike k.next m m'
    pub agrees : Agrees w before table m' (first_side f known k) p
    pub other : Stays (first_side f known k).next m' (λ m''. m''.truths (k.next.truths + 1) ≡ false)

  pub first_taken : Stays k.next m (IsTrueIn w.program.classes f) → FirstTaken
  first_taken t =
      let n = k.next.truths in
      let next = (first_side f known k).next in
      let m' = with_truths m n (λ j. eqb j n) in
      let alike = truths_alike m n (λ j. eqb j n) k.next (omega arith) in
      let on : Stays next m' (λ m''. m''.truths n ≡ true) = truth_stays next m' n true (omega arith) (only_new m n n (omega arith)) in
      let other : Stays next m' (λ m''. m''.truths (n + 1) ≡ false) = truth_stays next m' (n + 1) false (omega arith) (others_new m n n (n + 1) (omega arith) (λ e. absurd (omega (arith, e)))) in
      let here = agrees_on w before table k next m m' p (rises_first w f known k) alike g in
      let back : (m'' : Structure) → IsAlike next m' m'' → IsAlike k.next m m'' = λ m'' a. alike_twice k.next m m' m'' alike (alike_lower k.next next m' m'' (rises_first w f known k) a) in
      record {
        m' = m';
        alike = alike;
        agrees = record {
          table_is = here.table_is;
          entry = here.entry;
          store_is = here.store_is;
          count = here.count;
          locals = here.locals;
          guard = on;
          premises =
              λ m'' a. hold_more w.program.classes m'' k.premises (side k.guard n f ∷ side k.guard (n + 1) (neg f) ∷ []) (here.premises m'' a)
              (side_on w.program.classes m'' k.guard n f (here.guard m'' a) (t m'' (back m'' a)), (side_off w.program.classes m'' k.guard (n + 1) (neg f) (other m'' a), tt));
        };
        other = other;
      }

  -- The other side is taken, over the first one, whose end isn't reached.
  pub record SecondTaken (at : Guard) (other : Known) (first : Position) : Type 0 where
    pub m' : Structure
    pub alike : IsAlike k.next m m'
    pub agrees : Agrees w before table m' (second_side at other k first) p
    pub off : Stays first.next m' (IsOff first.guard)

  pub second_taken : (at : Guard) (other : Known) (first : Position) → ((m'' : Structure) → m''.truths (k.next.truths + 1) ≡ true → IsOn at m'') → Leads w (first_side f known k) first →
      Stays k.next m (IsTrueIn w.program.classes (neg f)) → SecondTaken at other first
  second_taken at other first is x t =
      let n = k.next.truths in
      let i = n + 1 in
      let beginning = first_side f known k in
      let m' = with_truths m n (λ j. eqb j i) in
      let alike = truths_alike m n (λ j. eqb j i) k.next (omega arith) in
      let l = x.rises sort.Truth in
      let rises = rises_twice k.next beginning.next first.next (rises_first w f known k) x.rises in
      let on : Stays first.next m' (λ m''. m''.truths i ≡ true) = truth_stays first.next m' i true (omega (arith, l)) (only_new m n i (omega arith)) in
      let off : Stays first.next m' (λ m''. m''.truths n ≡ false) = truth_stays first.next m' n false (omega (arith, l)) (others_new m n i n (omega arith) (λ e. absurd (omega (arith, e)))) in
      let quiet : Stays first.next m' (IsQuiet beginning.next.truths first.next.truths) =
      λ m'' a j b c. truth_stays first.next m' j false c (others_new m n i j (omega (arith, b)) (λ e. absurd (omega (arith, e, b)))) m'' a in
      let here = agrees_on w before table k first.next m m' p rises alike g in
      let back : (m'' : Structure) → IsAlike first.next m' m'' → IsAlike k.next m m'' = λ m'' a. alike_twice k.next m m' m'' alike (alike_lower k.next first.next m' m'' rises a) in
      let begins : (m'' : Structure) → IsAlike first.next m' m'' → HoldIn w.program.classes beginning.premises m'' =
      λ m'' a. hold_more w.program.classes m'' k.premises (side k.guard n f ∷ side k.guard i (neg f) ∷ []) (here.premises m'' a)
      (side_off w.program.classes m'' k.guard n f (off m'' a), (side_on w.program.classes m'' k.guard i (neg f) (here.guard m'' a) (t m'' (back m'' a)), tt)) in
      record {
        m' = m';
        alike = alike;
        agrees = record {
          table_is = here.table_is;
          entry = here.entry;
          store_is = here.store_is;
          count = here.count;
          locals = here.locals;
          guard = λ m'' a. is m'' (on m'' a);
          premises = λ m'' a. x.hold m'' (quiet m'' a) (off m'' a) (begins m'' a);
        };
        off = λ m'' a. x.off m'' (quiet m'' a) (off m'' a);
      }
