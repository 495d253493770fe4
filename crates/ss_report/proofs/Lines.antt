-- Lines of a verdict, one after the other.
use Rattle.std.proofs.Common.{subst, ◌≡◌, ◌≢◌, ℕ, zero, suc, ◌+◌, ◌<◌, ◌≤◌, List, [], ◌∷◌, ◌++◌, map, drop, length, Bool, true, false, ◌==◌, ◌||◌, Option, Some, None, refl, sym, ap, ◌∙◌, arith, get_or}
use Rattle.std.specs.List.{list_any, slice_index_or}
use Rattle.std.specs.Prelude.{if◌then◌else◌}
use Rattle.std.proofs.lemmas.List.{drop_more, drop-map, append_assoc}
use Rattle.std.proofs.lemmas.Bool.{ne_eqb}
use Rattle.ss_core.specs.Tree.{CoreTree}
use Rattle.ss_vcgen_heaps.specs.Positions as tree
use Rattle.ss_search_answers.specs.declared.answers.Countered.{Countered}
use Rattle.ss_search_answers.specs.declared.answers.Undecided.{Undecided}
use Rattle.ss_search_answers.specs.declared.answers.Budget.{Budget}
use Rattle.ss_search_answers.specs.Listed.{countered_numbers, undecided_numbers, AreRisingFrom}
use Rattle.ss_report.specs.Verdict.{is_countered, budget_of, line_of, lines_from}

-- ---- rising numbers

rising_higher : (low high : ℕ) (ns : List ℕ) → low ≤ high → AreRisingFrom high ns → AreRisingFrom low ns
rising_higher low high [] less h = tt
rising_higher low high (n ∷ ns) less h = (omega arith, h.1)

-- no number is below the first
not_countered : (k low : ℕ) (cs : List Countered) → k < low → AreRisingFrom low (countered_numbers cs) → is_countered cs k ≡ false
not_countered k low [] less h = refl
not_countered k low (c ∷ cs) less h =
    let first : (c.obligation == k) ≡ false = ne_eqb c.obligation k (λ e. absurd (omega arith)) in
    rw first (not_countered k (c.obligation + 1) cs (omega arith) h.1)

no_budget : (k low : ℕ) (us : List Undecided) → k < low → AreRisingFrom low (undecided_numbers us) → budget_of us k ≡ None
no_budget k low [] less h = refl
no_budget k low (u ∷ us) less h =
    let first : (u.obligation == k) ≡ false = ne_eqb u.obligation k (λ e. absurd (omega arith)) in
    rw first (no_budget k (u.obligation + 1) us (omega arith) h.1)

-- one that isn't the first, where the first isn't below
pub after_countered : (k : ℕ) (c : Countered) (cs : List Countered) → c.obligation < k → is_countered cs k ≡ is_countered (c ∷ cs) k
after_countered k c cs less = let first : (c.obligation == k) ≡ false = ne_eqb c.obligation k (λ e. absurd (omega arith)) in rw first refl

pub after_budget : (k : ℕ) (u : Undecided) (us : List Undecided) → u.obligation < k → budget_of us k ≡ budget_of (u ∷ us) k
after_budget k u us less = let first : (u.obligation == k) ≡ false = ne_eqb u.obligation k (λ e. absurd (omega arith)) in rw first refl

pub first_rises : (n : ℕ) (c : Countered) (cs : List Countered) → c.obligation ≢ n → AreRisingFrom n (countered_numbers (c ∷ cs)) → AreRisingFrom (n + 1) (countered_numbers (c ∷ cs))
first_rises n c cs other h = (omega arith, h.1)

pub first_over_rises : (n : ℕ) (u : Undecided) (us : List Undecided) → u.obligation ≢ n → AreRisingFrom n (undecided_numbers (u ∷ us)) → AreRisingFrom (n + 1) (undecided_numbers (u ∷ us))
first_over_rises n u us other h = (omega arith, h.1)

pub first_is_later : (n : ℕ) (cs : List Countered) → AreRisingFrom (n + 1) (countered_numbers cs) → is_countered cs n ≡ false
first_is_later n cs h = not_countered n (n + 1) cs (omega arith) h

pub first_over_is_later : (n : ℕ) (us : List Undecided) → AreRisingFrom (n + 1) (undecided_numbers us) → budget_of us n ≡ None
first_over_is_later n us h = no_budget n (n + 1) us (omega arith) h

-- what is known of the number of the first, where it isn't this one
pub not_first : (n : ℕ) (cs : List Countered) → AreRisingFrom n (countered_numbers cs) → ((c : Countered) (ds : List Countered) → cs ≡ c ∷ ds → c.obligation ≢ n) → is_countered cs n ≡ false
not_first n [] h other = refl
not_first n (c ∷ cs) h other = first_is_later n (c ∷ cs) (first_rises n c cs (other c cs refl) h)

pub not_first_over : (n : ℕ) (us : List Undecided) → AreRisingFrom n (undecided_numbers us) → ((u : Undecided) (vs : List Undecided) → us ≡ u ∷ vs → u.obligation ≢ n) → budget_of us n ≡ None
not_first_over n [] h other = refl
not_first_over n (u ∷ us) h other = first_over_is_later n (u ∷ us) (first_over_rises n u us (other u us refl) h)

-- ---- lines

pub lines_same : (c : CoreTree) (cs ds : List Countered) (us vs : List Undecided) (n k : ℕ) (os : List tree.Obligation) → n < k → ((j : ℕ) → n < j → is_countered ds j ≡ is_countered cs j)
    → ((j : ℕ) → n < j → budget_of vs j ≡ budget_of us j) → lines_from c ds vs k os ≡ lines_from c cs us k os
lines_same c cs ds us vs n k [] less f g = refl
lines_same c cs ds us vs n k (o ∷ os) less f g = rw (f k less, g k less, lines_same c cs ds us vs n (k + 1) os (omega arith) f g) refl

-- the line of the next obligation is added
module _ {X : Type 0} (c : CoreTree) (f : X → tree.Obligation) where
  next : (xs : List X) (i : ℕ) (d : X) → i < length xs → drop i (map f xs) ≡ f (slice_index_or xs i d) ∷ drop (i + 1) (map f xs)
  next [] i d h = absurd (omega arith)
  next (x ∷ xs) zero d h = refl
  next (x ∷ xs) (suc i) d h =
      let count : suc (i + 1) ≡ suc i + 1 = omega arith in
      subst (λ n. drop (suc i) (f x ∷ map f xs) ≡ f (slice_index_or xs i d) ∷ drop n (f x ∷ map f xs)) count (next xs i d (omega arith))

  pub one_more : (xs : List X) (i : ℕ) (d : X) (r : Bool) (v : Option Budget) → i < length xs → (cs ds : List Countered) (us vs : List Undecided) (text more whole : List ℕ) → ((j : ℕ) → i < j → is_countered ds j ≡ is_countered cs j)
      → ((j : ℕ) → i < j → budget_of vs j ≡ budget_of us j) → r ≡ is_countered cs i → v ≡ budget_of us i → more ≡ text ++ line_of c (f (slice_index_or xs i d)) r v → text ++ lines_from c cs us i (drop i (map f xs)) ≡ whole
      → more ++ lines_from c ds vs (i + 1) (drop (i + 1) (map f xs)) ≡ whole
  one_more xs i d r v small cs ds us vs text more whole p q is over e h =
      let line = line_of c (f (slice_index_or xs i d)) (is_countered cs i) (budget_of us i) in
      let rest = lines_from c cs us (i + 1) (drop (i + 1) (map f xs)) in
      let told : line_of c (f (slice_index_or xs i d)) r v ≡ line = rw (is, over) refl in
      let same : lines_from c ds vs (i + 1) (drop (i + 1) (map f xs)) ≡ rest = lines_same c cs ds us vs i (i + 1) (drop (i + 1) (map f xs)) (omega arith) p q in
      let split : text ++ lines_from c cs us i (drop i (map f xs)) ≡ text ++ (line ++ rest) = ap (λ os. text ++ lines_from c cs us i os) (next xs i d small) in
      ap (λ t. t ++ lines_from c ds vs (i + 1) (drop (i + 1) (map f xs))) (e ∙ ap (λ l. text ++ l) told) ∙ ap (λ l. (text ++ line) ++ l) same ∙ append_assoc text line rest ∙ sym split ∙ h

-- the parts of a text, one after the other
pub four_parts : (a b c d : List ℕ) → a ++ (b ++ (c ++ d)) ≡ a ++ b ++ c ++ d
four_parts a b c d = simp append_assoc

-- those of a check; the place is three of them
pub check_parts : (k a l c m i n d b : List ℕ) → k ++ (a ++ (l ++ (c ++ (m ++ (i ++ (n ++ (d ++ b))))))) ≡ k ++ a ++ (l ++ c ++ m) ++ i ++ n ++ d ++ b
check_parts k a l c m i n d b = simp append_assoc

-- a text to which three parts are added
pub three_parts : (old first second new a b d l : List ℕ) → first ≡ old ++ a → second ≡ first ++ b → new ≡ second ++ d → d ≡ l → new ≡ old ++ (a ++ (b ++ l))
three_parts old first second new a b d l p q r e =
    r ∙ ap (λ x. second ++ x) e ∙ ap (λ x. x ++ l) q ∙ append_assoc first b l ∙ ap (λ x. x ++ (b ++ l)) p ∙ append_assoc old a (b ++ l)
