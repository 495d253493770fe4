-- Lists of obligations that are decided from the front.
use Rattle.std.proofs.Common.{◌≡◌, ◌≢◌, ℕ, zero, suc, ◌+◌, ◌*◌, ◌<◌, ◌≤◌, ◌⊎◌, inl, inr, ⊎_elim, List, [], ◌∷◌, ◌++◌, map, take, drop, length, Some, refl, sym, ap, ◌∙◌, subst, arith}
use Rattle.std.specs.Prelude.{Result, Ok, IfOk}
use Rattle.ss_sound.specs.declared.decision.Decision.{Decision}
use Rattle.ss_sound.specs.declared.decision.Decision.TheVariants as decision
use Rattle.ss_sound.specs.declared.verdict.Decided.{Decided}
use Rattle.std.specs.List.{slice_get, slice_index_or}
use borrow.Author.Count.{below_more}
use Rattle.std.proofs.lemmas.Bool.{cases_eq}
use Rattle.std.proofs.lemmas.List.{append-nil, map_push, length-map}
use Rattle.ss_core.specs.Tree.{ClassTree}
use Rattle.ss_logic_means.specs.Steps as tree
use Rattle.ss_terms.specs.declared.forms.FormulaId.{FormulaId}
use Rattle.ss_terms.specs.Forms.{Forms, HasFormula, HasFormulas, IsGrown}
use Rattle.ss_terms.proofs.Grown.{HasFormula-grown, formulas_at-grown}
use Rattle.ss_vcgen_heaps.specs.Positions as oblig
use Rattle.ss_vcgen_safe.specs.Derived.{AreDerived}
use Rattle.ss_vcgen_safe.specs.Formed.{IsWellFormed, AreFormed}
use Rattle.ss_vcgen_builder.specs.declared.builder.Listed.{Listed}
use Rattle.ss_vcgen_builder.specs.Builder.{obligation_at, obligations_at, IsPlaced, AreWithin}
use Rattle.ss_vcgen_builder.proofs.Within.{AreBelow-take, AreBelow-drop, within_at}
use Rattle.ss_deriv.specs.declared.line.Line.{Line}
use Rattle.ss_deriv.specs.Lines.{lines_of}
use Rattle.ss_search.proofs.Kept.{lines_kept}
use Rattle.ss_search_answers.specs.declared.answers.Options.{Options}
use Rattle.ss_search_answers.specs.declared.answers.Countered.{Countered}
use Rattle.ss_search_answers.specs.declared.answers.Undecided.{Undecided}
use Rattle.ss_sound.specs.Decided.{IsDerivedBy, IsCountered, IsOverBudget, IfDerived, IfRefuted, IfOver}
use Rattle.ss_sound.specs.Verdicts.{IsProved, IfThere, AreCountered, AreUndecided, IsNoneOf, AreDecided, derivations_of, derivations_in, countered_in, undecided_in}
use Rattle.ss_search_answers.specs.Listed.{countered_numbers, undecided_numbers, AreRisingFrom}

-- ---- the obligation at a number

tree_at : (b : Forms) (trail : List FormulaId) (os : List Listed) (k : ℕ) (o : Listed) → slice_get os k ≡ Some o
    → slice_get (obligations_at b trail os) k ≡ Some (obligation_at b trail o)
tree_at b trail [] k o e = absurd (cc)
tree_at b trail (x ∷ xs) zero o e = let same : x ≡ o = cc in ap (λ y. Some (obligation_at b trail y)) same
tree_at b trail (x ∷ xs) (suc k) o e = tree_at b trail xs k o e

-- the obligation that code reads at a number
read_at : (os : List Listed) (k : ℕ) (d : Listed) → k < length os → slice_get os k ≡ Some (slice_index_or os k d)
read_at [] k d h = absurd (omega arith)
read_at (x ∷ xs) zero d h = refl
read_at (x ∷ xs) (suc k) d h = read_at xs k d (omega arith)

pub placed_at : (a b : Forms) (n : ℕ) (os : List Listed) (k : ℕ) (d : Listed) → IsGrown a b → AreWithin a n os → k < length os → IsPlaced b n (slice_index_or os k d)
placed_at a b n os k d grown h small =
    let here : IsPlaced a n (slice_index_or os k d) = within_at a n os k (slice_index_or os k d) h (read_at os k d small) in
    record { goal = HasFormula-grown a b grown (slice_index_or os k d).goal here.goal; first = here.first; end = here.end }

-- an obligation says the same in a bank that has grown
obligation_grown : (a b : Forms) (trail : List FormulaId) (o : Listed) → IsGrown a b → HasFormulas a trail → HasFormula a o.goal → obligation_at b trail o ≡ obligation_at a trail o
obligation_grown a b trail o grown has goal =
    let premises : HasFormulas a (drop o.first (take o.end trail)) = AreBelow-drop (length a.formulas * 2) o.first (take o.end trail) (AreBelow-take (length a.formulas * 2) o.end trail has) in
    rw (formulas_at-grown a b grown (drop o.first (take o.end trail)) premises, grown.same_formulas o.goal goal) refl

pub obligations_grown : (a b : Forms) (trail : List FormulaId) (n : ℕ) (os : List Listed) → IsGrown a b → HasFormulas a trail → AreWithin a n os → obligations_at b trail os ≡ obligations_at a trail os
obligations_grown a b trail n [] grown has within = refl
obligations_grown a b trail n (x ∷ xs) grown has within =
    let first = obligation_grown a b trail x grown has within.0.goal in let others = obligations_grown a b trail n xs grown has within.1 in cc

-- each obligation of a list that is well formed is well formed
formed_of : (cs : List ClassTree) (os : List oblig.Obligation) (k : ℕ) (o : oblig.Obligation) → AreFormed cs os → slice_get os k ≡ Some o → IsWellFormed cs o
formed_of cs [] k o h e = absurd (cc)
formed_of cs (x ∷ xs) zero o h e = let same : x ≡ o = cc in subst (IsWellFormed cs) same h.0
formed_of cs (x ∷ xs) (suc k) o h e = formed_of cs xs k o h.1 e

pub formed_at : (cs : List ClassTree) (a b : Forms) (trail : List FormulaId) (os : List Listed) (k : ℕ) (d : Listed) → IsGrown a b → HasFormulas a trail → AreWithin a (length trail) os → AreFormed cs (obligations_at a trail os) → k < length os
    → IsWellFormed cs (obligation_at b trail (slice_index_or os k d))
formed_at cs a b trail os k d grown has within h small =
    let o = slice_index_or os k d in
    let here : slice_get os k ≡ Some o = read_at os k d small in
    let same : obligation_at b trail o ≡ obligation_at a trail o = obligation_grown a b trail o grown has (within_at a (length trail) os k o within here).goal in
    subst (IsWellFormed cs) (sym same) (formed_of cs (obligations_at a trail os) k (obligation_at a trail o) h (tree_at a trail os k o here))

pub formed_later : (cs : List ClassTree) (a b : Forms) (trail : List FormulaId) (os : List Listed) → IsGrown a b → HasFormulas a trail → AreWithin a (length trail) os → AreFormed cs (obligations_at a trail os) → AreFormed cs (obligations_at b trail os)
formed_later cs a b trail os grown has within h = subst (AreFormed cs) (sym (obligations_grown a b trail (length trail) os grown has within)) h

length-obligations_at : (b : Forms) (trail : List FormulaId) (os : List Listed) → length (obligations_at b trail os) ≡ length os
length-obligations_at b trail os = length-map os (obligation_at b trail)

-- ---- rising numbers

-- all numbers are below
abbrev pub AreNumbersBelow : ℕ → List ℕ → Type 0
AreNumbersBelow n [] = Unit {0}
AreNumbersBelow n (k ∷ ks) = (k < n) × AreNumbersBelow n ks

numbers_more : (n : ℕ) (ks : List ℕ) → AreNumbersBelow n ks → AreNumbersBelow (n + 1) ks
numbers_more n [] h = tt
numbers_more n (k ∷ ks) h = (omega arith, numbers_more n ks h.1)

numbers_push : (n : ℕ) (ks : List ℕ) → AreNumbersBelow n ks → AreNumbersBelow (n + 1) (ks ++ n ∷ [])
numbers_push n [] h = (omega arith, tt)
numbers_push n (k ∷ ks) h = (omega arith, numbers_push n ks h.1)

rising_push : (low n : ℕ) (ks : List ℕ) → low ≤ n → AreRisingFrom low ks → AreNumbersBelow n ks → AreRisingFrom low (ks ++ n ∷ [])
rising_push low n [] below h all = (below, tt)
rising_push low n (k ∷ ks) below h all = (h.0, rising_push (k + 1) n ks (omega arith) h.1 all.1)

none_front : (ks : List ℕ) (n k : ℕ) → IsNoneOf (ks ++ n ∷ []) k → IsNoneOf ks k
none_front [] n k h = tt
none_front (x ∷ xs) n k h = (h.0, none_front xs n k h.1)

none_last : (ks : List ℕ) (n k : ℕ) → IsNoneOf (ks ++ n ∷ []) k → n ≢ k
none_last [] n k h = h.0
none_last (x ∷ xs) n k h = none_last xs n k h.1

-- numbers that are all below are none of them the bound
not_below : (k n : ℕ) → k < n → k ≢ n
not_below k n less e = omega arith

none_bound : (n : ℕ) (ks : List ℕ) → AreNumbersBelow n ks → IsNoneOf ks n
none_bound n [] h = tt
none_bound n (k ∷ ks) h = (not_below k n h.0, none_bound n ks h.1)

none_push : (ks : List ℕ) (n k : ℕ) → n ≢ k → IsNoneOf ks k → IsNoneOf (ks ++ n ∷ []) k
none_push [] n k differs h = (differs, tt)
none_push (x ∷ xs) n k differs h = (h.0, none_push xs n k differs h.1)

-- two lists that have no number in common, and one more that is above those of the second
apart_push : (ks ms : List ℕ) (n k : ℕ) → IsNoneOf ks k ⊎ IsNoneOf ms k → AreNumbersBelow n ms → IsNoneOf (ks ++ n ∷ []) k ⊎ IsNoneOf ms k
apart_push ks ms n k h below =
    ⊎_elim (λ same. inr (subst (λ j. IsNoneOf ms j) same (none_bound n ms below))) (λ differs. ⊎_elim (λ free. inl (none_push ks n k differs free)) (λ clear. inr clear) h) (cases_eq n k)

turned : {A B : Type 0} → A ⊎ B → B ⊎ A
turned h = ⊎_elim (λ a. inr a) (λ b. inl b) h

countered_more : (ls : List Countered) (l : Countered) (n : ℕ) → l.obligation ≡ n → countered_numbers (ls ++ l ∷ []) ≡ countered_numbers ls ++ n ∷ []
countered_more ls l n e = map_push (λ x. x.obligation) ls l ∙ ap (λ k. countered_numbers ls ++ k ∷ []) e

undecided_more : (ls : List Undecided) (l : Undecided) (n : ℕ) → l.obligation ≡ n → undecided_numbers (ls ++ l ∷ []) ≡ undecided_numbers ls ++ n ∷ []
undecided_more ls l n e = map_push (λ x. x.obligation) ls l ∙ ap (λ k. undecided_numbers ls ++ k ∷ []) e

-- where the numbers are those before with n after them
module _ (low n : ℕ) (ks more : List ℕ) (e : more ≡ ks ++ n ∷ []) where
  pushed_rise : low ≤ n → AreRisingFrom low ks → AreNumbersBelow n ks → AreRisingFrom low more
  pushed_rise below h all = rw e (rising_push low n ks below h all)

  pushed_below : AreNumbersBelow n ks → AreNumbersBelow (n + 1) more
  pushed_below h = rw e (numbers_push n ks h)

  pushed_front : (k : ℕ) → IsNoneOf more k → IsNoneOf ks k
  pushed_front k h = none_front ks n k (subst (λ ns. IsNoneOf ns k) e h)

  pushed_apart : (ms : List ℕ) (k : ℕ) → IsNoneOf ks k ⊎ IsNoneOf ms k → AreNumbersBelow n ms → IsNoneOf more k ⊎ IsNoneOf ms k
  pushed_apart ms k h below = rw e (apart_push ks ms n k h below)

  pushed_last : IsNoneOf more n → ⊥
  pushed_last h = none_last ks n n (subst (λ ns. IsNoneOf ns n) e h) refl

no_push : {X : Type 0} (xs : List X) (x : X) → xs ++ x ∷ [] ≡ [] → ⊥
no_push [] x e = absurd (cc)
no_push (y ∷ ys) x e = absurd (cc)

-- ---- derivations

first_more : (os : List oblig.Obligation) (k : ℕ) (o : oblig.Obligation) → slice_get os k ≡ Some o → take (k + 1) os ≡ take k os ++ o ∷ []
first_more [] k o e = absurd (cc)
first_more (x ∷ xs) zero o e = let same : x ≡ o = cc in ap (λ y. y ∷ []) same
first_more (x ∷ xs) (suc k) o e =
    let count : suc (k + 1) ≡ suc k + 1 = omega arith in
    subst (λ n. take n (x ∷ xs) ≡ x ∷ (take k xs ++ o ∷ [])) count (ap (λ ys. x ∷ ys) (first_more xs k o e))

first_all : (os : List oblig.Obligation) (k : ℕ) → k ≡ length os → take k os ≡ os
first_all [] k e = rw e refl
first_all (x ∷ xs) zero e = absurd (cc)
first_all (x ∷ xs) (suc k) e = ap (λ ys. x ∷ ys) (first_all xs k (omega arith))

module _ (cs : List ClassTree) where
  derived_push : (os : List oblig.Obligation) (ds : List (List tree.Line)) (o : oblig.Obligation) (d : List tree.Line) → AreDerived cs os ds → IsDerivedBy cs o d → AreDerived cs (os ++ o ∷ []) (ds ++ d ∷ [])
  derived_push [] [] o d h new = (new, tt)
  derived_push [] (e ∷ es) o d h new = absurd h
  derived_push (x ∷ xs) [] o d h new = absurd h
  derived_push (x ∷ xs) (e ∷ es) o d h new = (h.0, derived_push xs es o d h.1 new)

  derivations_kept : (a b : Forms) → IsGrown a b → (os : List oblig.Obligation) (ds : List (List Line)) → AreDerived cs os (derivations_of a ds) → derivations_of b ds ≡ derivations_of a ds
  derivations_kept a b g os [] h = refl
  derivations_kept a b g [] (d ∷ ds) h = absurd h
  derivations_kept a b g (o ∷ os) (d ∷ ds) h =
      let first = lines_kept cs o.premises o.goal a b g d h.0 in let others = derivations_kept a b g os ds h.1 in cc

-- ---- how far a list is decided

module _ (cs : List ClassTree) (p : Options) where
  countered_push : (os : List oblig.Obligation) (ls : List Countered) (l : Countered) → AreCountered cs p os ls → IfThere (slice_get os l.obligation) (λ o. IsCountered cs p o l.model) → AreCountered cs p os (ls ++ l ∷ [])
  countered_push os [] l h r = (r, tt)
  countered_push os (x ∷ xs) l h r = (h.0, countered_push os xs l h.1 r)

  undecided_push : (os : List oblig.Obligation) (ls : List Undecided) (l : Undecided) → AreUndecided cs p os ls → IfThere (slice_get os l.obligation) (λ o. IsOverBudget cs p o l.cause) → AreUndecided cs p os (ls ++ l ∷ [])
  undecided_push os [] l h r = (r, tt)
  undecided_push os (x ∷ xs) l h r = (h.0, undecided_push os xs l h.1 r)

  pub record IsDecidedTo (os : List oblig.Obligation) (n : ℕ) (b : Forms) (ms : List Countered) (us : List Undecided) (ds : List (List Line)) : Type 0 where
    pub decided : AreDecided cs p os n ms us
    pub countered_below : AreNumbersBelow n (countered_numbers ms)
    pub undecided_below : AreNumbersBelow n (undecided_numbers us)
    pub derived : ms ≡ [] → us ≡ [] → AreDerived cs (take n os) (derivations_of b ds)

  pub decided_none : (os : List oblig.Obligation) (b : Forms) → IsDecidedTo os 0 b [] [] []
  decided_none os b = record {
    decided = record { are_countered = tt; are_undecided = tt; countered_rise = tt; undecided_rise = tt; apart = λ k. inl tt; others = λ k o small e clean none. absurd (omega arith) };
    countered_below = tt;
    undecided_below = tt;
    derived = λ e d. tt;
  }

  module _ (os : List oblig.Obligation) (n : ℕ) (a b : Forms) (ms : List Countered) (us : List Undecided) (ds : List (List Line)) (o : oblig.Obligation) (h : IsDecidedTo os n a ms us ds) (e : slice_get os n ≡ Some o) where
    decided_derived : (d : List Line) → IsGrown a b → IsDerivedBy cs o (lines_of b d) → IsDecidedTo os (n + 1) b ms us (ds ++ d ∷ [])
    decided_derived d g new =
        let P : ℕ → Type 0 = λ k. (x : oblig.Obligation) → slice_get os k ≡ Some x → IsNoneOf (countered_numbers ms) k → IsNoneOf (undecided_numbers us) k → IsProved cs x in record {
          decided = record {
            are_countered = h.decided.are_countered;
            are_undecided = h.decided.are_undecided;
            countered_rise = h.decided.countered_rise;
            undecided_rise = h.decided.undecided_rise;
            apart = h.decided.apart;
            others = λ k x small at clean none. below_more P n (λ j less y here free clear. h.decided.others j y less here free clear)
                (λ y here free clear. let same : o ≡ y = cc in subst (IsProved cs) same (lines_of b d, new)) k small x at clean none;
          };
          countered_below = numbers_more n (countered_numbers ms) h.countered_below;
          undecided_below = numbers_more n (undecided_numbers us) h.undecided_below;
          derived = λ clean none.
              let before : AreDerived cs (take n os) (derivations_of a ds) = h.derived clean none in
              let kept : derivations_of b ds ≡ derivations_of a ds = derivations_kept cs a b g (take n os) ds before in
              let both : derivations_of b (ds ++ d ∷ []) ≡ derivations_of a ds ++ lines_of b d ∷ [] = map_push (lines_of b) ds d ∙ ap (λ es. es ++ lines_of b d ∷ []) kept in
              rw (first_more os n o e, both) (derived_push cs (take n os) (derivations_of a ds) o (lines_of b d) before new);
        }

    decided_countered : (l : Countered) → l.obligation ≡ n → IsCountered cs p o l.model → IsDecidedTo os (n + 1) b (ms ++ l ∷ []) us ds
    decided_countered l at why =
        let P : ℕ → Type 0 = λ k. (x : oblig.Obligation) → slice_get os k ≡ Some x → IsNoneOf (countered_numbers (ms ++ l ∷ [])) k → IsNoneOf (undecided_numbers us) k → IsProved cs x in
        let numbers : countered_numbers (ms ++ l ∷ []) ≡ countered_numbers ms ++ n ∷ [] = countered_more ms l n at in record {
          decided = record {
            are_countered = countered_push os ms l h.decided.are_countered (rw (at, e) why);
            are_undecided = h.decided.are_undecided;
            countered_rise = pushed_rise 0 n (countered_numbers ms) (countered_numbers (ms ++ l ∷ [])) numbers (omega arith) h.decided.countered_rise h.countered_below;
            undecided_rise = h.decided.undecided_rise;
            apart = λ k. pushed_apart 0 n (countered_numbers ms) (countered_numbers (ms ++ l ∷ [])) numbers (undecided_numbers us) k (h.decided.apart k) h.undecided_below;
            others = λ k x small here clean none. below_more P n
                (λ j less y there free clear. h.decided.others j y less there (pushed_front 0 n (countered_numbers ms) (countered_numbers (ms ++ l ∷ [])) numbers j free) clear)
                (λ y there free clear. absurd (pushed_last 0 n (countered_numbers ms) (countered_numbers (ms ++ l ∷ [])) numbers free)) k small x here clean none;
          };
          countered_below = pushed_below 0 n (countered_numbers ms) (countered_numbers (ms ++ l ∷ [])) numbers h.countered_below;
          undecided_below = numbers_more n (undecided_numbers us) h.undecided_below;
          derived = λ clean none. absurd (no_push ms l clean);
        }

    decided_over : (l : Undecided) → l.obligation ≡ n → IsOverBudget cs p o l.cause → IsDecidedTo os (n + 1) b ms (us ++ l ∷ []) ds
    decided_over l at why =
        let P : ℕ → Type 0 = λ k. (x : oblig.Obligation) → slice_get os k ≡ Some x → IsNoneOf (countered_numbers ms) k → IsNoneOf (undecided_numbers (us ++ l ∷ [])) k → IsProved cs x in
        let numbers : undecided_numbers (us ++ l ∷ []) ≡ undecided_numbers us ++ n ∷ [] = undecided_more us l n at in record {
          decided = record {
            are_countered = h.decided.are_countered;
            are_undecided = undecided_push os us l h.decided.are_undecided (rw (at, e) why);
            countered_rise = h.decided.countered_rise;
            undecided_rise = pushed_rise 0 n (undecided_numbers us) (undecided_numbers (us ++ l ∷ [])) numbers (omega arith) h.decided.undecided_rise h.undecided_below;
            apart = λ k. turned (pushed_apart 0 n (undecided_numbers us) (undecided_numbers (us ++ l ∷ [])) numbers (countered_numbers ms) k (turned (h.decided.apart k)) h.countered_below);
            others = λ k x small here clean none. below_more P n
                (λ j less y there free clear. h.decided.others j y less there free (pushed_front 0 n (undecided_numbers us) (undecided_numbers (us ++ l ∷ [])) numbers j clear))
                (λ y there free clear. absurd (pushed_last 0 n (undecided_numbers us) (undecided_numbers (us ++ l ∷ [])) numbers clear)) k small x here clean none;
          };
          countered_below = numbers_more n (countered_numbers ms) h.countered_below;
          undecided_below = pushed_below 0 n (undecided_numbers us) (undecided_numbers (us ++ l ∷ [])) numbers h.undecided_below;
          derived = λ clean none. absurd (no_push us l none);
        }

  -- the next obligation of the list was decided, in a bank that has grown
  module _ (a : Forms) (trail : List FormulaId) (os : List Listed) (has : HasFormulas a trail) (within : AreWithin a (length trail) os) (k : ℕ) (y : Listed) (small : k < length os)
      (b c : Forms) (grown : IsGrown a b) (ms : List Countered) (us : List Undecided) (ds : List (List Line)) (h : IsDecidedTo (obligations_at a trail os) k b ms us ds) where
    there : slice_get (obligations_at a trail os) k ≡ Some (obligation_at a trail (slice_index_or os k y))
    there = tree_at a trail os k (slice_index_or os k y) (read_at os k y small)

    same : obligation_at b trail (slice_index_or os k y) ≡ obligation_at a trail (slice_index_or os k y)
    same = obligation_grown a b trail (slice_index_or os k y) grown has (within_at a (length trail) os k (slice_index_or os k y) within (read_at os k y small)).goal

    -- by what was found of it
    step_decided : (E : Type 0) (x : Decision) (ms' : List Countered) (us' : List Undecided) (ds' : List (List Line)) → IsGrown b c → ds' ≡ ds ++ derivations_in x → ms' ≡ ms ++ countered_in k x → us' ≡ us ++ undecided_in k x
        → IfDerived {E = E} (Ok x) (λ d. IsDerivedBy cs (obligation_at b trail (slice_index_or os k y)) (lines_of c d)) → IfRefuted {E = E} (Ok x) (IsCountered cs p (obligation_at b trail (slice_index_or os k y)))
        → IfOver {E = E} (Ok x) (IsOverBudget cs p (obligation_at b trail (slice_index_or os k y))) → IsDecidedTo (obligations_at a trail os) (k + 1) c ms' us' ds'
    step_decided E (decision.Derived d) ms' us' ds' more de me ue new refuted over =
        rw (de, me ∙ append-nil ms, ue ∙ append-nil us) (decided_derived (obligations_at a trail os) k b c ms us ds (obligation_at a trail (slice_index_or os k y)) h there d more (subst (λ z. IsDerivedBy cs z (lines_of c d)) same new))
    step_decided E (decision.Refuted m) ms' us' ds' more de me ue new refuted over =
        rw (de ∙ append-nil ds, me, ue ∙ append-nil us)
        (decided_countered (obligations_at a trail os) k b c ms us ds (obligation_at a trail (slice_index_or os k y)) h there (record { obligation = k; model = m }) refl (subst (λ z. IsCountered cs p z m) same refuted))
    step_decided E (decision.Over o) ms' us' ds' more de me ue new refuted over =
        rw (de ∙ append-nil ds, me ∙ append-nil ms, ue)
        (decided_over (obligations_at a trail os) k b c ms us ds (obligation_at a trail (slice_index_or os k y)) h there (record { obligation = k; cause = o }) refl (subst (λ z. IsOverBudget cs p z o) same over))

    -- the same, where the decision was the answer of a call
    pub step_found : (E : Type 0) (r : Result Decision E) (x : Decision) (ms' : List Countered) (us' : List Undecided) (ds' : List (List Line)) → r ≡ Ok x → IsGrown b c → ds' ≡ ds ++ derivations_in x → ms' ≡ ms ++ countered_in k x
        → us' ≡ us ++ undecided_in k x → IfDerived r (λ d. IsDerivedBy cs (obligation_at b trail (slice_index_or os k y)) (lines_of c d)) → IfRefuted r (IsCountered cs p (obligation_at b trail (slice_index_or os k y)))
        → IfOver r (IsOverBudget cs p (obligation_at b trail (slice_index_or os k y))) → IsDecidedTo (obligations_at a trail os) (k + 1) c ms' us' ds'
    step_found E r x ms' us' ds' was more de me ue new refuted over =
        step_decided E x ms' us' ds' more de me ue (subst (λ q. IfDerived q (λ d. IsDerivedBy cs (obligation_at b trail (slice_index_or os k y)) (lines_of c d))) was new)
        (subst (λ q. IfRefuted q (IsCountered cs p (obligation_at b trail (slice_index_or os k y)))) was refuted) (subst (λ q. IfOver q (IsOverBudget cs p (obligation_at b trail (slice_index_or os k y)))) was over)

  -- where nothing is listed of a list that is decided to its end, each obligation has its derivation
  pub derived_to_end : (a b : Forms) (trail : List FormulaId) (os : List Listed) (n : ℕ) (ms : List Countered) (us : List Undecided) (ds : List (List Line)) → n ≡ length os
      → IsDecidedTo (obligations_at a trail os) n b ms us ds → ms ≡ [] → us ≡ [] → AreDerived cs (obligations_at a trail os) (derivations_of b ds)
  derived_to_end a b trail os n ms us ds e h clean none =
      subst (λ xs. AreDerived cs xs (derivations_of b ds)) (first_all (obligations_at a trail os) n (e ∙ sym (length-obligations_at a trail os))) (h.derived clean none)

  -- what is decided of a list of obligations
  pub decided_whole : (a : Forms) (trail : List FormulaId) (os : List Listed) (all : List oblig.Obligation) (ms : List Countered) (us : List Undecided) → obligations_at a trail os ≡ all
      → AreDecided cs p (obligations_at a trail os) (length os) ms us → AreDecided cs p all (length all) ms us
  decided_whole a trail os all ms us e h =
      subst (λ xs. AreDecided cs p xs (length xs) ms us) e (subst (λ n. AreDecided cs p (obligations_at a trail os) n ms us) (sym (length-obligations_at a trail os)) h)

  -- what is decided of obligations, where they are read in a bank that had grown
  pub decided_before : {E : Type 0} (r : Result Decided E) (a b : Forms) (trail : List FormulaId) (os : List Listed) (n : ℕ) → IsGrown a b → HasFormulas a trail → AreWithin a (length trail) os
      → IfOk r (λ d. AreDecided cs p (obligations_at b trail os) n d.countered.items d.undecided.items) → IfOk r (λ d. AreDecided cs p (obligations_at a trail os) n d.countered.items d.undecided.items)
  decided_before r a b trail os n grown has within h = subst (λ xs. IfOk r (λ d. AreDecided cs p xs n d.countered.items d.undecided.items)) (obligations_grown a b trail (length trail) os grown has within) h

  pub derived_before : {E : Type 0} (r : Result Decided E) (a b c : Forms) (trail : List FormulaId) (os : List Listed) → IsGrown a b → HasFormulas a trail → AreWithin a (length trail) os
      → IfOk r (λ d. d.countered.items ≡ [] → d.undecided.items ≡ [] → AreDerived cs (obligations_at b trail os) (derivations_of c d.derivations.items))
      → IfOk r (λ d. d.countered.items ≡ [] → d.undecided.items ≡ [] → AreDerived cs (obligations_at a trail os) (derivations_of c d.derivations.items))
  derived_before r a b c trail os grown has within h =
      subst (λ xs. IfOk r (λ d. d.countered.items ≡ [] → d.undecided.items ≡ [] → AreDerived cs xs (derivations_of c d.derivations.items))) (obligations_grown a b trail (length trail) os grown has within) h
