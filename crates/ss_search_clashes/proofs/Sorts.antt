-- Equal terms have one sort, and are well sorted together.
use Rattle.std.proofs.Common.{◌≡◌, ℕ, suc, List, [], ◌∷◌, length, map, Bool, true, false, ◌&&◌, Some, refl, sym, ◌∙◌, ap, subst, ⊎_elim, arith}
use Rattle.std.specs.Prelude.{slice_get}
use Rattle.std.proofs.lemmas.Bool.{false≢true, and_parts, and_from, le-ltb}
use Rattle.ss_core.specs.Tree.{ClassTree}
use Rattle.ss_logic.specs.Terms.{Term, Bound, App, Terms, terms_from, same_sort, takes, sort_of, sorts_of, is_well_sorted, are_well_sorted}
use Rattle.ss_logic.specs.Formulas.{Predicate, Formula, Literal, takes_sorts, is_well_formed}
use Rattle.ss_logic.proofs.Truth.{equal_sorts, same_sort_refl}
use Rattle.ss_logic.specs.Shapes.{equal}
use Rattle.ss_terms.specs.declared.forms.TermId.{TermId}
use Rattle.ss_terms.specs.declared.forms.Symbol.{Symbol}
use Rattle.ss_terms.specs.Forms.{Forms, TermShape, AppShape, term_at, terms_at, symbol_of}
use Rattle.ss_terms.specs.Bank.{number}
use Rattle.ss_equality_rules.specs.declared.Merge.{Merge}
use Rattle.ss_equality_rules.specs.declared.Join.{Join}
use Rattle.ss_equality_rules.specs.Equal.{IsEqual, merged, itself, back, through, applied, AreFormsOf}
use Rattle.ss_equality_rules.specs.Names.{Has, name, IsLog}
use Rattle.ss_equality_rules.specs.Whole.{AreCaused}
use Rattle.ss_equality_rules.proofs.Lists.{has_cases, has_none}
use Rattle.ss_equality_rules.proofs.Equal.{named_equal}
use Rattle.ss_search_clashes.specs.Needed.{IsHandedDown}
use Rattle.ss_search_clashes.specs.Said.{AreKnown}

module _ (cs : List ClassTree) where
  -- ---- equalities

  pub formed_parts : (x y : Term) → is_well_formed cs [] (equal x y) ≡ true → (sort_of cs [] x ≡ sort_of cs [] y) × (is_well_sorted cs [] x ≡ true) × (is_well_sorted cs [] y ≡ true)
  formed_parts x y h =
      let p = and_parts (same_sort (sort_of cs [] x) (sort_of cs [] y)) (is_well_sorted cs [] x && (is_well_sorted cs [] y && true)) h in
      let q = and_parts (is_well_sorted cs [] x) (is_well_sorted cs [] y && true) p.1 in
      (equal_sorts (sort_of cs [] x) (sort_of cs [] y) p.0, q.0, (and_parts (is_well_sorted cs [] y) true q.1).0)

  pub formed_equal : (x y : Term) → sort_of cs [] x ≡ sort_of cs [] y → is_well_sorted cs [] x ≡ true → is_well_sorted cs [] y ≡ true → is_well_formed cs [] (equal x y) ≡ true
  formed_equal x y s a b =
      and_from (same_sort (sort_of cs [] x) (sort_of cs [] y)) (is_well_sorted cs [] x && (is_well_sorted cs [] y && true))
      (ap (λ r. same_sort r (sort_of cs [] y)) s ∙ same_sort_refl (sort_of cs [] y))
      (and_from (is_well_sorted cs [] x) (is_well_sorted cs [] y && true) a (and_from (is_well_sorted cs [] y) true b refl))

  -- ---- terms alike

  pub record AreAlike (x y : Term) : Type 0 where
    pub sort : sort_of cs [] x ≡ sort_of cs [] y
    pub sorted : is_well_sorted cs [] x ≡ is_well_sorted cs [] y

  unbound : (k : ℕ) → is_well_sorted cs [] (Bound k) ≡ false
  unbound k = le-ltb k 0 (omega arith)

  -- a name that nothing binds isn't well sorted
  pub unsorted : (t : Term) (k : ℕ) → t ≡ Bound k → is_well_sorted cs [] t ≡ true → ⊥
  unsorted t k is sorted = false≢true (sym (ap (is_well_sorted cs []) is ∙ unbound k) ∙ sorted)

  -- two such names are alike
  names_alike : (x y : Term) (j k : ℕ) → x ≡ Bound j → y ≡ Bound k → AreAlike x y
  names_alike x y j k is_x is_y = record {
    sort = ap (sort_of cs []) is_x ∙ sym (ap (sort_of cs []) is_y);
    sorted = ap (is_well_sorted cs []) is_x ∙ unbound j ∙ sym (ap (is_well_sorted cs []) is_y ∙ unbound k);
  }

  module _ (b : Forms) where
    abbrev At : TermId → Term
    At t = term_at b t

    abbrev All : List TermId → Terms
    All ts = terms_from (map (term_at b) ts)

    -- the terms of two lists are alike, one by one
    abbrev pub AllAlike : List TermId → List TermId → Type 0
    AllAlike xs ys = (i : ℕ) (x y : TermId) → slice_get xs i ≡ Some x → slice_get ys i ≡ Some y → AreAlike (term_at b x) (term_at b y)

    pub lists_alike : (xs ys : List TermId) → length xs ≡ length ys → AllAlike xs ys →
        (sorts_of cs [] (All xs) ≡ sorts_of cs [] (All ys)) × (are_well_sorted cs [] (All xs) ≡ are_well_sorted cs [] (All ys))
    lists_alike [] [] l h = (refl, refl)
    lists_alike [] (y ∷ ys) l h = absurd (omega (arith, l))
    lists_alike (x ∷ xs) [] l h = absurd (omega (arith, l))
    lists_alike (x ∷ xs) (y ∷ ys) l h =
        let first = h 0 x y refl refl in
        let rest = lists_alike xs ys (omega (arith, l)) (λ i a c p q. h (suc i) a c p q) in (
          ap (λ s. s ∷ sorts_of cs [] (All xs)) first.sort ∙ ap (λ ss. sort_of cs [] (At y) ∷ ss) rest.0,
          ap (λ s. s && are_well_sorted cs [] (All xs)) first.sorted ∙ ap (λ s. is_well_sorted cs [] (At y) && s) rest.1,
        )

    -- an argument of a well sorted term is one
    pub argument_sorted : (xs : List TermId) → are_well_sorted cs [] (All xs) ≡ true → (x : TermId) → Has xs x → is_well_sorted cs [] (At x) ≡ true
    argument_sorted [] h x k = absurd (has_none x k)
    argument_sorted (z ∷ xs) h x k =
        let p = and_parts (is_well_sorted cs [] (At z)) (are_well_sorted cs [] (All xs)) h in
        ⊎_elim (λ rest. argument_sorted xs p.1 x rest) (λ is. subst (λ t. is_well_sorted cs [] (At t) ≡ true) is p.0) (has_cases z xs x k)

    -- a literal of terms alike is well formed too
    pub literal_formed : (s : Bool) (p : Predicate) (xs ys : List TermId) → length xs ≡ length ys → AllAlike xs ys →
        is_well_formed cs [] (Literal s p (terms_from (terms_at b xs))) ≡ true → is_well_formed cs [] (Literal s p (terms_from (terms_at b ys))) ≡ true
    literal_formed s p xs ys l h formed =
        let same = lists_alike xs ys l h in
        sym (ap (λ ss. takes_sorts p ss && are_well_sorted cs [] (All xs)) same.0 ∙ ap (λ t. takes_sorts p (sorts_of cs [] (All ys)) && t) same.1) ∙ formed

    pub literal_argument : (s : Bool) (p : Predicate) (xs : List TermId) → is_well_formed cs [] (Literal s p (terms_from (terms_at b xs))) ≡ true → (x : TermId) → Has xs x → is_well_sorted cs [] (At x) ≡ true
    literal_argument s p xs formed x k = argument_sorted xs (and_parts (takes_sorts p (sorts_of cs [] (All xs))) (are_well_sorted cs [] (All xs)) formed).1 x k

    -- the sides of each merge are alike
    abbrev pub MergesAlike : List Merge → Type 0
    MergesAlike ms = (k : ℕ) (m : Merge) → slice_get ms k ≡ Some m → AreAlike (term_at b m.left) (term_at b m.right)

    pub merges_alike : (ms : List Merge) (count : ℕ) (known : List Formula) → AreKnown cs b ms count known → MergesAlike ms
    merges_alike ms count known are k m at = ⊎_elim
        (λ is. let p = formed_parts (At m.left) (At m.right) is.formed in record { sort = p.0; sorted = p.1 ∙ sym p.2 })
        (λ names. names_alike (At m.left) (At m.right) names.left names.right names.is_left names.is_right)
        (are.merges k m at)

    module _ (fs : List TermShape) (ms : List Merge) (forms : AreFormsOf b fs) (merges : MergesAlike ms) where
      -- the term of this form
      pub form_is : (t : ℕ) (f : Symbol) (xs : List TermId) → slice_get fs t ≡ Some (AppShape f xs) → At (number t) ≡ App (symbol_of f) (All xs)
      form_is t f xs at = forms.built t (AppShape f xs) at

      pub alike : {x y : ℕ} → IsEqual fs ms x y → AreAlike (At (number x)) (At (number y))
      alike (merged k m at) = merges k m at
      alike (itself x) = record { sort = refl; sorted = refl }
      alike (back h) = let a = alike h in record { sort = sym a.sort; sorted = sym a.sorted }
      alike (through h g) = let a = alike h in let c = alike g in record { sort = a.sort ∙ c.sort; sorted = a.sorted ∙ c.sorted }
      alike {x} {y} (applied f xs ys at_x at_y l h) =
          let same = lists_alike xs ys l (λ i a c p q. alike (h i a c p q)) in
          let left = form_is x f xs at_x in
          let right = form_is y f ys at_y in
          record {
            sort = ap (sort_of cs []) left ∙ sym (ap (sort_of cs []) right);
            sorted = ap (is_well_sorted cs []) left
                ∙ ap (λ ss. takes cs (symbol_of f) ss && are_well_sorted cs [] (All xs)) same.0
                ∙ ap (λ t. takes cs (symbol_of f) (sorts_of cs [] (All ys)) && t) same.1
                ∙ sym (ap (is_well_sorted cs []) right);
          }

      module _ (terms : ℕ) (es : List Join) (log : IsLog terms es) (caused : AreCaused fs ms es) where
        pub alike_named : (x y : ℕ) → name es x ≡ name es y → AreAlike (At (number x)) (At (number y))
        alike_named x y h = alike (named_equal terms fs ms es log caused x y h)

        -- terms of one class are well sorted together, and the arguments of a well sorted term are
        pub handed_down : IsHandedDown fs es (λ t. is_well_sorted cs [] (At (number t)))
        handed_down = record {
          classes = λ x y h g. sym (alike_named x y h).sorted ∙ g;
          arguments = λ t f xs at g x k. argument_sorted xs
              (and_parts (takes cs (symbol_of f) (sorts_of cs [] (All xs))) (are_well_sorted cs [] (All xs)) (sym (ap (is_well_sorted cs []) (form_is t f xs at)) ∙ g)).1 x k;
        }
