-- Comparisons and arithmetic: what their formulas and terms say is what the run computes.
use Rattle.std.proofs.Common.{◌≡◌, ℤ, pos, negsuc, ◌+ℤ◌, ◌*ℤ◌, neg_ℤ, List, [], ◌∷◌, ◌++◌, Bool, true, false, not, Ok, Err, refl, sym, ◌∙◌, ap, subst, append_assoc, arith}
use Rattle.std.specs.Prelude.{◌-ℤ◌, int_le, int_lt, int_div, int_rem, if◌then◌else◌}
use Rattle.std.specs.Bool.{beq}
use Rattle.std.proofs.lemmas.Bool.{false≢true, eqb-true}
use Rattle.std.proofs.lemmas.Int.{ints}
use Rattle.ss_core.specs.declared.names.Place.{Place}
use Rattle.ss_core.specs.declared.names.Kind.TheVariants as kind
use Rattle.ss_core.specs.declared.expr.Operator.TheVariants as op
use Rattle.ss_core.specs.Tree.{ClassTree}
use Rattle.ss_store_rules.specs.declared.Value.{Value as ObjectValue}
use Rattle.ss_store_rules.specs.declared.Value.TheVariants as value
use Rattle.ss_store_rules.specs.declared.Undefined.{Undefined}
use Rattle.ss_store_rules.specs.Numbers.{Outcome, fits, is_zero}
use Rattle.ss_store_rules.specs.Numbers as numbers
use Rattle.ss_store_rules.specs.Reads.{as_int, as_bool, same_value}
use Rattle.ss_store_rules.specs.Values as run
use Rattle.ss_logic.specs.Values.{Value, whole, truth, as_whole, Structure}
use Rattle.ss_logic.specs.Terms.{Term, app}
use Rattle.ss_logic.specs.Terms as term
use Rattle.ss_logic.specs.Formulas.{Formula, neg}
use Rattle.ss_logic.specs.Shapes.{number, equal, differ, at_most}
use Rattle.ss_logic.specs.Express.{Meant, One, Either, Says, over, over_two, paired, mapped, said, same_truths, equal_meant, less, fits_int, not_zero}
use Rattle.ss_logic_means.specs.Means.{standing}
use Rattle.ss_logic_means.proofs.Denoting.{V, M, D, R, neg_means, iff_means, says_denotes, over_means, over_two_means, said_means, mapped_denotes, paired_denotes, reads_append, reads_then, reads_map}
use Rattle.ss_logic_means.proofs.Operations.{IsBool, IsWhole, Gives, bool_standing, same_bool, equal_means, at_most_means, less_means, fits_means, whole_denotes}

zero_from : (n : ℤ) → is_zero n ≡ true → n ≡ pos 0
zero_from (pos n) h = ap pos (eqb-true n 0 h)
zero_from (negsuc n) h = absurd (false≢true h)

is_zero_zero : (n : ℤ) → n ≡ pos 0 → is_zero n ≡ true
is_zero_zero n h = subst (λ i. is_zero i ≡ true) (sym h) refl

minus_from_zero : (n : ℤ) → pos 0 -ℤ n ≡ neg_ℤ n
minus_from_zero n = omega (arith, ints)

module _ (cs : List ClassTree) (m : Structure) (e : List Value) where
  same_truths_means : (x y : Meant) (a b : Bool) → D cs m e x (truth a) → D cs m e y (truth b) → M cs m e (same_truths x y) (beq a b)
  same_truths_means (One t) (One u) a b d k = equal_means cs m e t u (value.Bool a) (value.Bool b) (d.agree.0 tt) (k.agree.0 tt)
  same_truths_means (One t) (Either ys) a b d k = iff_means cs m e (said (One t)) (said (Either ys)) a b (said_means cs m e (One t) a d) (said_means cs m e (Either ys) b k)
  same_truths_means (One t) (Says f) a b d k = iff_means cs m e (said (One t)) (said (Says f)) a b (said_means cs m e (One t) a d) (said_means cs m e (Says f) b k)
  same_truths_means (Either xs) y a b d k = iff_means cs m e (said (Either xs)) (said y) a b (said_means cs m e (Either xs) a d) (said_means cs m e y b k)
  same_truths_means (Says f) y a b d k = iff_means cs m e (said (Says f)) (said y) a b (said_means cs m e (Says f) a d) (said_means cs m e y b k)

  bools_mean : (x y : Meant) (u w : ObjectValue) → IsBool u → IsBool w → D cs m e x (standing u) → D cs m e y (standing w) → M cs m e (same_truths x y) (beq (as_bool u) (as_bool w))
  bools_mean x y u w h k d q =
      same_truths_means x y (as_bool u) (as_bool w) (subst (λ v. D cs m e x v) (bool_standing u h) d) (subst (λ v. D cs m e y v) (bool_standing w k) q)

  module _ (ps qs : List Formula) (x y : Meant) (a b : Outcome) (ra : R cs m e ps x a) (rb : R cs m e qs y b) where
    -- two operands, each of which is defined
    pub two_read : (z : Meant) (k : ObjectValue → ObjectValue → ObjectValue) → ((u w : ObjectValue) → a ≡ Ok u → b ≡ Ok w → D cs m e x (standing u) → D cs m e y (standing w) → D cs m e z (standing (k u w))) →
        R cs m e (ps ++ qs) z (run.and_then a (λ v. run.and_then b (λ w. Ok (k v w))))
    two_read z k h =
        reads_then cs m e ps qs x z a (λ v. run.and_then b (λ w. Ok (k v w))) ra (λ u is d.
        reads_map cs m e qs y z b (λ w. k u w) rb (λ w it q. h u w is it d q))

    -- and further parts
    pub three_read : (rest : List Formula) (z : Meant) (k : ObjectValue → ObjectValue → Outcome) → ((u w : ObjectValue) → a ≡ Ok u → b ≡ Ok w → D cs m e x (standing u) → D cs m e y (standing w) → R cs m e rest z (k u w)) →
        R cs m e (ps ++ qs ++ rest) z (run.and_then a (λ v. run.and_then b (λ w. k v w)))
    three_read rest z k h =
        subst (λ parts. R cs m e parts z (run.and_then a (λ v. run.and_then b (λ w. k v w)))) (sym (append_assoc ps qs rest))
        (reads_then cs m e ps (qs ++ rest) x z a (λ v. run.and_then b (λ w. k v w)) ra (λ u is d.
        reads_then cs m e qs rest y z b (λ w. k u w) rb (λ w it q. h u w is it d q)))

    pub iff_reads : Gives IsBool a → Gives IsBool b → R cs m e (ps ++ qs) (Says (same_truths x y)) (run.equivalence a b)
    iff_reads ga gb = two_read (Says (same_truths x y)) (λ v w. value.Bool (beq (as_bool v) (as_bool w))) (λ u w is it d q.
        says_denotes cs m e (same_truths x y) (beq (as_bool u) (as_bool w)) (bools_mean x y u w (ga u is) (gb w it) d q))

    -- truth values are compared as such, and other values as terms
    abbrev pub AreBools : Bool → Type 0
    AreBools true = Gives IsBool a × Gives IsBool b
    AreBools false = Unit {0}

    equal_meant_means : (bools : Bool) → AreBools bools → (u w : ObjectValue) → a ≡ Ok u → b ≡ Ok w → D cs m e x (standing u) → D cs m e y (standing w) → M cs m e (equal_meant bools x y) (same_value u w)
    equal_meant_means true g u w is it d q = subst (λ c. M cs m e (same_truths x y) c) (same_bool u w (g.0 u is) (g.1 w it)) (bools_mean x y u w (g.0 u is) (g.1 w it) d q)
    equal_meant_means false g u w is it d q = over_two_means cs m e x y equal (standing u) (standing w) (same_value u w) d q (λ t v p r. equal_means cs m e t v u w p r)

    pub equal_reads : (p : Place) (bools : Bool) → AreBools bools → R cs m e (ps ++ qs) (Says (equal_meant bools x y)) (run.operation op.Equal p a b)
    equal_reads p bools g = two_read (Says (equal_meant bools x y)) (λ v w. value.Bool (same_value v w)) (λ u w is it d q.
        says_denotes cs m e (equal_meant bools x y) (same_value u w) (equal_meant_means bools g u w is it d q))

    pub not_equal_reads : (p : Place) (bools : Bool) → AreBools bools → R cs m e (ps ++ qs) (Says (neg (equal_meant bools x y))) (run.operation op.NotEqual p a b)
    not_equal_reads p bools g = two_read (Says (neg (equal_meant bools x y))) (λ v w. value.Bool (not (same_value v w))) (λ u w is it d q.
        says_denotes cs m e (neg (equal_meant bools x y)) (not (same_value u w)) (neg_means cs m e (equal_meant bools x y) (same_value u w) (equal_meant_means bools g u w is it d q)))

    module _ (ga : Gives IsWhole a) (gb : Gives IsWhole b) where
      compared : (f : Term → Term → Formula) (k : ℤ → ℤ → Bool) → ((t u : Term) (i j : ℤ) → V cs m e t ≡ whole i → V cs m e u ≡ whole j → M cs m e (f t u) (k i j)) →
          R cs m e (ps ++ qs) (Says (over_two x y f)) (run.and_then a (λ v. run.and_then b (λ w. run.truth (k (as_int v) (as_int w)))))
      compared f k h = two_read (Says (over_two x y f)) (λ v w. value.Bool (k (as_int v) (as_int w))) (λ u w is it d q.
          says_denotes cs m e (over_two x y f) (k (as_int u) (as_int w)) (over_two_means cs m e x y f (whole (as_int u)) (whole (as_int w)) (k (as_int u) (as_int w))
          (whole_denotes cs m e x a ga u is d) (whole_denotes cs m e y b gb w it q) (λ t v p r. h t v (as_int u) (as_int w) p r)))

      pub less_reads : (p : Place) → R cs m e (ps ++ qs) (Says (over_two x y less)) (run.operation op.Less p a b)
      less_reads p = compared less int_lt (less_means cs m e)

      pub less_equal_reads : (p : Place) → R cs m e (ps ++ qs) (Says (over_two x y at_most)) (run.operation op.LessEqual p a b)
      less_equal_reads p = compared at_most int_le (at_most_means cs m e)

      pub greater_reads : (p : Place) → R cs m e (ps ++ qs) (Says (over_two x y (λ t u. less u t))) (run.operation op.Greater p a b)
      greater_reads p = compared (λ t u. less u t) (λ i j. int_lt j i) (λ t u i j p q. less_means cs m e u t j i q p)

      pub greater_equal_reads : (p : Place) → R cs m e (ps ++ qs) (Says (over_two x y (λ t u. at_most u t))) (run.operation op.GreaterEqual p a b)
      greater_equal_reads p = compared (λ t u. at_most u t) (λ i j. int_le j i) (λ t u i j p q. at_most_means cs m e u t j i q p)

  -- ---- arithmetic

  -- a value under a part that says so
  pub where_true : (f : Formula) (b : Bool) (x : Meant) (u : ObjectValue) (err : Undefined) → M cs m e f b → (b ≡ true → D cs m e x (standing u)) → R cs m e (f ∷ []) x (if b then Ok u else Err err)
  where_true f true x u err h d = ((h.1 refl, tt), d refl)
  where_true f false x u err h d = λ a. false≢true (h.0 a.0)

  -- and what follows where a part doesn't say that it is undefined
  pub unless : (f : Formula) (b : Bool) (qs : List Formula) (x : Meant) (r : Outcome) (err : Undefined) → M cs m e f (not b) → R cs m e qs x r → R cs m e (f ∷ qs) x (if b then Err err else r)
  unless f true qs x r err h k = λ a. false≢true (h.0 a.0)
  unless f false qs x r err h k = reads_append cs m e (f ∷ []) qs x r (h.1 refl, tt) k

  number_reads : (p : Place) (f : Formula) (x : Meant) (z : ℤ) → M cs m e f (fits z) → D cs m e x (whole z) → R cs m e (f ∷ []) x (numbers.whole p z)
  number_reads p f x z h d = where_true f (fits z) x (value.Int z) (numbers.undefined p kind.Overflow) h (λ _. d)

  pub negate_reads : (p : Place) (ps : List Formula) (x : Meant) (r : Outcome) → Gives IsWhole r → R cs m e ps x r →
      R cs m e (ps ++ over x (λ t. fits_int (app term.Subtract (number (pos 0) ∷ t ∷ []))) ∷ []) (mapped (λ t. app term.Subtract (number (pos 0) ∷ t ∷ [])) x) (run.and_then r (λ v. numbers.whole p (neg_ℤ (as_int v))))
  negate_reads p ps x r g h =
      let less_than_zero : Term → Term = λ t. app term.Subtract (number (pos 0) ∷ t ∷ []) in
      reads_then cs m e ps (over x (λ t. fits_int (less_than_zero t)) ∷ []) x (mapped less_than_zero x) r (λ v. numbers.whole p (neg_ℤ (as_int v))) h (λ u is d.
      let n = as_int u in
      let w = whole_denotes cs m e x r g u is d in
      let value_at : (t : Term) → V cs m e t ≡ whole n → V cs m e (less_than_zero t) ≡ whole (neg_ℤ n) = λ t q. ap (λ v. whole (pos 0 -ℤ as_whole v)) q ∙ ap whole (minus_from_zero n) in
      number_reads p (over x (λ t. fits_int (less_than_zero t))) (mapped less_than_zero x) (neg_ℤ n)
      (over_means cs m e x (λ t. fits_int (less_than_zero t)) (whole n) (fits (neg_ℤ n)) w (λ t q. fits_means cs m e (less_than_zero t) (neg_ℤ n) (value_at t q)))
      (mapped_denotes cs m e less_than_zero x (whole n) (whole (neg_ℤ n)) w value_at))

  module _ (ps qs : List Formula) (x y : Meant) (a b : Outcome) (ra : R cs m e ps x a) (rb : R cs m e qs y b) (ga : Gives IsWhole a) (gb : Gives IsWhole b) where
    -- the function of terms is that of whole numbers
    abbrev Computes : (Term → Term → Term) → (ℤ → ℤ → ℤ) → Type 0
    Computes g k = (t u : Term) (i j : ℤ) → V cs m e t ≡ whole i → V cs m e u ≡ whole j → V cs m e (g t u) ≡ whole (k i j)

    range_means : (g : Term → Term → Term) (k : ℤ → ℤ → ℤ) → Computes g k → (u w : ObjectValue) → a ≡ Ok u → b ≡ Ok w → D cs m e x (standing u) → D cs m e y (standing w) →
        M cs m e (over_two x y (λ t v. fits_int (g t v))) (fits (k (as_int u) (as_int w)))
    range_means g k h u w is it d q =
        over_two_means cs m e x y (λ t v. fits_int (g t v)) (whole (as_int u)) (whole (as_int w)) (fits (k (as_int u) (as_int w))) (whole_denotes cs m e x a ga u is d) (whole_denotes cs m e y b gb w it q)
        (λ t v p r. fits_means cs m e (g t v) (k (as_int u) (as_int w)) (h t v (as_int u) (as_int w) p r))

    result_denotes : (g : Term → Term → Term) (k : ℤ → ℤ → ℤ) → Computes g k → (u w : ObjectValue) → a ≡ Ok u → b ≡ Ok w → D cs m e x (standing u) → D cs m e y (standing w) →
        D cs m e (paired g x y) (whole (k (as_int u) (as_int w)))
    result_denotes g k h u w is it d q =
        paired_denotes cs m e g (whole (as_int u)) (whole (as_int w)) (whole (k (as_int u) (as_int w))) (λ t v p r. h t v (as_int u) (as_int w) p r) x y (whole_denotes cs m e x a ga u is d) (whole_denotes cs m e y b gb w it q)

    computed : (p : Place) (g : Term → Term → Term) (k : ℤ → ℤ → ℤ) → Computes g k →
        R cs m e (ps ++ qs ++ over_two x y (λ t u. fits_int (g t u)) ∷ []) (paired g x y) (run.and_then a (λ v. run.and_then b (λ w. numbers.whole p (k (as_int v) (as_int w)))))
    computed p g k h =
        three_read ps qs x y a b ra rb (over_two x y (λ t u. fits_int (g t u)) ∷ []) (paired g x y) (λ v w. numbers.whole p (k (as_int v) (as_int w))) (λ u w is it d q.
        number_reads p (over_two x y (λ t v. fits_int (g t v))) (paired g x y) (k (as_int u) (as_int w)) (range_means g k h u w is it d q) (result_denotes g k h u w is it d q))

    abbrev two : term.Symbol → Term → Term → Term
    two f t u = app f (t ∷ u ∷ [])

    wholes : (k : ℤ → ℤ → ℤ) (t u : Term) (i j : ℤ) → V cs m e t ≡ whole i → V cs m e u ≡ whole j → whole (k (as_whole (V cs m e t)) (as_whole (V cs m e u))) ≡ whole (k i j)
    wholes k t u i j p q = ap (λ v. whole (k (as_whole v) (as_whole (V cs m e u)))) p ∙ ap (λ v. whole (k i (as_whole v))) q

    pub add_reads : (p : Place) → R cs m e (ps ++ qs ++ over_two x y (λ t u. fits_int (app term.Add (t ∷ u ∷ []))) ∷ []) (paired (λ t u. app term.Add (t ∷ u ∷ [])) x y) (run.operation op.Add p a b)
    add_reads p = computed p (two term.Add) (λ i j. i +ℤ j) (wholes (λ i j. i +ℤ j))

    pub subtract_reads : (p : Place) → R cs m e (ps ++ qs ++ over_two x y (λ t u. fits_int (app term.Subtract (t ∷ u ∷ []))) ∷ []) (paired (λ t u. app term.Subtract (t ∷ u ∷ [])) x y) (run.operation op.Subtract p a b)
    subtract_reads p = computed p (two term.Subtract) (λ i j. i -ℤ j) (wholes (λ i j. i -ℤ j))

    pub multiply_reads : (p : Place) → R cs m e (ps ++ qs ++ over_two x y (λ t u. fits_int (app term.Multiply (t ∷ u ∷ []))) ∷ []) (paired (λ t u. app term.Multiply (t ∷ u ∷ [])) x y) (run.operation op.Multiply p a b)
    multiply_reads p = computed p (two term.Multiply) (λ i j. i *ℤ j) (wholes (λ i j. i *ℤ j))

    divisor_means : (w : ObjectValue) → b ≡ Ok w → D cs m e y (standing w) → M cs m e (not_zero y) (not (is_zero (as_int w)))
    divisor_means w it q =
        over_means cs m e y (λ t. differ t (number (pos 0))) (whole (as_int w)) (not (is_zero (as_int w))) (whole_denotes cs m e y b gb w it q) (λ t p.
        neg_means cs m e (equal t (number (pos 0))) (is_zero (as_int w)) (
          λ h. is_zero_zero (as_int w) (ap as_whole (sym p ∙ h)),
          λ h. p ∙ ap whole (zero_from (as_int w) h),
        ))

    pub divide_reads : (p : Place) → R cs m e (ps ++ qs ++ not_zero y ∷ over_two x y (λ t u. fits_int (app term.Quotient (t ∷ u ∷ []))) ∷ []) (paired (λ t u. app term.Quotient (t ∷ u ∷ [])) x y) (run.operation op.Divide p a b)
    divide_reads p =
        three_read ps qs x y a b ra rb (not_zero y ∷ over_two x y (λ t u. fits_int (two term.Quotient t u)) ∷ []) (paired (two term.Quotient) x y) (λ v w. numbers.quotient p (as_int v) (as_int w)) (λ u w is it d q.
        unless (not_zero y) (is_zero (as_int w)) (over_two x y (λ t v. fits_int (two term.Quotient t v)) ∷ []) (paired (two term.Quotient) x y) (numbers.whole p (int_div (as_int u) (as_int w))) (numbers.undefined p kind.ZeroDivisor) (divisor_means w it q)
        (number_reads p (over_two x y (λ t v. fits_int (two term.Quotient t v))) (paired (two term.Quotient) x y) (int_div (as_int u) (as_int w))
        (range_means (two term.Quotient) int_div (wholes int_div) u w is it d q) (result_denotes (two term.Quotient) int_div (wholes int_div) u w is it d q)))

    pub remainder_reads : (p : Place) → R cs m e (ps ++ qs ++ not_zero y ∷ over_two x y (λ t u. fits_int (app term.Quotient (t ∷ u ∷ []))) ∷ []) (paired (λ t u. app term.Remainder (t ∷ u ∷ [])) x y) (run.operation op.Remainder p a b)
    remainder_reads p =
        three_read ps qs x y a b ra rb (not_zero y ∷ over_two x y (λ t u. fits_int (two term.Quotient t u)) ∷ []) (paired (two term.Remainder) x y) (λ v w. numbers.remainder p (as_int v) (as_int w)) (λ u w is it d q.
        unless (not_zero y) (is_zero (as_int w)) (over_two x y (λ t v. fits_int (two term.Quotient t v)) ∷ []) (paired (two term.Remainder) x y)
        (if fits (int_div (as_int u) (as_int w)) then Ok (value.Int (int_rem (as_int u) (as_int w))) else Err (numbers.undefined p kind.Overflow)) (numbers.undefined p kind.ZeroDivisor) (divisor_means w it q)
        (where_true (over_two x y (λ t v. fits_int (two term.Quotient t v))) (fits (int_div (as_int u) (as_int w))) (paired (two term.Remainder) x y) (value.Int (int_rem (as_int u) (as_int w))) (numbers.undefined p kind.Overflow)
        (range_means (two term.Quotient) int_div (wholes int_div) u w is it d q) (λ _. result_denotes (two term.Remainder) int_rem (wholes int_rem) u w is it d q)))
