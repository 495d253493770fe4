-- The locals of a body that its contract reads: its arguments, its result and bound names.
use Rattle.std.proofs.Common.{◌≡◌, ℕ, zero, suc, ◌+◌, ◌-◌, ◌<◌, ◌≤◌, List, [], ◌∷◌, ◌++◌, length, true, ◌||◌, Option, Some, None, eqb, refl, sym, ◌∙◌, ap, arith, ⊎_elim}
use Rattle.std.specs.Prelude.{slice_get, unwrap_or, if◌then◌else◌, is_some, option_to_list}
use Rattle.std.proofs.lemmas.Bool.{false≢true, and_parts, or_cases, le-ltb, ltb-true, leb-true, eqb-true}
use Rattle.std.proofs.lemmas.List.{length-append, length-map}
use Rattle.ss_core.specs.declared.names.Ty.{Ty}
use Rattle.ss_core.specs.Tree.{LocalTree, BodyTree}
use Rattle.ss_store_rules.specs.declared.Value.{Value}
use Rattle.ss_store_rules.specs.declared.Value.TheVariants as value
use Rattle.ss_store_rules.specs.Locals.{types_of, argument_types, local_types, argument_count, result_number, is_argument, is_result, is_bound}
use Rattle.ss_store_rules.specs.Tables.{normal_number}
use Rattle.ss_sound_runs.proofs.Reading.{local_in, ReadsSame}

pub get_left : {X : Type 0} (xs ys : List X) (i : ℕ) → i < length xs → slice_get (xs ++ ys) i ≡ slice_get xs i
get_left [] ys i h = absurd (omega (arith, h))
get_left (x ∷ xs) ys zero h = refl
get_left (x ∷ xs) ys (suc i) h = get_left xs ys i (omega (arith, h))

pub get_right : {X : Type 0} (xs ys : List X) (i : ℕ) → slice_get (xs ++ ys) (length xs + i) ≡ slice_get ys i
get_right [] ys i = let z : 0 + i ≡ i = omega arith in ap (slice_get ys) z
get_right (x ∷ xs) ys i = let z : suc (length xs) + i ≡ suc (length xs + i) = omega arith in ap (slice_get (x ∷ (xs ++ ys))) z ∙ get_right xs ys i

-- the same, at a position of which the distance is known
get_past : {X : Type 0} (xs ys : List X) (k i : ℕ) → k ≡ length xs + i → slice_get (xs ++ ys) k ≡ slice_get ys i
get_past xs ys k i e = ap (slice_get (xs ++ ys)) e ∙ get_right xs ys i

pub one_result : (o : Option Ty) → is_some o ≡ true → length (option_to_list o) ≡ 1
one_result None h = absurd (false≢true h)
one_result (Some t) h = refl

pub count_locals : (b : BodyTree) → length (local_types b) ≡ argument_count b + length b.locals + length (option_to_list b.result)
count_locals b =
    length-append (argument_types b ++ types_of b.locals) (option_to_list b.result)
    ∙ ap (λ k. k + length (option_to_list b.result)) (length-append (argument_types b) (types_of b.locals)
    ∙ ap (λ k. argument_count b + k) (length-map b.locals (λ (l : LocalTree). l.ty)))

-- ---- numbers in normal form

pub argument_number : (b : BodyTree) (x : ℕ) → is_argument b x ≡ true → normal_number b x ≡ x
argument_number b x h = ap (λ t. if t then x else x - length b.locals) h

later_number : (b : BodyTree) (x : ℕ) → argument_count b ≤ x → normal_number b x ≡ x - length b.locals
later_number b x h = ap (λ t. if t then x else x - length b.locals) (le-ltb x (argument_count b) h)

-- The first locals are these arguments; rest has a value for the result, if there is one.
pub record AreRead (b : BodyTree) (arguments rest locals : List Value) : Type 0 where
  pub passed : length arguments ≡ argument_count b
  pub count : length locals ≡ length (local_types b)
  pub size : length rest ≡ length (option_to_list b.result)
  pub same : (x : ℕ) → is_argument b x ≡ true → slice_get locals x ≡ slice_get arguments x

module _ (b : BodyTree) (arguments rest locals : List Value) (are : AreRead b arguments rest locals) where
  reads_argument : (bound : List Value) (x : ℕ) → is_argument b x ≡ true → local_in (locals ++ bound) x ≡ local_in ((arguments ++ rest) ++ bound) (normal_number b x)
  reads_argument bound x h =
      let n = ltb-true x (argument_count b) h in
      let all = count_locals b in
      let sum = length-append arguments rest in
      let inside : x < length locals = omega (arith, n, all, are.count) in
      let passed : x < length arguments = omega (arith, n, are.passed) in
      let whole : x < length (arguments ++ rest) = omega (arith, passed, sum) in
      ap (λ o. unwrap_or o value.Null)
      (get_left locals bound x inside ∙ are.same x h ∙ sym (get_left arguments rest x passed) ∙ sym (get_left (arguments ++ rest) bound x whole)
      ∙ ap (slice_get ((arguments ++ rest) ++ bound)) (sym (argument_number b x h)))

  reads_bound : (bound : List Value) (x : ℕ) → is_bound b x ≡ true → local_in (locals ++ bound) x ≡ local_in ((arguments ++ rest) ++ bound) (normal_number b x)
  reads_bound bound x h =
      let n = leb-true (length (local_types b)) x h in
      let all = count_locals b in
      let sum = length-append arguments rest in
      let i = x - length locals in
      let before : x ≡ length locals + i = omega (arith, n, are.count) in
      let past : argument_count b ≤ x = omega (arith, n, all) in
      let after : x - length b.locals ≡ length (arguments ++ rest) + i = omega (arith, n, all, sum, are.count, are.passed, are.size) in
      ap (λ o. unwrap_or o value.Null)
      (get_past locals bound x i before ∙ sym (get_past (arguments ++ rest) bound (x - length b.locals) i after)
      ∙ ap (slice_get ((arguments ++ rest) ++ bound)) (sym (later_number b x past)))

  -- what is read at entry
  pub reads_outside : ReadsSame b (λ x. is_argument b x || is_bound b x) locals (arguments ++ rest)
  reads_outside bound x h = ⊎_elim (reads_argument bound x) (reads_bound bound x) (or_cases (is_argument b x) (is_bound b x) h)

  module _ (given : is_some b.result ≡ true → slice_get locals (result_number b) ≡ slice_get rest 0) where
    reads_result : (bound : List Value) (x : ℕ) → is_result b x ≡ true → local_in (locals ++ bound) x ≡ local_in ((arguments ++ rest) ++ bound) (normal_number b x)
    reads_result bound x h =
        let p = and_parts (is_some b.result) (eqb x (result_number b)) h in
        let is = eqb-true x (result_number b) p.1 in
        let one = one_result b.result p.0 in
        let all = count_locals b in
        let sum = length-append arguments rest in
        let inside : x < length locals = omega (arith, is, one, all, are.count) in
        let past : argument_count b ≤ x = omega (arith, is) in
        let first : x - length b.locals ≡ length arguments + 0 = omega (arith, is, are.passed) in
        let whole : x - length b.locals < length (arguments ++ rest) = omega (arith, first, sum, are.size, one) in
        ap (λ o. unwrap_or o value.Null)
        (get_left locals bound x inside ∙ ap (slice_get locals) is ∙ given p.0 ∙ sym (get_past arguments rest (x - length b.locals) 0 first)
        ∙ sym (get_left (arguments ++ rest) bound (x - length b.locals) whole)
        ∙ ap (slice_get ((arguments ++ rest) ++ bound)) (sym (later_number b x past)))

    -- what is read at exit
    pub reads_all : ReadsSame b (λ x. is_argument b x || is_result b x || is_bound b x) locals (arguments ++ rest)
    reads_all bound x h =
        ⊎_elim
        (λ first. ⊎_elim (reads_argument bound x) (reads_result bound x) (or_cases (is_argument b x) (is_result b x) first))
        (reads_bound bound x)
        (or_cases (is_argument b x || is_result b x) (is_bound b x) h)

  -- an argument is what it was passed
  pub argument_in : (x : ℕ) → is_argument b x ≡ true → local_in locals x ≡ local_in arguments x
  argument_in x h = ap (λ o. unwrap_or o value.Null) (are.same x h)
