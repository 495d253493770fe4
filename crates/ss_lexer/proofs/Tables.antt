-- The first text of a table with which a source begins is the longest, where longer ones come first.
use Rattle.std.proofs.Common.{ℕ, ◌≡◌, ◌<◌, ◌≤◌, Bool, true, ⊎_elim, List, [], ◌∷◌, ◌++◌, length, take, drop, Some, None, refl, sym, ap, subst, ◌∙◌, arith}
use Rattle.std.specs.Prelude.{◌&&◌, nat_le}
use Rattle.std.specs.List.{list_all}
use Rattle.std.specs.Str.{bytes_eq}
use Rattle.std.proofs.lemmas.List.{take-append-drop}
use Rattle.std.proofs.lemmas.Bool.{and_parts, both_ways, leb-true, cases_Bool}
use Rattle.std.proofs.lemmas.Slice.Eq.{bytes_eq-Decides}
use Rattle.ss_lexer.specs.Lexemes.{look_up}
use Rattle.ss_lexer.specs.Fronts.{first_beginning}
use Rattle.ss_lexer.proofs.Choice.{if_cases}

-- no text is longer than one before it, and none is empty
abbrev pub at_most : {A : Type 0} → ℕ → List (List ℕ × A) → Bool
at_most m = list_all (λ e. nat_le (length e.0) m)

abbrev pub falling : {A : Type 0} → List (List ℕ × A) → Bool
falling [] = true
falling (e ∷ es) = nat_le 1 (length e.0) && (at_most (length e.0) es && falling es)

pub take_front : (a b : List ℕ) → take (length a) (a ++ b) ≡ a
take_front [] b = refl
take_front (c ∷ cs) b = ap (λ l. c ∷ l) (take_front cs b)

pub drop_front : (a b : List ℕ) → drop (length a) (a ++ b) ≡ b
drop_front [] b = refl
drop_front (c ∷ cs) b = drop_front cs b

-- a text at the front of a source begins it
begins : (text a b : List ℕ) → bytes_eq a text ≡ true → bytes_eq text (take (length text) (a ++ b)) ≡ true
begins text a b e =
    let same : a ≡ text = (bytes_eq-Decides a text).0 e in
    (bytes_eq-Decides text (take (length text) (a ++ b))).1 (sym same ∙ sym (take_front a b) ∙ ap (λ l. take (length l) (a ++ b)) same)

-- what is looked up in a table is no longer than its longest text
looked_up_at_most : {A : Type 0} (t : List (List ℕ × A)) (m : ℕ) (a : List ℕ) (x : A) → at_most m t ≡ true → look_up t a ≡ Some x → length a ≤ m
looked_up_at_most [] m a x h e = absurd cc
looked_up_at_most (r ∷ rs) m a x h e =
    let parts = and_parts (nat_le (length r.0) m) (at_most m rs) h in
    ⊎_elim
    (λ here. let same : a ≡ r.0 = (bytes_eq-Decides a r.0).0 here.0 in let bound = leb-true (length r.0) m parts.0 in subst (λ l. length l ≤ m) (sym same) bound)
    (λ later. looked_up_at_most rs m a x parts.1 later.1)
    (if_cases (bytes_eq a r.0) (Some r.1) (look_up rs a) (Some x) e)

-- a longer front than the one found isn't in the table
pub longest : {A : Type 0} (t : List (List ℕ × A)) (a b : List ℕ) (x : A × ℕ) (y : A) → falling t ≡ true → first_beginning t (a ++ b) ≡ Some x → look_up t a ≡ Some y → length a ≤ x.1
longest [] a b x y f e l = absurd cc
longest (r ∷ rs) a b x y f e l =
    let more = and_parts (nat_le 1 (length r.0)) (at_most (length r.0) rs && falling rs) f in
    let rest = and_parts (at_most (length r.0) rs) (falling rs) more.1 in
    ⊎_elim
    (λ found.
    let len : length r.0 ≡ x.1 = (let two : Some (r.1, length r.0) ≡ Some x = found.1 in let pairs : ◌≡◌ (r.1, length r.0) x = cc in ap (λ p. p.1) pairs) in
    ⊎_elim
    (λ here. let same : a ≡ r.0 = (bytes_eq-Decides a r.0).0 here.0 in omega (arith, ap length same, len))
    (λ later. omega (arith, looked_up_at_most rs (length r.0) a y rest.0 later.1, len))
    (if_cases (bytes_eq a r.0) (Some r.1) (look_up rs a) (Some y) l))
    (λ not_found.
    ⊎_elim
    (λ here. absurd (both_ways (bytes_eq r.0 (take (length r.0) (a ++ b))) not_found.0 (begins r.0 a b here.0)))
    (λ later. longest rs a b x y rest.1 not_found.1 later.1)
    (if_cases (bytes_eq a r.0) (Some r.1) (look_up rs a) (Some y) l))
    (if_cases (bytes_eq r.0 (take (length r.0) (a ++ b))) (Some (r.1, length r.0)) (first_beginning rs (a ++ b)) (Some x) e)

-- where no text begins the source, no front of it is in the table
pub none_begins : {A : Type 0} (t : List (List ℕ × A)) (a b : List ℕ) → first_beginning t (a ++ b) ≡ None → look_up t a ≡ None
none_begins [] a b e = refl
none_begins (r ∷ rs) a b e =
    ⊎_elim
    (λ found. absurd (let bad : Some (r.1, length r.0) ≡ None = found.1 in cc))
    (λ not_found.
    ⊎_elim
    (λ here. absurd (both_ways (bytes_eq r.0 (take (length r.0) (a ++ b))) not_found.0 (begins r.0 a b here)))
    (λ other. rw other (none_begins rs a b not_found.1))
    (cases_Bool (bytes_eq a r.0)))
    (if_cases (bytes_eq r.0 (take (length r.0) (a ++ b))) (Some (r.1, length r.0)) (first_beginning rs (a ++ b)) None e)

-- The text that was found: the source in two parts.
pub record Found {A : Type 0} (t : List (List ℕ × A)) (source : List ℕ) (x : A × ℕ) : Type 0 where
  pub text : List ℕ
  pub rest : List ℕ
  pub parts : source ≡ text ++ rest
  pub long : length text ≡ x.1
  pub some : 0 < x.1
  pub is : look_up t text ≡ Some x.0

pub found : {A : Type 0} (t : List (List ℕ × A)) (source : List ℕ) (x : A × ℕ) → falling t ≡ true → first_beginning t source ≡ Some x → Found t source x
found [] source x f e = absurd cc
found (r ∷ rs) source x f e =
    let more = and_parts (nat_le 1 (length r.0)) (at_most (length r.0) rs && falling rs) f in
    let rest = and_parts (at_most (length r.0) rs) (falling rs) more.1 in
    ⊎_elim
    (λ here.
    let pairs : ◌≡◌ (r.1, length r.0) x = (let two : Some (r.1, length r.0) ≡ Some x = here.1 in cc) in
    let same : r.0 ≡ take (length r.0) source = (bytes_eq-Decides r.0 (take (length r.0) source)).0 here.0 in
    let some : 1 ≤ length r.0 = leb-true 1 (length r.0) more.0 in
    let len : length r.0 ≡ x.1 = ap (λ p. p.1) pairs in
    let eq : bytes_eq r.0 r.0 ≡ true = (bytes_eq-Decides r.0 r.0).1 refl in
    record {
      text = r.0;
      rest = drop (length r.0) source;
      parts = sym (take-append-drop (length r.0) source) ∙ ap (λ l. l ++ drop (length r.0) source) (sym same);
      long = len;
      some = omega (arith, len);
      is = rw eq (ap (λ p. Some p.0) pairs);
    })
    (λ later.
    let g = found rs source x rest.1 later.1 in
    ⊎_elim
    (λ equal. absurd (both_ways (bytes_eq r.0 (take (length r.0) source)) later.0 (subst (λ l. bytes_eq r.0 (take (length r.0) l) ≡ true) (sym g.parts) (begins r.0 g.text g.rest equal))))
    (λ other. record { text = g.text; rest = g.rest; parts = g.parts; long = g.long; some = g.some; is = rw other g.is })
    (cases_Bool (bytes_eq g.text r.0)))
    (if_cases (bytes_eq r.0 (take (length r.0) source)) (Some (r.1, length r.0)) (first_beginning rs source) (Some x) e)
