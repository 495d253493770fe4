-- Where strings and comments end, whatever stands after.
use Rattle.std.proofs.Common.{ℕ, suc, ◌≡◌, ◌<◌, Bool, true, false, ⊎_elim, List, [], ◌∷◌, ◌++◌, length, Option, Some, None, option_map, refl, sym, ap, ◌∙◌, arith, append_assoc}
use Rattle.std.specs.Prelude.{◌&&◌, ◌==◌, not, if◌then◌else◌}
use Rattle.std.proofs.lemmas.Bool.{and_parts}
use Rattle.ss_lexer.specs.Lexemes.{first_is, comment_end, string_end}
use Rattle.ss_lexer.proofs.Choice.{if_cases, option_cases}

-- e finds its end after the first n bytes, and would with anything else after them
pub record Closes (e : List ℕ → Option ℕ) (cs : List ℕ) (n : ℕ) : Type 0 where
  pub inside : List ℕ
  pub outside : List ℕ
  pub parts : cs ≡ inside ++ outside
  pub long : length inside ≡ n
  pub some : 0 < n
  pub kept : (more : List ℕ) → e (inside ++ more) ≡ Some n

map_some : (o : Option ℕ) (n : ℕ) → option_map suc o ≡ Some n → (k : ℕ) × (o ≡ Some k) × (suc k ≡ n)
map_some None n e = absurd cc
map_some (Some k) n e = (k, refl, cc)

string_step : (h : Bool) (c : ℕ) → (c == 10) ≡ false → ((c == 34) && not h) ≡ false → (cs : List ℕ) → string_end h (c ∷ cs) ≡ option_map suc (string_end ((c == 92) && not h) cs)
string_step h c e f cs = rw (e, f) refl

string_last : (h : Bool) (c : ℕ) → (c == 10) ≡ false → ((c == 34) && not h) ≡ true → (cs : List ℕ) → string_end h (c ∷ cs) ≡ Some 1
string_last h c e f cs = rw (e, f) refl

one_more : (e f : List ℕ → Option ℕ) (c : ℕ) (cs : List ℕ) (k n : ℕ) → suc k ≡ n → ((ds : List ℕ) → e (c ∷ ds) ≡ option_map suc (f ds)) → Closes f cs k → Closes e (c ∷ cs) n
one_more e f c cs k n same step r = record {
  inside = c ∷ r.inside;
  outside = r.outside;
  parts = ap (λ l. c ∷ l) r.parts;
  long = omega (arith, r.long);
  some = omega (arith, same);
  kept = λ more. step (r.inside ++ more) ∙ ap (option_map suc) (r.kept more) ∙ ap Some same;
}

pub string_closes : (h : Bool) (cs : List ℕ) (n : ℕ) → string_end h cs ≡ Some n → Closes (string_end h) cs n
string_closes h [] n e = absurd cc
string_closes h (c ∷ cs) n e =
    ⊎_elim
    (λ ends. absurd (let bad : ◌≡◌ {A = Option ℕ} None (Some n) = ends.1 in cc))
    (λ on.
    ⊎_elim
    (λ last. let one : 1 ≡ n = (let two : Some 1 ≡ Some n = last.1 in cc) in
    record { inside = c ∷ []; outside = cs; parts = refl; long = one; some = omega (arith, one); kept = λ more. string_last h c on.0 last.0 more ∙ last.1 })
    (λ later.
    let k = map_some (string_end ((c == 92) && not h) cs) n later.1 in
    one_more (string_end h) (string_end ((c == 92) && not h)) c cs k.0 n k.2 (string_step h c on.0 later.0) (string_closes ((c == 92) && not h) cs k.0 k.1))
    (if_cases ((c == 34) && not h) (Some 1) (option_map suc (string_end ((c == 92) && not h) cs)) (Some n) on.1))
    (if_cases (c == 10) None (if (c == 34) && not h then Some 1 else option_map suc (string_end ((c == 92) && not h) cs)) (Some n) e)

-- ---- comments

closed_here : (c : ℕ) (cs : List ℕ) → ((c == 42) && first_is 47 cs) ≡ true → (n : ℕ) → 2 ≡ n → Closes comment_end (c ∷ cs) n
closed_here c [] e n two = absurd (let f = and_parts (c == 42) false e in let g : ◌≡◌ {A = Bool} false true = f.1 in cc)
closed_here c (d ∷ ds) e n two = record { inside = c ∷ d ∷ []; outside = ds; parts = refl; long = two; some = omega (arith, two); kept = λ more. rw e (ap Some two) }

-- the first byte of a list is that of its front
first_same : (b : ℕ) (a x y : List ℕ) → 0 < length a → first_is b (a ++ x) ≡ first_is b (a ++ y)
first_same b [] x y h = absurd (omega arith)
first_same b (c ∷ cs) x y h = refl

later_closes : (c : ℕ) (cs : List ℕ) (k n : ℕ) → suc k ≡ n → ((c == 42) && first_is 47 cs) ≡ false → Closes comment_end cs k → Closes comment_end (c ∷ cs) n
later_closes c cs k n same e r = record {
  inside = c ∷ r.inside;
  outside = r.outside;
  parts = ap (λ l. c ∷ l) r.parts;
  long = omega (arith, r.long);
  some = omega (arith, same);
  kept = λ more.
      let f : first_is 47 (r.inside ++ more) ≡ first_is 47 cs = first_same 47 r.inside more r.outside (omega (arith, r.long, r.some)) ∙ ap (first_is 47) (sym r.parts) in
      let g : ((c == 42) && first_is 47 (r.inside ++ more)) ≡ false = ap (λ b. (c == 42) && b) f ∙ e in
      rw g (ap (option_map suc) (r.kept more) ∙ ap Some same);
}

pub comment_closes : (cs : List ℕ) (n : ℕ) → comment_end cs ≡ Some n → Closes comment_end cs n
comment_closes [] n e = absurd cc
comment_closes (c ∷ cs) n e =
    ⊎_elim
    (λ here. closed_here c cs here.0 n (let two : Some 2 ≡ Some n = here.1 in cc))
    (λ later.
    let k = map_some (comment_end cs) n later.1 in
    later_closes c cs k.0 n k.2 later.0 (comment_closes cs k.0 k.1))
    (if_cases ((c == 42) && first_is 47 cs) (Some 2) (option_map suc (comment_end cs)) (Some n) e)

-- ---- what doesn't end doesn't earlier

pub still_open : (e : List ℕ → Option ℕ) → ((cs : List ℕ) (n : ℕ) → e cs ≡ Some n → Closes e cs n) → (a b : List ℕ) → e (a ++ b) ≡ None → e a ≡ None
still_open e closes a b none =
    ⊎_elim
    (λ open_. open_)
    (λ found.
    let r = closes a found.0 found.1 in
    let whole : e (a ++ b) ≡ Some found.0 = ap (λ l. e (l ++ b)) r.parts ∙ ap e (append_assoc r.inside r.outside b) ∙ r.kept (r.outside ++ b) in
    absurd cc)
    (option_cases (e a))
