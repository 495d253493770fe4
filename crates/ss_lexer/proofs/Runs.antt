-- The longest front of a list whose elements pass a test.
use Rattle.std.proofs.Common.{ℕ, ◌≡◌, ◌+◌, Bool, true, false, cond, List, [], ◌∷◌, ◌++◌, length, refl, sym, ap, ◌∙◌, arith}
use Rattle.std.specs.List.{list_all, prefix_len}
use Rattle.std.proofs.lemmas.Bool.{and_parts, both_ways}

pub record Run (p : ℕ → Bool) (cs : List ℕ) (n : ℕ) : Type 0 where
  pub inside : List ℕ
  pub outside : List ℕ
  pub parts : cs ≡ inside ++ outside
  pub long : length inside ≡ n
  pub passes : list_all p inside ≡ true
  pub stops : (more others : List ℕ) → outside ≡ more ++ others → list_all p more ≡ true → more ≡ []

none_of_none : (more others : List ℕ) → [] ≡ more ++ others → more ≡ []
none_of_none [] others e = refl
none_of_none (m ∷ ms) others e = absurd cc

stops_here : (p : ℕ → Bool) (c : ℕ) (cs : List ℕ) → p c ≡ false → (more others : List ℕ) → c ∷ cs ≡ more ++ others → list_all p more ≡ true → more ≡ []
stops_here p c cs e [] others f h = refl
stops_here p c cs e (m ∷ ms) others f h =
    let same : c ≡ m = cc in absurd (both_ways (p m) (ap p (sym same) ∙ e) (and_parts (p m) (list_all p ms) h).0)

run_more : (p : ℕ → Bool) (c : ℕ) (cs : List ℕ) (b : Bool) → p c ≡ b → Run p cs (prefix_len p cs) → Run p (c ∷ cs) (cond b (1 + prefix_len p cs) 0)
run_more p c cs true e r = record {
  inside = c ∷ r.inside;
  outside = r.outside;
  parts = ap (λ l. c ∷ l) r.parts;
  long = omega (arith, r.long);
  passes = rw e r.passes;
  stops = r.stops;
}
run_more p c cs false e r = record { inside = []; outside = c ∷ cs; parts = refl; long = refl; passes = refl; stops = stops_here p c cs e }

pub run : (p : ℕ → Bool) (cs : List ℕ) → Run p cs (prefix_len p cs)
run p [] = record { inside = []; outside = []; parts = refl; long = refl; passes = refl; stops = λ more others e h. none_of_none more others e }
run p (c ∷ cs) = run_more p c cs (p c) refl (run p cs)

-- the end of a list that passes
pub all_after : (p : ℕ → Bool) (a b : List ℕ) → list_all p (a ++ b) ≡ true → list_all p b ≡ true
all_after p [] b h = h
all_after p (c ∷ cs) b h = all_after p cs b (and_parts (p c) (list_all p (cs ++ b)) h).1
