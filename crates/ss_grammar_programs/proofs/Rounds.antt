-- A loop that reads one more part in each turn, where the next token tells whether there is one more.
use Rattle.std.proofs.Common.{◌≡◌, ℕ, zero, suc, ◌<◌, ◌≤◌, List, [], ◌∷◌, length, Option, Some, None, Result, Ok, Err, Bool, true, false, refl, sym, ap, subst, ◌∙◌, arith}
use Rattle.ss_grammar.specs.declared.fault.Fault.{Fault}
use Rattle.ss_grammar.specs.Reading.{◌>>=◌, take, seen, seen_as, ahead}
use Rattle.ss_grammar_expressions.specs.First.{chosen}
use Rattle.ss_grammar_expressions.specs.Heads.{is, if_so}
use Rattle.ss_grammar_programs.specs.Again.{again, another}

-- with the value a and the rest ts, enough turns are left, and they give the total
pub record Rounds {T A R : Type 0} (f : A → T → Bool) (p : List T → Result (R × List T) (Fault × List T)) (join : A → R → A) (a : A) (ts : List T) (total : Result (A × List T) (Fault × List T)) : Type 0 where
  pub count : ℕ
  pub enough : length ts ≤ count
  pub gives : again f p join count a ts ≡ total

module _ {T A R : Type 0} (f : A → T → Bool) (p : List T → Result (R × List T) (Fault × List T)) (join : A → R → A) where
  pub rounds_all : (a : A) (ts : List T) → Rounds f p join a ts (again f p join (length ts) a ts)
  rounds_all a ts = record { count = length ts; enough = omega arith; gives = refl }

  some_round : (n : ℕ) (a : A) (ts : List T) (q : Result (R × List T) (Fault × List T)) → another (f a) p ts ≡ Some q → again f p join (suc n) a ts ≡ (q >>= λ x. again f p join n (join a x.0) x.1)
  some_round n a [] q e = absurd cc
  some_round n a (t ∷ ts) q e = at (f a t) refl
    where
      at : (b : Bool) → f a t ≡ b → again f p join (suc n) a (t ∷ ts) ≡ (q >>= λ x. again f p join n (join a x.0) x.1)
      at false h = absurd (let g : if_so false (p (t ∷ ts)) ≡ Some q = subst (λ b. if_so b (p (t ∷ ts)) ≡ Some q) h e in cc)
      at true h =
          let g : p (t ∷ ts) ≡ q = (let w : if_so true (p (t ∷ ts)) ≡ Some q = subst (λ b. if_so b (p (t ∷ ts)) ≡ Some q) h e in cc) in
          ap (λ b. chosen b (λ us. p us >>= λ x. again f p join n (join a x.0) x.1) (λ us. Ok (a, us)) (t ∷ ts)) h ∙ ap (λ r. r >>= λ x. again f p join n (join a x.0) x.1) g

  not_nil : (a : A) (ts : List T) (q : Result (R × List T) (Fault × List T)) → another (f a) p ts ≡ Some q → 0 < length ts
  not_nil a [] q e = absurd cc
  not_nil a (t ∷ ts) q e = omega arith

  next_round : (n : ℕ) (a : A) (ts : List T) (r : R) (z : List T) (total : Result (A × List T) (Fault × List T)) → another (f a) p ts ≡ Some (Ok (r, z)) → length z < length ts → length ts ≤ n → again f p join n a ts ≡ total → Rounds f p join (join a r) z total
  next_round zero a ts r z total e lt en h = absurd (omega (arith, lt, en))
  next_round (suc n) a ts r z total e lt en h = record { count = n; enough = omega (arith, lt, en); gives = sym (some_round n a ts (Ok (r, z)) e) ∙ h }

  pub rounds_on : (a : A) (ts : List T) (r : R) (z : List T) (total : Result (A × List T) (Fault × List T)) → another (f a) p ts ≡ Some (Ok (r, z)) → length z < length ts → Rounds f p join a ts total → Rounds f p join (join a r) z total
  rounds_on a ts r z total e lt h = next_round h.count a ts r z total e lt h.enough h.gives

  err_round : (n : ℕ) (a : A) (ts : List T) (d : Fault × List T) (total : Result (A × List T) (Fault × List T)) → another (f a) p ts ≡ Some (Err d) → length ts ≤ n → again f p join n a ts ≡ total → total ≡ Err d
  err_round zero a ts d total e en h = absurd (omega (arith, not_nil a ts (Err d) e, en))
  err_round (suc n) a ts d total e en h = sym h ∙ some_round n a ts (Err d) e

  pub rounds_err : (a : A) (ts : List T) (d : Fault × List T) (total : Result (A × List T) (Fault × List T)) → another (f a) p ts ≡ Some (Err d) → Rounds f p join a ts total → total ≡ Err d
  rounds_err a ts d total e h = err_round h.count a ts d total e h.enough h.gives

  last_round : (n : ℕ) (a : A) (ts : List T) → ahead (f a) ts ≡ false → again f p join n a ts ≡ Ok (a, ts)
  last_round zero a ts e = refl
  last_round (suc n) a [] e = refl
  last_round (suc n) a (t ∷ ts) e = ap (λ b. chosen b (λ us. p us >>= λ x. again f p join n (join a x.0) x.1) (λ us. Ok (a, us)) (t ∷ ts)) e

  pub rounds_end : (a : A) (ts : List T) (total : Result (A × List T) (Fault × List T)) → ahead (f a) ts ≡ false → Rounds f p join a ts total → total ≡ Ok (a, ts)
  rounds_end a ts total e h = sym h.gives ∙ last_round h.count a ts e

  none_ahead : (b : Bool) (q : Result (R × List T) (Fault × List T)) → if_so b q ≡ None → b ≡ false
  none_ahead true q e = absurd cc
  none_ahead false q e = refl

  pub rounds_last : (a : A) (ts : List T) (total : Result (A × List T) (Fault × List T)) → another (f a) p ts ≡ None → Rounds f p join a ts total → total ≡ Ok (a, ts)
  rounds_last a ts total e h = rounds_end a ts total (none_ahead (ahead (f a) ts) (p ts) e) h

-- ---- where a part is one token

module _ {T B : Type 0} (f : T → Option B) where
  abbrev pub token_alone : List T → Result (B × List T) (Fault × List T)
  token_alone = take f (λ b ts. Ok (b, ts))

  pub another_seen : (ts : List T) (b : B) (rest : List T) → seen f ts ≡ Some (b, rest) → another (is f) token_alone ts ≡ Some (Ok (b, rest))
  another_seen [] b rest e = absurd cc
  another_seen (t ∷ ts) b rest e = at (f t) refl
    where
      at : (o : Option B) → f t ≡ o → another (is f) token_alone (t ∷ ts) ≡ Some (Ok (b, rest))
      at None h = absurd (let g : seen_as None ts ≡ Some (b, rest) = subst (λ o. seen_as o ts ≡ Some (b, rest)) h e in cc)
      at (Some c) h =
          let g : (c, ts) ≡ (b, rest) = (let q : seen_as (Some c) ts ≡ Some (b, rest) = subst (λ o. seen_as o ts ≡ Some (b, rest)) h e in cc) in
          ap (λ o. if_so (Rattle.ss_grammar_expressions.specs.Heads.found o) (Rattle.ss_grammar.specs.Reading.after o (λ b ts. Ok (b, ts)) (Err (Rattle.ss_grammar.specs.declared.fault.Fault.TheVariants.Expected, t ∷ ts)) ts)) h ∙ ap (λ (q : B × List T). Some (Ok q)) g

  pub none_seen : (ts : List T) → seen f ts ≡ None → ahead (is f) ts ≡ false
  none_seen [] e = refl
  none_seen (t ∷ ts) e = at (f t) refl
    where
      at : (o : Option B) → f t ≡ o → ahead (is f) (t ∷ ts) ≡ false
      at None h = ap Rattle.ss_grammar_expressions.specs.Heads.found h
      at (Some c) h = absurd (let g : seen_as (Some c) ts ≡ None = subst (λ o. seen_as o ts ≡ None) h e in cc)
