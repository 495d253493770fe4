-- A loop that reads one more in each turn.
use Rattle.std.proofs.Common.{◌≡◌, ℕ, zero, suc, ◌<◌, ◌≤◌, List, [], ◌∷◌, length, Option, Some, None, Result, Ok, Err, refl, sym, ap, subst, ◌∙◌, arith}
use Rattle.ss_grammar.specs.declared.fault.Fault.{Fault}
use Rattle.ss_grammar.specs.Reading.{◌>>=◌, after, times, seen, seen_as, one_more, one_more_as}

-- with the value a and the rest ts, enough turns are left, and they give the total
pub record Turns {T A B R : Type 0} (f : T → Option B) (k : B → List T → Result (R × List T) (Fault × List T)) (join : A → B → R → A) (a : A) (ts : List T) (total : Result (A × List T) (Fault × List T)) : Type 0 where
  pub count : ℕ
  pub enough : length ts ≤ count
  pub gives : times f k join count a ts ≡ total

module _ {T A B R : Type 0} (f : T → Option B) (k : B → List T → Result (R × List T) (Fault × List T)) (join : A → B → R → A) where
  pub turns_all : (a : A) (ts : List T) → Turns f k join a ts (times f k join (length ts) a ts)
  turns_all a ts = record { count = length ts; enough = omega arith; gives = refl }

  some_turn : (n : ℕ) (a : A) (ts : List T) (b : B) (rest : List T) → seen f ts ≡ Some (b, rest) → times f k join (suc n) a ts ≡ (k b rest >>= λ x. times f k join n (join a b x.0) x.1)
  some_turn n a [] b rest e = absurd cc
  some_turn n a (t ∷ ts) b rest e = at (f t) refl
    where
      at : (o : Option B) → f t ≡ o → times f k join (suc n) a (t ∷ ts) ≡ (k b rest >>= λ x. times f k join n (join a b x.0) x.1)
      at None h = absurd (let g : seen_as None ts ≡ Some (b, rest) = subst (λ o. seen_as o ts ≡ Some (b, rest)) h e in cc)
      at (Some c) h =
          let g : (c, ts) ≡ (b, rest) = let q : seen_as (Some c) ts ≡ Some (b, rest) = subst (λ o. seen_as o ts ≡ Some (b, rest)) h e in cc in
          ap (λ o. after o (λ b rest. k b rest >>= λ x. times f k join n (join a b x.0) x.1) (Ok (a, t ∷ ts)) ts) h ∙ ap (λ (p : B × List T). k p.0 p.1 >>= λ x. times f k join n (join a p.0 x.0) x.1) g

  seen_shorter : (ts : List T) (b : B) (rest : List T) → seen f ts ≡ Some (b, rest) → suc (length rest) ≤ length ts
  seen_shorter [] b rest e = absurd cc
  seen_shorter (t ∷ ts) b rest e = at (f t) refl
    where
      at : (o : Option B) → f t ≡ o → suc (length rest) ≤ length (t ∷ ts)
      at None h = absurd (let g : seen_as None ts ≡ Some (b, rest) = subst (λ o. seen_as o ts ≡ Some (b, rest)) h e in cc)
      at (Some c) h =
          let g : (c, ts) ≡ (b, rest) = let q : seen_as (Some c) ts ≡ Some (b, rest) = subst (λ o. seen_as o ts ≡ Some (b, rest)) h e in cc in
          let l : length ts ≡ length rest = ap (λ (p : B × List T). length p.1) g in
          omega arith

  next_turn : (n : ℕ) (a : A) (ts : List T) (b : B) (rest : List T) (r : R) (z : List T) (total : Result (A × List T) (Fault × List T)) → seen f ts ≡ Some (b, rest) → k b rest ≡ Ok (r, z) → length z ≤ length rest → length ts ≤ n → times f k join n a ts ≡ total → Turns f k join (join a b r) z total
  next_turn zero a ts b rest r z total e g le en h = absurd (omega (arith, seen_shorter ts b rest e))
  next_turn (suc n) a ts b rest r z total e g le en h = record {
    count = n;
    enough = omega (arith, seen_shorter ts b rest e);
    gives = ap (λ q. q >>= λ x. times f k join n (join a b x.0) x.1) (sym g) ∙ sym (some_turn n a ts b rest e) ∙ h;
  }

  pub turns_on : (a : A) (ts : List T) (b : B) (rest : List T) (r : R) (z : List T) (total : Result (A × List T) (Fault × List T)) → seen f ts ≡ Some (b, rest) → k b rest ≡ Ok (r, z) → length z ≤ length rest → Turns f k join a ts total → Turns f k join (join a b r) z total
  turns_on a ts b rest r z total e g le h = next_turn h.count a ts b rest r z total e g le h.enough h.gives

  err_turn : (n : ℕ) (a : A) (ts : List T) (b : B) (rest : List T) (d : Fault × List T) (total : Result (A × List T) (Fault × List T)) → seen f ts ≡ Some (b, rest) → k b rest ≡ Err d → length ts ≤ n → times f k join n a ts ≡ total → total ≡ Err d
  err_turn zero a ts b rest d total e g en h = absurd (omega (arith, seen_shorter ts b rest e))
  err_turn (suc n) a ts b rest d total e g en h = sym h ∙ some_turn n a ts b rest e ∙ ap (λ q. q >>= λ x. times f k join n (join a b x.0) x.1) g

  pub turns_err : (a : A) (ts : List T) (b : B) (rest : List T) (d : Fault × List T) (total : Result (A × List T) (Fault × List T)) → seen f ts ≡ Some (b, rest) → k b rest ≡ Err d → Turns f k join a ts total → total ≡ Err d
  turns_err a ts b rest d total e g h = err_turn h.count a ts b rest d total e g h.enough h.gives

  last_turn : (n : ℕ) (a : A) (ts : List T) → seen f ts ≡ None → times f k join n a ts ≡ Ok (a, ts)
  last_turn zero a ts e = refl
  last_turn (suc n) a [] e = refl
  last_turn (suc n) a (t ∷ ts) e = at (f t) refl
    where
      at : (o : Option B) → f t ≡ o → times f k join (suc n) a (t ∷ ts) ≡ Ok (a, t ∷ ts)
      at None h = ap (λ o. after o (λ b rest. k b rest >>= λ x. times f k join n (join a b x.0) x.1) (Ok (a, t ∷ ts)) ts) h
      at (Some c) h = absurd (let g : seen_as (Some c) ts ≡ None = subst (λ o. seen_as o ts ≡ None) h e in cc)

  pub turns_last : (a : A) (ts : List T) (total : Result (A × List T) (Fault × List T)) → seen f ts ≡ None → Turns f k join a ts total → total ≡ Ok (a, ts)
  turns_last a ts total e h = sym h.gives ∙ last_turn h.count a ts e

  less_turn : (n : ℕ) (a : A) (ts : List T) (b : B) (rest : List T) (r : R) (z : List T) (total : Result (A × List T) (Fault × List T)) → seen f ts ≡ Some (b, rest) → k b rest ≡ Ok (r, z) → length z < length ts → length ts ≤ n → times f k join n a ts ≡ total → Turns f k join (join a b r) z total
  less_turn zero a ts b rest r z total e g le en h = absurd (omega arith)
  less_turn (suc n) a ts b rest r z total e g le en h = record {
    count = n;
    enough = omega arith;
    gives = ap (λ q. q >>= λ x. times f k join n (join a b x.0) x.1) (sym g) ∙ sym (some_turn n a ts b rest e) ∙ h;
  }

  -- what one more means
  pub more_is : (ts : List T) (q : Result (R × List T) (Fault × List T)) → one_more f k ts ≡ Some q → (b : B) × (rest : List T) × (seen f ts ≡ Some (b, rest)) × (k b rest ≡ q)
  more_is [] q e = absurd cc
  more_is (t ∷ ts) q e = at (f t) refl
    where
      at : (o : Option B) → f t ≡ o → (b : B) × (rest : List T) × (seen f (t ∷ ts) ≡ Some (b, rest)) × (k b rest ≡ q)
      at None h = absurd (let g : one_more_as None k ts ≡ Some q = subst (λ o. one_more_as o k ts ≡ Some q) h e in cc)
      at (Some b) h = (b, ts, ap (λ o. seen_as o ts) h, (let g : one_more_as (Some b) k ts ≡ Some q = subst (λ o. one_more_as o k ts ≡ Some q) h e in cc))

  none_is : (ts : List T) → one_more f k ts ≡ None → seen f ts ≡ None
  none_is [] e = refl
  none_is (t ∷ ts) e = at (f t) refl
    where
      at : (o : Option B) → f t ≡ o → seen f (t ∷ ts) ≡ None
      at None h = ap (λ o. seen_as o ts) h
      at (Some b) h = absurd (let g : one_more_as (Some b) k ts ≡ None = subst (λ o. one_more_as o k ts ≡ None) h e in cc)

  pub more_on : (j : A → R → A) → ((a : A) (b : B) (r : R) → join a b r ≡ j a r) → (a : A) (ts : List T) (r : R) (z : List T) (total : Result (A × List T) (Fault × List T)) → one_more f k ts ≡ Some (Ok (r, z)) → length z < length ts → Turns f k join a ts total → Turns f k join (j a r) z total
  more_on j same a ts r z total e lt h =
      let m = more_is ts (Ok (r, z)) e in
      subst (λ x. Turns f k join x z total) (same a m.0 r) (less_turn h.count a ts m.0 m.1 r z total m.2 m.3 lt h.enough h.gives)

  pub more_err : (a : A) (ts : List T) (d : Fault × List T) (total : Result (A × List T) (Fault × List T)) → one_more f k ts ≡ Some (Err d) → Turns f k join a ts total → total ≡ Err d
  more_err a ts d total e h = let m = more_is ts (Err d) e in turns_err a ts m.0 m.1 d total m.2 m.3 h

  pub more_last : (a : A) (ts : List T) (total : Result (A × List T) (Fault × List T)) → one_more f k ts ≡ None → Turns f k join a ts total → total ≡ Ok (a, ts)
  more_last a ts total e h = turns_last a ts total (none_is ts e) h
