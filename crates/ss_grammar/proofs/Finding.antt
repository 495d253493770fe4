-- Each way of reading finds what its language says.
use Rattle.std.proofs.Common.{◌≡◌, ℕ, zero, suc, ◌≤◌, List, [], ◌∷◌, ◌++◌, length, Option, Some, None, Result, Ok, Err, Bool, true, false, refl, sym, ap, subst, ◌∙◌, append_assoc, arith, length-append}
use Rattle.std.specs.Prelude.{◌||◌}
use Rattle.std.proofs.lemmas.List.{append-nil}
use Rattle.ss_grammar.specs.declared.fault.Fault.{Fault}
use Rattle.ss_grammar.specs.declared.fault.Fault.TheVariants.{Expected, TooDeep}
use Rattle.ss_grammar.specs.Language.{Done, After, Take, Maybe, Bind, Many, Inside, Ends, Starts, Accepts, Finds}
use Rattle.ss_grammar.specs.Reading.{◌>>=◌, after, take, maybe, times}
use Rattle.ss_grammar.proofs.Facts.{Any, Apart, apart_by, known, Cut, same, longer, shorter, cut}
use Rattle.ss_grammar.proofs.Good.{Good, some_at, many_from, many_to}

-- ---- the first token of what follows is all that Ends speaks of

ends_at : {T A : Type 0} (L : List T → A → Type 0) (u w z : List T) (t : T) (more : List T) → Ends L u (w ++ t ∷ z) → Ends L u (w ++ t ∷ more)
ends_at L u [] z t more en = en
ends_at L u (s ∷ w) z t more en = en

ends_front : {T A : Type 0} (L : List T → A → Type 0) (u w z : List T) → Ends L u (w ++ z) → Ends L u w
ends_front L u [] z en = tt
ends_front L u (s ∷ w) z en = en

-- ---- nothing read

pub find_done : {T A : Type 0} (a : A) (d : ℕ) (ts : List T) → Finds (λ d. Done {T = T} {A = A} a) d ts (Ok (a, ts))
find_done {T} {A} a d ts = record { front = []; parts = refl; reads = (refl, refl); ends = λ e. at ts }
  where
    at : (ts : List T) → Ends (Done {T = T} {A = A} a) [] ts
    at [] = tt
    at (t ∷ rest) = λ more v h. absurd (let e : t ∷ more ≡ [] = h.0 in cc)

-- ---- the same language under another name, and one that begins with a token

module _ {T A : Type 0} (L M : ℕ → List T → A → Type 0) (to : (d : ℕ) (ts : List T) (v : A) → L d ts v → M d ts v) (back : (d : ℕ) (ts : List T) (v : A) → M d ts v → L d ts v) where
  ends_same : (d : ℕ) (u rest : List T) → Ends (L d) u rest → Ends (M d) u rest
  ends_same d u [] en = tt
  ends_same d u (t ∷ rest) en = λ more v h. en more v (back d (u ++ t ∷ more) v h)

  starts_same : (d : ℕ) (u : List T) → Starts (L d) u → Starts (M d) u
  starts_same d u s = record { more = s.more; value = s.value; reads = to d (u ++ s.more) s.value s.reads }

  pub find_same : (d : ℕ) (ts : List T) (r : Result (A × List T) (Fault × List T)) → Finds L d ts r → Finds M d ts r
  find_same d ts (Ok x) f = record { front = f.front; parts = f.parts; reads = to d f.front x.0 f.reads; ends = λ e. ends_same e f.front x.1 (f.ends e) }
  find_same d ts (Err (Expected, rest)) f = record { front = f.front; parts = f.parts; starts = starts_same d f.front f.starts; not_whole = λ e v h. f.not_whole e v (back e f.front v h); ends = λ e. ends_same e f.front rest (f.ends e) }
  find_same d ts (Err (TooDeep, rest)) f = record { front = f.front; opening = f.opening; behind = f.behind; parts = f.parts; opens = f.opens; starts = starts_same d f.front f.starts; ends = ends_same d f.front rest f.ends; deeper = starts_same (suc d) (f.front ++ f.opening ∷ []) f.deeper }

module _ {T A : Type 0} (L M : ℕ → List T → A → Type 0) (t : T) (to : (d : ℕ) (ts : List T) (v : A) → L d ts v → M d (t ∷ ts) v) (back : (d : ℕ) (ts : List T) (v : A) → M d (t ∷ ts) v → L d ts v) where
  ends_lead : (d : ℕ) (u rest : List T) → Ends (L d) u rest → Ends (M d) (t ∷ u) rest
  ends_lead d u [] en = tt
  ends_lead d u (s ∷ rest) en = λ more v h. en more v (back d (u ++ s ∷ more) v h)

  starts_lead : (d : ℕ) (u : List T) → Starts (L d) u → Starts (M d) (t ∷ u)
  starts_lead d u s = record { more = s.more; value = s.value; reads = to d (u ++ s.more) s.value s.reads }

  pub find_lead : (d : ℕ) (ts : List T) (r : Result (A × List T) (Fault × List T)) → Finds L d ts r → Finds M d (t ∷ ts) r
  find_lead d ts (Ok x) f = record { front = t ∷ f.front; parts = ap (λ y. t ∷ y) f.parts; reads = to d f.front x.0 f.reads; ends = λ e. ends_lead e f.front x.1 (f.ends e) }
  find_lead d ts (Err (Expected, rest)) f = record { front = t ∷ f.front; parts = ap (λ y. t ∷ y) f.parts; starts = starts_lead d f.front f.starts; not_whole = λ e v h. f.not_whole e v (back e f.front v h); ends = λ e. ends_lead e f.front rest (f.ends e) }
  find_lead d ts (Err (TooDeep, rest)) f = record { front = t ∷ f.front; opening = f.opening; behind = f.behind; parts = ap (λ y. t ∷ y) f.parts; opens = f.opens; starts = starts_lead d f.front f.starts; ends = ends_lead d f.front rest f.ends; deeper = starts_lead (suc d) (f.front ++ f.opening ∷ []) f.deeper }

-- ---- one level deeper

module _ {T A : Type 0} (L : ℕ → List T → A → Type 0) where
  ends_inside : (u rest : List T) → ((e : ℕ) → Ends (L e) u rest) → (e : ℕ) → Ends (Inside L e) u rest
  ends_inside u [] en e = tt
  ends_inside u (t ∷ rest) en zero = λ more v h. h
  ends_inside u (t ∷ rest) en (suc e) = en e

  not_inside : (u : List T) → ((e : ℕ) (v : A) → L e u v → ⊥) → (e : ℕ) (v : A) → Inside L e u v → ⊥
  not_inside u n zero v h = h
  not_inside u n (suc e) v h = n e v h

  pub find_inside : (d : ℕ) (ts : List T) (r : Result (A × List T) (Fault × List T)) → Finds L d ts r → Finds (Inside L) (suc d) ts r
  find_inside d ts (Ok x) f = record { front = f.front; parts = f.parts; reads = f.reads; ends = ends_inside f.front x.1 f.ends }
  find_inside d ts (Err (Expected, rest)) f = record { front = f.front; parts = f.parts; starts = record { more = f.starts.more; value = f.starts.value; reads = f.starts.reads }; not_whole = not_inside f.front f.not_whole; ends = ends_inside f.front rest f.ends }
  find_inside d ts (Err (TooDeep, rest)) f = record { front = f.front; opening = f.opening; behind = f.behind; parts = f.parts; opens = f.opens; starts = record { more = f.starts.more; value = f.starts.value; reads = f.starts.reads }; ends = again rest f.ends; deeper = record { more = f.deeper.more; value = f.deeper.value; reads = f.deeper.reads } }
    where
      again : (rest : List T) → Ends (L d) f.front rest → Ends (Inside L (suc d)) f.front rest
      again [] en = tt
      again (t ∷ rest) en = en

-- ---- one token, and what is read after it

module _ {T A B : Type 0} (f : T → Option B) (K : B → ℕ → List T → A → Type 0) where
  abbrev takes : ℕ → List T → A → Type 0
  takes d = Take f (λ b. K b d)

  pub find_take : (t : T) (b : B) → f t ≡ Some b → (d : ℕ) (ts : List T) (r : Result (A × List T) (Fault × List T)) → Finds (K b) d ts r → Finds (λ d. Take f (λ b. K b d)) d (t ∷ ts) r
  find_take t b e d ts r h =
      find_lead (K b) takes t (λ d ts v p. subst (λ o. After o (λ b. K b d) ts v) (sym e) p) (λ d ts v p. subst (λ o. After o (λ b. K b d) ts v) e p) d ts r h

  pub find_none : (t : T) → f t ≡ None → (d : ℕ) (ts : List T) → Starts (takes d) [] → Finds (λ d. Take f (λ b. K b d)) d (t ∷ ts) (Err (Expected, t ∷ ts))
  find_none t e d ts s = record { front = []; parts = refl; starts = s; not_whole = λ e v h. h; ends = λ n. λ more v h. subst (λ o. After o (λ b. K b n) more v) e h }

  pub find_nil : (d : ℕ) → Starts (takes d) [] → Finds (λ d. Take f (λ b. K b d)) d [] (Err (Expected, []))
  find_nil d s = record { front = []; parts = refl; starts = s; not_whole = λ e v h. h; ends = λ n. tt }

  -- a token that opens a level too many
  pub find_deep : (t : T) (b : B) → f t ≡ Some b → (d : ℕ) (ts : List T) → Starts (takes d) [] → ((ts : List T) (v : A) → K b d ts v → ⊥) → Starts (K b (suc d)) [] → Finds (λ d. Take f (λ b. K b d)) d (t ∷ ts) (Err (TooDeep, t ∷ ts))
  find_deep t b e d ts s never deeper = record {
    front = [];
    opening = t;
    behind = ts;
    parts = refl;
    opens = refl;
    starts = s;
    ends = λ more v h. never more v (subst (λ o. After o (λ b. K b d) more v) e h);
    deeper = record { more = deeper.more; value = deeper.value; reads = subst (λ o. After o (λ b. K b (suc d)) deeper.more deeper.value) (sym e) deeper.reads };
  }

  abbrev maybes : A → ℕ → List T → A → Type 0
  maybes a d = Maybe f (λ b. K b d) a

  pub find_some : (a : A) (t : T) (b : B) → f t ≡ Some b → (d : ℕ) (ts : List T) (r : Result (A × List T) (Fault × List T)) → Finds (K b) d ts r → Finds (λ d. Maybe f (λ b. K b d) a) d (t ∷ ts) r
  find_some a t b e d ts r h =
      find_lead (K b) (maybes a) t (λ d ts v p. subst (λ o. After o (λ b. K b d) ts v) (sym e) p) (λ d ts v p. subst (λ o. After o (λ b. K b d) ts v) e p) d ts r h

  pub find_other : (a : A) (t : T) → f t ≡ None → (d : ℕ) (ts : List T) → Finds (λ d. Maybe f (λ b. K b d) a) d (t ∷ ts) (Ok (a, t ∷ ts))
  find_other a t e d ts = record { front = []; parts = refl; reads = refl; ends = λ n. λ more v h. subst (λ o. After o (λ b. K b n) more v) e h }

  pub find_end : (a : A) (d : ℕ) → Finds (λ d. Maybe f (λ b. K b d) a) d [] (Ok (a, []))
  find_end a d = record { front = []; parts = refl; reads = refl; ends = λ n. tt }

  -- the whole of take and maybe, where no token is too deep
  pub find_takes : (k : B → List T → Result (A × List T) (Fault × List T)) (d : ℕ) → Starts (takes d) [] → (ts : List T) → ((b : B) (t : T) (rest : List T) → ts ≡ t ∷ rest → Finds (K b) d rest (k b rest)) → Finds (λ d. Take f (λ b. K b d)) d ts (take f k ts)
  find_takes k d s [] h = find_nil d s
  find_takes k d s (t ∷ ts) h = at (f t) refl
    where
      at : (o : Option B) → f t ≡ o → Finds (λ d. Take f (λ b. K b d)) d (t ∷ ts) (after o k (Err (Expected, t ∷ ts)) ts)
      at None e = find_none t e d ts s
      at (Some b) e = find_take t b e d ts (k b ts) (h b t ts refl)

  pub find_maybes : (k : B → List T → Result (A × List T) (Fault × List T)) (a : A) (d : ℕ) (ts : List T) → ((b : B) (t : T) (rest : List T) → ts ≡ t ∷ rest → Finds (K b) d rest (k b rest)) → Finds (λ d. Maybe f (λ b. K b d) a) d ts (maybe f k a ts)
  find_maybes k a d [] h = find_end a d
  find_maybes k a d (t ∷ ts) h = at (f t) refl
    where
      at : (o : Option B) → f t ≡ o → Finds (λ d. Maybe f (λ b. K b d) a) d (t ∷ ts) (after o k (Ok (a, t ∷ ts)) ts)
      at None e = find_other a t e d ts
      at (Some b) e = find_some a t b e d ts (k b ts) (h b t ts refl)

-- ---- one after the other

module _ {T A B : Type 0} (L : ℕ → List T → A → Type 0) (K : A → ℕ → List T → B → Type 0) (first1 goes1 first2 goes2 : T → Bool) (empty1 empty2 : Bool) (one : Good L first1 goes1 empty1) (two : (a : A) → Good (K a) first2 goes2 empty2) (apart : Apart (Any L) (λ a. Any (K a))) where
  abbrev binds : ℕ → List T → B → Type 0
  binds d = Bind (L d) (λ a. K a d)

  -- a front that the first part doesn't go on from is all that the first part takes
  bind_at : (n d : ℕ) (u z : List T) (v : B) → Starts (L n) u → Ends (L d) u z → binds d (u ++ z) v → (a : A) × L d u a × K a d z v
  bind_at n d u z v st en h = at (cut h.front u h.back z (sym h.parts))
    where
      at : Cut h.front u h.back z → (a : A) × L d u a × K a d z v
      at (same p q) = (h.first, subst (λ x. L d x h.first) p h.reads, subst (λ x. K h.first d x v) q h.goes_on)
      at (longer t x p q) = absurd (subst (λ y. Ends (L d) u y) q en x h.first (subst (λ y. L d y h.first) p h.reads))
      at (shorter t x p q) =
          let e : u ++ st.more ≡ h.front ++ t ∷ (x ++ st.more) = ap (λ y. y ++ st.more) p ∙ append_assoc h.front (t ∷ x) st.more in
          absurd (apart h.front h.first t (x ++ st.more) st.value (x ++ z) v (d, h.reads) (n, subst (λ y. L n y st.value) e st.reads) (d, subst (λ y. K h.first d y v) q h.goes_on))

  whole : (d : ℕ) (u : List T) (a : A) → L d u a → Starts (L d) u
  whole d u a l = record { more = []; value = a; reads = subst (λ y. L d y a) (sym (append-nil u)) l }

  -- with the first part read to its end
  at_second : (n d : ℕ) (u z : List T) (a : A) (v : B) → L n u a → Ends (L d) u z → binds d (u ++ z) v → K a d z v
  at_second n d u z a v l en h =
      let b = bind_at n d u z v (whole n u a l) en h in
      subst (λ x. K x d z v) (one.facts.one u b.0 a (d, b.1) (n, l)) b.2

  ends_second : (n d : ℕ) (u w z rest : List T) (a : A) → L n u a → Ends (L d) u rest → rest ≡ w ++ z → Ends (K a d) w z → Ends (binds d) (u ++ w) z
  ends_second n d u w [] rest a l en e k = tt
  ends_second n d u w (t ∷ z) rest a l en e k = λ more v h.
      let en' = ends_at (L d) u w z t more (subst (λ y. Ends (L d) u y) e en) in
      k more v (at_second n d u (w ++ t ∷ more) a v l en' (subst (λ y. binds d y v) (append_assoc u w (t ∷ more)) h))

  starts_second : (d : ℕ) (u w : List T) (a : A) → L d u a → Starts (K a d) w → Starts (binds d) (u ++ w)
  starts_second d u w a l s = record { more = s.more; value = s.value; reads = record { first = a; front = u; back = w ++ s.more; parts = append_assoc u w s.more; reads = l; goes_on = s.reads } }

  starts_first : (d : ℕ) (u : List T) → Starts (L d) u → Starts (binds d) u
  starts_first d u s =
      let k = some_at (K s.value) (two s.value).grows (two s.value).some d in
      record { more = s.more ++ k.more; value = k.value; reads = record { first = s.value; front = u ++ s.more; back = k.more; parts = sym (append_assoc u s.more k.more); reads = s.reads; goes_on = k.reads } }

  after_first : (d : ℕ) (ts rest : List T) (a : A) (q : Result (B × List T) (Fault × List T)) → Accepts L d ts a rest → Finds (K a) d rest q → Finds (λ d. Bind (L d) (λ a. K a d)) d ts q
  after_first d ts rest a (Ok x) p f = record {
    front = p.front ++ f.front;
    parts = p.parts ∙ ap (λ y. p.front ++ y) f.parts ∙ sym (append_assoc p.front f.front x.1);
    reads = record { first = a; front = p.front; back = f.front; parts = refl; reads = p.reads; goes_on = f.reads };
    ends = λ e. ends_second d e p.front f.front x.1 rest a p.reads (p.ends e) f.parts (f.ends e);
  }
  after_first d ts rest a (Err (Expected, z)) p f = record {
    front = p.front ++ f.front;
    parts = p.parts ∙ ap (λ y. p.front ++ y) f.parts ∙ sym (append_assoc p.front f.front z);
    starts = starts_second d p.front f.front a p.reads f.starts;
    not_whole = λ e v h. f.not_whole e v (at_second d e p.front f.front a v p.reads (ends_front (L e) p.front f.front z (subst (λ y. Ends (L e) p.front y) f.parts (p.ends e))) h);
    ends = λ e. ends_second d e p.front f.front z rest a p.reads (p.ends e) f.parts (f.ends e);
  }
  after_first d ts rest a (Err (TooDeep, z)) p f = record {
    front = p.front ++ f.front;
    opening = f.opening;
    behind = f.behind;
    parts = p.parts ∙ ap (λ y. p.front ++ y) f.parts ∙ sym (append_assoc p.front f.front z);
    opens = f.opens;
    starts = starts_second d p.front f.front a p.reads f.starts;
    ends = ends_second d d p.front f.front z rest a p.reads (p.ends d) f.parts f.ends;
    deeper = subst (λ y. Starts (binds (suc d)) y) (sym (append_assoc p.front f.front (f.opening ∷ []))) (starts_second (suc d) p.front (f.front ++ f.opening ∷ []) a (one.grows d p.front a p.reads) f.deeper);
  }

  in_first : (d e : ℕ) (u rest : List T) → Starts (L d) u → ((e : ℕ) (v : A) → L e u v → ⊥) → Ends (L e) u rest → Ends (binds e) u rest
  in_first d e u [] s never en = tt
  in_first d e u (t ∷ rest) s never en = λ more v h. let b = bind_at d e u (t ∷ more) v s en h in never e b.0 b.1

  -- at a token that opens a level too many
  deep_first : (d : ℕ) (u rest behind : List T) (t : T) → rest ≡ t ∷ behind → Starts (L d) u → Ends (L d) u rest → Starts (L (suc d)) (u ++ t ∷ []) → Ends (binds d) u rest
  deep_first d u rest behind t o s en deep = subst (λ y. Ends (binds d) u y) (sym o) (λ more v h.
      let b = bind_at d d u (t ∷ more) v s (subst (λ y. Ends (L d) u y) o en) h in
      apart u b.0 t deep.more deep.value more v (d, b.1) (suc d, subst (λ y. L (suc d) y deep.value) (append_assoc u (t ∷ []) deep.more) deep.reads) (d, b.2))

  pub find_bind_by : (d : ℕ) (ts : List T) (r : Result (A × List T) (Fault × List T)) (k : A × List T → Result (B × List T) (Fault × List T)) → Finds L d ts r → ((a : A) (front rest : List T) → ts ≡ front ++ rest → L d front a → ((e : ℕ) → Ends (L e) front rest) → Finds (K a) d rest (k (a, rest))) → Finds (λ d. Bind (L d) (λ a. K a d)) d ts (r >>= k)
  find_bind_by d ts (Ok x) k f h = after_first d ts x.1 x.0 (k x) f (h x.0 f.front x.1 f.parts f.reads f.ends)
  find_bind_by d ts (Err (Expected, rest)) k f h = record {
    front = f.front;
    parts = f.parts;
    starts = starts_first d f.front f.starts;
    not_whole = λ e v p. let b = bind_at d e f.front [] v f.starts tt (subst (λ y. binds e y v) (sym (append-nil f.front)) p) in f.not_whole e b.0 b.1;
    ends = λ e. in_first d e f.front rest f.starts f.not_whole (f.ends e);
  }
  find_bind_by d ts (Err (TooDeep, rest)) k f h = record {
    front = f.front;
    opening = f.opening;
    behind = f.behind;
    parts = f.parts;
    opens = f.opens;
    starts = starts_first d f.front f.starts;
    ends = deep_first d f.front rest f.behind f.opening f.opens f.starts f.ends f.deeper;
    deeper = starts_first (suc d) (f.front ++ f.opening ∷ []) f.deeper;
  }

pub find_bind : {T A B : Type 0} (L : ℕ → List T → A → Type 0) (K : A → ℕ → List T → B → Type 0) (first1 goes1 first2 goes2 : T → Bool) (empty1 empty2 : Bool) (one : Good L first1 goes1 empty1) (two : (a : A) → Good (K a) first2 goes2 empty2) (apart : (t : T) → goes1 t ≡ true → first2 t ≡ true → ⊥) (d : ℕ) (ts : List T) (r : Result (A × List T) (Fault × List T)) (k : A × List T → Result (B × List T) (Fault × List T)) → Finds L d ts r → ((a : A) (front rest : List T) → ts ≡ front ++ rest → Finds (K a) d rest (k (a, rest))) → Finds (λ d. Bind (L d) (λ a. K a d)) d ts (r >>= k)
find_bind L K first1 goes1 first2 goes2 empty1 empty2 one two apart d ts r k f h = find_bind_by L K first1 goes1 first2 goes2 empty1 empty2 one two (apart_by (Any L) (λ a. Any (K a)) first1 goes1 first2 goes2 empty1 empty2 one.facts (λ a. (two a).facts) apart) d ts r k f (λ a front rest e l en. h a front rest e)

-- ---- any number of times

times_last : {T A B R : Type 0} (f : T → Option B) (k : B → List T → Result (R × List T) (Fault × List T)) (join : A → B → R → A) (a : A) → times f k join zero a [] ≡ Ok (a, [])
times_last f k join a = refl

shorter_rest : {T : Type 0} (t : T) (ts u rest : List T) (n : ℕ) → length (t ∷ ts) ≤ suc n → ts ≡ u ++ rest → length rest ≤ n
shorter_rest t ts u rest n le e = omega (arith, ap length e, length-append u rest)

module _ {T A B R : Type 0} (f : T → Option B) (join : A → B → R → A) (K : B → ℕ → List T → R → Type 0) (first goes : T → Bool) (good : (b : B) → Good (K b) first goes false) (many : (a : A) → Good (λ d. Many f (λ b. K b d) join a) (λ t. known (f t)) (λ t. known (f t) || goes t) true) (apart : (t : T) → goes t ≡ true → known (f t) ≡ true → ⊥) (k : B → List T → Result (R × List T) (Fault × List T)) where
  pub find_many : (d : ℕ) → ((b : B) (ts : List T) → Finds (K b) d ts (k b ts)) → (n : ℕ) (a : A) (ts : List T) → length ts ≤ n → Finds (λ d. Many f (λ b. K b d) join a) d ts (times f k join n a ts)
  find_many d h zero a [] le =
      find_same (λ d. Maybe f (λ b. Bind (K b d) (λ r. Many f (λ b. K b d) join (join a b r))) a) (λ d. Many f (λ b. K b d) join a) (λ d ts v p. many_from f join (λ b. K b d) a ts v p) (λ d ts v p. many_to f join (λ b. K b d) a p.0 ts v p.1) d [] (Ok (a, [])) (find_end f (λ b d. Bind (K b d) (λ r. Many f (λ b. K b d) join (join a b r))) a d)
  find_many d h zero a (t ∷ ts) le = absurd (omega arith)
  find_many d h (suc n) a ts le =
      find_same (λ d. Maybe f (λ b. Bind (K b d) (λ r. Many f (λ b. K b d) join (join a b r))) a) (λ d. Many f (λ b. K b d) join a) (λ d ts v p. many_from f join (λ b. K b d) a ts v p) (λ d ts v p. many_to f join (λ b. K b d) a p.0 ts v p.1) d ts (times f k join (suc n) a ts) (find_maybes f (λ b d. Bind (K b d) (λ r. Many f (λ b. K b d) join (join a b r))) (λ b rest. k b rest >>= λ x. times f k join n (join a b x.0) x.1) a d ts (λ b t rest e. find_bind (K b) (λ r d. Many f (λ b. K b d) join (join a b r)) first goes (λ t. known (f t)) (λ t. known (f t) || goes t) false true (good b) (λ r. many (join a b r)) apart d rest (k b rest) (λ x. times f k join n (join a b x.0) x.1) (h b rest) (λ r front z parts. find_many d h n (join a b r) z (shorter_rest t rest front z n (omega (arith, ap length e)) parts))))
