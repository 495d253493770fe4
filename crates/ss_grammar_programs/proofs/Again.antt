-- Reading any number of parts, where the next token tells whether there is one more.
use Rattle.std.proofs.Common.{◌≡◌, ℕ, zero, suc, ◌+◌, ◌<◌, ◌≤◌, List, [], ◌∷◌, ◌++◌, length, Result, Ok, Bool, true, false, refl, sym, ap, subst, ◌∙◌, arith}
use Rattle.std.specs.Prelude.{◌||◌, ◌&&◌}
use Rattle.std.proofs.lemmas.List.{length-append, append-nil}
use Rattle.ss_grammar.specs.declared.fault.Fault.{Fault}
use Rattle.ss_grammar.specs.Language.{Done, Bind, Finds}
use Rattle.ss_grammar.specs.Reading.{◌>>=◌}
use Rattle.ss_grammar.proofs.Facts.{Facts, Any, no_token, widen, done_facts, bind_facts, or_left, apart_by, narrow}
use Rattle.ss_grammar.proofs.Good.{Good, grown, bind_in, bind_good}
use Rattle.ss_grammar.proofs.Finding.{find_same, find_bind_by}
use Rattle.ss_grammar.proofs.Knot.{ReadsTo}
use Rattle.ss_grammar_expressions.specs.First.{Choose, Chosen, chosen}
use Rattle.ss_grammar_expressions.specs.Heads.{Piece}
use Rattle.ss_grammar_expressions.proofs.First.{Alive, Ending, longer, find_by}
use Rattle.ss_grammar_expressions.proofs.Sets.{code, In, disjoint, disjoint_in, or_in, PartOf, listed}
use Rattle.ss_grammar_programs.specs.Again.{AtMost, Again, again}

module _ {T A R : Type 0} (f : A → T → Bool) (join : A → R → A) where
  choose_in : (g : T → Bool) (B C : List T → A → Type 0) (a : A) → ((ts : List T) (v : A) → B ts v → C ts v) → (ts : List T) (v : A) → Choose g B (Done a) ts v → Choose g C (Done a) ts v
  choose_in g B C a h [] v p = p
  choose_in g B C a h (t ∷ ts) v p = at (g t) p
    where
      at : (b : Bool) → Chosen b B (Done a) (t ∷ ts) v → Chosen b C (Done a) (t ∷ ts) v
      at true q = h (t ∷ ts) v q
      at false q = q

  pub at_most_in : (L M : List T → R → Type 0) → ((ts : List T) (v : R) → L ts v → M ts v) → (n : ℕ) (a : A) (ts : List T) (v : A) → AtMost f L join n a ts v → AtMost f M join n a ts v
  at_most_in L M h zero a ts v p = p
  at_most_in L M h (suc n) a ts v p =
      choose_in (f a) (Bind L (λ r. AtMost f L join n (join a r))) (Bind M (λ r. AtMost f M join n (join a r))) a (bind_in L M (λ r. AtMost f L join n (join a r)) (λ r. AtMost f M join n (join a r)) h (λ r. at_most_in L M h n (join a r))) ts v p

  nil_choose : (g : T → Bool) (B : List T → A → Type 0) (a : A) (ts : List T) (v : A) → Done a ts v → Choose g B (Done a) ts v
  nil_choose g B a [] v p = p
  nil_choose g B a (t ∷ ts) v p = absurd (let e : t ∷ ts ≡ [] = p.0 in cc)

  at_most_more : (L : List T → R → Type 0) (n : ℕ) (a : A) (ts : List T) (v : A) → AtMost f L join n a ts v → AtMost f L join (suc n) a ts v
  at_most_more L zero a ts v p = nil_choose (f a) (Bind L (λ r. AtMost f L join zero (join a r))) a ts v p
  at_most_more L (suc n) a ts v p =
      choose_in (f a) (Bind L (λ r. AtMost f L join n (join a r))) (Bind L (λ r. AtMost f L join (suc n) (join a r))) a (bind_in L L (λ r. AtMost f L join n (join a r)) (λ r. AtMost f L join (suc n) (join a r)) (λ ts v q. q) (λ r. at_most_more L n (join a r))) ts v p

  pub at_most_up : (L : List T → R → Type 0) (k n : ℕ) (a : A) (ts : List T) (v : A) → AtMost f L join n a ts v → AtMost f L join (k + n) a ts v
  at_most_up L k n a ts v p = grown (λ n. AtMost f L join n a) (λ n ts v p. at_most_more L n a ts v p) k n ts v p

  -- one more of L and any number again
  pub again_from : (L : List T → R → Type 0) (a : A) (ts : List T) (v : A) → Choose (f a) (Bind L (λ r. Again f L join (join a r))) (Done a) ts v → Again f L join a ts v
  again_from L a [] v p = (0, p)
  again_from L a (t ∷ ts) v p = at (f a t) refl p
    where
      at : (b : Bool) → f a t ≡ b → Chosen b (Bind L (λ r. Again f L join (join a r))) (Done a) (t ∷ ts) v → Again f L join a (t ∷ ts) v
      at false e q = (0, q)
      at true e q =
          let back : Chosen true (Bind L (λ r. AtMost f L join q.goes_on.0 (join a r))) (Done a) (t ∷ ts) v = record { first = q.first; front = q.front; back = q.back; parts = q.parts; reads = q.reads; goes_on = q.goes_on.1 } in
          (suc q.goes_on.0, subst (λ b. Chosen b (Bind L (λ r. AtMost f L join q.goes_on.0 (join a r))) (Done a) (t ∷ ts) v) (sym e) back)

  pub again_to : (L : List T → R → Type 0) (a : A) (n : ℕ) (ts : List T) (v : A) → AtMost f L join n a ts v → Choose (f a) (Bind L (λ r. Again f L join (join a r))) (Done a) ts v
  again_to L a zero ts v p = nil_choose (f a) (Bind L (λ r. Again f L join (join a r))) a ts v p
  again_to L a (suc n) ts v p =
      choose_in (f a) (Bind L (λ r. AtMost f L join n (join a r))) (Bind L (λ r. Again f L join (join a r))) a (bind_in L L (λ r. AtMost f L join n (join a r)) (λ r. Again f L join (join a r)) (λ ts v q. q) (λ r ts v q. (n, q))) ts v p

-- ---- f knows only tokens of hs, with none of which a part goes on

module _ {T A R : Type 0} (f : A → T → Bool) (join : A → R → A) (hs : T → Bool) (sub : (a : A) (t : T) → f a t ≡ true → hs t ≡ true) (first goes : T → Bool) (apart : (t : T) → goes t ≡ true → hs t ≡ true → ⊥) where
  abbrev on : T → Bool
  on t = hs t || goes t

  choose_facts : (g : T → Bool) → ((t : T) → g t ≡ true → hs t ≡ true) → (B : List T → A → Type 0) (first' goes' : T → Bool) (a : A) → Facts B first' goes' false → ((t : T) → goes' t ≡ true → on t ≡ true) → Facts (Choose g B (Done a)) hs on true
  choose_facts g gs B first' goes' a facts wider = record { one = one; firsts = firsts; goings = goings; empties = λ v p. refl }
    where
      one : (u : List T) (v w : A) → Choose g B (Done a) u v → Choose g B (Done a) u w → v ≡ w
      one [] v w p q = p.1 ∙ sym q.1
      one (t ∷ u) v w p q = at (g t) p q
        where
          at : (b : Bool) → Chosen b B (Done a) (t ∷ u) v → Chosen b B (Done a) (t ∷ u) w → v ≡ w
          at true x y = facts.one (t ∷ u) v w x y
          at false x y = x.1 ∙ sym y.1

      firsts : (t : T) (m : List T) (v : A) → Choose g B (Done a) (t ∷ m) v → hs t ≡ true
      firsts t m v p = at (g t) refl p
        where
          at : (b : Bool) → g t ≡ b → Chosen b B (Done a) (t ∷ m) v → hs t ≡ true
          at true e x = gs t e
          at false e x = absurd (let q : t ∷ m ≡ [] = x.0 in cc)

      goings : (u : List T) (t : T) (m : List T) (v w : A) → Choose g B (Done a) u v → Choose g B (Done a) (u ++ t ∷ m) w → on t ≡ true
      goings [] t m v w p q = or_left (hs t) (goes t) (at (g t) refl q)
        where
          at : (b : Bool) → g t ≡ b → Chosen b B (Done a) (t ∷ m) w → hs t ≡ true
          at true e x = gs t e
          at false e x = absurd (let q : t ∷ m ≡ [] = x.0 in cc)
      goings (s ∷ u) t m v w p q = at (g s) p q
        where
          at : (b : Bool) → Chosen b B (Done a) (s ∷ u) v → Chosen b B (Done a) (s ∷ (u ++ t ∷ m)) w → on t ≡ true
          at true x y = wider t (facts.goings (s ∷ u) t m v w x y)
          at false x y = absurd (let q : s ∷ u ≡ [] = x.0 in cc)

  wider_goes : (a b : Bool) → ((a || b) || b) ≡ true → (a || b) ≡ true
  wider_goes true b e = refl
  wider_goes false true e = refl
  wider_goes false false e = e

  module _ (L : List T → R → Type 0) (facts : Facts L first goes false) where
    at_most_facts : (n : ℕ) (a : A) → Facts (AtMost f L join n a) hs on true
    at_most_facts zero a = widen (Done a) no_token no_token hs on true (λ t e. absurd cc) (λ t e. absurd cc) (done_facts a)
    at_most_facts (suc n) a =
        choose_facts (f a) (sub a) (Bind L (λ r. AtMost f L join n (join a r))) (λ t. first t || (false && hs t)) (λ t. on t || (true && goes t)) a (bind_facts L (λ r. AtMost f L join n (join a r)) first goes hs on false true facts (λ r. at_most_facts n (join a r)) apart) (λ t e. wider_goes (hs t) (goes t) e)

    pub again_facts : (a : A) → Facts (Again f L join a) hs on true
    again_facts a = record {
      one = λ u v w p q.
          let e : q.0 + p.0 ≡ p.0 + q.0 = omega arith in
          (at_most_facts (p.0 + q.0) a).one u v w (subst (λ n. AtMost f L join n a u v) e (at_most_up f join L q.0 p.0 a u v p.1)) (at_most_up f join L p.0 q.0 a u w q.1);
      firsts = λ t m v p. (at_most_facts p.0 a).firsts t m v p.1;
      goings = λ u t m v w p q.
          let e : q.0 + p.0 ≡ p.0 + q.0 = omega arith in
          (at_most_facts (p.0 + q.0) a).goings u t m v w (subst (λ n. AtMost f L join n a u v) e (at_most_up f join L q.0 p.0 a u v p.1)) (at_most_up f join L p.0 q.0 a (u ++ t ∷ m) w q.1);
      empties = λ v p. refl;
    }

  pub again_good : (L : ℕ → List T → R → Type 0) → Good L first goes false → (a : A) → Good (λ d. Again f (L d) join a) hs on true
  again_good L good a = record {
    facts = narrow (Again f (Any L) join a) (Any (λ d. Again f (L d) join a)) hs on true (λ ts v p. (p.1.0, at_most_in f join (L p.0) (Any L) (λ ts v q. (p.0, q)) p.1.0 a ts v p.1.1)) (again_facts (Any L) good.facts a);
    grows = λ d ts v p. (p.0, at_most_in f join (L d) (L (suc d)) (good.grows d) p.0 a ts v p.1);
    some = record { more = []; value = a; reads = (0, (refl, refl)) };
  }

  -- ---- where at some level a part begins with each token that f knows

  module _ (n : ℕ) (L : ℕ → List T → R → Type 0) (p : ℕ → List T → Result (R × List T) (Fault × List T)) (part : ReadsTo n L first goes false p) (alive : 0 < n → (a : A) (t : T) → f a t ≡ true → Alive L t) where
    abbrev more : A → ℕ → List T → A → Type 0
    more a d = Bind (L d) (λ r. Again f (L d) join (join a r))

    abbrev either : A → ℕ → List T → A → Type 0
    either a d = Choose (f a) (more a d) (Done a)

    abbrev side : A → T → ℕ → List T → A → Type 0
    side a t d = Chosen (f a t) (more a d) (Done a)

    never_nil : (d : ℕ) (v : R) → L d [] v → ⊥
    never_nil d v q = let e : false ≡ true = part.good.facts.empties v (d, q) in cc

    more_nil : (a : A) (d : ℕ) (v : A) → more a d [] v → ⊥
    more_nil a d v q =
        let g = bind_good L (λ r d. Again f (L d) join (join a r)) first goes hs on false true part.good (λ r. again_good L part.good (join a r)) apart in
        let e : (false && true) ≡ true = g.facts.empties v (d, q) in cc

    more_alive : (a : A) (t : T) → Alive L t → Alive (more a) t
    more_alive a t l = (l.0, record { more = l.1.more; value = join a l.1.value; reads = record { first = l.1.value; front = t ∷ l.1.more; back = []; parts = sym (append-nil (t ∷ l.1.more)); reads = l.1.reads; goes_on = (0, (refl, refl)) } })

    shorter : (d k : ℕ) (x : R) (t : T) (ts front rest : List T) → length (t ∷ ts) ≤ suc k → t ∷ ts ≡ front ++ rest → L d front x → length rest ≤ k
    shorter d k x t ts [] rest le e l = absurd (never_nil d x l)
    shorter d k x t ts (s ∷ front) rest le e l = omega (arith, ap length e, length-append (s ∷ front) rest)

    to_again_of : (a : A) (d : ℕ) (ts : List T) (r : Result (A × List T) (Fault × List T)) → Finds (λ d. Choose (f a) (more a d) (Done a)) d ts r → Finds (λ d. Again f (L d) join a) d ts r
    to_again_of a d ts r g = find_same (either a) (λ d. Again f (L d) join a) (λ d ts v q. again_from f join (L d) a ts v q) (λ d ts v q. again_to f join (L d) a q.0 ts v q.1) d ts r g

    abbrev turn : ℕ → ℕ → A → List T → Result (A × List T) (Fault × List T)
    turn d k a ts = p d ts >>= λ x. again f (p d) join k (join a x.0) x.1

    module _ (k d : ℕ) (lt : d < n) (rest_found : (a : A) (ts : List T) → length ts ≤ k → Finds (λ d. Again f (L d) join a) d ts (again f (p d) join k a ts)) where
      one_found : (a : A) (t : T) (ts : List T) → length (t ∷ ts) ≤ suc k → Finds (more a) d (t ∷ ts) (turn d k a (t ∷ ts))
      one_found a t ts le = find_bind_by L (λ r d. Again f (L d) join (join a r)) first goes hs on false true part.good (λ r. again_good L part.good (join a r)) (apart_by (Any L) (λ r. Any (λ d. Again f (L d) join (join a r))) first goes hs on false true part.good.facts (λ r. (again_good L part.good (join a r)).facts) apart) d (t ∷ ts) (p d (t ∷ ts)) (λ x. again f (p d) join k (join a x.0) x.1) (part.finds d lt (t ∷ ts)) (λ x front rest e l ends. rest_found (join a x) rest (shorter d k x t ts front rest le e l))

      at_token : (a : A) (t : T) (ts : List T) → length (t ∷ ts) ≤ suc k → (b : Bool) → f a t ≡ b → Finds (λ d. Choose (f a) (more a d) (Done a)) d (t ∷ ts) (chosen b (turn d k a) (λ us. Ok (a, us)) (t ∷ ts))
      at_token a t ts le true e =
          find_by (side a) (λ d. Done a) (λ d. record { more = []; value = a; reads = (refl, refl) }) t (λ c v q. absurd (more_nil a c v (subst (λ b. Chosen b (more a c) (Done a) [] v) e q))) (subst (λ b. Ending (λ d. Chosen b (more a d) (Done a)) (λ d. Done a) t) (sym e) (longer (more_alive a t (alive (omega (arith, lt)) a t e)))) ts d (turn d k a (t ∷ ts)) (subst (λ b. Finds (λ d. Chosen b (more a d) (Done a)) d (t ∷ ts) (turn d k a (t ∷ ts))) (sym e) (one_found a t ts le))
      at_token a t ts le false e = record { front = []; parts = refl; reads = (refl, refl); ends = λ c z v q. ended z v (subst (λ b. Chosen b (more a c) (Done a) (t ∷ z) v) e q) }
        where
          ended : (z : List T) (v : A) → Done a (t ∷ z) v → ⊥
          ended z v q = let h : t ∷ z ≡ [] = q.0 in cc

    nothing_left : (a : A) (d : ℕ) → Finds (λ d. Choose (f a) (more a d) (Done a)) d [] (Ok (a, []))
    nothing_left a d = record { front = []; parts = refl; reads = (refl, refl); ends = λ c. tt }

    find_again : (d : ℕ) → d < n → (k : ℕ) (a : A) (ts : List T) → length ts ≤ k → Finds (λ d. Again f (L d) join a) d ts (again f (p d) join k a ts)
    find_again d lt zero a [] le = to_again_of a d [] (Ok (a, [])) (nothing_left a d)
    find_again d lt zero a (t ∷ ts) le = absurd (omega arith)
    find_again d lt (suc k) a [] le = to_again_of a d [] (Ok (a, [])) (nothing_left a d)
    find_again d lt (suc k) a (t ∷ ts) le = to_again_of a d (t ∷ ts) (again f (p d) join (suc k) a (t ∷ ts)) (at_token k d lt (λ a ts l. find_again d lt k a ts l) a t ts le (f a t) refl)

    pub to_again : (a : A) → ReadsTo n (λ d. Again f (L d) join a) hs on true (λ d ts. again f (p d) join (length ts) a ts)
    to_again a = record { good = again_good L part.good a; finds = λ d lt ts. find_again d lt (length ts) a ts (omega arith) }

-- the same with lists of tokens
module _ {A R : Type 0} (n : ℕ) where
  pub repeated : (f : A → Piece → Bool) (join : A → R → A) (hs : List ℕ) → ((a : A) (t : Piece) → f a t ≡ true → In hs t ≡ true) → (L : ℕ → List Piece → R → Type 0) (first goes : List ℕ) (p : ℕ → List Piece → Result (R × List Piece) (Fault × List Piece)) → PartOf n L first goes false p → disjoint goes hs ≡ true → (0 < n → (a : A) (t : Piece) → f a t ≡ true → Alive L t) → (a : A) → PartOf n (λ d. Again f (L d) join a) hs (hs ++ goes) true (λ d ts. again f (p d) join (length ts) a ts)
  repeated f join hs sub L first goes p part s alive a = listed n (λ d. Again f (L d) join a) (In hs) (λ t. In hs t || In goes t) hs (hs ++ goes) true (λ d ts. again f (p d) join (length ts) a ts) (λ t h. h) (λ t h. or_in (code t) hs goes true h)
      (to_again f join (In hs) sub (In first) (In goes) (λ t h i. disjoint_in (code t) goes hs s h i) n L p part alive a)
