-- Ways leg by leg.
use Rattle.std.proofs.Common.{◌≡◌, ℕ, suc, ◌+◌, ◌*◌, ◌<◌, List, [], ◌∷◌, ◌++◌, length, refl, sym, ◌∙◌, ap, subst, append_assoc, length-append, arith}
use Rattle.ss_equality_rules.specs.declared.Join.{Join}
use Rattle.ss_equality_rules.specs.Names.{name}
use Rattle.ss_search_clashes.specs.declared.ways.Leg.{Leg}
use Rattle.ss_search_clashes.specs.declared.ways.Leg.TheVariants.{Between, By}
use Rattle.ss_search_clashes.specs.Ways.{way}
use Rattle.ss_search_clashes.specs.Legs.{leg_way, legs_way, leg_weight, weight, IsLeg, AreLegs}
use Rattle.ss_search_clashes.proofs.Lists.{nothing_after}

-- two legs and a join weigh less than the way over it
lighter : (n w a b c : ℕ) → n ≡ ((w + (3 * b + 1)) + 1) + (3 * a + 1) → c ≡ a + suc b → n < w + (3 * c + 1)
lighter n w a b c h g = omega (arith, h, g)

module _ (es : List Join) where
  pub way_push : (legs : List Leg) (leg : Leg) → legs_way es (legs ++ leg ∷ []) ≡ leg_way es leg ++ legs_way es legs
  way_push [] leg = sym (nothing_after (leg_way es leg))
  way_push (first ∷ legs) leg = ap (λ js. js ++ leg_way es first) (way_push legs leg) ∙ append_assoc (leg_way es leg) (legs_way es legs) (leg_way es first)

  pub weight_push : (legs : List Leg) (leg : Leg) → weight es (legs ++ leg ∷ []) ≡ weight es legs + leg_weight es leg
  weight_push [] leg = refl
  weight_push (first ∷ legs) leg = let h = weight_push legs leg in omega (arith, h)

  pub legs_push : (legs : List Leg) (leg : Leg) → AreLegs es legs → IsLeg es leg → AreLegs es (legs ++ leg ∷ [])
  legs_push [] leg a b = (b, tt)
  legs_push (first ∷ legs) leg a b = (a.0, legs_push legs leg a.1 b)

  pub legs_popped : (legs : List Leg) (leg : Leg) → AreLegs es (legs ++ leg ∷ []) → AreLegs es legs × IsLeg es leg
  legs_popped [] leg a = (tt, a.0)
  legs_popped (first ∷ legs) leg a = let p = legs_popped legs leg a.1 in ((a.0, p.0), p.1)

  -- the legs of a way over a join, put in its place
  module _ (old new : List Leg) (x a j b y : ℕ) (is : new ≡ ((old ++ Between b y ∷ []) ++ By j ∷ []) ++ Between x a ∷ []) (parts : way es x y ≡ way es x a ++ j ∷ way es b y) where
    pub opened_way : legs_way es new ≡ way es x y ++ legs_way es old
    opened_way =
        ap (legs_way es) is ∙ way_push ((old ++ Between b y ∷ []) ++ By j ∷ []) (Between x a)
        ∙ ap (λ js. way es x a ++ js) (way_push (old ++ Between b y ∷ []) (By j) ∙ ap (λ js. j ∷ js) (way_push old (Between b y)))
        ∙ sym (append_assoc (way es x a) (j ∷ way es b y) (legs_way es old)) ∙ ap (λ js. js ++ legs_way es old) (sym parts)

    pub opened_less : weight es new < weight es old + leg_weight es (Between x y)
    opened_less =
        let all : weight es new ≡ ((weight es old + leg_weight es (Between b y)) + 1) + leg_weight es (Between x a) =
        ap (weight es) is ∙ weight_push ((old ++ Between b y ∷ []) ++ By j ∷ []) (Between x a)
        ∙ ap (λ n. n + leg_weight es (Between x a)) (weight_push (old ++ Between b y ∷ []) (By j) ∙ ap (λ n. n + 1) (weight_push old (Between b y))) in
        let long : length (way es x y) ≡ length (way es x a) + length (j ∷ way es b y) = ap length parts ∙ length-append (way es x a) (j ∷ way es b y) in
        lighter (weight es new) (weight es old) (length (way es x a)) (length (way es b y)) (length (way es x y)) all long

    pub opened_legs : AreLegs es old → name es x ≡ name es a → name es b ≡ name es y → AreLegs es new
    opened_legs legs near far =
        subst (AreLegs es) (sym is) (legs_push ((old ++ Between b y ∷ []) ++ By j ∷ []) (Between x a) (legs_push (old ++ Between b y ∷ []) (By j) (legs_push old (Between b y) legs far) tt) near)

  -- ---- a leg is gone

  module _ (all rest new : List Leg) (leg : Leg) (was : all ≡ rest ++ leg ∷ []) where
    pub popped_legs : AreLegs es all → AreLegs es rest × IsLeg es leg
    popped_legs legs = legs_popped rest leg (subst (AreLegs es) was legs)

    pub popped_way : (gone gone' js : List ℕ) → gone ++ legs_way es all ≡ js → gone' ++ legs_way es new ≡ gone ++ (leg_way es leg ++ legs_way es rest) → gone' ++ legs_way es new ≡ js
    popped_way gone gone' js before step = step ∙ ap (λ ks. gone ++ ks) (sym (way_push rest leg) ∙ ap (legs_way es) (sym was)) ∙ before

    pub popped_less : weight es new < weight es rest + leg_weight es leg → weight es new < weight es all
    popped_less less = let same : weight es all ≡ weight es rest + leg_weight es leg = ap (weight es) was ∙ weight_push rest leg in omega (arith, same, less)

  -- at first the one leg is the whole way
  pub first_way : (x y : ℕ) (gone : List ℕ) (all : List Leg) → gone ≡ [] → all ≡ Between x y ∷ [] → gone ++ legs_way es all ≡ way es x y
  first_way x y gone all a b = ap (λ js. js ++ legs_way es all) a ∙ ap (legs_way es) b

  pub first_legs : (x y : ℕ) (all : List Leg) → all ≡ Between x y ∷ [] → name es x ≡ name es y → AreLegs es all
  first_legs x y all b h = subst (AreLegs es) (sym b) (h, tt)

  -- at last no leg is left
  pub last_way : (gone js : List ℕ) (all : List Leg) → all ≡ [] → gone ++ legs_way es all ≡ js → gone ≡ js
  last_way gone js all none h = sym (nothing_after gone) ∙ ap (λ legs. gone ++ legs_way es legs) (sym none) ∙ h
