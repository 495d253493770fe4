-- Ways lead from the one term to the other, over joins of their class.
use Rattle.std.proofs.Common.{◌≡◌, ◌≢◌, ℕ, zero, suc, ◌<◌, ◌≤◌, List, [], ◌∷◌, ◌++◌, length, take, true, false, cond, eqb, Option, Some, None, option_and_then, refl, sym, ◌∙◌, ap, subst, inl, inr, ◌⊎◌, ⊎_elim, arith}
use Rattle.std.specs.Prelude.{slice_get}
use Rattle.std.proofs.lemmas.Bool.{cases_lt, cases_eq, eq-eqb, ne_eqb}
use Rattle.std.proofs.lemmas.Option.{slice_get_within}
use Rattle.ss_logic.specs.Shapes.{when}
use Rattle.ss_equality_rules.specs.declared.Join.{Join}
use Rattle.ss_equality_rules.specs.Names.{Has, name, IsLog}
use Rattle.ss_equality_rules.specs.Reasons.{IsJoinedAt}
use Rattle.ss_equality_rules.proofs.Lists.{there, has_cases, has_none}
use Rattle.ss_equality_rules.proofs.Names.{renamed_from, renamed_other, name_none, name_next, stays_equal, stays_equal_to, whole_log}
use Rattle.ss_search_clashes.specs.Ways.{across, gone, over, way_after, way}
use Rattle.ss_search_clashes.proofs.Lists.{has_append, one_there}

-- ---- what a way is, case by case

pub way_stays : (es : List Join) (n x y : ℕ) → name (take n es) x ≡ name (take n es) y → way_after es (suc n) x y ≡ way_after es n x y
unfolding way_after
way_stays es n x y h = ap (λ b. cond b (way_after es n x y) (over (λ a b. way_after es n a b) n (slice_get es n) (name (take n es) x) x y)) (eq-eqb (name (take n es) x) (name (take n es) y) h)

way_goes : (es : List Join) (n x y : ℕ) (e : Join) → slice_get es n ≡ Some e → name (take n es) x ≢ name (take n es) y →
    way_after es (suc n) x y ≡ over (λ a b. way_after es n a b) n (Some e) (name (take n es) x) x y
unfolding way_after
way_goes es n x y e at h =
    ap (λ b. cond b (way_after es n x y) (over (λ a b. way_after es n a b) n (slice_get es n) (name (take n es) x) x y)) (ne_eqb (name (take n es) x) (name (take n es) y) h)
    ∙ ap (λ o. over (λ a b. way_after es n a b) n o (name (take n es) x) x y) at

pub way_over_left : (es : List Join) (n x y : ℕ) (e : Join) → slice_get es n ≡ Some e → name (take n es) x ≢ name (take n es) y → name (take n es) x ≡ e.from →
    way_after es (suc n) x y ≡ way_after es n x e.left ++ n ∷ way_after es n e.right y
way_over_left es n x y e at h from =
    way_goes es n x y e at h ∙ ap (λ b. cond b (way_after es n x e.left ++ n ∷ way_after es n e.right y) (way_after es n x e.right ++ n ∷ way_after es n e.left y)) (eq-eqb (name (take n es) x) e.from from)

pub way_over_right : (es : List Join) (n x y : ℕ) (e : Join) → slice_get es n ≡ Some e → name (take n es) x ≢ name (take n es) y → name (take n es) x ≢ e.from →
    way_after es (suc n) x y ≡ way_after es n x e.right ++ n ∷ way_after es n e.left y
way_over_right es n x y e at h other =
    way_goes es n x y e at h ∙ ap (λ b. cond b (way_after es n x e.left ++ n ∷ way_after es n e.right y) (way_after es n x e.right ++ n ∷ way_after es n e.left y)) (ne_eqb (name (take n es) x) e.from other)

start : (es : List Join) (x y : ℕ) → way_after es zero x y ≡ []
unfolding way_after
start es x y = refl

pub way_itself : (es : List Join) (n x : ℕ) → way_after es n x x ≡ []
way_itself es zero x = start es x x
way_itself es (suc n) x = way_stays es n x x refl ∙ way_itself es n x

pub way_none : (es : List Join) (x y : ℕ) → x ≡ y → way es x y ≡ []
way_none es x y h = ap (λ z. way es x z) (sym h) ∙ way_itself es (length es) x

-- later joins don't change it
pub way_later : (es : List Join) (n m x y : ℕ) → n ≤ m → name (take n es) x ≡ name (take n es) y → way_after es m x y ≡ way_after es n x y
way_later es n zero x y l h = let z : n ≡ zero = omega (arith, l) in ap (λ i. way_after es i x y) (sym z)
way_later es n (suc m) x y l h = ⊎_elim
    (λ less. way_stays es m x y (stays_equal_to es n m x y (omega (arith, less)) h) ∙ way_later es n m x y (omega (arith, less)) h)
    (λ no. let z : n ≡ suc m = omega (arith, no, l) in ap (λ i. way_after es i x y) (sym z))
    (cases_lt n (suc m))

pub way_whole : (es : List Join) (n x y : ℕ) → n ≤ length es → name (take n es) x ≡ name (take n es) y → way es x y ≡ way_after es n x y
way_whole es n x y l h = way_later es n (length es) x y l h

-- ---- how two classes become one

-- the terms of different classes that a join makes one
abbrev Sides : List Join → ℕ → Join → ℕ → ℕ → Type 0
Sides es n e x y = (name (take n es) x ≡ e.from) × (name (take n es) y ≡ e.to)

sides : (es : List Join) (n : ℕ) (e : Join) → slice_get es n ≡ Some e → (x y : ℕ) → name (take n es) x ≢ name (take n es) y → name (take (suc n) es) x ≡ name (take (suc n) es) y → Sides es n e x y ⊎ Sides es n e y x
sides es n e at x y apart same = ⊎_elim
    (λ x_from. inl (x_from, by x y x_from apart same))
    (λ x_other. ⊎_elim
    (λ y_from. inr (y_from, by y x y_from (λ s. apart (sym s)) (sym same)))
    (λ y_other. absurd (apart (sym (renamed_other e (name (take n es) x) x_other) ∙ sym (name_next es n e at x) ∙ same ∙ name_next es n e at y ∙ renamed_other e (name (take n es) y) y_other)))
    (cases_eq (name (take n es) y) e.from))
    (cases_eq (name (take n es) x) e.from)
  where
    by : (a b : ℕ) → name (take n es) a ≡ e.from → name (take n es) a ≢ name (take n es) b → name (take (suc n) es) a ≡ name (take (suc n) es) b → name (take n es) b ≡ e.to
    by a b from other s = sym (renamed_other e (name (take n es) b) (λ f. other (from ∙ sym f))) ∙ sym (name_next es n e at b) ∙ sym s ∙ name_next es n e at a ∙ renamed_from e (name (take n es) a) from

-- ---- where a way leads

gone_across : (es : List Join) (js ks : List ℕ) (y : ℕ) → ((z : ℕ) → gone es z js ≡ Some y → gone es z (js ++ ks) ≡ gone es y ks) → (o : Option ℕ) →
    option_and_then (λ z. gone es z js) o ≡ Some y → option_and_then (λ z. gone es z (js ++ ks)) o ≡ gone es y ks
gone_across es js ks y ih None h = cc
gone_across es js ks y ih (Some z) h = ih z h

gone_append : (es : List Join) (x : ℕ) (js ks : List ℕ) (y : ℕ) → gone es x js ≡ Some y → gone es x (js ++ ks) ≡ gone es y ks
gone_append es x [] ks y e = let same : x ≡ y = cc in ap (λ z. gone es z ks) same
gone_append es x (j ∷ js) ks y e = by x js (slice_get es j) (λ z h. gone_append es z js ks y h) e
  where
    by : (x : ℕ) (js : List ℕ) (o : Option Join) → ((z : ℕ) → gone es z js ≡ Some y → gone es z (js ++ ks) ≡ gone es y ks) →
        option_and_then (λ d. option_and_then (λ z. gone es z js) (across x d)) o ≡ Some y → option_and_then (λ d. option_and_then (λ z. gone es z (js ++ ks)) (across x d)) o ≡ gone es y ks
    by x js None ih h = cc
    by x js (Some d) ih h = gone_across es js ks y ih (across x d) h

across_left : (e : Join) → across e.left e ≡ Some e.right
across_left e = ap (λ b. cond b (Some e.right) (when (eqb e.left e.right) e.left)) (eq-eqb e.left e.left refl)

across_right : (e : Join) → across e.right e ≡ Some e.left
across_right e = ⊎_elim
    (λ same. ap (λ b. cond b (Some e.right) (when (eqb e.right e.right) e.left)) (eq-eqb e.right e.left same) ∙ ap Some same)
    (λ other. ap (λ b. cond b (Some e.right) (when (eqb e.right e.right) e.left)) (ne_eqb e.right e.left other) ∙ ap (λ b. when b e.left) (eq-eqb e.right e.right refl))
    (cases_eq e.right e.left)

gone_over : (es : List Join) (n : ℕ) (e : Join) → slice_get es n ≡ Some e → (x y near far : ℕ) (js ks : List ℕ) → gone es x js ≡ Some near → across near e ≡ Some far → gone es far ks ≡ Some y → gone es x (js ++ n ∷ ks) ≡ Some y
gone_over es n e at x y near far js ks a b c =
    gone_append es x js (n ∷ ks) near a ∙ ap (option_and_then (λ d. option_and_then (λ z. gone es z ks) (across near d))) at ∙ ap (option_and_then (λ z. gone es z ks)) b ∙ c

module _ (terms : ℕ) (es : List Join) (log : IsLog terms es) where
  gone_way_after : (n : ℕ) → n ≤ length es → (x y : ℕ) → name (take n es) x ≡ name (take n es) y → gone es x (way_after es n x y) ≡ Some y
  gone_way_after zero l x y h =
      ap (gone es x) (start es x y) ∙ ap Some (sym (name_none x) ∙ h ∙ name_none y)
  gone_way_after (suc n) l x y h =
      let here = there es n (omega (arith, l)) in
      let e = here.0 in
      let is = log.joins n e here.1 in
      let before = gone_way_after n (omega (arith, l)) in
      ⊎_elim
      (λ same. ap (gone es x) (way_stays es n x y same) ∙ before x y same)
      (λ apart. ⊎_elim
      (λ s. ap (gone es x) (way_over_left es n x y e here.1 apart s.0)
      ∙ gone_over es n e here.1 x y e.left e.right (way_after es n x e.left) (way_after es n e.right y) (before x e.left (s.0 ∙ sym is.left)) (across_left e) (before e.right y (is.right ∙ sym s.1)))
      (λ s. ap (gone es x) (way_over_right es n x y e here.1 apart (λ f. is.apart (sym f ∙ s.1)))
      ∙ gone_over es n e here.1 x y e.right e.left (way_after es n x e.right) (way_after es n e.left y) (before x e.right (s.1 ∙ sym is.right)) (across_right e) (before e.left y (is.left ∙ sym s.0)))
      (sides es n e here.1 x y apart h))
      (cases_eq (name (take n es) x) (name (take n es) y))

  pub gone_way : (x y : ℕ) → name es x ≡ name es y → gone es x (way es x y) ≡ Some y
  gone_way x y h = gone_way_after (length es) (omega arith) x y (whole_log es x ∙ h ∙ sym (whole_log es y))

  -- ---- which joins a way has

  pub way_below : (n : ℕ) → n ≤ length es → (x y j : ℕ) → name (take n es) x ≡ name (take n es) y → Has (way_after es n x y) j → j < n
  way_below zero l x y j h k = absurd (has_none j (subst (λ js. Has js j) (start es x y) k))
  way_below (suc n) l x y j h k =
      let here = there es n (omega (arith, l)) in
      let e = here.0 in
      let is = log.joins n e here.1 in
      let before : (a b : ℕ) → name (take n es) a ≡ name (take n es) b → Has (way_after es n a b) j → j < suc n = λ a b s q. (let m = way_below n (omega (arith, l)) a b j s q in omega (arith, m)) in
      ⊎_elim
      (λ same. before x y same (subst (λ js. Has js j) (way_stays es n x y same) k))
      (λ apart. ⊎_elim
      (λ s. part j n (way_after es n x e.left) (way_after es n e.right y) (before x e.left (s.0 ∙ sym is.left)) (before e.right y (is.right ∙ sym s.1))
      (subst (λ js. Has js j) (way_over_left es n x y e here.1 apart s.0) k))
      (λ s. part j n (way_after es n x e.right) (way_after es n e.left y) (before x e.right (s.1 ∙ sym is.right)) (before e.left y (is.left ∙ sym s.0))
      (subst (λ js. Has js j) (way_over_right es n x y e here.1 apart (λ f. is.apart (sym f ∙ s.1))) k))
      (sides es n e here.1 x y apart h))
      (cases_eq (name (take n es) x) (name (take n es) y))
    where
      part : (j n : ℕ) (js ks : List ℕ) → (Has js j → j < suc n) → (Has ks j → j < suc n) → Has (js ++ n ∷ ks) j → j < suc n
      part j n js ks a b q = ⊎_elim a (λ r. ⊎_elim b (λ (s : n ≡ j). omega (arith, s)) (has_cases n ks j r)) (has_append js (n ∷ ks) j q)

  -- each joins terms of their class
  pub way_class : (n : ℕ) → n ≤ length es → (x y j : ℕ) (d : Join) → name (take n es) x ≡ name (take n es) y → Has (way_after es n x y) j → slice_get es j ≡ Some d → name (take n es) d.left ≡ name (take n es) x
  way_class zero l x y j d h k at = absurd (has_none j (subst (λ js. Has js j) (start es x y) k))
  way_class (suc n) l x y j d h k at =
      let here = there es n (omega (arith, l)) in
      let e = here.0 in
      let is = log.joins n e here.1 in
      let later : (a b : ℕ) → name (take n es) a ≡ name (take n es) b → name (take (suc n) es) a ≡ name (take (suc n) es) b = λ a b s. stays_equal_to es n (suc n) a b (omega arith) s in
      let before : (a b : ℕ) → name (take n es) a ≡ name (take n es) b → Has (way_after es n a b) j → name (take (suc n) es) d.left ≡ name (take (suc n) es) a = λ a b s q. later d.left a (way_class n (omega (arith, l)) a b j d s q at) in
      let left_is : n ≡ j → e.left ≡ d.left = λ s. ap (λ z. z.left) (one_there es n e d here.1 (ap (slice_get es) s ∙ at)) in
      ⊎_elim
      (λ same. before x y same (subst (λ js. Has js j) (way_stays es n x y same) k))
      (λ apart. ⊎_elim
      (λ s. part j n (way_after es n x e.left) (way_after es n e.right y) (name (take (suc n) es) d.left ≡ name (take (suc n) es) x)
      (λ q. before x e.left (s.0 ∙ sym is.left) q)
      (λ q. before e.right y (is.right ∙ sym s.1) q ∙ later e.right y (is.right ∙ sym s.1) ∙ sym h)
      (λ q. ap (name (take (suc n) es)) (sym (left_is q)) ∙ later e.left x (is.left ∙ sym s.0))
      (subst (λ js. Has js j) (way_over_left es n x y e here.1 apart s.0) k))
      (λ s. part j n (way_after es n x e.right) (way_after es n e.left y) (name (take (suc n) es) d.left ≡ name (take (suc n) es) x)
      (λ q. before x e.right (s.1 ∙ sym is.right) q)
      (λ q. before e.left y (is.left ∙ sym s.0) q ∙ later e.left y (is.left ∙ sym s.0) ∙ sym h)
      (λ q. ap (name (take (suc n) es)) (sym (left_is q)) ∙ later e.left y (is.left ∙ sym s.0) ∙ sym h)
      (subst (λ js. Has js j) (way_over_right es n x y e here.1 apart (λ f. is.apart (sym f ∙ s.1))) k))
      (sides es n e here.1 x y apart h))
      (cases_eq (name (take n es) x) (name (take n es) y))
    where
      part : (j n : ℕ) (js ks : List ℕ) (P : Type 0) → (Has js j → P) → (Has ks j → P) → (n ≡ j → P) → Has (js ++ n ∷ ks) j → P
      part j n js ks P a b c q = ⊎_elim a (λ r. ⊎_elim b c (has_cases n ks j r)) (has_append js (n ∷ ks) j q)

  -- ---- the parts of a way

  -- where the class of x was the one that was renamed
  pub parts_left : (x y j : ℕ) (e : Join) → IsJoinedAt es x y j true → slice_get es j ≡ Some e →
      (way es x y ≡ way es x e.left ++ j ∷ way es e.right y) × (name es x ≡ name es e.left) × (name es e.right ≡ name es y)
  parts_left x y j e at is =
      let here : at.join ≡ e = one_there es j at.join e at.at is in
      let s = at.left refl in
      let x_from : name (take j es) x ≡ e.from = s.0 ∙ ap (λ z. z.from) here in
      let y_to : name (take j es) y ≡ e.to = s.1 ∙ ap (λ z. z.to) here in
      parted j e is x y x_from y_to
    where
      parted : (j : ℕ) (e : Join) → slice_get es j ≡ Some e → (x y : ℕ) → name (take j es) x ≡ e.from → name (take j es) y ≡ e.to →
          (way es x y ≡ way es x e.left ++ j ∷ way es e.right y) × (name es x ≡ name es e.left) × (name es e.right ≡ name es y)
      parted j e at x y from to =
          let is = log.joins j e at in
          let inside : j < length es = slice_get_within es j e at in
          let near : name (take j es) x ≡ name (take j es) e.left = from ∙ sym is.left in
          let far : name (take j es) e.right ≡ name (take j es) y = is.right ∙ sym to in
          let apart : name (take j es) x ≢ name (take j es) y = λ q. is.apart (sym from ∙ q ∙ to) in
          let now : name (take (suc j) es) x ≡ name (take (suc j) es) y =
          name_next es j e at x ∙ renamed_from e (name (take j es) x) from ∙ sym (name_next es j e at y ∙ renamed_other e (name (take j es) y) (λ f. is.apart (sym f ∙ to)) ∙ to) in (
            way_whole es (suc j) x y (omega (arith, inside)) now ∙ way_over_left es j x y e at apart from
                ∙ ap (λ js. js ++ j ∷ way_after es j e.right y) (sym (way_whole es j x e.left (omega (arith, inside)) near))
                ∙ ap (λ ks. way es x e.left ++ j ∷ ks) (sym (way_whole es j e.right y (omega (arith, inside)) far)),
            stays_equal es j x e.left near,
            stays_equal es j e.right y far,
          )

  -- where it was that of y
  pub parts_right : (x y j : ℕ) (e : Join) → IsJoinedAt es x y j false → slice_get es j ≡ Some e →
      (way es x y ≡ way es x e.right ++ j ∷ way es e.left y) × (name es x ≡ name es e.right) × (name es e.left ≡ name es y)
  parts_right x y j e at is =
      let here : at.join ≡ e = one_there es j at.join e at.at is in
      let s = at.right refl in
      let y_from : name (take j es) y ≡ e.from = s.0 ∙ ap (λ z. z.from) here in
      let x_to : name (take j es) x ≡ e.to = s.1 ∙ ap (λ z. z.to) here in
      parted j e is x y y_from x_to
    where
      parted : (j : ℕ) (e : Join) → slice_get es j ≡ Some e → (x y : ℕ) → name (take j es) y ≡ e.from → name (take j es) x ≡ e.to →
          (way es x y ≡ way es x e.right ++ j ∷ way es e.left y) × (name es x ≡ name es e.right) × (name es e.left ≡ name es y)
      parted j e at x y from to =
          let is = log.joins j e at in
          let inside : j < length es = slice_get_within es j e at in
          let near : name (take j es) x ≡ name (take j es) e.right = to ∙ sym is.right in
          let far : name (take j es) e.left ≡ name (take j es) y = is.left ∙ sym from in
          let other : name (take j es) x ≢ e.from = λ f. is.apart (sym f ∙ to) in
          let apart : name (take j es) x ≢ name (take j es) y = λ q. other (q ∙ from) in
          let now : name (take (suc j) es) x ≡ name (take (suc j) es) y =
          name_next es j e at x ∙ renamed_other e (name (take j es) x) other ∙ to ∙ sym (name_next es j e at y ∙ renamed_from e (name (take j es) y) from) in (
            way_whole es (suc j) x y (omega (arith, inside)) now ∙ way_over_right es j x y e at apart other
                ∙ ap (λ js. js ++ j ∷ way_after es j e.left y) (sym (way_whole es j x e.right (omega (arith, inside)) near))
                ∙ ap (λ ks. way es x e.right ++ j ∷ ks) (sym (way_whole es j e.left y (omega (arith, inside)) far)),
            stays_equal es j x e.right near,
            stays_equal es j e.left y far,
          )
