-- What one call tells.
use Rattle.std.proofs.Common.{◌≡◌, ℕ, List, [], ◌∷◌, ◌++◌, take, Bool, true, false, Some, refl, sym, ◌∙◌, ap, subst, inl, inr, ⊎_elim}
use Rattle.std.specs.Prelude.{slice_get}
use Rattle.ss_terms.specs.Forms.{TermShape}
use Rattle.ss_equality_rules.specs.declared.Merge.{Merge}
use Rattle.ss_equality_rules.specs.declared.Join.{Join}
use Rattle.ss_equality_rules.specs.declared.Pair.{Pair}
use Rattle.ss_equality_rules.specs.Names.{Has, name, IsLog}
use Rattle.ss_equality_rules.specs.Reasons.{Tells, TellsBeside, IsJoinedAt}
use Rattle.ss_equality_rules.proofs.Lists.{has_pushed, has_first, has_more}
use Rattle.ss_equality_rules.proofs.Reasons.{tells_among, tells_parts}

pub tells_on : (fs : List TermShape) (ms : List Merge) (es : List Join) (ps qs rs : List Pair) (t u v : List Bool) (a b c : List ℕ) → Tells fs ms es ps qs t u a b → Tells fs ms es qs rs u v b c → Tells fs ms es ps rs t v a c
tells_on fs ms es ps qs rs t u v a b c g h = record { tells = λ x y r. h.tells x y (g.tells x y r) }

pub last_first : (fs : List TermShape) (ms : List Merge) (es : List Join) (t : List Bool) (a : List ℕ) (ps qs : List Pair) (p : Pair) → ps ≡ qs ++ p ∷ [] → Tells fs ms es ps (p ∷ qs) t t a a
last_first fs ms es t a ps qs p is = subst (λ xs. Tells fs ms es xs (p ∷ qs) t t a a) (sym is)
    (tells_among fs ms es t a (qs ++ p ∷ []) (p ∷ qs) (λ q h. ⊎_elim
    (λ old. has_more p qs q old)
    (λ new. subst (λ z. Has (p ∷ qs) z) new (has_first p qs))
    (has_pushed qs p q h)))

module _ (n : ℕ) (fs : List TermShape) (ms : List Merge) (es : List Join) (log : IsLog n es) (ps qs rs : List Pair) (t u : List Bool) (a b : List ℕ) (p : Pair) (j : ℕ) (e : Join)
    (at : slice_get es j ≡ Some e) (is_told : slice_get u j ≡ Some true) (beside : TellsBeside fs ms es ps qs t u a b) where
  one_join : (d : Join) → slice_get es j ≡ Some d → d ≡ e
  one_join d at_d = let both : Some d ≡ Some e = sym at_d ∙ at in cc

  pub told_left : IsJoinedAt es p.left p.right j true → rs ≡ (qs ++ record { left = p.left; right = e.left } ∷ []) ++ record { left = e.right; right = p.right } ∷ [] → Tells fs ms es (p ∷ ps) rs t u a b
  told_left joined is =
      let same = one_join joined.join joined.at in
      let sides = joined.left refl in
      let ends = log.joins j e at in
      let left : name (take j es) p.left ≡ e.from = sides.0 ∙ ap (λ z. z.from) same in
      let right : name (take j es) p.right ≡ e.to = sides.1 ∙ ap (λ z. z.to) same in
      subst (λ xs. Tells fs ms es (p ∷ ps) xs t u a b) (sym is)
      (tells_on fs ms es (p ∷ ps) (p ∷ qs) ((qs ++ record { left = p.left; right = e.left } ∷ []) ++ record { left = e.right; right = p.right } ∷ []) t u u a b b (beside.tells p)
      (tells_parts fs ms es u b n log qs p (record { left = p.left; right = e.left }) (record { left = e.right; right = p.right }) j e at is_told
      (λ h. ends.apart (sym left ∙ h ∙ right))
      (left ∙ sym ends.left)
      (ends.right ∙ sym right)
      (refl, refl, inl (refl, refl))))

  pub told_right : IsJoinedAt es p.left p.right j false → rs ≡ (qs ++ record { left = p.left; right = e.right } ∷ []) ++ record { left = e.left; right = p.right } ∷ [] → Tells fs ms es (p ∷ ps) rs t u a b
  told_right joined is =
      let same = one_join joined.join joined.at in
      let sides = joined.right refl in
      let ends = log.joins j e at in
      let right : name (take j es) p.right ≡ e.from = sides.0 ∙ ap (λ z. z.from) same in
      let left : name (take j es) p.left ≡ e.to = sides.1 ∙ ap (λ z. z.to) same in
      subst (λ xs. Tells fs ms es (p ∷ ps) xs t u a b) (sym is)
      (tells_on fs ms es (p ∷ ps) (p ∷ qs) ((qs ++ record { left = p.left; right = e.right } ∷ []) ++ record { left = e.left; right = p.right } ∷ []) t u u a b b (beside.tells p)
      (tells_parts fs ms es u b n log qs p (record { left = p.left; right = e.right }) (record { left = e.left; right = p.right }) j e at is_told
      (λ h. ends.apart (sym right ∙ sym h ∙ left))
      (left ∙ sym ends.right)
      (ends.left ∙ sym right)
      (refl, refl, inr (refl, refl))))
