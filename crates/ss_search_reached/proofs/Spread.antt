-- What is known grows, and the parts of known `and`s are known.
use Rattle.std.proofs.Common.{◌≡◌, ◌≢◌, ℕ, zero, suc, ◌+◌, ◌<◌, ◌≤◌, List, [], ◌∷◌, ◌++◌, length, map, take, get_or, Bool, true, false, refl, sym, ◌∙◌, ap, subst, arith}
use Rattle.std.specs.List.{Contains}
use Rattle.std.proofs.lemmas.Bool.{true≢false}
use Rattle.std.proofs.lemmas.List.{take-take}
use Rattle.ss_logic.specs.Formulas.{Formula, Formulas, Literal, And, Or, Forall, Exists, formula_list, formulas_from}
use Rattle.ss_logic_countermodels.specs.Refuting.{told_in}
use Rattle.ss_terms.specs.declared.forms.FormulaId.{FormulaId}
use Rattle.ss_terms.specs.Forms.{Forms, formula_at, formulas_at}
use Rattle.ss_logic.specs.Includes.{Includes}
use Rattle.ss_logic.proofs.Lists.{contains_none, map_from, map_to}
use Rattle.ss_search_reached.specs.declared.reached.Reached.{Reached}
use Rattle.ss_search_reached.specs.Known.{known_in, IsReached}
use Rattle.ss_search_reached.specs.Following.{Occur, Grows, IsSpread, AreSpread}
use Rattle.ss_search_reached.proofs.Lists.{single, contains_get, one_more, all_of_them, list_back, occur_itself, occur_trans, occur_append, occur_parts, occur_of_fewer}
use Rattle.ss_search_reached.proofs.Fronts.{front_itself, front_trans, front_push, front_includes}

module _ (b : Forms) where
  pub grows_itself : (r : Reached) → IsReached b r → Grows b r r
  grows_itself r h = record { reached = h; front = front_itself (known_in b r); occurs = occur_itself (known_in b r) }

  pub grows_on : (x y z : Reached) → Grows b x y → Grows b y z → Grows b x z
  grows_on x y z g h = record {
    reached = h.reached;
    front = front_trans (known_in b x) (known_in b y) (known_in b z) g.front h.front;
    occurs = occur_trans (known_in b x) (known_in b y) (known_in b z) g.occurs h.occurs;
  }

  pub grows_add : (old new : Reached) (f : Formula) → IsReached b new → known_in b new ≡ known_in b old ++ f ∷ [] → Occur (known_in b old) (f ∷ []) → Grows b old new
  grows_add old new f h e o = record {
    reached = h;
    front = front_push (known_in b old) (known_in b new) (f ∷ []) e;
    occurs = subst (Occur (known_in b old)) (sym e) (occur_append (known_in b old) (known_in b old) (f ∷ []) (occur_itself (known_in b old)) o);
  }

  pub grown : (old new : Reached) → Grows b old new → Includes (known_in b new) (known_in b old)
  grown old new g = front_includes (known_in b old) (known_in b new) g.front

  pub still_occur : (old new : Reached) (fs : List Formula) → Grows b old new → Occur (known_in b old) fs → Occur (known_in b new) fs
  still_occur old new fs g o = occur_trans (known_in b new) (known_in b old) fs (occur_of_fewer (known_in b new) (known_in b old) (grown old new g)) o

and_parts : (fs gs : Formulas) → And fs ≡ And gs → fs ≡ gs
and_parts fs gs e = cc

module _ (b : Forms) (known : List Formula) (f : FormulaId) (parts : List FormulaId) where
  pub and_occur : formula_at b f ≡ And (formulas_from (formulas_at b parts)) → Contains known (formula_at b f) → Occur known (formulas_at b parts)
  and_occur e c = subst (Occur known) (list_back (formulas_at b parts))
      (occur_parts known (formula_at b f) (formulas_from (formulas_at b parts)) c (λ p t. subst (λ x. Contains (told_in x) p) (sym e) t))

  pub and_spread : formula_at b f ≡ And (formulas_from (formulas_at b parts)) → Includes known (formulas_at b parts) → IsSpread known (formula_at b f)
  and_spread e i fs is =
      let same : formulas_from (formulas_at b parts) ≡ fs = and_parts (formulas_from (formulas_at b parts)) fs (sym e ∙ is) in
      subst (λ gs. Includes known (formula_list gs)) same (subst (Includes known) (sym (list_back (formulas_at b parts))) i)

abbrev pub is_and : Formula → Bool
is_and (And fs) = true
is_and (Literal sign p ts) = false
is_and (Or fs) = false
is_and (Forall ss f) = false
is_and (Exists ss f) = false

pub other_spread : (known : List Formula) (f g : Formula) → f ≡ g → is_and g ≡ false → IsSpread known f
other_spread known f g e n fs k = absurd (true≢false (sym (ap is_and (sym e ∙ k)) ∙ n))

spread_in_more : (known more : List Formula) (f : Formula) → Includes more known → IsSpread known f → IsSpread more f
spread_in_more known more f i h fs e x c = i x (h fs e x c)

get_map : {A B : Type 0} (h : A → B) (xs : List A) (i : ℕ) (d : A) (e : B) → i < length xs → get_or (map h xs) i e ≡ h (get_or xs i d)
get_map h [] i d e l = absurd (omega (arith, l))
get_map h (x ∷ xs) zero d e l = refl
get_map h (x ∷ xs) (suc i) d e l = get_map h xs i d e (omega (arith, l))

pub spread_next : (b : Forms) (old new : List FormulaId) (i : ℕ) (d : FormulaId) → i < length old → i < length (formulas_at b old) → take (length (formulas_at b old)) (formulas_at b new) ≡ formulas_at b old →
    ((f : Formula) → Contains (take i (formulas_at b old)) f → IsSpread (formulas_at b old) f) → IsSpread (formulas_at b new) (formula_at b (get_or old i d)) →
    (f : Formula) → Contains (take (i + 1) (formulas_at b new)) f → IsSpread (formulas_at b new) f
spread_next b old new i d l k front before here f c =
    let same : take (i + 1) (formulas_at b new) ≡ take (i + 1) (formulas_at b old) = sym (take-take (i + 1) (length (formulas_at b old)) (formulas_at b new) (omega (arith, k))) ∙ ap (take (i + 1)) front in
    one_more (IsSpread (formulas_at b new)) (formulas_at b old) i (formula_at b d) k
    (λ x m. spread_in_more (formulas_at b old) (formulas_at b new) x (front_includes (formulas_at b old) (formulas_at b new) front) (before x m))
    (subst (IsSpread (formulas_at b new)) (sym (get_map (formula_at b) old i d (formula_at b d) l)) here)
    f (subst (λ xs. Contains xs f) same c)

pub spread_all : (b : Forms) (known : List FormulaId) (i : ℕ) → length (formulas_at b known) ≤ i → ((f : Formula) → Contains (take i (formulas_at b known)) f → IsSpread (formulas_at b known) f) → AreSpread (formulas_at b known)
spread_all b known i h all f c = all_of_them (IsSpread (formulas_at b known)) (formulas_at b known) i h all f c

pub none_spread : (known : List Formula) (f : Formula) → Contains (take 0 known) f → IsSpread known f
none_spread known f c = absurd (contains_none f c)

-- ---- formulas, one after the other

module _ (b : Forms) where
  pub none_known : (known : List Formula) (fs : List FormulaId) → Includes known (formulas_at b (take 0 fs))
  none_known known fs f c = absurd (contains_none f c)

  pub next_known : (known : List Formula) (fs : List FormulaId) (i : ℕ) (d : FormulaId) → i < length fs → Includes known (formulas_at b (take i fs)) → Contains known (formula_at b (get_or fs i d)) → Includes known (formulas_at b (take (i + 1) fs))
  next_known known fs i d h before here f c =
      let r = map_from (formula_at b) (take (i + 1) fs) f c in
      subst (Contains known) r.2 (one_more (λ g. Contains known (formula_at b g)) fs i d h (λ g k. before (formula_at b g) (map_to (formula_at b) (take i fs) g k)) here r.0 r.1)

  -- what occurs in one of them occurs in what was known, and so in more
  pub occur_at : (old new : Reached) → Grows b old new → (fs : List FormulaId) (i : ℕ) (d : FormulaId) → i < length fs → Occur (known_in b old) (formulas_at b fs) → Occur (known_in b new) (formula_at b (get_or fs i d) ∷ [])
  occur_at old new g fs i d h o = still_occur b old new (formula_at b (get_or fs i d) ∷ []) g
      (λ p k. o p (formula_at b (get_or fs i d), map_to (formula_at b) fs (get_or fs i d) (contains_get fs i d h), subst (λ x. Contains (told_in x) p) (sym (single (formula_at b (get_or fs i d)) k.0 k.1)) k.2))
