-- One entry of the list of sides is set.
use Rattle.std.proofs.Common.{◌≡◌, ◌≢◌, ℕ, ◌<◌, ◌≤◌, Bool, true, false, List, [], ◌∷◌, ◌++◌, map, length, set, Option, Some, None, refl, sym, ap, subst, ◌∙◌, ⊎_elim, zero, suc}
use Rattle.std.specs.Prelude.{◌==◌, ◌&&◌, not, if◌then◌else◌, option_map}
use Rattle.std.specs.Bool.{beq}
use Rattle.std.proofs.lemmas.Bool.{cases_eq, eq-eqb, ne_eqb}
use Rattle.ss_paths.specs.Sets.{put, none}
use Rattle.ss_store_rules.specs.NonNull.{Facts, Known, with_local}
use Rattle.ss_vcgen_types.specs.declared.told.Told.TheVariants as told
use Rattle.ss_vcgen_known.specs.Pairs.{Pair, side, alike, barred}
use Rattle.ss_vcgen_known.specs.Sets.{without, pair_without, at}
use Rattle.ss_vcgen_known.specs.Steps.{with_said, with_sides, barred_by}
use Rattle.ss_vcgen_known.proofs.Listing.{at_set, at_past, at_more, at_without}
use Rattle.ss_vcgen_types.proofs.Grouping.{map_more}

-- the sides of one local are these
abbrev pub with_pair : ℕ → Pair → Known → Known
with_pair x p k = record k { sides = λ y v. if x == y then side p v else k.sides y v }

-- what the parts say
abbrev pub known_by : Facts → List Pair → Facts → (ℕ → Bool) → Known
known_by f ps b fields = record { facts = f; sides = λ x v. side (at ps (alike b) x) v; fields = fields }

abbrev known_as : Facts → (ℕ → Pair) → (ℕ → Bool) → Known
known_as f g fields = record { facts = f; sides = λ x v. side (g x) v; fields = fields }

side_where : (c : Bool) (p q : Pair) (v : Bool) → side (if c then p else q) v ≡ (if c then side p v else side q v)
side_where true p q v = refl
side_where false p q v = refl

pub set_one : (f : Facts) (ps : List Pair) (b : Facts) (fields : ℕ → Bool) (x : ℕ) (p : Pair) → x < length ps → known_by f (set ps x p) b fields ≡ with_pair x p (known_by f ps b fields)
set_one f ps b fields x p within = λ i. record {
  facts = f;
  sides = λ y v. (ap (λ (g : ℕ → Pair). side (g y) v) (at_set ps (alike b) x p within) ∙ side_where (x == y) p (at ps (alike b) y) v) i;
  fields = fields;
}

pub mapped_set : {X Y : Type 0} (f : X → Y) (xs : List X) (x : ℕ) (y : X) → map f (set xs x y) ≡ set (map f xs) x (f y)
mapped_set f [] x y = refl
mapped_set f (z ∷ zs) zero y = refl
mapped_set f (z ∷ zs) (suc x) y = ap (λ ws. f z ∷ ws) (mapped_set f zs x y)

pub mapped_length : {X Y : Type 0} (f : X → Y) (xs : List X) → length (map f xs) ≡ length xs
mapped_length f [] = refl
mapped_length f (x ∷ xs) = ap suc (mapped_length f xs)

-- an entry of a list of what stands for sides
pub set_entry : {X : Type 0} (view : X → Pair) (f : Facts) (xs : List X) (b : Facts) (fields : ℕ → Bool) (x : ℕ) (y : X) → x < length xs →
    known_by f (map view (set xs x y)) b fields ≡ with_pair x (view y) (known_by f (map view xs) b fields)
set_entry view f xs b fields x y within =
    ap (λ ps. known_by f ps b fields) (mapped_set view xs x y)
    ∙ set_one f (map view xs) b fields x (view y) (subst (λ n. x < n) (sym (mapped_length view xs)) within)

-- one entry more, which says what is past the end
pub one_more : {X : Type 0} (view : X → Pair) (f : Facts) (xs : List X) (b : Facts) (fields : ℕ → Bool) (y : X) → view y ≡ alike b →
    known_by f (map view (xs ++ y ∷ [])) b fields ≡ known_by f (map view xs) b fields
one_more view f xs b fields y is =
    ap (λ ps. known_by f ps b fields) (map_more view xs y ∙ ap (λ p. map view xs ++ p ∷ []) is)
    ∙ ap (λ (g : ℕ → Pair). known_as f g fields) (at_more (map view xs) (alike b))

-- ---- a local is assigned

abbrev pub saying : Facts → Facts → Pair
saying g h = record { holds = Some g; fails = Some h }

side_without : (x : ℕ) (p : Pair) (v : Bool) → side (pair_without x p) v ≡ option_map (without x) (side p v)
side_without x p true = refl
side_without x p false = refl

side_saying : (g h : Facts) (v : Bool) → side (saying g h) v ≡ Some (if v then g else h)
side_saying g h true = refl
side_saying g h false = refl

pub assigned_local : (x : ℕ) (non_null : Bool) (g h f : Facts) (ps : List Pair) (b : Facts) (fields : ℕ → Bool) →
    with_pair x (record { holds = Some g; fails = Some h }) (known_by (put x non_null f) (map (pair_without x) ps) (without x b) fields) ≡ with_sides x non_null g h (known_by f ps b fields)
unfolding put
assigned_local x non_null g h f ps b fields = λ i. record {
  facts = λ y. if x == y then non_null else f y;
  sides = λ y v.
      let said : side (saying g h) v ≡ Some (if v then g else h) = side_saying g h v in
      let rest : side (at (map (pair_without x) ps) (alike (without x b)) y) v ≡ option_map (without x) (side (at ps (alike b) y) v) = ap (λ p. side p v) (at_without x ps b y) ∙ side_without x (at ps (alike b) y) v in
      if x == y then said i else rest i;
  fields = fields;
}

-- what an expression says on both sides
pub says_learned : (x : ℕ) (non_null : Bool) (k : Known) (says : Bool → Facts) → with_sides x non_null (says true) (says false) k ≡ with_local x non_null says k
says_learned x non_null k says = ap (λ (s : Bool → Facts). with_local x non_null s k) (λ i v. cases v i)
  where
    cases : (v : Bool) → (if v then says true else says false) ≡ says v
    cases true = refl
    cases false = refl

-- ---- a side is barred

barred_side : (v u : Bool) (p : Pair) → side (barred (not v) p) u ≡ (if true && beq (not u) v then None else side p u)
barred_side true true p = refl
barred_side true false p = refl
barred_side false true p = refl
barred_side false false p = refl

pub barred_entry : (x : ℕ) (v : Bool) (p : Pair) (k : Known) → ((u : Bool) → side p u ≡ k.sides x u) → with_pair x (barred (not v) p) k ≡ barred_by (told.Truth x v) k
barred_entry x v p k here = λ i. record k { sides = λ y u. at_local y u i }
  where
    at_local : (y : ℕ) (u : Bool) → (if x == y then side (barred (not v) p) u else k.sides y u) ≡ (if y == x && beq (not u) v then None else k.sides y u)
    at_local y u =
        ⊎_elim
        (λ (e : x ≡ y). rw (eq-eqb x y e, eq-eqb y x (sym e)) (barred_side v u p ∙ ap (λ (s : Option Facts). if beq (not u) v then None else s) (here u ∙ ap (λ z. k.sides z u) e)))
        (λ (ne : x ≢ y). rw (ne_eqb x y ne, ne_eqb y x (λ h. ne (sym h))) refl)
        (cases_eq x y)

side_alike : (f : Facts) (v : Bool) → side (alike f) v ≡ Some f
side_alike f true = refl
side_alike f false = refl

-- past the end
pub past_side : {X : Type 0} (view : X → Pair) (xs : List X) (f : Facts) (x : ℕ) (v : Bool) → length xs ≤ x → Some f ≡ side (at (map view xs) (alike f) x) v
past_side view xs f x v l = sym (ap (λ p. side p v) (at_past (map view xs) (alike f) x (subst (λ n. n ≤ x) (sym (mapped_length view xs)) l)) ∙ side_alike f v)

-- a local past the end says nothing on its sides, where nothing is known there
pub silent : {X : Type 0} (view : X → Pair) (f : Facts) (xs : List X) (b : Facts) (fields : ℕ → Bool) (x : ℕ) (g h : Facts) → length xs ≤ x → g ≡ none → h ≡ none → b ≡ none →
    known_by f (map view xs) b fields ≡ with_said x g h (known_by f (map view xs) b fields)
silent view f xs b fields x g h l eg eh eb = λ i. record { facts = f; sides = λ y v. at_local y v i; fields = fields }
  where
    said : (v : Bool) → Some b ≡ side (saying g h) v
    said true = ap Some (eb ∙ sym eg)
    said false = ap Some (eb ∙ sym eh)

    at_local : (y : ℕ) (v : Bool) → side (at (map view xs) (alike b) y) v ≡ (if x == y then side (saying g h) v else side (at (map view xs) (alike b) y) v)
    at_local y v =
        ⊎_elim
        (λ (e : x ≡ y). rw (eq-eqb x y e) (subst (λ z. side (at (map view xs) (alike b) z) v ≡ side (saying g h) v) e (sym (past_side view xs b x v l) ∙ said v)))
        (λ (ne : x ≢ y). rw (ne_eqb x y ne) refl)
        (cases_eq x y)
