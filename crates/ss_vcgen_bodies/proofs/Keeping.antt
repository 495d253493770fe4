-- The types of locals, one after the other.
use Rattle.std.proofs.Common.{◌≡◌, Bool, ℕ, zero, suc, ◌+◌, List, [], ◌∷◌, ◌++◌, drop, refl, sym, ap, ◌∙◌, add-one, Option, Some, None}
use Rattle.std.specs.Prelude.{slice_get, option_map}
use Rattle.std.proofs.lemmas.List.{append-nil}
use Rattle.std.proofs.lemmas.Option.{slice_get-map}
use Rattle.ss_core.specs.declared.names.Ty.{Ty}
use Rattle.ss_core.specs.declared.names.Ty.TheVariants as ty
use Rattle.ss_core.specs.Types.{is_non_null, nullable}
use Rattle.ss_logic.specs.Terms.{Term}
use Rattle.ss_terms.specs.declared.forms.TermId.{TermId}
use Rattle.ss_terms.specs.Forms.{Forms}
use Rattle.ss_vcgen_heaps.specs.Positions.{Walk}
use Rattle.ss_vcgen_heaps.specs.Obligations.{stays_of_type, types_from, argument_types_from}
use Rattle.ss_vcgen_heaps.specs.Contracts.{is_of_type}
use Rattle.ss_vcgen_builder.specs.Builder.{local_at, locals_at, HasLocals}
use Rattle.ss_terms.specs.Numbered.{HasTermOf}
use Rattle.ss_vcgen_bodies.specs.Words.{flat, not_lost, kept_type, entry_type}

-- ---- what is left of a list

get_from : {X : Type 0} (xs : List X) (i : ℕ) → slice_get (drop i xs) 0 ≡ slice_get xs i
get_from [] zero = refl
get_from [] (suc i) = refl
get_from (x ∷ xs) zero = refl
get_from (x ∷ xs) (suc i) = get_from xs i

drop_suc : {X : Type 0} (xs : List X) (i : ℕ) → drop 1 (drop i xs) ≡ drop (suc i) xs
drop_suc [] zero = refl
drop_suc [] (suc i) = refl
drop_suc (x ∷ xs) zero = refl
drop_suc (x ∷ xs) (suc i) = drop_suc xs i

drop_one : {X : Type 0} (xs : List X) (i : ℕ) → drop 1 (drop i xs) ≡ drop (i + 1) xs
drop_one xs i = drop_suc xs i ∙ ap (λ n. drop n xs) (sym (add-one i))

-- ---- locals of a builder

-- the term of one of them
pub local_found : (b : Forms) (ls : List (Option TermId)) (x : ℕ) → local_at b (flat (slice_get ls x)) ≡ flat (slice_get (locals_at b ls) x)
local_found b ls x = flat_at (slice_get ls x) ∙ ap flat (sym (slice_get-map (local_at b) ls x))
  where
    flat_at : (o : Option (Option TermId)) → local_at b (flat o) ≡ flat (option_map (local_at b) o)
    flat_at None = refl
    flat_at (Some l) = refl

pub HasTermOf-found : (b : Forms) (ls : List (Option TermId)) (x : ℕ) → HasLocals b ls → HasTermOf b (flat (slice_get ls x))
HasTermOf-found b [] x h = tt
HasTermOf-found b (l ∷ ls) zero h = h.0
HasTermOf-found b (l ∷ ls) (suc x) h = HasTermOf-found b ls x h.1

-- the type with null, and that it isn't null
pub stays_is : (asks_ready : Bool) (s : Term) (t : Ty) (before now : Term) → is_of_type asks_ready s (nullable t) now ++ not_lost (is_non_null t) before now ≡ stays_of_type asks_ready s t before now
stays_is asks_ready s ty.Int before now = append-nil (is_of_type asks_ready s ty.Int now)
stays_is asks_ready s ty.Bool before now = append-nil (is_of_type asks_ready s ty.Bool now)
stays_is asks_ready s ty.Null before now = append-nil (is_of_type asks_ready s ty.Null now)
stays_is asks_ready s (ty.Ref t non_null) before now = refl

module _ (w : Walk) (s : Term) where
  -- ---- after a loop's head

  none_before : (x : ℕ) (ts : List Ty) (news : List (Option Term)) → types_from w s x ts [] news ≡ []
  none_before x [] news = refl
  none_before x (t ∷ ts) news = refl

  none_now : (x : ℕ) (ts : List Ty) (olds : List (Option Term)) → types_from w s x ts olds [] ≡ []
  none_now x [] olds = refl
  none_now x (t ∷ ts) [] = refl
  none_now x (t ∷ ts) (None ∷ olds) = refl
  none_now x (t ∷ ts) (Some o ∷ olds) = refl

  kept_step : (x : ℕ) (t : Ty) (ts : List Ty) (olds news : List (Option Term)) →
      types_from w s x (t ∷ ts) olds news ≡ kept_type w s x t (flat (slice_get olds 0)) (flat (slice_get news 0)) ++ types_from w s (x + 1) ts (drop 1 olds) (drop 1 news)
  kept_step x t ts [] news = sym (none_before (x + 1) ts (drop 1 news))
  kept_step x t ts (None ∷ olds) [] = sym (none_now (x + 1) ts olds)
  kept_step x t ts (Some o ∷ olds) [] = sym (none_now (x + 1) ts olds)
  kept_step x t ts (None ∷ olds) (n ∷ news) = refl
  kept_step x t ts (Some o ∷ olds) (None ∷ news) = refl
  kept_step x t ts (Some o ∷ olds) (Some n ∷ news) = refl

  pub kept_next : (x : ℕ) (t : Ty) (ts : List Ty) (olds news : List (Option Term)) → drop x ts ≡ t ∷ drop (x + 1) ts →
      types_from w s x (drop x ts) (drop x olds) (drop x news) ≡ kept_type w s x t (flat (slice_get olds x)) (flat (slice_get news x)) ++ types_from w s (x + 1) (drop (x + 1) ts) (drop (x + 1) olds) (drop (x + 1) news)
  kept_next x t ts olds news e =
      ap (λ (us : List Ty). types_from w s x us (drop x olds) (drop x news)) e
      ∙ kept_step x t (drop (x + 1) ts) (drop x olds) (drop x news)
      ∙ ap (λ (o : Option (Option Term)). kept_type w s x t (flat o) (flat (slice_get (drop x news) 0)) ++ types_from w s (x + 1) (drop (x + 1) ts) (drop 1 (drop x olds)) (drop 1 (drop x news))) (get_from olds x)
      ∙ ap (λ (o : Option (Option Term)). kept_type w s x t (flat (slice_get olds x)) (flat o) ++ types_from w s (x + 1) (drop (x + 1) ts) (drop 1 (drop x olds)) (drop 1 (drop x news))) (get_from news x)
      ∙ ap (λ (ls : List (Option Term)). kept_type w s x t (flat (slice_get olds x)) (flat (slice_get news x)) ++ types_from w s (x + 1) (drop (x + 1) ts) ls (drop 1 (drop x news))) (drop_one olds x)
      ∙ ap (λ (ls : List (Option Term)). kept_type w s x t (flat (slice_get olds x)) (flat (slice_get news x)) ++ types_from w s (x + 1) (drop (x + 1) ts) (drop (x + 1) olds) ls) (drop_one news x)

  pub none_kept : (x : ℕ) (olds news : List (Option Term)) → types_from w s x [] olds news ≡ []
  none_kept x olds news = refl

  -- ---- at an entry

  no_argument : (x : ℕ) (ts : List Ty) → argument_types_from w s x ts [] ≡ []
  no_argument x [] = refl
  no_argument x (t ∷ ts) = refl

  entry_step : (x : ℕ) (t : Ty) (ts : List Ty) (us : List (Option Term)) → argument_types_from w s x (t ∷ ts) us ≡ entry_type w s x t (flat (slice_get us 0)) ++ argument_types_from w s (x + 1) ts (drop 1 us)
  entry_step x t ts [] = sym (no_argument (x + 1) ts)
  entry_step x t ts (None ∷ us) = refl
  entry_step x t ts (Some u ∷ us) = refl

  pub entry_next : (x : ℕ) (t : Ty) (ts : List Ty) (us : List (Option Term)) → drop x ts ≡ t ∷ drop (x + 1) ts →
      argument_types_from w s x (drop x ts) (drop x us) ≡ entry_type w s x t (flat (slice_get us x)) ++ argument_types_from w s (x + 1) (drop (x + 1) ts) (drop (x + 1) us)
  entry_next x t ts us e =
      ap (λ (vs : List Ty). argument_types_from w s x vs (drop x us)) e
      ∙ entry_step x t (drop (x + 1) ts) (drop x us)
      ∙ ap (λ (o : Option (Option Term)). entry_type w s x t (flat o) ++ argument_types_from w s (x + 1) (drop (x + 1) ts) (drop 1 (drop x us))) (get_from us x)
      ∙ ap (λ (ls : List (Option Term)). entry_type w s x t (flat (slice_get us x)) ++ argument_types_from w s (x + 1) (drop (x + 1) ts) ls) (drop_one us x)

  pub none_entered : (x : ℕ) (us : List (Option Term)) → argument_types_from w s x [] us ≡ []
  none_entered x us = refl
