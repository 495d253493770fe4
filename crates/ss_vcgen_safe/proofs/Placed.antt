-- The context of a position stands for the values of the locals that have terms, and is sorted on them.
use Rattle.std.proofs.Common.{◌≡◌, ℕ, zero, suc, List, [], ◌∷◌, length, map, Bool, true, ◌||◌, Option, Some, refl, sym, ◌∙◌, ap, subst, ⊎_elim, arith}
use Rattle.std.specs.Prelude.{slice_get}
use Rattle.std.proofs.lemmas.Bool.{or_cases, leb-true}
use Rattle.std.proofs.lemmas.Option.{slice_get_within}
use Rattle.ss_core.specs.Tree.{BodyTree}
use Rattle.ss_store_rules.specs.declared.Value.{Value as ObjectValue}
use Rattle.ss_store_rules.specs.Locals.{local_types, is_bound}
use Rattle.ss_machine_typed.specs.Settings.{IsGoodSetting}
use Rattle.ss_machine_good.specs.Known.{IsTrueOf, AreAssigned, WasReady}
use Rattle.ss_logic.specs.declared.Sort.TheVariants as sort
use Rattle.ss_logic.specs.Values.{Heap, Value, store, Structure}
use Rattle.ss_logic.specs.Terms.{Term, sort_of_type, value_of}
use Rattle.ss_logic.specs.Express.{One, choices, meant_or_null}
use Rattle.ss_logic_means.specs.Means.{standing, Denotes}
use Rattle.ss_logic_means.specs.Scenes.{setting_of, StandsAmong}
use Rattle.ss_logic_means.specs.Sorts.{HasSort, HaveSort, IsSortedAmong}
use Rattle.ss_logic_means.proofs.Denoting.{one_denotes}
use Rattle.ss_logic_means.proofs.Forming.{one_sorted}
use Rattle.ss_logic_means.proofs.Sorting.{sort_more}
use Rattle.ss_vcgen_heaps.specs.Positions.{Position, Walk, meant_of, context_at}
use Rattle.ss_vcgen_safe.specs.Placed.{HaveValues, HaveSorts}
use Rattle.ss_vcgen_safe.specs.Reading.{IsRead}

get_meant : (ls : List (Option Term)) (x : ℕ) (t : Term) → slice_get ls x ≡ Some (Some t) → meant_or_null (slice_get (map meant_of ls) x) ≡ One t
get_meant [] x t e = absurd (let no : ⊥ = cc in no)
get_meant (l ∷ ls) zero t e = let same : l ≡ Some t = cc in ap meant_of same
get_meant (l ∷ ls) (suc x) t e = get_meant ls x t e

length_meant : (ls : List (Option Term)) → length (map meant_of ls) ≡ length ls
length_meant [] = refl
length_meant (l ∷ ls) = ap suc (length_meant ls)

pub position_stands : (w : Walk) (k : Position) (among : ℕ → Bool) (m : Structure) (now entry : Heap) (values : List ObjectValue) → ((e : List Value) → value_of w.program.classes m e k.store ≡ store now) → ((e : List Value) → value_of w.program.classes m e w.entry ≡ store entry) →
    length k.locals ≡ length values → HaveValues w.program.classes m among k.locals values → StandsAmong among m (context_at w k) now entry values []
position_stands w k among m now entry values is_now is_entry count have = record {
  now = is_now;
  entry = is_entry;
  count = length_meant k.locals ∙ count;
  locals = λ x v asked there vs.
      let t = have x v asked there in
      subst (λ z. Denotes w.program.classes m vs z (standing v)) (sym (get_meant k.locals x t.0 t.1)) (one_denotes w.program.classes m vs t.0 (standing v) (t.2 vs));
}

pub position_sorted : (w : Walk) (k : Position) (among : ℕ → Bool) → HasSort w.program.classes [] sort.Store k.store → HasSort w.program.classes [] sort.Store w.entry → length k.locals ≡ length (local_types w.body) →
    HaveSorts w.program.classes among k.locals (local_types w.body) → IsSortedAmong among (context_at w k) []
position_sorted w k among is_now is_entry count have = record {
  now = is_now;
  entry = is_entry;
  count = length_meant k.locals ∙ count;
  locals = λ x t asked there more.
      let u = have x t asked there in
      subst (λ z. HaveSort w.program.classes more (sort_of_type t) (choices z)) (sym (get_meant k.locals x u.0 u.1)) (one_sorted w.program.classes more (sort_of_type t) u.0 (sort_more w.program.classes [] more (sort_of_type t) u.0 u.2));
}

-- ---- where the assigned locals have terms

-- a bound name is past the locals of the body
not_bound : {A : Type 0} (b : BodyTree) (ys : List A) (x : ℕ) (y : A) → length ys ≡ length (local_types b) → is_bound b x ≡ true → slice_get ys x ≡ Some y → ⊥
not_bound b ys x y count bound there = let past = leb-true (length (local_types b)) x bound in let within = slice_get_within ys x y there in absurd (omega (arith, past, within, count))

module _ (w : Walk) (k : Position) (assigned : ℕ → Bool) (count : length k.locals ≡ length (local_types w.body)) where
  abbrev among : ℕ → Bool
  among x = assigned x || is_bound w.body x

  pub position_read : (m : Structure) (now entry : Heap) (values : List ObjectValue) → IsGoodSetting (setting_of m (context_at w k) now entry values) (local_types w.body) w.body.flags.ctor → WasReady w.body.flags.ctor (setting_of m (context_at w k) now entry values) →
      AreAssigned w.body assigned (setting_of m (context_at w k) now entry values) → IsTrueOf w.body.flags.ctor k.known (setting_of m (context_at w k) now entry values) →
      ((e : List Value) → value_of w.program.classes m e k.store ≡ store now) → ((e : List Value) → value_of w.program.classes m e w.entry ≡ store entry) → HaveValues w.program.classes m assigned k.locals values → IsRead w.body assigned k.known m (context_at w k) now entry values []
  position_read m now entry values good ready so known is_now is_entry have = record {
    types = refl;
    good = good;
    was_ready = ready;
    assigned_so = so;
    known_so = known;
    stands = position_stands w k among m now entry values is_now is_entry (count ∙ sym good.count) (λ x v asked there.
        ⊎_elim (λ is. have x v is there) (λ bound. absurd (not_bound w.body values x v good.count bound there)) (or_cases (assigned x) (is_bound w.body x) asked));
    bound = refl;
  }

  pub assigned_sorted : HasSort w.program.classes [] sort.Store k.store → HasSort w.program.classes [] sort.Store w.entry → HaveSorts w.program.classes assigned k.locals (local_types w.body) → IsSortedAmong among (context_at w k) []
  assigned_sorted is_now is_entry have =
      position_sorted w k among is_now is_entry count (λ x t asked there.
      ⊎_elim (λ is. have x t is there) (λ bound. absurd (not_bound w.body (local_types w.body) x t refl bound there)) (or_cases (assigned x) (is_bound w.body x) asked))
