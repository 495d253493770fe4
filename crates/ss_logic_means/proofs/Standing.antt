-- What a context stands for, inside `old` and with one more bound name.
use Rattle.std.proofs.Common.{◌≡◌, ℕ, zero, suc, ◌<◌, ℤ, pos, negsuc, ◌+ℤ◌, List, [], ◌∷◌, ◌++◌, length, Bool, true, Some, refl, sym, ◌∙◌, ap, subst, append_assoc, inl, inr, ◌⊎◌, ⊎_elim, arith}
use Rattle.std.specs.Prelude.{slice_get, unwrap_or, int_le, ◌^◌, ◌-◌}
use Rattle.std.proofs.lemmas.Bool.{and_from}
use Rattle.std.proofs.lemmas.Int.{ints}
use Rattle.std.proofs.lemmas.Option.{slice_get_within}
use Rattle.ss_core.specs.declared.names.Ty.{Ty}
use Rattle.ss_core.specs.declared.names.Ty.TheVariants as ty
use Rattle.ss_store_rules.specs.declared.Value.{Value as ObjectValue}
use Rattle.ss_store_rules.specs.declared.Value.TheVariants as value
use Rattle.ss_store_rules.specs.Numbers.{fits}
use Rattle.ss_store_rules.specs.Good.{has_type, IsReady}
use Rattle.ss_store_rules.specs.Values.{Setting}
use Rattle.ss_store_rules.specs.Values as run
use Rattle.ss_logic.specs.Values.{null, Heap, Value, whole, thing, store, Structure}
use Rattle.ss_logic.specs.Terms.{Bound, argument, value_of}
use Rattle.ss_logic.specs.Express.{One, Context, at_entry, with_bound, meant_or_null, local_meant}
use Rattle.ss_logic.proofs.Numbers.{fits_low, fits_high}
use Rattle.ss_machine_typed.specs.Settings.{IsGoodSetting}
use Rattle.ss_logic_means.specs.Means.{standing, Denotes}
use Rattle.ss_logic_means.specs.Scenes.{Stands, StandsAmong}
use Rattle.ss_logic_means.proofs.Denoting.{one_denotes}
use Rattle.ss_logic_means.proofs.Operations.{fits_between}

-- ---- lists with one more

pub get_old : {A : Type 0} (xs ys : List A) (k : ℕ) (x : A) → slice_get xs k ≡ Some x → slice_get (xs ++ ys) k ≡ Some x
get_old [] ys k x e = absurd (let no : ⊥ = cc in no)
get_old (y ∷ xs) ys zero x e = e
get_old (y ∷ xs) ys (suc k) x e = get_old xs ys k x e

pub get_at : {A : Type 0} (xs : List A) (z : A) (ys : List A) → slice_get (xs ++ z ∷ ys) (length xs) ≡ Some z
get_at [] z ys = refl
get_at (x ∷ xs) z ys = get_at xs z ys

pub get_either : {A : Type 0} (xs : List A) (z : A) (k : ℕ) (x : A) → slice_get (xs ++ z ∷ []) k ≡ Some x → (slice_get xs k ≡ Some x) ⊎ ((k ≡ length xs) × (z ≡ x))
get_either [] z zero x e = inr (refl, cc)
get_either [] z (suc k) x e = absurd (let no : ⊥ = cc in no)
get_either (y ∷ xs) z zero x e = inl e
get_either (y ∷ xs) z (suc k) x e = ⊎_elim (λ old. inl old) (λ new. inr (ap suc new.0, new.1)) (get_either xs z k x e)

pub get_found : {A : Type 0} (xs : List A) (k : ℕ) → k < length xs → (x : A) × (slice_get xs k ≡ Some x)
get_found [] k l = absurd (omega (arith, l))
get_found (x ∷ xs) zero l = (x, refl)
get_found (x ∷ xs) (suc k) l = get_found xs k (omega (arith, l))

pub length_more : {A : Type 0} (xs : List A) (z : A) → length (xs ++ z ∷ []) ≡ suc (length xs)
length_more [] z = refl
length_more (x ∷ xs) z = ap suc (length_more xs z)

-- the value of the bound name that stands after these
pub argument_at : (e : List Value) (v : Value) (vs : List Value) (n : ℕ) → length e ≡ n → argument (e ++ v ∷ vs) n ≡ v
argument_at e v vs n h = subst (λ k. argument (e ++ v ∷ vs) k ≡ v) h (ap (λ o. unwrap_or o (thing null)) (get_at e v vs))

-- ---- numbers in a range

between : (x y z : ℤ) → int_le x y ≡ true → int_le y z ≡ true → int_le x z ≡ true
between x y z h k = grind (arith, ints)

before : (i b : ℤ) → int_le (i +ℤ pos 1) b ≡ true → int_le i b ≡ true
before i b h = grind (arith, ints)

-- what stands between numbers of 32 bits has 32 bits
pub range_fits : (a b i : ℤ) → fits a ≡ true → fits b ≡ true → int_le a i ≡ true → int_le (i +ℤ pos 1) b ≡ true → fits i ≡ true
range_fits a b i fa fb low high =
    let least = negsuc (2 ^ 31 - 1) in
    let most = pos (2 ^ 31 - 1) in
    sym (fits_between i) ∙ and_from (int_le least i) (int_le i most) (between least a i (fits_low a fa) low) (between i b most (before i b high) (fits_high b fb))

-- ---- settings

-- a context that stands for all its locals stands for these
pub stands_among : (among : ℕ → Bool) (m : Structure) (c : Context) (now entry : Heap) (locals : List ObjectValue) (e : List Value) → Stands m c now entry locals e → StandsAmong among m c now entry locals e
stands_among among m c now entry locals e st = record { now = st.now; entry = st.entry; count = st.count; locals = λ x v asked there vs. st.locals x v there vs }

module _ (among : ℕ → Bool) (m : Structure) (now entry : Heap) where
  pub old_stands : (c : Context) (locals : List ObjectValue) (e : List Value) → StandsAmong among m c now entry locals e → StandsAmong among m (at_entry c) now entry locals e
  old_stands c locals e st = record { now = st.now; entry = st.entry; count = st.count; locals = st.locals }

  longer : (c : Context) (locals : List ObjectValue) (e : List Value) → StandsAmong among m c now entry locals e → (more : List Value) → StandsAmong among m c now entry locals (e ++ more)
  longer c locals e st more = record {
    now = λ vs. subst (λ w. value_of c.classes m w c.now ≡ store now) (sym (append_assoc e more vs)) (st.now (more ++ vs));
    entry = λ vs. subst (λ w. value_of c.classes m w c.entry ≡ store entry) (sym (append_assoc e more vs)) (st.entry (more ++ vs));
    count = st.count;
    locals = λ x v asked there vs. subst (λ w. Denotes c.classes m w (local_meant c x) (standing v)) (sym (append_assoc e more vs)) (st.locals x v asked there (more ++ vs));
  }

  module _ (c : Context) (locals : List ObjectValue) (e : List Value) (st : StandsAmong among m c now entry locals e) (i : ℤ) where
    pub more_stands : StandsAmong among m c now entry locals (e ++ whole i ∷ [])
    more_stands = longer c locals e st (whole i ∷ [])

    pub bound_stands : length e ≡ c.bound → StandsAmong among m (with_bound c) now entry (locals ++ value.Int i ∷ []) (e ++ whole i ∷ [])
    bound_stands at = record {
      now = more_stands.now;
      entry = more_stands.entry;
      count = length_more c.locals (One (Bound c.bound)) ∙ ap suc st.count ∙ sym (length_more locals (value.Int i));
      locals = λ x v asked there vs. ⊎_elim
          (λ old. old_local x v asked old vs)
          (λ new. subst (λ w. Denotes c.classes m ((e ++ whole i ∷ []) ++ vs) (local_meant (with_bound c) x) (standing w)) new.1 (new_local x new.0 vs))
          (get_either locals (value.Int i) x v there);
    }
      where
        old_local : (x : ℕ) (v : ObjectValue) → among x ≡ true → slice_get locals x ≡ Some v → (vs : List Value) → Denotes c.classes m ((e ++ whole i ∷ []) ++ vs) (local_meant (with_bound c) x) (standing v)
        old_local x v asked old vs =
            let within = slice_get_within locals x v old in
            let count = st.count in
            let y = get_found c.locals x (omega (arith, within, count)) in
            let same : local_meant c x ≡ local_meant (with_bound c) x = ap meant_or_null (y.1 ∙ sym (get_old c.locals (One (Bound c.bound) ∷ []) x y.0 y.1)) in
            subst (λ z. Denotes c.classes m ((e ++ whole i ∷ []) ++ vs) z (standing v)) same (more_stands.locals x v asked old vs)

        new_local : (x : ℕ) → x ≡ length locals → (vs : List Value) → Denotes c.classes m ((e ++ whole i ∷ []) ++ vs) (local_meant (with_bound c) x) (whole i)
        new_local x new vs =
            let is : local_meant (with_bound c) x ≡ One (Bound c.bound) = ap (local_meant (with_bound c)) (new ∙ sym st.count) ∙ ap meant_or_null (get_at c.locals (One (Bound c.bound)) []) in
            let value_is : value_of c.classes m ((e ++ whole i ∷ []) ++ vs) (Bound c.bound) ≡ whole i = ap (λ w. argument w c.bound) (append_assoc e (whole i ∷ []) vs) ∙ argument_at e (whole i) vs c.bound at in
            subst (λ z. Denotes c.classes m ((e ++ whole i ∷ []) ++ vs) z (whole i)) (sym is) (one_denotes c.classes m ((e ++ whole i ∷ []) ++ vs) (Bound c.bound) (whole i) value_is)

-- a setting with one more bound name, whose value has 32 bits, is good
pub bound_good : (s : Setting) (tys : List Ty) (k : Bool) → IsGoodSetting s tys k → (i : ℤ) → fits i ≡ true → IsGoodSetting (run.with_bound s i) (tys ++ ty.Int ∷ []) k
bound_good s tys k good i fit = record {
  chain = good.chain;
  beside = good.beside;
  store = good.store;
  entry = good.entry;
  older = good.older;
  count = length_more s.locals (value.Int i) ∙ ap suc good.count ∙ sym (length_more tys ty.Int);
  types = λ x t v there is. ⊎_elim
      (λ old_type. ⊎_elim
      (λ old. good.types x t v old_type old)
      (λ new. absurd (let within = slice_get_within tys x t old_type in let at = new.0 in let count = good.count in omega (arith, within, at, count)))
      (get_either s.locals (value.Int i) x v is))
      (λ new_type. ⊎_elim
      (λ old. absurd (let within = slice_get_within s.locals x v old in let at = new_type.0 in let count = good.count in omega (arith, within, at, count)))
      (λ new. subst (λ w. has_type s.classes s.store t w ≡ true) new.1 (subst (λ u. has_type s.classes s.store u (value.Int i) ≡ true) new_type.1 fit))
      (get_either s.locals (value.Int i) x v is))
      (get_either tys ty.Int x t there);
  ready = λ x v apart is. ⊎_elim
      (λ old. good.ready x v apart old)
      (λ new. subst (IsReady s.store) new.1 (λ o y e _. absurd (let no : ⊥ = cc in no)))
      (get_either s.locals (value.Int i) x v is);
}
