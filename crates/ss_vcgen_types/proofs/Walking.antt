-- Lists of what is told, one by one.
use Rattle.std.proofs.Common.{◌≡◌, ℕ, suc, ◌+◌, ◌<◌, Bool, true, false, List, [], ◌∷◌, drop, length, get_or, sym, ap, ◌∙◌, arith}
use Rattle.std.specs.Prelude.{◌||◌}
use Rattle.std.proofs.Math.Seq.{drop-cons}
use Rattle.ss_store_rules.specs.NonNull.{Known}
use Rattle.ss_vcgen_types.specs.declared.told.Told.{Told}
use Rattle.ss_vcgen_types.specs.declared.told.Told.TheVariants as told
use Rattle.ss_vcgen_types.specs.Told.{facts_of, all_facts, tells_of, all_tell}

-- what stands where nothing is told
abbrev pub no_told : Told
no_told = told.NotNull 0

-- the list from here on
pub from_here : {X : Type 0} (xs : List X) (i : ℕ) (x : X) → i < length xs → x ≡ get_or xs i x → drop i xs ≡ x ∷ drop (i + 1) xs
from_here xs i x lt is =
    let next : suc i ≡ i + 1 = omega arith in
    drop-cons xs i x lt ∙ ap (λ y. y ∷ drop (suc i) xs) (sym is) ∙ ap (λ n. x ∷ drop n xs) next

pub tell_here : (x : ℕ) (u : Bool) (ts us : List Told) (t : Told) → ts ≡ t ∷ us → tells_of t x u ≡ true → true ≡ all_tell ts x u
tell_here x u ts us t e h = sym (ap (λ vs. all_tell vs x u) e ∙ ap (λ b. b || all_tell us x u) h)

pub tell_not_here : (x : ℕ) (u : Bool) (ts us : List Told) (t : Told) → ts ≡ t ∷ us → tells_of t x u ≡ false → all_tell us x u ≡ all_tell ts x u
tell_not_here x u ts us t e h = sym (ap (λ vs. all_tell vs x u) e ∙ ap (λ b. b || all_tell us x u) h)

pub tell_none : (x : ℕ) (u : Bool) (ts : List Told) → ts ≡ [] → false ≡ all_tell ts x u
tell_none x u ts e = sym (ap (λ vs. all_tell vs x u) e)

pub fact_here : (k : Known) (y : ℕ) (ts us : List Told) (t : Told) → ts ≡ t ∷ us → facts_of k t y ≡ true → true ≡ all_facts k ts y
fact_here k y ts us t e h = sym (ap (λ vs. all_facts k vs y) e ∙ ap (λ b. b || all_facts k us y) h)

pub fact_not_here : (k : Known) (y : ℕ) (ts us : List Told) (t : Told) → ts ≡ t ∷ us → facts_of k t y ≡ false → all_facts k us y ≡ all_facts k ts y
fact_not_here k y ts us t e h = sym (ap (λ vs. all_facts k vs y) e ∙ ap (λ b. b || all_facts k us y) h)

pub fact_none : (k : Known) (y : ℕ) (ts : List Told) → ts ≡ [] → false ≡ all_facts k ts y
fact_none k y ts e = sym (ap (λ vs. all_facts k vs y) e)
