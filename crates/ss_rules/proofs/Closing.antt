-- Steps of closing a list.
use Rattle.std.proofs.Common.{◌≡◌, ℕ, zero, suc, ◌<◌, ◌≤◌, ◌≢◌, List, [], ◌∷◌, ◌++◌, length, Bool, true, false, not, refl, sym, ◌∙◌, ap, append_assoc, arith, Option, Some, None, if◌then◌else◌, length-append}
use Rattle.std.specs.Prelude.{nat_le, ◌==◌}
use Rattle.std.specs.List.{list_any}
use Rattle.std.proofs.lemmas.List.{append-nil}
use Rattle.std.proofs.lemmas.Bool.{lt-leb, le-leb, eq-eqb, eqb-true, ne_eqb}
use Rattle.ss_core.specs.Tree.{ClassTree}
use Rattle.ss_logic.specs.Formulas.{Formula}
use Rattle.ss_logic.specs.Equal.{same_formula}
use Rattle.ss_logic.specs.Ground.{due, if_more, closed, closed_from}
use Rattle.ss_rules.specs.Comes.{IsClosed}
use Rattle.ss_logic.specs.Occurring.{with_formula, with_formulas}

many : (limit : ℕ) (fs gs : List Formula) (next : List Formula → Option (List Formula)) (few : Bool) → nat_le (length gs) limit ≡ few → few ≡ false → if_more limit fs next gs ≡ None
many limit fs gs next few e f = rw (e ∙ f) refl

done : (limit : ℕ) (fs gs : List Formula) (next : List Formula → Option (List Formula)) → nat_le (length gs) limit ≡ true → (length gs == length fs) ≡ true → if_more limit fs next gs ≡ Some gs
done limit fs gs next e f = rw (e, f) refl

more : (limit : ℕ) (fs gs : List Formula) (next : List Formula → Option (List Formula)) → nat_le (length gs) limit ≡ true → (length gs == length fs) ≡ false → if_more limit fs next gs ≡ next gs
more limit fs gs next e f = rw (e, f) refl

module _ (cs : List ClassTree) (limit n : ℕ) (fs gs : List Formula) (is : gs ≡ with_formulas fs (due cs fs)) where
  one_step : closed_from cs limit (suc n) fs ≡ if_more limit fs (closed_from cs limit n) gs
  one_step = ap (if_more limit fs (closed_from cs limit n)) (sym is)

  pub closes_many : limit < length gs → closed_from cs limit (suc n) fs ≡ None
  closes_many h = one_step ∙ many limit fs gs (closed_from cs limit n) false (lt-leb (length gs) limit h) refl

  pub closes_done : length gs ≤ limit → length gs ≡ length fs → closed_from cs limit (suc n) fs ≡ Some gs
  closes_done h e = one_step ∙ done limit fs gs (closed_from cs limit n) (le-leb (length gs) limit h) (eq-eqb (length gs) (length fs) e)

  pub closes_more : length gs ≤ limit → length gs ≢ length fs → closed_from cs limit (suc n) fs ≡ closed_from cs limit n gs
  closes_more h e = one_step ∙ more limit fs gs (closed_from cs limit n) (le-leb (length gs) limit h) (ne_eqb (length gs) (length fs) e)

-- ---- a closed list stays as it is

extended : (fs xs : List Formula) → (more : List Formula) × (with_formulas fs xs ≡ fs ++ more)
extended fs [] = ([], sym (append-nil fs))
extended fs (x ∷ xs) =
    let one = one_more fs x (list_any (same_formula x) fs) in
    let rest = extended (with_formula fs x) xs in
    (one.0 ++ rest.0, rest.1 ∙ ap (λ gs. gs ++ rest.0) one.1 ∙ append_assoc fs one.0 rest.0)
  where
    one_more : (fs : List Formula) (x : Formula) (r : Bool) → (more : List Formula) × ((if r then fs else fs ++ x ∷ []) ≡ fs ++ more)
    one_more fs x true = ([], sym (append-nil fs))
    one_more fs x false = (x ∷ [], refl)

nothing_more : (fs more : List Formula) → length (fs ++ more) ≡ length fs → more ≡ []
nothing_more fs [] e = refl
nothing_more fs (x ∷ more) e = absurd (omega (arith, e, length-append fs (x ∷ more)))

pub none_added : (fs xs gs : List Formula) → gs ≡ with_formulas fs xs → length gs ≡ length fs → gs ≡ fs
none_added fs xs gs is e =
    let x = extended fs xs in
    is ∙ x.1 ∙ ap (λ more. fs ++ more) (nothing_more fs x.0 (sym (ap length (is ∙ x.1)) ∙ e)) ∙ append-nil fs

record IsStill (cs : List ClassTree) (limit : ℕ) (gs : List Formula) : Type 0 where
  pub few : nat_le (length gs) limit ≡ true
  pub same : with_formulas gs (due cs gs) ≡ gs

nothing_is : (gs : List Formula) → None ≡ Some gs → ⊥
nothing_is gs e = cc

still : (cs : List ClassTree) (limit n : ℕ) (fs gs : List Formula) → closed_from cs limit n fs ≡ Some gs → IsStill cs limit gs
still cs limit zero fs gs e = absurd (nothing_is gs e)
still cs limit (suc n) fs gs e =
    by (with_formulas fs (due cs fs)) refl (nat_le (length (with_formulas fs (due cs fs))) limit) refl (length (with_formulas fs (due cs fs)) == length fs) refl e (λ hs. still cs limit n hs gs)
  where
    by : (hs : List Formula) → hs ≡ with_formulas fs (due cs fs) → (few : Bool) → nat_le (length hs) limit ≡ few → (done : Bool) → (length hs == length fs) ≡ done →
        (if not few then None else if done then Some hs else closed_from cs limit n hs) ≡ Some gs → ((xs : List Formula) → closed_from cs limit n xs ≡ Some gs → IsStill cs limit gs) → IsStill cs limit gs
    by hs is false f end d e later = absurd (nothing_is gs e)
    by hs is true f true d e later =
        let same : hs ≡ gs = cc in
        let old = none_added fs (due cs fs) hs is (eqb-true (length hs) (length fs) d) in
        record {
          few = ap (λ xs. nat_le (length xs) limit) (sym same) ∙ f;
          same = ap (λ xs. with_formulas xs (due cs xs)) (sym same ∙ old) ∙ sym is ∙ same;
        }
    by hs is true f false d e later = later hs e

stays : (cs : List ClassTree) (limit n : ℕ) (gs : List Formula) → IsStill cs limit gs → closed_from cs limit (suc n) gs ≡ Some gs
stays cs limit n gs h = ap (if_more limit gs (closed_from cs limit n)) h.same ∙ done limit gs gs (closed_from cs limit n) h.few (eq-eqb (length gs) (length gs) refl)

pub closed_is_closed : (cs : List ClassTree) (limit : ℕ) (fs gs : List Formula) → closed cs limit fs ≡ Some gs → IsClosed cs limit gs
closed_is_closed cs zero fs gs e = absurd (nothing_is gs e)
closed_is_closed cs (suc n) fs gs e = stays cs (suc n) n gs (still cs (suc n) (suc n) fs gs e)
