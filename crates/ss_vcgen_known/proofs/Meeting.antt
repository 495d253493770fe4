-- Where two paths meet.
use Rattle.std.proofs.Common.{◌≡◌, ℕ, ◌≤◌, Bool, true, false, List, length, Some, refl, ap, ◌∙◌, arith}
use Rattle.std.specs.Prelude.{◌&&◌, option_map}
use Rattle.ss_store_rules.specs.NonNull.{Facts, both, Known, at_this_end, side_met, known_met}
use Rattle.ss_vcgen_known.specs.Pairs.{Pair, side, alike}
use Rattle.ss_vcgen_known.specs.Sets.{below, at}
use Rattle.ss_vcgen_known.specs.Steps.{met_pair, facts_met}
use Rattle.ss_vcgen_known.proofs.Listing.{at_below, at_past}
use Rattle.ss_vcgen_known.proofs.Setting.{known_by}

side_of_met : (k l : Known) (x : ℕ) (v : Bool) → side (met_pair k l x) v ≡ side_met (at_this_end k x v) (at_this_end l x v)
side_of_met k l x true = refl
side_of_met k l x false = refl

-- past the ends of both lists
past_both : (f b : Facts) (ps : List Pair) (g c : Facts) (qs : List Pair) (ff gf : ℕ → Bool) (x : ℕ) → length ps ≤ x → length qs ≤ x →
    met_pair (known_by f ps b ff) (known_by g qs c gf) x ≡ alike (facts_met (both f b) (both g c))
past_both f b ps g c qs ff gf x l m =
    ap (λ (p : Pair). record {
      holds = side_met (option_map (both f) (side p true)) (option_map (both g) (side (at qs (alike c) x) true));
      fails = side_met (option_map (both f) (side p false)) (option_map (both g) (side (at qs (alike c) x) false));
    }) (at_past ps (alike b) x l)
    ∙ ap (λ (p : Pair). record {
      holds = side_met (Some (both f b)) (option_map (both g) (side p true));
      fails = side_met (Some (both f b)) (option_map (both g) (side p false));
    }) (at_past qs (alike c) x m)

pub met_is : (f b : Facts) (ps : List Pair) (g c : Facts) (qs : List Pair) (ff gf : ℕ → Bool) (n : ℕ) → length ps ≤ n → length qs ≤ n →
    known_by (facts_met f g) (below (met_pair (known_by f ps b ff) (known_by g qs c gf)) n) (facts_met (both f b) (both g c)) (λ x. ff x && gf x) ≡ known_met (known_by f ps b ff) (known_by g qs c gf)
met_is f b ps g c qs ff gf n l m =
    let k = known_by f ps b ff in
    let j = known_by g qs c gf in
    let here : at (below (met_pair k j) n) (alike (facts_met (both f b) (both g c))) ≡ met_pair k j =
    at_below (met_pair k j) n (alike (facts_met (both f b) (both g c))) (λ x le. past_both f b ps g c qs ff gf x (omega arith) (omega arith)) in
    λ i. record {
      facts = λ x. f x && g x;
      sides = λ x v. (ap (λ (h : ℕ → Pair). side (h x) v) here ∙ side_of_met k j x v) i;
      fields = λ x. ff x && gf x;
    }

pub met_parts : (f b : Facts) (ps : List Pair) (g c : Facts) (qs : List Pair) (ff gf : ℕ → Bool) (n : ℕ) (h d : Facts) (rs : List Pair) (hf : ℕ → Bool) → length ps ≤ n → length qs ≤ n →
    h ≡ facts_met f g → rs ≡ below (met_pair (known_by f ps b ff) (known_by g qs c gf)) n → d ≡ facts_met (both f b) (both g c) → hf ≡ (λ x. ff x && gf x) →
    known_by h rs d hf ≡ known_met (known_by f ps b ff) (known_by g qs c gf)
met_parts f b ps g c qs ff gf n h d rs hf l m facts_are sides_are beyond_is fields_are =
    let all = below (met_pair (known_by f ps b ff) (known_by g qs c gf)) n in
    let parts : known_by h rs d hf ≡ known_by (facts_met f g) all (facts_met (both f b) (both g c)) (λ x. ff x && gf x) = λ i. known_by (facts_are i) (sides_are i) (beyond_is i) (fields_are i) in
    parts ∙ met_is f b ps g c qs ff gf n l m
