-- Each two of a list.
use Rattle.std.proofs.Common.{◌≡◌, ℕ, zero, suc, ◌+◌, ◌<◌, ◌≤◌, List, [], ◌∷◌, ◌++◌, length, map, take, drop, get_or, refl, sym, ◌∙◌, ap, subst, append_assoc, add-one, arith}
use Rattle.std.specs.Prelude.{flat_map}
use Rattle.std.proofs.Math.Seq.{drop-cons}
use Rattle.ss_logic.specs.Asked as spec
use Rattle.ss_terms.specs.declared.forms.TermId.{TermId}
use Rattle.ss_terms.specs.Forms.{Forms, term_at, terms_at, HasTerms, AreTermsBelow}
use Rattle.ss_rules_asked.specs.declared.asked.Asked.{Asked}
use Rattle.ss_rules_asked.specs.declared.forms.Counts.{Counts}
use Rattle.ss_rules_asked.specs.Numbers.{asked_in, Asks}
use Rattle.ss_rules_asked.specs.Readings.{counts_at, all_counts_at, HasCount, HasCounts}

pub counts_left : (b : Forms) (xs ys : List Asked) (cs : List Counts) (i : ℕ) (d : Counts) (all : List spec.Asked) → i < length cs → asked_in b xs ++ spec.asked_of_counts (all_counts_at b (drop i cs)) ≡ all →
    Asks b ys (asked_in b xs ++ flat_map (spec.asked_of_both (counts_at b (get_or cs i d))) (all_counts_at b (drop (i + 1) cs))) → asked_in b ys ++ spec.asked_of_counts (all_counts_at b (drop (i + 1) cs)) ≡ all
counts_left b xs ys cs i d all within left next =
    let rest = spec.asked_of_counts (all_counts_at b (drop (i + 1) cs)) in
    let here = flat_map (spec.asked_of_both (counts_at b (get_or cs i d))) (all_counts_at b (drop (i + 1) cs)) in
    ap (λ zs. zs ++ rest) next.are
    ∙ append_assoc (asked_in b xs) here rest
    ∙ ap (λ zs. asked_in b xs ++ spec.asked_of_counts (all_counts_at b (get_or cs i d ∷ zs))) (ap (λ n. drop n cs) (add-one i))
    ∙ ap (λ zs. asked_in b xs ++ spec.asked_of_counts (all_counts_at b zs)) (sym (drop-cons cs i d within))
    ∙ left

pub pairs_left : (b : Forms) (xs ys : List Asked) (ps : List TermId) (i : ℕ) (d : TermId) (all : List spec.Asked) → i < length ps → asked_in b xs ++ spec.asked_of_pairs (terms_at b (drop i ps)) ≡ all →
    Asks b ys (asked_in b xs ++ flat_map (spec.asked_of_two_pairs (term_at b (get_or ps i d))) (terms_at b (drop (i + 1) ps))) → asked_in b ys ++ spec.asked_of_pairs (terms_at b (drop (i + 1) ps)) ≡ all
pairs_left b xs ys ps i d all within left next =
    let rest = spec.asked_of_pairs (terms_at b (drop (i + 1) ps)) in
    let here = flat_map (spec.asked_of_two_pairs (term_at b (get_or ps i d))) (terms_at b (drop (i + 1) ps)) in
    ap (λ zs. zs ++ rest) next.are
    ∙ append_assoc (asked_in b xs) here rest
    ∙ ap (λ zs. asked_in b xs ++ spec.asked_of_pairs (terms_at b (get_or ps i d ∷ zs))) (ap (λ n. drop n ps) (add-one i))
    ∙ ap (λ zs. asked_in b xs ++ spec.asked_of_pairs (terms_at b zs)) (sym (drop-cons ps i d within))
    ∙ left

pub HasCounts-get : (b : Forms) (cs : List Counts) (i : ℕ) (d : Counts) → HasCounts b cs → i < length cs → HasCount b (get_or cs i d)
HasCounts-get b [] i d h at = absurd (omega arith)
HasCounts-get b (c ∷ cs) zero d h at = h.0
HasCounts-get b (c ∷ cs) (suc i) d h at = HasCounts-get b cs i d h.1 (omega arith)

pub HasCounts-drop : (b : Forms) (cs : List Counts) (i : ℕ) → HasCounts b cs → HasCounts b (drop i cs)
HasCounts-drop b cs zero h = h
HasCounts-drop b [] (suc i) h = tt
HasCounts-drop b (c ∷ cs) (suc i) h = HasCounts-drop b cs i h.1

pub terms-drop : (n : ℕ) (ts : List TermId) (i : ℕ) → AreTermsBelow n ts → AreTermsBelow n (drop i ts)
terms-drop n ts zero h = h
terms-drop n [] (suc i) h = tt
terms-drop n (t ∷ ts) (suc i) h = terms-drop n ts i h.1

pub HasCounts-take : (b : Forms) (n : ℕ) (cs : List Counts) → HasCounts b cs → HasCounts b (take n cs)
HasCounts-take b zero cs h = tt
HasCounts-take b (suc n) [] h = tt
HasCounts-take b (suc n) (c ∷ cs) h = (h.0, HasCounts-take b n cs h.1)

pub terms-take : (k n : ℕ) (ts : List TermId) → AreTermsBelow k ts → AreTermsBelow k (take n ts)
terms-take k zero ts h = tt
terms-take k (suc n) [] h = tt
terms-take k (suc n) (t ∷ ts) h = (h.0, terms-take k n ts h.1)
