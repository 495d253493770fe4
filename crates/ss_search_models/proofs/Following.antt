-- Where each whole number is equal to the next one of its class, each two of one class are equal.
use Rattle.std.proofs.Common.{◌≡◌, ℕ, ◌==◌, ℤ, List, [], ◌∷◌, ◌++◌, take, map, Bool, true, false, cond, eqb-true, refl, sym, subst}
use Rattle.std.specs.Prelude.{filter}
use Rattle.std.specs.List.{AllByRecursion}
use Rattle.ss_core.specs.Tree.{ClassTree}
use Rattle.ss_logic.specs.Terms.{Term}
use Rattle.ss_logic.specs.Formulas.{Formula}
use Rattle.ss_logic.specs.Sums.{sum_fact_of}
use Rattle.ss_linear_rules.specs.Two.{Two}
use Rattle.ss_linear.specs.Contradictions.{equality_at, equalities_at}
use Rattle.ss_linear.specs.Met.{Meets, MeetsSome, AllMet, AllSaid, AreMet, Follow}
use Rattle.ss_linear.proofs.Seen.{Comes, same_number, sides, equal_meets, both_met, no_two}
use Rattle.ss_terms.specs.declared.forms.TermId.{TermId}
use Rattle.ss_terms.specs.Forms.{Forms}
use Rattle.ss_search_models.specs.declared.wholes.Whole.{Whole}
use Rattle.ss_search_models.specs.Wholes.{whole_at, pairs_of, pairs_in, next_of, nexts_in}

module _ {A : Type 0} (P : A → Type 0) where
  all_parts : (xs ys : List A) → AllByRecursion P (xs ++ ys) → AllByRecursion P xs × AllByRecursion P ys
  all_parts [] ys h = (tt, h)
  all_parts (x ∷ xs) ys h = let p = all_parts xs ys h.1 in ((h.0, p.0), p.1)

  all_both : (xs ys : List A) → AllByRecursion P xs → AllByRecursion P ys → AllByRecursion P (xs ++ ys)
  all_both [] ys h k = k
  all_both (x ∷ xs) ys h k = (h.0, all_both xs ys h.1 k)

module _ (cs : List ClassTree) (b : Forms) (v : Term → ℤ) where
  abbrev Said : TermId × TermId → Type 0
  Said p = MeetsSome v (sum_fact_of cs (equality_at b p))

  abbrev Met : TermId × TermId → Type 0
  Met p = Meets v (sum_fact_of cs (equality_at b p))

  abbrev Come : ℤ → List Whole → Type 0
  Come z us = AllByRecursion (λ (u : Whole). Comes v z (whole_at b u)) us

  said_each : (ps : List (TermId × TermId)) → AllSaid cs v (equalities_at b ps) → AllByRecursion Said ps
  said_each [] h = tt
  said_each (p ∷ ps) h = (h.0, said_each ps h.1)

  met_all : (ps : List (TermId × TermId)) → AllByRecursion Met ps → AllMet cs v (equalities_at b ps)
  met_all [] h = tt
  met_all (p ∷ ps) h = (h.0, met_all ps h.1)

  -- the others of its class come to the number of a term
  along : (z : ℤ) (w : Whole) → Comes v z (whole_at b w) → (us : List Whole) → AllByRecursion Said (next_of w us) → AllByRecursion Said (nexts_in us) → Come z (filter (λ u. w.class == u.class) us)
  along z w c [] h k = tt
  along z w c (x ∷ us) h k = let p = all_parts Said (next_of x us) (nexts_in us) k in by (λ here. along z x here us p.0 p.1) (λ g. along z w c us g p.1) (w.class == x.class) refl h
    where
      by : (Comes v z (whole_at b x) → Come z (filter (λ u. x.class == u.class) us)) → (AllByRecursion Said (next_of w us) → Come z (filter (λ u. w.class == u.class) us)) → (t : Bool) → (w.class == x.class) ≡ t →
          AllByRecursion Said (take 1 (map (λ (u : Whole). (w.term, u.term)) (cond t (x ∷ filter (λ u. w.class == u.class) us) (filter (λ u. w.class == u.class) us)))) →
          Come z (cond t (x ∷ filter (λ u. w.class == u.class) us) (filter (λ u. w.class == u.class) us))
      by behind passed true e g =
          let one = sides v (whole_at b w) (whole_at b x) cs g.0 in
          let here : Comes v z (whole_at b x) = subst (λ (n : ℤ). Comes v n (whole_at b x)) (same_number v one.number z (whole_at b w) one.left c) one.right in
          (here, subst (λ (n : ℕ). Come z (filter (λ u. n == u.class) us)) (sym (eqb-true w.class x.class e)) (behind here))
      by behind passed false e g = passed g

  all_equal : (z : ℤ) (w : Whole) → Comes v z (whole_at b w) → (us : List Whole) → Come z us → AllByRecursion Met (map (λ (u : Whole). (w.term, u.term)) us)
  all_equal z w c [] h = tt
  all_equal z w c (u ∷ us) h = (equal_meets v (whole_at b w) (whole_at b u) cs z c h.0, all_equal z w c us h.1)

  of_one : (w : Whole) (ws : List Whole) → AllByRecursion Said (next_of w ws) → AllByRecursion Said (nexts_in ws) → AllByRecursion Met (pairs_of w ws)
  of_one w ws h k = by (filter (λ u. w.class == u.class) ws) refl h
    where
      by : (us : List Whole) → filter (λ u. w.class == u.class) ws ≡ us → AllByRecursion Said (take 1 (map (λ (u : Whole). (w.term, u.term)) us)) → AllByRecursion Met (map (λ (u : Whole). (w.term, u.term)) us)
      by [] e g = tt
      by (u ∷ us) e g =
          let one = sides v (whole_at b w) (whole_at b u) cs g.0 in
          all_equal one.number w one.left (u ∷ us) (subst (λ (xs : List Whole). Come one.number xs) e (along one.number w one.left ws h k))

  pairs_met : (ws : List Whole) → AllByRecursion Said (nexts_in ws) → AllByRecursion Met (pairs_in ws)
  pairs_met [] h = tt
  pairs_met (w ∷ ws) h =
      let p = all_parts Said (next_of w ws) (nexts_in ws) h in
      all_both Met (pairs_of w ws) (pairs_in ws) (of_one w ws p.0 p.1) (pairs_met ws p.1)

pub follow_nexts : (cs : List ClassTree) (b : Forms) (ws : List Whole) → Follow cs (equalities_at b (pairs_in ws)) (equalities_at b (nexts_in ws))
follow_nexts cs b ws = λ v h. met_all cs b v (pairs_in ws) (pairs_met cs b v ws (said_each cs b v (nexts_in ws) h))

-- what is so with what follows is no contradiction
pub so_no_two : (cs : List ClassTree) (known es others : List Formula) → Follow cs es others → AreMet cs known others → Two cs (known ++ es) → ⊥
so_no_two cs known es others follow met two = no_two cs met.numbers (known ++ es) (both_met cs met.numbers known es met.met (follow met.numbers met.said)) two
