use Rattle.std.proofs.Common.{◌≡◌, ℕ, ◌+◌, ◌-◌, ◌<◌, length, get_or, set, Option, None, refl, sym, ◌∙◌, ap, subst, rules, arith}
use Rattle.std.proofs.lemmas.List.{length-set}
use Rattle.std.proofs.lemmas.Grind.{common_steps}
use Rattle.std.specs.Prelude.{nat_eq, unwrap_or}
use Rattle.std.specs.Map.{lookup}
use Rattle.indexmap.specs.IndexMap.{get}
use Rattle.ss_search_models.specs.Wholes.{no_whole, IsFirst}
use Rattle.ss_search_models.proofs.Equalities.{first_none, first_more, next_more}
use Rattle.ss_search_models.proofs.pairs.next_places.Goals as goal

pub loop-i-init : goal.loop-i-init
loop-i-init c = record {
  within = first_of (search rules, omega arith);
  long = first_of (search rules, grind (arith, common_steps));
  first = λ class.
      let none : get nat_eq c.new-first.result class ≡ None = ap (lookup (nat_eq class)) c.new-first.ensures.empty in
      subst (λ (o : Option ℕ). IsFirst c.args.found.now (length c.args.found.now) class (unwrap_or o (length c.args.found.now))) (sym none) (first_none c.args.found.now class);
  next = λ k a b. absurd (omega arith);
}

pub loop-i-preserved : goal.loop-i-preserved
loop-i-preserved c =
    let ws = c.args.found.now in
    let i = c.loop-i.i - 1 in
    let before : i < length ws = let a = c.loop-i.invariant.within in let b = c.loop-i-test.true in omega arith in
    let again : i + 1 ≡ c.loop-i.i = let b = c.loop-i-test.true in omega arith in
    let first : (class : ℕ) → IsFirst ws (i + 1) class (unwrap_or (get nat_eq c.loop-i.first class) (length ws)) =
    λ class. subst (λ (k : ℕ). IsFirst ws k class (unwrap_or (get nat_eq c.loop-i.first class) (length ws))) (sym again) (c.loop-i.invariant.first class) in
    record {
      within = let a = before in omega arith;
      long = length-set c.loop-i.places.items i c.unwrap_or.result ∙ c.loop-i.invariant.long;
      first = λ class. first_more ws i class (get nat_eq c.loop-i.first class) (get nat_eq c.insert.new.self class) before (c.in_ok-next.ensures.updates.0 class) (first class);
      next = next_more ws c.loop-i.places.items (set c.loop-i.places.items i c.unwrap_or.result) i c.unwrap_or.result before c.loop-i.invariant.long refl
          (subst (λ (n : ℕ). IsFirst ws (i + 1) (get_or ws i no_whole).class n) (ap (λ o. unwrap_or o (length ws)) (sym c.in_ok-next.ensures.old) ∙ sym c.unwrap_or.ensures) (first (get_or ws i no_whole).class))
          (λ k a b. c.loop-i.invariant.next k (let e = again in omega arith) b);
    }
