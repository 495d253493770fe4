use Rattle.std.proofs.Common.{sym, subst, refl, ◌<◌, ◌^◌, FitsSigned, rules}
use Rattle.std.specs.Prelude.{ℤ, unsigned_abs}
use Rattle.std.proofs.lemmas.Bool.{ltb-true}
use Rattle.std.proofs.lemmas.Int.{to_z-of_z}
use mir.Syntax.{w128}
use Rattle.ss_terms.specs.Forms.{terms_at}
use Rattle.ss_linear_sums.specs.Linear.{fact_at}
use Rattle.ss_linear_rules.specs.Two as two
use Rattle.ss_linear_network.proofs.Making.{network_passed}
use Rattle.ss_linear.proofs.Glue.{and_right, no_difference}
use Rattle.ss_linear.proofs.differences.add_sum.Goals as goal

pub add-requires-clause-plus : goal.add-requires-clause-plus
add-requires-clause-plus c = let h = rw c.in-Some.is at (c.in_ok-found.ensures.some c.args.bank.now c.requires.parts) in h.1.plus

pub add-requires-clause-minus : goal.add-requires-clause-minus
add-requires-clause-minus c = let h = rw c.in-Some.is at (c.in_ok-found.ensures.some c.args.bank.now c.requires.parts) in h.1.minus

pub add-requires-clause-small : goal.add-requires-clause-small
add-requires-clause-small c =
    let h = rw c.in-Some.is at (c.in_ok-found.ensures.some c.args.bank.now c.requires.parts) in
    let fits : FitsSigned w128 c.args.fact.now.sum.constant = search rules in
    subst (λ (z : ℤ). unsigned_abs z < 2 ^ 64) (sym (to_z-of_z w128 c.args.fact.now.sum.constant fits)) (ltb-true (unsigned_abs c.args.fact.now.sum.constant) (2 ^ 64) (and_right _ _ h.0))

pub returns-in-Some-clause-network : goal.returns-in-Some-clause-network
returns-in-Some-clause-network c = λ cs known is w.
    let h = rw c.in-Some.is at (c.in_ok-found.ensures.some c.args.bank.now c.requires.parts) in
    let fits : FitsSigned w128 c.args.fact.now.sum.constant = search rules in
    c.add.ensures.network cs known w (record {
      fact = fact_at c.args.bank.now c.args.fact.now;
      is = is;
      difference = h.0;
      equality = refl;
      constant = sym (to_z-of_z w128 c.args.fact.now.sum.constant fits);
      parts = h.1.value;
    })

pub returns-in-None-clause-network : goal.returns-in-None-clause-network
returns-in-None-clause-network c = λ cs known is w.
    let h = rw c.in-None.is at (c.in_ok-found.ensures.none c.args.bank.now) in
    network_passed cs known (terms_at c.args.bank.now c.args.made.now.nodes.terms.items) c.args.made.now.edges.items c.args.made.now.origins.items c.args.k
    (λ fact e d. no_difference (two.fact_at cs known c.args.k) (fact_at c.args.bank.now c.args.fact.now) fact is e h d) w
