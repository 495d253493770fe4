use Rattle.std.proofs.Common.{◌∙◌, ℕ, List, subst, arith}
use Rattle.ss_equality_rules.specs.Names.{Has}
use Rattle.ss_search_clashes.specs.Needed.{Marks}
use Rattle.ss_search_clashes.proofs.Marks.{way_inside}
use Rattle.ss_search_clashes.proofs.needed.mark_way.Goals as goal

pub mark-requires : goal.mark-requires
mark-requires c = λ j h.
    let inside = way_inside c.requires.ends.terms c.args.joins.now c.requires.ends.log c.args.x c.args.y j c.requires.same (subst (λ (js : List ℕ). Has js j) (c.deref.ensures.value ∙ c.in_ok-numbers.ensures) h) in
    omega (arith, inside, c.requires.long)

pub returns : goal.returns
returns c = subst (λ (js : List ℕ). Marks js c.args.marks.now c.mark.new.marks) (c.deref.ensures.value ∙ c.in_ok-numbers.ensures) c.mark.ensures
