use Rattle.std.proofs.Common.{[], ◌∷◌}
use Rattle.ss_logic.specs.Shapes.{null_term, equal, differ}
use Rattle.ss_logic.specs.Express.{or_of}
use Rattle.ss_terms.specs.Forms.{Forms, term_at}
use Rattle.ss_terms.proofs.Grown.{HasTerm-grown}
use Rattle.ss_vcgen_statements.proofs.Steps.{stays_then, formula_later, formula_more, formula_of}
use Rattle.ss_vcgen_bodies.proofs.Making.{formula_alone}
use Rattle.ss_vcgen_bodies.proofs.types.stays_there.Goals as goal

pub say-requires-clause-value : goal.say-requires-clause-value
say-requires-clause-value c = HasTerm-grown c.args.builder.now.bank c.is_null.new.builder.bank c.in_ok-null.ensures.stays.grown c.args.now c.requires.now

pub one_of-requires-clause-formulas : goal.one_of-requires-clause-formulas
one_of-requires-clause-formulas c =
    let t1 = c.is_null.new.builder in
    let t2 = c.say.new.builder in
    let N = λ (b : Forms). equal (term_at b c.args.before) null_term in
    ((formula_later t1.bank t2.bank c.in_ok-other.ensures.stays.grown c.in_ok-null.null N c.in_ok-null.ensures.at).has, (c.in_ok-other.ensures.at.has, tt))

pub returns-clause-at : goal.returns-clause-at
returns-clause-at c =
    let t1 = c.is_null.new.builder in
    let t2 = c.say.new.builder in
    let N = λ (b : Forms). equal (term_at b c.args.before) null_term in
    let D = λ (b : Forms). differ (term_at b c.args.now) null_term in
    formula_of t2.bank c.one_of.new.builder.bank c.in_ok-f.f (c.in_ok-null.null ∷ c.in_ok-other.other ∷ []) or_of (λ b. N b ∷ D b ∷ []) c.in_ok-f.ensures.stays.grown
    (formula_more t2.bank c.in_ok-null.null (c.in_ok-other.other ∷ []) N (λ b. D b ∷ []) (formula_later t1.bank t2.bank c.in_ok-other.ensures.stays.grown c.in_ok-null.null N c.in_ok-null.ensures.at)
    (formula_alone t2.bank c.in_ok-other.other D c.in_ok-other.ensures.at))
    c.in_ok-f.ensures.at

pub returns-clause-stays : goal.returns-clause-stays
returns-clause-stays c =
    stays_then c.args.builder.now c.say.new.builder c.one_of.new.builder (stays_then c.args.builder.now c.is_null.new.builder c.say.new.builder c.in_ok-null.ensures.stays c.in_ok-other.ensures.stays) c.in_ok-f.ensures.stays
