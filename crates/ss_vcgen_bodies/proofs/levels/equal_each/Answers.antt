use Rattle.std.proofs.Common.{◌+◌, List, map, length, drop, get_or, ap}
use Rattle.std.proofs.lemmas.List.{drop_all, drop_more}
use Rattle.ss_logic.specs.Shapes.{equal}
use Rattle.ss_terms.specs.declared.forms.TermId.{TermId}
use Rattle.ss_terms.specs.Forms.{term_at, terms_at}
use Rattle.ss_terms.proofs.Grown.{HasTerm-grown, HasTerms-grown}
use Rattle.ss_terms.proofs.Tested.{AreTermsBelow-get}
use Rattle.ss_vcgen_bodies.proofs.Making.{no_formula_made, formula_on, formulas_made}
use Rattle.ss_vcgen_bodies.proofs.levels.equal_each.Goals as goal

pub loop-other-init : goal.loop-other-init
loop-other-init c = no_formula_made c.args.builder.now c.new-made.result.items c.requires.fine c.new-made.ensures.items (λ b. map (λ x. equal x (term_at b c.args.o)) (terms_at b c.args.others.now))

pub say-requires-clause-saying : goal.say-requires-clause-saying
say-requires-clause-saying c =
    let s = c.args.builder.now in
    let t = c.loop-other.builder in
    (tt, AreTermsBelow-get (length t.bank.terms) c.args.others.now c.loop-other.other-index (record { 0 = 0 }) (HasTerms-grown s.bank t.bank c.loop-other.invariant.stays.grown c.args.others.now c.requires.others) c.loop-other-test.true)

pub say-requires-clause-value : goal.say-requires-clause-value
say-requires-clause-value c = HasTerm-grown c.args.builder.now.bank c.loop-other.builder.bank c.loop-other.invariant.stays.grown c.args.o c.requires.object

pub loop-other-preserved : goal.loop-other-preserved
loop-other-preserved c =
    let s = c.args.builder.now in
    let o = c.args.o in
    let xs = c.args.others.now in
    let i = c.loop-other.other-index in
    let d : TermId = record { 0 = 0 } in
    let x = get_or xs i d in
    formula_on s c.loop-other.builder c.say.new.builder c.loop-other.made.items c.push.new.self.items c.in_ok-f.f (λ b. equal (term_at b x) (term_at b o)) (λ b. map (λ y. equal y (term_at b o)) (terms_at b (drop i xs)))
    (λ b. map (λ y. equal y (term_at b o)) (terms_at b (drop (i + 1) xs))) (λ b. map (λ y. equal y (term_at b o)) (terms_at b xs))
    c.loop-other.invariant c.in_ok-f.ensures.stays c.in_ok-f.ensures.at c.in_ok-push.ensures.items
    (λ b k. ap (λ (ys : List TermId). map (λ y. equal y (term_at b o)) (terms_at b ys)) (drop_more xs i d c.loop-other-test.true))

pub returns-clause-at : goal.returns-clause-at
returns-clause-at c =
    let o = c.args.o in
    let xs = c.args.others.now in
    let i = c.loop-other.other-index in
    formulas_made c.args.builder.now c.loop-other.builder c.loop-other.made.items (λ b. map (λ y. equal y (term_at b o)) (terms_at b (drop i xs))) (λ b. map (λ y. equal y (term_at b o)) (terms_at b xs)) c.loop-other.invariant
    (λ b. ap (λ (ys : List TermId). map (λ y. equal y (term_at b o)) (terms_at b ys)) (drop_all i xs c.loop-other-test.false))

pub returns-clause-stays : goal.returns-clause-stays
returns-clause-stays c = c.loop-other.invariant.stays
