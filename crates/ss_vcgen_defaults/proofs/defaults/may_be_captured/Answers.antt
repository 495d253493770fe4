use Rattle.std.proofs.Common.{[], ◌∷◌, ap, ◌∙◌, sym}
use Rattle.ss_logic.specs.Express as spec
use Rattle.ss_logic.specs.Shapes.{group, owner_of}
use Rattle.ss_logic.specs.Formulas.{Formula}
use Rattle.ss_terms.specs.Forms.{Forms, term_at, formula_at}
use Rattle.ss_terms.proofs.Grown.{IsGrown-then, HasTerm-grown, HasFormula-grown}
use Rattle.ss_vcgen_defaults.specs.Defaults.{no_peer}
use Rattle.ss_vcgen_express.specs.Contexts.{context_at}
use Rattle.ss_vcgen_express.proofs.Grown.{formula_so}
use Rattle.ss_vcgen_express.proofs.Contexts.{HasContext-grown}
use Rattle.ss_vcgen_defaults.proofs.defaults.may_be_captured.Goals as goal

pub peers_full-requires : goal.peers_full-requires
peers_full-requires c = record {
  context = HasContext-grown c.in_ok-group.ensures.grown c.args.context.now c.requires.context;
  object = HasTerm-grown c.args.bank.now c.say.new.bank c.in_ok-group.ensures.grown c.args.x c.requires.object;
}

pub and_apart-requires : goal.and_apart-requires
and_apart-requires c =
    let h = c.in_ok-full.ensures.grown in
    let g = IsGrown-then c.args.bank.now c.say.new.bank c.peers_full.new.bank c.in_ok-group.ensures.grown h in
    record {
      context = HasContext-grown g c.args.context.now c.requires.context;
      first = HasFormula-grown c.say.new.bank c.peers_full.new.bank h c.in_ok-group.group c.in_ok-group.ensures.at.has;
      second = c.in_ok-full.ensures.at.has;
      object = HasTerm-grown c.args.bank.now c.peers_full.new.bank g c.args.x c.requires.object;
    }

pub returns-then-apart-clause-at : goal.returns-then-apart-clause-at
returns-then-apart-clause-at c =
    let e = c.args.context.now in
    let this = λ (b : Forms). spec.over (spec.local_meant (context_at b e) 0) (λ y. no_peer (term_at b e.now) y (term_at b c.args.x)) in
    formula_so c.and_apart.result c.and_apart.new.bank (λ b. spec.and_of (formula_at b c.in_ok-group.group ∷ formula_at b c.in_ok-full.full ∷ this b ∷ []))
    (λ b. spec.and_of (spec.may_be_captured (context_at b e) c.args.apart (term_at b c.args.x)))
    (λ b k.
    let kf = IsGrown-then c.peers_full.new.bank c.and_apart.new.bank b c.and_apart.ensures.grown k in
    let kg = IsGrown-then c.say.new.bank c.peers_full.new.bank b c.in_ok-full.ensures.grown kf in
    ap (λ (m : Formula). spec.and_of (m ∷ formula_at b c.in_ok-full.full ∷ this b ∷ [])) (c.in_ok-group.ensures.at.is b kg)
    ∙ ap (λ (m : Formula). spec.and_of (group (owner_of (term_at b e.now) (term_at b c.args.x)) ∷ m ∷ this b ∷ [])) (c.in_ok-full.ensures.at.is b kf)
    ∙ ap (λ a. spec.and_of (spec.may_be_captured (context_at b e) a (term_at b c.args.x))) (sym c.if-apart.true))
    c.and_apart.ensures.at

pub returns-else-apart-clause-at : goal.returns-else-apart-clause-at
returns-else-apart-clause-at c =
    let e = c.args.context.now in
    formula_so c.both.result c.both.new.bank (λ b. spec.and_of (formula_at b c.in_ok-group.group ∷ formula_at b c.in_ok-full.full ∷ []))
    (λ b. spec.and_of (spec.may_be_captured (context_at b e) c.args.apart (term_at b c.args.x)))
    (λ b k.
    let kf = IsGrown-then c.peers_full.new.bank c.both.new.bank b c.both.ensures.grown k in
    let kg = IsGrown-then c.say.new.bank c.peers_full.new.bank b c.in_ok-full.ensures.grown kf in
    ap (λ (m : Formula). spec.and_of (m ∷ formula_at b c.in_ok-full.full ∷ [])) (c.in_ok-group.ensures.at.is b kg)
    ∙ ap (λ (m : Formula). spec.and_of (group (owner_of (term_at b e.now) (term_at b c.args.x)) ∷ m ∷ [])) (c.in_ok-full.ensures.at.is b kf)
    ∙ ap (λ a. spec.and_of (spec.may_be_captured (context_at b e) a (term_at b c.args.x))) (sym c.if-apart.false))
    c.both.ensures.at
