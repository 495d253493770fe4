use Rattle.std.proofs.Common.{[], ◌∷◌, ◌++◌, ap, ◌∙◌}
use Rattle.ss_logic.specs.Express as spec
use Rattle.ss_logic.specs.Shapes.{null_term}
use Rattle.ss_logic.specs.Formulas.{neg}
use Rattle.ss_terms.specs.Forms.{term_at, formula_at}
use Rattle.ss_vcgen_express.proofs.Listing.{choices_two}
use Rattle.ss_vcgen_express.proofs.classes.add_as.Goals as goal

pub returns-clause-at : goal.returns-clause-at
returns-clause-at c =
    let x = c.args.c in
    choices_two (λ b. spec.choice (spec.and_of (formula_at b x.condition ∷ spec.is_of c.args.class (term_at b x.value) ∷ [])) (term_at b x.value))
    (λ b. spec.choice (spec.and_of (formula_at b x.condition ∷ neg (spec.is_of c.args.class (term_at b x.value)) ∷ [])) null_term)
    c.args.bank.now c.as_itself.new.bank c.as_null.new.bank c.args.made.now.items c.push-2.new.self.items c.in_ok-itself.itself c.in_ok-null.null c.in_ok-itself.ensures.grown c.in_ok-null.ensures.grown
    (c.in_ok-push-2.ensures.items ∙ ap (λ l. l ++ c.in_ok-null.null ∷ []) c.in_ok-push.ensures.items) c.requires.made c.in_ok-itself.ensures.at c.in_ok-null.ensures.at
