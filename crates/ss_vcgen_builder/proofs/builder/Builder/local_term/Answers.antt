use Rattle.std.proofs.Common.{List, Option, sym, ap, ◌∙◌, subst}
use Rattle.std.specs.Prelude.{IfSome, slice_get, option_map}
use Rattle.std.proofs.lemmas.Option.{slice_get-map}
use Rattle.ss_terms.specs.declared.forms.TermId.{TermId}
use Rattle.ss_vcgen_heaps.specs.Positions as spec
use Rattle.ss_vcgen_builder.specs.Builder.{local_at, position_at}
use Rattle.ss_terms.specs.Numbered.{HasTermOf}
use Rattle.ss_vcgen_builder.proofs.Held.{HasLocals-found}
use Rattle.ss_vcgen_builder.proofs.Builds.{becomes_bank, if_ok, term_so}
use Rattle.ss_vcgen_builder.proofs.builder.Builder.local_term.Goals as goal

pub or_null-requires : goal.or_null-requires
or_null-requires c =
    let s = c.args.self.now in
    let e = c.found-found.ensures ∙ ap (λ (ls : List (Option TermId)). slice_get ls c.args.x) c.deref.ensures.value in
    subst (λ (o : Option (Option TermId)). IfSome o (λ l. HasTermOf s.bank l)) (sym e) (HasLocals-found s.bank s.locals.items c.args.x c.requires.locals)

pub returns-clause-at : goal.returns-clause-at
returns-clause-at c =
    let s = c.args.self.now in
    let e = c.found-found.ensures ∙ ap (λ (ls : List (Option TermId)). slice_get ls c.args.x) c.deref.ensures.value in
    if_ok c.or_null.result
    (λ t. term_so c.or_null.new.bank t (λ b. spec.term_or_null (option_map (local_at b) c.found-found.result)) (λ b. spec.local_term c.args.x (position_at b s))
    (λ b k. ap (λ (o : Option (Option TermId)). spec.term_or_null (option_map (local_at b) o)) e ∙ ap spec.term_or_null (sym (slice_get-map (local_at b) s.locals.items c.args.x))))
    c.or_null.ensures.at

pub returns-clause-stays : goal.returns-clause-stays
returns-clause-stays c = becomes_bank c.args.self.now c.or_null.new.bank c.requires c.or_null.ensures.grown
