use Rattle.std.proofs.Common.{List, [], ◌++◌, Bool, not, ap, ◌∙◌}
use Rattle.std.specs.Prelude.{if◌then◌else◌}
use Rattle.std.proofs.lemmas.Result.{on_ok_weaker}
use Rattle.ss_core.specs.declared.names.Kind.TheVariants as kind
use Rattle.ss_core.specs.View.{expr}
use Rattle.ss_store_rules.specs.NonNull.{is_never_null}
use Rattle.ss_terms.specs.Forms.{Forms}
use Rattle.ss_vcgen_express.specs.Marked.{Marked, marked_part}
use Rattle.ss_vcgen_express.specs.Numbers.{meant_at}
use Rattle.ss_vcgen_express.specs.Contexts.{context_at}
use Rattle.ss_vcgen_express.proofs.Grown.{HasMeant-grown}
use Rattle.ss_vcgen_heaps.specs.Parts.{fits_class}
use Rattle.ss_vcgen_walk.specs.Asked.{asked_null}
use Rattle.ss_vcgen_walk.specs.Forms.{cast_asks}
use Rattle.ss_vcgen_walk.specs.Parts.{parts_at}
use Rattle.ss_vcgen_walk.specs.NullContexts.{type_context_at, known_at}
use Rattle.ss_vcgen_walk.proofs.Composing.{parts_so, parts_then}
use Rattle.ss_vcgen_walk.proofs.walk.ask_cast.Goals as goal

pub ask_fitting-requires : goal.ask_fitting-requires
ask_fitting-requires c = record { meant = HasMeant-grown c.ask_passing.ensures.grown c.args.m.now c.requires.meant; parts = c.in_ok-ask_passing.ensures.asked.has }

pub returns-clause-asked : goal.returns-clause-asked
returns-clause-asked c =
    let a = c.args in
    let d = c.ask_fitting.new.bank in
    let qs = c.ask_fitting.new.parts.items in
    let passing = λ (b : Forms) (x : Bool). parts_at b a.parts.now.items ++ (if a.target.mark.now then asked_null x (meant_at b a.m.now) a.target.at.now else []) in
    let fitting = λ (b : Forms) (y : Bool) (ps : List Marked). ps ++ marked_part kind.Cast a.target.at.now y (fits_class a.target.class.now.0 (meant_at b a.m.now)) in
    on_ok_weaker c.ask_fitting.result
    (λ h. parts_so d qs (λ (b : Forms). fitting b c.may_be_other-checked.result (passing b c.may_be_null-may_be_null.result))
    (λ (b : Forms). cast_asks (type_context_at a.context.now.nulls.now) (known_at a.context.now.nulls.now) (context_at b a.context.now.expression.now) a.target.at.now a.target.class.now.0 a.target.mark.now (expr a.e.now) (parts_at b a.parts.now.items) (meant_at b a.m.now))
    (λ b k. ap (λ x. fitting b c.may_be_other-checked.result (passing b x)) c.may_be_null-may_be_null.ensures ∙ ap (λ y. fitting b y (passing b (not (is_never_null (type_context_at a.context.now.nulls.now) (known_at a.context.now.nulls.now) a.context.now.expression.now.inside_old (expr a.e.now))))) c.may_be_other-checked.ensures)
    (parts_then c.ask_passing.new.bank d c.ask_passing.new.parts.items qs (λ (b : Forms). passing b c.may_be_null-may_be_null.result) (λ (b : Forms). fitting b c.may_be_other-checked.result) c.ask_fitting.ensures.grown c.in_ok-ask_passing.ensures.asked h))
    c.ask_fitting.ensures.asked
