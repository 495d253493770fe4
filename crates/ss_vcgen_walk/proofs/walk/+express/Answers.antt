use mir.Syntax.{w32}
use mir.Val.{SFits}
use Rattle.std.proofs.lemmas.Int.{to_z-of_z}
use Rattle.std.proofs.Common.{◌≡◌, rules, refl, sym, ap, subst, ◌∙◌, ◌+◌, take, List}
use Rattle.std.specs.Prelude.{IfOk}
use Rattle.std.specs.Prelude.{string_bytes}
use Rattle.ss_core.specs.declared.names.Ty.{Ty}
use Rattle.ss_core.specs.declared.expr.Expr.{the_lemmas}
use Rattle.ss_core.specs.Tree.{IntExpr, BoolExpr, NullExpr, LocalExpr, DefaultExpr, NegateExpr, NotExpr, ImpliesExpr, IffExpr, CastExpr, OldExpr, QuantifiedExpr, StateExpr, OwnersExpr, BinaryExpr, IsExpr, AsExpr, FieldExpr, ElementExpr, LengthExpr}
use Rattle.ss_core.specs.View.{expr, classes, default_tree, owners_tree, word_tree}
use Rattle.ss_core.specs.Tree.{ExprTree}
use Rattle.ss_core.specs.Parts.{chain_front, path_front, link_after, step_after}
use Rattle.ss_store_rules.specs.NonNull.{Known}
use Rattle.ss_store_rules.specs.Types.{type_of, is_bool, element_of}
use Rattle.ss_logic.specs.Express as spec
use Rattle.ss_terms.specs.declared.forms.FormulaId.{FormulaId}
use Rattle.ss_terms.specs.Forms.{Forms}
use Rattle.ss_terms.proofs.Grown.{IsGrown-then, HasFormulas-grown}
use Rattle.ss_vcgen_known.specs.TellsFront.{TellsFront}
use Rattle.ss_vcgen_known.specs.Views.{known_of}
use Rattle.ss_vcgen_types.proofs.Grouping.{operation_is, is_is, as_is, field_is, element_is, length_is, front_next, path_next, front_whole, path_whole}
use Rattle.ss_vcgen_express.specs.Marked.{marked}
use Rattle.ss_vcgen_express.specs.Numbers.{meant_at, AreFormulas}
use Rattle.ss_vcgen_express.specs.Contexts.{context_at}
use Rattle.ss_vcgen_express.proofs.Grown.{HasMeant-grown}
use Rattle.ss_vcgen_express.proofs.Contexts.{HasContext-grown}
use Rattle.ss_vcgen_walk.specs.declared.twos.Two.TheVariants as two
use Rattle.ss_vcgen_walk.specs.declared.parts.Part.{Part}
use Rattle.ss_vcgen_walk.specs.Forms.{two_asks}
use Rattle.ss_vcgen_walk.specs.Parts.{parts_at, HasParts}
use Rattle.ss_vcgen_walk.specs.Reading.{Expressed}
use Rattle.ss_vcgen_walk.specs.NullContexts.{type_context_at, known_at, Reads}
use Rattle.ss_vcgen_walk.proofs.Composing.{single_after, second_after, fresh}
use Rattle.ss_vcgen_walk.proofs.Growing.{HasParts-grown}
use Rattle.ss_vcgen_walk.proofs.Readings.{reads_as, reads_alone, reads_old, reads_member, two_after, reads_cast, quantified_after, reads_quantified, reads_state, reads_owners, reads_operation, reads_is, reads_as_class, reads_field, reads_length, reads_element, reads_tree, may_be_null}
use Rattle.ss_vcgen_walk.proofs.Chains.{chain_so, path_so}
use Rattle.ss_vcgen_walk.proofs.Trees.{int_is, bool_is, null_is, local_is, default_is, iff_so, implies_so, owners_so, negate_so, not_so, cast_so, old_so, state_so, quantified_so}
use Rattle.ss_vcgen_walk.proofs.walk.+express.Goals as goal

pub one-returns-clause-expressed : goal.one-returns-clause-expressed
one-returns-clause-expressed t c =
    let a = c.args in
    single_after c.of_single.result a.form a.context.now.expression.now c.express.new.bank c.of_single.new.bank c.in_ok-m.m c.express.new.parts.items c.of_single.new.parts.items a.parts.now.items
    (λ (b : Forms). spec.meant (expr a.e.now) (context_at b a.context.now.expression.now)) (λ (b : Forms). marked (expr a.e.now) (type_context_at a.context.now.nulls.now) (known_at a.context.now.nulls.now) (context_at b a.context.now.expression.now))
    c.of_single.ensures.grown c.in_ok-m.ensures.expressed c.of_single.ensures.expressed

pub behind-returns-clause-expressed : goal.behind-returns-clause-expressed
behind-returns-clause-expressed t c =
    let a = c.args in
    let says = λ (b : Forms). spec.meant (expr a.e.now) (context_at b a.context.now.expression.now) in
    let say = λ (b : Forms). marked (expr a.e.now) (type_context_at a.context.now.nulls.now) (known_at a.context.now.nulls.now) (context_at b a.context.now.expression.now) in
    second_after c.of_two.result a.form a.context.now.expression.now c.express.new.bank c.of_two.new.bank a.m c.in_ok-n.n a.parts.now.items c.of_two.new.parts.items c.deref.result.now says say c.of_two.ensures.grown
    (subst (λ (l : List Part). Expressed c.express.new.bank c.in_ok-n.n l says say) (sym c.deref.ensures.value) (fresh c.express.new.bank c.in_ok-n.n c.express.new.parts.items c.new-list.result.items says say c.new-list.ensures.items c.in_ok-n.ensures.expressed))
    c.of_two.ensures.expressed

pub old-returns-clause-expressed : goal.old-returns-clause-expressed
old-returns-clause-expressed t c = λ p.
    reads_old c.express.result c.express.new.bank c.express.new.parts.items c.args.parts.now.items (expr c.args.e.now) p c.args.context.now.nulls.now c.in_ok-inner.inner c.args.context.now.expression.now c.in_ok-inner.ensures.same c.express.ensures.expressed

pub member-returns-clause-expressed : goal.member-returns-clause-expressed
member-returns-clause-expressed t c =
    reads_member c.express.result c.with_bound.new.bank c.express.new.bank c.express.new.parts.items c.args.parts.now.items (expr c.args.e.now) c.args.context.now.nulls.now c.in_ok-inner.inner c.args.context.now.expression.now c.express.ensures.grown c.in_ok-inner.ensures.at c.express.ensures.expressed

pub express-returns-in-Int-clause-expressed : goal.express-returns-in-Int-clause-expressed
express-returns-in-Int-clause-expressed t c =
    let fits : SFits w32 c.in-Int.n = search rules in
    let is = simp to_z-of_z at c.whole.ensures.at in
    reads_alone c.whole.result c.args.bank.now c.whole.new.bank c.args.parts.now.items c.args.context.now.nulls.now c.args.context.now.expression.now (IntExpr c.in-Int.field-0 c.in-Int.n) (expr c.args.e.now)
    (sym (ap expr c.in-Int.is ∙ int_is c.in-Int.field-0 c.in-Int.n)) (λ b. refl) c.whole.ensures.grown c.requires.parts is

pub express-returns-in-Bool-clause-expressed : goal.express-returns-in-Bool-clause-expressed
express-returns-in-Bool-clause-expressed t c =
    reads_alone c.truth.result c.args.bank.now c.truth.new.bank c.args.parts.now.items c.args.context.now.nulls.now c.args.context.now.expression.now (BoolExpr c.in-Bool.field-0 c.in-Bool.holds) (expr c.args.e.now)
    (sym (ap expr c.in-Bool.is ∙ bool_is c.in-Bool.field-0 c.in-Bool.holds)) (λ b. refl) c.truth.ensures.grown c.requires.parts c.truth.ensures.at

pub express-returns-in-Null-clause-expressed : goal.express-returns-in-Null-clause-expressed
express-returns-in-Null-clause-expressed t c =
    reads_alone c.null.result c.args.bank.now c.null.new.bank c.args.parts.now.items c.args.context.now.nulls.now c.args.context.now.expression.now (NullExpr c.in-Null.field-0) (expr c.args.e.now)
    (sym (ap expr c.in-Null.is ∙ null_is c.in-Null.field-0)) (λ b. refl) c.null.ensures.grown c.requires.parts c.null.ensures.at

pub express-returns-in-Local-clause-expressed : goal.express-returns-in-Local-clause-expressed
express-returns-in-Local-clause-expressed t c =
    reads_alone c.local.result c.args.bank.now c.local.new.bank c.args.parts.now.items c.args.context.now.nulls.now c.args.context.now.expression.now (LocalExpr c.in-Local.field-0 c.in-Local.x) (expr c.args.e.now)
    (sym (ap expr c.in-Local.is ∙ local_is c.in-Local.field-0 c.in-Local.x)) (λ b. refl) c.local.ensures.grown c.requires.parts c.local.ensures.at

pub express-returns-in-Default-clause-expressed : goal.express-returns-in-Default-clause-expressed
express-returns-in-Default-clause-expressed t c =
    reads_alone c.default_met.result c.args.bank.now c.default_met.new.bank c.args.parts.now.items c.args.context.now.nulls.now c.args.context.now.expression.now (DefaultExpr c.in-Default.field-0 (default_tree c.in-Default.condition)) (expr c.args.e.now)
    (sym (ap expr c.in-Default.is ∙ default_is c.in-Default.field-0 c.in-Default.condition)) (λ b. refl) c.default_met.ensures.grown c.requires.parts c.default_met.ensures.at

pub express-returns-in-Negate-clause-expressed : goal.express-returns-in-Negate-clause-expressed
express-returns-in-Negate-clause-expressed t c =
    reads_as c.one.result c.one.new.bank c.one.new.parts.items c.args.parts.now.items c.args.context.now.nulls.now c.args.context.now.expression.now (NegateExpr c.in-Negate.at (expr c.deref-in-Negate.result.now)) (expr c.args.e.now)
    (negate_so c.args.e.now c.in-Negate.at c.in-Negate.a c.deref-in-Negate.result.now c.in-Negate.is c.deref-in-Negate.ensures) c.one.ensures.expressed

pub express-returns-in-Not-clause-expressed : goal.express-returns-in-Not-clause-expressed
express-returns-in-Not-clause-expressed t c =
    reads_as c.one-in-Not.result c.one-in-Not.new.bank c.one-in-Not.new.parts.items c.args.parts.now.items c.args.context.now.nulls.now c.args.context.now.expression.now (NotExpr c.in-Not.field-0 (expr c.deref-in-Not.result.now)) (expr c.args.e.now)
    (not_so c.args.e.now c.in-Not.field-0 c.in-Not.a c.deref-in-Not.result.now c.in-Not.is c.deref-in-Not.ensures) c.one-in-Not.ensures.expressed

pub express-returns-in-Cast-clause-expressed : goal.express-returns-in-Cast-clause-expressed
express-returns-in-Cast-clause-expressed t c =
    let a = c.in-Cast in
    reads_as c.cast.result c.cast.new.bank c.cast.new.parts.items c.args.parts.now.items c.args.context.now.nulls.now c.args.context.now.expression.now (CastExpr a.at a.class.0 a.mark (expr c.deref-in-Cast.result.now)) (expr c.args.e.now)
    (cast_so c.args.e.now a.at a.class a.mark a.a c.deref-in-Cast.result.now a.is c.deref-in-Cast.ensures) c.cast.ensures.expressed

pub express-returns-in-Old-clause-expressed : goal.express-returns-in-Old-clause-expressed
express-returns-in-Old-clause-expressed t c =
    let a = c.in-Old in
    reads_as c.old.result c.old.new.bank c.old.new.parts.items c.args.parts.now.items c.args.context.now.nulls.now c.args.context.now.expression.now (OldExpr a.field-0 (expr c.deref-in-Old.result.now)) (expr c.args.e.now)
    (old_so c.args.e.now a.field-0 a.a c.deref-in-Old.result.now a.is c.deref-in-Old.ensures) (c.old.ensures.expressed a.field-0)

pub express-returns-in_ok-m-in-Iff-clause-expressed : goal.express-returns-in_ok-m-in-Iff-clause-expressed
express-returns-in_ok-m-in-Iff-clause-expressed t c =
    let s = c.args.context.now.nulls.now in
    let sc = c.args.context.now.expression.now in
    let x = expr c.deref.result.now in
    let y = expr c.deref-in-Iff.result.now in
    reads_as c.behind.result c.behind.new.bank c.behind.new.parts.items c.args.parts.now.items s sc (IffExpr c.in-Iff.field-0 x y) (expr c.args.e.now)
    (iff_so c.args.e.now c.in-Iff.field-0 c.in-Iff.a c.in-Iff.b c.deref.result.now c.deref-in-Iff.result.now c.in-Iff.is c.deref.ensures c.deref-in-Iff.ensures)
    (two_after c.behind.result s sc c.express.new.bank c.behind.new.bank c.in_ok-m-in-Iff.m c.express.new.parts.items c.behind.new.parts.items c.args.parts.now.items x c.behind.ensures.grown c.in_ok-m-in-Iff.ensures.expressed
    two.Iff y (known_at s) c.behind.ensures.expressed)

pub express-returns-in_ok-m-in-Implies-clause-expressed : goal.express-returns-in_ok-m-in-Implies-clause-expressed
express-returns-in_ok-m-in-Implies-clause-expressed t c =
    let s = c.args.context.now.nulls.now in
    let sc = c.args.context.now.expression.now in
    let x = expr c.deref-in-Implies.result.now in
    let y = expr c.deref-in-Implies-2.result.now in
    reads_as c.behind-in-Implies.result c.behind-in-Implies.new.bank c.behind-in-Implies.new.parts.items c.args.parts.now.items s sc (ImpliesExpr c.in-Implies.field-0 x y) (expr c.args.e.now)
    (implies_so c.args.e.now c.in-Implies.field-0 c.in-Implies.a c.in-Implies.b c.deref-in-Implies.result.now c.deref-in-Implies-2.result.now c.in-Implies.is c.deref-in-Implies.ensures c.deref-in-Implies-2.ensures)
    (two_after c.behind-in-Implies.result s sc c.express-in-Implies.new.bank c.behind-in-Implies.new.bank c.in_ok-m-in-Implies.m c.express-in-Implies.new.parts.items c.behind-in-Implies.new.parts.items c.args.parts.now.items x c.behind-in-Implies.ensures.grown c.in_ok-m-in-Implies.ensures.expressed
    two.Implies y (known_at s) c.behind-in-Implies.ensures.expressed)

pub cast-returns-clause-expressed : goal.cast-returns-clause-expressed
cast-returns-clause-expressed t c =
    let a = c.args in
    reads_cast a.context.now.nulls.now a.context.now.expression.now c.express.new.bank c.ask_cast.new.bank c.in_ok-m.m c.express.new.parts.items c.ask_cast.new.parts.items a.parts.now.items (expr a.e.now) a.target.at.now a.target.class.now.0 a.target.mark.now
    c.ask_cast.ensures.grown c.in_ok-m.ensures.expressed c.in_ok-ask_cast.ensures.asked

pub quantifier_of-returns-clause-expressed : goal.quantifier_of-returns-clause-expressed
quantifier_of-returns-clause-expressed t c =
    let a = c.args in
    let says = λ (b : Forms). spec.meant (expr a.e.now) (spec.with_bound (context_at b a.context.now.expression.now)) in
    let say = λ (b : Forms). marked (expr a.e.now) (type_context_at a.context.now.nulls.now) (known_at a.context.now.nulls.now) (spec.with_bound (context_at b a.context.now.expression.now)) in
    let range = λ (b : Forms). spec.out_of_range (context_at b a.context.now.expression.now) (meant_at b a.bounds.low.now) (meant_at b a.bounds.high.now) in
    quantified_after c.of_member.result a.quantifier a.context.now.expression.now c.out_of_range.new.bank c.member.new.bank c.of_member.new.bank c.deref-2.result.now a.bounds.low.now a.bounds.high.now c.in_ok-m.m a.parts.now.items c.of_member.new.parts.items c.deref.result.now
    says say c.member.ensures.grown c.of_member.ensures.grown
    (subst (λ (l : List FormulaId). AreFormulas c.out_of_range.new.bank l range) (sym c.deref-2.ensures.value) c.in_ok-out.ensures.at)
    (subst (λ (l : List Part). Expressed c.member.new.bank c.in_ok-m.m l says say) (sym c.deref.ensures.value) (fresh c.member.new.bank c.in_ok-m.m c.member.new.parts.items c.new-list.result.items says say c.new-list.ensures.items c.in_ok-m.ensures.expressed))
    c.of_member.ensures.expressed

pub express-returns-in_ok-y-in-Quantified-clause-expressed : goal.express-returns-in_ok-y-in-Quantified-clause-expressed
express-returns-in_ok-y-in-Quantified-clause-expressed t c =
    let a = c.in-Quantified in
    let s = c.args.context.now.nulls.now in
    let sc = c.args.context.now.expression.now in
    let d1 = c.deref-in-Quantified.result.now in
    let d2 = c.deref-in-Quantified-2.result.now in
    let d3 = c.deref-in-Quantified-3.result.now in
    reads_as c.quantifier_of.result c.quantifier_of.new.bank c.quantifier_of.new.parts.items c.args.parts.now.items s sc (QuantifiedExpr a.field-0 a.quantifier (string_bytes a.field-2) (expr d1) (expr d2) (expr d3)) (expr c.args.e.now)
    (quantified_so c.args.e.now a.field-0 a.quantifier a.field-2 a.low a.high a.a d1 d2 d3 a.is c.deref-in-Quantified.ensures c.deref-in-Quantified-2.ensures c.deref-in-Quantified-3.ensures)
    (reads_quantified c.quantifier_of.result s sc c.express-in-Quantified.new.bank c.express-in-Quantified-2.new.bank c.quantifier_of.new.bank c.in_ok-x-in-Quantified.x c.in_ok-y-in-Quantified.y c.express-in-Quantified.new.parts.items c.express-in-Quantified-2.new.parts.items c.quantifier_of.new.parts.items c.args.parts.now.items
    (expr d1) (expr d2) (expr d3) a.field-0 a.quantifier (string_bytes a.field-2) c.express-in-Quantified-2.ensures.grown c.quantifier_of.ensures.grown c.in_ok-x-in-Quantified.ensures.expressed c.in_ok-y-in-Quantified.ensures.expressed c.quantifier_of.ensures.expressed)

pub express-returns-in-State-clause-expressed : goal.express-returns-in-State-clause-expressed
express-returns-in-State-clause-expressed t c =
    let a = c.in-State in
    reads_as c.state.result c.state.new.bank c.state.new.parts.items c.args.parts.now.items c.args.context.now.nulls.now c.args.context.now.expression.now (StateExpr a.place (word_tree a.word) (expr c.deref-in-State.result.now)) (expr c.args.e.now)
    (state_so c.args.e.now a.place a.word a.a c.deref-in-State.result.now a.is c.deref-in-State.ensures) c.state.ensures.expressed

pub state-returns-clause-expressed : goal.state-returns-clause-expressed
state-returns-clause-expressed t c =
    let a = c.args in
    reads_state c.one.result a.context.now.nulls.now a.context.now.expression.now c.one.new.bank c.one.new.parts.items a.parts.now.items (expr a.e.now) a.place a.word c.state_form-form.result c.state_form-form.ensures c.one.ensures.expressed

pub express-returns-in_ok-m-in-Owners-clause-expressed : goal.express-returns-in_ok-m-in-Owners-clause-expressed
express-returns-in_ok-m-in-Owners-clause-expressed t c =
    let a = c.in-Owners in
    let s = c.args.context.now.nulls.now in
    let sc = c.args.context.now.expression.now in
    let x = c.deref-in-Owners-3.result.now in
    let y = c.deref-in-Owners-4.result.now in
    let same =
    ap (λ u. two.Owners a.place a.test (may_be_null s sc (expr u)) (may_be_null s sc (expr c.deref-in-Owners-2.result.now))) (c.deref-in-Owners.ensures ∙ sym c.deref-in-Owners-3.ensures)
    ∙ ap (λ u. two.Owners a.place a.test (may_be_null s sc (expr x)) (may_be_null s sc (expr u))) (c.deref-in-Owners-2.ensures ∙ sym c.deref-in-Owners-4.ensures) in
    reads_as c.behind-in-Owners.result c.behind-in-Owners.new.bank c.behind-in-Owners.new.parts.items c.args.parts.now.items s sc (OwnersExpr a.place (owners_tree a.test) (expr x) (expr y)) (expr c.args.e.now)
    (owners_so c.args.e.now a.place a.test a.a a.b x y a.is c.deref-in-Owners-3.ensures c.deref-in-Owners-4.ensures)
    (reads_owners c.behind-in-Owners.result s sc c.express-in-Owners.new.bank c.behind-in-Owners.new.bank c.in_ok-m-in-Owners.m c.express-in-Owners.new.parts.items c.behind-in-Owners.new.parts.items c.args.parts.now.items (expr x) (expr y) a.place a.test c.owners_form-form.result
    c.behind-in-Owners.ensures.grown c.in_ok-m-in-Owners.ensures.expressed (c.owners_form-form.ensures ∙ same) c.behind-in-Owners.ensures.expressed)

pub linked-returns-in-Operation-clause-expressed : goal.linked-returns-in-Operation-clause-expressed
linked-returns-in-Operation-clause-expressed t c = λ q front h told typed.
    let a = c.args in
    let s = a.context.now.nulls.now in
    let sc = a.context.now.expression.now in
    let v = c.in-Operation in
    reads_as c.operation.result c.operation.new.bank c.operation.new.parts.items q s sc (BinaryExpr a.front.place v.operator front (expr v.e)) (link_after a.link.now a.front.place front)
    (sym (ap (λ l. link_after l a.front.place front) v.is ∙ operation_is v.operator v.e a.front.place front))
    (reads_operation c.operation.result s sc a.bank.now c.operation.new.bank a.m a.parts.now.items c.operation.new.parts.items q front c.operation.ensures.grown h v.operator a.front.place (expr v.e) c.is_bool.result
    (c.is_bool.ensures ∙ ap is_bool typed) (c.operation.ensures.expressed front told))

pub linked-returns-in-Is-clause-expressed : goal.linked-returns-in-Is-clause-expressed
linked-returns-in-Is-clause-expressed t c = λ q front h told typed.
    let a = c.args in
    let s = a.context.now.nulls.now in
    let sc = a.context.now.expression.now in
    let v = c.in-Is in
    reads_as c.of_single.result c.of_single.new.bank c.of_single.new.parts.items q s sc (IsExpr a.front.place front v.class.0) (link_after a.link.now a.front.place front)
    (sym (ap (λ l. link_after l a.front.place front) v.is ∙ is_is v.class a.front.place front))
    (reads_is c.of_single.result s sc a.bank.now c.of_single.new.bank a.m a.parts.now.items c.of_single.new.parts.items q front c.of_single.ensures.grown h v.class a.front.place c.of_single.ensures.expressed)

pub linked-returns-in-As-clause-expressed : goal.linked-returns-in-As-clause-expressed
linked-returns-in-As-clause-expressed t c = λ q front h told typed.
    let a = c.args in
    let s = a.context.now.nulls.now in
    let sc = a.context.now.expression.now in
    let v = c.in-As in
    reads_as c.of_single-in-As.result c.of_single-in-As.new.bank c.of_single-in-As.new.parts.items q s sc (AsExpr a.front.place front v.class.0) (link_after a.link.now a.front.place front)
    (sym (ap (λ l. link_after l a.front.place front) v.is ∙ as_is v.class a.front.place front))
    (reads_as_class c.of_single-in-As.result s sc a.bank.now c.of_single-in-As.new.bank a.m a.parts.now.items c.of_single-in-As.new.parts.items q front c.of_single-in-As.ensures.grown h v.class a.front.place c.of_single-in-As.ensures.expressed)

pub stepped-returns-in-Field-clause-expressed : goal.stepped-returns-in-Field-clause-expressed
stepped-returns-in-Field-clause-expressed t c = λ q front h checked ty.
    let a = c.args in
    let s = a.context.now.nulls.now in
    let sc = a.context.now.expression.now in
    let v = c.in-Field in
    reads_as c.of_single.result c.of_single.new.bank c.of_single.new.parts.items q s sc (FieldExpr a.front.place front v.field.0) (step_after a.step.now a.front.place front)
    (sym (ap (λ l. step_after l a.front.place front) v.is ∙ field_is v.field a.front.place front))
    (reads_field c.of_single.result s sc a.bank.now c.of_single.new.bank a.m a.parts.now.items c.of_single.new.parts.items q front c.of_single.ensures.grown h v.field a.front.place a.front.checked checked c.of_single.ensures.expressed)

pub stepped-returns-in-Length-clause-expressed : goal.stepped-returns-in-Length-clause-expressed
stepped-returns-in-Length-clause-expressed t c = λ q front h checked ty.
    let a = c.args in
    let s = a.context.now.nulls.now in
    let sc = a.context.now.expression.now in
    let v = c.in-Length in
    reads_as c.of_single-in-Length.result c.of_single-in-Length.new.bank c.of_single-in-Length.new.parts.items q s sc (LengthExpr a.front.place front) (step_after a.step.now a.front.place front)
    (sym (ap (λ l. step_after l a.front.place front) v.is ∙ length_is a.front.place front))
    (reads_length c.of_single-in-Length.result s sc a.bank.now c.of_single-in-Length.new.bank a.m a.parts.now.items c.of_single-in-Length.new.parts.items q front c.of_single-in-Length.ensures.grown h a.front.place a.front.checked checked c.of_single-in-Length.ensures.expressed)

pub stepped-returns-in-Element-clause-expressed : goal.stepped-returns-in-Element-clause-expressed
stepped-returns-in-Element-clause-expressed t c = λ q front h checked ty.
    let a = c.args in
    let s = a.context.now.nulls.now in
    let sc = a.context.now.expression.now in
    let v = c.in-Element in
    reads_as c.behind.result c.behind.new.bank c.behind.new.parts.items q s sc (ElementExpr a.front.place front (expr v.e)) (step_after a.step.now a.front.place front)
    (sym (ap (λ l. step_after l a.front.place front) v.is ∙ element_is v.e a.front.place front))
    (reads_element c.behind.result s sc a.bank.now c.behind.new.bank a.m a.parts.now.items c.behind.new.parts.items q front c.behind.ensures.grown h a.front.place (expr v.e) c.element_sort-sort.result a.front.checked
    (c.element_sort-sort.ensures ∙ ap (λ x. spec.element_sort (element_of (classes sc.classes.now) x)) ty) checked c.behind.ensures.expressed)

-- ---- what the calls ask

pub behind-of_two-requires-clause-context : goal.behind-of_two-requires-clause-context
behind-of_two-requires-clause-context t c = HasContext-grown c.express.ensures.grown c.args.context.now.expression.now c.requires.context

pub behind-of_two-requires-clause-first : goal.behind-of_two-requires-clause-first
behind-of_two-requires-clause-first t c = HasMeant-grown c.express.ensures.grown c.args.m c.requires.meant

pub behind-of_two-requires-clause-parts : goal.behind-of_two-requires-clause-parts
behind-of_two-requires-clause-parts t c = HasParts-grown c.express.ensures.grown c.args.parts.now.items c.requires.parts

pub cast-ask_cast-requires-clause-context : goal.cast-ask_cast-requires-clause-context
cast-ask_cast-requires-clause-context t c = HasContext-grown c.express.ensures.grown c.args.context.now.expression.now c.requires.context

pub one-of_single-requires-clause-context : goal.one-of_single-requires-clause-context
one-of_single-requires-clause-context t c = HasContext-grown c.express.ensures.grown c.args.context.now.expression.now c.requires.context

pub quantifier_of-of_member-requires-clause-range : goal.quantifier_of-of_member-requires-clause-range
quantifier_of-of_member-requires-clause-range t c = rw c.deref-2.ensures.value (HasFormulas-grown c.out_of_range.new.bank c.member.new.bank c.member.ensures.grown c.in_ok-out.out.items c.in_ok-out.ensures.at.has)

pub quantifier_of-of_member-requires-clause-parts : goal.quantifier_of-of_member-requires-clause-parts
quantifier_of-of_member-requires-clause-parts t c = HasParts-grown (IsGrown-then c.args.bank.now c.out_of_range.new.bank c.member.new.bank c.out_of_range.ensures.grown c.member.ensures.grown) c.args.parts.now.items c.requires.parts

pub express-behind-requires : goal.express-behind-requires
express-behind-requires t c =
    let e = c.in_ok-m-in-Iff.ensures.expressed in
    (search (rules, the_lemmas), assumption (c.requires.nulls, HasContext-grown c.express.ensures.grown c.args.context.now.expression.now c.requires.context, e.parts.has, e.meant.has))

pub express-behind-requires-in-Implies : goal.express-behind-requires-in-Implies
express-behind-requires-in-Implies t c =
    let e = c.in_ok-m-in-Implies.ensures.expressed in
    (search (rules, the_lemmas), assumption (c.requires.nulls, HasContext-grown c.express-in-Implies.ensures.grown c.args.context.now.expression.now c.requires.context, e.parts.has, e.meant.has))

pub express-behind-requires-in-Owners : goal.express-behind-requires-in-Owners
express-behind-requires-in-Owners t c =
    let e = c.in_ok-m-in-Owners.ensures.expressed in
    (search (rules, the_lemmas), assumption (c.requires.nulls, HasContext-grown c.express-in-Owners.ensures.grown c.args.context.now.expression.now c.requires.context, e.parts.has, e.meant.has))

pub express-express-requires-in-Quantified-2 : goal.express-express-requires-in-Quantified-2
express-express-requires-in-Quantified-2 t c =
    (search (rules, the_lemmas), assumption (c.requires.nulls, HasContext-grown c.express-in-Quantified.ensures.grown c.args.context.now.expression.now c.requires.context, c.in_ok-x-in-Quantified.ensures.expressed.parts.has))

pub express-quantifier_of-requires : goal.express-quantifier_of-requires
express-quantifier_of-requires t c =
    let g = c.express-in-Quantified-2.ensures.grown in
    let h = HasContext-grown c.express-in-Quantified.ensures.grown c.args.context.now.expression.now c.requires.context in
    let x = c.in_ok-x-in-Quantified.ensures.expressed in
    let y = c.in_ok-y-in-Quantified.ensures.expressed in
    (search (rules, the_lemmas), assumption (c.requires.nulls, HasContext-grown g c.args.context.now.expression.now h, y.parts.has, HasMeant-grown g c.in_ok-x-in-Quantified.x x.meant.has, y.meant.has))

pub member-express-requires : goal.member-express-requires
member-express-requires t c = (search (rules, the_lemmas), assumption (c.requires.nulls, c.in_ok-inner.ensures.at.has, HasParts-grown c.with_bound.ensures.grown c.args.parts.now.items c.requires.parts))

pub quantifier_of-member-requires : goal.quantifier_of-member-requires
quantifier_of-member-requires t c =
    let none : HasParts c.out_of_range.new.bank c.new-list.result.items = rw c.new-list.ensures.items tt in
    (search (rules, the_lemmas), assumption (c.requires.nulls, HasContext-grown c.out_of_range.ensures.grown c.args.context.now.expression.now c.requires.context, none))

pub express-chain-requires : goal.express-chain-requires
express-chain-requires t c =
    let m = c.in_ok-m-in-Chain.m in
    let same = ap expr (c.deref-in-Chain.ensures ∙ sym c.deref-in-Chain-3.ensures) in
    let front : (q : List Part) × Reads c.express-in-Chain.new.bank m c.express-in-Chain.new.parts.items q (expr c.deref-in-Chain-3.result.now) c.args.context.now.nulls.now c.args.context.now.expression.now =
    (c.args.parts.now.items, reads_tree c.express-in-Chain.new.bank m c.express-in-Chain.new.parts.items c.args.parts.now.items c.args.context.now.nulls.now c.args.context.now.expression.now (expr c.deref-in-Chain.result.now) (expr c.deref-in-Chain-3.result.now) same c.in_ok-m-in-Chain.ensures.expressed) in
    (search (rules, the_lemmas), assumption (c.requires.nulls, HasContext-grown c.express-in-Chain.ensures.grown c.args.context.now.expression.now c.requires.context, front))

pub express-path-requires : goal.express-path-requires
express-path-requires t c =
    let m = c.in_ok-m-in-Path.m in
    let same = ap expr (c.deref-in-Path.ensures ∙ sym c.deref-in-Path-3.ensures) in
    let front : (q : List Part) × Reads c.express-in-Path.new.bank m c.express-in-Path.new.parts.items q (expr c.deref-in-Path-3.result.now) c.args.context.now.nulls.now c.args.context.now.expression.now =
    (c.args.parts.now.items, reads_tree c.express-in-Path.new.bank m c.express-in-Path.new.parts.items c.args.parts.now.items c.args.context.now.nulls.now c.args.context.now.expression.now (expr c.deref-in-Path.result.now) (expr c.deref-in-Path-3.result.now) same c.in_ok-m-in-Path.ensures.expressed) in
    (search (rules, the_lemmas), assumption (c.requires.nulls, HasContext-grown c.express-in-Path.ensures.grown c.args.context.now.expression.now c.requires.context, front))

pub express-returns-in_ok-m-in-Chain-clause-expressed : goal.express-returns-in_ok-m-in-Chain-clause-expressed
express-returns-in_ok-m-in-Chain-clause-expressed t c =
    let a = c.in-Chain in
    let s = c.args.context.now.nulls.now in
    let sc = c.args.context.now.expression.now in
    let q = c.args.parts.now.items in
    let same = ap expr (c.deref-in-Chain.ensures ∙ sym c.deref-in-Chain-3.ensures) in
    reads_as c.chain.result c.chain.new.bank c.chain.new.parts.items q s sc (chain_front a.place (expr c.deref-in-Chain-3.result.now) c.deref-in-Chain-2.result.now) (expr c.args.e.now)
    (chain_so c.args.e.now a.place a.first a.links c.deref-in-Chain-3.result.now c.deref-in-Chain-2.result.now a.is c.deref-in-Chain-3.ensures c.deref-in-Chain-2.ensures.value)
    (c.chain.ensures.expressed q (reads_tree c.express-in-Chain.new.bank c.in_ok-m-in-Chain.m c.express-in-Chain.new.parts.items q s sc (expr c.deref-in-Chain.result.now) (expr c.deref-in-Chain-3.result.now) same c.in_ok-m-in-Chain.ensures.expressed))

pub express-returns-in_ok-m-in-Path-clause-expressed : goal.express-returns-in_ok-m-in-Path-clause-expressed
express-returns-in_ok-m-in-Path-clause-expressed t c =
    let a = c.in-Path in
    let s = c.args.context.now.nulls.now in
    let sc = c.args.context.now.expression.now in
    let q = c.args.parts.now.items in
    let same = ap expr (c.deref-in-Path.ensures ∙ sym c.deref-in-Path-3.ensures) in
    reads_as c.path.result c.path.new.bank c.path.new.parts.items q s sc (path_front a.place (expr c.deref-in-Path-3.result.now) c.deref-in-Path-2.result.now) (expr c.args.e.now)
    (path_so c.args.e.now a.place a.first a.steps c.deref-in-Path-3.result.now c.deref-in-Path-2.result.now a.is c.deref-in-Path-3.ensures c.deref-in-Path-2.ensures.value)
    (c.path.ensures.expressed q (reads_tree c.express-in-Path.new.bank c.in_ok-m-in-Path.m c.express-in-Path.new.parts.items q s sc (expr c.deref-in-Path.result.now) (expr c.deref-in-Path-3.result.now) same c.in_ok-m-in-Path.ensures.expressed))

pub chain-returns-clause-expressed : goal.chain-returns-clause-expressed
chain-returns-clause-expressed t c = λ q h.
    let a = c.args in
    let head = expr a.start.first.now in
    reads_tree c.loop-link.bank c.loop-link.front c.loop-link.parts.items q a.context.now.nulls.now a.context.now.expression.now (chain_front a.start.at head (take c.loop-link.link-index a.links.now)) (chain_front a.start.at head a.links.now)
    (front_whole a.start.at head a.links.now c.loop-link.link-index c.loop-link-test.false) (c.loop-link.invariant.reads q h)

pub path-returns-clause-expressed : goal.path-returns-clause-expressed
path-returns-clause-expressed t c = λ q h.
    let a = c.args in
    let head = expr a.start.first.now in
    reads_tree c.loop-i.bank c.loop-i.front c.loop-i.parts.items q a.context.now.nulls.now a.context.now.expression.now (path_front a.start.at head (take c.loop-i.i a.steps.now)) (path_front a.start.at head a.steps.now)
    (path_whole a.start.at head a.steps.now c.loop-i.i c.loop-i-test.false) (c.loop-i.invariant.reads q h)

pub operation-returns-clause-expressed : goal.operation-returns-clause-expressed
operation-returns-clause-expressed t c = λ front told.
    let a = c.args in
    let d = c.behind.new.bank in
    let e = expr a.e.now in
    let of = λ (k : Known). IfOk c.behind.result (λ r. Expressed d r c.behind.new.parts.items (λ b. spec.operated a.placed.operator a.placed.bools (meant_at b a.m) (spec.meant e (context_at b a.context.now.expression.now)))
    (λ b. two_asks (two.Operation a.placed.place a.placed.operator a.placed.bools) (parts_at b a.parts.now.items) (marked e (type_context_at a.context.now.nulls.now) k (context_at b a.context.now.expression.now)) (context_at b a.context.now.expression.now) (meant_at b a.m) (spec.meant e (context_at b a.context.now.expression.now)))) in
    subst of (c.on_right-tests.ensures front (known_of a.context.now.nulls.now.known.now) told) c.behind.ensures.expressed

pub chain-linked-requires : goal.chain-linked-requires
chain-linked-requires t c =
    let q = c.requires.front.0 in
    (search (rules, the_lemmas), (c.requires.nulls, (HasContext-grown c.loop-link.invariant.grown c.args.context.now.expression.now c.requires.context, (q, chain_front c.args.start.at (expr c.args.start.first.now) (take c.loop-link.link-index c.args.links.now), c.loop-link.invariant.reads q c.requires.front.1))))

pub chain-loop-link-preserved : goal.chain-loop-link-preserved
chain-loop-link-preserved t c =
    let a = c.args in
    let s = a.context.now.nulls.now in
    let sc = a.context.now.expression.now in
    let i = c.loop-link.link-index in
    let head = expr a.start.first.now in
    let here = chain_front a.start.at head (take i a.links.now) in
    let next = front_next a.start.at head a.links.now i c.link-item.result c.loop-link-test.true c.link-item.is in
    record {
      grown = IsGrown-then a.bank.now c.loop-link.bank c.linked.new.bank c.loop-link.invariant.grown c.linked.ensures.grown;
      typed = subst (λ (tys : List Ty). c.loop-link.ty ≡ type_of (classes sc.classes.now) tys here → c.link_type-ty.result ≡ type_of (classes sc.classes.now) tys (link_after c.link-item.result a.start.at here)) c.deref-in-loop-link.ensures.value
          (c.link_type-ty.ensures a.start.at here) c.loop-link.invariant.typed
          ∙ ap (λ x. type_of (classes sc.classes.now) sc.types.items x) (sym next);
      told = subst (λ (e : ExprTree). TellsFront c.add.new.self e) (sym next) (c.in_ok-add.ensures a.start.at here c.loop-link.invariant.told);
      reads = λ q h. reads_tree c.linked.new.bank c.in_ok-front.front c.linked.new.parts.items q s sc (link_after c.link-item.result a.start.at here) (chain_front a.start.at head (take (i + 1) a.links.now)) (sym next)
          (c.in_ok-front.ensures.expressed q here (c.loop-link.invariant.reads q h) c.loop-link.invariant.told c.loop-link.invariant.typed);
    }

pub path-stepped-requires : goal.path-stepped-requires
path-stepped-requires t c =
    let q = c.requires.front.0 in
    (search (rules, the_lemmas), (c.requires.nulls, (HasContext-grown c.loop-i.invariant.grown c.args.context.now.expression.now c.requires.context, (q, path_front c.args.start.at (expr c.args.start.first.now) (take c.loop-i.i c.args.steps.now), c.loop-i.invariant.reads q c.requires.front.1))))

pub path-loop-i-preserved : goal.path-loop-i-preserved
path-loop-i-preserved t c =
    let a = c.args in
    let s = a.context.now.nulls.now in
    let sc = a.context.now.expression.now in
    let i = c.loop-i.i in
    let head = expr a.start.first.now in
    let here = path_front a.start.at head (take i a.steps.now) in
    let next = path_next a.start.at head a.steps.now i c.index-steps-i.result c.loop-i-test.true c.index-steps-i.is in
    record {
      grown = IsGrown-then a.bank.now c.loop-i.bank c.stepped.new.bank c.loop-i.invariant.grown c.stepped.ensures.grown;
      typed = subst (λ (tys : List Ty). c.loop-i.ty ≡ type_of (classes sc.classes.now) tys here → c.step_type-ty.result ≡ type_of (classes sc.classes.now) tys (step_after c.index-steps-i.result a.start.at here)) c.deref-in-loop-i.ensures.value
          (c.step_type-ty.ensures a.start.at here) c.loop-i.invariant.typed
          ∙ ap (λ x. type_of (classes sc.classes.now) sc.types.items x) (sym next);
      reads = λ q h. reads_tree c.stepped.new.bank c.in_ok-front.front c.stepped.new.parts.items q s sc (step_after c.index-steps-i.result a.start.at here) (path_front a.start.at head (take (i + 1) a.steps.now)) (sym next)
          (c.in_ok-front.ensures.expressed q here (c.loop-i.invariant.reads q h) (c.front_may_be_null-checked.ensures a.start.at) c.loop-i.invariant.typed);
    }
