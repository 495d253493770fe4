use Rattle.std.proofs.Common.{◌≡◌, ◌++◌, suc, take, drop, map, cond, refl, sym, ap, subst, ◌∙◌, add-one}
use Rattle.std.proofs.lemmas.Result.{IfOk-weaker}
use Rattle.ss_ast.specs.declared.expr.Link.{Link}
use Rattle.ss_ast.specs.declared.expr.Postfix.{Postfix}
use Rattle.ss_ast.specs.Expressions.{ExprTree, BinaryOf, IsOf, AsOf, grouped, expr_tree, type_tree, name_tree, arguments}
use Rattle.ss_tables.specs.Scopes.{within_quantifier}
use Rattle.ss_tables.specs.Statics.{static}
use Rattle.ss_tables_lookup.specs.Views.{type_of}
use Rattle.ss_tables_scopes.specs.Views.{scope_of}
use Rattle.ss_resolver_names_rules.specs.Faults.{Faults, type_faults}
use Rattle.ss_resolver_names_rules.specs.Expressions.{expr_faults, arguments_faults, class_named_by}
use Rattle.ss_resolver_names_rules.specs.Prefixes.{prefix, prefix_value, prefix_asked, settled, pending}
use Rattle.ss_ast.specs.Parts.{link_after, postfix_after}
use Rattle.ss_resolver_scoping.specs.Views.{prefix_view}
use Rattle.ss_resolver_names_members.proofs.Appending.{two_more}
use Rattle.ss_ast.proofs.Grouping.{chain_is, path_is, quantified_is, operation_is, is_is, as_is, element_is, call_is, grouped_more}
use Rattle.ss_resolver_names_members.proofs.Passing.{parts_noted, argument_noted}
use Rattle.ss_resolver_scoping.proofs.Readings.{read_typed}
use Rattle.ss_resolver_names_members.proofs.Walks.{read_noted, asked_noted, link_noted, link_begun, element_noted, call_noted}
use Rattle.ss_resolver_names_members.proofs.walk.+expr.Goals as goal

pub check-returns-clause-noted : goal.check-returns-clause-noted
check-returns-clause-noted t c =
    let w = c.args.context in
    let s = scope_of w c.args.locals.now in
    let x = prefix_view c.in_ok-read.read in
    let mid = c.walk.new.faults.items in
    read_noted s (expr_tree c.args.e.now) c.args.faults.now.items mid _ x c.in_ok-read.ensures.noted c.in_ok-read.ensures.begun
    (c.in_ok-add_pending.ensures ∙ ap (λ n. mid ++ pending (scope_of w n) x) c.in_ok-read.ensures.kept)

pub check-returns-clause-typed : goal.check-returns-clause-typed
check-returns-clause-typed t c =
    let w = c.args.context in
    let s = scope_of w c.args.locals.now in
    let x = prefix_view c.in_ok-read.read in
    c.prefix_value.ensures ∙ ap (λ n. prefix_value (scope_of w n) x) c.in_ok-read.ensures.kept ∙ read_typed s (expr_tree c.args.e.now) x c.in_ok-read.ensures.begun

pub walk_links-loop-link-preserved : goal.walk_links-loop-link-preserved
walk_links-loop-link-preserved t c =
    let w = c.args.context in
    let s = scope_of w c.args.locals.now in
    let at = c.args.place in
    let links = c.args.links.now in
    let i = c.loop-link.link-index in
    let link = c.link-item.result in
    let was = c.loop-link.invariant in
    let old = c.loop-link.faults.items in
    let new = c.walk_link.new.faults.items in
    let x = prefix_view c.loop-link.before in
    record {
      noted = λ e found h b.
          subst (λ n. (u : ExprTree) → (f : Faults) → old ≡ f ++ settled (scope_of w n) u → x ≡ prefix (scope_of w n) u → new ≡ f ++ settled (scope_of w n) (link_after link at u)) was.kept c.in_ok-before.ensures.noted
          (grouped at e (map link_after (take i links))) found (was.noted e found h b) (was.begun e b)
          ∙ ap (λ u. found ++ settled s u) (sym (grouped_more link_after at e links i link c.loop-link-test.true c.link-item.is));
      begun = λ e b.
          subst (λ n. (u : ExprTree) → prefix_view c.in_ok-before.before ≡ prefix (scope_of w n) (link_after link at u)) was.kept c.in_ok-before.ensures.begun
          (grouped at e (map link_after (take i links)))
          ∙ ap (λ u. prefix s u) (sym (grouped_more link_after at e links i link c.loop-link-test.true c.link-item.is));
      kept = c.in_ok-before.ensures.kept ∙ was.kept;
    }

pub walk_postfixes-loop-postfix-preserved : goal.walk_postfixes-loop-postfix-preserved
walk_postfixes-loop-postfix-preserved t c =
    let w = c.args.context in
    let s = scope_of w c.args.locals.now in
    let at = c.args.place in
    let postfixes = c.args.postfixes.now in
    let i = c.loop-postfix.postfix-index in
    let postfix = c.postfix-item.result in
    let was = c.loop-postfix.invariant in
    let old = c.loop-postfix.faults.items in
    let new = c.walk_postfix.new.faults.items in
    let x = prefix_view c.loop-postfix.before in
    record {
      noted = λ e found h b.
          subst (λ n. (u : ExprTree) → (f : Faults) → old ≡ f ++ settled (scope_of w n) u → x ≡ prefix (scope_of w n) u → new ≡ f ++ settled (scope_of w n) (postfix_after postfix at u)) was.kept c.in_ok-before.ensures.noted
          (grouped at e (map postfix_after (take i postfixes))) found (was.noted e found h b) (was.begun e b)
          ∙ ap (λ u. found ++ settled s u) (sym (grouped_more postfix_after at e postfixes i postfix c.loop-postfix-test.true c.postfix-item.is));
      begun = λ e b.
          subst (λ n. (u : ExprTree) → x ≡ prefix (scope_of w n) u → prefix_view c.in_ok-before.before ≡ prefix (scope_of w n) (postfix_after postfix at u)) was.kept c.in_ok-before.ensures.begun
          (grouped at e (map postfix_after (take i postfixes))) (was.begun e b)
          ∙ ap (λ u. prefix s u) (sym (grouped_more postfix_after at e postfixes i postfix c.loop-postfix-test.true c.postfix-item.is));
      kept = c.in_ok-before.ensures.kept ∙ was.kept;
    }

pub walk-returns-in_ok-before-in-Chain-clause-noted : goal.walk-returns-in_ok-before-in-Chain-clause-noted
walk-returns-in_ok-before-in-Chain-clause-noted t c =
    let a = c.in-Chain in
    let w = c.args.context in
    let s = scope_of w c.args.locals.now in
    let x = prefix_view c.in_ok-before-in-Chain.before in
    let found = c.args.faults.now.items in
    let first = expr_tree c.deref.result.now in
    let behind = map link_after c.deref-in-Chain.result.now in
    let k = c.in_ok-before-in-Chain.ensures.kept in
    let whole : grouped a.place first behind ≡ expr_tree c.args.e.now =
    ap (λ v. grouped a.place (expr_tree v) behind) c.deref.ensures ∙ ap (λ xs. grouped a.place (expr_tree a.first.value) (map link_after xs)) c.deref-in-Chain.ensures.value
    ∙ sym (chain_is a.place a.first a.links) ∙ ap expr_tree (sym a.is) in
    parts_noted c.walk_links.result w c.args.locals.now c.walk.new.locals (expr_tree c.args.e.now) (grouped a.place first behind) found c.walk_links.new.faults.items k whole
    (c.walk_links.ensures.noted first found (c.in_ok-before-in-Chain.ensures.noted ∙ ap (λ n. found ++ settled (scope_of w n) first) (sym k)) (c.in_ok-before-in-Chain.ensures.begun ∙ ap (λ n. prefix (scope_of w n) first) (sym k)))

pub walk-returns-in_ok-before-in-Chain-clause-begun : goal.walk-returns-in_ok-before-in-Chain-clause-begun
walk-returns-in_ok-before-in-Chain-clause-begun t c =
    let a = c.in-Chain in
    let w = c.args.context in
    let s = scope_of w c.args.locals.now in
    let x = prefix_view c.in_ok-before-in-Chain.before in
    let found = c.args.faults.now.items in
    let first = expr_tree c.deref.result.now in
    let behind = map link_after c.deref-in-Chain.result.now in
    let k = c.in_ok-before-in-Chain.ensures.kept in
    let whole : grouped a.place first behind ≡ expr_tree c.args.e.now =
    ap (λ v. grouped a.place (expr_tree v) behind) c.deref.ensures ∙ ap (λ xs. grouped a.place (expr_tree a.first.value) (map link_after xs)) c.deref-in-Chain.ensures.value
    ∙ sym (chain_is a.place a.first a.links) ∙ ap expr_tree (sym a.is) in
    IfOk-weaker c.walk_links.result _ (λ r. prefix_view r ≡ prefix s (expr_tree c.args.e.now)) (λ r h. h ∙ ap (λ n. prefix (scope_of w n) (grouped a.place first behind)) k ∙ ap (λ u. prefix s u) whole)
    (c.walk_links.ensures.begun first (c.in_ok-before-in-Chain.ensures.begun ∙ ap (λ n. prefix (scope_of w n) first) (sym k)))

pub walk-returns-in_ok-before-in-Path-clause-noted : goal.walk-returns-in_ok-before-in-Path-clause-noted
walk-returns-in_ok-before-in-Path-clause-noted t c =
    let a = c.in-Path in
    let w = c.args.context in
    let s = scope_of w c.args.locals.now in
    let x = prefix_view c.in_ok-before-in-Path.before in
    let found = c.args.faults.now.items in
    let first = expr_tree c.deref-in-Path.result.now in
    let behind = map postfix_after c.deref-in-Path-2.result.now in
    let k = c.in_ok-before-in-Path.ensures.kept in
    let whole : grouped a.place first behind ≡ expr_tree c.args.e.now =
    ap (λ v. grouped a.place (expr_tree v) behind) c.deref-in-Path.ensures ∙ ap (λ xs. grouped a.place (expr_tree a.first.value) (map postfix_after xs)) c.deref-in-Path-2.ensures.value
    ∙ sym (path_is a.place a.first a.postfixes) ∙ ap expr_tree (sym a.is) in
    parts_noted c.walk_postfixes.result w c.args.locals.now c.walk-in-Path.new.locals (expr_tree c.args.e.now) (grouped a.place first behind) found c.walk_postfixes.new.faults.items k whole
    (c.walk_postfixes.ensures.noted first found (c.in_ok-before-in-Path.ensures.noted ∙ ap (λ n. found ++ settled (scope_of w n) first) (sym k)) (c.in_ok-before-in-Path.ensures.begun ∙ ap (λ n. prefix (scope_of w n) first) (sym k)))

pub walk-returns-in_ok-before-in-Path-clause-begun : goal.walk-returns-in_ok-before-in-Path-clause-begun
walk-returns-in_ok-before-in-Path-clause-begun t c =
    let a = c.in-Path in
    let w = c.args.context in
    let s = scope_of w c.args.locals.now in
    let x = prefix_view c.in_ok-before-in-Path.before in
    let found = c.args.faults.now.items in
    let first = expr_tree c.deref-in-Path.result.now in
    let behind = map postfix_after c.deref-in-Path-2.result.now in
    let k = c.in_ok-before-in-Path.ensures.kept in
    let whole : grouped a.place first behind ≡ expr_tree c.args.e.now =
    ap (λ v. grouped a.place (expr_tree v) behind) c.deref-in-Path.ensures ∙ ap (λ xs. grouped a.place (expr_tree a.first.value) (map postfix_after xs)) c.deref-in-Path-2.ensures.value
    ∙ sym (path_is a.place a.first a.postfixes) ∙ ap expr_tree (sym a.is) in
    IfOk-weaker c.walk_postfixes.result _ (λ r. prefix_view r ≡ prefix s (expr_tree c.args.e.now)) (λ r h. h ∙ ap (λ n. prefix (scope_of w n) (grouped a.place first behind)) k ∙ ap (λ u. prefix s u) whole)
    (c.walk_postfixes.ensures.begun first (c.in_ok-before-in-Path.ensures.begun ∙ ap (λ n. prefix (scope_of w n) first) (sym k)))

pub walk_link-returns-in_ok-check-in-Operation-clause-noted : goal.walk_link-returns-in_ok-check-in-Operation-clause-noted
walk_link-returns-in_ok-check-in-Operation-clause-noted t c = λ e found o b.
    let s = scope_of c.args.context c.args.locals.now in
    link_noted s e found c.args.faults.now.items c.add_pending.new.faults.items _ (expr_faults s (expr_tree c.in-Operation.operand)) (prefix_view c.args.before) o b c.in_ok-add_pending.ensures c.in_ok-check-in-Operation.ensures.noted
    ∙ ap (λ u. found ++ settled s u) (sym (ap (λ (l : Link). link_after l c.args.place e) c.in-Operation.is ∙ operation_is c.in-Operation.field-0 c.in-Operation.operand c.args.place e))

pub walk_link-returns-in_ok-check-in-Operation-clause-begun : goal.walk_link-returns-in_ok-check-in-Operation-clause-begun
walk_link-returns-in_ok-check-in-Operation-clause-begun t c = λ e.
    let s = scope_of c.args.context c.args.locals.now in
    let p = c.args.place in
    let form : link_after c.args.link.now p e ≡ BinaryOf p c.in-Operation.field-0 e (expr_tree c.in-Operation.operand) =
    ap (λ (l : Link). link_after l p e) c.in-Operation.is ∙ operation_is c.in-Operation.field-0 c.in-Operation.operand p e in
    link_begun s _ _ _ form refl (c.link_type-known.ensures c.args.locals.now p e)

pub walk_link-returns-in_ok-check_type-in-Is-clause-noted : goal.walk_link-returns-in_ok-check_type-in-Is-clause-noted
walk_link-returns-in_ok-check_type-in-Is-clause-noted t c = λ e found o b.
    let s = scope_of c.args.context c.args.locals.now in
    link_noted s e found c.args.faults.now.items c.add_pending.new.faults.items _ (type_faults s.classes (type_tree c.in-Is.ty)) (prefix_view c.args.before) o b c.in_ok-add_pending.ensures c.in_ok-check_type-in-Is.ensures
    ∙ ap (λ u. found ++ settled s u) (sym (ap (λ (l : Link). link_after l c.args.place e) c.in-Is.is ∙ is_is c.in-Is.ty c.args.place e))

pub walk_link-returns-in_ok-check_type-in-Is-clause-begun : goal.walk_link-returns-in_ok-check_type-in-Is-clause-begun
walk_link-returns-in_ok-check_type-in-Is-clause-begun t c = λ e.
    let s = scope_of c.args.context c.args.locals.now in
    let p = c.args.place in
    let form : link_after c.args.link.now p e ≡ IsOf p e (type_tree c.in-Is.ty) = ap (λ (l : Link). link_after l p e) c.in-Is.is ∙ is_is c.in-Is.ty p e in
    link_begun s _ _ _ form refl (c.link_type-known.ensures c.args.locals.now p e)

pub walk_link-returns-in_ok-check_type-in-As-clause-noted : goal.walk_link-returns-in_ok-check_type-in-As-clause-noted
walk_link-returns-in_ok-check_type-in-As-clause-noted t c = λ e found o b.
    let s = scope_of c.args.context c.args.locals.now in
    link_noted s e found c.args.faults.now.items c.add_pending.new.faults.items _ (type_faults s.classes (type_tree c.in-As.ty)) (prefix_view c.args.before) o b c.in_ok-add_pending.ensures c.in_ok-check_type-in-As.ensures
    ∙ ap (λ u. found ++ settled s u) (sym (ap (λ (l : Link). link_after l c.args.place e) c.in-As.is ∙ as_is c.in-As.ty c.args.place e))

pub walk_link-returns-in_ok-check_type-in-As-clause-begun : goal.walk_link-returns-in_ok-check_type-in-As-clause-begun
walk_link-returns-in_ok-check_type-in-As-clause-begun t c = λ e.
    let s = scope_of c.args.context c.args.locals.now in
    let p = c.args.place in
    let form : link_after c.args.link.now p e ≡ AsOf p e (type_tree c.in-As.ty) = ap (λ (l : Link). link_after l p e) c.in-As.is ∙ as_is c.in-As.ty p e in
    link_begun s _ _ _ form refl (c.link_type-known.ensures c.args.locals.now p e)

pub walk_postfix-returns-in_ok-check-in-Element-clause-noted : goal.walk_postfix-returns-in_ok-check-in-Element-clause-noted
walk_postfix-returns-in_ok-check-in-Element-clause-noted t c = λ e found o b.
    let s = scope_of c.args.context c.args.locals.now in
    element_noted s c.args.place e (expr_tree c.in-Element.index) found c.args.faults.now.items c.add_pending.new.faults.items _ (prefix_view c.args.before) o b c.in_ok-add_pending-in-Element.ensures c.in_ok-check-in-Element.ensures.noted
    ∙ ap (λ u. found ++ settled s u) (sym (ap (λ (l : Postfix). postfix_after l c.args.place e) c.in-Element.is ∙ element_is c.in-Element.index c.args.place e))

pub walk_postfix-returns-in_ok-check_arguments-in-Call-clause-noted : goal.walk_postfix-returns-in_ok-check_arguments-in-Call-clause-noted
walk_postfix-returns-in_ok-check_arguments-in-Call-clause-noted t c = λ e found o b.
    let s = scope_of c.args.context c.args.locals.now in
    let x = prefix_view c.args.before in
    let mid = c.add_called.new.faults.items in
    call_noted s c.args.place e (arguments (map expr_tree c.in-Call.arguments.items)) found c.args.faults.now.items mid _ x o b c.in_ok-add_called-in-Call.ensures
    (c.in_ok-check_arguments-in-Call.ensures.noted ∙ ap (λ a. mid ++ arguments_faults s a (arguments (map expr_tree c.deref-in-Call.result.now))) c.prefix_asked-asked.ensures ∙ ap (λ es. mid ++ arguments_faults s (prefix_asked x) (arguments (map expr_tree es))) c.deref-in-Call.ensures.value)
    ∙ ap (λ u. found ++ settled s u) (sym (ap (λ (l : Postfix). postfix_after l c.args.place e) c.in-Call.is ∙ call_is c.in-Call.arguments c.args.place e))

pub check_argument-returns-then-names_class-clause-noted : goal.check_argument-returns-then-names_class-clause-noted
check_argument-returns-then-names_class-clause-noted t c =
    let w = c.args.context in
    let l = c.args.locals.now in
    let s = scope_of w l in
    let e = expr_tree c.args.argument.now in
    argument_noted c.add_asked.result w l c.walk.new.locals e c.args.faults.now.items c.walk.new.faults.items c.add_asked.new.faults.items (prefix_view c.in_ok-named.named) c.args.which c.in_ok-named.ensures.kept c.in_ok-named.ensures.noted c.in_ok-named.ensures.begun
    (c.names_class.ensures s e (expr_faults s e) ∙ ap (λ b. cond b (class_named_by s e (expr_faults s e)) (expr_faults s e)) c.if-names_class.true) c.add_asked.ensures

pub walk-returns-in_ok-check_member-in-Quantified-clause-noted : goal.walk-returns-in_ok-check_member-in-Quantified-clause-noted
walk-returns-in_ok-check_member-in-Quantified-clause-noted t c =
    let a = c.in-Quantified in
    let w = c.args.context in
    let s = scope_of w c.args.locals.now in
    let low = expr_tree c.deref-in-Quantified.result.now in
    let high = expr_tree c.deref-in-Quantified-2.result.now in
    let body = expr_tree c.deref-in-Quantified-3.result.now in
    let n = name_tree a.name in
    let found = c.args.faults.now.items in
    let k1 = c.in_ok-check-in-Quantified.ensures.kept in
    let k2 = c.in_ok-check-in-Quantified-2.ensures.kept ∙ k1 in
    let f1 = c.check.new.faults.items in
    let f2 = c.check-in-Quantified.new.faults.items in
    let whole : expr_faults s low ++ expr_faults s high ++ expr_faults (within_quantifier s n) body ≡ settled s (expr_tree c.args.e.now) =
    ap (λ v. expr_faults s (expr_tree v) ++ expr_faults s high ++ expr_faults (within_quantifier s n) body) c.deref-in-Quantified.ensures
    ∙ ap (λ v. expr_faults s (expr_tree a.low.value) ++ expr_faults s (expr_tree v) ++ expr_faults (within_quantifier s n) body) c.deref-in-Quantified-2.ensures
    ∙ ap (λ v. expr_faults s (expr_tree a.low.value) ++ expr_faults s (expr_tree a.high.value) ++ expr_faults (within_quantifier s n) (expr_tree v)) c.deref-in-Quantified-3.ensures
    ∙ ap (settled s) (sym (quantified_is a.field-0 a.field-1 a.name a.low a.high a.body)) ∙ ap (λ v. settled s (expr_tree v)) (sym a.is) in
    two_more found f1 f2 _ (expr_faults s low) (expr_faults s high) (expr_faults (within_quantifier s n) body) c.in_ok-check-in-Quantified.ensures.noted
    (c.in_ok-check-in-Quantified-2.ensures.noted ∙ ap (λ l. f1 ++ expr_faults (scope_of w l) high) k1)
    (c.in_ok-check_member-in-Quantified.ensures.noted ∙ ap (λ l. f2 ++ expr_faults (within_quantifier (scope_of w l) n) body) k2)
    ∙ ap (λ f. found ++ f) whole
