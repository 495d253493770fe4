-- The contracts of written bodies and of wrappers, and when one stands for another.
use Rattle.std.proofs.Common.{◌≡◌, ℕ, suc, ◌+◌, List, [], ◌∷◌, ◌++◌, length, map, Bool, true, false, refl, sym, ◌∙◌, ap, subst, arith, append_assoc, length-append}
use Rattle.std.specs.Prelude.{not, ◌&&◌, ◌||◌, if◌then◌else◌}
use Rattle.std.specs.List.{list_all}
use Rattle.std.proofs.lemmas.Bool.{and_parts}
use Rattle.std.proofs.lemmas.List.{map-append, length-map}
use Rattle.std.proofs.lemmas.List.Folds.{list_all-append}
use Rattle.std.proofs.lemmas.Grind.{flat_map-append}
use Rattle.ss_core.specs.declared.names.Place.{Place}
use Rattle.ss_core.specs.declared.names.Ty.{Ty}
use Rattle.ss_core.specs.declared.names.Ty.TheVariants as ty
use Rattle.ss_core.specs.Tree as core
use Rattle.ss_core.specs.Tree.{DefaultTree, AtLevel, Full}
use Rattle.ss_core.specs.Types.{is_class_type}
use Rattle.ss_typed.specs.Tree.{ParamTree, BodyTree, TypedTree}
use Rattle.ss_expand_rules.specs.Numbers.{plain, all_plain}
use Rattle.ss_expand_rules.specs.Contracts.{first_param, of_param, of_params, where_asked, default_entry, default_exit, entry_of_first, modifies_of_first, all_exits}
use Rattle.ss_expand_rules.specs.Bodies.{results, param_of, temporaries_from, contract_numbers, written_body, wrapper_types, first_of_wrapper, wrapper_numbers, wrapper_body}
use Rattle.ss_store_rules.specs.Locals.{types_of, argument_count, this_types}
use Rattle.ss_store_rules.specs.Tables.{no_place, normal_default, captures, StandsFor}
use Rattle.ss_expand_formed.proofs.Locals.{have_numbers}
use Rattle.ss_expand_formed.proofs.Readings.{contract_reads, after_params}
use Rattle.ss_expand_formed.proofs.Normal.{HasContract, settled, normal_defaults, normal_terms, entry_normal, exit_normal, terms_of_normal}
use Rattle.ss_expand_formed.proofs.Headings.{SameHeading}

-- ---- the contracts of bodies

this_length : (static : Bool) (t : Ty) → length (if static then [] else t ∷ []) ≡ (if static then 0 else 1)
this_length true t = refl
this_length false t = refl

arguments_are : (y : core.BodyTree) (b : BodyTree) → y.params ≡ map param_of b.params → y.flags.is_static ≡ b.flags.is_static → argument_count y ≡ after_params b
arguments_are y b params static =
    let one = length-append (this_types y) (types_of y.params) in
    let two = this_length y.flags.is_static (ty.Ref (record { 0 = y.class }) true) in
    let three : (if y.flags.is_static then 0 else 1) ≡ first_param b = ap (λ (s : Bool). if s then 0 else 1) static in
    let four : length (types_of y.params) ≡ length y.params = length-map y.params (λ (l : core.LocalTree). l.ty) in
    let five : length y.params ≡ length b.params = ap length params ∙ length-map b.params param_of in
    omega arith

temporaries_length : (i : ℕ) (ts : List Ty) → length (temporaries_from i ts) ≡ length ts
temporaries_length i [] = refl
temporaries_length i (t ∷ ts) = ap suc (temporaries_length (i + 1) ts)

pub written_contract : (p : TypedTree) (b : BodyTree) (bs : List BodyTree) → HasContract (written_body p b bs) b b.class bs
written_contract p b bs =
    let y = written_body p b bs in
    let size = arguments_are y b refl refl in
    let numbers = contract_numbers p b in
    let outcome : numbers.outcome ≡ after_params b + length y.locals = sym (have_numbers p b bs).outcome ∙ ap (λ k. k + length y.locals) size in
    record { params = refl; result = refl; static = refl; pure = refl; numbers = numbers; place = b.place; size = size; meant = refl; outcome = outcome; bound = ap (λ k. k + results b.result) outcome; entry = refl; exit = refl; named = refl }

pub wrapper_contract : (p : TypedTree) (q : Place) (t m : ℕ) (b : BodyTree) (bs : List BodyTree) → b.flags.is_static ≡ false → b.flags.pure ≡ false → HasContract (wrapper_body p q t m b bs) b t bs
wrapper_contract p q t m b bs instance impure =
    let y = wrapper_body p q t m b bs in
    let size = arguments_are y b refl (sym instance) in
    let first : first_of_wrapper b ≡ after_params b = ap (λ (s : Bool). (if s then 0 else 1) + length b.params) (sym instance) in
    let outcome : (wrapper_numbers b t).outcome ≡ after_params b + length y.locals = ap (λ k. k + length (wrapper_types t b.result)) first ∙ ap (λ k. after_params b + k) (sym (temporaries_length 0 (wrapper_types t b.result))) in
    record { params = refl; result = refl; static = sym instance; pure = sym impure; numbers = wrapper_numbers b t; place = q; size = size; meant = refl; outcome = outcome; bound = ap (λ k. k + results b.result) outcome; entry = refl; exit = refl; named = refl }

-- ---- default contracts of methods of one heading

abbrev pub this_entry : Bool → Bool → Bool → ℕ → List DefaultTree
this_entry undefaulted static pure t = if undefaulted then [] else if static then [] else if pure then Full ∷ [] else AtLevel t ∷ []

pub entry_is : (b : BodyTree) (t : ℕ) → b.flags.ctor ≡ false → default_entry b t ≡ this_entry b.flags.no_default_contract b.flags.is_static b.flags.pure t ++ of_params b (first_param b) b.params
entry_is b t method = rw method refl

this_alike : (undefaulted static pure : Bool) (t u : ℕ) → normal_defaults (this_entry undefaulted static pure t) ≡ normal_defaults (this_entry undefaulted static pure u)
this_alike true static pure t u = refl
this_alike false true pure t u = refl
this_alike false false true t u = refl
this_alike false false false t u = refl

abbrev exit_by : Bool → Bool → Bool → ℕ → List DefaultTree
exit_by undefaulted pure static t = if undefaulted || pure || static then [] else AtLevel t ∷ []

exit_alike : (undefaulted pure static : Bool) (t u : ℕ) → normal_defaults (exit_by undefaulted pure static t) ≡ normal_defaults (exit_by undefaulted pure static u)
exit_alike true pure static t u = refl
exit_alike false true static t u = refl
exit_alike false false true t u = refl
exit_alike false false false t u = refl

abbrev param_by : ℕ → Ty → Bool → Bool → Bool → Bool → List DefaultTree
param_by x t captured undefaulted pure static = where_asked (is_class_type t && not undefaulted) (if pure then core.FullArgument x else core.ConsistentArgument x) ++ where_asked captured (core.Captured x (not static))

module _ (b c : BodyTree) (same : SameHeading b c) where
  param_alike : (x : ℕ) (p q : ParamTree) → p.ty ≡ q.ty → p.captured ≡ q.captured → of_param b x p ≡ of_param c x q
  param_alike x p q t k =
      ap (λ z. param_by x z p.captured b.flags.no_default_contract b.flags.pure b.flags.is_static) t
      ∙ ap (λ z. param_by x q.ty z b.flags.no_default_contract b.flags.pure b.flags.is_static) k
      ∙ ap (λ z. param_by x q.ty q.captured z b.flags.pure b.flags.is_static) same.undefaulted
      ∙ ap (λ z. param_by x q.ty q.captured c.flags.no_default_contract z b.flags.is_static) same.pure
      ∙ ap (λ z. param_by x q.ty q.captured c.flags.no_default_contract c.flags.pure z) same.static

  params_alike : (x : ℕ) (ps qs : List ParamTree) → map (λ (q : ParamTree). q.ty) ps ≡ map (λ (q : ParamTree). q.ty) qs → map (λ (q : ParamTree). q.captured) ps ≡ map (λ (q : ParamTree). q.captured) qs → of_params b x ps ≡ of_params c x qs
  params_alike x [] [] h g = refl
  params_alike x [] (q ∷ qs) h g = absurd (let z : ⊥ = cc in z)
  params_alike x (p ∷ ps) [] h g = absurd (let z : ⊥ = cc in z)
  params_alike x (p ∷ ps) (q ∷ qs) h g =
      let t : p.ty ≡ q.ty = cc in
      let k : p.captured ≡ q.captured = cc in
      let ts : map (λ (q : ParamTree). q.ty) ps ≡ map (λ (q : ParamTree). q.ty) qs = cc in
      let ks : map (λ (q : ParamTree). q.captured) ps ≡ map (λ (q : ParamTree). q.captured) qs = cc in
      ap (λ xs. xs ++ of_params b (x + 1) ps) (param_alike x p q t k) ∙ ap (λ xs. of_param c x q ++ xs) (params_alike (x + 1) ps qs ts ks)

  first_alike : first_param b ≡ first_param c
  first_alike = ap (λ (s : Bool). if s then 0 else 1) same.static

  pub after_alike : after_params b ≡ after_params c
  after_alike =
      let one : length (map (λ (q : ParamTree). q.ty) b.params) ≡ length b.params = length-map b.params (λ (q : ParamTree). q.ty) in
      let two : length (map (λ (q : ParamTree). q.ty) c.params) ≡ length c.params = length-map c.params (λ (q : ParamTree). q.ty) in
      let three = ap length same.types in
      let four = first_alike in
      omega arith

  pub reads_alike : (x : BodyTree) → contract_reads (first_param b) (after_params b) x ≡ true → contract_reads (first_param c) (after_params c) x ≡ true
  reads_alike x h = subst (λ n. contract_reads (first_param c) n x ≡ true) after_alike (subst (λ n. contract_reads n (after_params b) x ≡ true) first_alike h)

  entries_alike : (t u : ℕ) → b.flags.ctor ≡ false → c.flags.ctor ≡ false → normal_defaults (default_entry b t) ≡ normal_defaults (default_entry c u)
  entries_alike t u method also =
      let mine = this_entry b.flags.no_default_contract b.flags.is_static b.flags.pure in
      let theirs = this_entry c.flags.no_default_contract c.flags.is_static c.flags.pure in
      let params : of_params b (first_param b) b.params ≡ of_params c (first_param c) c.params = ap (λ n. of_params b n b.params) first_alike ∙ params_alike (first_param c) b.params c.params same.types same.captured in
      let flags : mine t ≡ theirs t =
      ap (λ z. this_entry z b.flags.is_static b.flags.pure t) same.undefaulted ∙ ap (λ z. this_entry c.flags.no_default_contract z b.flags.pure t) same.static ∙ ap (λ z. this_entry c.flags.no_default_contract c.flags.is_static z t) same.pure in
      let normal = λ (d : DefaultTree). core.DefaultExpr no_place (normal_default d) in
      ap normal_defaults (entry_is b t method) ∙ map-append normal (mine t) (of_params b (first_param b) b.params)
      ∙ ap (λ xs. xs ++ normal_defaults (of_params b (first_param b) b.params)) (ap normal_defaults flags ∙ this_alike c.flags.no_default_contract c.flags.is_static c.flags.pure t u)
      ∙ ap (λ ds. normal_defaults (theirs u) ++ normal_defaults ds) params
      ∙ sym (ap normal_defaults (entry_is c u also) ∙ map-append normal (theirs u) (of_params c (first_param c) c.params))

  exits_alike : (t u : ℕ) → normal_defaults (default_exit b t) ≡ normal_defaults (default_exit c u)
  exits_alike t u =
      ap (λ z. normal_defaults (exit_by z b.flags.pure b.flags.is_static t)) same.undefaulted
      ∙ ap (λ z. normal_defaults (exit_by c.flags.no_default_contract z b.flags.is_static t)) same.pure
      ∙ ap (λ z. normal_defaults (exit_by c.flags.no_default_contract c.flags.pure z t)) same.static
      ∙ exit_alike c.flags.no_default_contract c.flags.pure c.flags.is_static t u

-- ---- one body in place of another

first_entry_kept : (before more : List BodyTree) (x : BodyTree) → entry_of_first ((before ++ x ∷ []) ++ more) ≡ entry_of_first (before ++ x ∷ [])
first_entry_kept [] more x = refl
first_entry_kept (y ∷ ys) more x = refl

first_terms_kept : (before more : List BodyTree) (x : BodyTree) → modifies_of_first ((before ++ x ∷ []) ++ more) ≡ modifies_of_first (before ++ x ∷ [])
first_terms_kept [] more x = refl
first_terms_kept (y ∷ ys) more x = refl

pub types_kept : (qs : List ParamTree) → types_of (map param_of qs) ≡ map (λ (q : ParamTree). q.ty) qs
types_kept [] = refl
types_kept (q ∷ qs) = ap (λ ts. q.ty ∷ ts) (types_kept qs)

captures_kept : (qs : List ParamTree) → captures (map param_of qs) ≡ map (λ (q : ParamTree). q.captured) qs
captures_kept [] = refl
captures_kept (q ∷ qs) = ap (λ ts. q.captured ∷ ts) (captures_kept qs)

-- The body c is declared after others for the method of b, and `to` has its contract.
pub stands_for : (from to : core.BodyTree) (b c : BodyTree) (t u : ℕ) (before cs more : List BodyTree) → HasContract from b t (before ++ b ∷ []) → HasContract to c u cs → cs ≡ (before ++ b ∷ []) ++ more → SameHeading c b → b.flags.ctor ≡ false → c.flags.ctor ≡ false →
    list_all (contract_reads (first_param b) (after_params b)) cs ≡ true → StandsFor from to
stands_for from to b c t u before cs more f g is same method also read =
    let bs = before ++ b ∷ [] in
    let low = first_param b in
    let n = after_params b in
    let r = results b.result in
    let ns = settled n r in
    let size : after_params c ≡ n = after_alike c b same in
    let result : results c.result ≡ r = ap results same.result in
    let parts = and_parts (list_all (contract_reads low n) bs) (list_all (contract_reads low n) more) (sym (list_all-append (contract_reads low n) bs more) ∙ subst (λ xs. list_all (contract_reads low n) xs ≡ true) is read) in
    let asked : entry_of_first cs ≡ entry_of_first bs = ap entry_of_first is ∙ first_entry_kept before more b in
    let changed : modifies_of_first cs ≡ modifies_of_first bs = ap modifies_of_first is ∙ first_terms_kept before more b in
    let promised : all_plain ns (all_exits cs) ≡ all_plain ns (all_exits bs) ++ all_plain ns (all_exits more) =
    ap (λ xs. all_plain ns (all_exits xs)) is ∙ ap (all_plain ns) (flat_map-append (λ (x : BodyTree). x.exit) bs more) ∙ map-append (plain ns) (all_exits bs) (all_exits more) in
    let old = exit_normal from b t bs f low n r refl refl parts.0 in
    record {
      params = ap types_of g.params ∙ types_kept c.params ∙ same.types ∙ sym (ap types_of f.params ∙ types_kept b.params);
      captured = ap captures g.params ∙ captures_kept c.params ∙ same.captured ∙ sym (ap captures f.params ∙ captures_kept b.params);
      result = g.result ∙ same.result ∙ sym f.result;
      static = g.static ∙ same.static ∙ sym f.static;
      pure = g.pure ∙ same.pure ∙ sym f.pure;
      entry = entry_normal to c u cs g low n r size result read ∙ ap (λ ds. ds ++ all_plain ns (entry_of_first cs)) (entries_alike c b same u t also method) ∙ ap (λ es. normal_defaults (default_entry b t) ++ all_plain ns es) asked ∙ sym (entry_normal from b t bs f low n r refl refl parts.0);
      named = terms_of_normal to c u cs g low n r size result read also
          ∙ ap (λ z. normal_terms z c.flags.is_static ns (modifies_of_first cs)) same.pure
          ∙ ap (λ z. normal_terms b.flags.pure z ns (modifies_of_first cs)) same.static
          ∙ ap (normal_terms b.flags.pure b.flags.is_static ns) changed
          ∙ sym (terms_of_normal from b t bs f low n r refl refl parts.0 method);
      more = all_plain ns (all_exits more);
      exit = exit_normal to c u cs g low n r size result read
          ∙ ap (λ ds. ds ++ all_plain ns (all_exits cs)) (exits_alike c b same u t)
          ∙ ap (λ es. normal_defaults (default_exit b t) ++ es) promised
          ∙ sym (append_assoc (normal_defaults (default_exit b t)) (all_plain ns (all_exits bs)) (all_plain ns (all_exits more)))
          ∙ ap (λ es. es ++ all_plain ns (all_exits more)) (sym old);
    }
