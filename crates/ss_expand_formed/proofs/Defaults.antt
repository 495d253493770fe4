-- The default conditions of each body are its own.
use Rattle.std.proofs.Common.{◌≡◌, ℕ, suc, ◌+◌, List, [], ◌∷◌, ◌++◌, length, map, Bool, true, false, Some, refl, sym, ◌∙◌, ap, subst, arith, ⊎_elim}
use Rattle.std.specs.Prelude.{not, ◌==◌, ◌&&◌, ◌||◌, slice_get, if◌then◌else◌}
use Rattle.std.specs.List.{list_all}
use Rattle.std.proofs.lemmas.Bool.{and_parts, and_from, cases_Bool, or_left, or_right, eq-eqb, ne_eqb, lt-ltb, false≢true}
use Rattle.std.proofs.lemmas.Option.{slice_get_within}
use Rattle.std.proofs.lemmas.List.Folds.{list_all-append}
use Rattle.ss_core.specs.declared.names.Place.{Place}
use Rattle.ss_core.specs.declared.names.Ty.{Ty}
use Rattle.ss_core.specs.declared.names.Ty.TheVariants as ty
use Rattle.ss_core.specs.Tree as core
use Rattle.ss_core.specs.Tree.{DefaultTree, AtLevel, Full}
use Rattle.ss_core.specs.Chain.{is_type}
use Rattle.ss_core.specs.Types.{is_class_type}
use Rattle.ss_ast.specs.Programs.{ProgramTree}
use Rattle.ss_typed.specs.Tree.{ExprTree, IntOf, ParamTree, BodyTree}
use Rattle.ss_owners_rules.specs.Program.{ownership_faults}
use Rattle.ss_resolver_names_rules.specs.Programs.{program_faults}
use Rattle.ss_resolver_rules.specs.Programs.{resolved}
use Rattle.ss_expand_rules.specs.Numbers.{Numbers, plain, all_plain}
use Rattle.ss_expand_rules.specs.Contracts.{first_param, where_asked, of_argument, of_param, of_params, of_this_at_entry, default_entry, default_exit, conditions, entry_of_first, all_exits}
use Rattle.ss_expand_rules.specs.Bodies.{param_of}
use Rattle.ss_store_rules.specs.Locals.{argument_count, is_argument}
use Rattle.ss_store_rules.specs.Types.{has_class}
use Rattle.ss_store_rules.specs.Typed.{is_local, is_reference_argument, is_default_of}
use Rattle.ss_expand_formed.specs.Laws.{core_of}
use Rattle.ss_expand_formed.proofs.Facts.{or_false}
use Rattle.ss_expand_formed.proofs.Marks.{have_params}
use Rattle.ss_expand_formed.proofs.Normal.{HasContract}
use Rattle.ss_expand_formed.specs.ContractParts.{has_own_default, HaveDefaults}
use Rattle.ss_expand_formed.proofs.Arguments.{param_at}
use Rattle.ss_expand_formed.proofs.Origins.{contract_of}

-- a parameter of references alone is captured
abbrev pub may_capture : ParamTree → Bool
may_capture q = not q.captured || is_class_type q.ty

class_of_type : (t : Ty) → is_class_type t ≡ true → has_class (λ c. true) (Some t) ≡ true
class_of_type ty.Int h = absurd (false≢true h)
class_of_type ty.Bool h = absurd (false≢true h)
class_of_type ty.Null h = absurd (false≢true h)
class_of_type (ty.Ref t n) h = refl

pub captures_allowed : (cs : List core.ClassTree) (qs : List ParamTree) → list_all (is_local cs) (map param_of qs) ≡ true → list_all may_capture qs ≡ true
captures_allowed cs [] h = refl
captures_allowed cs (q ∷ qs) h =
    let both = and_parts (is_local cs (param_of q)) (list_all (is_local cs) (map param_of qs)) h in
    and_from _ _ (and_parts (is_type cs q.ty) (may_capture q) both.0).1 (captures_allowed cs qs both.1)

asked_own : (test : DefaultTree → Bool) (asked : Bool) (d : DefaultTree) → (asked ≡ true → test d ≡ true) → list_all test (where_asked asked d) ≡ true
asked_own test true d h = and_from _ _ (h refl) refl
asked_own test false d h = refl

module _ (y : core.BodyTree) (b : BodyTree) (bs : List BodyTree) (is : HasContract y b y.class bs) where
  instance_is : b.flags.is_static ≡ false → not y.flags.is_static ≡ true
  instance_is h = ap not (is.static ∙ h)

  here : (y.class == y.class) ≡ true
  here = eq-eqb y.class y.class refl

  own_class : b.flags.is_static ≡ false → (not y.flags.is_static && y.class == y.class) ≡ true
  own_class h = and_from _ _ (instance_is h) here

  this_own : list_all (is_default_of y) (of_this_at_entry b y.class) ≡ true
  this_own =
      ⊎_elim
      (λ static. rw static refl)
      (λ instance.
      let own = own_class instance in
      let mine = instance_is instance in
      ap (λ (s : Bool). list_all (is_default_of y) (if s then [] else if b.flags.ctor then core.Unpacked ∷ core.ThisUnowned ∷ core.Defaults y.class ∷ core.OwnedFull y.class ∷ [] else if b.flags.pure then Full ∷ [] else AtLevel y.class ∷ [])) instance
      ∙ of_kind b.flags.ctor b.flags.pure own mine)
      (cases_Bool b.flags.is_static)
    where
      of_kind : (ctor pure : Bool) → (not y.flags.is_static && y.class == y.class) ≡ true → not y.flags.is_static ≡ true → list_all (is_default_of y) (if ctor then core.Unpacked ∷ core.ThisUnowned ∷ core.Defaults y.class ∷ core.OwnedFull y.class ∷ [] else if pure then Full ∷ [] else AtLevel y.class ∷ []) ≡ true
      of_kind true pure own mine = and_from _ _ mine (and_from _ _ mine (and_from _ _ own (and_from _ _ own refl)))
      of_kind false true own mine = and_from _ _ mine refl
      of_kind false false own mine = and_from _ _ own refl

  reference_own : (i : ℕ) (q : ParamTree) → slice_get b.params i ≡ Some q → is_class_type q.ty ≡ true → is_reference_argument y (first_param b + i) ≡ true
  reference_own i q at h =
      let x = first_param b + i in
      let l = slice_get_within b.params i q at in
      let size : argument_count y ≡ first_param b + length b.params = is.size in
      let argument : is_argument y x ≡ true = lt-ltb x (argument_count y) (omega arith) in
      let behind : (y.flags.is_static || not (x == 0)) ≡ true =
      ⊎_elim
      (λ static. or_left y.flags.is_static (not (x == 0)) (is.static ∙ static))
      (λ instance.
      let one : first_param b ≡ 1 = ap (λ (s : Bool). if s then 0 else 1) instance in
      or_right y.flags.is_static (not (x == 0)) (ap not (ne_eqb x 0 (λ e. omega arith))))
      (cases_Bool b.flags.is_static) in
      and_from _ _ (and_from _ _ argument behind) (ap (has_class (λ c. true)) (param_at y b y.class bs is i q at) ∙ class_of_type q.ty h)

  argument_own : (x : ℕ) → is_reference_argument y x ≡ true → is_default_of y (of_argument b x) ≡ true
  argument_own x h =
      ⊎_elim
      (λ pure. rw pure h)
      (λ other. rw other h)
      (cases_Bool b.flags.pure)

  captured_own : (x : ℕ) → is_reference_argument y x ≡ true → is_default_of y (core.Captured x (not b.flags.is_static)) ≡ true
  captured_own x h =
      and_from _ _ h
      (⊎_elim
      (λ static. or_left (not (not b.flags.is_static)) (not y.flags.is_static) (ap (λ s. not (not s)) static))
      (λ instance. or_right (not (not b.flags.is_static)) (not y.flags.is_static) (instance_is instance))
      (cases_Bool b.flags.is_static))

  params_own : (i : ℕ) (qs : List ParamTree) → ((j : ℕ) (q : ParamTree) → slice_get qs j ≡ Some q → slice_get b.params (i + j) ≡ Some q) → list_all may_capture qs ≡ true → list_all (is_default_of y) (of_params b (first_param b + i) qs) ≡ true
  params_own i [] at h = refl
  params_own i (q ∷ qs) at h =
      let x = first_param b + i in
      let both = and_parts (may_capture q) (list_all may_capture qs) h in
      let zero_more : i + 0 ≡ i = omega arith in
      let it : slice_get b.params i ≡ Some q = ap (slice_get b.params) (sym zero_more) ∙ at 0 q refl in
      let asked = is_class_type q.ty && not b.flags.no_default_contract in
      let one = asked_own (is_default_of y) asked (of_argument b x) (λ a. argument_own x (reference_own i q it (and_parts (is_class_type q.ty) (not b.flags.no_default_contract) a).0)) in
      let two = asked_own (is_default_of y) q.captured (core.Captured x (not b.flags.is_static)) (λ a. captured_own x (reference_own i q it (rw a at both.0))) in
      let next : first_param b + (i + 1) ≡ x + 1 = omega arith in
      let rest = params_own (i + 1) qs (λ j r e. let s : i + 1 + j ≡ i + suc j = omega arith in ap (slice_get b.params) s ∙ at (suc j) r e) both.1 in
      list_all-append (is_default_of y) (of_param b x q) (of_params b (x + 1) qs)
      ∙ rw (list_all-append (is_default_of y) (where_asked asked (of_argument b x)) (where_asked q.captured (core.Captured x (not b.flags.is_static))), one, two) (ap (λ n. list_all (is_default_of y) (of_params b n qs)) (sym next) ∙ rest)

  pub entry_own : list_all may_capture b.params ≡ true → list_all (is_default_of y) (default_entry b y.class) ≡ true
  entry_own h =
      let this : list_all (is_default_of y) (if b.flags.no_default_contract then [] else of_this_at_entry b y.class) ≡ true = of_either b.flags.no_default_contract in
      let zero_more : first_param b + 0 ≡ first_param b = omega arith in
      let params : list_all (is_default_of y) (of_params b (first_param b) b.params) ≡ true =
      ap (λ n. list_all (is_default_of y) (of_params b n b.params)) (sym zero_more) ∙ params_own 0 b.params (λ j q e. let z : 0 + j ≡ j = omega arith in ap (slice_get b.params) z ∙ e) h in
      list_all-append (is_default_of y) (if b.flags.no_default_contract then [] else of_this_at_entry b y.class) (of_params b (first_param b) b.params) ∙ rw (this, params) refl
    where
      of_either : (n : Bool) → list_all (is_default_of y) (if n then [] else of_this_at_entry b y.class) ≡ true
      of_either true = refl
      of_either false = this_own

  pub exit_own : list_all (is_default_of y) (default_exit b y.class) ≡ true
  exit_own =
      ⊎_elim
      (λ yes. rw yes refl)
      (λ no.
      let instance : b.flags.is_static ≡ false = (or_false (b.flags.no_default_contract || b.flags.pure) b.flags.is_static no).1 in
      rw no (and_from _ _ (own_class instance) refl))
      (cases_Bool (b.flags.no_default_contract || b.flags.pure || b.flags.is_static))

  defaults_are : (p : Place) (ds : List DefaultTree) → list_all (is_default_of y) ds ≡ true → list_all (has_own_default y) (conditions p ds) ≡ true
  defaults_are p [] h = refl
  defaults_are p (d ∷ ds) h = let both = and_parts (is_default_of y d) (list_all (is_default_of y) ds) h in and_from _ _ both.0 (defaults_are p ds both.1)

  plain_is : (ns : Numbers) (e : ExprTree) → has_own_default y (plain ns e) ≡ true
  plain_is ns (IntOf p n) = refl
  plain_is ns e = refl

  all_plain_are : (ns : Numbers) (es : List ExprTree) → list_all (has_own_default y) (all_plain ns es) ≡ true
  all_plain_are ns [] = refl
  all_plain_are ns (e ∷ es) = and_from _ _ (plain_is ns e) (all_plain_are ns es)

  conditions_own : (p : Place) (ns : Numbers) (ds : List DefaultTree) (es : List ExprTree) → list_all (is_default_of y) ds ≡ true → list_all (has_own_default y) (conditions p ds ++ all_plain ns es) ≡ true
  conditions_own p ns ds es h = list_all-append (has_own_default y) (conditions p ds) (all_plain ns es) ∙ rw (defaults_are p ds h, all_plain_are ns es) refl

  both_own : list_all may_capture b.params ≡ true → (list_all (has_own_default y) y.entry ≡ true) × (list_all (has_own_default y) y.exit ≡ true)
  both_own h =
      (ap (list_all (has_own_default y)) is.entry ∙ conditions_own is.place is.numbers (default_entry b y.class) (entry_of_first bs) (entry_own h), ap (list_all (has_own_default y)) is.exit ∙ conditions_own is.place is.numbers (default_exit b y.class) (all_exits bs) exit_own)

pub have_defaults : (p : ProgramTree) → program_faults p ≡ [] → ownership_faults (resolved p) ≡ [] → HaveDefaults (core_of p)
have_defaults p faultless owned n y at =
    let c = contract_of p n y at in
    let params = have_params p faultless owned n y at in
    both_own y c.body c.declarations c.contract (captures_allowed (core_of p).classes c.body.params (subst (λ ls. list_all (is_local (core_of p).classes) ls ≡ true) c.contract.params params))
