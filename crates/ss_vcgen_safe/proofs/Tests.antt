-- Tests of code have truth values, and their formulas are true exactly where those are.
use Rattle.std.proofs.Common.{◌≡◌, List, [], Bool, true, Ok, refl, sym, ◌∙◌, ap, subst}
use Rattle.std.specs.Prelude.{Option, Some, None, is_some}
use Rattle.std.proofs.lemmas.Bool.{false≢true}
use Rattle.ss_core.specs.declared.names.Ty.{Ty}
use Rattle.ss_core.specs.declared.names.Ty.TheVariants as ty
use Rattle.ss_core.specs.Tree.{ClassTree}
use Rattle.ss_store_rules.specs.declared.Value.{Value as ObjectValue}
use Rattle.ss_store_rules.specs.declared.Value.TheVariants as value
use Rattle.ss_store_rules.specs.Store.{Object}
use Rattle.ss_store_rules.specs.Formed.{IsFormed}
use Rattle.ss_store_rules.specs.Locals.{local_types}
use Rattle.ss_store_rules.specs.Types.{type_of, code_type, in_code, is_bool}
use Rattle.ss_store_rules.specs.Values.{value_of}
use Rattle.ss_machine_typed.proofs.Sound.{value_sound}
use Rattle.ss_store_rules.specs.Good.{has_type}
use Rattle.ss_machine_good.proofs.Tests.{tested_true}
use Rattle.ss_logic.specs.Values.{Table, Structure, truth}
use Rattle.ss_logic.proofs.Truth.{neg_true}
use Rattle.ss_logic.specs.Express.{said}
use Rattle.ss_logic_means.specs.Means.{standing, Denotes}
use Rattle.ss_logic_means.proofs.Contracts.{condition_typed}
use Rattle.ss_logic_means.proofs.Denoting.{said_means}
use Rattle.ss_logic_means.proofs.Typed.{bool_type}
use Rattle.ss_vcgen_heaps.specs.Positions.{Walk, meant_at, evaluate}
use Rattle.ss_sound_outcomes.specs.Points.{scene}
use Rattle.ss_vcgen_safe.specs.At.{IsAlike, activation}
use Rattle.ss_vcgen_safe.proofs.Same.{same_evaluate}
use Rattle.ss_vcgen_safe.proofs.Evaluates.{good_at, evaluated}
use Rattle.ss_vcgen_safe.specs.Forms.{TestsGo}

is_some_bool : (o : Option Ty) → is_bool o ≡ true → is_some o ≡ true
is_some_bool None h = absurd (false≢true h)
is_some_bool (Some t) h = refl

bool_of : (cs : List ClassTree) (s : List Object) (u : ObjectValue) → has_type cs s ty.Bool u ≡ true → (b : Bool) × (u ≡ value.Bool b)
bool_of cs s (value.Bool b) h = (b, refl)
bool_of cs s (value.Int n) h = absurd (false≢true h)
bool_of cs s (value.Obj o) h = absurd (false≢true h)
bool_of cs s value.Null h = absurd (false≢true h)

pub tests_go : (w : Walk) (before : List Object) (table : Table) → IsFormed w.program → TestsGo w before table
tests_go w before table formed xs m k p e typed reads is valid =
    let cs = w.program.classes in
    let s = scene (activation w before table) p in
    let good = good_at w before table formed xs m k p is in
    let type = bool_type (type_of cs (local_types w.body) e) (condition_typed cs w.body in_code e typed).1 in
    let ev = evaluated w before table formed xs m k p is e reads (is_some_bool (code_type cs w.body e) typed) valid in
    let b = bool_of cs p.store ev.value (value_sound e s (local_types w.body) w.body.flags.ctor good ty.Bool ev.value type ev.is) in
    let is_b : value_of e s ≡ Ok (value.Bool b.0) = ev.is ∙ ap (λ v. Ok v) b.1 in
    let means : (m' : Structure) → IsAlike (evaluate w e k).next m m' → Denotes cs m' [] (meant_at w e k) (truth b.0) =
    λ m' a. subst (λ v. Denotes cs m' [] (meant_at w e k) (standing v)) b.1 (ev.means.is m' (subst (λ n. IsAlike n m m') (same_evaluate w e k).next a)) in
    record {
      v = b.0;
      is = is_b;
      at = ev.at;
      true_so = λ h m' a. (said_means cs m' [] (meant_at w e k) b.0 (means m' a)).1 h;
      false_so = λ h m' a. neg_true cs m' [] (said (meant_at w e k)) (λ t. false≢true (sym h ∙ (said_means cs m' [] (meant_at w e k) b.0 (means m' a)).0 t));
      known = tested_true s (local_types w.body) w.body.flags.ctor good k.known is.known e b.0 type (value.Bool b.0, is_b, refl);
    }
