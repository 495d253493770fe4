-- The elaboration of a delayed constructor keeps nulls out.
use Rattle.std.proofs.Common.{◌≡◌, ℕ, ◌-◌, List, [], Bool, true, false, Some, ap, arith}
use Rattle.std.specs.Prelude.{if◌then◌else◌}
use Rattle.std.proofs.lemmas.Bool.{false≢true}
use Rattle.ss_core.specs.Tree as core
use Rattle.ss_typed.specs.Tree.{BodyTree, TypedTree}
use Rattle.ss_paths.specs.Sets.{none}
use Rattle.ss_paths.specs.Fields.{Numbers, is_among}
use Rattle.ss_paths.specs.Assigned.{has_field}
use Rattle.ss_paths.specs.Paths as phase
use Rattle.ss_nonnull_rules.specs.NonNull as source
use Rattle.ss_nonnull_rules.specs.Faults as faults
use Rattle.ss_nonnull_rules.specs.Program.{null_context_of}
use Rattle.ss_expand_rules.specs.Contracts.{first_param}
use Rattle.ss_expand_rules.specs.Bodies.{statements, written_body}
use Rattle.ss_store_rules.specs.NonNull.{known_at_entry, keeps_nulls_out}
use Rattle.ss_expand_formed.specs.Fitting.{all_fitting, Builds, Covers}
use Rattle.ss_expand_formed.specs.Bodies.{body_frame, nothing_known}
use Rattle.ss_expand_formed.proofs.NullsPlain.{not_none}
use Rattle.ss_expand_formed.proofs.NullsMethods.{body_keeps}

-- at the entry of a constructor no field is assigned
pub none_assigned : {X : Type 0} (n : Numbers) (f : ℕ) → has_field n nothing_known.fields f ≡ true → X
none_assigned {X = X} n f h = by (is_among n f) h
  where
    by : (b : Bool) → (if b then none (f - n.first) else false) ≡ true → X
    by true i = not_none (f - n.first) i
    by false i = absurd (false≢true i)

pub constructor_keeps : (c : core.CoreTree) (p : TypedTree) (b : BodyTree) (bs : List BodyTree) (fields : ℕ → Bool) → b.flags.is_static ≡ false → Builds (body_frame c p b bs fields false) → all_fitting (body_frame c p b bs fields false) (statements p b) ≡ true →
    phase.faults_along (source.known_flow (null_context_of p b)) (faults.null_check (null_context_of p b)) (statements p b) (Some nothing_known) ≡ [] → keeps_nulls_out c (written_body p b bs) ≡ true
constructor_keeps c p b bs fields instance builds fitting pure =
    let covers : Covers (body_frame c p b bs fields false) nothing_known (known_at_entry (written_body p b bs)) = record {
      facts = λ x h. not_none x h;
      mine = λ x h. not_none x h;
      fields = λ f o h. none_assigned _ f h;
      free = λ h f. absurd (false≢true h);
    } in
    let one : first_param b ≡ 1 = ap (λ d. if d then 0 else 1) instance in
    body_keeps c p b bs fields false builds (λ h. omega arith) nothing_known (λ x h. not_none x h) covers fitting pure
