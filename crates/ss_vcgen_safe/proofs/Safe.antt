-- Each body of a formed program goes on safely from its entry where the obligations of the program are valid.
use Rattle.std.proofs.Common.{◌≡◌, ℕ, zero, suc, ◌+◌, List, [], ◌∷◌, ◌++◌, Bool, true, refl, sym, subst}
use Rattle.std.specs.Prelude.{Option, Some, None, slice_get}
use Rattle.ss_core.specs.Tree.{ClassTree, BodyTree, CoreTree}
use Rattle.ss_store_rules.specs.Formed.{IsFormedBody, IsFormed}
use Rattle.ss_store_rules.specs.Locals.{is_argument}
use Rattle.ss_store_rules.specs.NonNull.{known_flow, null_check}
use Rattle.ss_store_rules.specs.Paths as paths
use Rattle.ss_store_rules.specs.Paths.{holds_along}
use Rattle.ss_store_rules.specs.Assigned.{assigned_flow}
use Rattle.ss_machine_rules.specs.States.{locals_at_entry}
use Rattle.ss_machine_good.specs.Checks.{fields_check}
use Rattle.ss_machine_good.proofs.Fields.{fields_along}
use Rattle.ss_logic.specs.Values.{no_heap}
use Rattle.ss_logic_tables.specs.Tabled.{tabled}
use Rattle.ss_logic_tables.proofs.Tabling.{list_has_a_heap}
use Rattle.ss_vcgen_heaps.specs.Positions.{Obligation, Counters}
use Rattle.ss_vcgen_heaps.specs.Obligations.{walk_of, at_entry, at_end, obligations_from, obligations, AreValid}
use Rattle.ss_sound_outcomes.specs.Outcomes.{RunsSafely, AllRunSafely}
use Rattle.ss_vcgen_safe.specs.Goes.{IsEntered}
use Rattle.ss_vcgen_safe.proofs.Known.{no_end}
use Rattle.ss_vcgen_safe.proofs.All.{all_go}
use Rattle.ss_vcgen_safe.proofs.Entries.{all, here, known_here}

valid_parts : (cs : List ClassTree) (os others : List Obligation) → AreValid cs (os ++ others) → AreValid cs os × AreValid cs others
valid_parts cs [] others h = (tt, h)
valid_parts cs (o ∷ os) others h = let r = valid_parts cs os others h.1 in ((h.0, r.0), r.1)

module _ (c : CoreTree) (formed : IsFormed c) where
  abbrev cs : List ClassTree
  cs = c.classes

  none_some : (o : Option (ℕ → Bool)) (ys : ℕ → Bool) → o ≡ None → o ≡ Some ys → ⊥
  none_some o ys e f = cc

  body_runs : (n : ℕ) (b : BodyTree) (next : Counters) → IsFormedBody c b → AreValid cs (at_end (walk_of c n b next) next).listed → RunsSafely c b
  body_runs n b next body valid table s arguments passed sound enters =
      let w = walk_of c n b next in
      let h = list_has_a_heap cs formed.chain table s sound.store sound.fits in
      let entry = all c n b next s table formed body arguments passed (tabled no_heap s) h in
      let k = at_entry w next in
      let at = here c n b next s table formed body arguments passed (tabled no_heap s) h enters sound in
      let known = known_here c n b next s table formed body arguments passed (tabled no_heap s) h in
      let is_entered : IsEntered w s arguments = record { program = formed; body = body; passed = passed } in
      all_go w s table arguments is_entered b.code (λ q. ⊥) (is_argument b) entry.m k
      (record { locals = locals_at_entry b arguments; store = s })
      (record {
        typed = body.typed;
        exposed = body.exposed;
        targets = body.targets;
        assigned = body.assigned;
        nulls = subst (λ z. holds_along (known_flow c b) (null_check c b) b.code (Some z) ≡ true) (sym known) body.nulls;
        fields = subst (λ z. holds_along (known_flow c b) (fields_check c b) b.code (Some z) ≡ true) (sym known) (fields_along c formed b body);
      })
      at valid (λ ys m' q is a h'. none_some (paths.at_end assigned_flow b.code (Some (is_argument b))) ys (no_end b.code (Some (is_argument b)) body.returns) is)

  bodies_run : (bs : List BodyTree) (n : ℕ) (next : Counters) → AreValid cs (obligations_from c n next bs) → ((x : ℕ) (b : BodyTree) → slice_get bs x ≡ Some b → IsFormedBody c b) → (x : ℕ) (b : BodyTree) → slice_get bs x ≡ Some b → RunsSafely c b
  bodies_run [] n next valid are x b is = let no : ⊥ = cc in absurd no
  bodies_run (d ∷ bs) n next valid are zero b is =
      let k = at_end (walk_of c n d next) next in
      let same : d ≡ b = cc in
      subst (RunsSafely c) same (body_runs n d next (are 0 d refl) (valid_parts cs k.listed (obligations_from c (n + 1) k.next bs) valid).0)
  bodies_run (d ∷ bs) n next valid are (suc x) b is =
      let k = at_end (walk_of c n d next) next in
      bodies_run bs (n + 1) k.next (valid_parts cs k.listed (obligations_from c (n + 1) k.next bs) valid).1 (λ y e. are (suc y) e) x b is

  pub all_run : AreValid cs (obligations c) → AllRunSafely c
  all_run valid n b is = bodies_run c.bodies 0 (record { stores = 0; wholes = 0; truths = 0; things = 0 }) valid (λ x d e. formed.bodies x d e) n b is
