-- The obligations of a formed program are well formed, body by body.
use Rattle.std.proofs.Common.{◌≡◌, ℕ, suc, ◌+◌, List, [], ◌∷◌, Bool, true, false, not, ◌&&◌, refl, sym}
use Rattle.std.specs.Prelude.{Some, slice_get}
use Rattle.std.proofs.lemmas.Bool.{false≢true, and_parts}
use Rattle.ss_core.specs.Tree.{BodyTree, CoreTree}
use Rattle.ss_store_rules.specs.Construction.{is_base_or_ready, has_no_base_or_ready, opening, after_opening, begins_with, is_below_object, has_delayed_base, wants_base, wants_ready}
use Rattle.ss_store_rules.specs.Formed.{IsFormedBody, IsFormed}
use Rattle.ss_store_rules.specs.Locals.{is_argument, each}
use Rattle.ss_machine_good.proofs.Openings.{each_of_parts}
use Rattle.ss_vcgen_heaps.specs.Positions.{Counters}
use Rattle.ss_vcgen_heaps.specs.Obligations.{walk_of, at_entry, at_end, obligations_from, obligations}
use Rattle.ss_vcgen_safe.specs.Formed.{AreFormed}
use Rattle.ss_vcgen_safe.proofs.FormedSteps.{listed_more}
use Rattle.ss_vcgen_safe.proofs.FormedStatements.{code_formed}
use Rattle.ss_vcgen_safe.proofs.FormedEntries.{entry_formed, entry_placed}

-- ---- `base(..)` and `ready this` stand in constructors alone

module _ (c : CoreTree) (formed : IsFormed c) where
  plain_code : (b : BodyTree) → IsFormedBody c b → b.flags.ctor ≡ false → each (λ s. not (is_base_or_ready s)) b.code ≡ true
  plain_code b is plain =
      let p = and_parts (has_no_base_or_ready (opening b.code)) (begins_with (wants_base c b) (wants_ready c b) (after_opening b.code)) is.order in
      each_of_parts (λ s. not (is_base_or_ready s)) b.code p.0 (none_begins b.flags.ctor plain p.1)
    where
      none_begins : (k : Bool) → k ≡ false → begins_with (k && not (is_below_object c b)) (k && not b.flags.delayed && has_delayed_base c b) (after_opening b.code) ≡ true → has_no_base_or_ready (after_opening b.code) ≡ true
      none_begins true e h = absurd (false≢true (sym e))
      none_begins false e h = h

  body_formed : (n : ℕ) (b : BodyTree) (next : Counters) → IsFormedBody c b → AreFormed c.classes (at_end (walk_of c n b next) next).listed
  body_formed n b next is =
      let w = walk_of c n b next in
      (code_formed w formed is (refl, refl) b.code (Some (is_argument b)) (at_entry w next) (record { typed = is.typed; exposed = is.exposed; ready = plain_code b is; assigned = is.assigned }) (entry_formed c n b next is)
      (entry_placed c n b next is)).listed

  bodies_formed : (bs : List BodyTree) (n : ℕ) (next : Counters) → ((x : ℕ) (b : BodyTree) → slice_get bs x ≡ Some b → IsFormedBody c b) → AreFormed c.classes (obligations_from c n next bs)
  bodies_formed [] n next are = tt
  bodies_formed (b ∷ bs) n next are =
      let k = at_end (walk_of c n b next) next in
      listed_more c.classes k.listed (obligations_from c (n + 1) k.next bs) (body_formed n b next (are 0 b refl)) (bodies_formed bs (n + 1) k.next (λ x e. are (suc x) e))

  pub all_formed : AreFormed c.classes (obligations c)
  all_formed = bodies_formed c.bodies 0 (record { stores = 0; wholes = 0; truths = 0; things = 0 }) (λ x b e. formed.bodies x b e)
