-- Contracts of formed bodies are stated as the laws on formulas ask.
use Rattle.std.proofs.Common.{◌≡◌, List, [], ◌∷◌, map, true, ◌||◌, refl}
use Rattle.std.specs.List.{list_all}
use Rattle.std.proofs.lemmas.Bool.{and_parts, and_from}
use Rattle.ss_core.specs.declared.names.Ty.{Ty}
use Rattle.ss_core.specs.Tree.{ClassTree, AtLevel, Unpacked, ThisUnowned, Defaults, OwnedFull, Full, ConsistentArgument, FullArgument, Captured, ExprTree, DefaultExpr, BodyTree, CoreTree}
use Rattle.ss_store_rules.specs.Locals.{local_types, is_argument, is_result, is_bound}
use Rattle.ss_store_rules.specs.Types.{in_requires, in_ensures}
use Rattle.ss_store_rules.specs.Typed.{is_entry, is_exit}
use Rattle.ss_store_rules.specs.Formed.{IsFormedBody}
use Rattle.ss_logic_means.specs.Scenes.{is_stated}
use Rattle.ss_logic_means.proofs.Contracts.{contract_stated}
use Rattle.ss_logic_tables.proofs.Bodies.{formed_typed, seen_typed}
use Rattle.ss_vcgen_heaps.specs.Contracts.{seen_condition, seen}
use Rattle.ss_vcgen_safe.specs.Stated.{IsStatedBody}

entries_stated : (cs : List ClassTree) (b : BodyTree) (es : List ExprTree) → list_all (is_entry cs b) es ≡ true → list_all (is_stated cs (local_types b)) es ≡ true
entries_stated cs b [] h = refl
entries_stated cs b (e ∷ es) h =
    let p = and_parts (is_entry cs b e) (list_all (is_entry cs b) es) h in
    and_from (is_stated cs (local_types b) e) (list_all (is_stated cs (local_types b)) es) (contract_stated cs b in_requires (λ x. is_argument b x || is_bound b x) e p.0) (entries_stated cs b es p.1)

exits_stated : (cs : List ClassTree) (b : BodyTree) (es : List ExprTree) → list_all (is_exit cs b) es ≡ true → list_all (is_stated cs (local_types b)) es ≡ true
exits_stated cs b [] h = refl
exits_stated cs b (e ∷ es) h =
    let p = and_parts (is_exit cs b e) (list_all (is_exit cs b) es) h in
    and_from (is_stated cs (local_types b) e) (list_all (is_stated cs (local_types b)) es) (contract_stated cs b in_ensures (λ x. is_argument b x || is_result b x || is_bound b x) e p.0) (exits_stated cs b es p.1)

pub formed_stated : (c : CoreTree) (b : BodyTree) → IsFormedBody c b → IsStatedBody c.classes b
formed_stated c b formed = record { typed = formed_typed c b formed; entry = entries_stated c.classes b b.entry formed.entry; exit = exits_stated c.classes b b.exit formed.exit }

-- ---- as callers see it

seen_one : (cs : List ClassTree) (ts : List Ty) (e : ExprTree) → is_stated cs ts e ≡ true → is_stated cs ts (seen_condition e) ≡ true
seen_one cs ts (DefaultExpr p (AtLevel t)) h = h
seen_one cs ts (DefaultExpr p Unpacked) h = h
seen_one cs ts (DefaultExpr p ThisUnowned) h = h
seen_one cs ts (DefaultExpr p (Defaults t)) h = h
seen_one cs ts (DefaultExpr p (OwnedFull t)) h = h
seen_one cs ts (DefaultExpr p Full) h = h
seen_one cs ts (DefaultExpr p (ConsistentArgument x)) h = h
seen_one cs ts (DefaultExpr p (FullArgument x)) h = h
seen_one cs ts (DefaultExpr p (Captured x apart)) h = h
seen_one cs ts e h = h

all_seen : (cs : List ClassTree) (ts : List Ty) (es : List ExprTree) → list_all (is_stated cs ts) es ≡ true → list_all (is_stated cs ts) (map seen_condition es) ≡ true
all_seen cs ts [] h = refl
all_seen cs ts (e ∷ es) h =
    let p = and_parts (is_stated cs ts e) (list_all (is_stated cs ts) es) h in
    and_from (is_stated cs ts (seen_condition e)) (list_all (is_stated cs ts) (map seen_condition es)) (seen_one cs ts e p.0) (all_seen cs ts es p.1)

pub seen_stated : (cs : List ClassTree) (b : BodyTree) → IsStatedBody cs b → IsStatedBody cs (seen b)
seen_stated cs b s = record { typed = seen_typed cs b s.typed; entry = all_seen cs (local_types b) b.entry s.entry; exit = all_seen cs (local_types b) b.exit s.exit }
