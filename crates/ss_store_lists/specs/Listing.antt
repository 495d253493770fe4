-- What is listed of a store.
use Rattle.std.specs.Prelude.{◌≡◌, ◌⊎◌, ℕ, List, [], map, Vec, Bool, true, ◌==◌, ◌||◌, if◌then◌else◌, Option, Some, None, slice_get, unwrap_or}
use Rattle.std.specs.List.{list_any}
use Rattle.std.specs.declared.alloc.Global.{Global}

abbrev pub is_listed : List ℕ → ℕ → Bool
is_listed ps q = list_any (λ p. p == q) ps

-- those that the object at k holds
abbrev pub held_by : List (List ℕ) → ℕ → List ℕ
held_by held k = unwrap_or (slice_get held k) []

abbrev pub lists : List (Vec ℕ Global) → List (List ℕ)
lists vs = map (λ v. v.items) vs

-- what was listed still is
abbrev pub HasMoreHeld : List (List ℕ) → List (List ℕ) → Type 0
HasMoreHeld old new = (k q : ℕ) → is_listed (held_by old k) q ≡ true → is_listed (held_by new k) q ≡ true

-- the lists by the position of the holder, where they weren't given up
abbrev pub listing : Bool → List (List ℕ) → Option (List (List ℕ))
listing is_whole held = if is_whole then Some held else None

-- the object at k may hold the one at q; lists that were given up say it of each, and each object may hold itself
abbrev pub is_held : Option (List (List ℕ)) → ℕ → ℕ → Bool
is_held None k q = true
is_held (Some held) k q = q == k || is_listed (held_by held k) q

abbrev pub HasMore : Option (List (List ℕ)) → Option (List (List ℕ)) → Type 0
HasMore old new = (k q : ℕ) → is_held old k q ≡ true → is_held new k q ≡ true

-- the position was taken out of what the object at k holds, or is its own; or the lists were given up
abbrev pub IsTaken : Option (List (List ℕ)) → ℕ → List ℕ → ℕ → Type 0
IsTaken None k taken q = Unit {0}
IsTaken (Some held) k taken q = (q ≡ k) ⊎ (is_listed taken q ≡ true)
