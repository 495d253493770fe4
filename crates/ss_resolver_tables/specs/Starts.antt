-- How many of something the classes before each class have together.
use Rattle.std.specs.Prelude.{ℕ, ◌+◌, List, [], ◌∷◌, unwrap_or, slice_get}

-- of which n come before the first
abbrev pub starts_from : {A : Type 0} → (A → ℕ) → ℕ → List A → List ℕ
starts_from f n [] = []
starts_from f n (x ∷ xs) = n ∷ starts_from f (n + f x) xs

-- those before place k, where all are this many
abbrev pub start_at : List ℕ → ℕ → ℕ → ℕ
start_at starts all k = unwrap_or (slice_get starts k) all
