-- Names with a fixed meaning.
use Rattle.std.specs.Prelude.{ℕ, Bool, ◌||◌, List, codes}
use Rattle.std.specs.Str.{bytes_eq}

-- `Console` and `Owner`, directly before a dot where no local has the name
abbrev pub is_console : List ℕ → Bool
is_console n = bytes_eq n (codes "Console")

abbrev pub is_owner : List ℕ → Bool
is_owner n = bytes_eq n (codes "Owner")

-- what may stand after `Console.`
abbrev pub is_print : List ℕ → Bool
is_print n = bytes_eq n (codes "Write") || bytes_eq n (codes "WriteLine")

-- a question about owners, after `Owner.`
abbrev pub is_owner_word : List ℕ → Bool
is_owner_word n = bytes_eq n (codes "None") || bytes_eq n (codes "Same") || bytes_eq n (codes "Is")

-- the state words without arguments, after any other dot
abbrev pub is_state_read : List ℕ → Bool
is_state_read n = bytes_eq n (codes "IsConsistent") || bytes_eq n (codes "IsCommitted") || bytes_eq n (codes "IsNew")

-- the state words that ask for a class
abbrev pub is_state_call : List ℕ → Bool
is_state_call n = bytes_eq n (codes "IsLevel") || bytes_eq n (codes "IsPacked")

abbrev pub is_state_word : List ℕ → Bool
is_state_word n = is_state_read n || is_state_call n

-- the length of an array
abbrev pub is_length : List ℕ → Bool
is_length n = bytes_eq n (codes "Length")
