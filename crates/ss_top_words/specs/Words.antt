-- What the words of a command line ask for.
use Rattle.std.specs.Prelude.{ℕ, ℤ, Bool, true, false, not, nat_le, List, [], ◌∷◌, ◌++◌, Option, Some, None, is_none, is_some, unwrap_or, codes, ◌==◌, ◌&&◌, if◌then◌else◌, length}
use Rattle.std.specs.List.{list_any, before_first, after_first}
use Rattle.std.specs.Str.{bytes_eq}
use Rattle.ss_top_words.specs.declared.Command.{Command}
use Rattle.ss_top_words.specs.declared.Command.TheVariants as command
use Rattle.ss_top_words.specs.declared.Limits.{Limits}
use Rattle.ss_top_words.specs.declared.number_options.NumberOption.{NumberOption}
use Rattle.ss_top_words.specs.declared.number_options.NumberOption.TheVariants.{Steps, Rounds, Splits, Instances}
use Rattle.ss_top_words.specs.Numbers.{natural, whole}

-- ---- the options that have a number

abbrev pub option_named : List ℕ → Option NumberOption
option_named name =
    if bytes_eq name (codes "--steps") then Some Steps
    else if bytes_eq name (codes "--rounds") then Some Rounds
    else if bytes_eq name (codes "--splits") then Some Splits
    else if bytes_eq name (codes "--instances") then Some Instances
    else None

-- the greatest number that it may have
abbrev pub most_of : NumberOption → ℕ
most_of Steps = 1000000000
most_of Rounds = 4
most_of Splits = 1000000000
most_of Instances = 1000000

-- its number where none is given
abbrev pub default_of : NumberOption → ℕ
default_of Steps = 1000000
default_of Rounds = 2
default_of Splits = 200000
default_of Instances = 50000

-- ---- the words after the command

-- What they have said so far beside the positional ones.
pub record Options : Type 0 where
  pub steps : Option ℕ
  pub rounds : Option ℕ
  pub splits : Option ℕ
  pub instances : Option ℕ
  pub unverified : Bool
  -- the next word is the number of this option
  pub wants : Option NumberOption
  -- `--` was there, and every word after it is positional
  pub ended : Bool

abbrev pub no_options : Options
no_options = record { steps = None; rounds = None; splits = None; instances = None; unverified = false; wants = None; ended = false }

-- the number that an option has so far
abbrev pub given : NumberOption → Options → Option ℕ
given Steps o = o.steps
given Rounds o = o.rounds
given Splits o = o.splits
given Instances o = o.instances

abbrev pub with_number : NumberOption → Options → ℕ → Options
with_number Steps o n = record o { steps = Some n; wants = None }
with_number Rounds o n = record o { rounds = Some n; wants = None }
with_number Splits o n = record o { splits = Some n; wants = None }
with_number Instances o n = record o { instances = Some n; wants = None }

-- A word is positional, or it is taken as an option or its value, with what has been said then. Or it can't stand there.
pub data Taken : Type 0 where
  Positional : Taken
  TakenAs : Options → Taken
  Refused : Taken

-- the number of an option, where its value is one that it may have
abbrev pub with_found : NumberOption → Options → Option ℕ → Taken
with_found n o None = Refused
with_found n o (Some number) = TakenAs (with_number n o number)

-- the value of an option
abbrev pub with_value : NumberOption → Options → List ℕ → Taken
with_value n o value = with_found n o (natural (most_of n) value)

-- the option, where it has no number yet
abbrev pub unless_given : Options → Option NumberOption → Option NumberOption
unless_given o None = None
unless_given o (Some n) = if is_none (given n o) then Some n else None

-- an option that has its value in the next word
abbrev pub wanting : Options → Option NumberOption → Taken
wanting o None = Refused
wanting o (Some n) = TakenAs (record o { wants = Some n })

-- an option that has its value in the same word
abbrev pub having : Options → Option NumberOption → List ℕ → Taken
having o None value = Refused
having o (Some n) value = with_value n o value

abbrev pub is_equals_sign : ℕ → Bool
is_equals_sign b = b == 61

-- `NAME=VALUE`, or `NAME` and its value in the next word
abbrev pub number_option : Options → List ℕ → Taken
number_option o word =
    if list_any is_equals_sign word then having o (unless_given o (option_named (before_first is_equals_sign word))) (after_first is_equals_sign word)
    else wanting o (unless_given o (option_named word))

-- an option, each at most once
abbrev pub option : Options → List ℕ → Taken
option o word =
    if bytes_eq word (codes "--") then TakenAs (record o { ended = true })
    else if bytes_eq word (codes "--unverified") && not o.unverified then TakenAs (record o { unverified = true })
    else number_option o word

-- the byte of `-`
abbrev pub begins_with_dash : List ℕ → Bool
begins_with_dash [] = false
begins_with_dash (b ∷ bs) = b == 45

abbrev pub taken_where : Option NumberOption → Options → List ℕ → Taken
taken_where (Some n) o word = with_value n o word
taken_where None o word =
    if o.ended then Positional
    else if begins_with_dash word then option o word
    else Positional

-- what one more word is
unfoldable pub taken : Options → List ℕ → Taken
taken o word = taken_where o.wants o word

-- What they have said so far. The positional ones are the file and the input.
pub record Reading : Type 0 where
  pub positional : List (List ℕ)
  pub options : Options

abbrev pub first_reading : Reading
first_reading = record { positional = []; options = no_options }

abbrev pub with_positional : Reading → List ℕ → Reading
with_positional r word = record r { positional = r.positional ++ word ∷ [] }

abbrev pub with_word : Reading → List ℕ → Taken → Option Reading
with_word r word Positional = Some (with_positional r word)
with_word r word (TakenAs o) = Some (record r { options = o })
with_word r word Refused = None

-- one more word
abbrev pub read : Reading → List ℕ → Option Reading
read r word = with_word r word (taken r.options word)

abbrev pub read_next : Option Reading → List ℕ → Option Reading
read_next None word = None
read_next (Some r) word = read r word

abbrev pub read_all : Option Reading → List (List ℕ) → Option Reading
read_all r [] = r
read_all r (word ∷ words) = read_all (read_next r word) words

-- ---- the command

-- a command, the name of its file, how far verification searches, and of a run its most steps and its input
pub record Asked : Type 0 where
  pub command : Command
  pub file : List ℕ
  pub limits : Limits
  pub steps : ℕ
  pub input : List ℤ

-- the number that is given, or the one that stands where none is
abbrev pub chosen : NumberOption → Options → ℕ
chosen n o = unwrap_or (given n o) (default_of n)

abbrev pub limits_of : Options → Limits
limits_of o = record { rounds = chosen Rounds o; splits = chosen Splits o; instances = chosen Instances o }

abbrev pub asking : Command → Options → List ℕ → List ℤ → Asked
asking c o file ns = record { command = c; file = file; limits = limits_of o; steps = chosen Steps o; input = ns }

abbrev pub and_number : Option (List ℤ) → Option ℤ → Option (List ℤ)
and_number None n = None
and_number (Some ns) None = None
and_number (Some ns) (Some n) = Some (ns ++ n ∷ [])

-- these numbers and those of the words after them, where each word is one
abbrev pub numbers_after : Option (List ℤ) → List (List ℕ) → Option (List ℤ)
numbers_after ns [] = ns
numbers_after ns (word ∷ words) = numbers_after (and_number ns (whole word)) words

abbrev pub run_command : Bool → Command
run_command unverified = if unverified then command.RunUnverified else command.Run

-- how many numbers an input has at most
abbrev pub most_numbers : ℕ
most_numbers = 2147483647

abbrev pub with_input : Reading → List ℕ → Option (List ℤ) → Option Asked
with_input r file None = None
with_input r file (Some ns) =
    if nat_le (length ns) most_numbers then Some (asking (run_command r.options.unverified) r.options file ns)
    else None

-- nothing is said of a run
abbrev pub is_without_run : Options → Bool
is_without_run o = is_none o.steps && not o.unverified

-- nothing is said of how far verification searches
abbrev pub is_without_limits : Options → Bool
is_without_limits o = is_none o.rounds && is_none o.splits && is_none o.instances

-- whether the command takes what is said
abbrev pub takes : Command → Options → Bool
takes command.Verify o = is_without_run o
takes command.Run o = true
takes command.RunUnverified o = true
takes command.Expand o = is_without_run o && is_without_limits o

-- a file alone
abbrev pub of_file : Command → Reading → List (List ℕ) → Option Asked
of_file c r (file ∷ []) = if takes c r.options then Some (asking c r.options file []) else None
of_file c r words = None

-- a file and numbers
abbrev pub of_run : Reading → List (List ℕ) → Option Asked
of_run r [] = None
of_run r (file ∷ words) = with_input r file (numbers_after (Some []) words)

abbrev pub asked_by : Command → Reading → Option Asked
asked_by command.Verify r = of_file command.Verify r r.positional
asked_by command.Run r = of_run r r.positional
asked_by command.RunUnverified r = of_run r r.positional
asked_by command.Expand r = of_file command.Expand r r.positional

abbrev pub command_named : List ℕ → Option Command
command_named word =
    if bytes_eq word (codes "verify") then Some command.Verify
    else if bytes_eq word (codes "run") then Some command.Run
    else if bytes_eq word (codes "expand") then Some command.Expand
    else None

abbrev pub complete : Option Command → Option Reading → Option Asked
complete None r = None
complete (Some c) None = None
complete (Some c) (Some r) = if is_some r.options.wants then None else asked_by c r

-- What the words ask for, or nothing where they aren't those of a command. `verify FILE` takes `--rounds`, `--splits` and `--instances`. `run FILE`
-- takes these, `--steps`, `--unverified` and the numbers of an input. `expand FILE` takes no option.
abbrev pub asked : List (List ℕ) → Option Asked
asked [] = None
asked (word ∷ words) = complete (command_named word) (read_all (Some first_reading) words)
