-- The messages on standard error.
use Rattle.std.specs.Prelude.{ℕ, ◌-◌, ◌==◌, ◌&&◌, ◌||◌, nat_le, nat_lt, Bool, false, Option, Some, None, List, ◌++◌, length, codes, decimal, slice_get, if◌then◌else◌}
use Rattle.ss_core.specs.declared.names.Kind.{Kind}
use Rattle.ss_core.specs.declared.names.Place.{Place}
use Rattle.ss_report.specs.Texts.{kind_name}
use Rattle.ss_main_messages.specs.declared.messages.Unread.{Unread}
use Rattle.ss_main_messages.specs.declared.messages.Unread.TheVariants as unread
use Rattle.ss_main_messages.specs.Lines.{line_at, pointed}
use Rattle.ss_main_messages.specs.Sentences.{sentence, failure}

-- a byte that text in UTF-8 has in comments and strings alone, or nowhere
abbrev pub is_foreign : Option ℕ → Bool
is_foreign None = false
is_foreign (Some b) = (b == 0) || nat_lt 127 b

-- a byte that a reserved word begins with: a small letter
abbrev pub begins_word : Option ℕ → Bool
begins_word None = false
begins_word (Some b) = nat_le 97 b && nat_le b 122

-- the byte at a place, where the line has one there
abbrev pub byte_at : List ℕ → Place → Option ℕ
byte_at source at = slice_get (line_at source at) (at.column - 1)

-- what is said of a rule that a source breaks at a place
abbrev pub said_of : List ℕ → Place → ℕ → List ℕ
said_of source at rule =
    if length source == 0 then codes "the file is empty; write a class with `static void Main()`"
    else if (rule == 1) && is_foreign (byte_at source at)
    then codes "this byte can't stand here; save the file as UTF-8, with letters beyond ASCII in comments and strings alone"
    else if (rule == 10) && begins_word (byte_at source at)
    then codes "no program goes on with this word; something is missing or too much before it, or it is a reserved word and can't be a name"
    else sentence rule

-- the file, and what is said of it
abbrev pub file_message : List ℕ → List ℕ → List ℕ
file_message file said = file ++ codes ": " ++ said ++ codes "\n"

-- what is said of a file that couldn't be read
abbrev pub said_of_unread : Unread → List ℕ
said_of_unread unread.Missing = codes "there is no such file; look at its name and at the folder that you are in"
said_of_unread unread.Folder = codes "this is a folder; name a file in it"
said_of_unread unread.Other = codes "there is no such file, or it can't be read; look at its name, and see whether you may read it"

-- the message of a file that couldn't be read
abbrev pub unread_message : List ℕ → Unread → List ℕ
unread_message file why = file_message file (said_of_unread why)

-- the message of an input that the program of the file doesn't admit
abbrev pub unadmitted_message : List ℕ → List ℕ
unadmitted_message file = file_message file (codes "a `requires` of its `Main` doesn't hold of this input, or `Main` takes none")

-- the message of a run that isn't at its end after its steps
abbrev pub spent_message : List ℕ → List ℕ
spent_message file = file_message file (codes "the run isn't at its end after its steps; `--steps S` says how many it may take (1000000 without it)")

-- the file and the place
abbrev pub heading : List ℕ → Place → List ℕ
heading file at = file ++ codes ":" ++ decimal at.line ++ codes ":" ++ decimal at.column ++ codes ": "

-- the file, the place and what is said of it, and below them the line of the source with a mark
abbrev pub message : List ℕ → List ℕ → Place → List ℕ → List ℕ
message file source at said = heading file at ++ said ++ codes "\n" ++ pointed source at

-- an error by its name, and what is said of it
abbrev pub error : List ℕ → List ℕ → List ℕ
error name said = codes "error[" ++ name ++ codes "]: " ++ said

-- the message of a source that a rule refuses at a place
abbrev pub refused_message : List ℕ → List ℕ → Place → ℕ → List ℕ
refused_message file source at rule = message file source at (error (decimal rule) (said_of source at rule))

-- the message of a run that stopped at a place
abbrev pub stopped_message : List ℕ → List ℕ → Place → List ℕ
stopped_message file source at = message file source at (codes "stopped: this `assume` isn't true in this run")

-- the message of a run in which a check of this kind failed at a place
abbrev pub failed_message : List ℕ → List ℕ → Place → Kind → List ℕ
failed_message file source at k = message file source at (error (kind_name k) (failure k))
