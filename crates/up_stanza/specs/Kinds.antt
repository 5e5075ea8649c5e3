-- The first tokens of stanzas (init(5)).
use Rattle.std.specs.Prelude.{ℕ, List, [], ◌∷◌, Option, codes}
use Rattle.std.specs.List.{find}
use Rattle.std.specs.Str.{bytes_eq}
use Rattle.up_value.specs.Values.{Bytes}
use Rattle.up_stanza.specs.declared.kind.Kind.{Kind}
use Rattle.up_stanza.specs.declared.kind.Kind.TheVariants.{Listed, Exec, Script, PreStart, PostStart, PreStop, PostStop, Start, Stop}
use Rattle.up_stanza.specs.declared.kind.Listed as lists
use Rattle.up_stanza.specs.declared.kind.Listed.TheVariants as listed

-- the word that begins a stanza of arguments
abbrev pub listed_word : lists.Listed → Bytes
listed_word listed.Description = codes "description"
listed_word listed.Author = codes "author"
listed_word listed.Version = codes "version"
listed_word listed.Usage = codes "usage"
listed_word listed.Emits = codes "emits"
listed_word listed.Env = codes "env"
listed_word listed.Export = codes "export"
listed_word listed.Task = codes "task"
listed_word listed.Manual = codes "manual"
listed_word listed.Respawn = codes "respawn"
listed_word listed.Normal = codes "normal"
listed_word listed.Kill = codes "kill"
listed_word listed.Reload = codes "reload"
listed_word listed.Instance = codes "instance"
listed_word listed.Console = codes "console"
listed_word listed.Chdir = codes "chdir"

-- the word that begins a stanza of this kind
abbrev pub word_of : Kind → Bytes
word_of (Listed kind) = listed_word kind
word_of Exec = codes "exec"
word_of Script = codes "script"
word_of PreStart = codes "pre-start"
word_of PostStart = codes "post-start"
word_of PreStop = codes "pre-stop"
word_of PostStop = codes "post-stop"
word_of Start = codes "start"
word_of Stop = codes "stop"

-- all kinds: a word whose kind is not among them begins no stanza
abbrev pub kinds : List Kind
kinds =
    Listed listed.Description ∷ Listed listed.Author ∷ Listed listed.Version ∷ Listed listed.Usage
    ∷ Listed listed.Emits ∷ Listed listed.Env ∷ Listed listed.Export
    ∷ Listed listed.Task ∷ Listed listed.Manual ∷ Listed listed.Respawn ∷ Listed listed.Normal
    ∷ Listed listed.Kill ∷ Listed listed.Reload ∷ Listed listed.Instance
    ∷ Listed listed.Console ∷ Listed listed.Chdir ∷ Exec ∷ Script ∷ PreStart ∷ PostStart ∷ PreStop ∷ PostStop
    ∷ Start ∷ Stop ∷ []

-- the kind of stanza that a word begins
unfoldable pub kind_of : Bytes → Option Kind
kind_of word = find (λ kind. bytes_eq word (word_of kind)) kinds
