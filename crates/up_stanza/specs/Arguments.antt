-- What a stanza says whose arguments are the tokens up to its end (init(5)).
use Rattle.std.specs.Prelude.{ℕ, if◌then◌else◌, List, [], ◌∷◌, Option, None, Some, option_map, option_and_then, codes}
use Rattle.std.specs.Str.{bytes_eq}
use Rattle.up_value.specs.Values.{Bytes}
use Rattle.up_stanza.specs.declared.kind.Listed.{Listed}
use Rattle.up_stanza.specs.declared.kind.Listed.TheVariants as listed
use Rattle.up_stanza.specs.declared.limit.Limit.{Limit}
use Rattle.up_stanza.specs.declared.stanza.Stanza.{Stanza}
use Rattle.up_stanza.specs.declared.stanza.Stanza.TheVariants.{About, Emits, Env, Export, Task, Manual, Respawn, RespawnLimit, NormalExit, KillTimeout, KillSignal, ReloadSignal, Instance, Console, Chdir}
use Rattle.up_stanza.specs.Numbers.{number_in}
use Rattle.up_stanza.specs.Settings.{key_in, setting_in, exit_in, expandable_in, console_in}
use Rattle.up_stanza.specs.Signals.{signal_in}

-- one argument and no more
abbrev pub single : List Bytes → Option Bytes
single [] = None
single (text ∷ []) = Some text
single (text ∷ second ∷ others) = None

-- no argument
abbrev pub none : {X : Type 0} → X → List Bytes → Option X
none x [] = Some x
none x (text ∷ others) = None

-- an item before others, if there are both
abbrev pub with_first : {X : Type 0} → Option X → Option (List X) → Option (List X)
with_first None others = None
with_first (Some x) None = None
with_first (Some x) (Some xs) = Some (x ∷ xs)

-- what each argument says
abbrev pub each : {X : Type 0} → (Bytes → Option X) → List Bytes → Option (List X)
each f [] = Some []
each f (text ∷ texts) = with_first (f text) (each f texts)

-- one or more arguments
abbrev pub one_or_more : List Bytes → Option (List Bytes)
one_or_more [] = None
one_or_more (text ∷ texts) = Some (text ∷ texts)

-- what each of one or more arguments says
abbrev pub some : {X : Type 0} → (Bytes → Option X) → List Bytes → Option (List X)
some f texts = option_and_then (each f) (one_or_more texts)

-- the arguments after this word
abbrev pub after : Bytes → List Bytes → Option (List Bytes)
after word [] = None
after word (text ∷ texts) = if bytes_eq text word then Some texts else None

-- a limit of these numbers, if there are both
abbrev pub limit_by : Option ℕ → Option ℕ → Option Limit
limit_by None interval = None
limit_by (Some count) None = None
limit_by (Some count) (Some interval) = Some (record { count = count; interval = interval })

-- no limit
abbrev pub unlimited : Bytes → Option Limit
unlimited text = if bytes_eq text (codes "unlimited") then Some (record { count = 0; interval = 0 }) else None

-- COUNT INTERVAL, or `unlimited`
abbrev pub limit_of : List Bytes → Option Limit
limit_of [] = None
limit_of (text ∷ []) = unlimited text
limit_of (count ∷ interval ∷ []) = limit_by (number_in 0 65535 count) (number_in 0 2147483647 interval)
limit_of (count ∷ interval ∷ third ∷ others) = None

-- a `respawn` alone, or `respawn limit`
abbrev pub respawn_of : List Bytes → Option Stanza
respawn_of [] = Some Respawn
respawn_of (text ∷ texts) =
    option_map RespawnLimit (option_and_then limit_of (after (codes "limit") (text ∷ texts)))

-- `kill timeout` or `kill signal`
abbrev pub kill_of : List Bytes → Option Stanza
kill_of [] = None
kill_of (text ∷ texts) =
    if bytes_eq text (codes "timeout")
    then option_map KillTimeout (option_and_then (number_in 0 2147483647) (single texts))
    else (if bytes_eq text (codes "signal")
    then option_map KillSignal (option_and_then signal_in (single texts))
    else None)

-- `reload signal`
abbrev pub reload_of : List Bytes → Option Stanza
reload_of texts =
    option_map ReloadSignal (option_and_then (λ others. option_and_then signal_in (single others))
    (after (codes "signal") texts))

-- `normal exit`
abbrev pub normal_of : List Bytes → Option Stanza
normal_of texts = option_map NormalExit (option_and_then (some exit_in) (after (codes "exit") texts))

-- what a stanza of this kind says with these arguments
abbrev pub listed_of : Listed → List Bytes → Option Stanza
listed_of listed.Description texts = option_map About (single texts)
listed_of listed.Author texts = option_map About (single texts)
listed_of listed.Version texts = option_map About (single texts)
listed_of listed.Usage texts = option_map About (single texts)
listed_of listed.Emits texts = option_map Emits (one_or_more texts)
listed_of listed.Env texts = option_map Env (option_and_then setting_in (single texts))
listed_of listed.Export texts = option_map Export (some key_in texts)
listed_of listed.Task texts = none Task texts
listed_of listed.Manual texts = none Manual texts
listed_of listed.Respawn texts = respawn_of texts
listed_of listed.Normal texts = normal_of texts
listed_of listed.Kill texts = kill_of texts
listed_of listed.Reload texts = reload_of texts
listed_of listed.Instance texts = option_map Instance (option_and_then expandable_in (single texts))
listed_of listed.Console texts = option_map Console (option_and_then console_in (single texts))
listed_of listed.Chdir texts = option_map Chdir (single texts)
