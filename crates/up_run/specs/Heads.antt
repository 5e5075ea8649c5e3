-- The comment with which a record begins: the command that replays it.
use Rattle.std.specs.Prelude.{ℕ, ◌==◌, if◌then◌else◌, Bool, ◌&&◌, ◌||◌, not, length, List, [], ◌∷◌, ◌++◌, codes}
use Rattle.std.specs.Char.{is_ascii_alphanumeric}
use Rattle.std.specs.List.{flat_map, list_all, list_any}

-- a byte that a shell takes as it is (sh(1), "Quoting")
abbrev pub is_plain : ℕ → Bool
is_plain byte = is_ascii_alphanumeric byte || list_any (λ other. other == byte) (codes "/._-+:@%,=")

-- a byte between single quotes; a line feed, which would end the comment, is a question mark
abbrev pub quoted : ℕ → List ℕ
quoted byte = if byte == 39 then codes "'\\''" else (if byte == 10 then codes "?" else byte ∷ [])

-- whether a word needs no quotes
abbrev pub stands_bare : List ℕ → Bool
stands_bare word = not (length word == 0) && list_all is_plain word

-- a path as a word of a shell
unfoldable pub word : List ℕ → List ℕ
word path = if stands_bare path then path else codes "'" ++ flat_map quoted path ++ codes "'"

-- the command that replays a record of a run of these jobs
unfoldable pub log_head : List ℕ → List ℕ → List ℕ → List ℕ
log_head source log path = codes "# initd replay " ++ word source ++ codes " " ++ word log
    ++ codes " --env PATH=" ++ word path ++ codes "\n"

-- the command that replays a record that is a bundle
unfoldable pub bundle_head : List ℕ → List ℕ → List ℕ
bundle_head log path = codes "# initd replay --bundle " ++ word log ++ codes " --env PATH=" ++ word path ++ codes "\n"
