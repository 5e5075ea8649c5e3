-- Which paths a socket may have (unix(7)), and why one is refused.
use Rattle.std.specs.Prelude.{◌≡◌, ℕ, List, [], ◌∷◌, length, nat_lt, if◌then◌else◌, Option, Some, None, MatchOption, ⊤}
use Rattle.up_edge.specs.declared.socket.SocketFault.{SocketFault}
use Rattle.up_edge.specs.declared.socket.SocketFault.TheVariants.{Empty, TooLong, Exists, Memory, Unusable}

-- the most bytes of a path: 107, less the six of the name below it at which the socket is made
abbrev pub most_path : ℕ
most_path = 101

-- the refusal of a path that no socket can have
abbrev pub path_refusal : List ℕ → Option SocketFault
path_refusal [] = Some Empty
path_refusal (byte ∷ path) = if nat_lt most_path (length (byte ∷ path)) then Some TooLong else None

-- a refusal that the system or memory is the reason of, and not the path itself
abbrev pub IsOfSystem : SocketFault → Type 0
IsOfSystem Empty = ⊥
IsOfSystem TooLong = ⊥
IsOfSystem Exists = ⊤
IsOfSystem Memory = ⊤
IsOfSystem (Unusable kind) = ⊤

-- why a socket at this path is refused: by the path, and only if nothing is wrong with that by the system
abbrev pub SaysWhy : List ℕ → SocketFault → Type 0
SaysWhy path fault = MatchOption (path_refusal path) (IsOfSystem fault) (λ refusal. fault ≡ refusal)
