-- What a map from paths to bytes holds.
use Rattle.std.specs.Prelude.{if◌then◌else◌, Option, None, Some, option_map}
use Rattle.std.specs.BTreeMap.{BTreeMap, get_by}
use Rattle.std.specs.Cmp.Lexicographic.{slice_cmp}
use Rattle.std.specs.Ordering.{nat_cmp}
use Rattle.std.specs.Str.{bytes_eq}
use Rattle.up_value.specs.Values.{Bytes}
use denote.Ref.{Bor}
use Rattle.up_conf.specs.declared.folder.File.{File}

-- the bytes at a path
abbrev pub found_at : Bytes → BTreeMap (Bor Bytes) (Bor Bytes) → Option Bytes
found_at path map = option_map (λ bytes. bytes.now) (get_by (λ key. slice_cmp nat_cmp path key.now) map)

-- what is found at a path with one file more at the end
abbrev pub also : Bytes → File → Option Bytes → Option Bytes
also path file (Some bytes) = Some bytes
also path file None = if bytes_eq file.path path then Some file.bytes else None
