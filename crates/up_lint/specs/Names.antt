-- Sets of names.
use Rattle.std.specs.Prelude.{List, map}
use Rattle.std.specs.Str.{bytes_eq}
use Rattle.up_value.specs.Values.{Bytes}
use denote.Ref.{Bor}
use Rattle.up_conf.specs.Jobs.{with_new_items}

-- the bytes of names that are lent
abbrev pub texts : List (Bor Bytes) → List Bytes
texts names = map (λ name. name.now) names

-- names, and others that aren't there yet
abbrev pub with_names : List Bytes → List Bytes → List Bytes
with_names names others = with_new_items bytes_eq names others
