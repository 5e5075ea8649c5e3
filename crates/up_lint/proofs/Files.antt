-- The file of a path, one file further.
use Rattle.std.proofs.Common.{◌≡◌, ℕ, ◌+◌, ◌<◌, false, cond, List, length, drop, get_or, ap, ◌∙◌}
use Rattle.std.specs.Str.{bytes_eq}
use Rattle.up_conf.specs.declared.folder.File.{File}
use Rattle.up_lint.specs.Sheets.{bytes_at}
use Rattle.up_lint.proofs.Steps.{splits}

-- a file of another path is passed over
pub other_file : (files : List File) (i : ℕ) (file : File) (path whole : List ℕ) → i < length files → file ≡ get_or files i file
    → bytes_eq file.path path ≡ false → whole ≡ bytes_at (drop i files) path → whole ≡ bytes_at (drop (i + 1) files) path
other_file files i file path whole below is other goes =
    goes ∙ ap (λ it. bytes_at it path) (splits files i file below is) ∙ ap (λ same. cond same file.bytes (bytes_at (drop (i + 1) files) path)) other
