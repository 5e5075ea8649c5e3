-- What a map holds of the files that were added to it.
use Rattle.std.proofs.Common.{◌≡◌, ℕ, ◌<◌, ◌+◌, Bool, true, false, List, [], ◌∷◌, ◌++◌, length, get_or, take, find, Option, Some, None, is_some, option_map, cond, refl, ◌∙◌, ap}
use Rattle.std.specs.Str.{bytes_eq}
use Rattle.std.proofs.lemmas.List.{take_more}
use denote.Ref.{Bor}
use Rattle.up_conf.specs.declared.folder.File.{File}
use Rattle.up_conf.specs.Folders.{bytes_at}
use Rattle.up_conf.specs.Lookups.{also}

-- a path that isn't in the map gets its file's bytes
pub also_new : (path : List ℕ) (file : File) (old new : Option (Bor (List ℕ))) (bytes : Bor (List ℕ)) → (bytes_eq file.path path ≡ true → is_some old ≡ false) → bytes.now ≡ file.bytes → new ≡ cond (bytes_eq file.path path) (Some bytes) old
    → option_map (λ b. b.now) new ≡ also path file (option_map (λ b. b.now) old)
also_new path file old new bytes absent same is = ap (option_map (λ b. b.now)) is ∙ by_case (bytes_eq file.path path) old refl absent
  where
    by_case : (b : Bool) (old : Option (Bor (List ℕ))) → bytes_eq file.path path ≡ b → (b ≡ true → is_some old ≡ false) → option_map (λ b. b.now) (cond b (Some bytes) old) ≡ also path file (option_map (λ b. b.now) old)
    by_case true None e absent = rw (e, same) refl
    by_case true (Some other) e absent = absurd (cc (absent refl))
    by_case false None e absent = rw e refl
    by_case false (Some other) e absent = refl

bytes_at-push : (path : List ℕ) (files : List File) (file : File) → bytes_at path (files ++ file ∷ []) ≡ also path file (bytes_at path files)
bytes_at-push path [] file = last (bytes_eq file.path path)
  where
    last : (b : Bool) → option_map (λ f. f.bytes) (cond b (Some file) None) ≡ cond b (Some file.bytes) None
    last true = refl
    last false = refl
bytes_at-push path (other ∷ files) file = by_case (bytes_eq other.path path) (bytes_at-push path files file)
  where
    by_case : (b : Bool) → bytes_at path (files ++ file ∷ []) ≡ also path file (bytes_at path files)
        → option_map (λ f. f.bytes) (cond b (Some other) (find (λ f. bytes_eq f.path path) (files ++ file ∷ []))) ≡ also path file (option_map (λ f. f.bytes) (cond b (Some other) (find (λ f. bytes_eq f.path path) files)))
    by_case true rest = refl
    by_case false rest = rest

-- one file more
pub bytes_at_more : (path : List ℕ) (files : List File) (i : ℕ) (d : File) → i < length files → bytes_at path (take (i + 1) files) ≡ also path (get_or files i d) (bytes_at path (take i files))
bytes_at_more path files i d inside = ap (bytes_at path) (take_more files i d inside) ∙ bytes_at-push path (take i files) (get_or files i d)
