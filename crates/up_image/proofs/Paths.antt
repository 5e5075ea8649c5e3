-- The paths of files, one after another.
use Rattle.std.proofs.Common.{◌≡◌, ℕ, ◌+◌, ◌<◌, Bool, List, [], ◌∷◌, ◌++◌, length, get_or, take, map, filter, cond, sym, ◌∙◌, ap}
use Rattle.std.proofs.lemmas.List.{take_more, map-append}
use Rattle.std.proofs.lemmas.List.Elements.{filter-append}
use Rattle.up_conf.specs.declared.folder.File.{File}

-- the paths so far that pass a test, and the next one if it does
pub passing_more : (test : List ℕ → Bool) (files : List File) (i : ℕ) (file : File) → i < length files → file ≡ get_or files i file
    → filter test (map (λ f. f.path) (take (i + 1) files)) ≡ filter test (map (λ f. f.path) (take i files)) ++ cond (test file.path) (file.path ∷ []) []
passing_more test files i file inside is =
    let next : take (i + 1) files ≡ take i files ++ file ∷ [] = take_more files i file inside ∙ ap (λ f. take i files ++ f ∷ []) (sym is) in
    ap (λ fs. filter test (map (λ f. f.path) fs)) next
    ∙ ap (filter test) (map-append (λ f. f.path) (take i files) (file ∷ []))
    ∙ filter-append test (map (λ f. f.path) (take i files)) (file.path ∷ [])
