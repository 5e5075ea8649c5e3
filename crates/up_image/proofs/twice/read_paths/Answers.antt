use Rattle.std.proofs.Common.{◌≡◌, ◌++◌, ◌∙◌, ◌∷◌, [], sym, ap, true, false, List, ℕ, map, rules}
use Rattle.std.proofs.lemmas.List.{map-append, append-nil}
use Rattle.up_conf.specs.Folders.{is_read}
use Rattle.up_image.proofs.Paths.{passing_more}
use Rattle.up_image.proofs.twice.read_paths.Goals as goal
use Rattle.up_image.proofs.twice.read_paths.Goals.{then-branch+in_ok-push, else-branch}

pub loop-file-preserved : goal.loop-file-preserved
loop-file-preserved c =
    let path : List ℕ = c.file-item.result.path in
    let files = c.files-files.result.now in
    let more = passing_more (is_read files) files c.loop-file.file-index c.file-item.result c.loop-file-test.true c.file-item.is in
    let named : c.as_str-path.result.now ≡ path = search rules in
    let same : c.as_bytes-bytes.result.now ≡ path = search rules in
    let tested : is_read files path ≡ c.in_ok-is_read.field-0 = ap (is_read files) (sym named) ∙ sym (rw (← c.files-files.ensures) at c.in_ok-is_read.ensures) in
    elim c.if-branch.branch [
      | then-branch+in_ok-push w ↦
          let yes : is_read files path ≡ true = tested ∙ w.if-branch.true in
          ap (λ v. map (λ p. p.now) v.items) w.paths-is ∙ ap (map (λ p. p.now)) w.in_ok-push.ensures.items
          ∙ map-append (λ p. p.now) c.loop-file.paths.items (c.as_bytes-bytes.result ∷ [])
          ∙ ap (λ p. map (λ p. p.now) c.loop-file.paths.items ++ p ∷ []) same ∙ ap (λ ps. ps ++ path ∷ []) c.loop-file.invariant ∙ sym (rw yes at more)
      | else-branch w ↦
          let no : is_read files path ≡ false = tested ∙ w.if-branch.false in
          ap (λ v. map (λ p. p.now) v.items) w.paths-is ∙ c.loop-file.invariant ∙ sym (rw (no, append-nil) at more)
    ]
