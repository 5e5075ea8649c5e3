use Rattle.std.proofs.Common.{◌≡◌, ◌∙◌, List, ℕ, sym, ap, subst, cond, Some, false, is_some}
use Rattle.std.specs.BTreeMap.{get_by}
use Rattle.std.specs.Cmp.Lexicographic.{slice_cmp}
use Rattle.std.specs.Ordering.{nat_cmp}
use Rattle.std.specs.Str.{bytes_eq}
use Rattle.std.proofs.lemmas.Map.Text.{btree_map_updates_str}
use Rattle.std.proofs.lemmas.Slice.Eq.{bytes_eq-Decides}
use Rattle.up_conf.proofs.Lookups.{also_new}
use Rattle.up_conf.proofs.folder_index.add.Goals as goal

pub returns-in-Ok : goal.returns-in-Ok
returns-in-Ok c = λ path.
    let old = get_by (λ key. slice_cmp nat_cmp path key.now) c.args.map.now in
    let is_key = c.as_str-path.ensures in
    also_new path c.args.file.now old _ c.as_slice.result
    (λ same. subst (λ (p : List ℕ). is_some (get_by (λ key. slice_cmp nat_cmp p key.now) c.args.map.now) ≡ false) (is_key ∙ (bytes_eq-Decides c.args.file.now.path path).0 same) (sym c.if-contains_key.ensures))
    c.as_slice.ensures
    (btree_map_updates_str c.as_str-path.result.now c.args.map.now c.insert.new.self _ c.in-Ok.ensures.updates path
    ∙ ap (λ p. cond (bytes_eq p path) (Some c.as_slice.result) old) is_key)
