use Rattle.std.proofs.Common.{◌≡◌, ◌++◌, take}
use Rattle.std.specs.List.{flat_map}
use Rattle.up_image.specs.Texts.{text_part}
use Rattle.up_image.proofs.put_lists.put_each_text.Given as goal

-- what was there, and after it the items so far
abbrev pub invariant-loop-text : goal.invariant-loop-text
invariant-loop-text l = l.out.items ≡ l.fn.out.items ++ flat_map text_part (take l.text-index l.texts)
