use Rattle.std.proofs.Common.{sym, subst, ◌∙◌}
use Rattle.std.specs.Option.{ForSome}
use Rattle.up_pattern.specs.Matching.{Kept}
use Rattle.up_pattern.proofs.pattern.admits_kept.Goals as goal
use Rattle.up_pattern.proofs.pattern.admits_kept.Goals.{in-Some+else-kept-index, in_default}

pub keep-requires-clause-kept : goal.keep-requires-clause-kept
keep-requires-clause-kept c =
    elim c.match-memo.branch [
      | in-Some+else-kept-index w ↦ subst (λ memo. ForSome memo (Kept c.args.segment.now.unclosed c.args.segment.now.text.now)) (w.in-Some.is ∙ sym w.memo-is) c.requires.kept
      | in_default w ↦ subst (λ memo. ForSome memo (Kept c.args.segment.now.unclosed c.args.segment.now.text.now)) (sym w.memo-is) c.requires.kept
    ]
