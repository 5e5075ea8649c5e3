use Rattle.std.proofs.Common.{◌≡◌, List, ◌++◌}
use Rattle.std.proofs.lemmas.Result.{on_ok_weaker}
use Rattle.up_lint.specs.declared.question.Question.TheVariants as question
use Rattle.up_lint.specs.Events.{scene_of}
use Rattle.up_lint.specs.Lint.{event_warnings, export_warnings, life_warnings, respawn_warnings, sheet_warnings, start_warnings}
use Rattle.up_lint.proofs.Steps.{more}
use Rattle.up_lint.proofs.job.push_sheet.Goals as goal

-- what seven calls append, one after another
seven : {Y : Type 0} (w0 w1 w2 w3 w4 w5 w6 w7 a b c d e f g : List Y) → w1 ≡ w0 ++ a → w2 ≡ w1 ++ b → w3 ≡ w2 ++ c → w4 ≡ w3 ++ d → w5 ≡ w4 ++ e → w6 ≡ w5 ++ f → w7 ≡ w6 ++ g
    → w7 ≡ w0 ++ (a ++ b ++ c ++ d ++ e ++ f ++ g)
seven w0 w1 w2 w3 w4 w5 w6 w7 a b c d e f g is1 is2 is3 is4 is5 is6 is7 =
    more w0 (a ++ b ++ c ++ d ++ e ++ f) g w6 w7 is7 (more w0 (a ++ b ++ c ++ d ++ e) f w5 w6 is6 (more w0 (a ++ b ++ c ++ d) e w4 w5 is5
    (more w0 (a ++ b ++ c) d w3 w4 is4 (more w0 (a ++ b) c w2 w3 is3 (more w0 a b w1 w2 is2 is1)))))

pub returns : goal.returns
unfolding sheet_warnings
returns c =
    let scene = scene_of c.args.world.now in
    let job = c.args.job.now in
    let sheet = c.args.sheet.now in
    on_ok_weaker c.push_life.result
    (seven c.args.warnings.now.items c.push_events.new.warnings.items c.push_events-2.new.warnings.items c.push_start.new.warnings.items c.push_exports.new.warnings.items
    c.push_respawn.new.warnings.items c.push_events-3.new.warnings.items c.push_life.new.warnings.items
    (event_warnings scene question.UnknownEvent job sheet) (event_warnings scene question.UnknownJob job sheet) (start_warnings scene.commanded job sheet)
    (export_warnings scene.keys job sheet) (respawn_warnings job sheet) (event_warnings scene question.BlocksItself job sheet) (life_warnings scene job sheet)
    c.in_ok-push_events.ensures c.in_ok-push_events-2.ensures c.in_ok-push_start.ensures c.in_ok-push_exports.ensures c.in_ok-push_respawn.ensures c.in_ok-push_events-3.ensures)
    c.push_life.ensures
