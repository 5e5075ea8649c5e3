use Rattle.std.proofs.Common.{◌∙◌, false, ap}
use Rattle.std.specs.List.{list_any}
use Rattle.up_conf.specs.declared.job.JobDef.{JobDef}
use Rattle.up_image.specs.declared.index.Place.{Place}
use Rattle.up_marks.specs.Naming.{side_of}
use Rattle.up_marks.specs.Ruling.{admits_by, leaf_in}
use Rattle.up_marks.proofs.MayMatch.{any-stop}
use Rattle.up_marks.proofs.ruling.may_stop.Goals as goal

pub returns : goal.returns
returns c =
    let event = c.args.event.now in
    let places = c.stop_leaves.result.now in
    c.one_admits.ensures
    ∙ ap (λ (job : JobDef). list_any (λ (place : Place). admits_by event (leaf_in (side_of false job) place.node)) places) c.job.ensures
    ∙ any-stop event c.args.file.now.stop_on places c.stop_leaves.ensures
