use Rattle.std.proofs.Common.{Err, subst}
use Rattle.up_image.specs.Reading.{ReadsImage}
use Rattle.up_image.specs.declared.image_error.ImageError.TheVariants.{BadTable}
use Rattle.up_image.proofs.read_image.read_image.Goals as goal

pub new-requires : goal.new-requires
new-requires c = record {
  few = c.in-Ok-read_body.ensures.stored.image.few;
  given = c.in-Ok-read_body.ensures.stored.given;
  imaged = c.in-Ok-read_body.ensures.stored.imaged;
}

pub returns-in-Err-BadTable : goal.returns-in-Err-BadTable
returns-in-Err-BadTable c = subst (λ error. ReadsImage c.args.bytes.now error (Err BadTable)) c.in-Ok.ensures.error (c.in-Err-BadTable.ensures.refused c.in-Err-BadTable.field-0-is)
