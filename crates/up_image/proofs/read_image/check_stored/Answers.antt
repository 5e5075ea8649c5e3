use Rattle.up_image.proofs.Readings.{new_image}
use Rattle.up_image.proofs.read_image.check_stored.Goals as goal

pub returns-clause-stored : goal.returns-clause-stored
returns-clause-stored c = record {
  image = c.in_ok-check_image.ensures.image;
  given = c.in_ok-check_given.ensures.given;
  imaged = new_image c.args.version c.args.bytes.now c.args.jobs.now c.in_ok-check_image.ensures.image c.in_ok-check_new.ensures.imaged;
}
